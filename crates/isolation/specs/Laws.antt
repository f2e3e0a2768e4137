-- The laws that speak of the books alone.
use Rattle.std.specs.Prelude.{◌≡◌, ℕ, Bool, true, ◌≢◌, ◌⊎◌, List, ◌∷◌, ◌++◌, None}
use mathlib.Core.List.{Memᴰ}
use Rattle.record.specs.declared.row.Update.{Update}
use Rattle.isolation.specs.Books.{Transaction, Seen, book, snapshot, changes}
use Rattle.record.specs.Updates.{last_put}

-- updates write a regular object if they put it
abbrev pub Writes : (ℕ → Bool) → List Update → ℕ → Type 0
Writes regular us o = (regular o ≡ true) × (last_put o us ≢ None)

-- a transaction has committed if it is in its home's book
abbrev pub Committed : List Seen → Transaction → Type 0
Committed es x = Memᴰ x (book es x.home)

-- no lost update: of two committed transactions that write one regular object, one is in the other's snapshot
abbrev pub NoLostUpdate : (ℕ → Bool) → List Seen → Type 0
NoLostUpdate regular es =
    (x y : Transaction) (o : ℕ) → Committed es x → Committed es y → Writes regular (changes es x) o → Writes regular (changes es y) o → x ≢ y
    → Memᴰ x (snapshot es y) ⊎ Memᴰ y (snapshot es x)

-- causality: where a transaction stands in a book, every transaction of its snapshot stands before it
abbrev pub Causal : List Seen → Type 0
Causal es =
    (b : ℕ) (before after : List Transaction) (x : Transaction) → book es b ≡ before ++ (x ∷ after)
    → (y : Transaction) → Memᴰ y (snapshot es x) → Memᴰ y before
