-- Values: what objects hold by the updates of transactions, one transaction after another.
use Rattle.std.specs.Prelude.{◌≡◌, ℕ, ◌+◌, Bool, true, false, cond, List, [], ◌∷◌, ◌++◌, ℤ, ◌==◌}
use Rattle.std.specs.List.{flat_map}
use Rattle.record.specs.declared.row.Update.{Update}
use Rattle.merging.specs.Values.{value_after}
use Rattle.record.specs.Updates.{last_put}
use Rattle.isolation.specs.Books.{Transaction, Seen, snapshot, changes}

-- the updates of transactions, one transaction after another
abbrev pub all_changes : List Seen → List Transaction → List Update
all_changes es xs = flat_map (changes es) xs

-- what a transaction sees: the updates of its snapshot, then its own so far
abbrev pub visible : List Seen → Transaction → List Update
visible es x = all_changes es (snapshot es x) ++ changes es x

-- how many transactions of a book have this home
abbrev pub count_of : ℕ → List Transaction → ℕ
count_of h [] = 0
count_of h (x ∷ xs) = cond (x.home == h) 1 0 + count_of h xs

-- two lists of updates leave every object with the same value:
-- a regular object with the same last put, an element of a merging object with the same value from the first one
pub record SameValues {V : Type 0} (first : V) (step : V → ℤ → V) (regular : ℕ → Bool) (us ws : List Update) : Type 0 where
  pub regulars : (o : ℕ) → regular o ≡ true → last_put o us ≡ last_put o ws
  pub elements : (o e : ℕ) → regular o ≡ false → value_after step o e first us ≡ value_after step o e first ws
