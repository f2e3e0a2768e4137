-- Who stands on a shelf; the own rows and the snapshots of committed transactions; the clock counts the book.
use Rattle.std.proofs.Common.{◌≡◌, ℕ, ◌<◌, ◌≤◌, Bool, List, sym, refl, ap, ◌∙◌, arith}
use mathlib.Core.List.Memᴰ
use mathlib.Core.List.{Memᴰ}
use Rattle.record.specs.declared.row.Row.{Row}
use Rattle.record.specs.Clocks.{entry_of}
use Rattle.record.specs.Rows.{updates_of}
use Rattle.isolation.specs.Books.{Transaction, transaction, Seen, book, snapshot}
use Rattle.isolation.specs.Values.{count_of}
use Rattle.isolation.specs.Laws.{Writes, Committed}
use Rattle.isolation.specs.Machine.{Message, State}
use Rattle.isolation.proofs.Invariant.{Invariant}
use Rattle.isolation.proofs.Members.{member, from_member, counts}
use Rattle.isolation.proofs.Account.{name_of, Shelf, row, Account}

module _ (regular : ℕ → Bool) (pref : ℕ → ℕ) (n : ℕ) (es : List Seen) (s : State) (R : Message → Type 0)
    (I : Invariant (Writes regular) pref s R) (A : Account regular n es s) where
  -- a shelf holds the transaction of each of its rows
  pub on_shelf : (c : ℕ → ℕ) (xs : List Transaction) → Shelf n s.own c xs → (j i : ℕ) → i < c j → Memᴰ (name_of (s.own j i)) xs
  on_shelf c xs S j i h = rw S.same (Memᴰ.map name_of (member n s.own S.grown j i h))

  -- and no other
  pub from_shelf : (c : ℕ → ℕ) (xs : List Transaction) → Shelf n s.own c xs → ((j : ℕ) → c j ≤ s.got j j) → (x : Transaction) → Memᴰ x xs
      → (i : ℕ) × (i < c x.home) × ((s.own x.home i).serial ≡ x.serial)
  from_shelf c xs S room x m =
      let (q, a, e) = Memᴰ.of_map name_of S.rows (rw S.same at m) in
      let (j, i, l, p) = from_member n s.own S.grown q a in
      let named : (s.own j i).home ≡ j = (I.own_named j i (omega (arith, l, room j))).0 in
      let home : j ≡ x.home = sym named ∙ ap (λ (r : Row). r.home) (sym p) ∙ ap (λ (y : Transaction). y.home) e in
      (i, (rw home at l), (rw home at (ap (λ (r : Row). r.serial) (sym p) ∙ ap (λ (y : Transaction). y.serial) e)))

  pub book_room : (b j : ℕ) → s.shown b j ≤ s.got j j
  book_room b j = omega (arith, I.shown_got b j, I.got_own b j)

  pub own_row : (x : Transaction) → Committed es x → (i : ℕ) × (i < s.got x.home x.home) × ((s.own x.home i).serial ≡ x.serial)
  own_row x m =
      let (i, l, e) = from_shelf (s.shown x.home) (book es x.home) (A.books x.home) (book_room x.home) x m in
      (i, omega (arith, l, I.own_shown x.home), e)

  pub snap_of : (j i t : ℕ) → i < s.got j j → (s.own j i).serial ≡ t → Shelf n s.own (entry_of (s.own j i).start) (snapshot es (transaction j t))
  snap_of j i t h e = A.snapshots j t (s.own j i).start (updates_of (s.own j i)) (row i h e refl refl)

  pub name_is : (x : Transaction) (i : ℕ) → i < s.got x.home x.home → (s.own x.home i).serial ≡ x.serial → name_of (s.own x.home i) ≡ x
  name_is x i h e = λ k. record { home = (I.own_named x.home i h).0 k; serial = e k }

  pub counted : (b j : ℕ) → count_of j (book es b) ≡ s.shown b j
  counted b j = ap (count_of j) (A.books b).same ∙ counts n s.own (A.books b).grown (λ i k h. I.own_named i k (omega (arith, h, book_room b i))) j
