-- What ties the events to the state: logs and books have grown with the clocks, and the books know what the boards know.
use Rattle.std.proofs.Common.{◌≡◌, ℕ, suc, ◌<◌, ◌≤◌, Bool, true, false, ltb, ◌≢◌, List, [], ◌∷◌, ◌++◌, map, Some, refl, ap, ◌∙◌, arith}
use Rattle.std.proofs.lemmas.List.{map-append}
use Rattle.record.specs.declared.clock.Clock.{Clock}
use Rattle.record.specs.declared.row.Update.{Update}
use Rattle.record.specs.declared.row.Row.{Row}
use Rattle.record.specs.Clocks.{entry_of}
use Rattle.record.specs.Rows.{updates_of}
use Rattle.isolation.specs.Books.{Transaction, transaction, Seen, has_propagated, has_heard, bearer, book, snapshot, changes}
use Rattle.isolation.specs.Machine.{unknown, committed, Message, State, Alike}
use Rattle.isolation.proofs.Invariant.{live_row, Invariant}
use Rattle.isolation.proofs.Grown.{Grown, more, raise, closed, stays, alike}

-- the transaction of a row
abbrev pub name_of : Row → Transaction
name_of r = transaction r.home r.serial

-- the transactions xs are those of the rows below c, in an order that has grown
pub record Shelf (n : ℕ) (own : ℕ → ℕ → Row) (c : ℕ → ℕ) (xs : List Transaction) : Type 0 where
  pub rows : List Row
  pub grown : Grown n own c rows
  pub same : xs ≡ map name_of rows

-- start clock and updates of a transaction that is live or has committed
pub data Content (s : State) (h t : ℕ) (start : Clock) (us : List Update) : Type 0 where
  live : (r : Row) → live_row (s.phase h t) ≡ Some r → r.start ≡ start → updates_of r ≡ us → Content s h t start us
  row : (i : ℕ) → i < s.got h h → (s.own h i).serial ≡ t → (s.own h i).start ≡ start → updates_of (s.own h i) ≡ us → Content s h t start us

pub record Account (regular : ℕ → Bool) (n : ℕ) (es : List Seen) (s : State) : Type 0 where
  -- a log has grown with what its board has
  pub logs : (b : ℕ) → Grown n s.own (s.got b) (s.log b)
  -- a book has grown with what its board shows
  pub books : (b : ℕ) → Shelf n s.own (s.shown b) (book es b)
  -- a snapshot holds what the start clock covers
  pub snapshots : (h t : ℕ) (start : Clock) (us : List Update) → Content s h t start us → Shelf n s.own (entry_of start) (snapshot es (transaction h t))
  -- the updates by the events have the effect of those that the state has
  pub contents : (h t : ℕ) (start : Clock) (us : List Update) → Content s h t start us → Alike regular (changes es (transaction h t)) us
  -- a serial that is not given out has no updates
  pub unstarted : (h t : ℕ) → s.phase h t ≡ unknown → changes es (transaction h t) ≡ []
  -- a PROPAGATE was written for each own row, and for no other transaction
  pub own_propagated : (h i : ℕ) → i < s.got h h → has_propagated es h (s.own h i).serial ≡ true
  pub propagated_own : (h t : ℕ) → has_propagated es h t ≡ true → (i : ℕ) × (i < s.got h h) × ((s.own h i).serial ≡ t)
  -- and bore its number
  pub bearers : (h i : ℕ) → i < s.got h h → bearer es h (suc i) ≡ transaction h (s.own h i).serial ∷ []
  -- a DURABLE was accepted for each row of another board that is shown, and for no other
  pub heard_shown : (b h i : ℕ) → b ≢ h → has_heard es b h (suc i) ≡ ltb i (s.shown b h)

module _ (n : ℕ) (own : ℕ → ℕ → Row) (c c' : ℕ → ℕ) (xs xs' : List Transaction) (S : Shelf n own c xs) where
  -- a shelf under other names
  pub shelf_alike : ((i : ℕ) → c' i ≡ c i) → xs' ≡ xs → Shelf n own c' xs'
  shelf_alike e q = record { rows = S.rows; grown = alike n own S.grown e refl; same = q ∙ S.same }

  -- one row more
  pub shelf_more : (j : ℕ) → j < n → ((i : ℕ) → entry_of (own j (c j)).start i ≤ c i) → ((i : ℕ) → c' i ≡ raise c j i) → xs' ≡ xs ++ (name_of (own j (c j)) ∷ []) → Shelf n own c' xs'
  shelf_more j l w e q = record {
    rows = S.rows ++ (own j (c j) ∷ []);
    grown = more j S.grown l w e refl;
    same = rw (q, S.same, map-append name_of S.rows (own j (c j) ∷ []));
  }

-- rows elsewhere change nothing
pub shelf_stays : (n : ℕ) (own own' : ℕ → ℕ → Row) (c : ℕ → ℕ) (xs : List Transaction) → Shelf n own c xs → ((j k : ℕ) → k < c j → own' j k ≡ own j k) → Shelf n own' c xs
shelf_stays n own own' c xs S f = record { rows = S.rows; grown = stays n own own' S.grown f; same = S.same }

module _ (Writes : List Update → ℕ → Type 0) (pref : ℕ → ℕ) (regular : ℕ → Bool) (n : ℕ) (es : List Seen) (s : State) (R : Message → Type 0)
    (I : Invariant Writes pref s R) (A : Account regular n es s) where
  -- a home has all that a start clock covers
  pub within : (h t : ℕ) (start : Clock) (us : List Update) → Content s h t start us → (j : ℕ) → entry_of start j ≤ s.got h j
  within h t start us (live r e a u) j = let q : entry_of r.start j ≡ entry_of start j = ap (λ (c : Clock). entry_of c j) a in omega (arith, I.live_start h t r e j, I.shown_got h j)
  within h t start us (row i l e a u) j = let q : entry_of (s.own h i).start j ≡ entry_of start j = ap (λ (c : Clock). entry_of c j) a in omega (arith, closed n s.own (A.logs h) h i l j)

  -- a transaction that has not committed has written no PROPAGATE
  pub unpropagated : (h t : ℕ) → ((i : ℕ) → s.phase h t ≡ committed i → ⊥) → (x : Bool) → has_propagated es h t ≡ x → x ≡ false
  unpropagated h t f true e = let (i, l, q) = A.propagated_own h t e in absurd (f i (rw q at (I.own_committed h i l)))
  unpropagated h t f false e = refl
