-- Lists of rows that have grown row by row: logs, books, snapshots and the covered part of a log are all of this kind.
use Rattle.std.proofs.Common.{◌≡◌, ℕ, suc, ◌<◌, ◌≤◌, min, Bool, true, false, cond, eqb, List, [], ◌∷◌, ◌++◌, filter, refl, ◌∙◌, arith}
use Rattle.std.proofs.lemmas.Bool.Decides.{nat_tests}
use Rattle.std.proofs.lemmas.List.Elements.{filter-append}
use Rattle.std.proofs.lemmas.List.{append-nil}
use Rattle.record.specs.declared.clock.Clock.{Clock}
use Rattle.record.specs.declared.row.Row.{Row}
use Rattle.record.specs.Clocks.{entry_of}
use Rattle.record.specs.Updates.{is_covered}

-- one more row of board j
abbrev pub raise : (ℕ → ℕ) → ℕ → ℕ → ℕ
raise c j i = cond (eqb i j) (suc (c i)) (c i)

-- xs lists the rows at the places below c, each home's in order, and each row behind all that its start clock covers
pub data Grown (n : ℕ) (own : ℕ → ℕ → Row) : (ℕ → ℕ) → List Row → Type 0 where
  none : {c : ℕ → ℕ} → ((i : ℕ) → c i ≡ 0) → Grown n own c []
  more : {c c' : ℕ → ℕ} {xs xs' : List Row} (j : ℕ) → Grown n own c xs → j < n → ((i : ℕ) → entry_of (own j (c j)).start i ≤ c i)
      → ((i : ℕ) → c' i ≡ raise c j i) → xs' ≡ xs ++ (own j (c j) ∷ []) → Grown n own c' xs'

-- rows bear their names
abbrev pub Named : (ℕ → ℕ → Row) → (ℕ → ℕ) → Type 0
Named own c = (j i : ℕ) → i < c j → ((own j i).home ≡ j) × ((own j i).number ≡ suc i)

module _ (n : ℕ) (own : ℕ → ℕ → Row) where
  -- what is listed starts within what is listed
  pub closed : {c : ℕ → ℕ} {xs : List Row} → Grown n own c xs → (j k : ℕ) → k < c j → (i : ℕ) → entry_of (own j k).start i ≤ c i
  closed (none z) j k h i = grind (arith, z j)
  closed (more {c} a g b s e x) j k h i = grind (arith, nat_tests, closed g j k, s i, e i, e j)

  -- no two rows cover each other
  pub acyclic : {c : ℕ → ℕ} {xs : List Row} → Grown n own c xs → (j k i l : ℕ) → k < c j → l < c i → l < entry_of (own j k).start i → k < entry_of (own i l).start j → ⊥
  acyclic (none z) j k i l h m p q = grind (arith, z j)
  acyclic (more {c} a g b s e x) j k i l h m p q = grind (arith, nat_tests, acyclic g j k i l, closed g j k, closed g i l, s i, s j, e i, e j)

  -- a clock and a list may be written another way
  pub alike : {c d : ℕ → ℕ} {xs ys : List Row} → Grown n own c xs → ((i : ℕ) → d i ≡ c i) → ys ≡ xs → Grown n own d ys
  alike {d = d} {ys = ys} (none z) f e = rw e (none (λ i. f i ∙ z i))
  alike (more a g b s e x) f y = more a g b s (λ i. f i ∙ e i) (y ∙ x)

  -- rows at other places change nothing
  pub stays : (own' : ℕ → ℕ → Row) {c : ℕ → ℕ} {xs : List Row} → Grown n own c xs → ((j k : ℕ) → k < c j → own' j k ≡ own j k) → Grown n own' c xs
  stays own' (none z) f = none z
  stays own' (more {c} {xs = xs} a g b s e x) f =
      let p : own' a (c a) ≡ own a (c a) = f a (c a) (grind (arith, nat_tests, e a)) in
      more a (stays own' g (λ j k h. f j k (grind (arith, nat_tests, e j)))) b (λ i. rw p (s i)) e (rw p x)

  covered_step : (st : Clock) (c d : ℕ → ℕ) (xs ys : List Row) (a : ℕ) → Grown n own (λ j. min (entry_of st j) (c j)) (filter (is_covered st) xs)
      → a < n → ((i : ℕ) → entry_of (own a (c a)).start i ≤ c i) → ((i : ℕ) → d i ≡ raise c a i) → ys ≡ xs ++ (own a (c a) ∷ [])
      → ((j k : ℕ) → k < entry_of st j → (i : ℕ) → entry_of (own j k).start i ≤ entry_of st i)
      → ((own a (c a)).home ≡ a) × ((own a (c a)).number ≡ suc (c a)) → (t : Bool) → is_covered st (own a (c a)) ≡ t
      → Grown n own (λ j. min (entry_of st j) (d j)) (filter (is_covered st) ys)
  covered_step st c d xs ys a g b s e x f named true q =
      let l : c a < entry_of st a = grind (arith, nat_tests) in
      let m : min (entry_of st a) (c a) ≡ c a = omega arith in
      more a g b (λ i. rw m (omega (arith, s i, f a (c a) l i))) (λ i. grind (arith, nat_tests, e i)) (rw (x, m, filter-append (is_covered st) xs (own a (c a) ∷ []), q))
  covered_step st c d xs ys a g b s e x f named false q =
      let l : entry_of st a ≤ c a = grind (arith, nat_tests) in
      alike g (λ i. grind (arith, nat_tests, e i)) (rw (x, filter-append (is_covered st) xs (own a (c a) ∷ []), q, append-nil))

  -- what a closed clock covers of a list
  pub covered_part : (st : Clock) {c : ℕ → ℕ} {xs : List Row} → Grown n own c xs → Named own c
      → ((j k : ℕ) → k < entry_of st j → (i : ℕ) → entry_of (own j k).start i ≤ entry_of st i)
      → Grown n own (λ j. min (entry_of st j) (c j)) (filter (is_covered st) xs)
  covered_part st (none z) named f = none (λ i. omega (arith, z i))
  covered_part st {c = d} {xs = ys} (more {c} {xs = xs} a g b s e x) named f =
      covered_step st c d xs ys a (covered_part st g (λ j k h. named j k (grind (arith, nat_tests, e j))) f) b s e x f (named a (c a) (grind (arith, nat_tests, e a))) (is_covered st (own a (c a))) refl
