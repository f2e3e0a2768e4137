-- Rows in an order that has grown, where of two writers one covers the other: the last writer depends on the clock alone.
use Rattle.std.proofs.Common.{◌≡◌, ℕ, ◌<◌, ◌≤◌, ◌≢◌, ◌⊎◌, List, [], ◌∷◌, Some, None, fold, Option, refl, arith}
use Rattle.std.proofs.lemmas.Bool.Decides.{nat_tests}
use Rattle.std.proofs.lemmas.Bool.{cases_eq}
use Rattle.record.specs.declared.row.Row.{Row}
use Rattle.record.specs.Clocks.{entry_of}
use Rattle.merging.proofs.Folds.{folded_append}
use Rattle.isolation.proofs.Grown.{Grown, none, more, raise, closed, acyclic}

-- a value, or if a later one is put, that
abbrev pub over : {W : Type 0} → Option W → Option W → Option W
over v (Some w) = Some w
over v None = v

module _ (n : ℕ) (own : ℕ → ℕ → Row) {W : Type 0} (puts : Row → Option W) where
  abbrev pub Ordered : (ℕ → ℕ) → Type 0
  Ordered c = (i k j l : ℕ) → k < c i → l < c j → puts (own i k) ≢ None → puts (own j l) ≢ None
      → (i ≡ j → k ≡ l → ⊥) → (k < entry_of (own j l).start i) ⊎ (l < entry_of (own i k).start j)

  -- v is what the last writer below c has put: it covers every other
  data Last (c : ℕ → ℕ) (v : Option W) : Type 0 where
    never : ((j k : ℕ) → k < c j → puts (own j k) ≡ None) → v ≡ None → Last c v
    by : (j k : ℕ) → k < c j → puts (own j k) ≢ None → v ≡ puts (own j k)
        → ((i l : ℕ) → l < c i → puts (own i l) ≢ None → (i ≡ j → l ≡ k → ⊥) → l < entry_of (own j k).start i) → Last c v

  last_step : (c d : ℕ → ℕ) (v : Option W) (a : ℕ) → Last c v → ((j k : ℕ) → k < c j → (i : ℕ) → entry_of (own j k).start i ≤ c i)
      → ((i : ℕ) → d i ≡ raise c a i) → Ordered d → (u : Option W) → puts (own a (c a)) ≡ u → Last d (over v u)
  last_step c d v a L cl e o (Some w) q = by a (c a) (grind (arith, nat_tests, e a)) (grind arith) (grind arith)
      (λ i l h p x. grind (arith, nat_tests, e i, e a, cl i l, o i l a (c a)))
  last_step c d v a (never z x) cl e o None q = never (λ j k h. grind (arith, nat_tests, e j, z j k)) x
  last_step c d v a (by j k h p x m) cl e o None q = by j k (grind (arith, nat_tests, e j)) p x (λ i l h' p' x'. grind (arith, nat_tests, e i, m i l))

  lasts : {c : ℕ → ℕ} {xs : List Row} → Grown n own c xs → Ordered c → Last c (fold (λ v x. over v (puts x)) None xs)
  lasts (none z) o = never (λ j k h. absurd (omega (arith, z j))) refl
  lasts {c = d} (more {c} {xs = xs} a g b s e x) o =
      rw (x, folded_append (λ v y. over v (puts y)) None xs (own a (c a) ∷ []))
      (last_step c d _ a (lasts g (λ i k j l p q. o i k j l (grind (arith, nat_tests, e i)) (grind (arith, nat_tests, e j)))) (closed n own g) e o (puts (own a (c a))) refl)

  same_last : {c : ℕ → ℕ} {xs : List Row} → Grown n own c xs → (v w : Option W) → Last c v → Last c w → v ≡ w
  same_last g v w (never a e) (never b f) = cc
  same_last g v w (never a e) (by j k h p f m) = absurd (p (a j k h))
  same_last g v w (by j k h p f m) (never a e) = absurd (p (a j k h))
  same_last g v w (by j k h p e m) (by i l h' p' e' m') = grind (arith, cases_eq j i, cases_eq k l, m i l, m' j k, acyclic n own g j k i l)

  pub latest : {c : ℕ → ℕ} {xs ys : List Row} → Grown n own c xs → Grown n own c ys → Ordered c
      → fold (λ v x. over v (puts x)) None xs ≡ fold (λ v x. over v (puts x)) None ys
  latest g h o = same_last g _ _ (lasts g o) (lasts h o)
