-- Who is polled: each other board that is preferred for a written regular object, as sums of marks.
use Rattle.std.proofs.Common.{◌≡◌, ℕ, zero, suc, ◌<◌, ◌≤◌, Bool, true, false, cond, not, ◌&&◌, eqb, ltb, ◌≢◌, List, [], ◌∷◌, fold, sym, refl, ap, ◌∙◌, subst, inl, inr, ⊎_elim, arith}
use lib.Bits.{and_zero_r}
use Rattle.std.proofs.lemmas.Bool.{cases_eq, cases_lt, cases_Bool, and_parts, and_from, ne_eqb, eq-eqb, ltb-true, not_from_false}
use Rattle.std.proofs.lemmas.List.{get_or_past}
use Rattle.std.proofs.lemmas.Bool.Decides.{nat_tests}
use Rattle.record.specs.declared.row.Row.{Row}
use Rattle.record.specs.declared.row.Update.{Update}
use Rattle.record.specs.Rows.{updates_of}
use Rattle.config.specs.BoardSets.{site_marks, is_in, with_board}
use Rattle.config.specs.Objects.{is_regular, preferred_of, polled_for}
use Rattle.config.specs.Objects.{polled_with}
use Rattle.config.specs.declared.config.Config.{Config}
use Rattle.isolation.specs.Groups.{Group, config_of}
use Rattle.isolation.specs.Isolation.{regular_in}
use Rattle.isolation.specs.Laws.{Writes}
use Rattle.isolation.proofs.Simulation.{preferred_in, Near}
use Rattle.isolation.proofs.Writers.{touches, writes_touches}

abbrev same : Bool → Bool → Bool
same true true = true
same false false = true
same true false = false
same false true = false

same_is : (x y : Bool) → same x y ≡ true → x ≡ y
same_is true true e = refl
same_is false false e = refl
same_is true false e = sym e
same_is false true e = e

-- a test of all numbers below k
abbrev each : ℕ → (ℕ → Bool) → Bool
each zero f = true
each (suc k) f = f k && each k f

each_at : (k : ℕ) (f : ℕ → Bool) → each k f ≡ true → (i : ℕ) → i < k → f i ≡ true
each_at zero f e i h = absurd (omega arith)
each_at (suc k) f e i h =
    let (p, q) = and_parts (f k) (each k f) e in
    ⊎_elim (λ (x : i ≡ k). rw x p) (λ (x : i ≡ k → ⊥). each_at k f q i (omega arith)) (cases_eq i k)

-- one mark more, for all sums and all boards
abbrev marks_one : ℕ → ℕ → ℕ → Bool
marks_one m p q = same (is_in (with_board m p) q) (cond (eqb q p) true (is_in m q)) && ltb (with_board m p) 256

all_marks : each 256 (λ m. each 8 (λ p. each 8 (λ q. marks_one m p q))) ≡ true
all_marks = refl

marking : (m p q : ℕ) → m < 256 → p < 8 → q < 8 → (is_in (with_board m p) q ≡ cond (eqb q p) true (is_in m q)) × (with_board m p < 256)
marking m p q a b c =
    let f : marks_one m p q ≡ true = each_at 8 (λ q. marks_one m p q) (each_at 8 (λ p. each 8 (λ q. marks_one m p q)) (each_at 256 (λ m. each 8 (λ p. each 8 (λ q. marks_one m p q))) all_marks m a) p b) q c in
    let (x, y) = and_parts (same (is_in (with_board m p) q) (cond (eqb q p) true (is_in m q))) (ltb (with_board m p) 256) f in
    (same_is (is_in (with_board m p) q) (cond (eqb q p) true (is_in m q)) x, ltb-true (with_board m p) 256 y)

-- no sum holds a board that no group has
in_none : (m q : ℕ) → 8 ≤ q → is_in m q ≡ false
in_none m q h = rw (get_or_past site_marks q 0 h, and_zero_r m)

pub in_with : (m p q : ℕ) → m < 256 → p < 8 → is_in (with_board m p) q ≡ cond (eqb q p) true (is_in m q)
in_with m p q a b = ⊎_elim
    (λ (c : q < 8). (marking m p q a b c).0)
    (λ (c : 8 ≤ q). in_none (with_board m p) q c ∙ sym (rw (ne_eqb q p (omega arith)) (in_none m q c)))
    (cases_lt q 8)

pub with_small : (m p : ℕ) → m < 256 → p < 8 → with_board m p < 256
with_small m p a b = (marking m p p a b b).1

pub in_zero : (q : ℕ) → is_in 0 q ≡ false
in_zero q = refl

-- what a poll holds from a set on
record Polls (c : Config) (us : List Update) (set end : ℕ) : Type 0 where
  holds_on : (q : ℕ) → is_in set q ≡ true → is_in end q ≡ true
  holds_all : (o : ℕ) → touches us o ≡ true → is_regular c o ≡ true → preferred_of c o ≢ c.own → is_in end (preferred_of c o) ≡ true

module _ (c : Config) (o : ℕ) (set : ℕ) (low : set < 256) (near : preferred_of c o < 8) where
  step_low : polled_with c set o < 256
  step_low = elim (cases_Bool (is_regular c o && not (eqb (preferred_of c o) c.own))) [
    | inl t ↦ rw t (with_small set (preferred_of c o) low near)
    | inr f ↦ rw f low
  ]

  step_on : (q : ℕ) → is_in set q ≡ true → is_in (polled_with c set o) q ≡ true
  step_on q e = elim (cases_Bool (is_regular c o && not (eqb (preferred_of c o) c.own))) [
    | inl t ↦ rw t (in_with set (preferred_of c o) q low near ∙ with_true (eqb q (preferred_of c o)) e)
    | inr f ↦ rw f e
  ]
    where
      with_true : (v : Bool) → is_in set q ≡ true → cond v true (is_in set q) ≡ true
      with_true true e = refl
      with_true false e = e

  step_new : is_regular c o ≡ true → preferred_of c o ≢ c.own → is_in (polled_with c set o) (preferred_of c o) ≡ true
  step_new r d =
      let t : (is_regular c o && not (eqb (preferred_of c o) c.own)) ≡ true = and_from _ _ r (not_from_false _ (ne_eqb (preferred_of c o) c.own d)) in
      rw t (in_with set (preferred_of c o) (preferred_of c o) low near ∙ rw (eq-eqb (preferred_of c o) (preferred_of c o) refl))

polls : (c : Config) (us : List Update) (set : ℕ) → set < 256 → ((o : ℕ) → touches us o ≡ true → preferred_of c o < 8)
    → Polls c us set (fold (λ m u. polled_with c m u.object) set us)
polls c [] set low near = record { holds_on = λ q e. e; holds_all = λ o t r d. absurd (grind arith) }
polls c (u ∷ us) set low near =
    let here : preferred_of c u.object < 8 = near u.object (grind (arith, nat_tests)) in
    let rest = polls c us (polled_with c set u.object) (step_low c u.object set low here) (λ o t. near o (grind (arith, nat_tests))) in
    record {
      holds_on = λ q e. rest.holds_on q (step_on c u.object set low here q e);
      holds_all = λ o t r d. ⊎_elim
          (λ (e : u.object ≡ o). rest.holds_on (preferred_of c o) (subst (λ v. is_in (polled_with c set u.object) (preferred_of c v) ≡ true) e
          (step_new c u.object set low here (ap (is_regular c) e ∙ r) (λ z. d (ap (preferred_of c) (sym e) ∙ z)))))
          (λ (e : u.object ≡ o → ⊥). rest.holds_all o (grind (arith, nat_tests)) r d)
          (cases_eq u.object o);
    }

-- each other board that is preferred for a written regular object is polled
pub polled_in : (g : Group) (b : ℕ) (r : Row) → Near g r → (o : ℕ) → Writes (regular_in g) (updates_of r) o → preferred_in g o ≢ b → is_in (polled_for (config_of g b) (updates_of r)) (preferred_in g o) ≡ true
polled_in g b r near o w d = (polls (config_of g b) (updates_of r) 0 (omega arith) near).holds_all o (writes_touches (regular_in g) (updates_of r) o w) w.0 d
