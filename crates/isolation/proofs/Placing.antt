-- Places and phases: what another place for a serial does to what the places say.
use Rattle.std.proofs.Common.{◌≡◌, ℕ, ◌+◌, ◌<◌, true, false, not, List, [], ◌∷◌, length, set, None, sym, refl, ap, ◌∙◌, subst, inl, inr, ⊎_elim, add-one, arith}
use Rattle.std.proofs.lemmas.Bool.{cases_eq, cases_Bool, eq-eqb, ne_eqb, eqb-true, and_parts, and_from}
use Rattle.std.proofs.lemmas.Bool.Decides.{nat_tests}
use Rattle.record.specs.declared.row.Row.{Row}
use Rattle.tables.specs.Places.{is_free, has_serial, first_at, place_of, with_place}
use Rattle.tables.specs.declared.place.Place.{Place}
use Rattle.tables.specs.declared.place.Place.TheVariants.{Free, Open, Waiting, Committed, Aborted}
use Rattle.tables.proofs.Serials.{lacks, Distinct, one_serial, put_same, put_other, freed_none}
use Rattle.isolation.specs.Groups.{Group}
use Rattle.isolation.specs.Machine.{Phase, unknown, opened, put}
use Rattle.isolation.proofs.Invariant.{live_row}
use Rattle.isolation.proofs.Simulation.{Placed}

not_both : (p : Place) (t u : ℕ) → (u ≡ t → ⊥) → has_serial t p ≡ true → has_serial u p ≡ false
not_both p t u apart a =
    elim (cases_Bool (has_serial u p)) [ inl c ↦ absurd (apart (one_serial p u t c a)) | inr f ↦ f ]

module _ (g : Group) (b : ℕ) (ps : List Place) (phase : ℕ → ℕ → Phase) (P : (t : ℕ) → Placed g b t (place_of ps t) (phase b t)) (t : ℕ) (v : Phase) where
  same_phase : (u : ℕ) → (u ≡ t → ⊥) → put phase b t v b u ≡ phase b u
  same_phase u d = grind (arith, nat_tests)

  new_phase : put phase b t v b t ≡ v
  new_phase = grind (arith, nat_tests)

  -- another place for a serial that has one
  pub placed_other : (q : Place) → has_serial t q ≡ true → has_serial t (place_of ps t) ≡ true → Placed g b t q v → (u : ℕ) → Placed g b u (place_of (with_place ps t q) u) (put phase b t v b u)
  placed_other q is had Q u = ⊎_elim
      (λ (e : u ≡ t). rw (e, put_same t q ps is had, new_phase) Q)
      (λ (e : u ≡ t → ⊥). rw (put_other t q ps u e (not_both q t u e is), same_phase u e) (P u))
      (cases_eq u t)

  -- the place of a serial is freed
  pub placed_free : Distinct ps → live_row v ≡ None → (u : ℕ) → Placed g b u (place_of (with_place ps t Free) u) (put phase b t v b u)
  placed_free d Q u = ⊎_elim
      (λ (e : u ≡ t). rw (e, freed_none t ps d, new_phase) Q)
      (λ (e : u ≡ t → ⊥). rw (put_other t Free ps u e refl, same_phase u e) (P u))
      (cases_eq u t)

-- ## A place that is free is taken

free_is : (p : Place) → is_free p ≡ true → p ≡ Free
free_is Free e = refl
free_is (Open r) e = cc
free_is (Waiting r polled agreed) e = cc
free_is (Committed s k) e = cc
free_is (Aborted s) e = cc

here_is : (p : Place) (ps : List Place) (t : ℕ) → has_serial t p ≡ true → place_of (p ∷ ps) t ≡ p
here_is p ps t e = simp e

later_is : (p : Place) (ps : List Place) (t : ℕ) → has_serial t p ≡ false → place_of (p ∷ ps) t ≡ place_of ps t
later_is p ps t e = simp (e, add-one)

free_lacks : (ps : List Place) (t : ℕ) → place_of ps t ≡ Free → lacks t ps ≡ true
free_lacks [] t e = refl
free_lacks (p ∷ ps) t e =
    elim (cases_Bool (has_serial t p)) [
      | inl here ↦ let q : p ≡ Free = sym (here_is p ps t here) ∙ e in let z : false ≡ true = ap (has_serial t) (sym q) ∙ here in cc
      | inr later ↦ simp later (free_lacks ps t (sym (later_is p ps t later) ∙ e))
    ]

abbrev into : List Place → Row → List Place
into ps r = set ps (first_at is_free ps) (Open r)

into_here : (p : Place) (ps : List Place) (r : Row) → is_free p ≡ true → into (p ∷ ps) r ≡ Open r ∷ ps
into_here p ps r e = simp e

into_later : (p : Place) (ps : List Place) (r : Row) → is_free p ≡ false → into (p ∷ ps) r ≡ p ∷ into ps r
into_later p ps r e = simp (e, add-one)

module _ (r : Row) where
  room_later : (p : Place) (ps : List Place) → is_free p ≡ false → first_at is_free (p ∷ ps) < length (p ∷ ps) → first_at is_free ps < length ps
  room_later p ps f h = let e : first_at is_free (p ∷ ps) ≡ first_at is_free ps + 1 = simp f in omega arith

  taken_place : (ps : List Place) → lacks r.serial ps ≡ true → first_at is_free ps < length ps → place_of (into ps r) r.serial ≡ Open r
  taken_place [] l h = absurd (omega arith)
  taken_place (p ∷ ps) l h =
      let both = and_parts (not (has_serial r.serial p)) (lacks r.serial ps) l in
      elim (cases_Bool (is_free p)) [
        | inl e ↦ rw (into_here p ps r e) (here_is (Open r) ps r.serial (eq-eqb r.serial r.serial refl))
        | inr f ↦ rw (into_later p ps r f) (later_is p (into ps r) r.serial (grind (arith, nat_tests, both.0)) ∙ taken_place ps both.1 (room_later p ps f h))
      ]

  kept_place : (ps : List Place) (u : ℕ) → (u ≡ r.serial → ⊥) → place_of (into ps r) u ≡ place_of ps u
  kept_place [] u d = refl
  kept_place (p ∷ ps) u d =
      let bare : has_serial u (Open r) ≡ false = ne_eqb r.serial u (λ e. d (sym e)) in
      elim (cases_Bool (is_free p)) [
        | inl e ↦
            let q : has_serial u p ≡ false = ap (has_serial u) (free_is p e) in
            rw (into_here p ps r e) (later_is (Open r) ps u bare ∙ sym (later_is p ps u q))
        | inr f ↦
            rw (into_later p ps r f)
            (elim (cases_Bool (has_serial u p)) [
              | inl has ↦ here_is p (into ps r) u has ∙ sym (here_is p ps u has)
              | inr not' ↦ later_is p (into ps r) u not' ∙ (kept_place ps u d ∙ sym (later_is p ps u not'))
            ])
      ]

  lacks_into : (ps : List Place) (u : ℕ) → (u ≡ r.serial → ⊥) → lacks u ps ≡ true → lacks u (into ps r) ≡ true
  lacks_into [] u d l = refl
  lacks_into (p ∷ ps) u d l =
      let both = and_parts (not (has_serial u p)) (lacks u ps) l in
      let bare : has_serial u (Open r) ≡ false = ne_eqb r.serial u (λ e. d (sym e)) in
      elim (cases_Bool (is_free p)) [
        | inl e ↦ rw (into_here p ps r e) (simp bare both.1)
        | inr f ↦ rw (into_later p ps r f) (and_from _ _ both.0 (lacks_into ps u d both.1))
      ]

  distinct_into : (ps : List Place) → lacks r.serial ps ≡ true → Distinct ps → Distinct (into ps r)
  distinct_into [] l D = tt
  distinct_into (p ∷ ps) l D =
      let both = and_parts (not (has_serial r.serial p)) (lacks r.serial ps) l in
      elim (cases_Bool (is_free p)) [
        | inl e ↦ rw (into_here p ps r e) ((λ u has. ap (λ v. lacks v ps) (sym (eqb-true r.serial u has)) ∙ both.1), D.1)
        | inr f ↦ rw (into_later p ps r f) (
          (λ u has. lacks_into ps u (λ e. let z : has_serial r.serial p ≡ true = ap (λ v. has_serial v p) (sym e) ∙ has in let y : not (has_serial r.serial p) ≡ true = both.0 in grind (arith, nat_tests)) (D.0 u has)),
          distinct_into ps both.1 D.1,
        )
      ]

pub nothing_yet : (g : Group) (b t : ℕ) (p : Place) → Placed g b t p unknown → p ≡ Free
nothing_yet g b t Free P = refl
nothing_yet g b t (Open r) P = cc
nothing_yet g b t (Waiting r polled agreed) P = cc
nothing_yet g b t (Committed s k) P = cc
nothing_yet g b t (Aborted s) P = cc

-- a transaction starts
module _ (g : Group) (b : ℕ) (ps : List Place) (phase : ℕ → ℕ → Phase) (P : (t : ℕ) → Placed g b t (place_of ps t) (phase b t)) (r : Row)
    (room : first_at is_free ps < length ps) (was : phase b r.serial ≡ unknown) where
  lacking : lacks r.serial ps ≡ true
  lacking = free_lacks ps r.serial (nothing_yet g b r.serial (place_of ps r.serial) (subst (Placed g b r.serial (place_of ps r.serial)) was (P r.serial)))

  pub placed_start : Placed g b r.serial (Open r) (opened r) → (u : ℕ) → Placed g b u (place_of (set ps (first_at is_free ps) (Open r)) u) (put phase b r.serial (opened r) b u)
  placed_start Q u = ⊎_elim
      (λ (e : u ≡ r.serial). rw (e, taken_place r ps lacking room, new_phase g b ps phase P r.serial (opened r)) Q)
      (λ (e : u ≡ r.serial → ⊥). rw (kept_place r ps u e, same_phase g b ps phase P r.serial (opened r) u e) (P u))
      (cases_eq u r.serial)

  pub distinct_start : Distinct ps → Distinct (set ps (first_at is_free ps) (Open r))
  distinct_start D = distinct_into r ps lacking D
