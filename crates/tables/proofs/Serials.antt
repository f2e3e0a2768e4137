-- Which place has a serial, and what putting another into it does to that.
use Rattle.std.proofs.Common.{◌≡◌, ℕ, zero, suc, ◌+◌, ◌<◌, Bool, true, false, not, List, [], ◌∷◌, length, set, replicate, sym, refl, ap, ◌∙◌, inl, inr, add-one, arith}
use Rattle.std.proofs.lemmas.Bool.{eqb-true, cases_Bool, and_parts, and_from, not-true, both_ways}
use Rattle.std.specs.List.{list_all}
use Rattle.tables.specs.Places.{is_free, has_serial, first_at, place_of, with_place}
use Rattle.tables.specs.declared.place.Place.{Place}
use Rattle.tables.specs.declared.place.Place.TheVariants.{Free, Open, Waiting, Committed, Aborted}

-- no place has the serial
abbrev pub lacks : ℕ → List Place → Bool
lacks t ps = list_all (λ p. not (has_serial t p)) ps

-- no two places have one serial
abbrev pub Distinct : List Place → Type 0
Distinct [] = Unit {0}
Distinct (p ∷ ps) = ((t : ℕ) → has_serial t p ≡ true → lacks t ps ≡ true) × Distinct ps

-- a place has at most one serial
pub one_serial : (p : Place) (t u : ℕ) → has_serial t p ≡ true → has_serial u p ≡ true → t ≡ u
one_serial Free t u a b = cc
one_serial (Open r) t u a b = sym (eqb-true r.serial t a) ∙ eqb-true r.serial u b
one_serial (Waiting r polled agreed) t u a b = sym (eqb-true r.serial t a) ∙ eqb-true r.serial u b
one_serial (Committed s k) t u a b = sym (eqb-true s t a) ∙ eqb-true s u b
one_serial (Aborted s) t u a b = sym (eqb-true s t a) ∙ eqb-true s u b

other_serial : (p : Place) (t u : ℕ) → (u ≡ t → ⊥) → has_serial t p ≡ true → has_serial u p ≡ false
other_serial p t u apart a =
    elim (cases_Bool (has_serial u p)) [ inl b ↦ absurd (apart (one_serial p u t b a)) | inr f ↦ f ]

-- ## The first place, by cases

place_here : (p : Place) (ps : List Place) (t : ℕ) → has_serial t p ≡ true → place_of (p ∷ ps) t ≡ p
place_here p ps t e = simp e

place_later : (p : Place) (ps : List Place) (t : ℕ) → has_serial t p ≡ false → place_of (p ∷ ps) t ≡ place_of ps t
place_later p ps t e = simp (e, add-one)

put_here : (p q : Place) (ps : List Place) (t : ℕ) → has_serial t p ≡ true → with_place (p ∷ ps) t q ≡ q ∷ ps
put_here p q ps t e = simp e

put_later : (p q : Place) (ps : List Place) (t : ℕ) → has_serial t p ≡ false → with_place (p ∷ ps) t q ≡ p ∷ with_place ps t q
put_later p q ps t e = simp (e, add-one)

-- places after the same one
same_rest : (p : Place) (t : ℕ) (ps qs : List Place) → place_of ps t ≡ place_of qs t → place_of (p ∷ ps) t ≡ place_of (p ∷ qs) t
same_rest p t ps qs e =
    elim (cases_Bool (has_serial t p)) [
      | inl here ↦ place_here p ps t here ∙ sym (place_here p qs t here)
      | inr later ↦ place_later p ps t later ∙ (e ∙ sym (place_later p qs t later))
    ]

pub lacks_free : (ps : List Place) (t : ℕ) → lacks t ps ≡ true → place_of ps t ≡ Free
lacks_free [] t e = refl
lacks_free (p ∷ ps) t e =
    let both = and_parts (not (has_serial t p)) (lacks t ps) e in
    place_later p ps t (not-true (has_serial t p) both.0) ∙ lacks_free ps t both.1

-- what stands in a serial's place has that serial, unless it is free
pub place_has : (ps : List Place) (t : ℕ) → is_free (place_of ps t) ≡ false → has_serial t (place_of ps t) ≡ true
place_has [] t e = cc
place_has (p ∷ ps) t e =
    elim (cases_Bool (has_serial t p)) [
      | inl here ↦ rw (place_here p ps t here) here
      | inr later ↦ rw (place_later p ps t later) (place_has ps t (ap (λ x. is_free x) (sym (place_later p ps t later)) ∙ e))
    ]

-- free places have no serial
pub free_place : (n t : ℕ) → place_of (replicate n Free) t ≡ Free
free_place zero t = refl
free_place (suc n) t = place_later Free (replicate n Free) t refl ∙ free_place n t

pub free_lacks : (n t : ℕ) → lacks t (replicate n Free) ≡ true
free_lacks zero t = refl
free_lacks (suc n) t = free_lacks n t

pub free_distinct : (n : ℕ) → Distinct (replicate n Free)
free_distinct zero = tt
free_distinct (suc n) = ((λ t e. free_lacks n t), free_distinct n)

-- ## Another in the place of a serial

module _ (t : ℕ) (q : Place) where
  -- the serial has the place that was put there, if it had one
  pub put_same : (ps : List Place) → has_serial t q ≡ true → has_serial t (place_of ps t) ≡ true → place_of (with_place ps t q) t ≡ q
  put_same [] is had = cc
  put_same (p ∷ ps) is had =
      elim (cases_Bool (has_serial t p)) [
        | inl here ↦ rw (put_here p q ps t here) (place_here q ps t is)
        | inr later ↦
            let had' : has_serial t (place_of ps t) ≡ true = ap (λ x. has_serial t x) (sym (place_later p ps t later)) ∙ had in
            rw (put_later p q ps t later) (place_later p (with_place ps t q) t later ∙ put_same ps is had')
      ]

  -- any other serial has the place that it had
  pub put_other : (ps : List Place) (u : ℕ) → (u ≡ t → ⊥) → has_serial u q ≡ false → place_of (with_place ps t q) u ≡ place_of ps u
  put_other [] u apart bare = refl
  put_other (p ∷ ps) u apart bare =
      let other = other_serial p t u apart in
      elim (cases_Bool (has_serial t p)) [
        | inl here ↦ rw (put_here p q ps t here) (place_later q ps u bare ∙ sym (place_later p ps u (other here)))
        | inr later ↦ rw (put_later p q ps t later) (same_rest p u (with_place ps t q) ps (put_other ps u apart bare))
      ]

  pub put_lacks : (ps : List Place) (u : ℕ) → has_serial u q ≡ false → lacks u ps ≡ true → lacks u (with_place ps t q) ≡ true
  put_lacks [] u bare e = refl
  put_lacks (p ∷ ps) u bare e =
      let both = and_parts (not (has_serial u p)) (lacks u ps) e in
      elim (cases_Bool (has_serial t p)) [
        | inl here ↦ rw (put_here p q ps t here) (simp bare both.1)
        | inr later ↦ rw (put_later p q ps t later) (and_from _ _ both.0 (put_lacks ps u bare both.1))
      ]

  -- serials that are pairwise different stay so
  pub put_distinct : (ps : List Place) → ((u : ℕ) → has_serial u q ≡ true → u ≡ t) → Distinct ps → Distinct (with_place ps t q)
  put_distinct [] only d = tt
  put_distinct (p ∷ ps) only d =
      elim (cases_Bool (has_serial t p)) [
        | inl here ↦ rw (put_here p q ps t here) ((λ u has. ap (λ v. lacks v ps) (only u has) ∙ d.0 t here), d.1)
        | inr later ↦
            rw (put_later p q ps t later) (
              (λ u has.
                  elim (cases_Bool (has_serial u q)) [
                    | inl in' ↦ let same : u ≡ t = only u in' in let z : has_serial t p ≡ true = ap (λ v. has_serial v p) (sym same) ∙ has in cc
                    | inr bare ↦ put_lacks ps u bare (d.0 u has)
                  ]),
              put_distinct ps only d.1,
            )
      ]

-- a serial whose place was freed has none, if no other place had it
pub freed_none : (t : ℕ) (ps : List Place) → Distinct ps → place_of (with_place ps t Free) t ≡ Free
freed_none t [] d = refl
freed_none t (p ∷ ps) d =
    elim (cases_Bool (has_serial t p)) [
      | inl here ↦ rw (put_here p Free ps t here) (place_later Free ps t refl ∙ lacks_free ps t (d.0 t here))
      | inr later ↦ rw (put_later p Free ps t later) (place_later p (with_place ps t Free) t later ∙ freed_none t ps d.1)
    ]

-- ## A transaction in the first free place

-- the places, with another in the first that is free
abbrev pub with_first : List Place → Place → List Place
with_first ps q = set ps (first_at is_free ps) q

free_has_none : (p : Place) (t : ℕ) → is_free p ≡ true → has_serial t p ≡ false
free_has_none Free t e = refl
free_has_none (Open r) t e = cc
free_has_none (Waiting r polled agreed) t e = cc
free_has_none (Committed s k) t e = cc
free_has_none (Aborted s) t e = cc

first_here : (p q : Place) (ps : List Place) → is_free p ≡ true → with_first (p ∷ ps) q ≡ q ∷ ps
first_here p q ps e = simp e

first_later : (p q : Place) (ps : List Place) → is_free p ≡ false → with_first (p ∷ ps) q ≡ p ∷ with_first ps q
first_later p q ps e = simp (e, add-one)

first_below : (p : Place) (ps : List Place) → is_free p ≡ false → first_at is_free (p ∷ ps) < length (p ∷ ps) → first_at is_free ps < length ps
first_below p ps e h = let h' : first_at is_free ps + 1 < suc (length ps) = simp e at h in omega arith

module _ (q : Place) where
  -- the serial that was not there has the place, if one was free
  pub first_same : (ps : List Place) (t : ℕ) → has_serial t q ≡ true → lacks t ps ≡ true → first_at is_free ps < length ps → place_of (with_first ps q) t ≡ q
  first_same [] t is e h = let z : ⊥ = omega arith in absurd z
  first_same (p ∷ ps) t is e h =
      let both = and_parts (not (has_serial t p)) (lacks t ps) e in
      elim (cases_Bool (is_free p)) [
        | inl free ↦ rw (first_here p q ps free) (place_here q ps t is)
        | inr full ↦
            rw (first_later p q ps full)
            (place_later p (with_first ps q) t (not-true (has_serial t p) both.0)
            ∙ first_same ps t is both.1 (first_below p ps full h))
      ]

  -- any other serial has the place that it had
  pub first_other : (ps : List Place) (u : ℕ) → has_serial u q ≡ false → place_of (with_first ps q) u ≡ place_of ps u
  first_other [] u bare = refl
  first_other (p ∷ ps) u bare =
      elim (cases_Bool (is_free p)) [
        | inl free ↦
            rw (first_here p q ps free) (place_later q ps u bare ∙ sym (place_later p ps u (free_has_none p u free)))
        | inr full ↦
            rw (first_later p q ps full)
            (elim (cases_Bool (has_serial u p)) [
              | inl has ↦ place_here p (with_first ps q) u has ∙ sym (place_here p ps u has)
              | inr not' ↦ place_later p (with_first ps q) u not' ∙ (first_other ps u bare ∙ sym (place_later p ps u not'))
            ])
      ]

  pub first_lacks : (ps : List Place) (u : ℕ) → has_serial u q ≡ false → lacks u ps ≡ true → lacks u (with_first ps q) ≡ true
  first_lacks [] u bare e = refl
  first_lacks (p ∷ ps) u bare e =
      let both = and_parts (not (has_serial u p)) (lacks u ps) e in
      elim (cases_Bool (is_free p)) [
        | inl free ↦ rw (first_here p q ps free) (simp bare both.1)
        | inr full ↦ rw (first_later p q ps full) (and_from _ _ both.0 (first_lacks ps u bare both.1))
      ]

  -- serials that are pairwise different stay so, if the one that is put there is new
  pub first_distinct : (ps : List Place) → ((u : ℕ) → has_serial u q ≡ true → lacks u ps ≡ true) → Distinct ps → Distinct (with_first ps q)
  first_distinct [] new d = tt
  first_distinct (p ∷ ps) new d =
      let rest : (u : ℕ) → has_serial u q ≡ true → lacks u ps ≡ true =
      λ u has. (and_parts (not (has_serial u p)) (lacks u ps) (new u has)).1 in
      elim (cases_Bool (is_free p)) [
        | inl free ↦ rw (first_here p q ps free) (rest, d.1)
        | inr full ↦
            rw (first_later p q ps full) (
              (λ u has.
                  elim (cases_Bool (has_serial u q)) [
                    | inl in' ↦
                        let gone : has_serial u p ≡ false = not-true (has_serial u p) (and_parts (not (has_serial u p)) (lacks u ps) (new u in')).0 in
                        absurd (both_ways (has_serial u p) gone has)
                    | inr bare ↦ first_lacks ps u bare (d.0 u has)
                  ]),
              first_distinct ps rest d.1,
            )
      ]
