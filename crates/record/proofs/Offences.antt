-- The first rule that is broken, one entry or one update at a time.
use Rattle.std.proofs.Common.{◌≡◌, ℕ, ◌+◌, ◌-◌, ◌*◌, ◌<◌, ◌≤◌, Bool, true, false, cond, not, eqb, ltb, leb, List, [], ◌∷◌, ◌++◌, length, get_or, drop, Some, None, Result, sym, Option, Ok, refl, ap, ◌∙◌, arith}
use Rattle.std.specs.List.{position, position_from}
use Rattle.std.specs.Option.{option_map, option_or}
use Rattle.std.proofs.lemmas.Iterator.Adapters.{position_from-zero}
use Rattle.std.proofs.lemmas.Bool.Decides.{nat_tests}
use Rattle.std.proofs.lemmas.List.{at_drop_more, at_drop_all}
use Rattle.std.proofs.lemmas.Bool.{le-leb, lt-leb, lt-ltb, le-ltb}
use Rattle.record.specs.declared.fault.Fault.{Fault}
use Rattle.record.specs.declared.kind.KindRules.{KindRules}
use Rattle.record.specs.declared.message.Record.{Record}
use Rattle.record.specs.declared.row.Update.{Update}
use Rattle.record.specs.Rows.{no_update}
use Rattle.record.specs.Codec.{unless}
use Rattle.record.specs.Verdicts.{and_then}
use Rattle.record.specs.Rules.{Rule, first, clock_rules, head_rules, highest, used, offence, zero_rules, update_rules}

-- what breaks first among two lists of rules
pub first_append : (rs ss : List Rule) → first (rs ++ ss) ≡ option_or (first rs) (first ss)
first_append [] ss = refl
first_append (r ∷ rs) ss =
    elim r.1 as (λ v. cond v (first (rs ++ ss)) (Some r.0) ≡ option_or (cond v (first rs) (Some r.0)) (first ss))
    [ true ↦ first_append rs ss | false ↦ refl ]

-- two checks, one after the other
pub check_append : (rs ss : List Rule) → ◌≡◌ {A = Result (Unit {0}) Fault} (unless (first (rs ++ ss)) tt) (and_then (unless {X = Unit {0}} (first rs) tt) (λ u. unless (first ss) tt))
check_append [] ss = refl
check_append ((place, true) ∷ rs) ss = check_append rs ss
check_append ((place, false) ∷ rs) ss = refl

-- what is answered unless a check denies
pub check_then : {X : Type 0} (o : Option ℕ) (x : X) → unless o x ≡ and_then (unless {X = Unit {0}} o tt) (λ u. Ok x)
check_then None x = refl
check_then (Some place) x = refl

-- an entry is at most top unless it is above top
opposite : (e top : ℕ) → leb e top ≡ not (ltb top e)
opposite e top = grind (arith, nat_tests)

clock_from : (top place i : ℕ) (es : List ℕ) → first (clock_rules top (place + 2 * i) es) ≡ option_map (λ j. place + 2 * j) (position_from (λ e. ltb top e) i es)
clock_from top place i [] = refl
clock_from top place i (e ∷ es) =
    let next : place + 2 * i + 2 ≡ place + 2 * (i + 1) = omega arith in
    let rest : first (clock_rules top (place + 2 * i + 2) es) ≡ option_map (λ j. place + 2 * j) (position_from (λ e. ltb top e) (i + 1) es) =
    ap (λ p. first (clock_rules top p es)) next ∙ clock_from top place (i + 1) es in
    let by : (b : Bool) → cond (not b) (first (clock_rules top (place + 2 * i + 2) es)) (Some (place + 2 * i)) ≡ option_map (λ j. place + 2 * j) (cond b (Some i) (position_from (λ e. ltb top e) (i + 1) es)) =
    λ b. elim b as (λ v. cond (not v) (first (clock_rules top (place + 2 * i + 2) es)) (Some (place + 2 * i)) ≡ option_map (λ j. place + 2 * j) (cond v (Some i) (position_from (λ e. ltb top e) (i + 1) es))) [ true ↦ refl | false ↦ rest ] in
    ap (λ b. cond b (first (clock_rules top (place + 2 * i + 2) es)) (Some (place + 2 * i))) (opposite e top) ∙ by (ltb top e)

-- the first entry above top, by its index
pub clock_first : (top place : ℕ) (es : List ℕ) → first (clock_rules top place es) ≡ option_map (λ j. place + 2 * j) (position (λ e. ltb top e) es)
clock_first top place es =
    let start : place ≡ place + 2 * 0 = omega arith in
    ap (λ p. first (clock_rules top p es)) start ∙ clock_from top place 0 es
    ∙ ap (option_map (λ j. place + 2 * j)) (sym (position_from-zero (λ e. ltb top e) es))

module _ (top place i : ℕ) (es : List ℕ) (h : i < length es) where
  step : first (clock_rules top place (drop i es)) ≡ cond (leb (get_or es i 0) top) (first (clock_rules top (place + 2) (drop (i + 1) es))) (Some place)
  step = at_drop_more (λ xs. first (clock_rules top place xs)) es i 0 h

  pub clock_breaks : top < get_or es i 0 → first (clock_rules top place (drop i es)) ≡ Some place
  clock_breaks l = let f : leb (get_or es i 0) top ≡ false = lt-leb _ _ l in simp f at step

  pub clock_more : get_or es i 0 ≤ top → first (clock_rules top place (drop i es)) ≡ first (clock_rules top (place + 2) (drop (i + 1) es))
  clock_more l = let f : leb (get_or es i 0) top ≡ true = le-leb _ _ l in simp f at step

pub clock_all : (top place i : ℕ) (es : List ℕ) → length es ≤ i → first (clock_rules top place (drop i es)) ≡ None
clock_all top place i es h = at_drop_all (λ xs. first (clock_rules top place xs)) es i h

-- an update that is used breaks nothing, and of one that is not, the parts are looked at
module _ (left place i : ℕ) (us : List Update) (h : i < length us) where
  split : first (update_rules left place (drop i us)) ≡ first (cond (ltb 0 left) [] (zero_rules place (get_or us i no_update)) ++ update_rules (left - 1) (place + 8) (drop (i + 1) us))
  split = at_drop_more (λ xs. first (update_rules left place xs)) us i no_update h

  pub update_used : 0 < left → first (update_rules left place (drop i us)) ≡ first (update_rules (left - 1) (place + 8) (drop (i + 1) us))
  update_used l = let f : ltb 0 left ≡ true = lt-ltb _ _ l in simp f at split

  pub update_unused : left ≤ 0 → first (update_rules left place (drop i us)) ≡ option_or (first (zero_rules place (get_or us i no_update))) (first (update_rules left (place + 8) (drop (i + 1) us)))
  update_unused l =
      let f : ltb 0 left ≡ false = le-ltb _ _ l in
      let z : left - 1 ≡ left = omega arith in
      simp (f, z) at split ∙ first_append (zero_rules place (get_or us i no_update)) (update_rules left (place + 8) (drop (i + 1) us))

pub updates_all : (left place i : ℕ) (us : List Update) → length us ≤ i → first (update_rules left place (drop i us)) ≡ None
updates_all left place i us h = at_drop_all (λ xs. first (update_rules left place xs)) us i h

-- the same by the index alone, as a loop has it
module _ (used place i : ℕ) (us : List Update) (h : i < length us) where
  left : used - i - 1 ≡ used - (i + 1)
  left = omega arith

  next : place + 8 * i + 8 ≡ place + 8 * (i + 1)
  next = omega arith

  one : first (update_rules (used - i) (place + 8 * i) (drop i us)) ≡ first (cond (ltb 0 (used - i)) [] (zero_rules (place + 8 * i) (get_or us i no_update)) ++ update_rules (used - (i + 1)) (place + 8 * (i + 1)) (drop (i + 1) us))
  one =
      at_drop_more (λ xs. first (update_rules (used - i) (place + 8 * i) xs)) us i no_update h
      ∙ ap (λ n. first (cond (ltb 0 (used - i)) [] (zero_rules (place + 8 * i) (get_or us i no_update)) ++ update_rules n (place + 8 * i + 8) (drop (i + 1) us))) left
      ∙ ap (λ p. first (cond (ltb 0 (used - i)) [] (zero_rules (place + 8 * i) (get_or us i no_update)) ++ update_rules (used - (i + 1)) p (drop (i + 1) us))) next

  pub update_used_at : i < used → first (update_rules (used - i) (place + 8 * i) (drop i us)) ≡ first (update_rules (used - (i + 1)) (place + 8 * (i + 1)) (drop (i + 1) us))
  update_used_at l = let f : ltb 0 (used - i) ≡ true = lt-ltb _ _ (omega arith) in simp f at one

  pub update_unused_at : used ≤ i → first (update_rules (used - i) (place + 8 * i) (drop i us)) ≡ option_or (first (zero_rules (place + 8 * i) (get_or us i no_update))) (first (update_rules (used - (i + 1)) (place + 8 * (i + 1)) (drop (i + 1) us)))
  update_unused_at l =
      let f : ltb 0 (used - i) ≡ false = le-ltb _ _ (omega arith) in
      simp f at one ∙ first_append (zero_rules (place + 8 * i) (get_or us i no_update)) (update_rules (used - (i + 1)) (place + 8 * (i + 1)) (drop (i + 1) us))

-- the checks of a record, one after the other
abbrev pub checks : KindRules → Record → ℕ → ℕ → Result (Unit {0}) Fault
checks f m gap tail =
    and_then (unless {X = Unit {0}} (first (head_rules f m gap)) tt)
    (λ u. and_then (unless {X = Unit {0}} (first (clock_rules (highest f) 12 m.start.entries)) tt)
    (λ u. and_then (unless {X = Unit {0}} (first (update_rules (used f m) 28 m.updates)) tt)
    (λ u. unless (cond (eqb tail 0) None (Some 60)) tt)))

pub offence_is : (f : KindRules) (m : Record) (gap tail : ℕ) → unless (offence f m gap tail) tt ≡ checks f m gap tail
offence_is f m gap tail =
    let H : List Rule = head_rules f m gap in
    let C : List Rule = clock_rules (highest f) 12 m.start.entries in
    let U : List Rule = update_rules (used f m) 28 m.updates in
    let L : List Rule = (60, eqb tail 0) ∷ [] in
    check_append H (C ++ (U ++ L)) ∙ ap (λ r. and_then (unless {X = Unit {0}} (first H) tt) (λ u. r)) (check_append C (U ++ L) ∙ ap (λ r. and_then (unless {X = Unit {0}} (first C) tt) (λ u. r)) (check_append U L))
