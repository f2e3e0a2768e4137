-- The calls on an open transaction, start and settle: each is a step of the machine.
use Rattle.std.proofs.Common.{◌≡◌, ℕ, ◌+◌, ◌<◌, ◌≤◌, min, Bool, true, false, eqb, ltb, leb, ◌⊎◌, List, [], ◌∷◌, ◌++◌, set, ℤ, None, Ok, Err, Result, refl, ap, inl, inr, ⊎_elim, arith, w32, to_z}
use mathlib.Core.List.Memᴰ
use mir.ValLaws.{to_z-Fits}
use Rattle.std.proofs.lemmas.Bool.{cases_eq, eq-eqb, ltb-true, leb-true}
use Rattle.std.proofs.lemmas.List.{take_more_set}
use Rattle.std.proofs.lemmas.Bool.Decides.{nat_tests}
use Rattle.record.specs.declared.fault.Denial.TheVariants.{NoTransaction, WrongState, Unlisted, KindDiffers, FourUpdates, NoPlace, SerialsSpent}
use Rattle.record.specs.declared.fault.Fault.{Fault}
use Rattle.record.specs.declared.row.Row.{Row}
use Rattle.record.specs.declared.row.Update.{Update}
use Rattle.record.specs.Codec.{Sized}
use Rattle.record.specs.Faults.{board_fault}
use Rattle.record.specs.Rows.{updates_of}
use Rattle.config.specs.Objects.{is_listed, kind_of}
use Rattle.tables.specs.Places.{is_free, has_serial, first_at, place_of, with_place}
use Rattle.tables.specs.Transactions as tables
use Rattle.record.specs.Verdicts.{and_then, need}
use Rattle.tables.specs.Transactions.{open_row, kind_fits, with_update, with_places, readable}
use Rattle.tables.specs.declared.place.Place.{Place}
use Rattle.tables.specs.declared.place.Place.TheVariants.{Free, Open, Waiting, Committed, Aborted}
use Rattle.tables.specs.declared.tables.Tables.{Tables}
use Rattle.board.specs.Effects.{State as Board}
use Rattle.isolation.specs.Books.{changed, nothing}
use Rattle.isolation.specs.Calls.{start, put, merge, read, look, abandon, settle, Typed}
use Rattle.isolation.specs.Events.{Event, seen_all}
use Rattle.isolation.specs.Groups.{Group, Built, config_of}
use Rattle.isolation.specs.Isolation.{regular_in}
use Rattle.isolation.specs.Machine as machine
use Rattle.isolation.specs.Machine.{opened, dead, State, Among}
use Rattle.isolation.proofs.Boards.{with_tables, at_placed, at_freed, at_settled, at_started}
use Rattle.isolation.proofs.Built.{needed, listed_near}
use Rattle.isolation.proofs.Carried.{FitRow, fit_bare, fit_update}
use Rattle.isolation.proofs.Effects.{alike_same}
use Rattle.isolation.proofs.Invariant.{live_row}
use Rattle.isolation.proofs.Runs.{Kept}
use Rattle.isolation.proofs.Simulation.{preferred_in, said, Opened, Placed, At, Step, Steps, quiet}
use Rattle.isolation.proofs.Writers.{touches}

-- what an acceptance followed
pub and_then_holds : {X Y : Type 0} (v : Result X Fault) (next : X → Result Y Fault) (y : Y) → and_then v next ≡ Ok y → (x : X) × (v ≡ Ok x) × (next x ≡ Ok y)
and_then_holds (Ok x) next y e = (x, refl, e)
and_then_holds (Err f) next y e = absurd (let z : ◌≡◌ {A = ℕ} 0 1 = cc in omega arith)

-- the row of an open transaction is in the place of its serial
pub open_place : (t : Tables) (home serial : ℕ) (r : Row) → open_row t home serial ≡ Ok r → place_of t.places serial ≡ Open r
open_place t home serial r e = by (eqb home t.config.own) refl (place_of t.places serial) refl
  where
    by : (v : Bool) → eqb home t.config.own ≡ v → (p : Place) → place_of t.places serial ≡ p → place_of t.places serial ≡ Open r
    by false f p q = let z : open_row t home serial ≡ Err (board_fault NoTransaction) = rw f in cc
    by true f Free q = let z : open_row t home serial ≡ Err (board_fault NoTransaction) = rw (f, q) in cc
    by true f (Open r') q = let z : open_row t home serial ≡ Ok r' = rw (f, q) in cc
    by true f (Waiting r' polled agreed) q = let z : open_row t home serial ≡ Err (board_fault WrongState) = rw (f, q) in cc
    by true f (Committed u k) q = let z : open_row t home serial ≡ Err (board_fault WrongState) = rw (f, q) in cc
    by true f (Aborted u) q = let z : open_row t home serial ≡ Err (board_fault WrongState) = rw (f, q) in cc

may_start_holds : (t : Tables) (n : ℕ) → tables.may_start t ≡ Ok n → (first_at is_free t.places < 8) × (t.next ≤ 4294967295) × (n ≡ t.next)
may_start_holds t n e = by (ltb (first_at is_free t.places) 8) refl (leb t.next 4294967295) refl
  where
    by : (v : Bool) → ltb (first_at is_free t.places) 8 ≡ v → (w : Bool) → leb t.next 4294967295 ≡ w → (first_at is_free t.places < 8) × (t.next ≤ 4294967295) × (n ≡ t.next)
    by false f w h = let z : tables.may_start t ≡ Err (board_fault NoPlace) = rw f in absurd (let y : ◌≡◌ {A = ℕ} 0 1 = cc in omega arith)
    by true f false h = let z : tables.may_start t ≡ Err (board_fault SerialsSpent) = rw (f, h) in absurd (let y : ◌≡◌ {A = ℕ} 0 1 = cc in omega arith)
    by true f true h = let z : tables.may_start t ≡ Ok t.next = rw (f, h) in (ltb-true _ _ f, leb-true _ _ h, cc)

-- ## One update more

module _ (r : Row) (u : Update) where
  abbrev pub more : Row
  more = record { home = r.home; serial = r.serial; number = r.number; start = r.start; count = r.count + 1; updates = set r.updates r.count u }

  with_update_holds : (r' : Row) → with_update r u ≡ Ok r' → (r.count < 4) × (r' ≡ more)
  with_update_holds r' e = by (ltb r.count 4) refl
    where
      by : (v : Bool) → ltb r.count 4 ≡ v → (r.count < 4) × (r' ≡ more)
      by true f = let z : with_update r u ≡ Ok more = rw f in (ltb-true _ _ f, cc)
      by false f = let z : with_update r u ≡ Err (board_fault FourUpdates) = rw f in absurd (let y : ◌≡◌ {A = ℕ} 0 1 = cc in omega arith)

  more_updates : FitRow r → r.count < 4 → updates_of more ≡ updates_of r ++ (u ∷ [])
  more_updates F low =
      let a : min (r.count + 1) 4 ≡ r.count + 1 = omega arith in
      let c : min r.count 4 ≡ r.count = omega arith in
      rw (a, c) (take_more_set r.updates r.count u (omega (arith, F.four)))

touches_push : (us : List Update) (u : Update) (o : ℕ) → touches (us ++ (u ∷ [])) o ≡ true → (touches us o ≡ true) ⊎ (u.object ≡ o)
touches_push [] u o e = inr (grind (arith, nat_tests))
touches_push (w ∷ us) u o e = ⊎_elim
    (λ (q : w.object ≡ o). inl (grind (arith, nat_tests)))
    (λ (q : w.object ≡ o → ⊥). ⊎_elim (λ (h : touches us o ≡ true). inl (grind (arith, nat_tests))) (λ (h : u.object ≡ o). inr h) (touches_push us u o (grind (arith, nat_tests))))
    (cases_eq w.object o)

module _ (g : Group) (built : Built g) (es : List Event) (s : State) (x : Board) (b : ℕ) (inside : b < g.boards) (A : At g x s b)
    (K : Kept (regular_in g) (preferred_in g) g.boards (seen_all es) s (Among (said es))) where
  pub still : Step g es s b nothing x []
  still = quiet g es s b x A

  pub steps_start : Steps g es s b x start
  steps_start = by (tables.may_start x.tables) refl
    where
      by : (v : Result ℕ Fault) → tables.may_start x.tables ≡ v → Steps g es s b x start
      by (Err f) e = rw e still
      by (Ok n) e =
          let (room, most, is) = may_start_holds x.tables n e in
          let r = tables.opened x.tables in
          let O : Opened g x.tables.next r = record { named = refl; fits = fit_bare x.tables.config.own x.tables.next 0 0 x.tables.committed (omega arith) (omega arith) A.fit_shown; near = λ o t. absurd (grind arith) } in
          rw (e, is) (record {
            s' = machine.with_phase s b x.tables.next (opened r);
            move = machine.start b x.tables.next r (A.later x.tables.next (omega arith)) (ap (λ c. c.own) A.config) refl A.showns refl;
            may = λ m i. absurd (Memᴰ.not-nil i);
            at = at_started g x s b A room (refl, O);
            fits = λ m i. absurd (Memᴰ.not-nil i);
          })

  -- ## Put and merge

  fits_kind : (object kind : ℕ) (w : Unit {0}) → kind_fits x.tables object kind ≡ Ok w → is_listed (config_of g b) object ≡ true
  fits_kind object kind w e =
      let (u, h, k) = and_then_holds (need (is_listed x.tables.config object) Unlisted) (λ _. need (eqb (kind_of x.tables.config object) kind) KindDiffers) w e in
      let l = needed (is_listed x.tables.config object) Unlisted u h in
      rw A.config at l

  changing : (t : ℕ) (r r' : Row) (u : Update) → place_of x.tables.places t ≡ Open r → with_update r u ≡ Ok r' → is_listed (config_of g b) u.object ≡ true → Sized u
      → Step g es s b (changed t u) (with_tables x (with_places x.tables (with_place x.tables.places t (Open r')))) []
  changing t r r' u place made listed z =
      let P : Placed g b t (Open r) (s.phase b t) = rw place at (A.places t) in
      let (low, is) = with_update_holds r u r' made in
      let F = P.1.fits in
      let us = more_updates r u F low in
      let O : Opened g t (more r u) = record {
        named = P.1.named;
        fits = fit_update r u (r.count + 1) low z F;
        near = λ o e. ⊎_elim (λ (h : touches (updates_of r) o ≡ true). P.1.near o h) (λ (h : u.object ≡ o). rw h at (listed_near g built b inside u.object listed)) (touches_push (updates_of r) u o (rw us at e));
      } in
      let had : has_serial t (place_of x.tables.places t) ≡ true = rw place (eq-eqb r.serial t P.1.named) in
      rw is (record {
        s' = machine.with_phase s b t (opened (more r u));
        move = machine.change b t r (more r u) u P.0 refl refl refl (rw us (alike_same (regular_in g) (updates_of r ++ (u ∷ []))));
        may = λ m i. absurd (Memᴰ.not-nil i);
        at = at_placed g x s b A t (Open (more r u)) (opened (more r u)) (eq-eqb r.serial t P.1.named) had (refl, O);
        fits = λ m i. absurd (Memᴰ.not-nil i);
      })

  pub steps_put : (home t object w : ℕ) → Typed (put home t object w) → Steps g es s b x (put home t object w)
  steps_put home t object w typed = by (tables.put_verdict x.tables home t object w) refl
    where
      by : (v : Result Row Fault) → tables.put_verdict x.tables home t object w ≡ v → Steps g es s b x (put home t object w)
      by (Err f) e = rw e still
      by (Ok r') e =
          let u : Update = record { object = object; element = 0; operand = to_z w32 w } in
          let (r, a, k) = and_then_holds (open_row x.tables home t) (λ r. and_then (kind_fits x.tables object 0) (λ _. with_update r u)) r' e in
          let (i, l, m) = and_then_holds (kind_fits x.tables object 0) (λ _. with_update r u) r' k in
          let z : Sized u = record { object_fits = typed.0; element_fits = omega arith; operand_fits = to_z-Fits w32 w (record { fits = typed.1 }) } in
          rw e (changing t r r' u (open_place x.tables home t r a) m (fits_kind object 0 i l) z)

  pub steps_merge : (kind : ℕ) (admitted : Bool) (home t object element : ℕ) (operand : ℤ) → Typed (merge kind admitted home t object element operand)
      → Steps g es s b x (merge kind admitted home t object element operand)
  steps_merge kind admitted home t object element operand typed = by (tables.merge_verdict x.tables kind admitted home t object element operand) refl
    where
      by : (v : Result Row Fault) → tables.merge_verdict x.tables kind admitted home t object element operand ≡ v → Steps g es s b x (merge kind admitted home t object element operand)
      by (Err f) e = rw e still
      by (Ok r') e =
          let u : Update = record { object = object; element = element; operand = operand } in
          let (r, a, k) = and_then_holds (open_row x.tables home t) (λ r. and_then (kind_fits x.tables object kind) (λ _. and_then (need admitted KindDiffers) (λ _. with_update r u))) r' e in
          let (i, l, m) = and_then_holds (kind_fits x.tables object kind) (λ _. and_then (need admitted KindDiffers) (λ _. with_update r u)) r' k in
          let (j, n, q) = and_then_holds (need admitted KindDiffers) (λ _. with_update r u) r' m in
          let z : Sized u = record { object_fits = typed.0; element_fits = typed.1.0; operand_fits = typed.1.1 } in
          rw e (changing t r r' u (open_place x.tables home t r a) q (fits_kind object kind i l) z)

  -- ## Read and look

  pub steps_read : (home t object : ℕ) → Steps g es s b x (read home t object)
  steps_read home t object = by (readable x.tables home t object 0) refl
    where
      by : (v : Result Row Fault) → readable x.tables home t object 0 ≡ v → Steps g es s b x (read home t object)
      by (Err f) e = rw e still
      by (Ok r) e = rw e still

  pub steps_look : (kind home t object element : ℕ) → Steps g es s b x (look kind home t object element)
  steps_look kind home t object element = by (readable x.tables home t object kind) refl
    where
      by : (v : Result Row Fault) → readable x.tables home t object kind ≡ v → Steps g es s b x (look kind home t object element)
      by (Err f) e = rw e still
      by (Ok r) e = rw e still

  -- ## An open transaction ends without a row

  pub dropping : (t : ℕ) (r : Row) → place_of x.tables.places t ≡ Open r → Step g es s b nothing (with_tables x (tables.freed x.tables t)) []
  dropping t r place =
      let P : Placed g b t (Open r) (s.phase b t) = rw place at (A.places t) in
      let had : has_serial t (place_of x.tables.places t) ≡ true = rw place (eq-eqb r.serial t P.1.named) in
      record {
        s' = machine.with_phase s b t dead;
        move = machine.drop b t r P.0;
        may = λ m i. absurd (Memᴰ.not-nil i);
        at = at_freed g x s b A t dead had refl;
        fits = λ m i. absurd (Memᴰ.not-nil i);
      }

  pub steps_abandon : (home t : ℕ) → Steps g es s b x (abandon home t)
  steps_abandon home t = by (open_row x.tables home t) refl
    where
      by : (v : Result Row Fault) → open_row x.tables home t ≡ v → Steps g es s b x (abandon home t)
      by (Err f) e = rw e still
      by (Ok r) e = rw e (dropping t r (open_place x.tables home t r e))

  -- ## Settle

  settling : (t : ℕ) → has_serial t (place_of x.tables.places t) ≡ true → live_row (s.phase b t) ≡ None → Step g es s b nothing (with_tables x (tables.freed x.tables t)) []
  settling t had ended = record {
    s' = s;
    move = machine.rest b nothing machine.silent;
    may = λ m i. absurd (Memᴰ.not-nil i);
    at = at_settled g x s b A t had ended;
    fits = λ m i. absurd (Memᴰ.not-nil i);
  }

  pub steps_settle : (home t : ℕ) → Steps g es s b x (settle home t)
  steps_settle home t = by (eqb home x.tables.config.own) refl (place_of x.tables.places t) refl
    where
      by : (v : Bool) → eqb home x.tables.config.own ≡ v → (p : Place) → place_of x.tables.places t ≡ p → Steps g es s b x (settle home t)
      by false f p q = rw f still
      by true f Free q = rw (f, q) still
      by true f (Open r) q = rw (f, q) still
      by true f (Waiting r polled agreed) q = rw (f, q) still
      by true f (Committed u k) q =
          let P : Placed g b t (Committed u k) (s.phase b t) = rw q at (A.places t) in
          rw (f, q) (settling t (rw q (eq-eqb u t P.0)) P.2)
      by true f (Aborted u) q =
          let P : Placed g b t (Aborted u) (s.phase b t) = rw q at (A.places t) in
          rw (f, q) (settling t (rw q (eq-eqb u t P.0)) P.2)
