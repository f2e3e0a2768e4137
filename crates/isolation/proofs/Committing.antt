-- Commit is a step of the machine.
use Rattle.std.proofs.Common.{◌≡◌, ℕ, suc, ◌+◌, ◌<◌, ◌≤◌, Bool, true, false, eqb, leb, List, length, Some, Ok, Err, Result, sym, refl, ap, ◌∙◌, subst, ⊎_elim, arith}
use Rattle.std.proofs.lemmas.Bool.{cases_eq, eq-eqb, eqb-true, leb-true}
use Rattle.record.specs.declared.fault.Denial.TheVariants.{NoLockPlaces, LogFull}
use Rattle.record.specs.declared.fault.Fault.{Fault}
use Rattle.record.specs.declared.kind.RecordKind.TheVariants.{Prepare, Propagate}
use Rattle.record.specs.declared.row.Row.{Row}
use Rattle.record.specs.Clocks.{entry_of}
use Rattle.record.specs.Faults.{keeper_fault}
use Rattle.record.specs.Rows.{updates_of, record_of}
use Rattle.config.specs.BoardSets.{is_in}
use Rattle.tables.specs.Changes.{placed, lockable, locked, with_own}
use Rattle.tables.specs.Locks.{free_locks}
use Rattle.config.specs.Objects.{count_ours, polled_for}
use Rattle.tables.specs.Places.{has_serial, place_of}
use Rattle.record.specs.Verdicts.{and_then}
use Rattle.tables.specs.Transactions.{open_row}
use Rattle.tables.specs.declared.place.Place.TheVariants.{Free, Open, Waiting}
use Rattle.board.specs.Commits.{all_clear, may_append, propagates, prepares, buffer_fits}
use Rattle.board.specs.Effects.{State as Board}
use Rattle.bus.specs.Records.{others}
use Rattle.isolation.specs.Books.{nothing}
use Rattle.isolation.specs.Calls.{commit}
use Rattle.isolation.specs.Events.{Event, seen_all, first_propagate}
use Rattle.isolation.specs.Groups.{Group, Built, config_of}
use Rattle.isolation.specs.Isolation.{regular_in}
use Rattle.isolation.specs.Laws.{Writes}
use Rattle.isolation.specs.Machine as machine
use Rattle.isolation.specs.Machine.{waits, committed, State, Among, locks}
use Rattle.isolation.proofs.Boards.{with_tables, with_row, wants, at_placed, at_freed, at_locked, at_own}
use Rattle.isolation.proofs.Built.{needed, boards_few}
use Rattle.isolation.proofs.Carried.{FitRow, fit_numbered}
use Rattle.isolation.proofs.Clearing.{clear_all, wanted}
use Rattle.isolation.proofs.Invariant.{live_row}
use Rattle.isolation.proofs.Opening.{and_then_holds, open_place, still, dropping}
use Rattle.isolation.proofs.Polls.{in_zero, polled_in}
use Rattle.isolation.proofs.Runs.{Kept}
use Rattle.isolation.proofs.Sending.{copies, fit_copies, none_propagate, propagates_one}
use Rattle.isolation.proofs.Simulation.{preferred_in, said, Placed, At, Step, Steps}
use Rattle.isolation.proofs.Written.{may_copies, may_propagate, may_prepare}

pub may_append_holds : (x : Board) (r : Row) (w : Unit {0}) → may_append x r ≡ Ok w → r.number ≤ 4096
may_append_holds x r w e = by (leb r.number 4096) refl
  where
    by : (v : Bool) → leb r.number 4096 ≡ v → r.number ≤ 4096
    by true f = leb-true r.number 4096 f
    by false f = let z : may_append x r ≡ Err (keeper_fault LogFull) = rw f in absurd (let y : ◌≡◌ {A = ℕ} 0 1 = cc in omega arith)

module _ (g : Group) (built : Built g) (es : List Event) (s : State) (x : Board) (b : ℕ) (inside : b < g.boards) (A : At g x s b)
    (K : Kept (regular_in g) (preferred_in g) g.boards (seen_all es) s (Among (said es))) where
  pub own_is : x.tables.config.own ≡ b
  own_is = ap (λ c. c.own) A.config

  pub boards_is : x.tables.config.boards ≡ g.boards
  boards_is = ap (λ c. c.boards) A.config

  -- the number of the next own row
  pub number_is : entry_of x.tables.committed x.tables.config.own + 1 ≡ suc (s.got b b)
  number_is = rw own_is (let e = A.showns b in let f = K.invariant.own_shown b in grind arith)

  -- a row that takes it
  abbrev pub next : Row → Row
  next r = machine.numbered r (suc (s.got b b))

  pub own_row : (r : Row) (w : Unit {0}) → FitRow r → may_append x (next r) ≡ Ok w
      → At g (with_row x (with_own x.tables (suc (s.got b b))) (next r))
      (record {
        own = machine.put s.own b (s.got b b) (next r);
        got = machine.put s.got b b (suc (s.got b b));
        shown = machine.put s.shown b b (suc (s.got b b));
        log = machine.appends s.log b (next r);
        lock = s.lock;
        phase = s.phase;
      }) b
  own_row r w F e =
      let low = may_append_holds x (next r) w e in
      let few = boards_few g built b inside in
      at_own g x s b A (next r) (suc (s.got b b)) (omega arith) (fit_numbered r (suc (s.got b b)) (omega arith) F) (omega arith) (K.invariant.own_shown b) refl

  module _ (r : Row) (place : place_of x.tables.places r.serial ≡ Open r) where
    is_open : Placed g b r.serial (Open r) (s.phase b r.serial)
    is_open = rw place at (A.places r.serial)

    had : has_serial r.serial (place_of x.tables.places r.serial) ≡ true
    had = rw place (eq-eqb r.serial r.serial refl)

    -- ## Fast

    near : eqb (polled_for x.tables.config (updates_of r)) 0 ≡ true → (o : ℕ) → Writes (regular_in g) (updates_of r) o → preferred_in g o ≡ b
    near e o w = ⊎_elim (λ (q : preferred_in g o ≡ b). q)
        (λ (q : preferred_in g o ≡ b → ⊥).
        let none : polled_for (config_of g b) (updates_of r) ≡ 0 = rw A.config at (eqb-true (polled_for x.tables.config (updates_of r)) 0 e) in
        let z : is_in 0 (preferred_in g o) ≡ true = rw none at (polled_in g b r is_open.1.near o w q) in
        absurd (let y : false ≡ true = sym (in_zero (preferred_in g o)) ∙ z in grind arith))
        (cases_eq (preferred_in g o) b)

    fast : all_clear x r ≡ true → eqb (polled_for x.tables.config (updates_of r)) 0 ≡ true → (w : Unit {0}) → may_append x (next r) ≡ Ok w
        → Step g es s b (first_propagate (propagates x.tables.config (next r)) nothing)
        (with_row x (placed (with_own x.tables (suc (s.got b b))) r.serial Free) (next r)) (propagates x.tables.config (next r))
    fast clear none w fits =
        let two : 2 ≤ x.tables.config.boards = rw boards_is (boards_few g built b inside).0 in
        let F = is_open.1.fits in
        let B = own_row r w F fits in
        let low = may_append_holds x (next r) w fits in
        let live : live_row (s.phase b r.serial) ≡ Some r = rw is_open.0 in
        rw (propagates_one x.tables.config (next r) nothing two) (record {
          s' = machine.commits s b r.serial (next r);
          move = machine.commit b r.serial r inside is_open.0 (near none) (λ o v. clear_all g es s x b A K r clear o v (near none o v));
          may = may_copies (Writes (regular_in g)) (preferred_in g) (machine.commits s b r.serial (next r)) (Among (said es))
              _ (machine.propagate (next r)) (copies (λ p. record_of Propagate p (next r)) (machine.propagate (next r)) (λ q. refl) (others x.tables.config (λ _. true)))
              (may_propagate (Writes (regular_in g)) (preferred_in g) s (Among (said es)) K.invariant b r.serial r s.lock live);
          at = at_freed g (with_row x (with_own x.tables (suc (s.got b b))) (next r)) _ b B r.serial (committed (s.got b b)) had refl;
          fits = fit_copies (λ p. record_of Propagate p (next r)) (λ q. fit_numbered r (suc (s.got b b)) (omega arith) F) (others x.tables.config (λ _. true));
        })

    -- ## Slow

    slow : all_clear x r ≡ true → (w : Unit {0}) → lockable x.tables r ≡ Ok w
        → Step g es s b (first_propagate (prepares x.tables.config r (is_in (polled_for x.tables.config (updates_of r)))) nothing)
        (with_tables x (locked (placed x.tables r.serial (Waiting r (polled_for x.tables.config (updates_of r)) 0)) r))
        (prepares x.tables.config r (is_in (polled_for x.tables.config (updates_of r))))
    slow clear w room =
        let polled : ℕ = polled_for x.tables.config (updates_of r) in
        let enough : count_ours x.tables.config (updates_of r) ≤ free_locks x.tables.locks = leb-true _ _ (needed (leb (count_ours x.tables.config (updates_of r)) (free_locks x.tables.locks)) NoLockPlaces w room) in
        let asked : polled ≡ polled_for (config_of g b) (updates_of r) = ap (λ c. polled_for c (updates_of r)) A.config in
        let home : r.home ≡ b = (K.invariant.live_named b r.serial r (rw is_open.0)).0 in
        let Q : Placed g b r.serial (Waiting r polled 0) (waits r (is_in 0)) = (refl, is_open.1, record { asked = asked; small = omega arith }) in
        let B = at_placed g x s b A r.serial (Waiting r polled 0) (waits r (is_in 0)) (eq-eqb r.serial r.serial refl) had Q in
        let y : Board = with_tables x (placed x.tables r.serial (Waiting r polled 0)) in
        let s₁ : State = machine.with_phase s b r.serial (waits r (is_in 0)) in
        let C = at_locked g y s₁ b B r enough in
        rw (none_propagate (λ p. record_of Prepare p r) nothing (λ q v. refl) (others x.tables.config (is_in polled))) (record {
          s' = machine.with_phase (machine.with_locks s (locks s.lock b (wants g x s b A r) b r.serial)) b r.serial (waits r (is_in 0));
          move = machine.wait b r.serial r (wants g x s b A r) (is_in 0) is_open.0 (wanted g es s x b A K r clear) in_zero;
          may = may_copies (Writes (regular_in g)) (preferred_in g) (machine.with_phase (machine.with_locks s (locks s.lock b (wants g x s b A r) b r.serial)) b r.serial (waits r (is_in 0))) (Among (said es))
              _ (machine.prepare r) (copies (λ p. record_of Prepare p r) (machine.prepare r) (λ q. refl) (others x.tables.config (is_in polled)))
              (may_prepare (Writes (regular_in g)) (preferred_in g) s (Among (said es)) K.invariant b r.serial r (is_in 0) (locks s.lock b (wants g x s b A r) b r.serial) is_open.0);
          at = subst (λ h. At g (with_tables x (locked (placed x.tables r.serial (Waiting r polled 0)) r)) (machine.with_locks s₁ (locks s.lock b (wants g x s b A r) h r.serial)) b) home C;
          fits = fit_copies (λ p. record_of Prepare p r) (λ q. is_open.1.fits) (others x.tables.config (is_in polled));
        })

  pub steps_commit : (home t room : ℕ) → Steps g es s b x (commit home t room)
  steps_commit home t room = by (and_then (open_row x.tables home t) (λ r. and_then (buffer_fits room) (λ _. Ok r))) refl
    where
      slowly : (r : Row) → place_of x.tables.places r.serial ≡ Open r → all_clear x r ≡ true → eqb (length (updates_of r)) 0 ≡ false → eqb (polled_for x.tables.config (updates_of r)) 0 ≡ false
          → and_then (open_row x.tables home t) (λ r. and_then (buffer_fits room) (λ _. Ok r)) ≡ Ok r → (v : Result (Unit {0}) Fault) → lockable x.tables r ≡ v → Steps g es s b x (commit home t room)
      slowly r place clear some asks e (Err f) h = rw (e, some, clear, asks, h) (still g built es s x b inside A K)
      slowly r place clear some asks e (Ok w) h = rw (e, some, clear, asks, h) (slow r place clear w h)

      quickly : (r : Row) → place_of x.tables.places r.serial ≡ Open r → all_clear x r ≡ true → eqb (length (updates_of r)) 0 ≡ false → eqb (polled_for x.tables.config (updates_of r)) 0 ≡ true
          → and_then (open_row x.tables home t) (λ r. and_then (buffer_fits room) (λ _. Ok r)) ≡ Ok r → (v : Result (Unit {0}) Fault) → may_append x (next r) ≡ v → Steps g es s b x (commit home t room)
      quickly r place clear some asks e (Err f) h = rw (e, some, clear, asks, number_is, h) (still g built es s x b inside A K)
      quickly r place clear some asks e (Ok w) h = rw (e, some, clear, asks, number_is, h) (fast r place clear asks w h)

      tries : (r : Row) → place_of x.tables.places r.serial ≡ Open r → and_then (open_row x.tables home t) (λ r. and_then (buffer_fits room) (λ _. Ok r)) ≡ Ok r
          → (u : Bool) → eqb (length (updates_of r)) 0 ≡ u → (c : Bool) → all_clear x r ≡ c → (p : Bool) → eqb (polled_for x.tables.config (updates_of r)) 0 ≡ p → Steps g es s b x (commit home t room)
      tries r place e true some c clear p asks = rw (e, some) (dropping g built es s x b inside A K r.serial r place)
      tries r place e false some false clear p asks = rw (e, some, clear) (dropping g built es s x b inside A K r.serial r place)
      tries r place e false some true clear true asks = quickly r place clear some asks e (may_append x (next r)) refl
      tries r place e false some true clear false asks = slowly r place clear some asks e (lockable x.tables r) refl

      by : (v : Result Row Fault) → and_then (open_row x.tables home t) (λ r. and_then (buffer_fits room) (λ _. Ok r)) ≡ v → Steps g es s b x (commit home t room)
      by (Err f) e = rw e (still g built es s x b inside A K)
      by (Ok r) e =
          let (r₀, a, k) = and_then_holds (open_row x.tables home t) (λ r. and_then (buffer_fits room) (λ _. Ok r)) r e in
          let (u, c, j) = and_then_holds (buffer_fits room) (λ _. Ok r₀) r k in
          let same : r₀ ≡ r = cc in
          let place : place_of x.tables.places t ≡ Open r = open_place x.tables home t r₀ a ∙ ap Open same in
          let P : Placed g b t (Open r) (s.phase b t) = rw place at (A.places t) in
          tries r (ap (λ u. place_of x.tables.places u) P.1.named ∙ place) e (eqb (length (updates_of r)) 0) refl (all_clear x r) refl (eqb (polled_for x.tables.config (updates_of r)) 0) refl
