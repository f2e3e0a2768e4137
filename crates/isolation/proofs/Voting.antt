-- Delivering a VOTE is a step of the machine.
use Rattle.std.proofs.Common.{◌≡◌, ℕ, suc, ◌<◌, ◌≤◌, Bool, true, false, cond, not, ◌&&◌, eqb, ◌≢◌, ◌⊎◌, List, [], ◌∷◌, is_some, Some, None, Ok, Err, Result, sym, refl, ap, ◌∙◌, subst, inl, inr, ⊎_elim, arith}
use mathlib.Core.List.{Memᴰ}
use Rattle.std.proofs.lemmas.Bool.{and_parts, eqb-true, eq-eqb, cases_eq, ne_eqb, not-true}
use Rattle.std.proofs.lemmas.Bool.Decides.{nat_tests}
use Rattle.record.specs.declared.fault.Fault.{Fault}
use Rattle.record.specs.declared.message.Record.{Record}
use Rattle.record.specs.declared.row.Row.{Row}
use Rattle.record.specs.Rows.{updates_of, row_of, record_of, zero_clock}
use Rattle.record.specs.Verdicts.{and_then}
use Rattle.board.specs.Commits.{buffer_fits}
use Rattle.bus.specs.Received.{received}
use Rattle.board.specs.Effects.{State as Board}
use Rattle.isolation.specs.Books.{nothing}
use Rattle.isolation.specs.Calls.{does, deliver}
use Rattle.isolation.specs.Events.{Event, seen_all, written_by, first_propagate}
use Rattle.isolation.specs.Groups.{Group, Built, Brought}
use Rattle.isolation.specs.Isolation.{regular_in}
use Rattle.isolation.specs.Laws.{Writes}
use Rattle.isolation.specs.Machine as machine
use Rattle.isolation.specs.Machine.{State, Among, MayWrite, frees}
use Rattle.isolation.proofs.Built.{boards_few}
use Rattle.isolation.proofs.Carried.{FitRow, fit_bare, fit_zero}
use Rattle.isolation.proofs.Opening.{still}
use Rattle.isolation.proofs.Receiving.{Received, was_written, says}
use Rattle.isolation.proofs.Runs.{Kept}
use Rattle.isolation.proofs.Sending.{may_one, fit_one, copies, fit_copies, none_propagate}
use Rattle.isolation.proofs.Simulation.{preferred_in, said, At, Step, Steps}
use Rattle.record.specs.declared.kind.RecordKind.TheVariants.{Vote, Propagate}
use Rattle.config.specs.BoardSets.{is_in, with_board}
use Rattle.tables.specs.Changes.{placed, released, with_own}
use Rattle.tables.specs.Places.{has_serial, place_of}
use Rattle.tables.specs.declared.place.Place.{Place}
use Rattle.tables.specs.declared.place.Place.TheVariants.{Free, Open, Waiting, Committed, Aborted}
use Rattle.board.specs.Commits.{may_append, propagates}
use Rattle.queries.specs.Logs.{find_row}
use Rattle.bus.specs.Records.{abort, others, to_others}
use Rattle.isolation.specs.Machine.{vote_yes, waits, committed, dead}
use Rattle.isolation.proofs.Boards.{with_tables, with_row, at_placed, at_released}
use Rattle.isolation.proofs.Committing.{own_is, boards_is, number_is, next, own_row, may_append_holds}
use Rattle.isolation.proofs.Carried.{fit_numbered}
use Rattle.isolation.proofs.Invariant.{live_row}
use Rattle.isolation.proofs.Logs.{in_log}
use Rattle.isolation.proofs.Polls.{in_with, with_small, polled_in}
use Rattle.isolation.proofs.Resending.{by_serial}
use Rattle.isolation.proofs.Sending.{propagates_one}
use Rattle.isolation.proofs.Simulation.{Polled, Placed}
use Rattle.isolation.proofs.Written.{may_copies, may_propagate, may_abort, may_abort_late}

-- where no row is found, none of the log passes the test
not_found : (p : Row → Bool) (rows : List Row) (r : Row) → is_some (find_row p rows) ≡ false → Memᴰ r rows → p r ≡ false
not_found p [] r e i = absurd (mathlib.Core.List.Memᴰ.not-nil i)
not_found p (q ∷ rows) r e i = by (not_found p rows r) (p q) refl
  where
    by : (is_some (find_row p rows) ≡ false → Memᴰ r rows → p r ≡ false) → (v : Bool) → p q ≡ v → p r ≡ false
    by rest true f = let z : is_some (Some q) ≡ false = rw f at e in absurd (let y : true ≡ false = z in grind arith)
    by rest false f =
        let z : is_some (find_row p rows) ≡ false = rw f at e in
        ⊎_elim (λ (c : r ≡ q). ap p c ∙ f) (λ (j : Memᴰ r rows). rest z j) (mathlib.Core.List.Memᴰ.cases_cons i)

module _ (g : Group) (built : Built g) (es : List Event) (s : State) (x : Board) (b : ℕ) (inside : b < g.boards) (A : At g x s b)
    (K : Kept (regular_in g) (preferred_in g) g.boards (seen_all es) s (Among (said es))) (fits : (m : Record) → Memᴰ m (written_by es) → FitRow (row_of m))
    (bytes : List ℕ) (room : ℕ) (m : Record) (e : and_then (buffer_fits room) (λ _. received x.tables.config bytes) ≡ Ok m) (R : Received g b bytes m) where
  -- a yes that was written
  yes_said : m.kind ≡ Vote → eqb m.detail 1 ≡ true → Memᴰ m (written_by es) → Among (said es) (vote_yes m.sender b m.serial)
  yes_said k y i = let a : Among (said es) (vote_yes m.sender m.receiver m.serial) = rw (k, y) at (says es m i) in subst (λ p. Among (said es) (vote_yes m.sender p m.serial)) R.here a

  abort_fits : (t p : ℕ) → t < 4294967296 → FitRow (row_of (abort x.tables.config t p))
  abort_fits t p h = fit_bare x.tables.config.own t 0 0 zero_clock h (omega arith) fit_zero

  -- ## Late

  -- no own row bears the serial
  rowless : is_some (find_row (by_serial m.serial x.tables.config.own) x.rows) ≡ false → (i : ℕ) → i < s.got b b → (s.own b i).serial ≢ m.serial
  rowless none i h q =
      let mem = in_log (Writes (regular_in g)) (preferred_in g) (regular_in g) g.boards (seen_all es) s (Among (said es)) K.invariant K.account b b i h in
      let mem' : Memᴰ (s.own b i) x.rows = subst (λ l. Memᴰ (s.own b i) l) (sym A.rows) mem in
      let f = not_found (by_serial m.serial x.tables.config.own) x.rows (s.own b i) none mem' in
      let home : (s.own b i).home ≡ x.tables.config.own = (K.invariant.own_named b i h).0 ∙ sym (own_is g built es s x b inside A K) in
      grind (arith, nat_tests)

  late : Memᴰ m (written_by es) → m.kind ≡ Vote → eqb m.detail 1 ≡ true → is_some (find_row (by_serial m.serial x.tables.config.own) x.rows) ≡ false → live_row (s.phase b m.serial) ≡ None
      → Step g es s b nothing x (abort x.tables.config m.serial m.sender ∷ [])
  late i k y none ended = record {
    s' = s;
    move = machine.rest b nothing machine.silent;
    may = may_one (Writes (regular_in g)) (preferred_in g) s (Among (said es)) (abort x.tables.config m.serial m.sender)
        (subst (λ p. MayWrite (Writes (regular_in g)) (preferred_in g) s (Among (said es)) (machine.abort p m.serial)) (sym (own_is g built es s x b inside A K))
        (may_abort_late (Writes (regular_in g)) (preferred_in g) s (Among (said es)) K.invariant m.sender b m.serial (yes_said k y i) ended (rowless none)));
    at = A;
    fits = fit_one (abort x.tables.config m.serial m.sender) (abort_fits m.serial m.sender (fits m i).serial_fits);
  }

  module _ (r : Row) (polled agreed : ℕ) (place : place_of x.tables.places r.serial ≡ Waiting r polled agreed) where
    is_waiting : Placed g b r.serial (Waiting r polled agreed) (s.phase b r.serial)
    is_waiting = rw place at (A.places r.serial)

    had : has_serial r.serial (place_of x.tables.places r.serial) ≡ true
    had = rw place (eq-eqb r.serial r.serial refl)

    -- ## No

    refusing : Step g es s b (first_propagate (to_others x.tables.config (is_in agreed) (abort x.tables.config r.serial)) nothing)
        (with_tables x (released (placed x.tables r.serial (Aborted r.serial)) x.tables.config.own r.serial)) (to_others x.tables.config (is_in agreed) (abort x.tables.config r.serial))
    refusing =
        let B = at_placed g x s b A r.serial (Aborted r.serial) dead (eq-eqb r.serial r.serial refl) had (refl, refl, refl) in
        let y : Board = with_tables x (placed x.tables r.serial (Aborted r.serial)) in
        let s₁ : State = machine.with_phase s b r.serial dead in
        let C = at_released g y s₁ b B x.tables.config.own r.serial in
        let own = own_is g built es s x b inside A K in
        rw (none_propagate (abort x.tables.config r.serial) nothing (λ q v. refl) (others x.tables.config (is_in agreed))) (record {
          s' = machine.with_phase (machine.with_locks s (frees s.lock b b r.serial)) b r.serial dead;
          move = machine.refuse b r.serial r (is_in agreed) is_waiting.0;
          may = may_copies (Writes (regular_in g)) (preferred_in g) (machine.with_phase (machine.with_locks s (frees s.lock b b r.serial)) b r.serial dead) (Among (said es))
              _ (machine.abort b r.serial) (copies (abort x.tables.config r.serial) (machine.abort b r.serial) (λ q. ap (λ p. machine.abort p r.serial) own) (others x.tables.config (is_in agreed)))
              (may_abort (Writes (regular_in g)) (preferred_in g) s (Among (said es)) K.invariant b r.serial (frees s.lock b b r.serial));
          at = subst (λ h. At g (with_tables x (released (placed x.tables r.serial (Aborted r.serial)) x.tables.config.own r.serial)) (machine.with_locks s₁ (frees s.lock b h r.serial)) b) own C;
          fits = fit_copies (abort x.tables.config r.serial) (λ q. abort_fits r.serial q is_waiting.1.fits.serial_fits) (others x.tables.config (is_in agreed));
        })

    -- ## Yes

    module _ (voted : Among (said es) (vote_yes m.sender b r.serial)) where
      low : m.sender < 8
      low = let few = boards_few g built b inside in omega (arith, R.from)

      -- who is noted has said yes
      noted : (p : ℕ) → is_in (with_board agreed m.sender) p ≡ true → (is_in agreed p ≡ true) ⊎ Among (said es) (vote_yes p b r.serial)
      noted p h =
          let h' : cond (eqb p m.sender) true (is_in agreed p) ≡ true = sym (in_with agreed m.sender p is_waiting.2.small low) ∙ h in
          ⊎_elim (λ (q : p ≡ m.sender). inr (subst (λ v. Among (said es) (vote_yes v b r.serial)) (sym q) voted))
          (λ (q : p ≡ m.sender → ⊥). inl (rw (ne_eqb p m.sender q) at h'))
          (cases_eq p m.sender)

      noting : Step g es s b nothing (with_tables x (placed x.tables r.serial (Waiting r polled (with_board agreed m.sender)))) []
      noting =
          let P : Polled g b r polled (with_board agreed m.sender) = record { asked = is_waiting.2.asked; small = with_small agreed m.sender is_waiting.2.small low } in
          record {
            s' = machine.with_phase s b r.serial (waits r (is_in (with_board agreed m.sender)));
            move = machine.note b r.serial r (is_in agreed) (is_in (with_board agreed m.sender)) is_waiting.0 noted;
            may = λ v i. absurd (mathlib.Core.List.Memᴰ.not-nil i);
            at = at_placed g x s b A r.serial (Waiting r polled (with_board agreed m.sender)) (waits r (is_in (with_board agreed m.sender))) (eq-eqb r.serial r.serial refl) had (refl, is_waiting.1, P);
            fits = λ v i. absurd (mathlib.Core.List.Memᴰ.not-nil i);
          }

      -- all who were polled have said yes
      all_said : with_board agreed m.sender ≡ polled → (o : ℕ) → Writes (regular_in g) (updates_of r) o → (preferred_in g o ≡ b) ⊎ Among (said es) (vote_yes (preferred_in g o) b r.serial)
      all_said whole o w = ⊎_elim (λ (q : preferred_in g o ≡ b). inl q)
          (λ (q : preferred_in g o ≡ b → ⊥).
          let a : is_in polled (preferred_in g o) ≡ true = ap (λ v. is_in v (preferred_in g o)) is_waiting.2.asked ∙ polled_in g b r is_waiting.1.near o w q in
          let c : is_in (with_board agreed m.sender) (preferred_in g o) ≡ true = ap (λ v. is_in v (preferred_in g o)) whole ∙ a in
          inr (⊎_elim (λ (h : is_in agreed (preferred_in g o) ≡ true). K.invariant.noted_vote b r.serial (preferred_in g o) r (is_in agreed) is_waiting.0 h) (λ (h : Among (said es) (vote_yes (preferred_in g o) b r.serial)). h) (noted (preferred_in g o) c)))
          (cases_eq (preferred_in g o) b)

      abbrev row : Row
      row = next g built es s x b inside A K r

      finishing : with_board agreed m.sender ≡ polled → (w : Unit {0}) → may_append x row ≡ Ok w
          → Step g es s b (first_propagate (propagates x.tables.config row) nothing)
          (with_row x (released (placed (with_own x.tables (suc (s.got b b))) r.serial (Committed r.serial (suc (s.got b b)))) x.tables.config.own r.serial) row) (propagates x.tables.config row)
      finishing whole w may =
          let two : 2 ≤ x.tables.config.boards = rw (boards_is g built es s x b inside A K) (boards_few g built b inside).0 in
          let F = is_waiting.1.fits in
          let k : ℕ = suc (s.got b b) in
          let B = own_row g built es s x b inside A K r w F may in
          let most = may_append_holds x row w may in
          let live : live_row (s.phase b r.serial) ≡ Some r = rw is_waiting.0 in
          let y₀ : Board = with_row x (with_own x.tables k) row in
          let s₀ : State = record {
            own = machine.put s.own b (s.got b b) row;
            got = machine.put s.got b b k;
            shown = machine.put s.shown b b k;
            log = machine.appends s.log b row;
            lock = s.lock;
            phase = s.phase;
          } in
          let C = at_placed g y₀ s₀ b B r.serial (Committed r.serial k) (committed (s.got b b)) (eq-eqb r.serial r.serial refl) had (refl, refl, refl) in
          let y₁ : Board = with_tables y₀ (placed (with_own x.tables k) r.serial (Committed r.serial k)) in
          let s₁ : State = machine.commits s b r.serial row in
          let D = at_released g y₁ s₁ b C x.tables.config.own r.serial in
          let own = own_is g built es s x b inside A K in
          rw (propagates_one x.tables.config row nothing two) (record {
            s' = machine.with_locks s₁ (frees s.lock b b r.serial);
            move = machine.finish b r.serial r (is_in agreed) inside is_waiting.0 (all_said whole);
            may = may_copies (Writes (regular_in g)) (preferred_in g) (machine.with_locks s₁ (frees s.lock b b r.serial)) (Among (said es))
                _ (machine.propagate row) (copies (λ p. record_of Propagate p row) (machine.propagate row) (λ q. refl) (others x.tables.config (λ _. true)))
                (may_propagate (Writes (regular_in g)) (preferred_in g) s (Among (said es)) K.invariant b r.serial r (frees s.lock b b r.serial) live);
            at = subst (λ h. At g (with_row x (released (placed (with_own x.tables k) r.serial (Committed r.serial k)) x.tables.config.own r.serial) row) (machine.with_locks s₁ (frees s.lock b h r.serial)) b) own D;
            fits = fit_copies (λ p. record_of Propagate p row) (λ q. fit_numbered r k (omega arith) F) (others x.tables.config (λ _. true));
          })

  -- ## All of them

  abbrev is_late : Bool
  is_late = eqb m.detail 1 && not (is_some (find_row (by_serial m.serial x.tables.config.own) x.rows))

  -- who is voted for is not open
  not_open : Memᴰ m (written_by es) → m.kind ≡ Vote → eqb m.detail 1 ≡ true → (r : Row) → s.phase b m.serial ≡ machine.opened r → ⊥
  not_open i k y r was = let c = K.invariant.vote_called m.sender b m.serial (yes_said k y i) in grind arith

  module _ (k : m.kind ≡ Vote) (late' : is_late ≡ true) (i : Memᴰ m (written_by es)) where
    late_parts : (eqb m.detail 1 ≡ true) × (is_some (find_row (by_serial m.serial x.tables.config.own) x.rows) ≡ false)
    late_parts = let p = and_parts (eqb m.detail 1) (not (is_some (find_row (by_serial m.serial x.tables.config.own) x.rows))) late' in (p.0, not-true _ p.1)

    ended_late : live_row (s.phase b m.serial) ≡ None → Step g es s b nothing x (abort x.tables.config m.serial m.sender ∷ [])
    ended_late ended = late i k late_parts.0 late_parts.1 ended

  pub on_vote_holds : m.kind ≡ Vote → Brought es (deliver bytes room) (does x (deliver bytes room)).answer → Steps g es s b x (deliver bytes room)
  on_vote_holds k = by (place_of x.tables.places m.serial) refl is_late refl
    where
      lastly : (r : Row) (polled agreed : ℕ) → place_of x.tables.places m.serial ≡ Waiting r polled agreed → is_in polled m.sender ≡ true → eqb m.detail 1 ≡ true → eqb (with_board agreed m.sender) polled ≡ true
          → (w : Result (Unit {0}) Fault) → may_append x (next g built es s x b inside A K r) ≡ w → Brought es (deliver bytes room) (does x (deliver bytes room)).answer → Steps g es s b x (deliver bytes room)
      lastly r polled agreed q p y a (Err f) h = rw (e, R.came, k, q, p, y, a, number_is g built es s x b inside A K, h) (λ brought. still g built es s x b inside A K)
      lastly r polled agreed q p y a (Ok u) h = rw (e, R.came, k, q, p, y, a, number_is g built es s x b inside A K, h) (λ brought.
          let P : Placed g b m.serial (Waiting r polled agreed) (s.phase b m.serial) = rw q at (A.places m.serial) in
          let i = was_written es fits bytes m R.came _ brought in
          finishing r polled agreed (ap (λ v. place_of x.tables.places v) P.1.named ∙ q)
          (subst (λ v. Among (said es) (vote_yes m.sender b v)) (sym P.1.named) (yes_said k y i)) (eqb-true _ _ a) u h)

      waiting : (r : Row) (polled agreed : ℕ) → place_of x.tables.places m.serial ≡ Waiting r polled agreed
          → (p : Bool) → is_in polled m.sender ≡ p → (y : Bool) → eqb m.detail 1 ≡ y → (a : Bool) → eqb (with_board agreed m.sender) polled ≡ a → Brought es (deliver bytes room) (does x (deliver bytes room)).answer → Steps g es s b x (deliver bytes room)
      waiting r polled agreed q false p y' y a' a = rw (e, R.came, k, q, p) (λ brought. still g built es s x b inside A K)
      waiting r polled agreed q true p false y a' a = rw (e, R.came, k, q, p, y) (λ brought.
          let P : Placed g b m.serial (Waiting r polled agreed) (s.phase b m.serial) = rw q at (A.places m.serial) in
          refusing r polled agreed (ap (λ v. place_of x.tables.places v) P.1.named ∙ q))
      waiting r polled agreed q true p true y false a = rw (e, R.came, k, q, p, y, a) (λ brought.
          let P : Placed g b m.serial (Waiting r polled agreed) (s.phase b m.serial) = rw q at (A.places m.serial) in
          let i = was_written es fits bytes m R.came 0 brought in
          noting r polled agreed (ap (λ v. place_of x.tables.places v) P.1.named ∙ q)
          (subst (λ v. Among (said es) (vote_yes m.sender b v)) (sym P.1.named) (yes_said k y i)))
      waiting r polled agreed q true p true y true a = lastly r polled agreed q p y a (may_append x (next g built es s x b inside A K r)) refl

      by : (p : Place) → place_of x.tables.places m.serial ≡ p → (v : Bool) → is_late ≡ v → Brought es (deliver bytes room) (does x (deliver bytes room)).answer → Steps g es s b x (deliver bytes room)
      by Free q false t = rw (e, R.came, k, q, t) (λ brought. still g built es s x b inside A K)
      by Free q true t = rw (e, R.came, k, q, t) (λ brought.
          let P : Placed g b m.serial Free (s.phase b m.serial) = rw q at (A.places m.serial) in
          ended_late k t (was_written es fits bytes m R.came 1 brought) P)
      by (Committed u n) q false t = rw (e, R.came, k, q, t) (λ brought. still g built es s x b inside A K)
      by (Committed u n) q true t = rw (e, R.came, k, q, t) (λ brought.
          let P : Placed g b m.serial (Committed u n) (s.phase b m.serial) = rw q at (A.places m.serial) in
          ended_late k t (was_written es fits bytes m R.came 1 brought) P.2)
      by (Aborted u) q false t = rw (e, R.came, k, q, t) (λ brought. still g built es s x b inside A K)
      by (Aborted u) q true t = rw (e, R.came, k, q, t) (λ brought.
          let P : Placed g b m.serial (Aborted u) (s.phase b m.serial) = rw q at (A.places m.serial) in
          ended_late k t (was_written es fits bytes m R.came 1 brought) P.2)
      by (Open r) q false t = rw (e, R.came, k, q, t) (λ brought. still g built es s x b inside A K)
      by (Open r) q true t = rw (e, R.came, k, q, t) (λ brought.
          let P : Placed g b m.serial (Open r) (s.phase b m.serial) = rw q at (A.places m.serial) in
          let i = was_written es fits bytes m R.came 1 brought in
          absurd (not_open i k (late_parts k t i).0 r P.0))
      by (Waiting r polled agreed) q v t = waiting r polled agreed q (is_in polled m.sender) refl (eqb m.detail 1) refl (eqb (with_board agreed m.sender) polled) refl
