-- Delivering a PROPAGATE is a step of the machine.
use Rattle.std.proofs.Common.{◌≡◌, ℕ, suc, ◌<◌, Bool, true, false, ◌&&◌, ◌≢◌, List, [], ◌∷◌, length, Ok, Err, Result, refl, ◌∙◌, arith}
use mathlib.Core.List.{Memᴰ}
use Rattle.std.proofs.lemmas.Bool.{and_parts, eqb-true}
use Rattle.record.specs.declared.fault.Fault.{Fault}
use Rattle.record.specs.declared.message.Record.{Record}
use Rattle.record.specs.Clocks.{entry_of, covered, reached}
use Rattle.record.specs.Rows.{row_of, zero_clock}
use Rattle.record.specs.Verdicts.{and_then, need}
use Rattle.board.specs.Commits.{buffer_fits}
use Rattle.bus.specs.Received.{received}
use Rattle.board.specs.Effects.{State as Board}
use Rattle.isolation.specs.Books.{nothing}
use Rattle.isolation.specs.Calls.{does, deliver}
use Rattle.isolation.specs.Events.{Event, seen_all, written_by}
use Rattle.isolation.specs.Groups.{Group, Built, Brought}
use Rattle.isolation.specs.Isolation.{regular_in}
use Rattle.isolation.specs.Laws.{Writes}
use Rattle.isolation.specs.Machine as machine
use Rattle.isolation.specs.Machine.{State, Among}
use Rattle.isolation.proofs.Built.{needed, boards_few}
use Rattle.isolation.proofs.Carried.{FitRow, fit_bare, fit_zero}
use Rattle.isolation.proofs.Opening.{and_then_holds, still}
use Rattle.isolation.proofs.Receiving.{Received, was_written, says, apart_propagate}
use Rattle.isolation.proofs.Runs.{Kept}
use Rattle.isolation.proofs.Sending.{may_one, fit_one}
use Rattle.isolation.proofs.Simulation.{preferred_in, said, At, Step, Steps}
use Rattle.record.specs.declared.fault.Denial.TheVariants.{Early}
use Rattle.record.specs.declared.kind.RecordKind.TheVariants.{Propagate}
use Rattle.keeper.specs.Logs.{admitted}
use Rattle.tables.specs.Changes.{with_got}
use Rattle.board.specs.Delivers.{is_next, may_take}
use Rattle.bus.specs.Records.{ack}
use Rattle.isolation.proofs.Boards.{with_row, at_taken}
use Rattle.isolation.proofs.Reaching.{reaches}

module _ (g : Group) (built : Built g) (es : List Event) (s : State) (x : Board) (b : ℕ) (inside : b < g.boards) (A : At g x s b)
    (K : Kept (regular_in g) (preferred_in g) g.boards (seen_all es) s (Among (said es))) (fits : (m : Record) → Memᴰ m (written_by es) → FitRow (row_of m))
    (bytes : List ℕ) (room : ℕ) (m : Record) (e : and_then (buffer_fits room) (λ _. received x.tables.config bytes) ≡ Ok m) (R : Received g b bytes m) where
  ack_fits : FitRow (row_of m) → FitRow (row_of (ack x.tables.config m.number m.sender))
  ack_fits F = fit_bare x.tables.config.own 0 m.number 0 zero_clock (omega arith) F.number_fits fit_zero

  again : FitRow (row_of m) → Step g es s b nothing x (ack x.tables.config m.number m.sender ∷ [])
  again F = record {
    s' = s;
    move = machine.rest b nothing machine.silent;
    may = may_one (Writes (regular_in g)) (preferred_in g) s (Among (said es)) (ack x.tables.config m.number m.sender) tt;
    at = A;
    fits = fit_one (ack x.tables.config m.number m.sender) (ack_fits F);
  }

  taking : FitRow (row_of m) → Among (said es) (machine.propagate (row_of m)) → m.receiver ≢ m.sender → (w : Unit {0}) → may_take x (row_of m) ≡ Ok w
      → Step g es s b nothing (with_row x (with_got x.tables m.sender m.number) (row_of m)) (ack x.tables.config m.number m.sender ∷ [])
  taking F sent apart w may =
      let (u, n, k) = and_then_holds (need (is_next m.number (entry_of x.tables.got m.sender) && reached x.tables.got m.start) Early) (λ _. admitted (row_of m) (length x.rows) x.capacity) w may in
      let (next, past) = and_parts (is_next m.number (entry_of x.tables.got m.sender)) (reached x.tables.got m.start) (needed _ Early u n) in
      let few = boards_few g built b inside in
      let is : m.number ≡ suc (s.got b m.sender) = omega (arith, eqb-true _ _ next, A.gots m.sender) in
      record {
        s' = machine.takes s b (row_of m);
        move = machine.take b (row_of m) R.from sent (λ q. apart (R.here ∙ q)) is (λ j. omega (arith, reaches x.tables.got m.start F.clock.eight past j, A.gots j));
        may = may_one (Writes (regular_in g)) (preferred_in g) (machine.takes s b (row_of m)) (Among (said es)) (ack x.tables.config m.number m.sender) tt;
        at = at_taken g x s b A (row_of m) (omega (arith, R.from)) F is;
        fits = fit_one (ack x.tables.config m.number m.sender) (ack_fits F);
      }

  pub on_propagate_holds : m.kind ≡ Propagate → Brought es (deliver bytes room) (does x (deliver bytes room)).answer → Steps g es s b x (deliver bytes room)
  on_propagate_holds k = by (covered x.tables.got m.sender m.number) refl (may_take x (row_of m)) refl
    where
      by : (v : Bool) → covered x.tables.got m.sender m.number ≡ v → (w : Result (Unit {0}) Fault) → may_take x (row_of m) ≡ w → Brought es (deliver bytes room) (does x (deliver bytes room)).answer → Steps g es s b x (deliver bytes room)
      by true c w t = rw (e, R.came, k, c) (λ brought. again (fits m (was_written es fits bytes m R.came 1 brought)))
      by false c (Err f) t = rw (e, R.came, k, c, t) (λ brought. still g built es s x b inside A K)
      by false c (Ok u) t = rw (e, R.came, k, c, t) (λ brought.
          let i = was_written es fits bytes m R.came 1 brought in
          taking (fits m i) (rw k at (says es m i)) (apart_propagate m R.lawful k) u t)
