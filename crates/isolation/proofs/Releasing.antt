-- Delivering an ABORT is a step of the machine.
use Rattle.std.proofs.Common.{◌≡◌, ℕ, ◌<◌, List, Ok}
use mathlib.Core.List.Memᴰ
use mathlib.Core.List.{Memᴰ}
use Rattle.record.specs.declared.kind.RecordKind.TheVariants.{Abort}
use Rattle.record.specs.declared.message.Record.{Record}
use Rattle.record.specs.Rows.{row_of}
use Rattle.record.specs.Verdicts.{and_then}
use Rattle.board.specs.Commits.{buffer_fits}
use Rattle.bus.specs.Received.{received}
use Rattle.board.specs.Effects.{State as Board}
use Rattle.isolation.specs.Calls.{does, deliver}
use Rattle.isolation.specs.Events.{Event, seen_all, written_by}
use Rattle.isolation.specs.Groups.{Group, Built, Brought}
use Rattle.isolation.specs.Isolation.{regular_in}
use Rattle.isolation.specs.Machine as machine
use Rattle.isolation.specs.Machine.{State, Among, frees}
use Rattle.isolation.proofs.Boards.{at_released}
use Rattle.isolation.proofs.Carried.{FitRow}
use Rattle.isolation.proofs.Receiving.{Received, was_written, says}
use Rattle.isolation.proofs.Runs.{Kept}
use Rattle.isolation.proofs.Simulation.{preferred_in, said, At, Steps}

module _ (g : Group) (built : Built g) (es : List Event) (s : State) (x : Board) (b : ℕ) (inside : b < g.boards) (A : At g x s b)
    (K : Kept (regular_in g) (preferred_in g) g.boards (seen_all es) s (Among (said es))) (fits : (m : Record) → Memᴰ m (written_by es) → FitRow (row_of m))
    (bytes : List ℕ) (room : ℕ) (m : Record) (e : and_then (buffer_fits room) (λ _. received x.tables.config bytes) ≡ Ok m) (R : Received g b bytes m) where
  pub on_abort_holds : m.kind ≡ Abort → Brought es (deliver bytes room) (does x (deliver bytes room)).answer → Steps g es s b x (deliver bytes room)
  on_abort_holds k = rw (e, R.came, k) (λ brought.
      let told : Among (said es) (machine.abort m.sender m.serial) = rw k at (says es m (was_written es fits bytes m R.came 0 brought)) in
      record {
        s' = machine.with_locks s (frees s.lock b m.sender m.serial);
        move = machine.release b m.sender m.serial told;
        may = λ v i. absurd (Memᴰ.not-nil i);
        at = at_released g x s b A m.sender m.serial;
        fits = λ v i. absurd (Memᴰ.not-nil i);
      })
