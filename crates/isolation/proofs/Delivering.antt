-- Deliver is a step of the machine.
use Rattle.std.proofs.Common.{◌≡◌, ℕ, ◌<◌, List, Ok, Err, Result, sym, refl, ap, ◌∙◌}
use mathlib.Core.List.{Memᴰ}
use Rattle.record.specs.declared.fault.Fault.{Fault}
use Rattle.record.specs.declared.kind.RecordKind.{RecordKind}
use Rattle.record.specs.declared.kind.RecordKind.TheVariants.{Prepare, Vote, Abort, Propagate, Ack, Durable, Row as RowKind}
use Rattle.record.specs.declared.message.Record.{Record}
use Rattle.record.specs.Rows.{row_of}
use Rattle.record.specs.Verdicts.{and_then}
use Rattle.board.specs.Commits.{buffer_fits}
use Rattle.bus.specs.Received.{received}
use Rattle.board.specs.Effects.{State as Board}
use Rattle.isolation.specs.Calls.{does, deliver}
use Rattle.isolation.specs.Events.{Event, seen_all, written_by}
use Rattle.isolation.specs.Groups.{Group, Built, Brought}
use Rattle.isolation.specs.Isolation.{regular_in}
use Rattle.isolation.specs.Machine.{State, Among}
use Rattle.isolation.proofs.Acknowledging.{on_ack_holds}
use Rattle.isolation.proofs.Carried.{FitRow}
use Rattle.isolation.proofs.Opening.{and_then_holds, still}
use Rattle.isolation.proofs.Preparing.{on_prepare_holds}
use Rattle.isolation.proofs.Receiving.{Received, received_is}
use Rattle.isolation.proofs.Releasing.{on_abort_holds}
use Rattle.isolation.proofs.Runs.{Kept}
use Rattle.isolation.proofs.Showing.{on_durable_holds}
use Rattle.isolation.proofs.Simulation.{preferred_in, said, At, Steps}
use Rattle.isolation.proofs.Taking.{on_propagate_holds}
use Rattle.isolation.proofs.Voting.{on_vote_holds}

module _ (g : Group) (built : Built g) (es : List Event) (s : State) (x : Board) (b : ℕ) (inside : b < g.boards) (A : At g x s b)
    (K : Kept (regular_in g) (preferred_in g) g.boards (seen_all es) s (Among (said es))) (fits : (m : Record) → Memᴰ m (written_by es) → FitRow (row_of m))
    (bytes : List ℕ) (room : ℕ) where
  accepted : (m : Record) → and_then (buffer_fits room) (λ _. received x.tables.config bytes) ≡ Ok m → Received g b bytes m
  accepted m e =
      let (u, a, k) = and_then_holds (buffer_fits room) (λ _. received x.tables.config bytes) m e in
      received_is g b bytes m (ap (λ c. received c bytes) (sym A.config) ∙ k)

  pub steps_deliver : Brought es (deliver bytes room) (does x (deliver bytes room)).answer → Steps g es s b x (deliver bytes room)
  steps_deliver = by (and_then (buffer_fits room) (λ _. received x.tables.config bytes)) refl
    where
      kinds : (m : Record) → and_then (buffer_fits room) (λ _. received x.tables.config bytes) ≡ Ok m → (k : RecordKind) → m.kind ≡ k → Brought es (deliver bytes room) (does x (deliver bytes room)).answer → Steps g es s b x (deliver bytes room)
      kinds m e Prepare k = on_prepare_holds g built es s x b inside A K fits bytes room m e (accepted m e) k
      kinds m e Vote k = on_vote_holds g built es s x b inside A K fits bytes room m e (accepted m e) k
      kinds m e Abort k = on_abort_holds g built es s x b inside A K fits bytes room m e (accepted m e) k
      kinds m e Propagate k = on_propagate_holds g built es s x b inside A K fits bytes room m e (accepted m e) k
      kinds m e Ack k = on_ack_holds g built es s x b inside A K fits bytes room m e (accepted m e) k
      kinds m e Durable k = on_durable_holds g built es s x b inside A K fits bytes room m e (accepted m e) k
      kinds m e RowKind k = rw (e, (accepted m e).came, k) (λ brought. still g built es s x b inside A K)

      by : (v : Result Record Fault) → and_then (buffer_fits room) (λ _. received x.tables.config bytes) ≡ v → Brought es (deliver bytes room) (does x (deliver bytes room)).answer → Steps g es s b x (deliver bytes room)
      by (Err f) e = rw e (λ brought. still g built es s x b inside A K)
      by (Ok m) e = kinds m e m.kind refl
