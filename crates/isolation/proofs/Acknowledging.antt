-- Delivering an ACK is a step of the machine.
use Rattle.std.proofs.Common.{◌≡◌, ℕ, ◌<◌, Bool, true, false, List, [], ◌∷◌, map, Some, None, Ok, Option, refl, arith}
use mathlib.Core.List.Memᴰ
use mathlib.Core.List.{Memᴰ}
use Rattle.record.specs.declared.message.Record.{Record}
use Rattle.record.specs.declared.row.Row.{Row}
use Rattle.record.specs.Clocks.{covered}
use Rattle.record.specs.Rows.{row_of, zero_clock}
use Rattle.record.specs.Verdicts.{and_then}
use Rattle.board.specs.Commits.{buffer_fits}
use Rattle.bus.specs.Received.{received}
use Rattle.board.specs.Effects.{State as Board}
use Rattle.isolation.specs.Books.{nothing}
use Rattle.isolation.specs.Calls.{does, deliver}
use Rattle.isolation.specs.Events.{Event, seen_all, written_by, first_propagate}
use Rattle.isolation.specs.Groups.{Group, Built, Brought}
use Rattle.isolation.specs.Isolation.{regular_in}
use Rattle.isolation.specs.Laws.{Writes}
use Rattle.isolation.specs.Machine as machine
use Rattle.isolation.specs.Machine.{State, Among, MayWrite, Message}
use Rattle.isolation.proofs.Carried.{FitRow, fit_bare, fit_zero}
use Rattle.isolation.proofs.Opening.{still}
use Rattle.isolation.proofs.Receiving.{Received}
use Rattle.isolation.proofs.Runs.{Kept}
use Rattle.isolation.proofs.Sending.{may_one, fit_one, fit_copies, none_propagate}
use Rattle.isolation.proofs.Simulation.{meaning, preferred_in, said, At, Step, Steps}
use Rattle.record.specs.declared.kind.RecordKind.TheVariants.{Ack}
use Rattle.tables.specs.Changes.{with_ack}
use Rattle.config.specs.Durable.{is_durable}
use Rattle.queries.specs.Logs.{find_row}
use Rattle.bus.specs.Records.{durable, others, to_others}
use Rattle.isolation.proofs.Boards.{with_tables, at_acknowledged}
use Rattle.isolation.proofs.Resending.{by_number, found_row, may_each}

module _ (g : Group) (built : Built g) (es : List Event) (s : State) (x : Board) (b : ℕ) (inside : b < g.boards) (A : At g x s b)
    (K : Kept (regular_in g) (preferred_in g) g.boards (seen_all es) s (Among (said es))) (fits : (m : Record) → Memᴰ m (written_by es) → FitRow (row_of m))
    (bytes : List ℕ) (room : ℕ) (m : Record) (e : and_then (buffer_fits room) (λ _. received x.tables.config bytes) ≡ Ok m) (R : Received g b bytes m) where
  -- the boards know more, and some records are written
  noting : (ms : List Record) → ((v : Message) → Among (map meaning ms) v → MayWrite (Writes (regular_in g)) (preferred_in g) s (Among (said es)) v) → ((v : Record) → Memᴰ v ms → FitRow (row_of v))
      → Step g es s b nothing (with_tables x (with_ack x.tables m.sender m.number)) ms
  noting ms may fit = record {
    s' = s;
    move = machine.rest b nothing machine.silent;
    may = may;
    at = at_acknowledged g x s b A m.sender m.number;
    fits = fit;
  }

  none : Step g es s b nothing (with_tables x (with_ack x.tables m.sender m.number)) []
  none = noting [] (λ v i. absurd (Memᴰ.not-nil i)) (λ v i. absurd (Memᴰ.not-nil i))

  module _ (r : Row) (found : find_row (by_number m.number x.tables.config.own) x.rows ≡ Some r) where
    durable_fits : (p : ℕ) → FitRow (row_of (durable x.tables.config r.number p))
    durable_fits p =
        let F = A.fit_rows r (found_row (by_number m.number x.tables.config.own) x.rows r found).0 in
        fit_bare x.tables.config.own 0 r.number 0 zero_clock (omega arith) F.number_fits fit_zero

    to_one : Step g es s b nothing (with_tables x (with_ack x.tables m.sender m.number)) (durable x.tables.config r.number m.sender ∷ [])
    to_one = noting (durable x.tables.config r.number m.sender ∷ [])
        (may_one (Writes (regular_in g)) (preferred_in g) s (Among (said es)) (durable x.tables.config r.number m.sender) tt)
        (fit_one (durable x.tables.config r.number m.sender) (durable_fits m.sender))

    to_all : Step g es s b (first_propagate (to_others x.tables.config (λ _. true) (durable x.tables.config r.number)) nothing)
        (with_tables x (with_ack x.tables m.sender m.number)) (to_others x.tables.config (λ _. true) (durable x.tables.config r.number))
    to_all = rw (none_propagate (durable x.tables.config r.number) nothing (λ q v. refl) (others x.tables.config (λ _. true)))
        (noting (to_others x.tables.config (λ _. true) (durable x.tables.config r.number))
        (may_each (Writes (regular_in g)) (preferred_in g) s (Among (said es)) (durable x.tables.config r.number) (λ q. tt) (others x.tables.config (λ _. true)))
        (fit_copies (durable x.tables.config r.number) durable_fits (others x.tables.config (λ _. true))))

  pub on_ack_holds : m.kind ≡ Ack → Brought es (deliver bytes room) (does x (deliver bytes room)).answer → Steps g es s b x (deliver bytes room)
  on_ack_holds k = by (covered x.tables.committed x.tables.config.own m.number) refl (find_row (by_number m.number x.tables.config.own) x.rows) refl
    where
      found : covered x.tables.committed x.tables.config.own m.number ≡ true → (r : Row) → find_row (by_number m.number x.tables.config.own) x.rows ≡ Some r
          → (d : Bool) → is_durable x.tables.config x.tables.acknowledged r ≡ d
          → (d' : Bool) → is_durable x.tables.config (with_ack x.tables m.sender m.number).acknowledged r ≡ d' → Brought es (deliver bytes room) (does x (deliver bytes room)).answer → Steps g es s b x (deliver bytes room)
      found c r f true d d' h = rw (e, R.came, k, c, f, d) (λ brought. to_one r f)
      found c r f false d true h = rw (e, R.came, k, c, f, d, h) (λ brought. to_all r f)
      found c r f false d false h = rw (e, R.came, k, c, f, d, h) (λ brought. none)

      by : (v : Bool) → covered x.tables.committed x.tables.config.own m.number ≡ v
          → (o : Option Row) → find_row (by_number m.number x.tables.config.own) x.rows ≡ o → Brought es (deliver bytes room) (does x (deliver bytes room)).answer → Steps g es s b x (deliver bytes room)
      by false c o f = rw (e, R.came, k, c) (λ brought. still g built es s x b inside A K)
      by true c None f = rw (e, R.came, k, c, f) (λ brought. none)
      by true c (Some r) f = found c r f (is_durable x.tables.config x.tables.acknowledged r) refl (is_durable x.tables.config (with_ack x.tables m.sender m.number).acknowledged r) refl
