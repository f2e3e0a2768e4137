-- Events of a run, and what each tells the books.
use Rattle.std.specs.Prelude.{ℕ, List, [], ◌∷◌, ◌++◌, map, Ok, Err, Result}
use Rattle.std.proofs.Common.{to_z}
use Rattle.std.specs.Int.{w32}
use Rattle.record.specs.Codec.{decoded}
use Rattle.record.specs.declared.fault.Fault.{Fault}
use Rattle.record.specs.declared.kind.RecordKind.{RecordKind}
use Rattle.record.specs.declared.kind.RecordKind.TheVariants.{Prepare, Vote, Abort, Propagate, Ack, Durable, Row}
use Rattle.record.specs.declared.message.Record.{Record}
use Rattle.isolation.specs.Books.{Told, started, changed, propagated, heard, nothing, Seen}
use Rattle.isolation.specs.Calls.{Call, start, put, merge, read, look, commit, abandon, settle, deliver, resend, Answer, denied, done, serial, word, shown, outcome, settled, count}

-- a call on a board, its answer, and the records it wrote
pub record Event : Type 0 where
  pub board : ℕ
  pub call : Call
  pub answer : Answer
  pub written : List Record

-- what a record tells that was written, or what the next ones tell
abbrev propagated_by : RecordKind → Record → Told → Told
propagated_by Prepare m next = next
propagated_by Vote m next = next
propagated_by Abort m next = next
propagated_by Propagate m next = propagated m.serial m.number
propagated_by Ack m next = next
propagated_by Durable m next = next
propagated_by Row m next = next

-- the first PROPAGATE that was written; where there is none, something else
abbrev pub first_propagate : List Record → Told → Told
first_propagate [] other = other
first_propagate (m ∷ ms) other = propagated_by m.kind m (first_propagate ms other)

abbrev heard_by : RecordKind → Record → Told
heard_by Prepare m = nothing
heard_by Vote m = nothing
heard_by Abort m = nothing
heard_by Propagate m = nothing
heard_by Ack m = nothing
heard_by Durable m = heard m.sender m.number
heard_by Row m = nothing

-- a DURABLE among the bytes that were brought
abbrev pub durable_in : Result Record Fault → Told
durable_in (Ok m) = heard_by m.kind m
durable_in (Err fault) = nothing

-- only an answer that is no denial tells anything
abbrev unless_denied : Answer → Told → Told
unless_denied (denied fault) w = nothing
unless_denied done w = w
unless_denied (serial t) w = w
unless_denied (word v) w = w
unless_denied shown w = w
unless_denied (outcome o) w = w
unless_denied (settled o) w = w
unless_denied (count k) w = w

abbrev started_by : Answer → Told
started_by (denied fault) = nothing
started_by done = nothing
started_by (serial t) = started t
started_by (word v) = nothing
started_by shown = nothing
started_by (outcome o) = nothing
started_by (settled o) = nothing
started_by (count k) = nothing

abbrev pub told_by : Call → Answer → List Record → Told
told_by start a ms = started_by a
told_by (put home t object w) a ms = unless_denied a (changed t (record { object = object; element = 0; operand = to_z w32 w }))
told_by (merge kind admitted home t object element operand) a ms =
    unless_denied a (changed t (record { object = object; element = element; operand = operand }))
told_by (read home t object) a ms = nothing
told_by (look kind home t object element) a ms = nothing
told_by (commit home t room) a ms = first_propagate ms nothing
told_by (abandon home t) a ms = nothing
told_by (settle home t) a ms = nothing
told_by (deliver bytes room) a ms = unless_denied a (first_propagate ms (durable_in (decoded bytes)))
told_by (resend t room) a ms = first_propagate ms nothing

abbrev pub seen : Event → Seen
seen e = record { board = e.board; told = told_by e.call e.answer e.written }

-- the events as the books see them
abbrev pub seen_all : List Event → List Seen
seen_all es = map seen es

-- every record that the events wrote
abbrev pub written_by : List Event → List Record
written_by [] = []
written_by (e ∷ es) = e.written ++ written_by es
