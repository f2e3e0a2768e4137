-- Resend: what others may still lack of a waiting transaction or of an own row.
use Rattle.std.specs.Prelude.{ℕ, cond, not, ◌&&◌, ◌||◌, List, length, Some, None, Ok, Option, Result}
use Rattle.record.specs.declared.fault.Denial.TheVariants.{NoTransaction, WrongState}
use Rattle.record.specs.declared.fault.Fault.{Fault}
use Rattle.record.specs.declared.kind.RecordKind.TheVariants.{Propagate}
use Rattle.record.specs.declared.message.Record.{Record}
use Rattle.record.specs.declared.row.Row.{Row}
use Rattle.record.specs.Clocks.{covered}
use Rattle.record.specs.Rows.{record_of}
use Rattle.config.specs.BoardSets.{is_in}
use Rattle.config.specs.Durable.{is_durable}
use Rattle.tables.specs.Places.{place_of}
use Rattle.tables.specs.declared.place.Place.{Place}
use Rattle.tables.specs.declared.place.Place.TheVariants.{Free, Open, Waiting, Committed, Aborted}
use Rattle.tables.specs.declared.tables.Tables.{Tables}
use Rattle.board.specs.Commits.{prepares, buffer_fits}
use Rattle.board.specs.Effects.{State, Effect, or_refused}
use Rattle.queries.specs.Logs.{find_row, by_serial}
use Rattle.bus.specs.Records.{durable, to_others}
use Rattle.record.specs.Verdicts.{and_then, denied}

-- PROPAGATE to a board that has not acknowledged the row, and else DURABLE, if the row is
abbrev pub reminder : Tables → Row → ℕ → Record
reminder t r board =
    cond (covered t.acknowledged board r.number) (durable t.config r.number board) (record_of Propagate board r)

abbrev pub reminders : Tables → Row → List Record
reminders t r =
    to_others t.config (λ b. not (covered t.acknowledged b r.number) || is_durable t.config t.acknowledged r) (reminder t r)

abbrev of_row : Tables → Option Row → Result (List Record) Fault
of_row t None = denied NoTransaction
of_row t (Some r) = Ok (reminders t r)

-- of the own row with a serial
abbrev pub of_own_row : State → ℕ → Result (List Record) Fault
of_own_row s serial = of_row s.tables (find_row (by_serial s.tables.config.own serial) s.rows)

abbrev of_place : State → ℕ → Place → Result (List Record) Fault
of_place s serial Free = of_own_row s serial
of_place s serial (Open r) = denied WrongState
of_place s serial (Waiting r polled agreed) = Ok (prepares s.tables.config r (λ b. is_in polled b && not (is_in agreed b)))
of_place s serial (Committed own number) = of_own_row s serial
of_place s serial (Aborted own) = denied WrongState

-- what is due to others for a serial
abbrev pub due : State → ℕ → Result (List Record) Fault
due s serial = of_place s serial (place_of s.tables.places serial)

-- some records are written and nothing else is done; the answer is their count
abbrev pub sent : State → List Record → Effect ℕ
sent s records = record { answer = Ok (length records); tables = s.tables; rows = s.rows; written = records }

abbrev pub resend : State → ℕ → ℕ → Effect ℕ
resend s serial room =
    or_refused s (and_then (due s serial) (λ records. and_then (buffer_fits room) (λ _. Ok records))) (sent s)
