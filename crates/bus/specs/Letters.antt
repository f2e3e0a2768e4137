-- What a board tells several others at once.
use Rattle.std.specs.Prelude.{ℕ, Bool, true, cond, not, ◌&&◌, ◌||◌, List, [], ◌∷◌, Ok, Err, Result, ◌==◌}
use Rattle.record.specs.Clocks.{covered}
use Rattle.record.specs.Rows.{record_of}
use Rattle.record.specs.declared.fault.Fault.{Fault}
use Rattle.record.specs.declared.kind.RecordKind.TheVariants.{Prepare as PrepareKind, Propagate as PropagateKind}
use Rattle.record.specs.declared.message.Record.{Record}
use Rattle.config.specs.BoardSets.{is_in}
use Rattle.config.specs.declared.config.Config.{Config}
use Rattle.bus.specs.declared.sending.Sending.{Sending}
use Rattle.bus.specs.declared.sending.Sending.TheVariants.{Nothing, One, Several}
use Rattle.bus.specs.Records.{abort, durable, to_others}
use Rattle.bus.specs.declared.letter.Letter.{Letter}
use Rattle.bus.specs.declared.letter.Letter.TheVariants.{Prepare, PrepareAgain, Propagate, Abort, Durable, Reminder}

-- whether a board is meant
abbrev pub is_for : Letter → ℕ → Bool
is_for (Prepare r polled) board = is_in polled board
is_for (PrepareAgain r polled agreed) board = is_in polled board && not (is_in agreed board)
is_for (Propagate r) board = true
is_for (Abort serial agreed) board = is_in agreed board
is_for (Durable number) board = true
is_for (Reminder r acknowledged is_durable) board = not (covered acknowledged board r.number) || is_durable

abbrev pub letter_to : Config → Letter → ℕ → Record
letter_to c (Prepare r polled) board = record_of PrepareKind board r
letter_to c (PrepareAgain r polled agreed) board = record_of PrepareKind board r
letter_to c (Propagate r) board = record_of PropagateKind board r
letter_to c (Abort serial agreed) board = abort c serial board
letter_to c (Durable number) board = durable c number board
letter_to c (Reminder r acknowledged is_durable) board =
    cond (covered acknowledged board r.number) (durable c r.number board) (record_of PropagateKind board r)

-- whether a board is another one, and meant
abbrev pub goes_to : Config → Letter → ℕ → Bool
goes_to c letter board = not (board == c.own) && is_for letter board

-- the records that a letter is
abbrev pub letters_of : Config → Letter → List Record
letters_of c letter = to_others c (is_for letter) (letter_to c letter)

-- the records that a call has to send
abbrev pub records_of : Config → Sending → List Record
records_of c Nothing = []
records_of c (One m) = m ∷ []
records_of c (Several letter) = letters_of c letter

abbrev pub records_in : Config → Result Sending Fault → Result (List Record) Fault
records_in c (Ok sending) = Ok (records_of c sending)
records_in c (Err fault) = Err fault
