-- Rows, and the records that carry them.
use Rattle.std.specs.Prelude.{ℕ, min, List, take, replicate, pos}
use Rattle.record.specs.declared.kind.RecordKind.{RecordKind}
use Rattle.record.specs.declared.clock.Clock.{Clock}
use Rattle.record.specs.declared.row.Update.{Update}
use Rattle.record.specs.declared.transaction.TransactionId.{TransactionId}
use Rattle.record.specs.declared.row.Row.{Row}
use Rattle.record.specs.declared.message.Record.{Record}

abbrev pub no_update : Update
no_update = record { object = 0; element = 0; operand = pos 0 }

abbrev pub zero_clock : Clock
zero_clock = record { entries = replicate 8 0 }

-- the row of zeros
abbrev pub zero_row : Row
zero_row =
    record { home = 0; serial = 0; number = 0; start = zero_clock; count = 0; updates = replicate 4 no_update }

-- the updates that are used
abbrev pub updates_of : Row → List Update
updates_of r = take (min r.count 4) r.updates

-- the record of a kind that carries a row to a receiver: its home is the sender, and byte 3 counts its updates
abbrev pub record_of : RecordKind → ℕ → Row → Record
record_of kind receiver r =
    record {
      kind = kind;
      sender = r.home;
      receiver = receiver;
      detail = r.count;
      serial = r.serial;
      number = r.number;
      start = r.start;
      updates = r.updates;
    }

-- the row that a record carries
abbrev pub row_of : Record → Row
row_of m =
    record {
      home = m.sender;
      serial = m.serial;
      number = m.number;
      start = m.start;
      count = m.detail;
      updates = m.updates;
    }

-- the transaction that was committed as a row
abbrev pub id_of : Row → TransactionId
id_of r = record { home = r.home; serial = r.serial }
