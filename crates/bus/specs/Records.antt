-- The records that a board writes.
use Rattle.std.specs.Prelude.{ℕ, Bool, not, ◌&&◌, List, map, replicate, filter, ◌==◌}
use Rattle.std.specs.List.{range_with_len}
use Rattle.record.specs.Rows.{zero_clock, no_update}
use Rattle.record.specs.declared.kind.RecordKind.{RecordKind}
use Rattle.record.specs.declared.kind.RecordKind.TheVariants.{Vote, Abort, Ack, Durable}
use Rattle.record.specs.declared.message.Record.{Record}
use Rattle.config.specs.declared.config.Config.{Config}

-- a record without clock and updates
abbrev pub plain : RecordKind → ℕ → ℕ → ℕ → ℕ → ℕ → Record
plain kind sender receiver detail serial number =
    record {
      kind = kind;
      sender = sender;
      receiver = receiver;
      detail = detail;
      serial = serial;
      number = number;
      start = zero_clock;
      updates = replicate 4 no_update;
    }

-- 1 is yes
abbrev pub vote : Config → ℕ → ℕ → ℕ → Record
vote c receiver answer serial = plain Vote c.own receiver answer serial 0

abbrev pub abort : Config → ℕ → ℕ → Record
abort c serial receiver = plain Abort c.own receiver 0 serial 0

abbrev pub ack : Config → ℕ → ℕ → Record
ack c number receiver = plain Ack c.own receiver 0 0 number

abbrev pub durable : Config → ℕ → ℕ → Record
durable c number receiver = plain Durable c.own receiver 0 0 number

-- the other boards that pass a test, in ascending order
abbrev pub others : Config → (ℕ → Bool) → List ℕ
others c p = filter (λ b. not (b == c.own) && p b) (range_with_len 0 c.boards)

-- a record to each of them
abbrev pub to_others : Config → (ℕ → Bool) → (ℕ → Record) → List Record
to_others c p to = map to (others c p)
