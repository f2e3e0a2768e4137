-- A log: what its keeper answers to one more row, and which rows it has then.
use Rattle.std.specs.Prelude.{◌≡◌, ℕ, ◌≤◌, Bool, true, cond, List, [], ◌∷◌, ◌++◌, is_ok, Ok, Err, Result, nat_le, nat_lt}
use Rattle.std.specs.Int.{is_in_range}
use Rattle.std.specs.Result.{result_and}
use Rattle.std.proofs.lemmas.Bool.{leb-true, and_parts}
use Rattle.record.specs.declared.fault.Denial.TheVariants.{LogFull}
use Rattle.record.specs.declared.fault.Fault.{Fault}
use Rattle.record.specs.declared.kind.RecordKind.TheVariants.{Row as RowKind}
use Rattle.record.specs.declared.message.Record.{Record}
use Rattle.record.specs.declared.row.Row.{Row}
use Rattle.record.specs.Faults.{keeper_fault}
use Rattle.record.specs.Rows.{record_of}
use Rattle.record.specs.Codec.{checked}

-- ## Capacity

-- how many rows a log may be made for: 1 to 4096
abbrev pub fitting : ℕ → Bool
fitting rows = is_in_range 1 4096 rows

pub fitting_bounds : (rows : ℕ) → fitting rows ≡ true → (1 ≤ rows) × (rows ≤ 4096)
fitting_bounds rows fit =
    let both : (nat_le 1 rows ≡ true) × (nat_le rows 4096 ≡ true) = and_parts _ _ fit in
    (leb-true _ _ both.0, leb-true _ _ both.1)

-- ## One more row

-- the ROW record of a row, which is for no board
abbrev pub row_record : Row → Record
row_record row = record_of RowKind 255 row

abbrev pub log_full : Fault
log_full = keeper_fault LogFull

-- a log that has reached its capacity is full
abbrev pub room : ℕ → ℕ → Result (Unit {0}) Fault
room count capacity = cond (nat_lt count capacity) (Ok tt) (Err log_full)

-- what append answers: the verdict on the row's record comes before that on the room
abbrev pub admitted : Row → ℕ → ℕ → Result (Unit {0}) Fault
admitted row count capacity = result_and (checked (row_record row)) (room count capacity)

-- the rows after append: the new one stands at the end if it was admitted, and nothing else is changed
abbrev pub appended : Result (Unit {0}) Fault → Row → List Row → List Row
appended answer row rows = cond (is_ok answer) (rows ++ row ∷ []) rows
