-- Verdicts: an acceptance, or the fault of a refusal.
use Rattle.std.specs.Prelude.{Bool, cond, Ok, Err, Result}
use Rattle.record.specs.Faults.{board_fault}
use Rattle.record.specs.declared.fault.Denial.{Denial}
use Rattle.record.specs.declared.fault.Fault.{Fault}

-- what follows an acceptance; a refusal stays one
abbrev pub and_then : {X Y : Type 0} → Result X Fault → (X → Result Y Fault) → Result Y Fault
and_then (Ok x) next = next x
and_then (Err fault) next = Err fault

-- the board refuses
abbrev pub denied : {X : Type 0} → Denial → Result X Fault
denied why = Err (board_fault why)

abbrev pub need : Bool → Denial → Result (Unit {0}) Fault
need b why = cond b (Ok tt) (denied why)
