-- Building a board.
use Rattle.std.specs.Prelude.{ℕ, Bool, cond, ◌&&◌, List, length, Err, Result, ◌==◌}
use Rattle.record.specs.Faults.{keeper_fault}
use Rattle.record.specs.declared.fault.Denial.TheVariants.{Build}
use Rattle.record.specs.declared.fault.Fault.{Fault}
use Rattle.record.specs.declared.row.Row.{Row}
use Rattle.config.specs.Builds.{build_check}
use Rattle.config.specs.declared.config.Config.{Config}

-- the keeper's memory is fit and its list empty, and then the numbers are in order
abbrev pub build_answer : Bool → List Row → Config → ℕ → Result (Unit {0}) Fault
build_answer ready rows config first =
    cond (ready && length rows == 0) (build_check config first) (Err (keeper_fault Build))
