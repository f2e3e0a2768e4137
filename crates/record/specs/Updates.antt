-- What lists of updates do to a regular object, and which updates a clock covers.
use Rattle.std.specs.Prelude.{ℕ, Bool, cond, List, ℤ, Some, None, fold, filter, Option, ◌==◌}
use Rattle.std.specs.List.{flat_map}
use Rattle.record.specs.Clocks.{covered}
use Rattle.record.specs.Rows.{updates_of}
use Rattle.record.specs.declared.clock.Clock.{Clock}
use Rattle.record.specs.declared.row.Row.{Row}
use Rattle.record.specs.declared.row.Update.{Update}

-- an update of an object puts its operand in the place of what was there
abbrev pub put_by : ℕ → Option ℤ → Update → Option ℤ
put_by object found u = cond (u.object == object) (Some u.operand) found

-- the operand of the last update of an object; none if there is none
abbrev pub last_put : ℕ → List Update → Option ℤ
last_put object us = fold (put_by object) None us

-- a clock covers a row if it covers the row's number of its home
abbrev pub is_covered : Clock → Row → Bool
is_covered clock r = covered clock r.home r.number

-- the updates of the rows that a clock covers, in the order of the rows
abbrev pub covered_updates : List Row → Clock → List Update
covered_updates rows clock = flat_map updates_of (filter (is_covered clock) rows)
