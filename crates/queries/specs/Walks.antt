-- What a transaction sees of a log, row by row.
use Rattle.std.specs.Prelude.{ℕ, cond, List, [], ◌++◌, ℤ, Option}
use Rattle.std.specs.Option.{option_map}
use Rattle.std.proofs.Common.{of_z}
use Rattle.std.specs.Int.{w32}
use Rattle.record.specs.Rows.{updates_of}
use Rattle.record.specs.Updates.{is_covered, covered_updates}
use Rattle.record.specs.declared.clock.Clock.{Clock}
use Rattle.record.specs.declared.row.Row.{Row}
use Rattle.record.specs.declared.row.Update.{Update}

-- the updates of a row, if the clock covers it
abbrev pub updates_if : Clock → Row → List Update
updates_if clock r = cond (is_covered clock r) (updates_of r) []

-- what a transaction sees: the covered rows in the order of the log, and then its own updates
abbrev pub visible : List Row → Row → List Update
visible rows r = covered_updates rows r.start ++ updates_of r

-- the word that an operand stands for
abbrev pub word_of : Option ℤ → Option ℕ
word_of operand = option_map (of_z w32) operand
