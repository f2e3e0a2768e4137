-- A table of rows, of which the first are used.
use Rattle.std.specs.Prelude.{◌≡◌, ℕ, ◌≤◌, Bool, true, List, length, take}
use Rattle.std.proofs.Common.{arith}
use Rattle.std.proofs.lemmas.List.{length-take}
use Rattle.record.specs.declared.row.Row.{Row}
use Rattle.keeper.specs.Logs.{fitting, fitting_bounds}

-- the rows of the log
abbrev pub table_rows : ℕ → List Row → List Row
table_rows used table = take used table

abbrev pub table_capacity : List Row → ℕ
table_capacity table = length table

-- a table that a log may begin on: 1 to 4096 rows, whatever they hold
abbrev pub table_ready : List Row → Bool
table_ready table = fitting (table_capacity table)

pub table_within : (used : ℕ) (table : List Row) → length (table_rows used table) ≤ table_capacity table
table_within used table = omega (arith, length-take used table)

pub table_sized : (table : List Row) → table_ready table ≡ true → (1 ≤ table_capacity table) × (table_capacity table ≤ 4096)
table_sized table = fitting_bounds (table_capacity table)
