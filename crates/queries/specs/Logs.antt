-- Questions to a log.
use Rattle.std.specs.Prelude.{ℕ, Bool, not, ◌&&◌, ◌||◌, List, Option, ◌==◌}
use Rattle.std.specs.List.{list_all, find}
use Rattle.record.specs.Rows.{updates_of}
use Rattle.record.specs.Updates.{is_covered}
use Rattle.record.specs.declared.clock.Clock.{Clock}
use Rattle.record.specs.declared.row.Row.{Row}
use Rattle.config.specs.Objects.{writes}

-- the clock covers every row that writes the object
abbrev pub is_unchanged : List Row → Clock → ℕ → Bool
is_unchanged rows clock object = list_all (λ r. not (writes (updates_of r) object) || is_covered clock r) rows

-- the first row that passes a test
abbrev pub find_row : (Row → Bool) → List Row → Option Row
find_row p rows = find p rows

-- the row is of a home, with this serial
abbrev pub by_serial : ℕ → ℕ → Row → Bool
by_serial home serial r = r.home == home && r.serial == serial

-- the row is of a home, with this number
abbrev pub by_number : ℕ → ℕ → Row → Bool
by_number home number r = r.home == home && r.number == number
