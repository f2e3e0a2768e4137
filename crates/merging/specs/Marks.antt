-- The highest mark.
use Rattle.std.specs.Prelude.{ℤ, Some, None, Option}
use Rattle.std.specs.Int.{int_max}

-- the larger of a mark and an operand; the operand where there is no mark yet
abbrev pub higher : Option ℤ → ℤ → Option ℤ
higher None a = Some a
higher (Some m) a = Some (int_max m a)
