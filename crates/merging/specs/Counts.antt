-- The count.
use Rattle.std.specs.Prelude.{Bool, ℤ, pos, negsuc, ◌+ℤ◌, ◌==◌}
use Rattle.std.specs.Int.{int_wrap, w32}

-- whether an operand is 1 or -1
abbrev pub by_one : ℤ → Bool
by_one (pos n) = n == 1
by_one (negsuc n) = n == 0

-- the sum of a value and an operand, wrapped to signed 32 bits
abbrev pub added : ℤ → ℤ → ℤ
added v a = int_wrap w32 (v +ℤ a)
