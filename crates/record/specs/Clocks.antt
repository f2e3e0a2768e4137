-- Clocks: what they cover, which reaches which, and what raising an entry does.
use Rattle.std.specs.Prelude.{ℕ, max, Bool, nat_le, slice_index, slice_set}
use Rattle.std.specs.List.{range_with_len, list_all}
use Rattle.record.specs.declared.clock.Clock.{Clock}

-- the number for board j; 0 for a board that no group has
abbrev pub entry_of : Clock → ℕ → ℕ
entry_of c j = slice_index c.entries j

-- a clock covers row s of board j if its entry for j is at least s
abbrev pub covered : Clock → ℕ → ℕ → Bool
covered c j s = nat_le s (entry_of c j)

-- a clock reaches another if each of its eight entries is at least the other's
abbrev pub reached : Clock → Clock → Bool
reached c d = list_all (λ j. nat_le (entry_of d j) (entry_of c j)) (range_with_len 0 8)

-- the entry for board j is raised to s, and no other is changed
abbrev pub raised : Clock → ℕ → ℕ → Clock
raised c j s = record { entries = slice_set c.entries j (max (entry_of c j) s) }
