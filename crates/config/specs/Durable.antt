-- When an own row is durable: enough boards are known to have it.
use Rattle.std.specs.Prelude.{ℕ, ◌+◌, Bool, cond, not, ◌&&◌, ◌||◌, ◌==◌, nat_le}
use Rattle.std.specs.List.{range_with_len, list_all, count_by}
use Rattle.record.specs.Clocks.{covered}
use Rattle.record.specs.Rows.{updates_of}
use Rattle.record.specs.declared.clock.Clock.{Clock}
use Rattle.record.specs.declared.row.Row.{Row}
use Rattle.config.specs.Objects.{is_regular, preferred_of, writes_regular}
use Rattle.config.specs.declared.config.Config.{Config}

-- the board is known to have the own row with this number
abbrev pub is_held : Config → Clock → ℕ → ℕ → Bool
is_held c acknowledged number board = board == c.own || covered acknowledged board number

-- how many boards are known to have it, this one among them
unfoldable pub holders : Config → Clock → ℕ → ℕ
holders c acknowledged number = count_by (is_held c acknowledged number) (range_with_len 0 c.boards)

-- a row that writes a regular object is durable once one board more than may be lost has it, the preferred boards of what it
-- writes among them; any other with its first acknowledgement
abbrev pub is_durable : Config → Clock → Row → Bool
is_durable c acknowledged r =
    cond (writes_regular c (updates_of r))
    (nat_le (c.losses + 1) (holders c acknowledged r.number)
    && list_all (λ u. not (is_regular c u.object) || is_held c acknowledged r.number (preferred_of c u.object)) (updates_of r))
    (nat_le 2 (holders c acknowledged r.number))
