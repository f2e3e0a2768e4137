use Rattle.std.proofs.Common.{◌≡◌, ℕ, ◌<◌, get_or, take}
use Rattle.std.specs.List.{flat_map}
use Rattle.record.specs.Numbers.{u16_bytes}
use Rattle.record.specs.Layout.{written}
use Rattle.record.proofs.clock.Clock.lay.Given as goal

-- the entries that were passed lie in the buffer
abbrev pub invariant-loop-j : goal.invariant-loop-j
invariant-loop-j l =
    (l.out ≡ written l.initial.out l.place (flat_map u16_bytes (take l.j l.self.entries)))
    × ((k : ℕ) → k < l.j → get_or l.self.entries k 0 < 65536)
