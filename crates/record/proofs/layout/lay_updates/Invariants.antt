use Rattle.std.proofs.Common.{◌≡◌, ℕ, ◌<◌, get_or, take}
use Rattle.std.specs.List.{flat_map}
use Rattle.record.specs.Layout.{written, update_bytes}
use Rattle.record.specs.Codec.{Sized}
use Rattle.record.specs.Rows.{no_update}
use Rattle.record.proofs.layout.lay_updates.Given as goal

-- the updates that were passed lie in the buffer
abbrev pub invariant-loop-i : goal.invariant-loop-i
invariant-loop-i l =
    (l.out ≡ written l.initial.out l.place (flat_map update_bytes (take l.i l.updates)))
    × ((k : ℕ) → k < l.i → Sized (get_or l.updates k no_update))
