use Rattle.std.proofs.Common.{◌≡◌, drop, None}
use Rattle.std.specs.List.{flat_map}
use Rattle.record.specs.Updates.{last_put}
use Rattle.queries.specs.Walks.{updates_if}
use Rattle.queries.proofs.seen.last_put.Given as goal

-- the rows that were passed put nothing
abbrev pub invariant-loop-place : goal.invariant-loop-place
invariant-loop-place g l =
    last_put l.object (flat_map (updates_if l.clock) (drop l.place (g.K.LogKeeper.rows l.log))) ≡ None
