use Rattle.std.proofs.Common.{◌≡◌, ◌++◌, take, drop}
use Rattle.tables.specs.Locks.{without_owner}
use Rattle.tables.proofs.tables.Tables.free_all.Given as goal

-- the places that were passed are without the owner
abbrev pub invariant-loop-place : goal.invariant-loop-place
invariant-loop-place l =
    l.place-items ≡ without_owner l.owner.home l.owner.serial (take l.place-index l.initial.place-items) ++ drop l.place-index l.initial.place-items
