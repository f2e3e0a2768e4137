use Rattle.std.proofs.Common.{◌≡◌, take}
use Rattle.tables.specs.Changes.{relocked}
use Rattle.tables.specs.Locks.{with_locks}
use Rattle.tables.proofs.tables.Tables.lock_all.Given as goal

-- what was passed is locked
abbrev pub invariant-loop-update : goal.invariant-loop-update
invariant-loop-update l =
    l.self ≡ relocked l.fn.self (with_locks l.fn.self.config l.fn.self.locks l.owner.home l.owner.serial (take l.update-index l.updates))
