use Rattle.std.proofs.Common.{◌≡◌, ◌+◌, ◌*◌, drop}
use Rattle.record.specs.Codec.{unless}
use Rattle.record.specs.Rows.{updates_of}
use Rattle.record.specs.Rules.{first}
use Rattle.bus.specs.Received.{update_rules}
use Rattle.bus.proofs.received.check_updates.Given as goal

-- the updates that are left decide
abbrev pub invariant-loop-i : goal.invariant-loop-i
invariant-loop-i l =
    unless {X = Unit {0}} (first (update_rules l.config (28 + 8 * l.i) (drop l.i (updates_of l.row)))) tt ≡ unless (first (update_rules l.config 28 (updates_of l.row))) tt
