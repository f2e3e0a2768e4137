use Rattle.std.proofs.Common.{◌≡◌, ◌+◌, ◌-◌, ◌*◌, drop}
use Rattle.record.specs.Codec.{unless}
use Rattle.record.specs.Rules.{first, update_rules}
use Rattle.record.proofs.rules.check_updates.Given as goal

-- the updates that are left decide
abbrev pub invariant-loop-i : goal.invariant-loop-i
invariant-loop-i l =
    unless {X = Unit {0}} (first (update_rules (l.used - l.i) (28 + 8 * l.i) (drop l.i l.updates))) tt ≡ unless (first (update_rules l.used 28 l.updates)) tt
