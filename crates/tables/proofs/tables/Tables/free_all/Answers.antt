use Rattle.std.proofs.Common.{rules, ◌≡◌, ◌∙◌, cond, None, get_or, set, List, Option, ℕ}
use Rattle.std.proofs.lemmas.List.{get_or_default}
use Rattle.tables.specs.Locks.{is_owned}
use Rattle.tables.specs.declared.lock.Lock.{Lock}
use Rattle.tables.proofs.LockSteps.{freed_more}
use Rattle.tables.proofs.tables.Tables.free_all.Goals.{then-is_owned, else-is_owned}
use Rattle.tables.proofs.tables.Tables.free_all.Goals as goal

pub loop-place-preserved : goal.loop-place-preserved
loop-place-preserved c =
    let ys : List (Option Lock) = c.loop-place.place-items in
    let i : ℕ = c.loop-place.place-index in
    let owned = is_owned c.args.owner.home c.args.owner.serial (get_or ys i None) in
    let step : c.if-is_owned.place-items ≡ set ys i (cond owned None (get_or ys i None)) =
    elim c.if-is_owned.branch [ then-is_owned w ↦ search (rules, get_or_default) | else-is_owned w ↦ search (rules, get_or_default) ] in
    step ∙ freed_more _ _ _ ys i None (search rules) c.loop-place.invariant
