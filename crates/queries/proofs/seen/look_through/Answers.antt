use Rattle.std.proofs.Common.{rules, ◌∙◌}
use Rattle.std.proofs.lemmas.Iterator.Consumers.{fold_from_yields_List, YieldsList-from_first}
use Rattle.merging.specs.Values.{value_after}
use Rattle.queries.specs.Walks.{updates_if}
use Rattle.queries.proofs.Covered.{look_by_row}
use Rattle.queries.proofs.seen.look_through.Goals as goal

pub returns : goal.returns
returns g c =
    fold_from_yields_List _ (λ v r. value_after g.M.MergingKind.stepped c.args.of.object c.args.of.element v (updates_if c.args.clock.now r)) c.args.first c.fold.result c.fold.ensures.ran
    (YieldsList-from_first (λ x. x) (λ rest. rest) _ c.rows_of.ensures)
    (λ a x b q e. search rules)
    ∙ look_by_row g.M.MergingKind.stepped c.args.of.object c.args.of.element c.args.first c.args.clock.now (g.K.LogKeeper.rows c.args.log.now)
