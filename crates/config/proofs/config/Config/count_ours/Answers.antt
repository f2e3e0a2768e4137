use Rattle.std.proofs.Common.{rules, ◌≡◌, ◌∙◌, length, filter}
use Rattle.std.proofs.lemmas.Iterator.{YieldsList-from_slice}
use Rattle.std.proofs.lemmas.Iterator.Consumers.{YieldsList-from_filter, YieldsList-from_enumerate, count_from_yields_List}
use Rattle.std.proofs.lemmas.List.Sums.{length-filter}
use Rattle.std.specs.List.{enumerate_from}
use Rattle.config.proofs.OurSteps.{is_last, count_last}
use Rattle.config.proofs.config.Config.count_ours.Goals as goal

pub returns : goal.returns
returns c =
    let e : c.count.result ≡ length (filter (is_last c.args.self.now c.args.updates.now) (enumerate_from 0 c.args.updates.now)) =
    count_from_yields_List _ _ c.count.ensures.ran (YieldsList-from_filter _ (is_last c.args.self.now c.args.updates.now) (YieldsList-from_enumerate (YieldsList-from_slice c.args.updates.now cc) cc) c.filter.ensures.closure (λ x b q k. search rules)) in
    e ∙ length-filter (is_last c.args.self.now c.args.updates.now) (enumerate_from 0 c.args.updates.now) ∙ count_last c.args.self.now c.args.updates.now
