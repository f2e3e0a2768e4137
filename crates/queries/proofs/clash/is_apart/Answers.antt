use Rattle.std.proofs.Common.{not, rules}
use Rattle.std.proofs.lemmas.Iterator.Consumers.{YieldsList-from_first}
use Rattle.std.proofs.lemmas.Iterator.Search.{all_from_yields_List}
use Rattle.config.specs.Objects.{clashes}
use Rattle.queries.proofs.clash.is_apart.Goals as goal

pub returns : goal.returns
returns g c =
    all_from_yields_List (λ other. not (clashes c.args.config.now c.args.row.now other)) _ _ c.all.result c.all.ensures.ran
    (YieldsList-from_first (λ x. x) (λ rest. rest) _ c.rows_of.ensures)
    (λ x b q e. search rules)
