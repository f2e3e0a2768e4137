use Rattle.std.proofs.Common.{rules}
use Rattle.queries.specs.Logs.{by_number}
use Rattle.queries.proofs.Found.{found_first}
use Rattle.queries.proofs.find.first_with_number.Goals as goal

pub returns : goal.returns
returns g c = found_first (by_number c.args.home c.args.number) _ _ _ _ c.find.ensures.ran c.rows_of.ensures (λ x b q e. search rules)
