use Rattle.std.proofs.Common.{rules}
use Rattle.queries.specs.Logs.{by_serial}
use Rattle.queries.proofs.Found.{found_first}
use Rattle.queries.proofs.find.first_with_id.Goals as goal

pub returns : goal.returns
returns g c = found_first (by_serial c.args.id.home c.args.id.serial) _ _ _ _ c.find.ensures.ran c.rows_of.ensures (λ x b q e. search rules)
