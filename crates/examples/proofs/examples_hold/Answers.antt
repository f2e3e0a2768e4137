use Rattle.examples.proofs.Examples.{hold}
use Rattle.examples.proofs.examples_hold.Goals as goal

pub returns : goal.returns
returns g = record { hold = hold }
