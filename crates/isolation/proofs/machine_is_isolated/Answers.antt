use Rattle.isolation.proofs.MachineIsolation.{machine_isolated}
use Rattle.isolation.proofs.machine_is_isolated.Goals as goal

pub returns : goal.returns
returns g c =
    record { isolated = machine_isolated g.M.MergingKind.origin g.M.MergingKind.stepped g.met.M.MergingKind.order }
