use Rattle.isolation.proofs.BoardsIsolation.{isolated}
use Rattle.isolation.proofs.boards_are_isolated.Goals as goal

pub returns : goal.returns
returns g c =
    record { isolated = isolated g.M.MergingKind.NUMBER g.M.MergingKind.origin g.M.MergingKind.stepped g.met.M.MergingKind.numbered g.met.M.MergingKind.order }
