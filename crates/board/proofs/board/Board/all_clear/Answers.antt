use Rattle.std.proofs.Common.{not, ◌&&◌, sym, ap, ◌∙◌}
use Rattle.board.specs.Effects.{state_of}
use Rattle.board.proofs.Clearing.{both_tests, first_test}
use Rattle.board.proofs.board.Board.all_clear.Goals as goal

pub returns-then-all_unlocked : goal.returns-then-all_unlocked
returns-then-all_unlocked g c =
    ap (λ b. b && not c.has_clash.result) (sym c.if-all_unlocked.true)
    ∙ both_tests (state_of c.args.self.now) c.args.row.now c.all_unlocked.result c.has_clash.result c.all_unlocked.ensures c.has_clash.ensures

pub returns-else-all_unlocked : goal.returns-else-all_unlocked
returns-else-all_unlocked g c =
    first_test (state_of c.args.self.now) c.args.row.now c.all_unlocked.result c.all_unlocked.ensures c.if-all_unlocked.false
