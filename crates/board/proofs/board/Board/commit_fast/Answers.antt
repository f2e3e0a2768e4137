use Rattle.std.proofs.Common.{sym, rules}
use Rattle.board.specs.Effects.{state_of}
use Rattle.board.proofs.Refusals.{own_refused}
use Rattle.board.proofs.board.Board.commit_fast.Goals as goal

pub returns-in_err-own : goal.returns-in_err-own
returns-in_err-own g c =
    let h = own_refused (state_of c.args.self.now) c.args.row.now c.in_err-own.field-0.0 (sym c.in_err-own.ensures.answer) in
    search (rules, h)
