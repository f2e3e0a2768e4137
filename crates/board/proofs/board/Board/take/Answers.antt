use Rattle.board.proofs.Refusals.{nothing_out}
use Rattle.board.proofs.board.Board.take.Goals as goal

pub returns-in_err-sending-clause-out : goal.returns-in_err-sending-clause-out
returns-in_err-sending-clause-out g c = nothing_out c.args.out.now _ c.in_err-sending.ensures.written
