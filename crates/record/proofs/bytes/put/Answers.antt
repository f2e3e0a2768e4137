use Rattle.std.proofs.Common.{arith}
use Rattle.record.proofs.Writes.{put_is}
use Rattle.record.proofs.bytes.put.Goals as goal

pub returns : goal.returns
returns c = put_is c.args.out.now c.args.place _ c.args.bytes.now _ c.copy_from_slice.ensures.after (omega arith)
