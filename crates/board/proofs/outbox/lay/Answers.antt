use Rattle.std.proofs.Common.{◌*◌, ◌∙◌, arith}
use Rattle.record.specs.Layout.{bytes_of}
use Rattle.record.proofs.Writes.{put_is}
use Rattle.board.proofs.outbox.lay.Goals as goal

pub returns : goal.returns
returns c =
    put_is c.args.out.now (64 * c.args.count) _ (bytes_of c.args.record.now) _ (c.copy_from_slice.ensures.after ∙ c.to_bytes-bytes.ensures.bytes)
    (omega (arith, c.to_bytes-bytes.ensures.kept.size))
