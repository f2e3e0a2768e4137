use Rattle.std.proofs.Common.{refl, arith, below_none, below_more}
use Rattle.record.specs.Layout.{update_bytes}
use Rattle.record.specs.Rows.{no_update}
use Rattle.record.proofs.Writes.{written_none, laid_more, laid_all}
use Rattle.record.proofs.layout.lay_updates.Goals as goal

pub loop-i-init : goal.loop-i-init
loop-i-init c = (written_none c.args.out.now c.args.place, below_none _)

pub loop-i-preserved : goal.loop-i-preserved
loop-i-preserved c = (
  laid_more update_bytes 8 (λ _. refl) c.args.out.now c.args.place c.args.updates.now (omega arith) c.loop-i.i no_update (omega arith)
      c.loop-i.out c.loop-i.invariant.0 _ refl _ _ refl c.lay.ensures.after,
  below_more _ _ c.loop-i.invariant.1 c.lay.ensures.sized,
)

pub returns : goal.returns
returns c =
    record {
      after =
          laid_all update_bytes 8 (λ _. refl) c.args.out.now c.args.place c.args.updates.now (omega arith) 4 c.loop-i.i no_update c.told-updates (omega arith)
          c.loop-i.out c.loop-i.invariant.0;
      four = c.told-updates;
      sized = λ k h. c.loop-i.invariant.1 k (omega arith);
    }
