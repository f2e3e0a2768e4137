use Rattle.std.proofs.Common.{◌≡◌, length, refl, arith, rules, below_more}
use Rattle.record.specs.Numbers.{u16_bytes}
use Rattle.record.proofs.Writes.{written_none, laid_more, laid_all}
use Rattle.record.proofs.clock.Clock.lay.Goals as goal

pub loop-j-init : goal.loop-j-init
loop-j-init c = (written_none c.args.out.now c.args.place, λ k h. omega arith)

pub loop-j-preserved : goal.loop-j-preserved
loop-j-preserved c =
    let n : length c.args.self.now.entries ≡ 8 = search rules in (
      laid_more u16_bytes 2 (λ _. refl) c.args.out.now c.args.place c.args.self.now.entries (omega arith) c.loop-j.j 0 (omega arith)
          c.loop-j.out c.loop-j.invariant.0 _ refl _ _ c.to_le_bytes.ensures c.put.ensures,
      below_more _ _ c.loop-j.invariant.1 (search rules),
    )

pub returns : goal.returns
returns c =
    let n : length c.args.self.now.entries ≡ 8 = search rules in
    record {
      after =
          laid_all u16_bytes 2 (λ _. refl) c.args.out.now c.args.place c.args.self.now.entries (omega arith) 8 c.loop-j.j 0 n (omega arith)
          c.loop-j.out c.loop-j.invariant.0;
      eight = n;
      small = λ k h. c.loop-j.invariant.1 k (omega arith);
    }
