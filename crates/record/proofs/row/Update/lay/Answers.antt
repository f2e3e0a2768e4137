use Rattle.std.proofs.Common.{◌≡◌, ◌++◌, refl, ap, ◌∙◌, arith, w32, SFits, rules}
use Rattle.std.proofs.lemmas.Int.{to_z-of_z}
use Rattle.record.specs.Numbers.{u16_bytes, i32_bytes}
use Rattle.record.specs.Layout.{written}
use Rattle.record.proofs.Writes.{wrote_more}
use Rattle.record.proofs.row.Update.lay.Goals as goal

pub returns : goal.returns
returns c =
    let s : SFits w32 c.args.self.now.operand = search rules in
    let one : c.put.new.out ≡ written c.args.out.now c.args.place (u16_bytes c.args.self.now.object) =
    c.put.ensures ∙ ap (written c.args.out.now c.args.place) c.to_le_bytes.ensures in
    let two : c.put-2.new.out ≡ written c.args.out.now c.args.place (u16_bytes c.args.self.now.object ++ u16_bytes c.args.self.now.element) =
    wrote_more c.args.out.now c.args.place (u16_bytes c.args.self.now.object) (omega arith) _ one _ refl _ _ _ c.to_le_bytes-2.ensures c.put-2.ensures in
    record {
      sized = search rules;
      after =
          wrote_more c.args.out.now c.args.place (u16_bytes c.args.self.now.object ++ u16_bytes c.args.self.now.element) (omega arith) _ two _ refl
          (i32_bytes c.args.self.now.operand) _ _ (simp to_z-of_z at c.to_le_bytes-3.ensures) c.put-3.ensures;
    }
