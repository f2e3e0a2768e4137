use Rattle.std.proofs.Common.{◌≡◌, Ok, Err, sym, ◌∙◌, rules}
use Rattle.record.specs.Codec.{decoded}
use Rattle.record.proofs.Apart.{made, decoded_from_rest, unless_passed, unless_denied}
use Rattle.record.proofs.Rebuilt.{rebuilt}
use Rattle.record.proofs.message.Record.take_apart.Goals as goal

pub returns-in_err-check-clause-answer : goal.returns-in_err-check-clause-answer
returns-in_err-check-clause-answer c =
    let e = decoded_from_rest c.args.bytes.now c.in_ok-rules.rules _ _ _ _ _ _ c.requires (search rules)
    c.u32_at.ensures c.u16_at.ensures c.read.ensures c.read_updates.ensures c.u16_at-2.ensures c.u32_at-2.ensures in
    let f : c.from_residual-in_err-check.result ≡ Err c.in_err-check.field-0.0 = search rules in
    f ∙ sym (e ∙ unless_denied _ c.check.result _ _ c.check.ensures (search rules))

pub returns : goal.returns
returns c =
    let e = decoded_from_rest c.args.bytes.now c.in_ok-rules.rules _ _ _ _ _ _ c.requires (search rules)
    c.u32_at.ensures c.u16_at.ensures c.read.ensures c.read_updates.ensures c.u16_at-2.ensures c.u32_at-2.ensures in
    let o : decoded c.args.bytes.now ≡ Ok (made c.in_ok-rules.rules c.args.bytes.now c.u32_at.result c.u16_at.result c.read.result c.read_updates.result) =
    e ∙ unless_passed _ c.check.result _ c.check.ensures (search rules) in
    record { answer = sym o; rebuilt = rebuilt c.args.bytes.now (λ i. (c.type_inv.bytes i).fits) (Ok _) (sym o) }
