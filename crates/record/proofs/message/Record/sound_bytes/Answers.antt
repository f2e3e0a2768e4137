use Rattle.std.proofs.Common.{◌≡◌, None, Ok, sym, ap, ◌∙◌}
use Rattle.record.specs.declared.message.Record.{Record}
use Rattle.record.specs.Layout.{bytes_of}
use Rattle.record.specs.Rules.{breaks}
use Rattle.record.specs.Codec.{unless, decoded}
use Rattle.record.proofs.Back.{decoded_back, none_broken}
use Rattle.record.proofs.message.Record.sound_bytes.Goals as goal

pub returns : goal.returns
returns c =
    let m : Record = c.args.self.now in
    let sound : breaks m ≡ None = none_broken (breaks m) _ _ (sym c.requires) in
    record {
      answer = ap Ok c.to_bytes.ensures.bytes ∙ sym (ap (λ o. unless o (bytes_of m)) sound);
      back = ap decoded c.to_bytes.ensures.bytes ∙ decoded_back m c.to_bytes.ensures.kept sound;
    }
