use Rattle.std.proofs.Common.{length, sym, ap, ◌∙◌}
use Rattle.buslog.specs.Verdicts.{of_bytes}
use Rattle.buslog.proofs.Digits.{half, answered}
use Rattle.buslog.proofs.verdict.Verdict.of_hex.Goals as goal

pub returns-in-Ok : goal.returns-in-Ok
returns-in-Ok c =
    c.of_bytes.ensures ∙ ap of_bytes (sym (answered _ _ c.in-Ok.ensures.value) ∙ half c.args.digits.now (length c.args.room.now) c.requires)
