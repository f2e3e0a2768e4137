use Rattle.std.proofs.Common.{sym}
use Rattle.buslog.proofs.Digits.{other, never_other}
use Rattle.buslog.proofs.verdict.Verdict.of_digits.Goals as goal

pub returns-then-not-is_hex-clause-answer : goal.returns-then-not-is_hex-clause-answer
returns-then-not-is_hex-clause-answer c = sym (other c.args.digits.now (sym c.if-not-is_hex.ensures))

pub returns-in_err-room-clause-other : goal.returns-in_err-room-clause-other
returns-in_err-room-clause-other c = λ h. absurd (never_other c.args.digits.now (sym c.if-not-is_hex.ensures) h)
