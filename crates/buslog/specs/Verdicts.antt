-- What a line of a captured bus log holds.
use Rattle.std.specs.Prelude.{cond, Some, None, Ok, Err, Option, Result}
use Rattle.record.specs.declared.fault.Fault.{Fault}
use Rattle.record.specs.declared.message.Record.{Record}
use Rattle.record.specs.Codec.{decoded}
use Rattle.hex.specs.Hex.{decode_of}
use Rattle.hex.specs.declared.error.FromHexError.{FromHexError}
use Rattle.buslog.specs.Lines.{Text, body, skipped, payload_of}
use Rattle.buslog.specs.declared.verdict.Verdict.{Verdict}
use Rattle.buslog.specs.declared.verdict.Verdict.TheVariants.{Record as IsRecord, Denied, Other}

abbrev pub of_decoded : Result Record Fault → Verdict
of_decoded (Ok m) = IsRecord m
of_decoded (Err fault) = Denied fault

-- digits that stand for no bytes, as an odd number of them, are no payload
abbrev pub of_bytes : Result Text FromHexError → Verdict
of_bytes (Ok bytes) = of_decoded (decoded bytes)
of_bytes (Err e) = Other

abbrev pub of_digits : Text → Verdict
of_digits digits = of_bytes (decode_of digits)

abbrev pub of_payload : Option Text → Verdict
of_payload None = Other
of_payload (Some digits) = of_digits digits

-- nothing is said of a line that is skipped
abbrev pub of_line : Text → Option Verdict
of_line line = cond (skipped (body line)) None (Some (of_payload (payload_of (body line))))
