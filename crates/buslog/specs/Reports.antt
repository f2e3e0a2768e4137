-- How many lines of a log were explained, and what they held.
use Rattle.std.specs.Prelude.{ℕ, ◌+◌, min, Some, None, Option}
use Rattle.buslog.specs.declared.report.Report.{Report}
use Rattle.buslog.specs.declared.verdict.Verdict.{Verdict}
use Rattle.buslog.specs.declared.verdict.Verdict.TheVariants.{Record, Denied, Other}

abbrev pub empty_report : Report
empty_report = record { lines = 0; records = 0; denied = 0; others = 0 }

-- a count stays at its highest number once it is there
abbrev pub one_more : ℕ → ℕ
one_more n = min (n + 1) 18446744073709551615

abbrev pub noted : Report → Verdict → Report
noted r (Record m) =
    record { lines = one_more r.lines; records = one_more r.records; denied = r.denied; others = r.others }
noted r (Denied fault) =
    record { lines = one_more r.lines; records = r.records; denied = one_more r.denied; others = r.others }
noted r Other =
    record { lines = one_more r.lines; records = r.records; denied = r.denied; others = one_more r.others }

-- a line that is skipped counts for nothing
abbrev pub counted : Report → Option Verdict → Report
counted r None = r
counted r (Some held) = noted r held
