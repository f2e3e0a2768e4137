-- What a change of the tables keeps.
use Rattle.std.proofs.Common.{◌≡◌, ℕ, Ok, Err, Result, refl}
use Rattle.record.specs.declared.fault.Fault.{Fault}
use Rattle.record.specs.declared.row.Row.{Row}
use Rattle.tables.specs.Transactions.{updated}
use Rattle.tables.specs.declared.tables.Tables.{Tables}

pub updated_config : (t : Tables) (serial : ℕ) (verdict : Result Row Fault) → (updated t serial verdict).tables.config ≡ t.config
updated_config t serial (Ok r) = refl
updated_config t serial (Err fault) = refl
