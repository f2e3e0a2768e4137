-- What a board keeps that has just been built.
use Rattle.std.specs.Prelude.{ℕ, None, replicate}
use Rattle.record.specs.Rows.{zero_clock}
use Rattle.config.specs.declared.config.Config.{Config}
use Rattle.tables.specs.declared.place.Place.TheVariants.{Free}
use Rattle.tables.specs.declared.tables.Tables.{Tables}

-- nothing was started, committed or locked
abbrev pub fresh : Config → ℕ → Tables
fresh c first =
    record {
      config = c;
      got = zero_clock;
      committed = zero_clock;
      acknowledged = zero_clock;
      next = first;
      places = replicate 8 Free;
      locks = replicate 64 None;
    }
