-- The examples, by computation.
use Rattle.std.proofs.Common.{◌≡◌, true, List, refl}
use Rattle.std.specs.Int.{int_wrap}
use Rattle.config.specs.Durable.{holders}
use Rattle.isolation.specs.Groups.{Group, Built}
use Rattle.examples.specs.Scripts.{Line, opening, given, told, Plays}
use Rattle.examples.specs.Examples.{Examples}
use Rattle.examples.proofs.Runs.{fits, runs}
use Rattle.examples.proofs.Groups.{pair_built, trio_built}

plays : {g : Group} {script : List Line} → Built g → fits g (opening g) script ≡ true → given g script ≡ told script → Plays g script
plays {g} {script} built h same = record { built = built; run = runs g script h; answered = same }

pub hold : Examples
unfolding int_wrap holders
hold =
    record {
      one_of_two_writers = plays pair_built refl refl;
      long_fork = (plays pair_built refl refl, refl);
      count_down_and_up = (plays pair_built refl refl, refl, refl);
      marks_in_either_order = (plays pair_built refl refl, plays pair_built refl refl, refl, refl);
      four_updates = plays pair_built refl refl;
      refusals_in_numbers = ((refl, refl, refl), (refl, refl, refl));
      rows_in_order = (plays pair_built refl refl, refl, refl, refl, refl, refl, refl, refl);
      preferred_board_counts = (plays trio_built refl refl, refl, refl, refl, plays trio_built refl refl, refl);
      ack_in_bytes = refl;
      locked_once_agreed = plays pair_built refl refl;
      taken_after_its_past = plays trio_built refl refl;
    }
