use Rattle.board_tests.proofs.starts.+fills.Given as goal

abbrev pub decreases-fills : goal.decreases-fills
decreases-fills g l = l.places
