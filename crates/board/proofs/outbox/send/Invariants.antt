use Rattle.bus.specs.Letters.{letter_to, goes_to}
use Rattle.board.proofs.Outgoing.{SentBelow}
use Rattle.board.proofs.outbox.send.Given as goal

abbrev pub invariant-loop-board : goal.invariant-loop-board
invariant-loop-board l =
    SentBelow (goes_to l.config l.letter) (letter_to l.config l.letter) l.config.own l.board l.initial.out l.out l.count
