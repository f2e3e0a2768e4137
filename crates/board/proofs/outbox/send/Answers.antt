use Rattle.std.proofs.Common.{◌≡◌, false, not, ◌&&◌, length, refl, ap, ◌∙◌, arith}
use Rattle.std.specs.List.{flat_map}
use Rattle.std.proofs.lemmas.Bool.{eq-eqb}
use Rattle.record.specs.Layout.{bytes_of, written}
use Rattle.config.specs.declared.config.Config.{Config}
use Rattle.bus.specs.Letters.{is_for, letter_to, goes_to}
use Rattle.bus.specs.declared.letter.Letter.{Letter}
use Rattle.board.proofs.Outgoing.{sent_below, sent_none, has_room, sent_step}
use Rattle.board.proofs.outbox.send.Goals as goal

-- no letter goes to the board itself
own_skipped : (c : Config) (letter : Letter) → goes_to c letter c.own ≡ false
own_skipped c letter = ap (λ b. not b && is_for letter c.own) (eq-eqb c.own c.own refl)

pub loop-board-init : goal.loop-board-init
loop-board-init c = sent_none _ _ _ _

pub send_to-count-requires : goal.send_to-count-requires
send_to-count-requires c = (
  λ t. omega (
    arith,
    has_room (goes_to c.args.config.now c.args.letter.now) (letter_to c.args.config.now c.args.letter.now) c.args.config.now.own c.loop-board.board
        c.args.out.now c.loop-board.out c.loop-board.count c.loop-board.invariant (own_skipped c.args.config.now c.args.letter.now) c.requires.room (omega (arith, c.requires.group)) (omega (arith, c.requires.group)) t,
  ),
  omega (arith, c.loop-board.invariant.few, c.requires.group),
)

pub loop-board-preserved : goal.loop-board-preserved
loop-board-preserved c =
    sent_step (goes_to c.args.config.now c.args.letter.now) (letter_to c.args.config.now c.args.letter.now) c.args.config.now.own c.loop-board.board
    c.args.out.now c.loop-board.out c.loop-board.count c.loop-board.invariant (own_skipped c.args.config.now c.args.letter.now) c.requires.room (omega (arith, c.requires.group)) (omega (arith, c.requires.group))
    (goes_to c.args.config.now c.args.letter.now c.loop-board.board) refl c.send_to-count.result c.send_to-count.ensures.count c.send_to-count.new.out c.send_to-count.ensures.after

pub returns : goal.returns
returns c =
    let end : c.loop-board.board ≡ c.args.config.now.boards = omega arith in
    let all : sent_below (goes_to c.args.config.now c.args.letter.now) (letter_to c.args.config.now c.args.letter.now) c.loop-board.board
    ≡ sent_below (goes_to c.args.config.now c.args.letter.now) (letter_to c.args.config.now c.args.letter.now) c.args.config.now.boards =
    ap (sent_below (goes_to c.args.config.now c.args.letter.now) (letter_to c.args.config.now c.args.letter.now)) end in
    record {
      count = c.loop-board.invariant.counted ∙ ap length all;
      after = c.loop-board.invariant.laid ∙ ap (λ ms. written c.args.out.now 0 (flat_map bytes_of ms)) all;
    }
