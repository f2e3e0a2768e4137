-- Delivering a DURABLE is a step of the machine.
use Rattle.std.proofs.Common.{◌≡◌, ℕ, zero, suc, ◌<◌, ◌≤◌, Bool, true, false, ◌&&◌, eqb, ◌≢◌, List, [], Some, None, Ok, Option, sym, refl, ap, ◌∙◌, subst, arith}
use mathlib.Core.List.Memᴰ
use mathlib.Core.List.{Memᴰ}
use Rattle.std.proofs.lemmas.Bool.{and_parts, eqb-true, leb-true}
use Rattle.record.specs.declared.message.Record.{Record}
use Rattle.record.specs.declared.row.Row.{Row}
use Rattle.record.specs.Clocks.{entry_of, covered, reached}
use Rattle.record.specs.Rows.{row_of}
use Rattle.record.specs.Verdicts.{and_then}
use Rattle.board.specs.Commits.{buffer_fits}
use Rattle.bus.specs.Received.{received}
use Rattle.board.specs.Effects.{State as Board}
use Rattle.isolation.specs.Books.{heard}
use Rattle.isolation.specs.Calls.{does, deliver}
use Rattle.isolation.specs.Events.{Event, seen_all, written_by}
use Rattle.isolation.specs.Groups.{Group, Built, Brought}
use Rattle.isolation.specs.Isolation.{regular_in}
use Rattle.isolation.specs.Machine as machine
use Rattle.isolation.specs.Machine.{State, Among, frees}
use Rattle.isolation.proofs.Built.{boards_few}
use Rattle.isolation.proofs.Carried.{FitRow}
use Rattle.isolation.proofs.Opening.{still}
use Rattle.isolation.proofs.Receiving.{Received, was_written, apart_durable, durable_counts}
use Rattle.isolation.proofs.Runs.{Kept}
use Rattle.isolation.proofs.Simulation.{preferred_in, said, At, Step, Steps}
use Rattle.record.specs.declared.kind.RecordKind.TheVariants.{Durable}
use Rattle.tables.specs.Changes.{released, with_shown}
use Rattle.board.specs.Delivers.{is_next}
use Rattle.queries.specs.Logs.{find_row}
use Rattle.isolation.proofs.Boards.{with_tables, at_released, at_shown}
use Rattle.isolation.proofs.Reaching.{reaches}
use Rattle.isolation.proofs.Resending.{by_number, found_row, logged}

from_one : (n : ℕ) → 1 ≤ n → (i : ℕ) × (n ≡ suc i)
from_one zero h = absurd (omega arith)
from_one (suc i) h = (i, refl)

module _ (g : Group) (built : Built g) (es : List Event) (s : State) (x : Board) (b : ℕ) (inside : b < g.boards) (A : At g x s b)
    (K : Kept (regular_in g) (preferred_in g) g.boards (seen_all es) s (Among (said es))) (fits : (m : Record) → Memᴰ m (written_by es) → FitRow (row_of m))
    (bytes : List ℕ) (room : ℕ) (m : Record) (e : and_then (buffer_fits room) (λ _. received x.tables.config bytes) ≡ Ok m) (R : Received g b bytes m) where
  shown_already : m.receiver ≢ m.sender → covered x.tables.committed m.sender m.number ≡ true → (i : ℕ) → m.number ≡ suc i → Step g es s b (heard m.sender m.number) x []
  shown_already apart c i n = record {
    s' = s;
    move = machine.rest b (heard m.sender m.number) (rw n (machine.known m.sender i (λ q. apart (R.here ∙ q)) (omega (arith, leb-true m.number (entry_of x.tables.committed m.sender) c, A.showns m.sender))));
    may = λ v i. absurd (Memᴰ.not-nil i);
    at = A;
    fits = λ v i. absurd (Memᴰ.not-nil i);
  }

  showing : (r : Row) → m.receiver ≢ m.sender → m.number < 65536 → m.number ≡ suc (s.shown b m.sender) → s.shown b m.sender < s.got b m.sender → s.own m.sender (s.shown b m.sender) ≡ r
      → ((j : ℕ) → entry_of r.start j ≤ s.shown b j) → Step g es s b (heard m.sender m.number) (with_tables x (released (with_shown x.tables m.sender m.number) m.sender r.serial)) []
  showing r apart small n has own past =
      let few = boards_few g built b inside in
      let B = at_shown g x s b A m.sender m.number (omega (arith, R.from)) small n in
      let y : Board = with_tables x (with_shown x.tables m.sender m.number) in
      let s₁ : State = record { own = s.own; got = s.got; shown = machine.put s.shown b m.sender (suc (s.shown b m.sender)); log = s.log; lock = s.lock; phase = s.phase } in
      let C : At g (with_tables x (released (with_shown x.tables m.sender m.number) m.sender r.serial)) (machine.with_locks s₁ (frees s.lock b m.sender r.serial)) b = at_released g y s₁ b B m.sender r.serial in
      record {
        s' = machine.shows s b m.sender;
        move = rw n (machine.show b m.sender R.from (λ q. apart (R.here ∙ q)) has (λ j. subst (λ (q : Row). entry_of q.start j ≤ s.shown b j) (sym own) (past j)));
        may = λ v i. absurd (Memᴰ.not-nil i);
        at = subst (λ (q : Row). At g (with_tables x (released (with_shown x.tables m.sender m.number) m.sender r.serial)) (machine.with_locks s₁ (frees s.lock b m.sender q.serial)) b) (sym own) C;
        fits = λ v i. absurd (Memᴰ.not-nil i);
      }

  -- the row that is found is the next to show
  next_row : (r : Row) (i : ℕ) → r.home ≡ m.sender → r.number ≡ m.number → m.number ≡ suc (s.shown b m.sender) → r.number ≡ suc i → s.own r.home i ≡ r → s.own m.sender (s.shown b m.sender) ≡ r
  next_row r i home num n k own = let q : i ≡ s.shown b m.sender = omega arith in ap (λ j. s.own m.sender j) (sym q) ∙ ap (λ h. s.own h i) (sym home) ∙ own

  pub on_durable_holds : m.kind ≡ Durable → Brought es (deliver bytes room) (does x (deliver bytes room)).answer → Steps g es s b x (deliver bytes room)
  on_durable_holds k = by (covered x.tables.committed m.sender m.number) refl (find_row (by_number m.number m.sender) x.rows) refl
    where
      apart : m.receiver ≢ m.sender
      apart = apart_durable m R.lawful k

      found : covered x.tables.committed m.sender m.number ≡ false → (r : Row) → find_row (by_number m.number m.sender) x.rows ≡ Some r
          → (t : Bool) → (is_next m.number (entry_of x.tables.committed m.sender) && (covered x.tables.got m.sender m.number && reached x.tables.committed r.start)) ≡ t → Brought es (deliver bytes room) (does x (deliver bytes room)).answer → Steps g es s b x (deliver bytes room)
      found c r f false t = rw (e, R.came, k, c, f, t) (λ brought. still g built es s x b inside A K)
      found c r f true t = rw (e, R.came, k, c, f, t) (λ brought.
          let (mem, test) = found_row (by_number m.number m.sender) x.rows r f in
          let (home, num) = and_parts (eqb r.home m.sender) (eqb r.number m.number) test in
          let (next, rest) = and_parts (is_next m.number (entry_of x.tables.committed m.sender)) (covered x.tables.got m.sender m.number && reached x.tables.committed r.start) t in
          let (has, past) = and_parts (covered x.tables.got m.sender m.number) (reached x.tables.committed r.start) rest in
          let n : m.number ≡ suc (s.shown b m.sender) = omega (arith, eqb-true _ _ next, A.showns m.sender) in
          let (i, h, l, own) = logged g built es s x b inside A K r mem in
          let F = A.fit_rows r mem in
          let small = (fits m (was_written es fits bytes m R.came 0 brought)).number_fits in
          showing r apart small n (omega (arith, leb-true _ _ has, A.gots m.sender))
          (next_row r i (eqb-true _ _ home) (eqb-true _ _ num) n l own)
          (λ j. omega (arith, reaches x.tables.committed r.start F.clock.eight past j, A.showns j)))

      by : (v : Bool) → covered x.tables.committed m.sender m.number ≡ v
          → (o : Option Row) → find_row (by_number m.number m.sender) x.rows ≡ o → Brought es (deliver bytes room) (does x (deliver bytes room)).answer → Steps g es s b x (deliver bytes room)
      by true c o f = rw (e, R.came, k, c) (λ brought. let (i, n) = from_one m.number (durable_counts m R.lawful k) in shown_already apart c i n)
      by false c None f = rw (e, R.came, k, c, f) (λ brought. still g built es s x b inside A K)
      by false c (Some r) f = found c r f (is_next m.number (entry_of x.tables.committed m.sender) && (covered x.tables.got m.sender m.number && reached x.tables.committed r.start)) refl
