-- Delivering a PREPARE is a step of the machine.
use Rattle.std.proofs.Common.{◌≡◌, ℕ, ◌<◌, ◌≤◌, Bool, true, false, leb, List, [], ◌∷◌, Ok, Err, Result, sym, refl, subst, arith}
use mathlib.Core.List.{Memᴰ}
use Rattle.std.proofs.lemmas.Bool.{leb-true}
use Rattle.record.specs.declared.fault.Fault.{Fault}
use Rattle.record.specs.declared.message.Record.{Record}
use Rattle.record.specs.declared.row.Row.{Row}
use Rattle.record.specs.Rows.{updates_of, row_of, zero_clock}
use Rattle.record.specs.Verdicts.{and_then}
use Rattle.board.specs.Commits.{buffer_fits}
use Rattle.bus.specs.Received.{received}
use Rattle.board.specs.Effects.{State as Board}
use Rattle.isolation.specs.Books.{nothing}
use Rattle.isolation.specs.Calls.{does, deliver}
use Rattle.isolation.specs.Events.{Event, seen_all, written_by}
use Rattle.isolation.specs.Groups.{Group, Built, Brought}
use Rattle.isolation.specs.Isolation.{regular_in}
use Rattle.isolation.specs.Laws.{Writes}
use Rattle.isolation.specs.Machine as machine
use Rattle.isolation.specs.Machine.{State, Among, MayWrite}
use Rattle.isolation.proofs.Built.{needed}
use Rattle.isolation.proofs.Carried.{FitRow, fit_bare, fit_zero}
use Rattle.isolation.proofs.Opening.{still}
use Rattle.isolation.proofs.Receiving.{Received, was_written, says}
use Rattle.isolation.proofs.Runs.{Kept}
use Rattle.isolation.proofs.Sending.{may_one, fit_one}
use Rattle.isolation.proofs.Simulation.{preferred_in, said, At, Step, Steps}
use Rattle.record.specs.declared.fault.Denial.TheVariants.{NoLockPlaces}
use Rattle.record.specs.declared.kind.RecordKind.TheVariants.{Prepare}
use Rattle.tables.specs.Changes.{all_locked, lockable, locked}
use Rattle.tables.specs.Locks.{free_locks}
use Rattle.config.specs.Objects.{count_ours}
use Rattle.board.specs.Commits.{all_clear}
use Rattle.bus.specs.Records.{vote}
use Rattle.isolation.specs.Machine.{vote_yes, locks}
use Rattle.isolation.proofs.Boards.{with_tables, wants, at_locked}
use Rattle.isolation.proofs.Clearing.{wanted, held_all}
use Rattle.isolation.proofs.Committing.{own_is}
use Rattle.isolation.proofs.Written.{may_vote}

module _ (g : Group) (built : Built g) (es : List Event) (s : State) (x : Board) (b : ℕ) (inside : b < g.boards) (A : At g x s b)
    (K : Kept (regular_in g) (preferred_in g) g.boards (seen_all es) s (Among (said es))) (fits : (m : Record) → Memᴰ m (written_by es) → FitRow (row_of m))
    (bytes : List ℕ) (room : ℕ) (m : Record) (e : and_then (buffer_fits room) (λ _. received x.tables.config bytes) ≡ Ok m) (R : Received g b bytes m) where
  vote_fits : (answer : ℕ) → FitRow (row_of m) → FitRow (row_of (vote x.tables.config m.sender answer m.serial))
  vote_fits answer F = fit_bare x.tables.config.own m.serial 0 answer zero_clock F.serial_fits (omega arith) fit_zero

  yes_again : FitRow (row_of m) → Among (said es) (machine.prepare (row_of m)) → all_locked x.tables (row_of m) ≡ true
      → Step g es s b nothing x (vote x.tables.config m.sender 1 m.serial ∷ [])
  yes_again F asked all = record {
    s' = s;
    move = machine.rest b nothing machine.silent;
    may = may_one (Writes (regular_in g)) (preferred_in g) s (Among (said es)) (vote x.tables.config m.sender 1 m.serial)
        (subst (λ p. MayWrite (Writes (regular_in g)) (preferred_in g) s (Among (said es)) (vote_yes p m.sender m.serial)) (sym (own_is g built es s x b inside A K))
        (row_of m, asked, refl, refl, held_all g es s x b A K (row_of m) all));
    at = A;
    fits = fit_one (vote x.tables.config m.sender 1 m.serial) (vote_fits 1 F);
  }

  says_no : FitRow (row_of m) → Step g es s b nothing x (vote x.tables.config m.sender 0 m.serial ∷ [])
  says_no F = record {
    s' = s;
    move = machine.rest b nothing machine.silent;
    may = may_one (Writes (regular_in g)) (preferred_in g) s (Among (said es)) (vote x.tables.config m.sender 0 m.serial) tt;
    at = A;
    fits = fit_one (vote x.tables.config m.sender 0 m.serial) (vote_fits 0 F);
  }

  says_yes : FitRow (row_of m) → Among (said es) (machine.prepare (row_of m)) → all_clear x (row_of m) ≡ true → (w : Unit {0}) → lockable x.tables (row_of m) ≡ Ok w
      → Step g es s b nothing (with_tables x (locked x.tables (row_of m))) (vote x.tables.config m.sender 1 m.serial ∷ [])
  says_yes F asked clear w room' =
      let r : Row = row_of m in
      let enough : count_ours x.tables.config (updates_of r) ≤ free_locks x.tables.locks = leb-true _ _ (needed (leb (count_ours x.tables.config (updates_of r)) (free_locks x.tables.locks)) NoLockPlaces w room') in
      let W = wanted g es s x b A K r clear in
      let s₁ : State = machine.with_locks s (locks s.lock b (wants g x s b A r) m.sender m.serial) in
      record {
        s' = s₁;
        move = machine.vote b r (wants g x s b A r) asked W;
        may = may_one (Writes (regular_in g)) (preferred_in g) s₁ (Among (said es)) (vote x.tables.config m.sender 1 m.serial)
            (subst (λ p. MayWrite (Writes (regular_in g)) (preferred_in g) s₁ (Among (said es)) (vote_yes p m.sender m.serial)) (sym (own_is g built es s x b inside A K))
            (may_vote (Writes (regular_in g)) (preferred_in g) s (Among (said es)) K.invariant b r (wants g x s b A r) asked W));
        at = at_locked g x s b A r enough;
        fits = fit_one (vote x.tables.config m.sender 1 m.serial) (vote_fits 1 F);
      }

  pub on_prepare_holds : m.kind ≡ Prepare → Brought es (deliver bytes room) (does x (deliver bytes room)).answer → Steps g es s b x (deliver bytes room)
  on_prepare_holds k = by (all_locked x.tables (row_of m)) refl (all_clear x (row_of m)) refl (lockable x.tables (row_of m)) refl
    where
      by : (u : Bool) → all_locked x.tables (row_of m) ≡ u → (v : Bool) → all_clear x (row_of m) ≡ v → (w : Result (Unit {0}) Fault) → lockable x.tables (row_of m) ≡ w → Brought es (deliver bytes room) (does x (deliver bytes room)).answer → Steps g es s b x (deliver bytes room)
      by true l v c w h = rw (e, R.came, k, l) (λ brought.
          let i = was_written es fits bytes m R.came 1 brought in yes_again (fits m i) (rw k at (says es m i)) l)
      by false l false c w h = rw (e, R.came, k, l, c) (λ brought. says_no (fits m (was_written es fits bytes m R.came 1 brought)))
      by false l true c (Err f) h = rw (e, R.came, k, l, c, h) (λ brought. still g built es s x b inside A K)
      by false l true c (Ok w) h = rw (e, R.came, k, l, c, h) (λ brought.
          let i = was_written es fits bytes m R.came 1 brought in says_yes (fits m i) (rw k at (says es m i)) c w h)
