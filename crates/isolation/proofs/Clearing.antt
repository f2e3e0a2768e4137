-- What a board's tests of objects tell: which objects are its own, clear, or locked for a transaction.
use Rattle.std.proofs.Common.{◌≡◌, ℕ, Bool, true, not, ◌&&◌, ◌||◌, eqb, List, [], ◌∷◌, sym, refl, ap, ◌∙◌, inl, inr, ⊎_elim, arith}
use mathlib.Core.List.Memᴰ
use mathlib.Core.List.{Memᴰ}
use Rattle.std.proofs.lemmas.Bool.{cases_eq, cases_Bool, eq-eqb, and_parts, and_from}
use Rattle.std.proofs.lemmas.Bool.Decides.{nat_tests}
use Rattle.record.specs.declared.row.Row.{Row}
use Rattle.record.specs.declared.row.Update.{Update}
use Rattle.std.specs.List.{list_all}
use Rattle.record.specs.Rows.{updates_of}
use Rattle.record.specs.Updates.{is_covered}
use Rattle.tables.specs.Changes.{all_locked}
use Rattle.tables.specs.Locks.{is_unlocked, is_locked_by}
use Rattle.config.specs.Objects.{is_ours, writes, every_ours}
use Rattle.config.specs.declared.config.Config.{Config}
use Rattle.tables.proofs.Owners.{unlocked_none, locked_by}
use Rattle.board.specs.Commits.{is_clear, all_clear}
use Rattle.board.specs.Effects.{State as Board}
use Rattle.queries.specs.Logs.{is_unchanged}
use Rattle.isolation.specs.Events.{Event, seen_all}
use Rattle.isolation.specs.Groups.{Group}
use Rattle.isolation.specs.Isolation.{regular_in}
use Rattle.isolation.specs.Laws.{Writes}
use Rattle.isolation.specs.Machine.{State, free, held, Clear, Wanted, Among}
use Rattle.isolation.proofs.Boards.{wants}
use Rattle.isolation.proofs.Logs.{clear_log}
use Rattle.isolation.proofs.Runs.{Kept}
use Rattle.isolation.proofs.Simulation.{holder_of, preferred_in, said, At}
use Rattle.isolation.proofs.Writers.{touches, writes_touches}

-- a test that all pass, each passes
pub every_member : {X : Type 0} (p : X → Bool) (xs : List X) (x : X) → list_all p xs ≡ true → Memᴰ x xs → p x ≡ true
every_member p [] x e m = absurd (Memᴰ.not-nil m)
every_member p (y ∷ xs) x e m =
    let both = and_parts (p y) (list_all p xs) e in
    ⊎_elim (λ (q : x ≡ y). rw q both.0) (λ (k : Memᴰ x xs). every_member p xs x both.1 k) (Memᴰ.cases_cons m)

pub writes_is : (us : List Update) (o : ℕ) → writes us o ≡ touches us o
writes_is [] o = refl
writes_is (u ∷ us) o = let rest = writes_is us o in
    elim (cases_Bool (eqb u.object o)) [ inl t ↦ simp t | inr f ↦ simp f rest ]

-- each of our objects that is written passes
pub ours_pass : (c : Config) (p : ℕ → Bool) (us : List Update) → every_ours c p us ≡ true → (o : ℕ) → is_ours c o ≡ true → touches us o ≡ true → p o ≡ true
ours_pass c p [] e o ours w = absurd (grind arith)
ours_pass c p (u ∷ us) e o ours w =
    let both = and_parts (not (is_ours c u.object) || p u.object) (every_ours c p us) e in
    ⊎_elim
    (λ (q : u.object ≡ o).
    let a : (not (is_ours c o) || p o) ≡ true = rw q at both.0 in
    let z : (not true || p o) ≡ true = rw ours at a in z)
    (λ (q : u.object ≡ o → ⊥). ours_pass c p us both.1 o ours (grind (arith, nat_tests)))
    (cases_eq u.object o)

module _ (g : Group) (es : List Event) (s : State) (x : Board) (b : ℕ) (A : At g x s b)
    (K : Kept (regular_in g) (preferred_in g) g.boards (seen_all es) s (Among (said es))) where
  pub ours : (o : ℕ) → regular_in g o ≡ true → preferred_in g o ≡ b → is_ours x.tables.config o ≡ true
  ours o r q = rw (A.config, r, q) (eq-eqb b b refl)

  -- what is clear by the tests is clear
  clear_is : (r : Row) (o : ℕ) → is_clear x r.start o ≡ true → Clear (Writes (regular_in g)) s b o r.start
  clear_is r o e =
      let both = and_parts (is_unlocked x.tables.locks o) (is_unchanged x.rows r.start o) e in
      let unlocked : s.lock b o ≡ free = sym (A.locks o) ∙ ap holder_of (unlocked_none x.tables.locks o both.0) in
      let log : is_unchanged (s.log b) r.start o ≡ true = rw A.rows at both.1 in
      clear_log (Writes (regular_in g)) (preferred_in g) (regular_in g) g.boards (seen_all es) s (Among (said es)) K.invariant K.account b o r.start unlocked
      (λ q m w.
      let t : writes (updates_of q) o ≡ true = writes_is (updates_of q) o ∙ writes_touches (regular_in g) (updates_of q) o w in
      let a : (not (writes (updates_of q) o) || is_covered r.start q) ≡ true = every_member (λ v. not (writes (updates_of v) o) || is_covered r.start v) (s.log b) q log m in
      let z : (not true || is_covered r.start q) ≡ true = rw t at a in z)

  pub clear_all : (r : Row) → all_clear x r ≡ true → (o : ℕ) → Writes (regular_in g) (updates_of r) o → preferred_in g o ≡ b → Clear (Writes (regular_in g)) s b o r.start
  clear_all r e o w q =
      clear_is r o (ours_pass x.tables.config (is_clear x r.start) (updates_of r) e o (ours o w.0 q) (writes_touches (regular_in g) (updates_of r) o w))

  pub wanted : (r : Row) → all_clear x r ≡ true → Wanted (Writes (regular_in g)) (preferred_in g) s b r (wants g x s b A r)
  wanted r e = record {
    all = λ o w q.
        let mine = ours o w.0 q in
        let t = writes_touches (regular_in g) (updates_of r) o w in
        let c = ours_pass x.tables.config (is_clear x r.start) (updates_of r) e o mine t in
        let loose = (and_parts (is_unlocked x.tables.locks o) (is_unchanged x.rows r.start o) c).0 in
        and_from (is_ours x.tables.config o) (writes (updates_of r) o && is_unlocked x.tables.locks o) mine
        (and_from (writes (updates_of r) o) (is_unlocked x.tables.locks o) (writes_is (updates_of r) o ∙ t) loose);
    clear = λ o w.
        let p = and_parts (is_ours x.tables.config o) (writes (updates_of r) o && is_unlocked x.tables.locks o) w in
        let t : touches (updates_of r) o ≡ true = sym (writes_is (updates_of r) o) ∙ (and_parts (writes (updates_of r) o) (is_unlocked x.tables.locks o) p.1).0 in
        clear_is r o (ours_pass x.tables.config (is_clear x r.start) (updates_of r) e o p.0 t);
  }

  -- what is locked for a row's transaction
  pub held_all : (r : Row) → all_locked x.tables r ≡ true → (o : ℕ) → Writes (regular_in g) (updates_of r) o → preferred_in g o ≡ b → s.lock b o ≡ held r.home r.serial
  held_all r e o w q =
      let l = ours_pass x.tables.config (is_locked_by x.tables.locks r.home r.serial) (updates_of r) e o (ours o w.0 q) (writes_touches (regular_in g) (updates_of r) o w) in
      sym (A.locks o) ∙ ap holder_of (locked_by x.tables.locks r.home r.serial o A.single l)
