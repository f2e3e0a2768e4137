-- A board and its part of the machine's state, after each change of its tables and its log.
use Rattle.std.proofs.Common.{◌≡◌, ℕ, suc, ◌<◌, ◌≤◌, Bool, true, false, cond, ◌&&◌, eqb, [], ◌∷◌, ◌++◌, length, Some, None, Option, sym, refl, ap, ◌∙◌, subst, ⊎_elim, arith}
use mathlib.Core.List.Memᴰ
use mathlib.Core.List.{Memᴰ}
use Rattle.std.proofs.lemmas.Bool.{eq-eqb}
use Rattle.std.proofs.lemmas.List.{length-set}
use Rattle.std.proofs.lemmas.Bool.Decides.{nat_tests}
use Rattle.record.specs.declared.row.Row.{Row}
use Rattle.record.specs.Rows.{updates_of}
use Rattle.tables.specs.Changes.{placed, locked, released, with_own, with_got, with_shown, with_ack}
use Rattle.tables.specs.Locks.{is_unlocked, free_locks}
use Rattle.config.specs.Objects.{is_ours, writes, count_ours}
use Rattle.tables.specs.Places.{is_free, has_serial, first_at, place_of, with_place}
use Rattle.tables.specs.Transactions.{started, opened as opened_by, freed}
use Rattle.tables.specs.declared.place.Place.{Place}
use Rattle.tables.specs.declared.place.Place.TheVariants.{Free, Open}
use Rattle.tables.specs.declared.tables.Tables.{Tables}
use Rattle.tables.proofs.Owners.{lock_of, locks_taken, locks_single, without, owner_gone, owner_gone_single}
use Rattle.tables.proofs.Serials.{one_serial, put_distinct}
use Rattle.board.specs.Effects.{State as Board}
use Rattle.isolation.specs.Groups.{Group}
use Rattle.isolation.specs.Machine as machine
use Rattle.isolation.specs.Machine.{Phase, unknown, opened, held, State, put, appends, locks, frees, with_phase, takes}
use Rattle.isolation.proofs.Invariant.{live_row}
use Rattle.isolation.proofs.Carried.{FitRow, entry_raised, raised_eight, fit_raised}
use Rattle.isolation.proofs.Simulation.{holder_of, Placed, At}
use Rattle.isolation.proofs.Placing.{nothing_yet, placed_other, placed_free, placed_start, distinct_start}

-- a board with other tables
abbrev pub with_tables : Board → Tables → Board
with_tables x t = record { tables = t; rows = x.rows; capacity = x.capacity }

-- a board with other tables, and one row more
abbrev pub with_row : Board → Tables → Row → Board
with_row x t r = record { tables = t; rows = x.rows ++ r ∷ []; capacity = x.capacity }

holder_cond : (w : Bool) (h t : ℕ) (v : Option (ℕ × ℕ)) → holder_of (cond w (Some (h, t)) v) ≡ cond w (held h t) (holder_of v)
holder_cond true h t v = refl
holder_cond false h t v = refl

holder_without : (h t : ℕ) (v : Option (ℕ × ℕ)) → holder_of (without h t v) ≡ machine.freed h t (holder_of v)
holder_without h t None = refl
holder_without h t (Some p) = grind (arith, nat_tests)

at_self : (b : ℕ) {X : Type 0} (y z : X) → cond (eqb b b) y z ≡ y
at_self b y z = rw (eq-eqb b b refl)

module _ (g : Group) (x : Board) (s : State) (b : ℕ) (A : At g x s b) where
  -- a serial that has a place is given out
  given_out : (t u : ℕ) → has_serial t (place_of x.tables.places t) ≡ true → x.tables.next ≤ u → u ≡ t → ⊥
  given_out t u had h e =
      let was : s.phase b t ≡ unknown = A.later t (rw e at h) in
      let none : place_of x.tables.places t ≡ Free = nothing_yet g b t (place_of x.tables.places t) (subst (Placed g b t (place_of x.tables.places t)) was (A.places t)) in
      let z : false ≡ true = ap (has_serial t) (sym none) ∙ had in
      grind arith

  still_later : (t : ℕ) (v : Phase) → has_serial t (place_of x.tables.places t) ≡ true → (u : ℕ) → x.tables.next ≤ u → put s.phase b t v b u ≡ unknown
  still_later t v had u h = let d = given_out t u had h in let w = A.later u h in grind (arith, nat_tests)

  pub at_placed : (t : ℕ) (q : Place) (v : Phase) → has_serial t q ≡ true → has_serial t (place_of x.tables.places t) ≡ true → Placed g b t q v
      → At g (with_tables x (placed x.tables t q)) (with_phase s b t v) b
  at_placed t q v is had Q = record {
    config = A.config;
    rows = A.rows;
    fit_rows = A.fit_rows;
    gots = A.gots;
    showns = A.showns;
    eight = A.eight;
    fit_shown = A.fit_shown;
    locks = A.locks;
    single = A.single;
    places = placed_other g b x.tables.places s.phase A.places t v q is had Q;
    distinct = put_distinct t q x.tables.places (λ u has. one_serial q u t has is) A.distinct;
    eight_places = length-set x.tables.places (first_at (has_serial t) x.tables.places) q ∙ A.eight_places;
    later = still_later t v had;
  }

  pub at_freed : (t : ℕ) (v : Phase) → has_serial t (place_of x.tables.places t) ≡ true → live_row v ≡ None
      → At g (with_tables x (freed x.tables t)) (with_phase s b t v) b
  at_freed t v had Q = record {
    config = A.config;
    rows = A.rows;
    fit_rows = A.fit_rows;
    gots = A.gots;
    showns = A.showns;
    eight = A.eight;
    fit_shown = A.fit_shown;
    locks = A.locks;
    single = A.single;
    places = placed_free g b x.tables.places s.phase A.places t v A.distinct Q;
    distinct = put_distinct t Free x.tables.places (λ u has. cc) A.distinct;
    eight_places = length-set x.tables.places (first_at (has_serial t) x.tables.places) Free ∙ A.eight_places;
    later = still_later t v had;
  }

  -- a place is freed and no phase changes
  pub at_settled : (t : ℕ) → has_serial t (place_of x.tables.places t) ≡ true → live_row (s.phase b t) ≡ None → At g (with_tables x (freed x.tables t)) s b
  at_settled t had Q = let F = at_freed t (s.phase b t) had Q in record {
    config = A.config;
    rows = A.rows;
    fit_rows = A.fit_rows;
    gots = A.gots;
    showns = A.showns;
    eight = A.eight;
    fit_shown = A.fit_shown;
    locks = A.locks;
    single = A.single;
    places = λ u. let e : put s.phase b t (s.phase b t) b u ≡ s.phase b u = grind (arith, nat_tests) in subst (Placed g b u (place_of (with_place x.tables.places t Free) u)) e (F.places u);
    distinct = F.distinct;
    eight_places = F.eight_places;
    later = A.later;
  }

  pub at_started : first_at is_free x.tables.places < 8 → Placed g b x.tables.next (Open (opened_by x.tables)) (opened (opened_by x.tables))
      → At g (with_tables x (started x.tables)) (with_phase s b x.tables.next (opened (opened_by x.tables))) b
  at_started room Q =
      let r = opened_by x.tables in
      let room' : first_at is_free x.tables.places < length x.tables.places = omega (arith, A.eight_places) in
      let was : s.phase b x.tables.next ≡ unknown = A.later x.tables.next (omega arith) in
      record {
        config = A.config;
        rows = A.rows;
        fit_rows = A.fit_rows;
        gots = A.gots;
        showns = A.showns;
        eight = A.eight;
        fit_shown = A.fit_shown;
        locks = A.locks;
        single = A.single;
        places = placed_start g b x.tables.places s.phase A.places r room' was Q;
        distinct = distinct_start g b x.tables.places s.phase A.places r room' was A.distinct;
        eight_places = length-set x.tables.places (first_at is_free x.tables.places) (Open r) ∙ A.eight_places;
        later = λ u h. let w = A.later u (omega arith) in grind (arith, nat_tests);
      }

  -- what is wanted of the row's objects here
  abbrev pub wants : Row → ℕ → Bool
  wants r o = is_ours x.tables.config o && (writes (updates_of r) o && is_unlocked x.tables.locks o)

  pub at_locked : (r : Row) → count_ours x.tables.config (updates_of r) ≤ free_locks x.tables.locks
      → At g (with_tables x (locked x.tables r)) (machine.with_locks s (locks s.lock b (wants r) r.home r.serial)) b
  at_locked r enough = record {
    config = A.config;
    rows = A.rows;
    fit_rows = A.fit_rows;
    gots = A.gots;
    showns = A.showns;
    eight = A.eight;
    fit_shown = A.fit_shown;
    locks = λ o.
        ap holder_of (locks_taken x.tables.config r.home r.serial x.tables.locks (updates_of r) o enough)
        ∙ holder_cond (wants r o) r.home r.serial (lock_of x.tables.locks o)
        ∙ ap (cond (wants r o) (held r.home r.serial)) (A.locks o)
        ∙ sym (at_self b (cond (wants r o) (held r.home r.serial) (s.lock b o)) (s.lock b o));
    single = locks_single x.tables.config r.home r.serial x.tables.locks (updates_of r) A.single;
    places = A.places;
    distinct = A.distinct;
    eight_places = A.eight_places;
    later = A.later;
  }

  pub at_released : (h t : ℕ) → At g (with_tables x (released x.tables h t)) (machine.with_locks s (frees s.lock b h t)) b
  at_released h t = record {
    config = A.config;
    rows = A.rows;
    fit_rows = A.fit_rows;
    gots = A.gots;
    showns = A.showns;
    eight = A.eight;
    fit_shown = A.fit_shown;
    locks = λ o.
        ap holder_of (owner_gone h t x.tables.locks o A.single)
        ∙ holder_without h t (lock_of x.tables.locks o)
        ∙ ap (machine.freed h t) (A.locks o)
        ∙ sym (at_self b (machine.freed h t (s.lock b o)) (s.lock b o));
    single = owner_gone_single h t x.tables.locks A.single;
    places = A.places;
    distinct = A.distinct;
    eight_places = A.eight_places;
    later = A.later;
  }

  own_is : x.tables.config.own ≡ b
  own_is = ap (λ c. c.own) A.config

  fit_more : (r : Row) → FitRow r → (q : Row) → Memᴰ q (x.rows ++ r ∷ []) → FitRow q
  fit_more r F q m = ⊎_elim (λ (k : Memᴰ q x.rows). A.fit_rows q k) (λ (k : Memᴰ q (r ∷ [])). subst FitRow (sym (Memᴰ.eq_of_singleton k)) F) (Memᴰ.append_cases x.rows m)

  log_more : (r : Row) → x.rows ++ r ∷ [] ≡ appends s.log b r b
  log_more r = ap (λ l. l ++ r ∷ []) A.rows ∙ sym (at_self b (s.log b ++ r ∷ []) (s.log b))

  -- an own row is in the log, and shows
  pub at_own : (r : Row) (k : ℕ) → b < 8 → FitRow r → k < 65536 → s.shown b b ≡ s.got b b → k ≡ suc (s.got b b)
      → At g (with_row x (with_own x.tables k) r)
      (record {
        own = put s.own b (s.got b b) r;
        got = put s.got b b (suc (s.got b b));
        shown = put s.shown b b (suc (s.got b b));
        log = appends s.log b r;
        lock = s.lock;
        phase = s.phase;
      }) b
  at_own r k low F small same next = record {
    config = A.config;
    rows = log_more r;
    fit_rows = fit_more r F;
    gots = λ j. rw own_is (entry_raised x.tables.got b k j A.eight low ∙ grind (arith, nat_tests, A.gots j, A.gots b));
    showns = λ j. rw own_is (entry_raised x.tables.committed b k j A.fit_shown.eight low ∙ grind (arith, nat_tests, A.showns j, A.showns b));
    eight = raised_eight x.tables.got x.tables.config.own k A.eight;
    fit_shown = fit_raised x.tables.committed x.tables.config.own k (rw own_is low) small A.fit_shown;
    locks = A.locks;
    single = A.single;
    places = A.places;
    distinct = A.distinct;
    eight_places = A.eight_places;
    later = A.later;
  }

  -- a row of another home is in the log
  pub at_taken : (r : Row) → r.home < 8 → FitRow r → r.number ≡ suc (s.got b r.home) → At g (with_row x (with_got x.tables r.home r.number) r) (takes s b r) b
  at_taken r low F next = record {
    config = A.config;
    rows = log_more r;
    fit_rows = fit_more r F;
    gots = λ j. entry_raised x.tables.got r.home r.number j A.eight low ∙ grind (arith, nat_tests, A.gots j, A.gots r.home);
    showns = A.showns;
    eight = raised_eight x.tables.got r.home r.number A.eight;
    fit_shown = A.fit_shown;
    locks = A.locks;
    single = A.single;
    places = A.places;
    distinct = A.distinct;
    eight_places = A.eight_places;
    later = A.later;
  }

  -- a row of another home shows
  pub at_shown : (h k : ℕ) → h < 8 → k < 65536 → k ≡ suc (s.shown b h)
      → At g (with_tables x (with_shown x.tables h k))
      (record { own = s.own; got = s.got; shown = put s.shown b h (suc (s.shown b h)); log = s.log; lock = s.lock; phase = s.phase }) b
  at_shown h k low small next = record {
    config = A.config;
    rows = A.rows;
    fit_rows = A.fit_rows;
    gots = A.gots;
    showns = λ j. entry_raised x.tables.committed h k j A.fit_shown.eight low ∙ grind (arith, nat_tests, A.showns j, A.showns h);
    eight = A.eight;
    fit_shown = fit_raised x.tables.committed h k low small A.fit_shown;
    locks = A.locks;
    single = A.single;
    places = A.places;
    distinct = A.distinct;
    eight_places = A.eight_places;
    later = A.later;
  }

  pub at_acknowledged : (p k : ℕ) → At g (with_tables x (with_ack x.tables p k)) s b
  at_acknowledged p k = record {
    config = A.config;
    rows = A.rows;
    fit_rows = A.fit_rows;
    gots = A.gots;
    showns = A.showns;
    eight = A.eight;
    fit_shown = A.fit_shown;
    locks = A.locks;
    single = A.single;
    places = A.places;
    distinct = A.distinct;
    eight_places = A.eight_places;
    later = A.later;
  }
