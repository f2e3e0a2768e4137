-- Resend is a step of the machine.
use Rattle.std.proofs.Common.{◌≡◌, ℕ, suc, ◌<◌, Bool, true, false, not, ◌&&◌, ◌||◌, eqb, List, [], ◌∷◌, map, Some, None, Ok, Err, Option, Result, sym, refl, ap, ◌∙◌, subst, inl, inr, ⊎_elim, arith}
use mathlib.Core.List.Memᴰ
use mathlib.Core.List.{Memᴰ}
use Rattle.std.proofs.lemmas.Bool.{and_parts, eqb-true, cases_Bool}
use Rattle.record.specs.declared.fault.Fault.{Fault}
use Rattle.record.specs.declared.kind.RecordKind.TheVariants.{Prepare}
use Rattle.record.specs.declared.message.Record.{Record}
use Rattle.record.specs.declared.row.Row.{Row}
use Rattle.record.specs.Clocks.{covered}
use Rattle.record.specs.Rows.{record_of}
use Rattle.config.specs.BoardSets.{is_in}
use Rattle.config.specs.Durable.{is_durable}
use Rattle.tables.specs.Places.{place_of}
use Rattle.tables.specs.declared.place.Place.{Place}
use Rattle.tables.specs.declared.place.Place.TheVariants.{Free, Open, Waiting, Committed, Aborted}
use Rattle.board.specs.Commits.{prepares, buffer_fits}
use Rattle.board.specs.Effects.{State as Board}
use Rattle.queries.specs.Logs.{find_row}
use Rattle.bus.specs.Records.{others}
use Rattle.board.specs.Resends.{reminder, reminders}
use Rattle.isolation.specs.Books.{nothing, propagated}
use Rattle.isolation.specs.Calls.{resend}
use Rattle.isolation.specs.Events.{Event, seen_all, first_propagate}
use Rattle.isolation.specs.Groups.{Group, Built}
use Rattle.isolation.specs.Isolation.{regular_in}
use Rattle.isolation.specs.Laws.{Writes}
use Rattle.isolation.specs.Machine as machine
use Rattle.isolation.specs.Machine.{State, Message, MayWrite, Quiet, silent, again, Among}
use Rattle.isolation.proofs.Carried.{fit_bare, fit_zero}
use Rattle.isolation.proofs.Committing.{own_is}
use Rattle.isolation.proofs.Logs.{from_log}
use Rattle.isolation.proofs.Opening.{still}
use Rattle.isolation.proofs.Runs.{Kept}
use Rattle.isolation.proofs.Sending.{copies, fit_copies, none_propagate, reminders_tell}
use Rattle.isolation.proofs.Simulation.{meaning, preferred_in, said, Placed, At, Step, Steps}
use Rattle.isolation.proofs.Written.{may_copies, may_propagate_again, may_prepare_again}

-- a row of a home with a serial, or with a number
abbrev pub by_serial : ℕ → ℕ → Row → Bool
by_serial t home r = eqb r.home home && eqb r.serial t

abbrev pub by_number : ℕ → ℕ → Row → Bool
by_number k home r = eqb r.home home && eqb r.number k

-- a row that is found stands in the log, and passes the test
pub found_row : (p : Row → Bool) (rows : List Row) (r : Row) → find_row p rows ≡ Some r → Memᴰ r rows × (p r ≡ true)
found_row p [] r e = absurd (let z : ◌≡◌ {A = ℕ} 0 1 = cc in omega arith)
found_row p (q ∷ rows) r e = by (found_row p rows r) (p q) refl
  where
    by : (find_row p rows ≡ Some r → Memᴰ r rows × (p r ≡ true)) → (v : Bool) → p q ≡ v → Memᴰ r (q ∷ rows) × (p r ≡ true)
    by rest true f =
        let a : Some q ≡ Some r = rw f at e in
        let c : q ≡ r = cc in
        (Memᴰ.head (sym c), ap p (sym c) ∙ f)
    by rest false f =
        let a : find_row p rows ≡ Some r = rw f at e in
        let (i, t) = rest a in
        (Memᴰ.tail i, t)

-- records to some boards, each of which may be written
pub may_each : (Writes : _) (pref : ℕ → ℕ) (s : State) (R : Message → Type 0) (to : ℕ → Record) → ((q : ℕ) → MayWrite Writes pref s R (meaning (to q))) → (qs : List ℕ)
    → (m : Message) → Among (map meaning (map to qs)) m → MayWrite Writes pref s R m
may_each Writes pref s R to may qs m i =
    let (y, j, e) = Memᴰ.of_map meaning (map to qs) i in
    let (q, k, f) = Memᴰ.of_map to qs j in
    subst (MayWrite Writes pref s R) (ap meaning f ∙ e) (may q)

module _ (g : Group) (built : Built g) (es : List Event) (s : State) (x : Board) (b : ℕ) (inside : b < g.boards) (A : At g x s b)
    (K : Kept (regular_in g) (preferred_in g) g.boards (seen_all es) s (Among (said es))) where
  -- a row of the log is the own row of its home with its number
  pub logged : (r : Row) → Memᴰ r x.rows → (i : ℕ) × (i < s.got b r.home) × (r.number ≡ suc i) × (s.own r.home i ≡ r)
  logged r i = from_log (Writes (regular_in g)) (preferred_in g) (regular_in g) g.boards (seen_all es) s (Among (said es)) K.invariant K.account b r (rw A.rows at i)

  again_told : (i : ℕ) (r : Row) → i < s.got b b → s.own b i ≡ r → r.number ≡ suc i → Quiet s b (propagated r.serial r.number)
  again_told i r h e n = rw n (subst (λ (q : Row). Quiet s b (propagated q.serial (suc i))) e (again i h))

  reminding : (t : ℕ) (r : Row) → find_row (by_serial t x.tables.config.own) x.rows ≡ Some r
      → Step g es s b (first_propagate (reminders x.tables r) nothing) x (reminders x.tables r)
  reminding t r e =
      let (mem, test) = found_row (by_serial t x.tables.config.own) x.rows r e in
      let home : r.home ≡ b = eqb-true r.home x.tables.config.own (and_parts (eqb r.home x.tables.config.own) (eqb r.serial t) test).0 ∙ own_is g built es s x b inside A K in
      let (i, h, n, own) = logged r mem in
      let h' : i < s.got b b = subst (λ j. i < s.got b j) home h in
      let own' : s.own b i ≡ r = ap (λ j. s.own j i) (sym home) ∙ own in
      let told : Quiet s b (first_propagate (reminders x.tables r) nothing) = ⊎_elim
      (λ (q : first_propagate (reminders x.tables r) nothing ≡ nothing). rw q silent)
      (λ (q : first_propagate (reminders x.tables r) nothing ≡ propagated r.serial r.number). rw q (again_told i r h' own' n))
      (reminders_tell x.tables r (others x.tables.config (λ p. not (covered x.tables.acknowledged p r.number) || is_durable x.tables.config x.tables.acknowledged r))) in
      let F = A.fit_rows r mem in
      record {
        s' = s;
        move = machine.rest b _ told;
        may = may_each (Writes (regular_in g)) (preferred_in g) s (Among (said es)) (reminder x.tables r)
            (λ q. elim (cases_Bool (covered x.tables.acknowledged q r.number)) [
              | inl c ↦ rw c tt
              | inr c ↦ rw c (subst (λ (v : Row). MayWrite (Writes (regular_in g)) (preferred_in g) s (Among (said es)) (machine.propagate v)) own' (may_propagate_again (Writes (regular_in g)) (preferred_in g) s (Among (said es)) K.invariant b i h'))
            ]) (others x.tables.config (λ p. not (covered x.tables.acknowledged p r.number) || is_durable x.tables.config x.tables.acknowledged r));
        at = A;
        fits = fit_copies (reminder x.tables r)
            (λ q. elim (cases_Bool (covered x.tables.acknowledged q r.number)) [
              | inl c ↦ rw c (fit_bare x.tables.config.own 0 r.number 0 _ (omega arith) F.number_fits fit_zero)
              | inr c ↦ rw c F
            ]) (others x.tables.config (λ p. not (covered x.tables.acknowledged p r.number) || is_durable x.tables.config x.tables.acknowledged r));
      }

  asking : (t : ℕ) (r : Row) (polled agreed : ℕ) (p : ℕ → Bool) → place_of x.tables.places t ≡ Waiting r polled agreed
      → Step g es s b (first_propagate (prepares x.tables.config r p) nothing) x (prepares x.tables.config r p)
  asking t r polled agreed p place =
      let P : Placed g b t (Waiting r polled agreed) (s.phase b t) = rw place at (A.places t) in
      rw (none_propagate (λ q. record_of Prepare q r) nothing (λ q v. refl) (others x.tables.config p)) (record {
        s' = s;
        move = machine.rest b nothing silent;
        may = may_copies (Writes (regular_in g)) (preferred_in g) s (Among (said es))
            _ (machine.prepare r) (copies (λ q. record_of Prepare q r) (machine.prepare r) (λ q. refl) (others x.tables.config p))
            (may_prepare_again (Writes (regular_in g)) (preferred_in g) s (Among (said es)) K.invariant b t r (is_in agreed) P.0);
        at = A;
        fits = fit_copies (λ q. record_of Prepare q r) (λ q. P.1.fits) (others x.tables.config p);
      })

  pub steps_resend : (t room : ℕ) → Steps g es s b x (resend t room)
  steps_resend t room = by (place_of x.tables.places t) refl (buffer_fits room) refl (find_row (by_serial t x.tables.config.own) x.rows) refl
    where
      by : (p : Place) → place_of x.tables.places t ≡ p → (v : Result (Unit {0}) Fault) → buffer_fits room ≡ v
          → (o : Option Row) → find_row (by_serial t x.tables.config.own) x.rows ≡ o → Steps g es s b x (resend t room)
      by Free q v w None f = rw (q, f) (still g built es s x b inside A K)
      by Free q (Err d) w (Some r) f = rw (q, f, w) (still g built es s x b inside A K)
      by Free q (Ok u) w (Some r) f = rw (q, f, w) (reminding t r f)
      by (Committed u k) q v w None f = rw (q, f) (still g built es s x b inside A K)
      by (Committed u k) q (Err d) w (Some r) f = rw (q, f, w) (still g built es s x b inside A K)
      by (Committed u k) q (Ok c) w (Some r) f = rw (q, f, w) (reminding t r f)
      by (Open r) q v w o f = rw q (still g built es s x b inside A K)
      by (Aborted u) q v w o f = rw q (still g built es s x b inside A K)
      by (Waiting r polled agreed) q (Err d) w o f = rw (q, w) (still g built es s x b inside A K)
      by (Waiting r polled agreed) q (Ok u) w o f = rw (q, w) (asking t r polled agreed (λ p. is_in polled p && not (is_in agreed p)) q)
