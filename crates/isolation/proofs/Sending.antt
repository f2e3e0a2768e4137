-- Records to other boards: what they tell, and what they say.
use Rattle.std.proofs.Common.{◌≡◌, ℕ, zero, suc, ◌+◌, ◌≤◌, Bool, true, false, not, ◌&&◌, eqb, ◌⊎◌, List, [], ◌∷◌, map, filter, sym, refl, ap, ◌∙◌, subst, inl, inr, arith}
use mathlib.Core.List.Memᴰ
use mathlib.Core.List.{Memᴰ}
use Rattle.std.specs.List.{range_with_len}
use Rattle.std.proofs.lemmas.Bool.{eqb-true, ne_eqb}
use Rattle.record.specs.declared.kind.RecordKind.TheVariants.{Propagate}
use Rattle.record.specs.declared.message.Record.{Record}
use Rattle.record.specs.declared.row.Row.{Row}
use Rattle.record.specs.declared.row.Update.{Update}
use Rattle.record.specs.Clocks.{covered}
use Rattle.record.specs.Rows.{record_of, row_of}
use Rattle.config.specs.declared.config.Config.{Config}
use Rattle.tables.specs.declared.tables.Tables.{Tables}
use Rattle.board.specs.Commits.{propagates}
use Rattle.board.specs.Resends.{reminder}
use Rattle.isolation.specs.Books.{Told, propagated, nothing}
use Rattle.isolation.specs.Events.{first_propagate}
use Rattle.isolation.specs.Machine.{Message, State, MayWrite, Among}
use Rattle.isolation.proofs.Carried.{FitRow}
use Rattle.isolation.proofs.Simulation.{meaning}
use Rattle.isolation.proofs.Written.{Copies}

-- records that all say one thing
pub copies : (to : ℕ → Record) (v : Message) → ((q : ℕ) → meaning (to q) ≡ v) → (qs : List ℕ) → Copies (map meaning (map to qs)) v
copies to v same qs m i =
    let (x, j, e) = Memᴰ.of_map meaning (map to qs) i in
    let (q, k, f) = Memᴰ.of_map to qs j in
    sym e ∙ ap meaning (sym f) ∙ same q

pub fit_copies : (to : ℕ → Record) → ((q : ℕ) → FitRow (row_of (to q))) → (qs : List ℕ) (m : Record) → Memᴰ m (map to qs) → FitRow (row_of m)
fit_copies to fit qs m i = let (q, k, f) = Memᴰ.of_map to qs i in subst (λ (v : Record). FitRow (row_of v)) f (fit q)

-- one record
pub may_one : (Writes : List Update → ℕ → Type 0) (pref : ℕ → ℕ) (s : State) (R : Message → Type 0) (y : Record) → MayWrite Writes pref s R (meaning y) → (m : Message) → Among (map meaning (y ∷ [])) m → MayWrite Writes pref s R m
may_one Writes pref s R y may m i = subst (MayWrite Writes pref s R) (sym (Memᴰ.eq_of_singleton i)) may

pub fit_one : (y : Record) → FitRow (row_of y) → (m : Record) → Memᴰ m (y ∷ []) → FitRow (row_of m)
fit_one y F m i = subst (λ (v : Record). FitRow (row_of v)) (sym (Memᴰ.eq_of_singleton i)) F

-- records of which none is a PROPAGATE
pub none_propagate : (to : ℕ → Record) (w : Told) → ((q : ℕ) (v : Told) → first_propagate (to q ∷ []) v ≡ v) → (qs : List ℕ) → first_propagate (map to qs) w ≡ w
none_propagate to w other [] = refl
none_propagate to w other (q ∷ qs) = other q (first_propagate (map to qs) w) ∙ none_propagate to w other qs

-- a group has another board
another : (own n : ℕ) → 2 ≤ n → (q : ℕ) × (qs : List ℕ) × (filter (λ p. not (eqb p own) && true) (range_with_len 0 n) ≡ q ∷ qs)
another own zero h = absurd (omega arith)
another own (suc zero) h = absurd (omega arith)
another own (suc (suc n)) h = by (eqb 0 own) refl
  where
    by : (v : Bool) → eqb 0 own ≡ v → (q : ℕ) × (qs : List ℕ) × (filter (λ p. not (eqb p own) && true) (range_with_len 0 (suc (suc n))) ≡ q ∷ qs)
    by false f = (0, filter (λ p. not (eqb p own) && true) (range_with_len (0 + 1) (suc n)), rw f)
    by true f =
        let z : own ≡ 0 = sym (eqb-true 0 own f) in
        let o : eqb 1 own ≡ false = ne_eqb 1 own (λ e. let y : ◌≡◌ {A = ℕ} 1 0 = e ∙ z in omega arith) in
        (1, filter (λ p. not (eqb p own) && true) (range_with_len (0 + 1 + 1) n), rw (f, o))

-- a PROPAGATE to every other board is one
pub propagates_one : (c : Config) (r : Row) (w : Told) → 2 ≤ c.boards → first_propagate (propagates c r) w ≡ propagated r.serial r.number
propagates_one c r w h =
    let (q, qs, e) = another c.own c.boards h in
    ap (λ ps. first_propagate (map (λ p. record_of Propagate p r) ps) w) e

-- of an own row's reminders, the first PROPAGATE tells the row, if there is one
pub reminders_tell : (t : Tables) (r : Row) (qs : List ℕ) → (first_propagate (map (reminder t r) qs) nothing ≡ nothing) ⊎ (first_propagate (map (reminder t r) qs) nothing ≡ propagated r.serial r.number)
reminders_tell t r [] = inl refl
reminders_tell t r (q ∷ qs) = by (reminders_tell t r qs) (covered t.acknowledged q r.number) refl
  where
    by : (first_propagate (map (reminder t r) qs) nothing ≡ nothing) ⊎ (first_propagate (map (reminder t r) qs) nothing ≡ propagated r.serial r.number)
        → (v : Bool) → covered t.acknowledged q r.number ≡ v
        → (first_propagate (map (reminder t r) (q ∷ qs)) nothing ≡ nothing) ⊎ (first_propagate (map (reminder t r) (q ∷ qs)) nothing ≡ propagated r.serial r.number)
    by rest true e = rw e rest
    by rest false e = rw e (inr refl)
