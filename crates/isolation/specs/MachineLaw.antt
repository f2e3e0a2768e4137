-- The law of the abstract machine: every run of it is isolated.
use Rattle.std.specs.Prelude.{◌≡◌, ℕ, Bool, true, false, List, ◌++◌, ℤ}
use Rattle.record.specs.declared.row.Update.{Update}
use Rattle.record.specs.declared.row.Row.{Row}
use Rattle.record.specs.Rows.{updates_of}
use Rattle.merging.specs.Values.{value_after}
use Rattle.isolation.specs.Books.{transaction, Seen, book}
use Rattle.record.specs.Updates.{last_put, covered_updates}
use Rattle.isolation.specs.Values.{all_changes, visible, count_of, SameValues}
use Rattle.isolation.specs.Laws.{NoLostUpdate, Causal}
use Rattle.isolation.specs.Machine.{opened, Message, State, Onward, Run}

-- what an open transaction finds: the updates of the rows of a log that its start clock covers, then its own
abbrev pub found : List Row → Row → List Update
found log r = covered_updates log r.start ++ updates_of r

-- the laws at one moment of a run
pub record Lawful {V : Type 0} (first : V) (step : V → ℤ → V) (regular : ℕ → Bool) (es : List Seen) (s : State) : Type 0 where
  -- what an open transaction finds in its home's log has the values of what it should see
  pub reads : (b t : ℕ) (r : Row) → s.phase b t ≡ opened r → (o : ℕ) → regular o ≡ true → last_put o (found (s.log b) r) ≡ last_put o (visible es (transaction b t))
  pub looks : (b t : ℕ) (r : Row) → s.phase b t ≡ opened r → (o e : ℕ) → regular o ≡ false
      → value_after step o e first (found (s.log b) r) ≡ value_after step o e first (visible es (transaction b t))
  pub no_lost_update : NoLostUpdate regular es
  pub causal : Causal es
  -- the clock counts the book
  pub counted : (b j : ℕ) → count_of j (book es b) ≡ s.shown b j

-- agreement of two moments, whatever the boards: equal clocks, equal values
abbrev pub Agree : {V : Type 0} → V → (V → ℤ → V) → (ℕ → Bool) → List Seen → State → List Seen → State → Type 0
Agree first step regular es s es' s' =
    (b b' : ℕ) → ((j : ℕ) → s.shown b j ≡ s'.shown b' j) → SameValues first step regular (all_changes es (book es b)) (all_changes es' (book es' b'))

-- every run is lawful, and any two of its moments agree
pub record MachineIsolated {V : Type 0} (first : V) (step : V → ℤ → V) : Type 0 where
  pub lawful : (regular : ℕ → Bool) (pref : ℕ → ℕ) (n : ℕ) (es : List Seen) (s : State) (R : List Message)
      → Run regular pref n es s R → Lawful first step regular es s
  pub agree : (regular : ℕ → Bool) (pref : ℕ → ℕ) (n : ℕ) (es es' : List Seen) (s s' : State) (R R' : List Message)
      → Run regular pref n es s R → Onward regular pref n es s R es' s' R' → Agree first step regular es s es' s'
