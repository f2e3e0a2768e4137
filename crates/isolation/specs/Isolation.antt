-- The isolation law: parallel snapshot isolation, over every run of every group.
use Rattle.std.specs.Prelude.{◌≡◌, ℕ, ◌<◌, Bool, List, ℤ, Ok, Option}
use Rattle.record.specs.Clocks.{entry_of}
use Rattle.record.specs.Updates.{last_put}
use Rattle.merging.specs.Values.{value_after}
use Rattle.config.specs.Objects.{is_regular}
use Rattle.board.specs.Effects.{State}
use Rattle.board.specs.Transactions.{read, look}
use Rattle.queries.specs.Walks.{word_of}
use Rattle.isolation.specs.Books.{transaction, book}
use Rattle.isolation.specs.Values.{all_changes, visible, count_of, SameValues}
use Rattle.isolation.specs.Laws.{NoLostUpdate, Causal}
use Rattle.isolation.specs.Events.{Event, seen_all}
use Rattle.isolation.specs.Groups.{Group, config_of, Built, Run, Onward}

-- whether an object is regular
abbrev pub regular_in : Group → ℕ → Bool
regular_in g object = is_regular (config_of g 0) object

-- the laws at one moment of a run; every earlier moment of it is a run too
pub record Lawful {V : Type 0} (kind : ℕ) (first : V) (step : V → ℤ → V) (g : Group) (es : List Event) (bs : ℕ → State) : Type 0 where
  -- a read that is accepted answers the last put in what its board had committed when the transaction started, in the order
  -- of that board's book, and then in the transaction's own updates; nil if there is none
  pub reads : (b home t object : ℕ) (w : Option ℕ) → b < g.boards → (read (bs b) home t object).answer ≡ Ok w
      → w ≡ word_of (last_put object (visible (seen_all es) (transaction b t)))
  -- a look that is accepted answers the first value, stepped by the same updates
  pub looks : (b home t object element : ℕ) (v : V) → b < g.boards → (look kind first step (bs b) home t object element).answer ≡ Ok v
      → v ≡ value_after step object element first (visible (seen_all es) (transaction b t))
  -- of two committed transactions that write one regular object, one is in the other's snapshot
  pub no_lost_update : NoLostUpdate (regular_in g) (seen_all es)
  -- a transaction commits on a board only after every transaction in its snapshot has committed there
  pub causal : Causal (seen_all es)
  -- the Committed clock counts the book by home board
  pub counted : (b j : ℕ) → b < g.boards → count_of j (book (seen_all es) b) ≡ entry_of (bs b).tables.committed j

-- equal Committed clocks, on two boards at two moments, mean equal values of every object
abbrev pub Agree : {V : Type 0} → V → (V → ℤ → V) → Group → List Event → (ℕ → State) → List Event → (ℕ → State) → Type 0
Agree first step g es bs es' bs' =
    (b b' : ℕ) → b < g.boards → b' < g.boards
    → ((j : ℕ) → entry_of (bs b).tables.committed j ≡ entry_of (bs' b').tables.committed j)
    → SameValues first step (regular_in g) (all_changes (seen_all es) (book (seen_all es) b)) (all_changes (seen_all es') (book (seen_all es') b'))

-- for a merging kind with its number, first value and step: every run of every group that was built is lawful, and any two moments of it agree
pub record Isolated {V : Type 0} (kind : ℕ) (first : V) (step : V → ℤ → V) : Type 0 where
  pub lawful : (g : Group) → Built g → (es : List Event) (bs : ℕ → State) → Run g es bs → Lawful kind first step g es bs
  pub agree : (g : Group) → Built g → (es es' : List Event) (bs bs' : ℕ → State) → Run g es bs → Onward g es bs es' bs' → Agree first step g es bs es' bs'
