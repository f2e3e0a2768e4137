-- Two moments of a run, and a board at each: equal clocks, equal values.
use Rattle.std.proofs.Common.{◌≡◌, ℕ, ◌≤◌, Bool, List, ℤ, sym, refl, ◌∙◌, arith}
use Rattle.merging.specs.Order.{EitherOrder}
use Rattle.isolation.specs.Books.{Seen, book}
use Rattle.isolation.specs.Values.{all_changes, SameValues}
use Rattle.isolation.specs.Laws.{Writes}
use Rattle.isolation.specs.Machine.{Message, State}
use Rattle.isolation.proofs.Invariant.{Invariant}
use Rattle.isolation.proofs.Grown.{Grown, stays, alike}
use Rattle.isolation.proofs.Account.{Account}
use Rattle.isolation.proofs.Runs.{Later}
use Rattle.isolation.proofs.ShelfValues.{shelf_puts, shelf_merges, same_puts, same_merges}

module _ (regular : ℕ → Bool) (pref : ℕ → ℕ) (n : ℕ) (es es' : List Seen) (s s' : State) (R R' : Message → Type 0)
    (I : Invariant (Writes regular) pref s R) (A : Account regular n es s) (I' : Invariant (Writes regular) pref s' R') (A' : Account regular n es' s')
    (later : Later s s') (b b' : ℕ) (equal : (j : ℕ) → s.shown b j ≡ s'.shown b' j) where
  room : (j : ℕ) → s.shown b j ≤ s.got j j
  room j = omega (arith, I.shown_got b j, I.got_own b j)

  room' : (j : ℕ) → s'.shown b' j ≤ s'.got j j
  room' j = omega (arith, I'.shown_got b' j, I'.got_own b' j)

  -- the earlier book, in the later state
  moved : Grown n s'.own (s'.shown b') (A.books b).rows
  moved = alike n s'.own (stays n s.own s'.own (A.books b).grown (λ j i h. (later j i (omega (arith, h, room j))).0)) (λ j. sym (equal j)) refl

  pub agree : {V : Type 0} (first : V) (step : V → ℤ → V) → EitherOrder step → SameValues first step regular (all_changes es (book es b)) (all_changes es' (book es' b'))
  agree first step order = record {
    regulars = λ o q.
        shelf_puts regular pref n es s R I A (s.shown b) (book es b) (A.books b) room o q
        ∙ same_puts regular pref n es' s' R' I' A' moved (A'.books b').grown room' o q
        ∙ sym (shelf_puts regular pref n es' s' R' I' A' (s'.shown b') (book es' b') (A'.books b') room' o q);
    elements = λ o e q.
        shelf_merges regular pref n es s R I A (s.shown b) (book es b) (A.books b) room step o e q first
        ∙ same_merges regular pref n es' s' R' I' A' moved (A'.books b').grown step order o e first
        ∙ sym (shelf_merges regular pref n es' s' R' I' A' (s'.shown b') (book es' b') (A'.books b') room' step o e q first);
  }
