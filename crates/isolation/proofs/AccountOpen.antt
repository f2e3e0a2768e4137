-- A start and a change keep the account: one transaction has a new content.
use Rattle.std.proofs.Common.{◌≡◌, ℕ, Bool, ◌⊎◌, List, [], ◌∷◌, ◌++◌, sym, refl, ap, ◌∙◌, inl, inr, ⊎_elim, arith}
use Rattle.std.proofs.lemmas.Bool.Decides.{nat_tests}
use Rattle.std.proofs.lemmas.List.{append-nil}
use Rattle.record.specs.declared.clock.Clock.{Clock}
use Rattle.record.specs.declared.row.Update.{Update}
use Rattle.record.specs.declared.row.Row.{Row}
use Rattle.record.specs.Clocks.{entry_of}
use Rattle.record.specs.Rows.{updates_of}
use Rattle.isolation.specs.Books.{transaction, started, changed, Seen, book, snapshot, changes}
use Rattle.isolation.specs.Machine.{unknown, opened, committed, Message, State, with_phase, Alike}
use Rattle.isolation.proofs.Invariant.{Invariant}
use Rattle.isolation.proofs.Effects.{alike_same, alike_push}
use Rattle.isolation.proofs.Cases.{cases_both}
use Rattle.isolation.proofs.Account.{Content, live, row, Account, shelf_alike}

-- a transaction but the one with the new content is as it was
module _ (Writes : List Update → ℕ → Type 0) (pref : ℕ → ℕ) (s : State) (R : Message → Type 0) (I : Invariant Writes pref s R)
    (b t : ℕ) (r : Row) (never : (i : ℕ) → s.phase b t ≡ committed i → ⊥) where
  back : (j v : ℕ) (st : Clock) (us : List Update) → Content (with_phase s b t (opened r)) j v st us
      → (Content s j v st us × (j ≡ b → v ≡ t → ⊥)) ⊎ ((j ≡ b) × (v ≡ t) × (r.start ≡ st) × (updates_of r ≡ us))
  back j v st us (live q e a u) = ⊎_elim
      (λ (x : (j ≡ b) × (v ≡ t)). let same : q ≡ r = grind (arith, nat_tests) in inr (x.0, x.1, ap (λ (y : Row). y.start) (sym same) ∙ a, ap updates_of (sym same) ∙ u))
      (λ (x : j ≡ b → v ≡ t → ⊥). inl (live q (grind (arith, nat_tests, x)) a u, x))
      (cases_both j b v t)
  back j v st us (row i l e a u) = inl (row i l e a u, λ p q. never i (grind (arith, I.own_committed j i l)))

module _ (Writes : List Update → ℕ → Type 0) (pref : ℕ → ℕ) (regular : ℕ → Bool) (n : ℕ) (es : List Seen) (s : State) (R : Message → Type 0)
    (I : Invariant Writes pref s R) (A : Account regular n es s)
    (b t : ℕ) (r : Row) (was : s.phase b t ≡ unknown) (clock : (j : ℕ) → entry_of r.start j ≡ s.shown b j) (empty : updates_of r ≡ []) where
  abbrev s₁ : State
  s₁ = with_phase s b t (opened r)

  abbrev es₁ : List Seen
  es₁ = record { board = b; told = started t } ∷ es

  same_changes : (j v : ℕ) → changes es₁ (transaction j v) ≡ changes es (transaction j v)
  same_changes j v = grind (arith, nat_tests, append-nil)

  pub account_start : Account regular n es₁ s₁
  account_start = record {
    logs = A.logs;
    books = λ p. shelf_alike n s.own (s.shown p) (s.shown p) (book es p) (book es₁ p) (A.books p) (λ i. refl) (grind (arith, nat_tests, append-nil));
    snapshots = λ j v st us c. ⊎_elim
        (λ (x : Content s j v st us × (j ≡ b → v ≡ t → ⊥)). shelf_alike n s.own (entry_of st) (entry_of st) (snapshot es (transaction j v)) (snapshot es₁ (transaction j v))
        (A.snapshots j v st us x.0) (λ i. refl) (grind (arith, nat_tests, x.1)))
        (λ (x : (j ≡ b) × (v ≡ t) × (r.start ≡ st) × (updates_of r ≡ us)). shelf_alike n s.own (s.shown b) (entry_of st) (book es b) (snapshot es₁ (transaction j v))
        (A.books b) (λ i. ap (λ (c : Clock). entry_of c i) (sym x.2) ∙ clock i) (grind (arith, nat_tests)))
        (back Writes pref s R I b t r (λ i e. grind arith) j v st us c);
    contents = λ j v st us c. rw (same_changes j v) (⊎_elim
        (λ (x : Content s j v st us × (j ≡ b → v ≡ t → ⊥)). A.contents j v st us x.0)
        (λ (x : (j ≡ b) × (v ≡ t) × (r.start ≡ st) × (updates_of r ≡ us)). rw (x.0, x.1, A.unstarted b t was, ← x.3, empty) (alike_same regular []))
        (back Writes pref s R I b t r (λ i e. grind arith) j v st us c));
    unstarted = λ j v e. same_changes j v ∙ A.unstarted j v (grind (arith, nat_tests));
    own_propagated = λ j i l. grind (arith, nat_tests, A.own_propagated j i);
    propagated_own = λ j v e. A.propagated_own j v (grind (arith, nat_tests));
    bearers = λ j i l. grind (arith, nat_tests, A.bearers j i);
    heard_shown = λ p j i d. grind (arith, nat_tests, A.heard_shown p j i);
  }

module _ (Writes : List Update → ℕ → Type 0) (pref : ℕ → ℕ) (regular : ℕ → Bool) (n : ℕ) (es : List Seen) (s : State) (R : Message → Type 0)
    (I : Invariant Writes pref s R) (A : Account regular n es s)
    (b t : ℕ) (r r' : Row) (u : Update) (was : s.phase b t ≡ opened r) (clock : r'.start ≡ r.start) (effect : Alike regular (updates_of r ++ (u ∷ [])) (updates_of r')) where
  abbrev s₂ : State
  s₂ = with_phase s b t (opened r')

  abbrev es₂ : List Seen
  es₂ = record { board = b; told = changed t u } ∷ es

  before : Content s b t r.start (updates_of r)
  before = live r (grind arith) refl refl

  pub account_change : Account regular n es₂ s₂
  account_change = record {
    logs = A.logs;
    books = λ p. shelf_alike n s.own (s.shown p) (s.shown p) (book es p) (book es₂ p) (A.books p) (λ i. refl) (grind (arith, nat_tests, append-nil));
    snapshots = λ j v st us c. ⊎_elim
        (λ (x : Content s j v st us × (j ≡ b → v ≡ t → ⊥)). shelf_alike n s.own (entry_of st) (entry_of st) (snapshot es (transaction j v)) (snapshot es₂ (transaction j v))
        (A.snapshots j v st us x.0) (λ i. refl) (grind (arith, nat_tests)))
        (λ (x : (j ≡ b) × (v ≡ t) × (r'.start ≡ st) × (updates_of r' ≡ us)). shelf_alike n s.own (entry_of r.start) (entry_of st) (snapshot es (transaction b t)) (snapshot es₂ (transaction j v))
        (A.snapshots b t r.start (updates_of r) before) (λ i. ap (λ (c : Clock). entry_of c i) (sym x.2 ∙ clock)) (grind (arith, nat_tests)))
        (back Writes pref s R I b t r' (λ i e. grind arith) j v st us c);
    contents = λ j v st us c. ⊎_elim
        (λ (x : Content s j v st us × (j ≡ b → v ≡ t → ⊥)).
        let same : changes es₂ (transaction j v) ≡ changes es (transaction j v) = grind (arith, nat_tests, append-nil, x.1) in rw same (A.contents j v st us x.0))
        (λ (x : (j ≡ b) × (v ≡ t) × (r'.start ≡ st) × (updates_of r' ≡ us)).
        let grown : changes es₂ (transaction j v) ≡ changes es (transaction b t) ++ (u ∷ []) = grind (arith, nat_tests) in
        rw (grown, ← x.3) (alike_push regular (changes es (transaction b t)) (updates_of r) (updates_of r') u (A.contents b t r.start (updates_of r) before) effect))
        (back Writes pref s R I b t r' (λ i e. grind arith) j v st us c);
    unstarted = λ j v e. grind (arith, nat_tests, append-nil, A.unstarted j v);
    own_propagated = λ j i l. grind (arith, nat_tests, A.own_propagated j i);
    propagated_own = λ j v e. A.propagated_own j v (grind (arith, nat_tests));
    bearers = λ j i l. grind (arith, nat_tests, A.bearers j i);
    heard_shown = λ p j i d. grind (arith, nat_tests, A.heard_shown p j i);
  }
