-- All objects clear: none is locked, and no row of the log clashes.
use Rattle.std.proofs.Common.{◌≡◌, Bool, true, false, not, ◌&&◌, ◌||◌, List, [], ◌∷◌, sym, refl, ap, ◌∙◌}
use Rattle.std.specs.List.{list_all}
use Rattle.record.specs.Rows.{updates_of}
use Rattle.record.specs.Updates.{is_covered}
use Rattle.record.specs.declared.row.Row.{Row}
use Rattle.tables.specs.Changes.{all_unlocked}
use Rattle.config.specs.Objects.{clashes}
use Rattle.tables.specs.Locks.{is_unlocked}
use Rattle.config.specs.Objects.{writes, is_ours, every_ours}
use Rattle.board.specs.Commits.{all_clear}
use Rattle.board.specs.Effects.{State}
use Rattle.queries.specs.Logs.{is_unchanged}

-- ## Tests of every element

and_trade : (a b c d : Bool) → ((a && b) && (c && d)) ≡ ((a && c) && (b && d))
and_trade true true c d = refl
and_trade true false true d = refl
and_trade true false false d = refl
and_trade false b c d = refl

module _ {X : Type 0} where
  every_same : (p q : X → Bool) → ((x : X) → p x ≡ q x) → (xs : List X) → list_all p xs ≡ list_all q xs
  every_same p q e [] = refl
  every_same p q e (x ∷ xs) = ap (λ b. b && list_all p xs) (e x) ∙ ap (λ b. q x && b) (every_same p q e xs)

  every_both : (p q : X → Bool) (xs : List X) → list_all (λ x. p x && q x) xs ≡ (list_all p xs && list_all q xs)
  every_both p q [] = refl
  every_both p q (x ∷ xs) = ap (λ b. (p x && q x) && b) (every_both p q xs) ∙ and_trade (p x) (q x) (list_all p xs) (list_all q xs)

  all_true : (xs : List X) → list_all (λ _. true) xs ≡ true
  all_true [] = refl
  all_true (x ∷ xs) = all_true xs

  every_after : (b : Bool) (p : X → Bool) (xs : List X) → (b || list_all p xs) ≡ list_all (λ x. b || p x) xs
  every_after true p xs = sym (all_true xs)
  every_after false p xs = refl

  every_before : (b : Bool) (p : X → Bool) (xs : List X) → list_all (λ x. p x || b) xs ≡ (list_all p xs || b)
  every_before b p [] = refl
  every_before b p (x ∷ xs) = ap (λ v. (p x || b) && v) (every_before b p xs) ∙ by (p x) (list_all p xs) b
    where
      by : (u v w : Bool) → ((u || w) && (v || w)) ≡ ((u && v) || w)
      by true v w = refl
      by false true true = refl
      by false true false = refl
      by false false true = refl
      by false false false = refl

every_swap : {X Y : Type 0} (f : X → Y → Bool) (xs : List X) (ys : List Y) → list_all (λ x. list_all (f x) ys) xs ≡ list_all (λ y. list_all (λ x. f x y) xs) ys
every_swap f [] ys = sym (all_true ys)
every_swap f (x ∷ xs) ys = ap (λ b. list_all (f x) ys && b) (every_swap f xs ys) ∙ sym (every_both (f x) (λ y. list_all (λ z. f z y) xs) ys)

-- ## Clear objects

or_and : (a b c : Bool) → (a || (b && c)) ≡ ((a || b) && (a || c))
or_and true b c = refl
or_and false b c = refl

or_regroup : (a b c : Bool) → (a || (b || c)) ≡ ((a || b) || c)
or_regroup true b c = refl
or_regroup false b c = refl

not_both : (a b : Bool) → (b || a) ≡ not (not a && not b)
not_both true true = refl
not_both true false = refl
not_both false true = refl
not_both false false = refl

module _ (s : State) (r : Row) where
  -- a row of the log is covered, or writes none of our objects
  row_apart : (other : Row) → list_all (λ u. not (is_ours s.tables.config u.object) || (not (writes (updates_of other) u.object) || is_covered r.start other)) (updates_of r) ≡ not (clashes s.tables.config r other)
  row_apart other =
      every_same _ _ (λ u. or_regroup (not (is_ours s.tables.config u.object)) (not (writes (updates_of other) u.object)) (is_covered r.start other)) (updates_of r)
      ∙ every_before (is_covered r.start other) (λ u. not (is_ours s.tables.config u.object) || not (writes (updates_of other) u.object)) (updates_of r)
      ∙ not_both (is_covered r.start other) (every_ours s.tables.config (λ o. not (writes (updates_of other) o)) (updates_of r))

  pub clear_apart : all_clear s r ≡ (all_unlocked s.tables r && list_all (λ other. not (clashes s.tables.config r other)) s.rows)
  clear_apart =
      every_same _ _
      (λ u. or_and (not (is_ours s.tables.config u.object)) (is_unlocked s.tables.locks u.object) (is_unchanged s.rows r.start u.object)) (updates_of r)
      ∙ every_both (λ u. not (is_ours s.tables.config u.object) || is_unlocked s.tables.locks u.object)
      (λ u. not (is_ours s.tables.config u.object) || is_unchanged s.rows r.start u.object) (updates_of r)
      ∙ ap (λ b. all_unlocked s.tables r && b)
      (every_same _ _
      (λ u. every_after (not (is_ours s.tables.config u.object)) (λ other. not (writes (updates_of other) u.object) || is_covered r.start other) s.rows) (updates_of r)
      ∙ every_swap (λ u other. not (is_ours s.tables.config u.object) || (not (writes (updates_of other) u.object) || is_covered r.start other)) (updates_of r) s.rows
      ∙ every_same _ _ row_apart s.rows)

not_not : (b : Bool) → not (not b) ≡ b
not_not true = refl
not_not false = refl

-- the two tests, one after the other
pub both_tests : (s : State) (r : Row) (unlocked clash : Bool) → unlocked ≡ all_unlocked s.tables r → clash ≡ not (list_all (λ other. not (clashes s.tables.config r other)) s.rows) → (unlocked && not clash) ≡ all_clear s r
both_tests s r unlocked clash u k =
    ap (λ b. b && not clash) u
    ∙ ap (λ b. all_unlocked s.tables r && not b) k
    ∙ ap (λ b. all_unlocked s.tables r && b) (not_not (list_all (λ other. not (clashes s.tables.config r other)) s.rows))
    ∙ sym (clear_apart s r)

pub first_test : (s : State) (r : Row) (unlocked : Bool) → unlocked ≡ all_unlocked s.tables r → unlocked ≡ false → unlocked ≡ all_clear s r
first_test s r unlocked u f =
    let clash : Bool = not (list_all (λ other. not (clashes s.tables.config r other)) s.rows) in
    f ∙ ap (λ b. b && not clash) (sym f) ∙ both_tests s r unlocked clash u refl
