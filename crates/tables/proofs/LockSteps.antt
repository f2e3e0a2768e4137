-- One lock more, and one less.
use Rattle.std.proofs.Common.{rules, ◌≡◌, ℕ, ◌+◌, ◌<◌, cond, List, [], ◌∷◌, ◌++◌, length, get_or, take, drop, set, Option, Some, None, refl, ap, add-one}
use Rattle.std.specs.Option.{is_none}
use Rattle.std.proofs.lemmas.List.{get_or_default}
use Rattle.std.proofs.lemmas.List.Edits.{map_over_more}
use Rattle.tables.specs.Locks.{is_owned, lock_for, with_lock, without_owner}
use Rattle.tables.specs.Places.{first_at}
use Rattle.tables.specs.declared.lock.Lock.{Lock}

pub with_lock_is : (ls : List (Option Lock)) (object home serial : ℕ) → with_lock ls object home serial ≡ set ls (first_at is_none ls) (Some (lock_for object home serial))
with_lock_is [] object home serial = refl
with_lock_is (None ∷ ls) object home serial = refl
with_lock_is (Some l ∷ ls) object home serial = rw add-one (ap (λ rest. Some l ∷ rest) (with_lock_is ls object home serial))

-- one place more without its owner's lock
pub freed_more : (h s : ℕ) (xs ys : List (Option Lock)) (i : ℕ) (d : Option Lock) → i < length xs
    → ys ≡ without_owner h s (take i xs) ++ drop i xs
    → set ys i (cond (is_owned h s (get_or ys i d)) None (get_or ys i d)) ≡ without_owner h s (take (i + 1) xs) ++ drop (i + 1) xs
freed_more h s xs ys i d l e = map_over_more (λ x. cond (is_owned h s x) None x) xs ys i (get_or ys i d) l e (search (rules, get_or_default))
