-- Who has locked an object, and what taking and freeing locks does to that.
use Rattle.std.proofs.Common.{◌≡◌, ℕ, zero, suc, ◌+◌, ◌≤◌, true, false, cond, not, ◌&&◌, eqb, List, [], ◌∷◌, replicate, Some, None, Option, sym, refl, ap, ◌∙◌, inl, inr, arith}
use Rattle.std.proofs.lemmas.Bool.{eqb-true, eqb-false, eq-eqb, ne_eqb, cases_Bool, and_parts, and_from, and_right, not-true, cond-true, cond-false, false≢true}
use Rattle.std.proofs.lemmas.Bool.Decides.{nat_tests}
use Rattle.std.proofs.lemmas.List.Sums.{sum_by-cons}
use Rattle.std.specs.Option.{is_none}
use Rattle.record.specs.declared.row.Update.{Update}
use Rattle.tables.specs.Locks.{is_unlocked, is_locked_by, free_locks, with_lock, with_locks, without_owner}
use Rattle.config.specs.Objects.{is_ours, writes, count_ours}
use Rattle.config.specs.declared.config.Config.{Config}
use Rattle.tables.specs.declared.lock.Lock.{Lock}

-- the home and the serial of an object's owner: that in the first place that holds it
abbrev pub lock_of : List (Option Lock) → ℕ → Option (ℕ × ℕ)
lock_of [] o = None
lock_of (None ∷ ls) o = lock_of ls o
lock_of (Some l ∷ ls) o = cond (eqb l.object o) (Some (l.owner.home, l.owner.serial)) (lock_of ls o)

-- no object stands in two places
abbrev pub Single : List (Option Lock) → Type 0
Single [] = Unit {0}
Single (None ∷ ls) = Single ls
Single (Some l ∷ ls) = (is_unlocked ls l.object ≡ true) × Single ls

-- ## Locked and unlocked

-- an object is unlocked where it has no owner
unlocked_is : (ls : List (Option Lock)) (o : ℕ) → is_unlocked ls o ≡ is_none (lock_of ls o)
unlocked_is [] o = refl
unlocked_is (None ∷ ls) o = unlocked_is ls o
unlocked_is (Some l ∷ ls) o = elim (cases_Bool (eqb l.object o)) [ inl t ↦ simp t | inr f ↦ simp f (unlocked_is ls o) ]

none_is : {A : Type 0} (x : Option A) → is_none x ≡ true → x ≡ None
none_is None e = refl
none_is (Some y) e = cc

pub none_unlocked : (ls : List (Option Lock)) (o : ℕ) → lock_of ls o ≡ None → is_unlocked ls o ≡ true
none_unlocked ls o e = unlocked_is ls o ∙ ap is_none e

pub unlocked_none : (ls : List (Option Lock)) (o : ℕ) → is_unlocked ls o ≡ true → lock_of ls o ≡ None
unlocked_none ls o e = none_is (lock_of ls o) (sym (unlocked_is ls o) ∙ e)

-- two lists that agree on an owner agree on whether there is one
same_unlocked : (ks ls : List (Option Lock)) (o : ℕ) → lock_of ks o ≡ lock_of ls o → is_unlocked ks o ≡ is_unlocked ls o
same_unlocked ks ls o e = unlocked_is ks o ∙ (ap is_none e ∙ sym (unlocked_is ls o))

some_locked : (ls : List (Option Lock)) (o h s : ℕ) → lock_of ls o ≡ Some (h, s) → is_unlocked ls o ≡ false
some_locked ls o h s e = unlocked_is ls o ∙ ap is_none e

-- a lock that its owner is seen to have is the object's one lock
pub locked_by : (ls : List (Option Lock)) (h s o : ℕ) → Single ls → is_locked_by ls h s o ≡ true → lock_of ls o ≡ Some (h, s)
locked_by [] h s o one e = cc
locked_by (None ∷ ls) h s o one e = locked_by ls h s o one e
locked_by (Some l ∷ ls) h s o one e =
    let none = unlocked_none ls l.object one.0 in
    let rest = locked_by ls h s o one.1 in
    grind (arith, nat_tests, e, none, rest)

pub owner_locks : (ls : List (Option Lock)) (h s o : ℕ) → lock_of ls o ≡ Some (h, s) → is_locked_by ls h s o ≡ true
owner_locks [] h s o e = cc
owner_locks (None ∷ ls) h s o e = owner_locks ls h s o e
owner_locks (Some l ∷ ls) h s o e =
    elim (cases_Bool (eqb l.object o)) [
      | inl t ↦
          let is : ◌≡◌ {A = Option (ℕ × ℕ)} (Some (l.owner.home, l.owner.serial)) (Some (h, s)) = simp t at e in
          let both : ◌≡◌ {A = ℕ × ℕ} (l.owner.home, l.owner.serial) (h, s) = cc in
          let home : eqb l.owner.home h ≡ true = eq-eqb l.owner.home h (ap (λ (q : ℕ × ℕ). q.0) both) in
          let serial : eqb l.owner.serial s ≡ true = eq-eqb l.owner.serial s (ap (λ (q : ℕ × ℕ). q.1) both) in
          simp (t, home, serial)
      | inr f ↦
          let rest : lock_of ls o ≡ Some (h, s) = simp f at e in
          simp f (owner_locks ls h s o rest)
    ]

-- free places lock nothing
pub free_none : (n o : ℕ) → lock_of (replicate n None) o ≡ None
free_none zero o = refl
free_none (suc n) o = free_none n o

pub free_single : (n : ℕ) → Single (replicate n None)
free_single zero = tt
free_single (suc n) = free_single n

-- ## One lock more

module _ (o h s : ℕ) where
  pub taken_same : (ls : List (Option Lock)) → is_unlocked ls o ≡ true → 1 ≤ free_locks ls → lock_of (with_lock ls o h s) o ≡ Some (h, s)
  taken_same [] e n = let z : ⊥ = omega arith in absurd z
  taken_same (None ∷ ls) e n = simp (eq-eqb o o refl)
  taken_same (Some l ∷ ls) e n =
      let rest = taken_same ls in
      grind (arith, nat_tests, e, n, rest)

  pub taken_other : (ls : List (Option Lock)) (q : ℕ) → eqb o q ≡ false → lock_of (with_lock ls o h s) q ≡ lock_of ls q
  taken_other [] q f = refl
  taken_other (None ∷ ls) q f = simp f
  taken_other (Some l ∷ ls) q f = ap (λ r. cond (eqb l.object q) (Some (l.owner.home, l.owner.serial)) r) (taken_other ls q f)

  pub taken_single : (ls : List (Option Lock)) → is_unlocked ls o ≡ true → Single ls → Single (with_lock ls o h s)
  taken_single [] e one = one
  taken_single (None ∷ ls) e one = (e, one)
  taken_single (Some l ∷ ls) e one =
      let p = and_parts (not (eqb l.object o)) (is_unlocked ls o) e in
      let apart : eqb o l.object ≡ false = ne_eqb o l.object (λ same. eqb-false l.object o (not-true (eqb l.object o) p.0) (sym same)) in
      (same_unlocked (with_lock ls o h s) ls l.object (taken_other ls l.object apart) ∙ one.0, taken_single ls p.1 one.1)

  pub taken_free : (ls : List (Option Lock)) → 1 ≤ free_locks ls → free_locks (with_lock ls o h s) + 1 ≡ free_locks ls
  taken_free [] n = let z : 1 ≤ 0 = n in omega arith
  taken_free (None ∷ ls) n =
      let was : free_locks (None ∷ ls) ≡ 1 + free_locks ls = sum_by-cons (λ place. cond (is_none place) 1 0) None ls in
      omega arith
  taken_free (Some l ∷ ls) n = taken_free ls n

-- ## The locks for what is written

-- how many of our objects are written and not locked, each counted once
abbrev wanted : Config → List (Option Lock) → List Update → ℕ
wanted c ls [] = 0
wanted c ls (u ∷ us) =
    cond (is_ours c u.object && is_unlocked ls u.object && not (writes us u.object)) 1 0 + wanted c ls us

wanted_few : (c : Config) (ls : List (Option Lock)) (us : List Update) → wanted c ls us ≤ count_ours c us
wanted_few c ls [] = omega arith
wanted_few c ls (u ∷ us) = let rest = wanted_few c ls us in grind (arith, nat_tests)

writes_later : (u : Update) (us : List Update) (o : ℕ) → eqb u.object o ≡ false → writes (u ∷ us) o ≡ writes us o
writes_later u us o f = simp f

-- a lock that is taken is wanted no more
module _ (c : Config) (ls : List (Option Lock)) (o h s : ℕ) (ours : is_ours c o ≡ true) (loose : is_unlocked ls o ≡ true) (room : 1 ≤ free_locks ls) where
  shut : is_unlocked (with_lock ls o h s) o ≡ false
  shut = some_locked (with_lock ls o h s) o h s (taken_same o h s ls loose room)

  others_stay : (q : ℕ) → eqb o q ≡ false → is_unlocked (with_lock ls o h s) q ≡ is_unlocked ls q
  others_stay q f = same_unlocked (with_lock ls o h s) ls q (taken_other o h s ls q f)

  wanted_less : (us : List Update) → wanted c ls us ≡ cond (writes us o) 1 0 + wanted c (with_lock ls o h s) us
  wanted_less [] = omega arith
  wanted_less (u ∷ us) =
      let rest = wanted_less us in
      elim (cases_Bool (eqb o u.object)) [
        | inl t ↦ let same : o ≡ u.object = eqb-true o u.object t in grind (arith, nat_tests, ours, loose, shut, rest)
        | inr f ↦ let stay = others_stay u.object f in grind (arith, nat_tests, stay, rest)
      ]

-- an object of ours that is written and not locked is wanted
wanted_some : (c : Config) (ls : List (Option Lock)) (o : ℕ) → is_ours c o ≡ true → is_unlocked ls o ≡ true → (us : List Update) → writes us o ≡ true → 1 ≤ wanted c ls us
wanted_some c ls o ours loose [] w = let z : false ≡ true = w in absurd (false≢true z)
wanted_some c ls o ours loose (u ∷ us) w =
    elim (cases_Bool (eqb u.object o)) [
      | inl t ↦ let same : u.object ≡ o = eqb-true u.object o t in grind (arith, nat_tests, wanted_some c ls o ours loose us)
      | inr f ↦ let rest = wanted_some c ls o ours loose us (sym (writes_later u us o f) ∙ w) in omega arith
    ]

module _ (c : Config) (h s : ℕ) where
  step_yes : (ls : List (Option Lock)) (u : Update) (us : List Update) → (is_ours c u.object && is_unlocked ls u.object) ≡ true → with_locks c ls h s (u ∷ us) ≡ with_locks c (with_lock ls u.object h s) h s us
  step_yes ls u us t = ap (λ ks. with_locks c ks h s us) (cond-true _ _ _ t)

  step_no : (ls : List (Option Lock)) (u : Update) (us : List Update) → (is_ours c u.object && is_unlocked ls u.object) ≡ false → with_locks c ls h s (u ∷ us) ≡ with_locks c ls h s us
  step_no ls u us f = ap (λ ks. with_locks c ks h s us) (cond-false _ _ _ f)

  -- what is still free is enough for what is still wanted
  module _ (ls : List (Option Lock)) (u : Update) (us : List Update) (ours : is_ours c u.object ≡ true) (loose : is_unlocked ls u.object ≡ true) (n : wanted c ls (u ∷ us) ≤ free_locks ls) where
    one_room : 1 ≤ free_locks ls
    one_room = grind (arith, nat_tests, n, wanted_some c ls u.object ours loose us)

    rest_room : wanted c (with_lock ls u.object h s) us ≤ free_locks (with_lock ls u.object h s)
    rest_room = grind (arith, nat_tests, n, ours, loose, wanted_less c ls u.object h s ours loose one_room us, taken_free u.object h s ls one_room)

  locks_from : (ls : List (Option Lock)) (us : List Update) (o : ℕ) → wanted c ls us ≤ free_locks ls → lock_of (with_locks c ls h s us) o ≡ cond (is_ours c o && (writes us o && is_unlocked ls o)) (Some (h, s)) (lock_of ls o)
  locks_from ls [] o n = sym (cond-false _ _ _ (and_right (is_ours c o) false refl))
  locks_from ls (u ∷ us) o n =
      elim (cases_Bool (is_ours c u.object && is_unlocked ls u.object)) [
        | inl t ↦
            let p = and_parts (is_ours c u.object) (is_unlocked ls u.object) t in
            let has = taken_same u.object h s ls p.1 (one_room ls u us p.0 p.1 n) in
            let shut' = some_locked (with_lock ls u.object h s) u.object h s has in
            let kept = taken_other u.object h s ls o in
            let ih = locks_from (with_lock ls u.object h s) us o (rest_room ls u us p.0 p.1 n) in
            let begin = ap (λ ks. lock_of ks o) (step_yes ls u us t) in
            grind (arith, nat_tests, begin, ih, p, has, shut', kept, same_unlocked (with_lock ls u.object h s) ls o)
        | inr f ↦
            let ih = locks_from ls us o (omega arith) in
            let begin = ap (λ ks. lock_of ks o) (step_no ls u us f) in
            grind (arith, nat_tests, begin, ih, f)
      ]

  -- where lock places enough are free, each of our objects that is written and not locked is locked for the owner, and each other
  -- object keeps the owner that it had
  pub locks_taken : (ls : List (Option Lock)) (us : List Update) (o : ℕ) → count_ours c us ≤ free_locks ls → lock_of (with_locks c ls h s us) o ≡ cond (is_ours c o && (writes us o && is_unlocked ls o)) (Some (h, s)) (lock_of ls o)
  locks_taken ls us o n = let few = wanted_few c ls us in locks_from ls us o (omega arith)

  pub locks_new : (ls : List (Option Lock)) (us : List Update) (o : ℕ) → count_ours c us ≤ free_locks ls → is_ours c o ≡ true → writes us o ≡ true → is_unlocked ls o ≡ true → lock_of (with_locks c ls h s us) o ≡ Some (h, s)
  locks_new ls us o n ours written loose =
      locks_taken ls us o n ∙ cond-true _ _ _ (and_from _ _ ours (and_from _ _ written loose))

  pub locks_kept : (ls : List (Option Lock)) (us : List Update) (o : ℕ) → count_ours c us ≤ free_locks ls → (is_ours c o && (writes us o && is_unlocked ls o)) ≡ false → lock_of (with_locks c ls h s us) o ≡ lock_of ls o
  locks_kept ls us o n e = locks_taken ls us o n ∙ cond-false _ _ _ e

  -- a lock stays its owner's
  pub locks_held : (ls : List (Option Lock)) (us : List Update) (o a b : ℕ) → count_ours c us ≤ free_locks ls → lock_of ls o ≡ Some (a, b) → lock_of (with_locks c ls h s us) o ≡ Some (a, b)
  locks_held ls us o a b n e =
      let tight : is_unlocked ls o ≡ false = some_locked ls o a b e in
      locks_kept ls us o n (and_right (is_ours c o) _ (and_right (writes us o) _ tight)) ∙ e

  pub locks_single : (ls : List (Option Lock)) (us : List Update) → Single ls → Single (with_locks c ls h s us)
  locks_single ls [] one = one
  locks_single ls (u ∷ us) one =
      elim (cases_Bool (is_ours c u.object && is_unlocked ls u.object)) [
        | inl t ↦
            let p = and_parts (is_ours c u.object) (is_unlocked ls u.object) t in
            rw (step_yes ls u us t) (locks_single (with_lock ls u.object h s) us (taken_single u.object h s ls p.1 one))
        | inr f ↦ rw (step_no ls u us f) (locks_single ls us one)
      ]

-- ## An owner's locks freed

-- an owner, but for one
abbrev pub without : ℕ → ℕ → Option (ℕ × ℕ) → Option (ℕ × ℕ)
without h s None = None
without h s (Some p) = cond (eqb p.0 h && eqb p.1 s) None (Some p)

module _ (h s : ℕ) where
  -- the objects of the owner have none, and each other object keeps its own
  pub owner_gone : (ls : List (Option Lock)) (o : ℕ) → Single ls → lock_of (without_owner h s ls) o ≡ without h s (lock_of ls o)
  owner_gone [] o one = refl
  owner_gone (None ∷ ls) o one = owner_gone ls o one
  owner_gone (Some l ∷ ls) o one =
      let rest = owner_gone ls o one.1 in
      let none = unlocked_none ls l.object one.0 in
      grind (arith, nat_tests, rest, none)

  pub owner_gone_single : (ls : List (Option Lock)) → Single ls → Single (without_owner h s ls)
  owner_gone_single [] one = one
  owner_gone_single (None ∷ ls) one = owner_gone_single ls one
  owner_gone_single (Some l ∷ ls) one =
      let rest = owner_gone_single ls one.1 in
      let loose : is_unlocked (without_owner h s ls) l.object ≡ true =
      unlocked_is (without_owner h s ls) l.object ∙ ap is_none (owner_gone ls l.object one.1 ∙ ap (λ r. without h s r) (unlocked_none ls l.object one.0)) in
      elim (cases_Bool (eqb l.owner.home h && eqb l.owner.serial s)) [ inl own ↦ simp own rest | inr other ↦ simp other (loose, rest) ]

  pub gone_own : (ls : List (Option Lock)) (o : ℕ) → Single ls → lock_of ls o ≡ Some (h, s) → lock_of (without_owner h s ls) o ≡ None
  gone_own ls o one e =
      owner_gone ls o one ∙ (ap (λ r. without h s r) e ∙ cond-true _ _ _ (and_from _ _ (eq-eqb h h refl) (eq-eqb s s refl)))

  pub gone_none : (ls : List (Option Lock)) (o : ℕ) → Single ls → lock_of ls o ≡ None → lock_of (without_owner h s ls) o ≡ None
  gone_none ls o one e = owner_gone ls o one ∙ ap (λ r. without h s r) e

  pub gone_other : (ls : List (Option Lock)) (o a b : ℕ) → Single ls → (a ≡ h → b ≡ s → ⊥) → lock_of ls o ≡ Some (a, b) → lock_of (without_owner h s ls) o ≡ Some (a, b)
  gone_other ls o a b one apart e =
      let other : (eqb a h && eqb b s) ≡ false =
      elim (cases_Bool (eqb a h && eqb b s)) [
        | inl t ↦ let p = and_parts (eqb a h) (eqb b s) t in absurd (apart (eqb-true a h p.0) (eqb-true b s p.1))
        | inr f ↦ f
      ] in
      owner_gone ls o one ∙ (ap (λ r. without h s r) e ∙ cond-false _ _ _ other)
