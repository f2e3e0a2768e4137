-- The last put of an object in lists that stand one after the other.
use Rattle.std.proofs.Common.{◌≡◌, ℕ, ◌+◌, ◌<◌, Bool, true, false, cond, eqb, List, [], ◌∷◌, ◌++◌, length, get_or, take, drop, reverse, ℤ, is_some, Some, None, fold, Option, sym, refl, ap, ◌∙◌}
use Rattle.std.specs.List.{flat_map, find}
use Rattle.std.specs.Option.{option_or, option_map}
use Rattle.std.proofs.lemmas.List.{reverse-append, take-append-drop, at_drop_more}
use Rattle.std.proofs.lemmas.List.Concat.{flat_map-append}
use Rattle.std.proofs.lemmas.List.Folds.{find-append}
use Rattle.record.specs.declared.row.Update.{Update}
use Rattle.merging.proofs.Folds.{folded_append}
use Rattle.record.specs.Updates.{put_by, last_put}

module _ (object : ℕ) where
  one_over : (b : Bool) (x : ℤ) (found v : Option ℤ) → option_or found (cond b (Some x) v) ≡ option_or (option_or found (cond b (Some x) None)) v
  one_over true x None v = refl
  one_over false x None v = refl
  one_over true x (Some y) v = refl
  one_over false x (Some y) v = refl

  -- what was found before counts only where the list has no put
  pub put_over : (v : Option ℤ) (us : List Update) → fold (put_by object) v us ≡ option_or (last_put object us) v
  put_over v [] = refl
  put_over v (u ∷ us) =
      put_over (put_by object v u) us
      ∙ one_over (eqb u.object object) u.operand (last_put object us) v
      ∙ ap (λ o. option_or o v) (sym (put_over (put_by object None u) us))

  pub put_append : (us ws : List Update) → last_put object (us ++ ws) ≡ option_or (last_put object ws) (last_put object us)
  put_append us ws = folded_append (put_by object) None us ws ∙ put_over (last_put object us) ws

  -- the last update of the object is the first in the reversed list
  last_of : (o p : Option Update) → option_map (λ u. u.operand) (option_or o p) ≡ option_or (option_map (λ u. u.operand) o) (option_map (λ u. u.operand) p)
  last_of None p = refl
  last_of (Some u) p = refl

  here : (b : Bool) (u : Update) → option_map (λ u. u.operand) (cond b (Some u) None) ≡ cond b (Some u.operand) None
  here true u = refl
  here false u = refl

  pub last_found : (us : List Update) → option_map (λ u. u.operand) (find (λ u. eqb u.object object) (reverse us)) ≡ last_put object us
  last_found [] = refl
  last_found (u ∷ us) =
      ap (λ o. option_map (λ u. u.operand) o)
      (ap (find (λ u. eqb u.object object)) (reverse-append (u ∷ []) us) ∙ find-append (λ u. eqb u.object object) (reverse us) (u ∷ []))
      ∙ last_of (find (λ u. eqb u.object object) (reverse us)) (find (λ u. eqb u.object object) (u ∷ []))
      ∙ ap (λ o. option_or o (option_map (λ u. u.operand) (find (λ u. eqb u.object object) (u ∷ [])))) (last_found us)
      ∙ ap (option_or (last_put object us)) (here (eqb u.object object) u)
      ∙ sym (put_over (put_by object None u) us)

  module _ {X : Type 0} (g : X → List Update) (xs : List X) where
    -- the element at i, and then those behind it
    pub put_at : (i : ℕ) (x d : X) → x ≡ get_or xs i d → i < length xs → last_put object (flat_map g (drop i xs)) ≡ option_or (last_put object (flat_map g (drop (i + 1) xs))) (last_put object (g x))
    put_at i x d e h =
        at_drop_more (λ v. last_put object (flat_map g v)) xs i d h
        ∙ put_append (g (get_or xs i d)) (flat_map g (drop (i + 1) xs))
        ∙ ap (λ v. option_or (last_put object (flat_map g (drop (i + 1) xs))) (last_put object (g v))) (sym e)

    -- all of it is what stands before i, and what stands from i on
    pub put_split : (i : ℕ) → last_put object (flat_map g xs) ≡ option_or (last_put object (flat_map g (drop i xs))) (last_put object (flat_map g (take i xs)))
    put_split i =
        ap (λ v. last_put object (flat_map g v)) (sym (take-append-drop i xs))
        ∙ ap (last_put object) (flat_map-append g (take i xs) (drop i xs))
        ∙ put_append (flat_map g (take i xs)) (flat_map g (drop i xs))

    -- nothing behind i, and x at i has a put: that is the last of all
    pub put_found : (i : ℕ) (x d : X) → x ≡ get_or xs i d → i < length xs → last_put object (flat_map g (drop (i + 1) xs)) ≡ None → (o : Option ℤ) → is_some o ≡ true → o ≡ last_put object (g x) → o ≡ last_put object (flat_map g xs)
    put_found i x d e h none None there here = cc
    put_found i x d e h none (Some w) there here =
        sym
        (put_split i
        ∙ ap (λ o. option_or o (last_put object (flat_map g (take i xs)))) (put_at i x d e h ∙ ap (λ o. option_or o (last_put object (g x))) none ∙ sym here))
