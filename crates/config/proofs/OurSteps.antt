-- Our objects, counted by their places: each where it is written last.
use Rattle.std.proofs.Common.{◌≡◌, ℕ, ◌+◌, ◌-◌, Bool, cond, not, ◌&&◌, List, [], ◌∷◌, length, take, drop, refl, sym, ap, ◌∙◌}
use Rattle.std.specs.List.{count_by, enumerate_from}
use Rattle.std.proofs.lemmas.List.{take_rest, drop-drop}
use Rattle.std.proofs.lemmas.List.Sums.{sum_by-cons}
use Rattle.record.specs.declared.row.Update.{Update}
use Rattle.config.specs.Objects.{is_ours, writes, count_ours}
use Rattle.config.specs.declared.config.Config.{Config}

-- the update at a place is of ours, and of none behind that place
abbrev pub is_last : Config → List Update → ℕ × Update → Bool
is_last c us x = is_ours c x.1.object && not (writes (take (length us - (x.0 + 1)) (drop (x.0 + 1) us)) x.1.object)

-- of all updates, those from place n on
count_from : (c : Config) (all : List Update) (n : ℕ) (us : List Update) → drop n all ≡ us → count_by (is_last c all) (enumerate_from n us) ≡ count_ours c us
count_from c all n [] e = refl
count_from c all n (u ∷ us) e =
    let later : drop (n + 1) all ≡ us = sym (drop-drop 1 n all) ∙ ap (drop 1) e in
    sum_by-cons (λ x. cond (is_last c all x) 1 0) (n, u) (enumerate_from (n + 1) us)
    ∙ ap (λ b. cond b 1 0 + count_by (is_last c all) (enumerate_from (n + 1) us))
    (ap (λ v. is_ours c u.object && not (writes v u.object)) (take_rest all (n + 1) ∙ later))
    ∙ ap (λ k. cond (is_ours c u.object && not (writes us u.object)) 1 0 + k) (count_from c all (n + 1) us later)

pub count_last : (c : Config) (us : List Update) → count_by (is_last c us) (enumerate_from 0 us) ≡ count_ours c us
count_last c us = count_from c us 0 us refl
