-- A move changes nothing on another board.
use Rattle.std.proofs.Common.{◌≡◌, ℕ, Bool, ◌≢◌, refl, arith}
use Rattle.std.proofs.lemmas.Bool.Decides.{nat_tests}
use Rattle.isolation.specs.Books.{Seen}
use Rattle.isolation.specs.Machine.{Message, State, Move, rest, start, change, drop, commit, wait, note, finish, refuse, release, vote, take, show}

-- board b is the same in two states
pub record SameBoard (s s' : State) (b : ℕ) : Type 0 where
  pub gots : (j : ℕ) → s'.got b j ≡ s.got b j
  pub showns : (j : ℕ) → s'.shown b j ≡ s.shown b j
  pub logs : s'.log b ≡ s.log b
  pub locks : (o : ℕ) → s'.lock b o ≡ s.lock b o
  pub phases : (t : ℕ) → s'.phase b t ≡ s.phase b t

pub elsewhere : (regular : ℕ → Bool) (pref : ℕ → ℕ) (n : ℕ) {s s' : State} {R : Message → Type 0} {e : Seen} → Move regular pref n s R e s' → (b : ℕ) → b ≢ e.board → SameBoard s s' b
elsewhere regular pref n (rest p w q) b d = record { gots = λ j. refl; showns = λ j. refl; logs = refl; locks = λ o. refl; phases = λ t. refl }
elsewhere regular pref n {s} (start p t r was home serial clock empty) b d = record { gots = λ j. refl; showns = λ j. refl; logs = refl; locks = λ o. refl; phases = λ v. grind (arith, nat_tests) }
elsewhere regular pref n {s} (change p t r r' u was home serial clock effect) b d = record { gots = λ j. refl; showns = λ j. refl; logs = refl; locks = λ o. refl; phases = λ v. grind (arith, nat_tests) }
elsewhere regular pref n {s} (drop p t r was) b d = record { gots = λ j. refl; showns = λ j. refl; logs = refl; locks = λ o. refl; phases = λ v. grind (arith, nat_tests) }
elsewhere regular pref n {s} (commit p t r inside was near clear) b d = record { gots = λ j. grind (arith, nat_tests); showns = λ j. grind (arith, nat_tests); logs = grind (arith, nat_tests); locks = λ o. refl; phases = λ v. grind (arith, nat_tests) }
elsewhere regular pref n {s} (wait p t r wants ys was W none) b d = record { gots = λ j. refl; showns = λ j. refl; logs = refl; locks = λ o. grind (arith, nat_tests); phases = λ v. grind (arith, nat_tests) }
elsewhere regular pref n {s} (note p t r ys ys' was written) b d = record { gots = λ j. refl; showns = λ j. refl; logs = refl; locks = λ o. refl; phases = λ v. grind (arith, nat_tests) }
elsewhere regular pref n {s} (finish p t r ys inside was all) b d = record { gots = λ j. grind (arith, nat_tests); showns = λ j. grind (arith, nat_tests); logs = grind (arith, nat_tests); locks = λ o. grind (arith, nat_tests); phases = λ v. grind (arith, nat_tests) }
elsewhere regular pref n {s} (refuse p t r ys was) b d = record { gots = λ j. refl; showns = λ j. refl; logs = refl; locks = λ o. grind (arith, nat_tests); phases = λ v. grind (arith, nat_tests) }
elsewhere regular pref n {s} (release p h t told) b d = record { gots = λ j. refl; showns = λ j. refl; logs = refl; locks = λ o. grind (arith, nat_tests); phases = λ v. refl }
elsewhere regular pref n {s} (vote p r wants asked W) b d = record { gots = λ j. refl; showns = λ j. refl; logs = refl; locks = λ o. grind (arith, nat_tests); phases = λ v. refl }
elsewhere regular pref n {s} (take p r inside sent away next past) b d = record { gots = λ j. grind (arith, nat_tests); showns = λ j. refl; logs = grind (arith, nat_tests); locks = λ o. refl; phases = λ v. refl }
elsewhere regular pref n {s} (show p h inside away received past) b d = record { gots = λ j. refl; showns = λ j. grind (arith, nat_tests); logs = refl; locks = λ o. grind (arith, nat_tests); phases = λ v. refl }
