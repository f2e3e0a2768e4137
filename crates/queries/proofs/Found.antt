-- The first row that passes a test, of those that are looked through one after the other.
use Rattle.std.proofs.Common.{◌≡◌, Bool, true, false, List, Option, sym, ◌∙◌}
use Rattle.std.specs.List.{find, FoldsTo}
use Rattle.std.specs.Option.{IfSome}
use Rattle.std.specs.Fn.{CalledAt}
use Rattle.std.specs.Iterator.{YieldsFirst, YieldsThen}
use Rattle.std.proofs.lemmas.Iterator.Search.{find_from_yields_List}
use Rattle.std.proofs.lemmas.Iterator.Adapters.{option_map_id}
use Rattle.std.proofs.lemmas.Iterator.Consumers.{YieldsList-from_first}
use denote.Param.Members.{Mut}
use denote.Ref.{Bor}

pub found_first : {A F : Type 0} {g : Mut F (Bor A × Unit {0}) Bool} {s : List A} (test : A → Bool) (all u : List A) (f : F) (r : Option A)
    → (xs : List A) × (j : F) × YieldsThen (YieldsFirst (λ rest. rest)) s xs r u × FoldsTo (λ p x q. CalledAt g p x false q) f xs j × IfSome r (λ x. (h : F) × CalledAt g j x true h)
    → s ≡ all → ((x : A) (b : Bool) (q : F) → CalledAt g f x b q → (q ≡ f) × (b ≡ test x)) → r ≡ find test all
found_first test all u f r ran e k = sym (option_map_id r) ∙ find_from_yields_List test u f r ran (YieldsList-from_first (λ x. x) (λ rest. rest) all e) k
