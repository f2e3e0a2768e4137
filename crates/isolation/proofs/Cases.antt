-- Cases: whether two names are one.
use Rattle.std.proofs.Common.{◌≡◌, ℕ, ◌⊎◌, inl, inr, ⊎_elim}
use Rattle.std.proofs.lemmas.Bool.{cases_eq}

pub cases_both : (j b v t : ℕ) → ((j ≡ b) × (v ≡ t)) ⊎ (j ≡ b → v ≡ t → ⊥)
cases_both j b v t = ⊎_elim
    (λ (p : j ≡ b). ⊎_elim (λ (q : v ≡ t). inl (p, q)) (λ (q : v ≡ t → ⊥). inr (λ _ x. q x)) (cases_eq v t))
    (λ (p : j ≡ b → ⊥). inr (λ x _. p x)) (cases_eq j b)
