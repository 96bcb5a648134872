-- What an answer says.
use Rattle.std.proofs.Common.{◌≡◌, ◌↔◌, true, false, IsTrue, refl}

pub refuted : {P : Type 0} → (P → ⊥) → (IsTrue false ↔ P)
refuted h = (λ e. absurd (apart e), λ p. absurd (h p))
  where
    apart : false ≡ true → ⊥
    apart e = cc

pub shown : {P : Type 0} → P → (IsTrue true ↔ P)
shown p = (λ _. p, λ _. refl)
