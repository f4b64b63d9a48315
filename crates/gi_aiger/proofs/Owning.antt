-- Numbers with one in front, each up to a cap.
use Rattle.std.proofs.Common.{◌≡◌, ℕ, List, ◌∷◌, Option, Some, ap, ◌∙◌}
use Rattle.gi_aiger.specs.Fields.{capped, Keeps, with_own}

pub own_keeps : (own : Option ℕ) (n : ℕ) (kept all : List ℕ) (read : Option (List ℕ)) → own ≡ Some n → all ≡ capped n ∷ kept → Keeps kept read → Keeps all (with_own own read)
own_keeps own n kept all read is e k = (
  n ∷ k.0,
  ap (λ (o : Option ℕ). with_own o read) is ∙ ap (with_own (Some n)) k.1,
  e ∙ ap (λ (xs : List ℕ). capped n ∷ xs) k.2,
)
