-- Where no scope is open.
use Rattle.std.proofs.Common.{◌≡◌, ℕ, List, [], ◌∷◌, length, refl, arith}
use Rattle.gi_lit.specs.Problem.{Problem}
use Rattle.gi_store.specs.StoreView.{IsWithin}
use Rattle.gi_model.specs.State.{Scope, scope_assumed}
use Rattle.gi_scopes.specs.Open.{StillFail}

pub none_ready : (n : ℕ) (p : Problem) → IsWithin n (scope_assumed []) × StillFail p []
unfolding scope_assumed
none_ready n p = (λ k d lt. absurd (omega (arith, lt)), λ k d lt. absurd (omega (arith, lt)))

pub none_open : (scs : List Scope) → length scs ≡ 0 → scs ≡ []
none_open [] e = refl
none_open (x ∷ xs) e = absurd (omega (arith, e))
