-- The refusal of a load once the table's earlier conditions don't hold.
use Rattle.std.proofs.Common.{◌≡◌, ℕ, Bool, true, false, not, cond, Option, Some, None, List, refl, sym}
use Rattle.gi_model.specs.State.{State}
use Rattle.gi_model.specs.Refusals.{refuses, is_over, admits}
use Rattle.gi_model.specs.Early.{early}
use Rattle.gi_model.specs.declared.calls.Call.TheVariants as call
use Rattle.gi_model.specs.declared.refusal.Refusal.{Refusal}
use Rattle.gi_model.specs.declared.refusal.Refusal.TheVariants as refusal
use Rattle.gi_reference.specs.Loading.{of_payload}

admitted : (over admits : Bool) (x : Option Refusal) → None ≡ cond over (Some refusal.Dead) (cond (not admits) (Some refusal.Busy) None) → x ≡ cond over (Some refusal.Dead) (cond (not admits) (Some refusal.Busy) x)
admitted true admits x e = absurd cc
admitted false false x e = absurd cc
admitted false true x e = refl

pub refuses_load : (s : State) (bytes : List ℕ) → None ≡ early s (call.LoadCnf bytes) → of_payload s.problem bytes ≡ refuses s (call.LoadCnf bytes)
unfolding refuses
refuses_load s bytes e = admitted (is_over s.life) (admits s.solve (call.LoadCnf bytes)) (of_payload s.problem bytes) e
