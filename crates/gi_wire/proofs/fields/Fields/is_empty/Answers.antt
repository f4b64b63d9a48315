use Rattle.std.proofs.Common.{◌≡◌, ◌↔◌, ℕ, List, [], true, subst}
use Rattle.gi_wire.proofs.FieldCuts.{empty_if}
use Rattle.gi_wire.proofs.fields.Fields.is_empty.Goals as goal

pub returns : goal.returns
returns c = subst (λ (fs : List (List ℕ)). (c.self.inside.done ≡ true) ↔ (fs ≡ [])) c.self.view_is (empty_if c.self.inside.done c.self.inside.rest.now)
