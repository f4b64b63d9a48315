use Rattle.std.proofs.Common.{subst}
use Rattle.gi_model.specs.Kept.{IsKept}
use Rattle.gi_core.proofs.solver_core.Core.is_kept.Goals as goal

pub returns : goal.returns
returns c = subst IsKept c.self.view_is c.self.invariant.kept
