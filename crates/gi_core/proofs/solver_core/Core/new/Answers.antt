use Rattle.std.proofs.Common.{sym, subst}
use Rattle.gi_model.specs.Kept.{IsKept}
use Rattle.gi_model.proofs.Histories.{opening_kept}
use Rattle.gi_core.proofs.Moving.{blank_backed}
use Rattle.gi_core.proofs.solver_core.Core.new.Goals as goal

pub invariant_of-result : goal.invariant_of-result
invariant_of-result c = record { kept = subst IsKept (sym c.new.ensures.state) opening_kept; backed = blank_backed _ _ c.new.ensures.blank }
