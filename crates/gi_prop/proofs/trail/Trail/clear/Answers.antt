use Rattle.std.proofs.Common.{refl, arith}
use Rattle.gi_prop.proofs.Keys.{goes_unseen}
use Rattle.gi_prop.proofs.trail.Trail.clear.Goals as goal

pub returns-clause-goes : goal.returns-clause-goes
returns-clause-goes c = goes_unseen _ _ _ c.self.view_is (omega (arith, c.unwind.ensures.positions)) refl
