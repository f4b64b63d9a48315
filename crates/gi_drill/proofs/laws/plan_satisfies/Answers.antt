use Rattle.gi_drill.proofs.Instances.{satisfied}
use Rattle.gi_drill.proofs.laws.plan_satisfies.Goals as goal

pub returns : goal.returns
returns c = satisfied
