use Rattle.gi_prop.proofs.Seeking.{others_joined}
use Rattle.gi_prop.proofs.look.replacement.Goals as goal

pub returns-in-None-spare_before : goal.returns-in-None-spare_before
returns-in-None-spare_before c = others_joined c.args.trail.now.lits c.args.clause.now c.of-start.result c.args.other c.in-None-spare_before.ensures c.in-None.ensures
