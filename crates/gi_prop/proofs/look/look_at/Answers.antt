use Rattle.gi_prop.proofs.Seeking.{all_false}
use Rattle.gi_prop.proofs.look.look_at.Goals as goal

pub returns-in-None-replacement : goal.returns-in-None-replacement
returns-in-None-replacement c = all_false c.args.trail.now.lits c.args.clause.now c.args.other (rw c.in-Some-false.field-0-test at c.in-Some-false.ensures) c.in-None-replacement.ensures
