use Rattle.std.proofs.Common.{sym, ◌∙◌}
use Rattle.gi_cdcl.proofs.Values.{either, swapped}
use Rattle.gi_cdcl.proofs.decide.candidate.Goals as goal

pub returns-in-Some-clause-other : goal.returns-in-Some-clause-other
returns-in-Some-clause-other c l e used = swapped c.args.trail.now.lits c.literal-l.result l (e ∙ sym c.literal-l.ensures) (either c.args.trail.now.lits c.literal-l.result c.in-Some.field-0 c.in-Some.ensures)
