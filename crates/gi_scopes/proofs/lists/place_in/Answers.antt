use Rattle.std.proofs.Common.{◌∙◌, arith}
use Rattle.std.proofs.lemmas.List.{get_or_default}
use Rattle.gi_scopes.proofs.lists.place_in.Goals as goal

pub returns-clause-none : goal.returns-clause-none
returns-clause-none c h = c.loop-place.invariant h.0 (omega (arith, h.1)) (get_or_default c.args.lits.now h.0 0 c.args.l h.1 ∙ h.2)
