use Rattle.gi_model.proofs.Entering.{refused_is, syntax_unnamed, long_unnamed, never_spent}
use Rattle.gi_model.specs.declared.refusal.Refusal.TheVariants.{Syntax, Long}
use Rattle.gi_model.proofs.laws.refusals_are_named.Goals as goal

pub returns-clause-named : goal.returns-clause-named
returns-clause-named c = refused_is

pub returns-clause-syntax : goal.returns-clause-syntax
returns-clause-syntax c s call a = syntax_unnamed s call (refused_is s call Syntax a)

pub returns-clause-long : goal.returns-clause-long
returns-clause-long c s call a = long_unnamed s call (refused_is s call Long a)

pub returns-clause-spent : goal.returns-clause-spent
returns-clause-spent c = never_spent
