use Rattle.gi_net.specs.Leads.{none, more}
use Rattle.gi_net.proofs.session.answer.Goals as goal

pub returns-in-Call-clause-led : goal.returns-in-Call-clause-led
returns-in-Call-clause-led g c = more _ _ none c.answer_call.ensures.kept

pub returns-in-Syntax-clause-led : goal.returns-in-Syntax-clause-led
returns-in-Syntax-clause-led g c = none

pub returns-in-Long-clause-led : goal.returns-in-Long-clause-led
returns-in-Long-clause-led g c = none
