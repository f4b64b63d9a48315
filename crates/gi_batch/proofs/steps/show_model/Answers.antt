use Rattle.gi_net.specs.Leads.{more, none}
use Rattle.gi_batch.proofs.steps.show_model.Goals as goal

pub returns-in_err-make-clause-led : goal.returns-in_err-make-clause-led
returns-in_err-make-clause-led g c = more _ _ none c.in_err-make.ensures.kept

pub returns-clause-led : goal.returns-clause-led
returns-clause-led g c = more _ _ none c.in_ok-make.ensures.kept
