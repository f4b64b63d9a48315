use Rattle.std.proofs.Common.{◌≡◌, Some, ap, subst, ◌∙◌}
use Rattle.std.proofs.lemmas.Result.{MatchResult-weaker}
use Rattle.gi_outside.specs.World.{Wrote}
use Rattle.gi_net.specs.Leads.{none}
use Rattle.gi_batch.specs.declared.answer.Answer.{Answer}
use Rattle.gi_batch.specs.declared.answer.Answer.TheVariants as answers
use Rattle.gi_batch.specs.Output.{answer_of, answer_text}
use Rattle.gi_batch.proofs.Asking.{shows_alone, shows_cut, shows_model, shows_no_model}
use Rattle.gi_batch.proofs.steps.show.Goals as goal

pub returns-in-Failed-clause-shown : goal.returns-in-Failed-clause-shown
returns-in-Failed-clause-shown g c = λ wait is told. shows_cut wait c.args.answer _ _ _ is told c.in-Failed.ensures

pub returns-in-Sat-clause-shown : goal.returns-in-Sat-clause-shown
returns-in-Sat-clause-shown g c = λ wait is told.
    let sat : answer_of wait.reply ≡ Some answers.Sat = told ∙ ap Some c.in-Sat.is in
    let wrote : Wrote (g.L.Link.state c.args.user.now) (g.L.Link.state c.print_answer.new.user) (answer_text answers.Sat)
    = subst (λ (a : Answer). Wrote (g.L.Link.state c.args.user.now) (g.L.Link.state c.print_answer.new.user) (answer_text a)) c.in-Sat.is c.in-Done.ensures in
    MatchResult-weaker c.show_model.result c.show_model.ensures.shown
    (λ done shows. shows_model wait _ _ _ _ _ is sat wrote shows)
    (λ by shows. shows_no_model wait _ _ _ _ _ is sat wrote by shows)

pub returns-in-Unsat-clause-shown : goal.returns-in-Unsat-clause-shown
returns-in-Unsat-clause-shown g c = λ wait is told. shows_alone wait c.args.answer _ _ _ is told (λ e. cc) c.in-Done.ensures

pub returns-in-Unknown-clause-shown : goal.returns-in-Unknown-clause-shown
returns-in-Unknown-clause-shown g c = λ wait is told. shows_alone wait c.args.answer _ _ _ is told (λ e. cc) c.in-Done.ensures

pub returns-in-Failed-clause-led : goal.returns-in-Failed-clause-led
returns-in-Failed-clause-led g c = none

pub returns-in-Unsat-clause-led : goal.returns-in-Unsat-clause-led
returns-in-Unsat-clause-led g c = none

pub returns-in-Unknown-clause-led : goal.returns-in-Unknown-clause-led
returns-in-Unknown-clause-led g c = none
