use Rattle.std.proofs.Common.{◌+◌, ℕ, List, Err, ap, ◌∙◌, subst}
use Rattle.gi_call.specs.MidCall.{TellsAnswer}
use Rattle.gi_call.proofs.Stopping.{untold_stops}
use Rattle.gi_call.proofs.server.judge.Goals as goal

pub returns-in-Err-clause-answered : goal.returns-in-Err-clause-answered
returns-in-Err-clause-answered c = λ start now es x.
    untold_stops c.in-Err.end c.args.number c.args.n c.args.call start now es c.args.asking.now.lines c.args.asking.now.taken (c.requires.number ∙ ap (λ n. n + 1) x.sent) x.spoken c.requires.line
    (subst (λ (line : List ℕ). TellsAnswer (Err c.in-Err.end) c.args.call c.args.number line) c.front.ensures c.in-Err.ensures)
