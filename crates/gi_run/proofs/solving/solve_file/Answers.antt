use Rattle.std.proofs.Common.{sym, subst}
use Rattle.gi_net.specs.Standing.{Standing}
use Rattle.gi_batch.specs.Solves.{Solves}
use Rattle.gi_host.specs.Visits.{standing_of}
use Rattle.gi_host.proofs.Visiting.{visits_led}
use Rattle.gi_room.specs.Seen.{Seen}
use Rattle.gi_run.proofs.Filing.{solved_on, visits_as}
use Rattle.gi_run.proofs.solving.solve_file.Goals as goal

pub returns : goal.returns
returns g c =
    let start = g.L.Link.state c.args.user.now in
    let end = g.L.Link.state c.solve-solved.new.user in
    let P : Seen → Seen → Type 0 = λ x y. Solves c.solve-solved.result c.args.form c.args.budget start end (standing_of x) (standing_of y) in
    solved_on c.solve-solved.result c.args.form c.args.budget start end c.args.pass c.leave-pass.result c.solve-solved.new.caller.started
    (subst (λ y. P c.args.pass y) (sym c.leave-pass.ensures) (subst (λ x. P x c.solve-solved.new.caller.pass) c.new-visitor.ensures.pass c.solve-solved.ensures.solves))
    (visits_as c.args.pass c.new-visitor.result.pass c.solve-solved.new.caller.pass c.leave-pass.result c.new-visitor.result.started c.solve-solved.new.caller.started
    c.new-visitor.ensures.pass c.new-visitor.ensures.fresh c.leave-pass.ensures (visits_led _ _ c.solve-solved.ensures.led (λ v. v.pass) (λ v. v.started) (λ v w h. h)))
    c.requires.budget c.knows.ensures.causes c.knows.ensures.legal c.allowed_is_reply.ensures
    c.calls_are_answered.ensures c.models_are_true.ensures c.failures_are_true.ensures c.unknown_is_spent.ensures c.asks_are_written.ensures
