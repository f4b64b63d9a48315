use Rattle.std.proofs.Common.{ap, ◌∙◌}
use Rattle.gi_host.proofs.Visiting.{visits_led}
use Rattle.gi_room.specs.Seen.{Seen}
use Rattle.gi_run.proofs.Playing.{counted_on}
use Rattle.gi_run.proofs.drilling.play.Goals as goal

pub shut_behind-requires : goal.shut_behind-requires
shut_behind-requires g c =
    let v = visits_led _ _ c.serve_counted-how.ensures.led (λ v. v.pass) (λ v. v.started) (λ v w h. h) in record {
      of = ap (λ (p : Seen). p.place) c.leave-pass.ensures ∙ v.place ∙ ap (λ (p : Seen). p.place) c.new-visitor.ensures.pass ∙ c.requires.of;
    }

pub returns-clause-counted : goal.returns-clause-counted
returns-clause-counted g c =
    counted_on _ _ c.args.pass c.new-visitor.result.pass c.serve_counted-how.result.caller.pass c.leave-pass.result c.shut_behind.new.pass c.serve_counted-how.result.how
    c.new-visitor.result.started c.serve_counted-how.result.caller.started c.serve_counted-how.result.tally c.new-visitor.ensures.pass c.new-visitor.ensures.fresh c.leave-pass.ensures
    c.serve_counted-how.ensures.over (visits_led _ _ c.serve_counted-how.ensures.led (λ v. v.pass) (λ v. v.started) (λ v w h. h)) c.knows.ensures.legal c.shut_behind.ensures
    c.knows-2.ensures.causes c.knows-2.ensures.legal c.serve_counted-how.ensures.tally

pub returns-clause-empty : goal.returns-clause-empty
returns-clause-empty g c = g.met.L.Link.ended_is_empty c.serve_counted-how.new.link
