use Rattle.std.proofs.Common.{ap, sym, ◌∙◌}
use Rattle.gi_model.specs.State.{phase_of}
use Rattle.gi_room.specs.Seen.{Seen}
use Rattle.gi_room.proofs.Turning.{adds_as, waits_as}
use Rattle.gi_room.proofs.room.Room.take_turn.Goals as goal

pub returns-then-must_work : goal.returns-then-must_work
returns-then-must_work g c = waits_as c.args.pass.now _ _ _ _ _ c.pass.view_is (c.work-reply.ensures.of ∙ c.self.view_is ∙ sym c.requires.of ∙ sym (ap (λ (s : Seen). s.place) c.pass.view_is)) c.pass.invariant.own
    c.begin-shared.ensures.waited c.work-reply.result c.args.call.now c.if-must_work.ensures.0 (ap phase_of (sym c.begin-shared.ensures.state) ∙ c.if-must_work.ensures.1) c.work-reply.ensures.worked

pub returns : goal.returns
returns g c = adds_as c.args.pass.now _ _ _ _ _ c.pass.view_is (c.make.ensures.of ∙ c.self.view_is ∙ sym c.requires.of ∙ sym (ap (λ (s : Seen). s.place) c.pass.view_is)) c.pass.invariant.own
    c.begin-shared.ensures.waited c.args.call.now c.make.result c.make.ensures.ended
