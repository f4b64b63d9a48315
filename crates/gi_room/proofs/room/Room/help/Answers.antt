use Rattle.std.proofs.Common.{ap, sym, ◌∙◌}
use Rattle.gi_room.specs.Seen.{Seen}
use Rattle.gi_room.proofs.Turning.{works_as, helps_as}
use Rattle.gi_room.proofs.room.Room.help.Goals as goal

pub returns-clause-helps : goal.returns-clause-helps
returns-clause-helps g c = helps_as c.args.pass.now _ _ _ _ _ c.pass.view_is (c.work.ensures.of ∙ c.self.view_is ∙ sym c.requires.of ∙ sym (ap (λ (s : Seen). s.place) c.pass.view_is)) c.pass.invariant.own
    c.begin-shared.ensures.waited c.work.result c.work.ensures.worked

pub returns-clause-holds : goal.returns-clause-holds
returns-clause-holds g c = (works_as c.args.pass.now _ _ _ _ _ c.pass.view_is (c.work.ensures.of ∙ c.self.view_is ∙ sym c.requires.of ∙ sym (ap (λ (s : Seen). s.place) c.pass.view_is)) c.pass.invariant.own
    c.begin-shared.ensures.waited c.work.result c.work.ensures.worked).adds.holds
