use Rattle.std.proofs.Common.{take}
use Rattle.gi_outside.proofs.Writing.{wrote_piece}
use Rattle.gi_outside.proofs.Gathering.{all_more}
use Rattle.gi_outside.proofs.sending.write_all.Goals as goal

pub loop-rest-preserved : goal.loop-rest-preserved
loop-rest-preserved g c =
    all_more (g.L.Link.state c.args.link.now) (g.L.Link.state c.loop-rest.link) (g.L.Link.state c.write.new.self) c.in-Took.n c.loop-rest.rest.now c.skip-rest.result.now c.args.bytes.now
    c.loop-rest.invariant
    (wrote_piece _ _ (take c.in-Took.n c.loop-rest.rest.now) c.in-Took.ensures.tape c.in-Took.ensures.rest c.in-Took.ensures.ended c.in-Took.ensures.other c.in-Took.ensures.count)
    c.skip-rest.ensures.value
