use Rattle.std.proofs.Common.{Some, ap, ◌∙◌}
use Rattle.gi_outside.specs.World.{World}
use Rattle.gi_outside.specs.MemoryState.{memory_state}
use Rattle.gi_run.proofs.Playing.{has_drilled, not_drilled}
use Rattle.gi_run.proofs.drilling.drill.Goals as goal

pub returns : goal.returns
returns g c = has_drilled c.args.rounds c.requires.few (memory_state c.new-link.result) (memory_state c.play-how.new.link) (g.L.Link.state c.args.user.now) (g.L.Link.state c.tell-drilled.new.user) c.args.pass c.play-how.result.pass
    c.items_stay.ensures c.script_is_read.ensures.read c.script_is_short.ensures c.script_is_read.ensures.bye (ap (λ (w : World). w.rest) c.new-link.ensures.state ∙ ap Some c.in-Ok.ensures) c.play-how.ensures.empty
    c.allowed_is_reply.ensures c.too_much_is_a_quarter.ensures c.play-how.result.tally
    c.calls_alone_are_counted.ensures c.script_is_taken.ensures.vars c.script_is_taken.ensures.clauses c.script_is_taken.ensures.sat c.script_is_taken.ensures.unsat
    c.play-how.result.how c.tell-drilled.result c.tell-drilled.ensures c.play-how.ensures.counted
