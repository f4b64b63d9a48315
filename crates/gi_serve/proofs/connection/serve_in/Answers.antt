use Rattle.gi_serve.proofs.Serving.{was_served}
use Rattle.gi_serve.proofs.Turning.{serves_one}
use Rattle.gi_serve.proofs.connection.serve_in.Goals as goal

pub returns : goal.returns
returns g c = λ before is.
    serves_one _ c.args.quiet (record { link = c.host_one-how.new.link; pass = c.host_one-how.result.pass; how = c.host_one-how.result.how }) before (g.D.Door.state c.args.door.now) (g.D.Door.state c.hang_up.new.self)
    (g.S.Shelf.state c.args.shelf.now) (g.S.Shelf.state c.put.new.self) is c.hang_up.ensures.count c.hang_up.ensures.does c.put.ensures.count c.put.ensures.does
    (was_served _ c.args.quiet _ c.host_one-how.new.link c.args.room.now c.args.pass c.host_one-how.result.pass c.host_one-how.result.how c.requires.first c.requires.fresh c.too_much_is_a_quarter.ensures c.host_one-how.ensures.hosts c.host_one-how.ensures.own)
