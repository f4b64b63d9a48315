use Rattle.gi_serve.proofs.Turning.{ends_unserved}
use Rattle.gi_serve.proofs.connection.serve_link.Goals as goal

pub returns : goal.returns
returns g c = λ before is.
    ends_unserved g.D.L.Link.state c.args.quiet c.args.number c.args.link before (g.D.Door.state c.args.door.now) (g.D.Door.state c.hang_up.new.self) (g.U.Link.state c.args.user.now) (g.S.Shelf.state c.args.shelf.now)
    is c.hang_up.ensures.count c.hang_up.ensures.does c.requires.fresh
