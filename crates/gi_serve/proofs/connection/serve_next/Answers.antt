use Rattle.gi_serve.proofs.Turning.{ends_closed, ends_failed}
use Rattle.gi_serve.proofs.connection.serve_next.Goals as goal

pub returns-in-Closed : goal.returns-in-Closed
returns-in-Closed g c =
    ends_closed g.D.L.Link.state c.args.quiet c.args.number (g.D.Door.state c.args.door.now) (g.D.Door.state c.accept.new.self) (g.U.Link.state c.args.user.now) (g.S.Shelf.state c.args.shelf.now)
    c.in-Closed.ensures.count c.in-Closed.ensures.does

pub returns-in-Failed : goal.returns-in-Failed
returns-in-Failed g c =
    ends_failed g.D.L.Link.state c.args.quiet c.args.number (g.D.Door.state c.args.door.now) (g.D.Door.state c.accept.new.self) (g.U.Link.state c.args.user.now) (g.S.Shelf.state c.args.shelf.now)
    c.in-Failed.ensures.count c.in-Failed.ensures.does.0 c.in-Failed.ensures.does.1
