use Rattle.std.proofs.Common.{◌≡◌, arith}
use Rattle.gi_serve.proofs.Ending.{ends_at, goes_on, has_done, starts}
use Rattle.gi_serve.proofs.server.serve.Goals as goal

pub loop-k-init : goal.loop-k-init
loop-k-init g c = starts g.D.L.Link.state c.args.quiet (g.D.Door.state c.args.door.now) (g.U.Link.state c.args.user.now) (g.S.Shelf.state c.args.shelf.now)

pub loop-k-preserved : goal.loop-k-preserved
loop-k-preserved g c =
    goes_on g.D.L.Link.state c.args.quiet c.loop-k.k (g.D.Door.state c.args.door.now) (g.D.Door.state c.loop-k.door) (g.D.Door.state c.serve_next.new.door) (g.U.Link.state c.args.user.now) (g.U.Link.state c.loop-k.user)
    (g.U.Link.state c.serve_next.new.user) (g.S.Shelf.state c.args.shelf.now) (g.S.Shelf.state c.loop-k.shelf) (g.S.Shelf.state c.serve_next.new.shelf) c.loop-k.invariant c.in-None.ensures

pub returns-in-Some : goal.returns-in-Some
returns-in-Some g c =
    ends_at g.D.L.Link.state c.args.quiet c.loop-k.k (g.D.Door.state c.args.door.now) (g.D.Door.state c.loop-k.door) (g.D.Door.state c.serve_next.new.door) (g.U.Link.state c.args.user.now) (g.U.Link.state c.loop-k.user)
    (g.U.Link.state c.serve_next.new.user) (g.S.Shelf.state c.args.shelf.now) (g.S.Shelf.state c.loop-k.shelf) (g.S.Shelf.state c.serve_next.new.shelf) c.loop-k.invariant c.args.most c.loop-k-test.true c.in-Some.end c.in-Some.ensures

pub returns : goal.returns
returns g c =
    let all : c.loop-k.k ≡ c.args.most = omega arith in
    has_done g.D.L.Link.state c.args.quiet c.loop-k.k c.args.most (g.D.Door.state c.args.door.now) (g.D.Door.state c.loop-k.door) (g.U.Link.state c.args.user.now) (g.U.Link.state c.loop-k.user) (g.S.Shelf.state c.args.shelf.now)
    (g.S.Shelf.state c.loop-k.shelf) c.loop-k.invariant all
