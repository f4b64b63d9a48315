use Rattle.gi_serve.proofs.Ending.{SoFar}
use Rattle.gi_serve.proofs.server.serve.Given as goal

abbrev pub invariant-loop-k : goal.invariant-loop-k
invariant-loop-k g l = SoFar g.D.L.Link.state l.quiet l.k (g.D.Door.state l.fn.door) (g.D.Door.state l.door) (g.U.Link.state l.fn.user) (g.U.Link.state l.user) (g.S.Shelf.state l.fn.shelf) (g.S.Shelf.state l.shelf)
