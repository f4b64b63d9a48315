use Rattle.std.proofs.Common.{length, ap, arith}
use Rattle.gi_prop.specs.TrailView.{TrailView}
use Rattle.gi_prop.proofs.Laying.{laid_room}
use Rattle.gi_prop.proofs.trail.Trail.decide.Goals as goal

pub push_level-requires : goal.push_level-requires
push_level-requires c =
    let r = laid_room _ _ _ _ _ _ _ _ _ c.self.invariant _ c.self.view_is c.args.l (omega (arith, c.index-index.ensures.low)) c.requires.within c.requires.free in
    let e = ap (λ (t : TrailView). length t.lits) c.self.view_is in
    omega (arith, r, e, c.self.invariant.few, c.requires.levels)
