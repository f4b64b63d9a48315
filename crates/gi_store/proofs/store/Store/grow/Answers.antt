use Rattle.std.proofs.Common.{◌≡◌, ◌-◌, length, arith}
use Rattle.gi_store.proofs.Counted.{counted_grown}
use Rattle.gi_store.proofs.store.Store.grow.Goals as goal

pub invariant_of-self-2 : goal.invariant_of-self-2
invariant_of-self-2 c =
    let more : c.saturating_sub-more.result ≡ c.args.n - length c.self.inside.kinds.items = omega (arith, c.saturating_sub-more.ensures, c.len.ensures, c.self.inside.kinds.ok.0) in
    rw (c.add_kinds.ensures, c.in_ok-reserve.ensures.items, more) (counted_grown c.self.inside.kinds.items c.self.inside.slots _ _ _ _ _ _ _ c.self.invariant c.args.n c.requires)
