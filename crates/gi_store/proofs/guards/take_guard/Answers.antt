use Rattle.std.proofs.Common.{arith, subst, sym}
use Rattle.std.specs.List.{Contains}
use Rattle.std.proofs.lemmas.List.Elements.{Contains-push}
use Rattle.gi_store.proofs.guards.take_guard.Goals as goal

pub index_mut-requires : goal.index_mut-requires
index_mut-requires c =
    let w = c.requires.within c.in-Some.guard (subst (λ xs. Contains xs c.in-Some.guard) (sym c.in-Some.ensures.items) (Contains-push c.pop.new.self.items c.in-Some.guard)) in
    omega (arith, w, c.index.ensures.value, c.index.ensures.low, c.args.kinds.now.ok.0)
