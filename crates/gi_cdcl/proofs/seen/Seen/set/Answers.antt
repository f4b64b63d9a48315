use Rattle.std.proofs.Common.{◌≡◌, ◌<◌, Bool, false, List, length, get_or, subst, sym, arith, vec_capacity}
use Rattle.gi_cdcl.proofs.Touching.{touched_room, touched_set}
use Rattle.gi_cdcl.proofs.seen.Seen.set.Goals as goal

pub push_reserved-requires : goal.push_reserved-requires
push_reserved-requires c =
    let lt = subst (λ (xs : List Bool). c.args.place < length xs) (sym c.self.view_is) c.requires.within in
    let free = subst (λ (xs : List Bool). get_or xs c.args.place false ≡ false) (sym c.self.view_is) c.requires.free in
    omega (arith, touched_room c.self.inside.flags.items c.self.inside.touched.items (vec_capacity c.self.inside.touched) c.args.place c.self.invariant lt free, c.self.inside.touched.ok.0)

pub invariant_of-self : goal.invariant_of-self
invariant_of-self c =
    let lt = subst (λ (xs : List Bool). c.args.place < length xs) (sym c.self.view_is) c.requires.within in
    let free = subst (λ (xs : List Bool). get_or xs c.args.place false ≡ false) (sym c.self.view_is) c.requires.free in
    rw (c.push_reserved.ensures.items, c.push_reserved.ensures.capacity) (touched_set c.self.inside.flags.items c.self.inside.touched.items (vec_capacity c.self.inside.touched) c.args.place c.self.invariant lt free)

pub overflow_cast-place : goal.overflow_cast-place
overflow_cast-place c = let lt = subst (λ (xs : List Bool). c.args.place < length xs) (sym c.self.view_is) c.requires.within in let f = c.self.invariant.few in omega (arith, lt, f)
