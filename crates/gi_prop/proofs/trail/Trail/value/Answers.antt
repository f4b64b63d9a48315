use Rattle.std.proofs.Common.{◌<◌, ◌≤◌, ◌/◌, ◌-◌, length, not, subst, sym, Some, arith}
use mathlib.Core.Bool.{beq}
use Rattle.gi_prop.specs.TrailView.{TrailView, HasValue}
use Rattle.gi_prop.proofs.Values.{read_value, reads_none, reads_some, sign_is, sign_differs}
use Rattle.gi_prop.proofs.trail.Trail.value.Goals as goal

pub returns-in-None : goal.returns-in-None
returns-in-None c =
    let within : c.args.l / 2 ≤ length c.self.inside.positions.items = rw (← c.self.view_is) at c.requires in
    let lt : c.index.result - 1 < length c.self.inside.values.items = omega (arith, c.index.ensures.low, c.self.invariant.table.valued.count) in
    let e = read_value c.self.inside.values.items c.args.l _ _ _ _ c.var.ensures c.index.ensures.value lt c.index-2.ensures (sym c.in-None.ensures) in
    rw (← c.self.view_is) (reads_none _ _ _ c.self.invariant.table c.args.l e)

pub returns-in-Some : goal.returns-in-Some
returns-in-Some c =
    let within : c.args.l / 2 ≤ length c.self.inside.positions.items = rw (← c.self.view_is) at c.requires in
    let big : 1 ≤ c.args.l / 2 = omega (arith, c.index.ensures.low) in
    let lt : c.index.result - 1 < length c.self.inside.values.items = omega (arith, c.index.ensures.low, c.self.invariant.table.valued.count) in
    let e = read_value c.self.inside.values.items c.args.l _ _ _ _ c.var.ensures c.index.ensures.value lt c.index-2.ensures (sym c.in-Some.ensures) in
    subst (λ (t : TrailView). HasValue t.lits c.args.l (Some (not (beq c.in-Some.positive c.is_negative.result)))) c.self.view_is (reads_some _ _ _ c.self.invariant.table c.args.l c.in-Some.positive _ big e (sign_is c.args.l c.in-Some.positive c.is_negative.result c.is_negative.ensures) (sign_differs c.args.l c.in-Some.positive c.is_negative.result c.is_negative.ensures))
