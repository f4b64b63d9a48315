use Rattle.std.proofs.Common.{◌≡◌, ◌≤◌, ◌<◌, ◌-◌, length, get_or, sym, ◌∙◌, subst, arith}
use Rattle.std.specs.List.{All}
use Rattle.std.proofs.lemmas.Bool.{eqb-true}
use Rattle.std.proofs.lemmas.List.{get_or_read, get_or_default}
use Rattle.gi_prop.specs.TrailView.{TrailView}
use Rattle.gi_prop.proofs.trail.Trail.last_head.Goals as goal

pub returns-then-is_empty : goal.returns-then-is_empty
returns-then-is_empty c = subst (λ (t : TrailView). All (λ h. h ≤ 0) t.qheads) c.self.view_is (λ j d jl. absurd (let x : c.self.inside.qheads.len ≡ 0 = eqb-true c.self.inside.qheads.len 0 (sym c.is_empty.ensures ∙ c.if-is_empty.true) in omega (arith, x, c.self.inside.qheads.ok.0)))

pub returns : goal.returns
returns c =
    subst (λ (t : TrailView). All (λ h. h ≤ c.index.result.now) t.qheads) c.self.view_is (λ j d jl.
    let last : c.len.result - 1 < length c.self.inside.qheads.items = omega (arith, c.len.ensures, c.self.inside.qheads.ok.0) in
    let below : c.len.result - 1 < length c.self.inside.level_starts.items = omega (arith, c.self.invariant.begun.aligned) in
    let le : j ≤ c.len.result - 1 = omega (arith, c.len.ensures, c.self.inside.qheads.ok.0) in
    let x = c.self.invariant.begun.rising j (c.len.result - 1) le below in
    let read : c.index.result.now ≡ get_or c.self.inside.qheads.items (c.len.result - 1) 0 = get_or_read c.self.inside.qheads.items (c.len.result - 1) c.index.result.now last c.index.ensures 0 in
    let here : get_or c.self.inside.qheads.items j d ≡ get_or c.self.inside.qheads.items j 0 = get_or_default c.self.inside.qheads.items j d 0 jl in
    omega (arith, x, read, here))
