use Rattle.std.proofs.Common.{◌≡◌, ◌<◌, ◌≤◌, ◌∷◌, [], ◌++◌, List, length, get_or, ap, ◌∙◌, subst, arith}
use Rattle.gi_lit.specs.Problem.{Problem, Group, forced}
use Rattle.gi_reference.proofs.Groups.{forced-more, is_force}
use Rattle.gi_reference.proofs.store.Store.in_force.Goals as goal

pub loop-group-preserved : goal.loop-group-preserved
loop-group-preserved c =
    let groups : c.deref-group-items.result.now ≡ c.args.self.now.groups = c.deref-group-items.ensures.value ∙ ap (λ (p : Problem). p.groups) c.self.view_is in
    let lt = subst (λ (qs : List Group). c.loop-group.group-index < length qs) groups c.loop-group-test.true in
    let is = subst (λ (qs : List Group). c.group-item.result ≡ get_or qs c.loop-group.group-index c.group-item.result) groups c.group-item.is in
    let e : c.append_forced.new.to.items ≡ c.loop-group.all.items ++ forced c.args.given.now (c.group-item.result ∷ []) = c.in_ok-append_forced.ensures in
    e ∙ ap (λ cs. cs ++ forced c.args.given.now (c.group-item.result ∷ [])) c.loop-group.invariant ∙ forced-more c.args.self.now.plain c.args.given.now c.args.self.now.groups c.loop-group.group-index c.group-item.result lt is

pub returns : goal.returns
returns c =
    let groups : c.deref-group-items.result.now ≡ c.args.self.now.groups = c.deref-group-items.ensures.value ∙ ap (λ (p : Problem). p.groups) c.self.view_is in
    let le : length c.deref-group-items.result.now ≤ c.loop-group.group-index = omega arith in
    is_force c.args.self.now c.args.given.now c.loop-group.group-index _ (subst (λ (qs : List Group). length qs ≤ c.loop-group.group-index) groups le) c.loop-group.invariant
