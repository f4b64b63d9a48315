use Rattle.std.proofs.Common.{◌≡◌, ◌≤◌, List, length, ap, ◌∙◌, subst, arith}
use Rattle.gi_lit.specs.Problem.{Problem, Group}
use Rattle.gi_reference.proofs.Groups.{is_full}
use Rattle.gi_reference.proofs.store.Store.full.Goals as goal

pub returns : goal.returns
returns c =
    let groups : c.deref-group-items.result.now ≡ c.args.self.now.groups = c.deref-group-items.ensures.value ∙ ap (λ (p : Problem). p.groups) c.self.view_is in
    let le : length c.deref-group-items.result.now ≤ c.loop-group.group-index = omega arith in
    is_full c.args.self.now c.loop-group.group-index _ (subst (λ (qs : List Group). length qs ≤ c.loop-group.group-index) groups le) c.loop-group.invariant
