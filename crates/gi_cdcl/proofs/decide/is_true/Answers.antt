use Rattle.std.proofs.Common.{◌≡◌, ◌+◌, ◌*◌, ℕ, ap, subst, ◌∙◌, Some}
use Rattle.gi_prop.specs.TrailView.{HasValue}
use Rattle.gi_cdcl.proofs.Values.{value_from}
use Rattle.gi_cdcl.proofs.decide.is_true.Goals as goal

pub returns-in-Some : goal.returns-in-Some
returns-in-Some c =
    let l_is : c.positive-l.result ≡ 2 * (c.args.place + 1) = c.positive-l.ensures ∙ ap (λ (v : ℕ). 2 * v) c.variable.ensures in
    value_from c.args.trail.now.lits c.args.place c.in-Some.value c.requires.trail.consistent (subst (λ (l : ℕ). HasValue c.args.trail.now.lits l (Some c.in-Some.value)) l_is c.in-Some.ensures)
