use Rattle.std.proofs.Common.{◌≡◌, ◌/◌, ℕ, ap, subst, ◌∙◌, get_or, List}
use Rattle.gi_prop.specs.TrailView.{IsLevelAt}
use Rattle.gi_cdcl.proofs.analyze.level_at.Goals as goal

pub returns : goal.returns
returns c =
    let p = c.in-Some.ensures in
    let l_is : c.lit_at-l.result ≡ get_or c.args.trail.now.lits c.args.place 0 = c.lit_at-l.ensures ∙ ap (λ (xs : List ℕ). get_or xs c.args.place 0) c.lits.ensures.value in
    let same : p.0 ≡ c.args.place = c.lits.ensures.trail.apart p.0 c.args.place p.1.below c.requires (p.1.names ∙ c.var.ensures ∙ ap (λ n. n / 2) l_is) in
    subst (λ (n : ℕ). IsLevelAt c.args.trail.now.level_starts n c.in-Some.level) same p.2
