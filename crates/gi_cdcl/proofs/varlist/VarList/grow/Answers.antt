use Rattle.std.proofs.Common.{◌≡◌, ◌+◌, ℕ, arith, ap, ◌∙◌}
use Rattle.gi_chains.specs.Lists.{grown}
use Rattle.gi_cdcl.proofs.Queues.{linked_start}
use Rattle.gi_cdcl.proofs.varlist.VarList.grow.Goals as goal

pub link-requires-clause-linked : goal.link-requires-clause-linked
link-requires-clause-linked c =
    let up : c.from.result + 1 ≡ c.args.n = omega (arith, c.from.ensures, c.if-n-self.false) in
    linked_start c.self.inside.chains c.grow.new.self c.self.inside.count c.args.n c.self.invariant (omega (arith, c.if-n-self.false)) (c.in_ok-grow.ensures.ok ∙ ap (λ (k : ℕ). grown c.self.inside.chains 1 k) up) c.in_ok-grow.ensures.apart
