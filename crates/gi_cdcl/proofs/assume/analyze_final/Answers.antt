use Rattle.std.proofs.Common.{arith, inl, inr}
use Rattle.gi_lit.proofs.Closure.{given_derives}
use Rattle.gi_cdcl.specs.Sound.{stored}
use Rattle.gi_cdcl.proofs.Assuming.{decisions_assumed}
use Rattle.gi_cdcl.proofs.assume.analyze_final.Goals as goal

pub returns-clause-conflicts : goal.returns-clause-conflicts
returns-clause-conflicts c =
    let w = c.in_ok-found.found in
    c.trace.ensures.leads w w (given_derives (stored c.args.store.now) w) (c.in_ok-found.ensures.failed c.requires.assumed)
    (λ k kl q side. elim side [
      | inl lt ↦ absurd (omega arith)
      | inr mk ↦ c.in_ok-found.ensures.marked k kl q (decisions_assumed c.args.trail.now c.args.assumed.now c.args.failed c.lits.ensures.trail.consistent c.requires.led c.requires.assumed c.requires.failed k mk)
    ])

pub start_over-requires : goal.start_over-requires
start_over-requires c = let t = c.lits.ensures.trail in let f = t.few in let r = t.room in rw c.lits.ensures.value (omega (arith, f, r))
