use Rattle.std.proofs.Common.{◌+◌, length, refl, ap, ◌∙◌, inl, inr, arith}
use Rattle.std.proofs.lemmas.Bool.{cases_lt}
use Rattle.gi_scopes.proofs.find.count.Goals as goal

pub loop-at-init : goal.loop-at-init
loop-at-init g c = (omega arith, λ le. refl)

pub loop-at-preserved : goal.loop-at-preserved
loop-at-preserved g c = (omega (arith, c.tick.ensures, c.loop-at.invariant.0, c.loop-at.auto._at), λ le. absurd (omega (arith, le, c.loop-at-test.true, c.loop-at.auto._at, ap length c.lits-at-end.ensures.value)))

pub returns : goal.returns
returns g c = c.loop-at.invariant.0 ∙ ap (λ n. c.args.steps.now + n) (elim (cases_lt c.args.from (length c.args.trail.now.lits)) [
  | inl lt ↦ omega (arith, lt, c.loop-at-test.false, c.loop-at.auto._at, c.loop-at.auto._at-end, ap length c.lits-at-end.ensures.value)
  | inr le ↦ let e = c.loop-at.invariant.1 le in omega (arith, e, le)
])
