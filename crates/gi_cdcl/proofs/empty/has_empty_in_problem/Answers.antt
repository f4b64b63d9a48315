use Rattle.std.proofs.Common.{◌≡◌, ◌<◌, ℕ, List, [], length, get_or, sym, ◌∙◌, ap, subst, arith, inl, inr}
use Rattle.std.proofs.lemmas.Bool.{cases_eq}
use Rattle.gi_cdcl.specs.Sound.{stored}
use Rattle.gi_cdcl.proofs.Empties.{stored_at, not_empty, full_nonempty}
use Rattle.gi_cdcl.proofs.empty.has_empty_in_problem.Goals as goal

pub loop-i-preserved : goal.loop-i-preserved
loop-i-preserved c j lt = elim (cases_eq j c.loop-i.i) [
  | inl same ↦
      let s = stored_at c.args.store.now c.loop-i.i c.in-Some.key c.in-Some.ensures in
      let is : get_or (stored c.args.store.now) j [] ≡ c.clause.result.now = ap (λ (n : ℕ). get_or (stored c.args.store.now) n []) same ∙ s.2 ∙ sym (c.clause.ensures.only s.0 s.1) in
      subst (λ (xs : List ℕ). 0 < length xs) (sym is) (not_empty (length c.clause.result.now) (sym c.is_empty.ensures ∙ c.if-is_empty.false))
  | inr other ↦ c.loop-i.invariant j (omega arith)
]

pub returns-clause-no : goal.returns-clause-no
returns-clause-no c q = full_nonempty c.args.store.now (λ j lt. c.loop-i.invariant j (omega (arith, lt, c.loop-i-test.false, c.problem-i-end.ensures)))
