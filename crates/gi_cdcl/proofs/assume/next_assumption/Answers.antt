use Rattle.std.proofs.Common.{subst, true, Some}
use Rattle.std.specs.List.{All, Contains}
use Rattle.std.proofs.lemmas.List.{get_or_read, take_all}
use Rattle.std.proofs.lemmas.List.Elements.{All-more}
use Rattle.gi_prop.specs.TrailView.{HasValue}
use Rattle.gi_cdcl.proofs.assume.next_assumption.Goals as goal

pub loop-passed-preserved : goal.loop-passed-preserved
loop-passed-preserved c =
    let v : HasValue c.args.trail.now.lits c.index-assumed-passed.result (Some true) = rw c.in-Some-true.field-0-test at c.in-Some-true.ensures in
    let known : Contains c.args.trail.now.lits c.index-assumed-passed.result = v in
    All-more (Contains c.args.trail.now.lits) c.args.assumed.now c.loop-passed.passed 0 c.loop-passed-test.true c.loop-passed.invariant (subst (Contains c.args.trail.now.lits) (get_or_read c.args.assumed.now c.loop-passed.passed _ c.loop-passed-test.true c.index-assumed-passed.is 0) known)

pub returns-clause-next : goal.returns-clause-next
returns-clause-next c = subst (All (Contains c.args.trail.now.lits)) (take_all c.loop-passed.passed c.args.assumed.now c.loop-passed-test.false) c.loop-passed.invariant
