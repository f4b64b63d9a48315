use Rattle.std.proofs.Common.{◌+◌, Bool, List, sym, subst}
use Rattle.gi_scopes.proofs.Noting.{UnmarkedTo, unmarked_none, unmarked_skip, unmarked_set, unmarked_all}
use Rattle.gi_scopes.proofs.implied.unmark.Goals as goal
use Rattle.gi_scopes.proofs.implied.unmark.Goals.{then-code-noted, else-code-noted}

pub loop-code-init : goal.loop-code-init
loop-code-init c = unmarked_none c.args.codes.now c.args.noted.now c.requires

pub loop-code-preserved : goal.loop-code-preserved
loop-code-preserved c =
    let P : List Bool → Type 0 = λ bs. UnmarkedTo c.args.codes.now (c.loop-code.code-index + 1) bs in
    elim c.if-code-noted.branch [
      | then-code-noted w ↦ subst P (sym w.noted-is) (unmarked_set c.args.codes.now c.loop-code.code-index c.loop-code-test.true c.loop-code.noted c.loop-code.invariant w.if-code-noted.true)
      | else-code-noted w ↦ subst P (sym w.noted-is) (unmarked_skip c.args.codes.now c.loop-code.code-index c.loop-code-test.true c.loop-code.noted c.loop-code.invariant w.if-code-noted.false)
    ]

pub returns : goal.returns
returns c = unmarked_all c.args.codes.now c.loop-code.code-index c.loop-code.noted c.loop-code-test.false c.loop-code.invariant
