use Rattle.std.proofs.Common.{◌≡◌, ◌+◌, ◌<◌, List, ℕ, length, take, sym, subst, arith}
use Rattle.gi_model.specs.Replies.{model_from, model_of}
use Rattle.gi_core.proofs.Models.{model_with, model_without}
use Rattle.gi_core.proofs.asking.true_literals.Goals as goal
use Rattle.gi_core.proofs.asking.true_literals.Goals.{then-is_problem_var+in_ok-push, else-is_problem_var}

pub loop-i-init : goal.loop-i-init
unfolding model_from
loop-i-init c = c.new-lits.ensures

pub loop-i-preserved : goal.loop-i-preserved
loop-i-preserved c =
    let p = c.args.solver.now.problem in
    let values = c.args.values.now in
    let lt : c.loop-i.i < length values = omega (arith, c.len-i-end.ensures) in
    let P : List ℕ → Type 0 = λ ls. ls ≡ model_of p (take (c.loop-i.i + 1) values) in
    elim c.if-is_problem_var.branch [
      | then-is_problem_var+in_ok-push w ↦ subst P (sym w.lits-is) (model_with p c.loop-i.i c.in-Some.v w.literal.result w.get.result values c.loop-i.lits w.push.new.self lt c.in-Some.ensures.1 c.loop-i.invariant w.if-is_problem_var.ensures w.get.ensures w.literal.ensures w.in_ok-push.ensures.ok)
      | else-is_problem_var w ↦ subst P (sym w.lits-is) (model_without p c.loop-i.i c.in-Some.v values c.loop-i.lits lt c.in-Some.ensures.1 c.loop-i.invariant w.if-is_problem_var.ensures)
    ]
