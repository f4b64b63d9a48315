use Rattle.std.proofs.Common.{◌/◌, refl, subst}
use Rattle.std.specs.List.{All}
use Rattle.std.proofs.lemmas.List.{get_or_read, take_all}
use Rattle.std.proofs.lemmas.List.Elements.{All-more}
use Rattle.gi_lit.specs.Problem.{IsProblemVar}
use Rattle.gi_store.specs.StoreView.{problem_of}
use Rattle.gi_store.proofs.store.Store.is_plain.Goals as goal

pub loop-l-preserved : goal.loop-l-preserved
loop-l-preserved c =
    let p : IsProblemVar (problem_of c.args.self.now) (c.l-item.result / 2) = rw (← c.var.ensures) (c.is_problem_var.ensures.0 c.if-not-is_problem_var.false) in
    All-more (λ x. IsProblemVar (problem_of c.args.self.now) (x / 2)) c.args.c.now c.loop-l.l-index 0 c.loop-l-test.true c.loop-l.invariant
    (subst (λ x. IsProblemVar (problem_of c.args.self.now) (x / 2)) (get_or_read c.args.c.now c.loop-l.l-index c.l-item.result c.loop-l-test.true c.l-item.is 0) p)

pub returns : goal.returns
returns c = (λ t. subst (All (λ x. IsProblemVar (problem_of c.args.self.now) (x / 2))) (take_all c.loop-l.l-index c.args.c.now c.loop-l-test.false) c.loop-l.invariant, λ h. refl)
