use Rattle.std.proofs.Common.{◌≡◌, ℕ, List, [], take, sym, subst, inl, inr, arith}
use Rattle.std.specs.List.{All}
use Rattle.std.proofs.lemmas.List.{take_all}
use Rattle.std.proofs.lemmas.List.Elements.{All-more, at_read}
use Rattle.gi_lit.specs.Closure.{IsFalsified, IsSettled}
use Rattle.gi_reference.proofs.Saturating.{inconsistent, consistent}
use Rattle.gi_reference.proofs.closure.look.Goals as goal

pub returns-then-has_opposites : goal.returns-then-has_opposites
returns-then-has_opposites c = inl (inconsistent c.args.lits.now (sym c.if-has_opposites.ensures))

pub returns-in-Falsified : goal.returns-in-Falsified
returns-in-Falsified c = inr (c.clause-item.result, (c.loop-clause.clause-index, c.loop-clause-test.true, sym c.clause-item.is), subst (IsFalsified c.args.lits.now) c.as_slice.ensures c.in-Falsified.ensures)

pub loop-clause-preserved : goal.loop-clause-preserved
loop-clause-preserved c =
    let p = subst (IsSettled c.args.lits.now) c.as_slice.ensures c.in-Settled.ensures in
    All-more (IsSettled c.args.lits.now) c.args.clauses.now c.loop-clause.clause-index [] c.loop-clause-test.true c.loop-clause.invariant
    (at_read c.args.clauses.now (IsSettled c.args.lits.now) c.loop-clause.clause-index c.clause-item.result c.loop-clause-test.true c.clause-item.is p [])

pub returns : goal.returns
returns c =
    let P : List (List ℕ) → Type 0 = λ cs. All (IsSettled c.args.lits.now) cs in
    let a = subst P (take_all c.loop-clause.clause-index c.args.clauses.now (omega arith)) c.loop-clause.invariant in
    (record { each = a }, consistent c.args.lits.now (sym c.if-has_opposites.ensures))
