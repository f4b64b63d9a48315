use Rattle.std.proofs.Common.{◌≡◌, ℕ, List, sym, subst, arith}
use Rattle.std.specs.List.{All}
use Rattle.std.proofs.lemmas.List.{take_all}
use Rattle.std.proofs.lemmas.List.Elements.{All-more, at_read}
use Rattle.gi_lit.specs.Truth.{IsConsequence}
use Rattle.gi_reference.proofs.Deciding.{no, yes, not_so}
use Rattle.gi_reference.proofs.listing.are_consequences.Goals as goal

pub returns-then-not-follows : goal.returns-then-not-follows
returns-then-not-follows c = no (λ h. not_so c.in_ok-follows.follows c.in_ok-follows.ensures (sym c.if-not-follows.true) (subst (IsConsequence c.args.clauses.now c.args.given.now) (sym c.l-item.is) (h c.loop-l.l-index c.l-item.result c.loop-l-test.true)))

pub loop-l-preserved : goal.loop-l-preserved
loop-l-preserved c =
    All-more (IsConsequence c.args.clauses.now c.args.given.now) c.args.lits.now c.loop-l.l-index 0 c.loop-l-test.true c.loop-l.invariant
    (at_read c.args.lits.now (IsConsequence c.args.clauses.now c.args.given.now) c.loop-l.l-index c.l-item.result c.loop-l-test.true c.l-item.is (c.in_ok-follows.ensures.0 c.if-not-follows.false) 0)

pub returns : goal.returns
returns c = yes (subst (All (IsConsequence c.args.clauses.now c.args.given.now)) (take_all c.loop-l.l-index c.args.lits.now (omega arith)) c.loop-l.invariant)
