use Rattle.std.proofs.Common.{List, ℕ, subst}
use Rattle.std.specs.List.{All, Contains}
use Rattle.std.proofs.lemmas.List.{take_all, get_or_read}
use Rattle.std.proofs.lemmas.List.Elements.{All-more}
use Rattle.gi_scopes.proofs.Covering.{place_contains}
use Rattle.gi_scopes.proofs.implied.are_there.Goals as goal

pub loop-l-preserved : goal.loop-l-preserved
loop-l-preserved c =
    let all : List ℕ = c.args.trail.now.lits in
    let there : Contains all c.l-item.result = place_contains all c.l-item.result c.in-Some.field-0 c.in-Some.ensures.place in
    All-more (Contains all) c.args.lits.now c.loop-l.l-index 0 c.loop-l-test.true c.loop-l.invariant (subst (Contains all) (get_or_read c.args.lits.now c.loop-l.l-index c.l-item.result c.loop-l-test.true c.l-item.is 0) there)

pub returns : goal.returns
returns c h = subst (All (Contains c.args.trail.now.lits)) (take_all c.loop-l.l-index c.args.lits.now c.loop-l-test.false) c.loop-l.invariant
