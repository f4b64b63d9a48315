use Rattle.std.proofs.Common.{List, ℕ, subst}
use Rattle.std.specs.List.{All, Contains}
use Rattle.std.proofs.lemmas.List.{take_all}
use Rattle.gi_model.specs.State.{Scope, listed_in, scope_listed}
use Rattle.gi_scopes.proofs.Covering.{there_none, there_more}
use Rattle.gi_scopes.proofs.closed_trail.unlisted_after.Goals as goal

pub loop-level-init : goal.loop-level-init
loop-level-init c = there_none c.args.trail.now.lits

pub loop-level-preserved : goal.loop-level-preserved
loop-level-preserved c =
    let all : List ℕ = c.args.trail.now.lits in
    let own : All (Contains all) (listed_in c.level-item.result.found) = subst (All (Contains all)) c.listed.ensures (c.are_there.ensures c.if-not-are_there.false) in
    there_more all c.args.levels.now c.loop-level.level-index c.level-item.result c.loop-level-test.true c.level-item.is c.loop-level.invariant own

pub returns-clause-listed : goal.returns-clause-listed
returns-clause-listed c e = subst (λ (scs : List Scope). All (Contains c.args.trail.now.lits) (scope_listed scs)) (take_all c.loop-level.level-index c.args.levels.now c.loop-level-test.false) c.loop-level.invariant
