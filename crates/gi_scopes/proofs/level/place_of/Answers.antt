use Rattle.std.proofs.Common.{◌≡◌, ◌+◌, length, get_or, sym, ap, subst, arith}
use Rattle.std.specs.List.{Contains}
use Rattle.gi_model.specs.State.{listed_in}
use Rattle.gi_scopes.proofs.Placing.{PlacingTo, placing_none, placing_more, placing_all, count_fits, placed}
use Rattle.gi_scopes.proofs.level.place_of.Goals as goal

pub loop-level-init : goal.loop-level-init
loop-level-init c = placing_none c.args.levels.now c.args.m

pub overflow_add-result : goal.overflow_add-result
overflow_add-result c = omega (arith, count_fits c.args.levels.now c.args.m c.loop-level.level-index c.loop-level.before c.loop-level.invariant c.level-item.result c.loop-level-test.true c.level-item.is, c.in-Some.ensures.below, ap length c.listed-listed.ensures, c.requires)

pub returns-in-Some-clause-below : goal.returns-in-Some-clause-below
returns-in-Some-clause-below c = omega (arith, count_fits c.args.levels.now c.args.m c.loop-level.level-index c.loop-level.before c.loop-level.invariant c.level-item.result c.loop-level-test.true c.level-item.is, c.in-Some.ensures.below, ap length c.listed-listed.ensures)

pub returns-in-Some-clause-at : goal.returns-in-Some-clause-at
returns-in-Some-clause-at c = placed c.args.levels.now c.args.m c.loop-level.level-index c.loop-level.before c.loop-level.invariant c.level-item.result c.loop-level-test.true c.level-item.is c.in-Some.place
    (omega (arith, c.in-Some.ensures.below, ap length c.listed-listed.ensures))
    (subst (λ xs. get_or xs c.in-Some.place 0 ≡ c.args.m) c.listed-listed.ensures c.in-Some.ensures.at)

pub overflow_add-before : goal.overflow_add-before
overflow_add-before c = omega (arith, count_fits c.args.levels.now c.args.m c.loop-level.level-index c.loop-level.before c.loop-level.invariant c.level-item.result c.loop-level-test.true c.level-item.is, ap length c.listed-listed.ensures, c.requires)

pub loop-level-preserved : goal.loop-level-preserved
loop-level-preserved c =
    let count : length (listed_in c.level-item.result.found) ≡ length c.listed-listed.result.now = ap length (sym c.listed-listed.ensures) in
    subst (λ n. PlacingTo c.args.levels.now c.args.m (c.loop-level.level-index + 1) (c.loop-level.before + n)) count
    (placing_more c.args.levels.now c.args.m c.loop-level.level-index c.loop-level.before c.loop-level.invariant c.level-item.result c.loop-level-test.true c.level-item.is (subst (λ xs. ¬ Contains xs c.args.m) c.listed-listed.ensures c.in-None.ensures.none))

pub returns-clause-none : goal.returns-clause-none
returns-clause-none c = placing_all c.args.levels.now c.args.m c.loop-level.level-index c.loop-level.before c.loop-level-test.false c.loop-level.invariant
