use Rattle.gi_core.proofs.Adding.{adding_start, adding_usable, adding_more, adding_end}
use Rattle.gi_core.proofs.solver.Solver.load.Goals as goal

pub loop-clause-init : goal.loop-clause-init
loop-clause-init c = adding_start c.args.self.now c.grow.new.self c.args.vars c.args.clauses.now c.requires.whole c.requires.usable c.in_ok-grow.ensures

pub add-requires : goal.add-requires
add-requires c = rw c.as_slice.ensures (adding_usable c.args.self.now c.loop-clause.self c.args.vars c.args.clauses.now c.loop-clause.clause-index c.clause-item.result c.loop-clause-test.true c.clause-item.is c.loop-clause.invariant)

pub loop-clause-preserved : goal.loop-clause-preserved
loop-clause-preserved c = adding_more c.args.self.now c.loop-clause.self c.add.new.self c.args.vars c.args.clauses.now c.loop-clause.clause-index c.clause-item.result c.loop-clause-test.true c.clause-item.is c.loop-clause.invariant (rw c.as_slice.ensures at c.in_ok-add.ensures)

pub returns : goal.returns
returns c = adding_end c.args.self.now c.loop-clause.self c.args.vars c.args.clauses.now c.loop-clause.clause-index c.loop-clause-test.false c.loop-clause.invariant
