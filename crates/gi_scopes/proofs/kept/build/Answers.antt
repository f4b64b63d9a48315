use Rattle.gi_model.specs.State.{scope_assumed}
use Rattle.gi_scopes.proofs.Leveling.{stuck_start, building_start}
use Rattle.gi_scopes.proofs.kept.build.Goals as goal

pub returns-in-Some : goal.returns-in-Some
returns-in-Some c = stuck_start c.args.store.now (scope_assumed c.args.levels.now) c.in_ok-kept.kept c.close.new.self c.in-Some.clash c.in_ok-kept.ensures c.close.ensures.adds (c.in-Some.ensures.clash (scope_assumed c.args.levels.now))

pub raise_all-requires-clause-vars : goal.raise_all-requires-clause-vars
raise_all-requires-clause-vars c = (building_start c.args.store.now c.in_ok-kept.kept c.close.new.self c.args.levels.now c.in_ok-kept.ensures c.close.ensures.adds c.close.ensures.goes c.close.ensures.keys c.in-None.ensures.closed).vars

pub raise_all-requires-clause-built : goal.raise_all-requires-clause-built
raise_all-requires-clause-built c = (building_start c.args.store.now c.in_ok-kept.kept c.close.new.self c.args.levels.now c.in_ok-kept.ensures c.close.ensures.adds c.close.ensures.goes c.close.ensures.keys c.in-None.ensures.closed).built
