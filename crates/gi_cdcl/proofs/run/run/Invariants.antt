use Rattle.std.proofs.Common.{◌≡◌, ◌<◌, ◌+◌, ◌-◌, ◌*◌, length}
use Rattle.gi_cdcl.specs.Invariant.{SearchInvariant, HasLearnt}
use Rattle.gi_cdcl.proofs.run.run.Given as goal

abbrev pub invariant-steps : goal.invariant-steps
invariant-steps g l = record {
  going : SearchInvariant l.state.prop l.store l.state.trail l.assumed l.state.vars_passed l.state.assumed_passed;
  learnt : HasLearnt l.fn.store l.store l.progress.news.items;
  few : length l.progress.news.items < l.bounds.limit;
  top : l.progress.mark ≡ g.B.Brake.top l.brake;
  low : l.progress.mark < l.bounds.serial;
  asks : g.B.Brake.asks l.brake ≡ length l.progress.news.items + 1;
  follows : g.B.Brake.follows l.fn.brake l.brake;
}

abbrev pub decreases-steps : goal.decreases-steps
decreases-steps g l = (l.bounds.limit - length l.progress.news.items) * (l.state.trail.vars + 1) + (l.state.trail.vars - length l.state.trail.lits)
