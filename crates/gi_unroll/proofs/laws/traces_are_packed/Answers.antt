use Rattle.gi_unroll.proofs.Tracing.{values_depend, traces_packed}
use Rattle.gi_unroll.proofs.laws.traces_are_packed.Goals as goal

pub returns-clause-depend : goal.returns-clause-depend
returns-clause-depend c = values_depend

pub returns-clause-packed : goal.returns-clause-packed
returns-clause-packed c = traces_packed
