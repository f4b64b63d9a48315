use Rattle.std.proofs.Common.{subst}
use Rattle.gi_chains.specs.Lists.{IsApart}
use Rattle.gi_chains.proofs.Keeping.{kept_apart}
use Rattle.gi_chains.proofs.chains.Chains.lists.Goals as goal

pub returns-clause-apart : goal.returns-clause-apart
returns-clause-apart c = subst IsApart c.self.view_is (kept_apart _ _ c.self.invariant)
