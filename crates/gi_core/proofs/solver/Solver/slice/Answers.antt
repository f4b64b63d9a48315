use Rattle.std.proofs.Common.{sym, subst}
use Rattle.gi_core.specs.Slicing.{AreUsable}
use Rattle.gi_core.proofs.Reading.{known_usable}
use Rattle.gi_core.proofs.solver.Solver.slice.Goals as goal

pub slice-sliced-requires-clause-known : goal.slice-sliced-requires-clause-known
slice-sliced-requires-clause-known g c = known_usable _ (subst AreUsable (sym c.self.view_is) c.requires.known)
