use Rattle.std.proofs.Common.{◌≡◌, ◌==◌, not, length, subst}
use Rattle.gi_core.specs.Content.{Content}
use Rattle.gi_core.proofs.Reading.{some_freed}
use Rattle.gi_core.proofs.solver.Solver.has_freed.Goals as goal

pub returns : goal.returns
returns c =
    let P : Content → Type 0 = λ k. c.has_freed.result ≡ not (length k.problem.freed == 0) in
    subst P c.self.view_is (some_freed _ _ c.has_freed.ensures)
