use Rattle.std.proofs.Common.{◌≡◌, subst}
use Rattle.gi_lit.specs.Problem.{has}
use Rattle.gi_core.specs.Content.{Content}
use Rattle.gi_core.proofs.Reading.{same_has}
use Rattle.gi_core.proofs.solver.Solver.is_active.Goals as goal

pub returns : goal.returns
returns c =
    let P : Content → Type 0 = λ k. c.is_active.result ≡ has k.problem.active c.args.g in
    subst P c.self.view_is (same_has _ _ _ c.is_active.ensures)
