use Rattle.std.proofs.Common.{◌≤◌, sym, subst}
use Rattle.gi_lit.specs.Literals.{max_var}
use Rattle.gi_model.specs.Loads.{loaded, file_vars, file_clauses}
use Rattle.gi_reference.proofs.Loading.{fits_vars}
use Rattle.gi_reference.proofs.machine.Plain.load.Goals as goal

pub grow-requires : goal.grow-requires
grow-requires c = subst (λ n. n ≤ max_var) (sym c.in_ok-payload.ensures.vars) (fits_vars (file_clauses (loaded c.args.bytes.now)) (file_vars (loaded c.args.bytes.now)) c.args.self.now.problem c.requires)
