use Rattle.std.proofs.Common.{subst, sym}
use Rattle.gi_net.specs.Leads.{none}
use Rattle.gi_batch.specs.declared.answer.Solved.{Solved}
use Rattle.gi_batch.specs.Solves.{Solves}
use Rattle.gi_batch.proofs.Wholly.{file_no_memory, file_read_fault, file_refused, file_solves, file_too_much}
use Rattle.gi_batch.proofs.solving.solve_file.Goals as goal

pub returns-in-Value-clause-solves : goal.returns-in-Value-clause-solves
returns-in-Value-clause-solves g c =
    subst (λ (result : Solved). Solves result g.V.FormValue.form c.args.budget (g.L.Link.state c.args.user.now) (g.L.Link.state c.solve.new.user) (g.C.Caller.standing c.args.caller.now) (g.C.Caller.standing c.solve.new.caller)) (sym c.solved.ensures)
    (file_solves _ _ g.V.FormValue.form c.args.budget _ _ _ c.in-Value.value (g.V.FileSteps.steps c.in-Value.value) (g.met.V.FileSteps.has_steps c.in-Value.value) _ _ c.solve.result c.in-Value.ensures c.solve.ensures.goes)

pub returns-in-Refused-clause-solves : goal.returns-in-Refused-clause-solves
returns-in-Refused-clause-solves g c = file_refused _ _ g.V.FormValue.form c.args.budget _ _ _ g.met.V.FormValue.of_format c.in-Refused.fault _ c.refuse.result c.in-Refused.ensures c.refuse.ensures

pub returns-in-NoMemory-clause-solves : goal.returns-in-NoMemory-clause-solves
returns-in-NoMemory-clause-solves g c = file_no_memory _ _ g.V.FormValue.form c.args.budget _ _ _ c.in-NoMemory.ensures

pub returns-in-ReadFault-clause-solves : goal.returns-in-ReadFault-clause-solves
returns-in-ReadFault-clause-solves g c = file_read_fault _ _ g.V.FormValue.form c.args.budget _ _ _ c.in-ReadFault.ensures

pub returns-in-TooMuch-clause-solves : goal.returns-in-TooMuch-clause-solves
returns-in-TooMuch-clause-solves g c = file_too_much _ _ g.V.FormValue.form c.args.budget _ _ _ c.in-TooMuch.ensures

pub returns-in-Refused-clause-led : goal.returns-in-Refused-clause-led
returns-in-Refused-clause-led g c = none

pub returns-in-NoMemory-clause-led : goal.returns-in-NoMemory-clause-led
returns-in-NoMemory-clause-led g c = none

pub returns-in-ReadFault-clause-led : goal.returns-in-ReadFault-clause-led
returns-in-ReadFault-clause-led g c = none

pub returns-in-TooMuch-clause-led : goal.returns-in-TooMuch-clause-led
returns-in-TooMuch-clause-led g c = none
