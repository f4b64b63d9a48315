use Rattle.std.proofs.Common.{refl}
use Rattle.gi_files.specs.declared.command.Command.TheVariants as file
use Rattle.gi_run.proofs.Hosting.{runs}
use Rattle.gi_run.proofs.Printing.{printed}
use Rattle.gi_run.proofs.running.obey.Goals as goal

pub returns-in-Run-clause-does : goal.returns-in-Run-clause-does
returns-in-Run-clause-does g c = rw c.in-Run.is
    (runs c.in-Run.quiet (g.L.Link.state c.args.user.now) (g.L.Link.state c.host-how.new.user) c.args.pass c.host-how.result.pass c.host-how.result.how c.status_of.result c.host-how.ensures.has c.host-how.ensures.own c.status_of.ensures.value, refl)

pub returns-in-Check-clause-does : goal.returns-in-Check-clause-does
returns-in-Check-clause-does g c = rw c.in-Check.is
    (printed file.Check c.in-Check.form c.check.result (g.L.Link.state c.args.user.now) (g.L.Link.state c.check.new.user) c.check.ensures c.file_outcome.result.status c.file_outcome.result.refusal c.file_outcome.ensures.status c.file_outcome.ensures.refusal c.file_outcome.ensures.whole, c.file_outcome.ensures.pass)

pub returns-in-Convert-clause-does : goal.returns-in-Convert-clause-does
returns-in-Convert-clause-does g c = rw c.in-Convert.is
    (printed file.Convert c.in-Convert.form c.convert.result (g.L.Link.state c.args.user.now) (g.L.Link.state c.convert.new.user) c.convert.ensures c.file_outcome-in-Convert.result.status c.file_outcome-in-Convert.result.refusal c.file_outcome-in-Convert.ensures.status c.file_outcome-in-Convert.ensures.refusal c.file_outcome-in-Convert.ensures.whole, c.file_outcome-in-Convert.ensures.pass)
