use Rattle.std.proofs.Common.{subst, sym}
use Rattle.gi_dimacs.specs.Answers.{IsFault}
use Rattle.gi_files.proofs.Answering.{accepted, refused}
use Rattle.gi_files.proofs.commands.answer_as.Goals as goal

pub returns-in-Value : goal.returns-in-Value
returns-in-Value g c =
    let read = c.in-Value.ensures in
    let value = c.in-Value.value in
    accepted c.args.command g.V.FormValue.form c.print.result (g.L.Link.state c.args.user.now) (g.L.Link.state c.read_file.new.user) (g.L.Link.state c.print.new.user) read.bytes (g.V.FormValue.output c.args.command value)
    read.gave read.bounded read.is.0 (g.met.V.FormValue.accepts c.args.command value read.bytes read.is.1) c.print.ensures

pub returns-in-Refused : goal.returns-in-Refused
returns-in-Refused g c =
    let read = c.in-Refused.ensures in
    refused c.args.command g.V.FormValue.form c.refuse.result (g.L.Link.state c.args.user.now) (g.L.Link.state c.read_file.new.user) (g.L.Link.state c.refuse.new.user) read.bytes c.in-Refused.fault
    read.gave read.bounded read.is.0 (subst (λ f. IsFault f c.in-Refused.fault read.bytes) (sym g.met.V.FormValue.of_format) read.is.1) c.refuse.ensures
