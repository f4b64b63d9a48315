use Rattle.std.proofs.Common.{refl}
use Rattle.gi_wire.specs.declared.reader.Request.{Request}
use Rattle.gi_wire.specs.declared.reader.RequestKind.TheVariants as asked
use Rattle.gi_call.proofs.Going.{broken_item, told_item}
use Rattle.gi_call.proofs.client.answer_call.Goals as goal

pub returns-in-Ok-clause-item : goal.returns-in-Ok-clause-item
returns-in-Ok-clause-item g c = λ start es x.
    let i : Request = record { line = c.args.line; asked = asked.Call c.args.call } in
    let was = c.in-Ok.ensures.answered start es x in
    told_item c.tell.result i c.in-Ok.reply start (g.L.Link.state c.ask.new.server) c.ask.new.asking es (g.M.Link.state c.args.user.now) (g.M.Link.state c.tell.new.user) (record { right = was.1; spoken = was.0 }) c.tell.ensures

pub returns-in-Err-clause-item : goal.returns-in-Err-clause-item
returns-in-Err-clause-item g c = λ start es x.
    let i : Request = record { line = c.args.line; asked = asked.Call c.args.call } in
    broken_item c.in-Err.end i c.args.call start (g.L.Link.state c.ask.new.server) c.ask.new.asking es (g.M.Link.state c.args.user.now) refl (c.in-Err.ensures.answered start es x)
