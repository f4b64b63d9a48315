use Rattle.std.proofs.Common.{[]}
use Rattle.std.proofs.lemmas.List.{append-nil}
use Rattle.gi_wire.specs.CallText.{call_text}
use Rattle.gi_call.proofs.Speaking.{spoke, spoke_cut}
use Rattle.gi_call.proofs.server.ask.Goals as goal

pub returns-in-Failed-clause-answered : goal.returns-in-Failed-clause-answered
returns-in-Failed-clause-answered g c = λ start es x. spoke_cut (g.L.Link.state c.write_call.new.link) c.args.call x.spoken c.in-Failed.ensures

pub returns-in-Done-clause-answered : goal.returns-in-Done-clause-answered
returns-in-Done-clause-answered g c = λ start es x. c.take_answer.ensures.answered start es (record {
  spoken = spoke (g.L.Link.state c.write_call.new.link) c.args.call (call_text c.args.call) [] x.spoken c.in-Done.ensures (append-nil (call_text c.args.call));
  sent = x.sent;
  kept = x.kept;
  models = x.models;
})
