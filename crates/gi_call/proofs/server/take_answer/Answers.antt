use Rattle.std.proofs.Common.{◌+◌, ◌++◌, ap}
use Rattle.gi_wire.specs.CallText.{call_text}
use Rattle.gi_call.specs.Exchanged.{call_texts}
use Rattle.gi_call.proofs.Stopping.{unheard_stops}
use Rattle.gi_call.proofs.server.take_answer.Goals as goal

pub returns-in-Ok-clause-answered : goal.returns-in-Ok-clause-answered
returns-in-Ok-clause-answered g c = λ start es x.
    c.judge.ensures.answered start (g.L.Link.state c.await_line.new.server) es (record {
      spoken = c.in-Ok.ensures.spoken start es (call_texts es ++ call_text c.args.call) x.spoken;
      sent = x.sent;
      kept = x.kept;
      models = x.models;
    })

pub returns-in-Err-clause-answered : goal.returns-in-Err-clause-answered
returns-in-Err-clause-answered g c = λ start es x.
    unheard_stops c.in-Err.end (c.args.asking.now.sent + 1) c.args.call start (g.L.Link.state c.await_line.new.server) es (ap (λ n. n + 1) x.sent) (c.in-Err.ensures.spoken start es (call_texts es ++ call_text c.args.call) x.spoken)

pub judge-requires-clause-few : goal.judge-requires-clause-few
judge-requires-clause-few g c = c.in-Ok.ensures.few c.args.asking.now.sent c.requires.few
