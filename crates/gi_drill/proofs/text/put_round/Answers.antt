use Rattle.std.proofs.lemmas.Result.{on_ok_weaker}
use Rattle.gi_drill.proofs.Texts.{round_chain}
use Rattle.gi_drill.proofs.text.put_round.Goals as goal

pub returns : goal.returns
returns c = on_ok_weaker c.extend-2.result (λ e. round_chain c.args.out.now c.extend.new.self c.put_under.new.out c.put_under-2.new.out c.extend-2.new.self c.args.v c.positive.result c.negative.result c.positive.ensures c.negative.ensures c.in_ok-extend.ensures.ok c.in_ok-put_under.ensures c.in_ok-put_under-2.ensures e) c.extend-2.ensures.ok
