use Rattle.std.proofs.Common.{◌≡◌, ◌++◌, map, ap, sym, ◌∙◌, arith}
use Rattle.std.specs.List.{flat_map, range_with_len}
use Rattle.gi_drill.specs.Script.{lines_text, round, variable_of}
use Rattle.gi_drill.proofs.Drawing.{rounds_are}
use Rattle.gi_drill.proofs.Texts.{rounds_step}
use Rattle.gi_drill.proofs.script.put_rounds.Goals as goal

pub loop-i-preserved : goal.loop-i-preserved
loop-i-preserved c = rounds_step c.args.out.now c.loop-i.out c.put_round.new.out c.loop-i.i c.variable.result c.loop-i.invariant c.variable.ensures c.in_ok-put_round.ensures

pub returns : goal.returns
returns c =
    let all : c.loop-i.i ≡ c.args.count = omega arith in
    c.loop-i.invariant ∙ ap (λ n. c.args.out.now ++ lines_text (flat_map round (map variable_of (range_with_len 0 n)))) all ∙ ap (λ r. c.args.out.now ++ lines_text r) (sym (rounds_are c.args.count))
