use Rattle.gi_text.specs.Numbers.{magnitude}
use Rattle.gi_text.proofs.Magnitudes.{negative_big}
use Rattle.gi_text.proofs.numbers.negative.Goals as goal

pub returns-then-m-eq-TOO_BIG : goal.returns-then-m-eq-TOO_BIG
returns-then-m-eq-TOO_BIG c = negative_big (magnitude c.args.digits.now) _ c.if-m-eq-TOO_BIG.true c.in-Some.ensures
