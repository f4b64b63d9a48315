use Rattle.gi_text.specs.Numbers.{magnitude}
use Rattle.gi_text.proofs.Magnitudes.{plain_big}
use Rattle.gi_text.proofs.numbers.plain.Goals as goal

pub returns-then-m-eq-TOO_BIG : goal.returns-then-m-eq-TOO_BIG
returns-then-m-eq-TOO_BIG c = plain_big (magnitude c.args.digits.now) _ c.if-m-eq-TOO_BIG.true c.in-Some.ensures
