use Rattle.std.proofs.Common.{arith}
use Rattle.std.proofs.lemmas.Int.{ints, to_z-of_z}
use Rattle.gi_text.specs.Numbers.{size_of}
use Rattle.gi_dimacs.proofs.Counting.{count_at-minus, count_at-plain}
use Rattle.gi_dimacs.proofs.head.count_of.Goals as goal

pub returns-then-begins_minus : goal.returns-then-begins_minus
returns-then-begins_minus c = count_at-minus c.args.word.now (c.begins_minus.ensures.0 c.if-begins_minus.true)

pub returns-in-TooBig : goal.returns-in-TooBig
returns-in-TooBig c =
    let told = c.in-TooBig.ensures in
    (size_of told.0, count_at-plain c.args.word.now told.0 c.begins_minus.result c.if-begins_minus.false c.begins_minus.ensures.1 told.1, omega (arith, told.2))

pub returns-in-Value : goal.returns-in-Value
returns-in-Value c =
    let told = c.in-Value.ensures in
    (size_of c.in-Value.z, count_at-plain c.args.word.now c.in-Value.z c.begins_minus.result c.if-begins_minus.false c.begins_minus.ensures.1 told.0, grind (arith, ints, to_z-of_z))
