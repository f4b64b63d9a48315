use Rattle.std.proofs.Common.{arith}
use Rattle.std.proofs.lemmas.Int.{ints, to_z-of_z}
use Rattle.gi_text.specs.Numbers.{size_of}
use Rattle.gi_aiger.proofs.Parting.{minus_none, unsigned, unsigned_none}
use Rattle.gi_aiger.proofs.fields.read_unsigned.Goals as goal

pub returns-then-begins_minus : goal.returns-then-begins_minus
returns-then-begins_minus c = minus_none c.args.field.now (c.begins_minus.ensures.0 c.if-begins_minus.true)

pub returns-in-NotNumber : goal.returns-in-NotNumber
returns-in-NotNumber c = unsigned_none c.args.field.now c.begins_minus.result c.if-begins_minus.false c.begins_minus.ensures.1 c.in-NotNumber.ensures

pub returns-in-TooBig : goal.returns-in-TooBig
returns-in-TooBig c = let told = c.in-TooBig.ensures in (size_of told.0, unsigned c.args.field.now told.0 c.begins_minus.result c.if-begins_minus.false c.begins_minus.ensures.1 told.1, omega (arith, told.2))

pub returns-in-Value : goal.returns-in-Value
returns-in-Value c =
    let told = c.in-Value.ensures in
    (size_of c.in-Value.z, unsigned c.args.field.now c.in-Value.z c.begins_minus.result c.if-begins_minus.false c.begins_minus.ensures.1 told.0, grind (arith, ints, to_z-of_z))
