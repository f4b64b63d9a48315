use Rattle.std.proofs.Common.{length}
use Rattle.gi_aiger.specs.Fields.{numbers_at, numbers_of}
use Rattle.gi_aiger.proofs.Parting.{SoFar}
use Rattle.gi_aiger.proofs.fields.read_numbers.Given as goal

abbrev pub invariant-fields : goal.invariant-fields
invariant-fields l = SoFar l.numbers.items (numbers_of l.line) (numbers_at l.fields)

abbrev pub decreases-fields : goal.decreases-fields
decreases-fields l = length l.fields
