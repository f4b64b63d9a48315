use Rattle.std.proofs.Common.{◌≡◌, ◌++◌, option_map, length}
use Rattle.gi_wire.specs.Answers.{literals_of}
use Rattle.gi_wire.proofs.told.read_literals.Given as goal

abbrev pub invariant-fields : goal.invariant-fields
invariant-fields l = literals_of l.fn.fields ≡ option_map (λ ls. l.list ++ ls) (literals_of l.fields)

abbrev pub decreases-fields : goal.decreases-fields
decreases-fields l = length l.fields
