use Rattle.std.proofs.Common.{◌≡◌, ◌++◌, take}
use Rattle.std.specs.List.{flat_map}
use Rattle.gi_wire.specs.Literals.{literal_text}
use Rattle.gi_drill.proofs.text.put_literals.Given as goal

abbrev pub invariant-loop-literal : goal.invariant-loop-literal
invariant-loop-literal l = l.out ≡ l.fn.out ++ flat_map literal_text (take l.literal-index l.literals)
