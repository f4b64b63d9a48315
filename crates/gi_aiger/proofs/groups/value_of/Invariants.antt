use Rattle.std.proofs.Common.{◌≡◌, length, min, ◌-◌, drop}
use Rattle.gi_aiger.specs.Groups.{value_of}
use Rattle.gi_aiger.proofs.groups.value_of.Given as goal

abbrev pub invariant-loop-i : goal.invariant-loop-i
invariant-loop-i l = l.value ≡ min (value_of (drop (length l.groups - l.i) l.groups)) 4294967296
