use Rattle.std.proofs.Common.{◌≡◌, ℕ, take}
use Rattle.gi_aiger_binary.specs.Renumbering.{number_in}
use Rattle.gi_aiger.specs.Tables.{value_of}
use Rattle.gi_aiger_binary.proofs.numbers.numbers_of.Given as goal

abbrev pub invariant-loop-place : goal.invariant-loop-place
invariant-loop-place l = (x : ℕ) → value_of l.numbers x ≡ number_in (take l.place l.variables) x
