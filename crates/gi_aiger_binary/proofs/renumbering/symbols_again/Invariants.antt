use Rattle.std.proofs.Common.{◌≡◌, take}
use Rattle.gi_aiger_binary.proofs.renumbering.symbols_again.Given as goal

abbrev pub invariant-loop-symbol : goal.invariant-loop-symbol
invariant-loop-symbol l = l.out ≡ take l.symbol-index l.symbols
