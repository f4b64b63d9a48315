use Rattle.std.proofs.Common.{◌≡◌, ◌++◌, take}
use Rattle.std.specs.List.{flat_map}
use Rattle.gi_aiger.specs.Texts.{symbol_line}
use Rattle.gi_aiger.proofs.line_writers.put_symbols.Given as goal

abbrev pub invariant-loop-symbol : goal.invariant-loop-symbol
invariant-loop-symbol l = l.out ≡ l.fn.out ++ flat_map symbol_line (take l.symbol-index l.symbols)
