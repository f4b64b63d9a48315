use Rattle.std.proofs.Common.{List, sym, subst}
use Rattle.gi_aiger.specs.declared.aig.Symbol.{Symbol}
use Rattle.gi_aiger.specs.Tables.{value_of}
use Rattle.gi_aiger.proofs.Naming.{Tell, none_named}
use Rattle.gi_aiger.proofs.named.Named.new.Goals as goal

pub invariant_of-result : goal.invariant_of-result
invariant_of-result c = subst (λ (symbols : List Symbol). Tell (value_of c.new-2.result) symbols) (sym c.new.ensures.items) (none_named (value_of c.new-2.result) c.new-2.ensures)
