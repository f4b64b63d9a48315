-- How many gates and variables there are, in any order.
use Rattle.std.proofs.Common.{◌≡◌, ℕ, ◌+◌, ◌/◌, List, ◌++◌, length, map, ap, ◌∙◌, arith, length-append}
use Rattle.std.specs.List.{range_with_len}
use Rattle.std.proofs.lemmas.List.FromFn.{length-range_with_len}
use Rattle.std.proofs.lemmas.List.{length-map}
use Rattle.std.proofs.lemmas.List.Sorted.{length_permutation}
use Rattle.gi_aiger.specs.declared.aig.Aig.{Aig}
use Rattle.gi_aiger.specs.declared.aig.AndGate.{AndGate}
use Rattle.gi_aiger.specs.declared.aig.Latch.{Latch}
use Rattle.gi_aiger.specs.Levels.{gate_at}
use Rattle.gi_aiger_binary.specs.Renumbering.{variables_of}
use Rattle.gi_aiger_binary.proofs.InOrder.{IsByLevel}

-- as many gates in order as gates
pub length-ordered : (gates ordered : List AndGate) → IsByLevel gates ordered → length ordered ≡ length gates
length-ordered gates ordered o =
    ap (λ (gs : List AndGate). length gs) o.are
    ∙ length-map o.places (gate_at gates)
    ∙ length_permutation (range_with_len 0 (length gates)) o.places o.order.all
    ∙ length-range_with_len 0 (length gates)

pub length-variables : (v : Aig) (gs : List AndGate) → length (variables_of v gs) ≡ length v.inputs + length v.latches + length gs
length-variables v gs =
    length-append (map (λ l. l / 2) v.inputs ++ map (λ (l : Latch). l.lit / 2) v.latches) (map (λ (g : AndGate). g.lhs / 2) gs)
    ∙ omega (arith, length-append (map (λ l. l / 2) v.inputs) (map (λ (l : Latch). l.lit / 2) v.latches), length-map v.inputs (λ l. l / 2), length-map v.latches (λ (l : Latch). l.lit / 2), length-map gs (λ (g : AndGate). g.lhs / 2))
