-- Values that the binary form can say.
use Rattle.std.specs.Prelude.{◌≡◌, ℕ, zero, suc, ◌+◌, ◌*◌, ◌<◌, ◌≤◌, true, false, List, [], ◌∷◌, ◌++◌, length, map}
use Rattle.std.specs.List.{flat_map, AllByRecursion}
use Rattle.gi_aiger.specs.declared.aig.Aig.{Aig}
use Rattle.gi_aiger.specs.declared.aig.AndGate.{AndGate}
use Rattle.gi_aiger.specs.declared.aig.Latch.{Latch}
use Rattle.gi_aiger.specs.declared.aig.Symbol.{Symbol}
use Rattle.gi_aiger.specs.declared.head.Form.TheVariants.{Binary}
use Rattle.gi_aiger.specs.declared.head.Head.{Head}
use Rattle.gi_aiger.specs.Good.{IsTitle}
use Rattle.gi_aiger.specs.Relation as said
use Rattle.gi_aiger.specs.Named.{is_named}
use Rattle.gi_aiger.specs.Limits.{most_items}

-- the literals of so many variables from one on
abbrev pub evens_from : ℕ → ℕ → List ℕ
evens_from v zero = []
evens_from v (suc n) = 2 * v ∷ evens_from (suc v) n

-- literals of the variables up to the greatest
abbrev pub AreWithin : ℕ → List ℕ → Type 0
AreWithin max ls = AllByRecursion (λ l. l ≤ 2 * max + 1) ls

-- a gate stands behind its operands, of which the greater comes first
abbrev pub IsFalling : AndGate → Type 0
IsFalling g = (g.rhs0 < g.lhs) × (g.rhs1 ≤ g.rhs0)

-- the variables are numbered from 1: those of the inputs, of the latches, and of the gates
pub record IsNumbered (w : Aig) : Type 0 where
  pub max : w.max ≡ length w.inputs + length w.latches + length w.gates
  pub inputs : w.inputs ≡ evens_from 1 (length w.inputs)
  pub latches : map (λ (l : Latch). l.lit) w.latches
      ≡ evens_from (length w.inputs + 1) (length w.latches)
  pub gates : map (λ (g : AndGate). g.lhs) w.gates
      ≡ evens_from (length w.inputs + length w.latches + 1) (length w.gates)
  pub falling : AllByRecursion IsFalling w.gates
  pub nexts : AreWithin w.max (map (λ (l : Latch). l.next) w.latches)
  pub outs : AreWithin w.max w.outs
  pub bads : AreWithin w.max w.bads
  pub cons : AreWithin w.max w.cons
  pub justice : AreWithin w.max (flat_map (λ p. p) w.justice)
  pub fair : AreWithin w.max w.fair

-- the counts of a value; its variables are those of its inputs, latches and gates
abbrev pub head_of_aig : Aig → Head
head_of_aig v = record (said.head_of_aig Binary v) {
  max = length v.inputs + length v.latches
      + length v.gates;
}

-- symbols behind others, no two of the same kind and place
abbrev pub AreSymbols : Head → List Symbol → List Symbol → Type 0
AreSymbols h before [] = Unit {0}
AreSymbols h before (s ∷ ss) = IsTitle h s × (is_named before s.kind s.place ≡ false)
    × AreSymbols h (before ++ s ∷ []) ss

-- the counts are within the limits, and the symbols are in order
pub record IsInLimits (v : Aig) : Type 0 where
  pub variables : length v.inputs + length v.latches + length v.gates ≤ most_items
  pub outs : length v.outs ≤ most_items
  pub bads : length v.bads ≤ most_items
  pub cons : length v.cons ≤ most_items
  pub justice : length v.justice ≤ most_items
  pub sizes : length (flat_map (λ p. p) v.justice) ≤ most_items
  pub fair : length v.fair ≤ most_items
  pub symbols : AreSymbols (head_of_aig v) [] v.symbols
