-- A value with its variables numbered anew, as the binary form wants them.
use Rattle.std.specs.Prelude.{◌≡◌, ℕ, zero, suc, ◌+◌, ◌*◌, ◌/◌, ◌%◌, ◌==◌, max, min, List, [], ◌∷◌, ◌++◌, length, map, if◌then◌else◌}
use Rattle.gi_aiger.specs.declared.aig.Aig.{Aig}
use Rattle.gi_aiger.specs.declared.aig.AndGate.{AndGate}
use Rattle.gi_aiger.specs.declared.aig.Latch.{Latch}
use Rattle.gi_aiger.specs.Levels.{gate_at}
use Rattle.gi_aiger.specs.Places.{places_by_level}

-- the variables in their new order: those of the inputs, of the latches, and of these gates
abbrev pub variables_of : Aig → List AndGate → List ℕ
variables_of v gates = (map (λ l. l / 2) v.inputs ++ map (λ (l : Latch). l.lit / 2) v.latches)
    ++ map (λ (g : AndGate). g.lhs / 2) gates

-- one place further, where there is a place
abbrev pub further : ℕ → ℕ
further zero = zero
further (suc place) = suc (suc place)

-- the place of a variable, from 1; 0 where it has none
unfoldable pub place_among : List ℕ → ℕ → ℕ
place_among [] x = 0
place_among (v ∷ vs) x = if v == x then 1 else further (place_among vs x)

-- a variable's new number is its place in the order; 0 stays 0, and a variable that nothing defines
-- becomes 0
abbrev pub number_in : List ℕ → ℕ → ℕ
number_in variables x = if x == 0 then 0 else place_among variables x

-- a literal of the variable's new number
abbrev pub literal_by : (ℕ → ℕ) → ℕ → ℕ
literal_by number l = 2 * number (l / 2) + l % 2

abbrev pub latch_by : (ℕ → ℕ) → Latch → Latch
latch_by number l = record {
  lit = literal_by number l.lit;
  next = literal_by number l.next;
  reset = l.reset;
}

-- the greater operand comes first
abbrev pub gate_by : (ℕ → ℕ) → AndGate → AndGate
gate_by number g = record {
  lhs = literal_by number g.lhs;
  rhs0 = max (literal_by number g.rhs0) (literal_by number g.rhs1);
  rhs1 = min (literal_by number g.rhs0) (literal_by number g.rhs1);
}

-- a value with these numbers for its variables, so many of them, and its gates in this order
abbrev pub numbered_by : (ℕ → ℕ) → ℕ → Aig → List AndGate → Aig
numbered_by number most v gates = record {
  max = most;
  inputs = map (literal_by number) v.inputs;
  latches = map (latch_by number) v.latches;
  outs = map (literal_by number) v.outs;
  bads = map (literal_by number) v.bads;
  cons = map (literal_by number) v.cons;
  justice = map (map (literal_by number)) v.justice;
  fair = map (literal_by number) v.fair;
  gates = map (gate_by number) gates;
  symbols = v.symbols;
  comment = v.comment;
}

-- the value with its variables numbered in this order: inputs, latches, gates
abbrev pub renumbered : Aig → List AndGate → Aig
renumbered v gates = numbered_by (number_in (variables_of v gates)) (length (variables_of v gates))
    v gates

-- the gates by level, and within a level in their order
abbrev pub in_order : List AndGate → List AndGate
in_order gates = map (gate_at gates) (places_by_level gates)

-- the same value, numbered anew: inputs in order, latches in order, and gates by level and within a
-- level in their order
abbrev pub numbered_anew : Aig → Aig
numbered_anew v = renumbered v (in_order v.gates)
