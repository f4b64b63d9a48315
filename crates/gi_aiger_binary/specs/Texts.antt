-- The texts of values in the binary form.
use Rattle.std.specs.Prelude.{ℕ, ◌-◌, List, [], ◌∷◌, ◌++◌, decimal}
use Rattle.std.specs.List.{flat_map}
use Rattle.gi_aiger.specs.declared.aig.Aig.{Aig}
use Rattle.gi_aiger.specs.declared.aig.AndGate.{AndGate}
use Rattle.gi_aiger.specs.declared.aig.Latch.{Latch}
use Rattle.gi_aiger.specs.Texts.{head_by, reset_text, with_names, with_properties}
use Rattle.gi_aiger_binary.specs.Differences.{groups_of}

-- the header: `aig`, and the counts up to the last further one that isn't 0
abbrev pub head_text : Aig → List ℕ
head_text v = head_by (97 ∷ 105 ∷ 103 ∷ []) v

-- a latch without its own literal, and with its reset where that isn't 0
abbrev pub latch_line : Latch → List ℕ
latch_line l = (decimal l.next ++ reset_text l.lit l.reset) ++ 10 ∷ []

-- a gate's two differences
abbrev pub gate_text : AndGate → List ℕ
gate_text g = groups_of (g.lhs - g.rhs0) ++ groups_of (g.rhs0 - g.rhs1)

-- all lines before the gates
abbrev pub lines_text : Aig → List ℕ
lines_text v = with_properties (head_text v ++ flat_map latch_line v.latches) v

-- the text of a value: its lines, its gates, its symbols and its comment
unfoldable pub binary_text : Aig → List ℕ
binary_text v = with_names (lines_text v ++ flat_map gate_text v.gates) v
