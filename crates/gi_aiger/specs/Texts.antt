-- The texts of values in the ASCII form.
use Rattle.std.specs.Prelude.{ℕ, ◌==◌, List, [], ◌∷◌, ◌++◌, length, decimal, Option, Some, None, if◌then◌else◌}
use Rattle.std.specs.List.{flat_map}
use Rattle.gi_aiger.specs.declared.aig.Aig.{Aig}
use Rattle.gi_aiger.specs.declared.aig.AndGate.{AndGate}
use Rattle.gi_aiger.specs.declared.aig.Latch.{Latch}
use Rattle.gi_aiger.specs.declared.aig.Reset.{Reset}
use Rattle.gi_aiger.specs.declared.aig.Reset.TheVariants.{Zero, One, Free}
use Rattle.gi_aiger.specs.declared.aig.Symbol.{Symbol}

-- one number more in a line
abbrev pub count_text : ℕ → List ℕ
count_text n = (32 ∷ []) ++ decimal n

-- the header's further counts, up to the last that isn't 0
abbrev pub further_text : ℕ → ℕ → ℕ → ℕ → List ℕ
further_text b c j f = if f == 0 then (if j == 0 then (if c == 0 then (if b == 0 then [] else count_text b) else count_text b ++ count_text c) else (count_text b ++ count_text c) ++ count_text j)
    else ((count_text b ++ count_text c) ++ count_text j) ++ count_text f

-- the header's first five counts
abbrev pub counts_text : Aig → List ℕ
counts_text v = (((count_text v.max ++ count_text (length v.inputs)) ++ count_text (length v.latches)) ++ count_text (length v.outs)) ++ count_text (length v.gates)

-- the header with this word
abbrev pub head_by : List ℕ → Aig → List ℕ
head_by word v = ((word ++ counts_text v) ++ further_text (length v.bads) (length v.cons) (length v.justice) (length v.fair)) ++ 10 ∷ []

-- the header of the ASCII form
abbrev pub head_text : Aig → List ℕ
head_text v = head_by (97 ∷ 97 ∷ 103 ∷ []) v

-- a number in a line of its own
abbrev pub number_line : ℕ → List ℕ
number_line n = decimal n ++ 10 ∷ []

abbrev pub number_lines : List ℕ → List ℕ
number_lines ns = flat_map number_line ns

-- a reset that isn't 0; an uninitialised latch names itself
abbrev pub reset_text : ℕ → Reset → List ℕ
reset_text lit Zero = []
reset_text lit One = count_text 1
reset_text lit Free = count_text lit

abbrev pub latch_line : Latch → List ℕ
latch_line l = ((decimal l.lit ++ count_text l.next) ++ reset_text l.lit l.reset) ++ 10 ∷ []

abbrev pub gate_line : AndGate → List ℕ
gate_line g = ((decimal g.lhs ++ count_text g.rhs0) ++ count_text g.rhs1) ++ 10 ∷ []

abbrev pub symbol_line : Symbol → List ℕ
symbol_line s = ((((s.kind ∷ []) ++ decimal s.place) ++ 32 ∷ []) ++ s.name) ++ 10 ∷ []

abbrev pub comment_text : Option (List ℕ) → List ℕ
comment_text None = []
comment_text (Some text) = (99 ∷ 10 ∷ []) ++ text

-- behind a text: the outputs, bad states and constraints, the justice properties' sizes and literals, and the fairness constraints
abbrev pub with_properties : List ℕ → Aig → List ℕ
with_properties front v =
    (((((front ++ number_lines v.outs) ++ number_lines v.bads) ++ number_lines v.cons) ++ flat_map (λ p. number_line (length p)) v.justice)
    ++ flat_map number_lines v.justice)
    ++ number_lines v.fair

-- and the symbols and the comment
abbrev pub with_names : List ℕ → Aig → List ℕ
with_names front v = (front ++ flat_map symbol_line v.symbols) ++ comment_text v.comment

-- the header and all sections of lines
abbrev pub body_text : Aig → List ℕ
body_text v = with_properties ((head_text v ++ number_lines v.inputs) ++ flat_map latch_line v.latches) v ++ flat_map gate_line v.gates

-- the text of a value: its header, its sections in order, its symbols and its comment
unfoldable pub ascii_text : Aig → List ℕ
ascii_text v = with_names (body_text v) v
