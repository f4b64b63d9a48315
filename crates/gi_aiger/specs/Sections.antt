-- The sections of lines, one after another.
use Rattle.std.specs.Prelude.{ℕ, ◌-◌, ◌==◌, List, [], ◌∷◌, length, Option, Some, None, if◌then◌else◌}
use Rattle.gi_aiger.specs.declared.head.Form.{Form}
use Rattle.gi_aiger.specs.declared.head.Form.TheVariants.{Ascii, Binary}
use Rattle.gi_aiger.specs.declared.head.Head.{Head}
use Rattle.gi_aiger.specs.declared.row.Section.{Section}
use Rattle.gi_aiger.specs.declared.row.Section.TheVariants.{Input, Latch, Out, Bad, Con, Size, Justice, Fair, Gate}
use Rattle.gi_aiger.specs.declared.taken.Taken.{Taken}

-- how many lines of a section are still to come
abbrev pub left_in : Head → Taken → Section → ℕ
left_in h t Input = h.inputs - length t.inputs
left_in h t Latch = h.latches - length t.latches
left_in h t Out = h.outs - length t.outs
left_in h t Bad = h.bads - length t.bads
left_in h t Con = h.cons - length t.cons
left_in h t Size = h.justice - length t.sizes
left_in h t Justice = t.total - length t.justice
left_in h t Fair = h.fair - length t.fair
left_in h t Gate = h.gates - length t.gates

-- gates are lines in the ASCII form alone
abbrev pub gate_lines : Form → List Section
gate_lines Ascii = Gate ∷ []
gate_lines Binary = []

-- the sections behind one
abbrev pub behind : Form → Section → List Section
behind form Input = Latch ∷ Out ∷ Bad ∷ Con ∷ Size ∷ Justice ∷ Fair ∷ gate_lines form
behind form Latch = Out ∷ Bad ∷ Con ∷ Size ∷ Justice ∷ Fair ∷ gate_lines form
behind form Out = Bad ∷ Con ∷ Size ∷ Justice ∷ Fair ∷ gate_lines form
behind form Bad = Con ∷ Size ∷ Justice ∷ Fair ∷ gate_lines form
behind form Con = Size ∷ Justice ∷ Fair ∷ gate_lines form
behind form Size = Justice ∷ Fair ∷ gate_lines form
behind form Justice = Fair ∷ gate_lines form
behind form Fair = gate_lines form
behind form Gate = []

-- the sections of lines in their order
abbrev pub sections_of : Form → List Section
sections_of form = Input ∷ behind form Input

-- the section behind one
abbrev pub next_of : Form → Section → Option Section
next_of form Input = Some Latch
next_of form Latch = Some Out
next_of form Out = Some Bad
next_of form Bad = Some Con
next_of form Con = Some Size
next_of form Size = Some Justice
next_of form Justice = Some Fair
next_of Ascii Fair = Some Gate
next_of Binary Fair = None
next_of form Gate = None

-- a section, if there is one, and those behind it
abbrev pub from_next : Form → Option Section → List Section
from_next form None = []
from_next form (Some s) = s ∷ behind form s

-- the first of these sections that has lines to come
unfoldable pub first_left : Head → Taken → List Section → Option Section
first_left h t [] = None
first_left h t (s ∷ ss) = if left_in h t s == 0 then first_left h t ss else Some s
