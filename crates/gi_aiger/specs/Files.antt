-- What a file says, line by line, and its first fault; the cycles of gates are left aside.
use Rattle.std.specs.Prelude.{ℕ, zero, suc, ◌+◌, ◌*◌, Bool, false, ◌==◌, ◌&&◌, not, List, [], ◌∷◌, ◌++◌, length, take, drop, Option, Some, None, Result, Ok, Err, if◌then◌else◌}
use Rattle.std.specs.Char.{is_ascii_digit}
use Rattle.gi_aiger.specs.declared.aig.Aig.{Aig}
use Rattle.gi_aiger.specs.declared.aig.AndGate.{AndGate}
use Rattle.gi_aiger.specs.declared.aig.Symbol.{Symbol}
use Rattle.gi_aiger.specs.declared.fault.AigCode.{AigCode}
use Rattle.gi_aiger.specs.declared.fault.AigCode.TheVariants.{End}
use Rattle.gi_aiger.specs.declared.fault.AigFault.{AigFault}
use Rattle.gi_aiger.specs.declared.head.Form.{Form}
use Rattle.gi_aiger.specs.declared.head.Form.TheVariants.{Ascii, Binary}
use Rattle.gi_aiger.specs.declared.head.Head.{Head}
use Rattle.gi_aiger.specs.declared.row.Row.TheVariants as rows
use Rattle.gi_aiger.specs.declared.row.Section.{Section}
use Rattle.gi_aiger.specs.declared.row.Section.TheVariants.{Gate}
use Rattle.gi_aiger.specs.declared.taken.Taken.{Taken}
use Rattle.gi_aiger.specs.Evens.{evens}
use Rattle.gi_aiger.specs.Header.{header_of}
use Rattle.gi_aiger.specs.Lines.{lines_of, bare, joined}
use Rattle.gi_aiger.specs.Taking.{nothing, add_line, with_row}
use Rattle.gi_aiger.specs.Sections.{left_in, sections_of}
use Rattle.gi_aiger.specs.Groups.{groups_at, difference_of, greater_at, lesser_at}
use Rattle.gi_aiger.specs.Named.{add_symbol}

-- what a file says: the gates that stand before its end or its first fault, the line of the first gate where gates are lines, and the value or the fault
pub record Told : Type 0 where
  pub gates : List AndGate
  pub first : ℕ
  pub read : Result Aig AigFault

-- the line of the first gate
abbrev pub gates_line : Taken → ℕ
gates_line t = 2 + length t.inputs + length t.latches + length t.outs + length t.bads + length t.cons + length t.sizes + length t.justice + length t.fair

-- a fault behind what stands
abbrev pub stopped : Taken → ℕ → ℕ → AigCode → Told
stopped t line gate code = record { gates = t.gates; first = gates_line t; read = Err (record { line = line; gate = gate; code = code }) }

-- the justice properties, by their sizes
unfoldable pub shares : List ℕ → List ℕ → List (List ℕ)
shares [] literals = []
shares (n ∷ ns) literals = take n literals ∷ shares ns (drop n literals)

abbrev pub aig_of : Head → Taken → List Symbol → Option (List ℕ) → Aig
aig_of h t symbols comment = record {
  max = h.max;
  inputs = t.inputs;
  latches = t.latches;
  outs = t.outs;
  bads = t.bads;
  cons = t.cons;
  justice = shares t.sizes t.justice;
  fair = t.fair;
  gates = t.gates;
  symbols = symbols;
  comment = comment;
}

abbrev pub whole : Head → Taken → List Symbol → Option (List ℕ) → Told
whole h t symbols comment = record { gates = t.gates; first = gates_line t; read = Ok (aig_of h t symbols comment) }

-- a line, here with its LF, that begins the comment: `c`, and no digit at once behind it
abbrev pub begins_comment : List ℕ → Bool
begins_comment [] = false
begins_comment (b ∷ []) = b == 99
begins_comment (b ∷ c ∷ bs) = (b == 99) && not (is_ascii_digit c)

-- the comment that begins with this `c`: what stands behind the line `c`, or else behind the `c`
abbrev pub comment_of : List ℕ → List ℕ
comment_of [] = []
comment_of (b ∷ []) = []
comment_of (b ∷ c ∷ bs) = if c == 10 then bs else c ∷ bs

abbrev pub then_symbols : Result (List Symbol) AigCode → Taken → ℕ → (List Symbol → Told) → Told
then_symbols (Ok more) t line next = next more
then_symbols (Err c) t line next = stopped t line 0 c

-- the lines behind the gates: symbols, and the comment where one begins
unfoldable pub read_symbols : Head → ℕ → Taken → List Symbol → List (List ℕ) → Told
read_symbols h line t symbols [] = whole h t symbols None
read_symbols h line t symbols (l ∷ ls) = if begins_comment l then whole h t symbols (Some (comment_of (joined (l ∷ ls))))
    else then_symbols (add_symbol h symbols (bare l)) t line (λ more. read_symbols h (line + 1) t more ls)

-- a binary gate defines the next variable
abbrev pub own_gate : Head → Taken → ℕ
own_gate h t = 2 * (h.inputs + h.latches + length t.gates + 1)

abbrev pub with_gate : Taken → ℕ → ℕ → ℕ → Taken
with_gate t own greater lesser = with_row t (rows.Gate (record { lhs = own; rhs0 = greater; rhs1 = lesser }))

-- the next binary gate is at fault, by its number
abbrev pub gate_stopped : Taken → ℕ → AigCode → Told
gate_stopped t line code = stopped t line (length t.gates + 1) code

abbrev pub then_groups : Option (List ℕ × List ℕ) → Told → (List ℕ → List ℕ → Told) → Told
then_groups None cut next = cut
then_groups (Some p) cut next = next p.0 p.1

abbrev pub then_edge : Result ℕ AigCode → (AigCode → Told) → (ℕ → Told) → Told
then_edge (Ok edge) bad next = next edge
then_edge (Err c) bad next = bad c

-- so many binary gates, and the lines behind them; the bytes of gates are no lines
unfoldable pub read_gates : Head → ℕ → ℕ → Taken → List ℕ → Told
read_gates h line zero t bytes = read_symbols h line t [] (lines_of bytes)
read_gates h line (suc n) t bytes =
    then_groups (groups_at bytes) (gate_stopped t line End) (λ first rest. then_edge (greater_at (own_gate h t) (difference_of first)) (gate_stopped t line) (λ greater.
    then_groups (groups_at rest) (gate_stopped t line End) (λ second more. then_edge (lesser_at greater (difference_of second)) (gate_stopped t line) (λ lesser.
    read_gates h line n (with_gate t (own_gate h t) greater lesser) more))))

-- behind the sections of lines
abbrev pub after_sections : Form → Head → ℕ → Taken → List (List ℕ) → Told
after_sections Ascii h line t ls = read_symbols h line t [] ls
after_sections Binary h line t ls = read_gates h line (left_in h t Gate) t (joined ls)

abbrev pub then_line : Result Taken AigCode → Taken → ℕ → (Taken → Told) → Told
then_line (Ok u) t line next = next u
then_line (Err c) t line next = stopped t line 0 c

-- so many lines of a section, and what follows
unfoldable pub read_section : Head → Section → ℕ → ℕ → Taken → List (List ℕ) → (ℕ → Taken → List (List ℕ) → Told) → Told
read_section h s zero line t ls next = next line t ls
read_section h s (suc n) line t [] next = stopped t line 0 End
read_section h s (suc n) line t (l ∷ ls) next = then_line (add_line h t s (bare l)) t line (λ u. read_section h s n (line + 1) u ls next)

-- sections of lines, and what follows
unfoldable pub read_sections : Head → List Section → ℕ → Taken → List (List ℕ) → Told
read_sections h [] line t ls = after_sections h.form h line t ls
read_sections h (s ∷ ss) line t ls = read_section h s (left_in h t s) line t ls (λ k u more. read_sections h ss k u more)

-- the inputs of the binary form have no lines
abbrev pub inputs_in : Form → ℕ → List ℕ
inputs_in Ascii n = []
inputs_in Binary n = evens n

-- nothing but what the header tells
abbrev pub begin : Head → Taken
begin h = record nothing { inputs = inputs_in h.form h.inputs }

abbrev pub after_header : Result Head AigCode → List (List ℕ) → Told
after_header (Ok h) ls = read_sections h (sections_of h.form) 2 (begin h) ls
after_header (Err c) ls = stopped nothing 1 0 c

abbrev pub read_lines : List (List ℕ) → Told
read_lines [] = stopped nothing 1 0 End
read_lines (l ∷ ls) = after_header (header_of (bare l)) ls

-- what a file says
unfoldable pub read_file : List ℕ → Told
read_file bytes = read_lines (lines_of bytes)
