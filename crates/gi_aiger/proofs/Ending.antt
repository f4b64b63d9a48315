-- What a file says ends with a value or with a fault, and the gates of the value are those that stand.
use Rattle.std.specs.Prelude.{MatchOption}
use Rattle.std.proofs.Common.{◌≡◌, ℕ, zero, suc, ◌+◌, refl, List, [], ◌∷◌, Bool, true, false, cond, inl, inr, Option, Some, None, Result, Ok, Err, drop, ap, sym, ◌∙◌, subst}
use Rattle.std.proofs.lemmas.List.{take-append-drop}
use Rattle.gi_aiger.specs.declared.aig.Aig.{Aig}
use Rattle.gi_aiger.specs.declared.aig.AndGate.{AndGate}
use Rattle.gi_aiger.specs.declared.aig.Symbol.{Symbol}
use Rattle.gi_aiger.specs.declared.fault.AigCode.{AigCode}
use Rattle.gi_aiger.specs.declared.fault.AigCode.TheVariants.{Cycle, End}
use Rattle.gi_aiger.specs.declared.fault.AigFault.{AigFault}
use Rattle.gi_aiger.specs.declared.head.Form.{Form}
use Rattle.gi_aiger.specs.declared.head.Form.TheVariants.{Ascii, Binary}
use Rattle.gi_aiger.specs.declared.head.Head.{Head}
use Rattle.gi_aiger.specs.declared.read.AigRead.{AigRead}
use Rattle.gi_aiger.specs.declared.read.AigRead.TheVariants as reads
use Rattle.gi_aiger.specs.declared.row.Section.{Section}
use Rattle.gi_aiger.specs.declared.row.Section.TheVariants as sections
use Rattle.gi_aiger.specs.declared.taken.Taken.{Taken}
use Rattle.gi_levels.specs.Order.{first_cycle}
use Rattle.gi_aiger.specs.Answers.{Answer, TellsAig, Reads, answer_by, answer_to}
use Rattle.gi_aiger.specs.Header.{header_of}
use Rattle.gi_aiger.specs.Levels.{HasLevels, ClosesCycle, IsDistinct}
use Rattle.gi_aiger.specs.Places.{nodes_of}
use Rattle.gi_aiger.specs.Lines.{lines_of, bare, joined}
use Rattle.gi_aiger.specs.Taking.{nothing, add_line}
use Rattle.gi_aiger.specs.Sections.{left_in, sections_of}
use Rattle.gi_aiger.specs.Groups.{groups_at, difference_of, greater_at, lesser_at}
use Rattle.gi_aiger.specs.Named.{add_symbol}
use Rattle.gi_aiger.specs.Files.{Told, stopped, gate_stopped, whole, begins_comment, comment_of, then_symbols, read_symbols, own_gate, with_gate, then_groups, then_edge, read_gates, after_sections, then_line, read_section, read_sections, begin, after_header, read_lines, read_file}
use Rattle.gi_aiger.specs.Relation.{IsAig}
use Rattle.gi_aiger.specs.Saying.{IsSaid}
use Rattle.gi_aiger.proofs.OneCycle as cycles
use Rattle.gi_aiger.proofs.Resolving.{found_own}
use Rattle.gi_aiger.proofs.Accepting.{said_read}
use Rattle.gi_aiger.proofs.Returning.{read_said}

-- the gates of a value are those that stand
abbrev pub Stand : Told → Type 0
Stand told = (v : Aig) → told.read ≡ Ok v → told.gates ≡ v.gates

pub whole_stands : (h : Head) (t : Taken) (y : List Symbol) (c : Option (List ℕ)) → Stand (whole h t y c)
whole_stands h t y c v e = cc

pub stopped_stands : (t : Taken) (k g : ℕ) (c : AigCode) → Stand (stopped t k g c)
stopped_stands t k g c v e = absurd cc

pub symbols_stand : (h : Head) (k : ℕ) (t : Taken) (y : List Symbol) (ls : List (List ℕ)) → Stand (read_symbols h k t y ls)
unfolding read_symbols
symbols_stand h k t y [] = whole_stands h t y None
symbols_stand h k t y (l ∷ ls) = by_test (begins_comment l) (λ more. symbols_stand h (k + 1) t more ls) where
  by_result : (r : Result (List Symbol) AigCode) → ((more : List Symbol) → Stand (read_symbols h (k + 1) t more ls)) → Stand (then_symbols r t k (λ more. read_symbols h (k + 1) t more ls))
  by_result (Ok more) ih = ih more
  by_result (Err c) ih = stopped_stands t k 0 c

  by_test : (b : Bool) → ((more : List Symbol) → Stand (read_symbols h (k + 1) t more ls)) → Stand (cond b (whole h t y (Some (comment_of (joined (l ∷ ls))))) (then_symbols (add_symbol h y (bare l)) t k (λ more. read_symbols h (k + 1) t more ls)))
  by_test true ih = whole_stands h t y (Some (comment_of (joined (l ∷ ls))))
  by_test false ih = by_result (add_symbol h y (bare l)) ih

pub gates_stand : (h : Head) (k n : ℕ) (t : Taken) (bytes : List ℕ) → Stand (read_gates h k n t bytes)
unfolding read_gates
gates_stand h k zero t bytes = symbols_stand h k t [] (lines_of bytes)
gates_stand h k (suc n) t bytes = by_first (groups_at bytes) (λ u more. gates_stand h k n u more) where
  by_lesser : (r : Result ℕ AigCode) (e : ℕ) (more : List ℕ) → ((u : Taken) (more : List ℕ) → Stand (read_gates h k n u more)) → Stand (then_edge r (gate_stopped t k) (λ l. read_gates h k n (with_gate t (own_gate h t) e l) more))
  by_lesser (Ok l) e more ih = ih (with_gate t (own_gate h t) e l) more
  by_lesser (Err c) e more ih = λ v q. absurd cc

  by_second : (o : Option (List ℕ × List ℕ)) (e : ℕ) → ((u : Taken) (more : List ℕ) → Stand (read_gates h k n u more)) → Stand (then_groups o (gate_stopped t k End) (λ second more. then_edge (lesser_at e (difference_of second)) (gate_stopped t k) (λ l. read_gates h k n (with_gate t (own_gate h t) e l) more)))
  by_second None e ih = λ v q. absurd cc
  by_second (Some p) e ih = by_lesser (lesser_at e (difference_of p.0)) e p.1 ih

  by_greater : (r : Result ℕ AigCode) (rest : List ℕ) → ((u : Taken) (more : List ℕ) → Stand (read_gates h k n u more)) → Stand (then_edge r (gate_stopped t k) (λ e. then_groups (groups_at rest) (gate_stopped t k End) (λ second more. then_edge (lesser_at e (difference_of second)) (gate_stopped t k) (λ l. read_gates h k n (with_gate t (own_gate h t) e l) more))))
  by_greater (Ok e) rest ih = by_second (groups_at rest) e ih
  by_greater (Err c) rest ih = λ v q. absurd cc

  by_first : (o : Option (List ℕ × List ℕ)) → ((u : Taken) (more : List ℕ) → Stand (read_gates h k n u more))
      → Stand (then_groups o (gate_stopped t k End) (λ first rest. then_edge (greater_at (own_gate h t) (difference_of first)) (gate_stopped t k) (λ e. then_groups (groups_at rest) (gate_stopped t k End) (λ second more. then_edge (lesser_at e (difference_of second)) (gate_stopped t k) (λ l. read_gates h k n (with_gate t (own_gate h t) e l) more)))))
  by_first None ih = λ v q. absurd cc
  by_first (Some p) ih = by_greater (greater_at (own_gate h t) (difference_of p.0)) p.1 ih

pub section_stands : (h : Head) (s : Section) (next : ℕ → Taken → List (List ℕ) → Told) → ((k : ℕ) (u : Taken) (ls : List (List ℕ)) → Stand (next k u ls)) → (n k : ℕ) (t : Taken) (ls : List (List ℕ)) → Stand (read_section h s n k t ls next)
unfolding read_section
section_stands h s next nx zero k t ls = nx k t ls
section_stands h s next nx (suc n) k t [] = stopped_stands t k 0 End
section_stands h s next nx (suc n) k t (l ∷ ls) = by_result (add_line h t s (bare l)) (λ u. section_stands h s next nx n (k + 1) u ls) where
  by_result : (r : Result Taken AigCode) → ((u : Taken) → Stand (read_section h s n (k + 1) u ls next)) → Stand (then_line r t k (λ u. read_section h s n (k + 1) u ls next))
  by_result (Ok u) ih = ih u
  by_result (Err c) ih = stopped_stands t k 0 c

after_stands : (f : Form) (h : Head) (k : ℕ) (t : Taken) (ls : List (List ℕ)) → Stand (after_sections f h k t ls)
after_stands Ascii h k t ls = symbols_stand h k t [] ls
after_stands Binary h k t ls = gates_stand h k (left_in h t sections.Gate) t (joined ls)

sections_stand : (h : Head) (ss : List Section) (k : ℕ) (t : Taken) (ls : List (List ℕ)) → Stand (read_sections h ss k t ls)
unfolding read_sections
sections_stand h [] k t ls = after_stands h.form h k t ls
sections_stand h (s ∷ ss) k t ls = section_stands h s (λ k u more. read_sections h ss k u more) (λ k u more. sections_stand h ss k u more) (left_in h t s) k t ls

header_stands : (r : Result Head AigCode) (ls : List (List ℕ)) → Stand (after_header r ls)
header_stands (Ok h) ls = sections_stand h (sections_of h.form) 2 (begin h) ls
header_stands (Err c) ls = stopped_stands nothing 1 0 c

lines_stand : (ls : List (List ℕ)) → Stand (read_lines ls)
lines_stand [] = stopped_stands nothing 1 0 End
lines_stand (l ∷ ls) = header_stands (header_of (bare l)) ls

pub file_stands : (bytes : List ℕ) → Stand (read_file bytes)
unfolding read_file
file_stands bytes = lines_stand (lines_of bytes)

-- what is answered
pub levels_of : (v : Aig) (bytes : List ℕ) → IsAig v bytes → HasLevels v.gates
levels_of v bytes (inl a) = a.sound.levels
levels_of v bytes (inr a) = a.sound.levels

-- a value is answered where it is read of gates without cycles, and so said
pub value_said : (v : Aig) (bytes : List ℕ) → Answer (read_file bytes) (Ok v) → IsAig v bytes
value_said v bytes answer = by_answer answer where
  never : (f : AigFault) → ◌≡◌ {A = Result Aig AigFault} (Ok v) (Err f) → ⊥
  never f e = cc

  by_answer : Answer (read_file bytes) (Ok v) → IsAig v bytes
  by_answer (inl t) = read_said v bytes (sym t.1) (subst HasLevels (file_stands bytes v (sym t.1)) t.0)
  by_answer (inr t) = absurd (never (record { line = (read_file bytes).first + t.0; gate = 0; code = Cycle }) t.2)

pub said_answered : (v : Aig) (bytes : List ℕ) → IsAig v bytes → Answer (read_file bytes) (Ok v)
said_answered v bytes is = let read = said_read v bytes is in inl (subst HasLevels (sym (file_stands bytes v read)) (levels_of v bytes is), sym read)

-- no gate closes a cycle where there is none
pub levels_never : (gates : List AndGate) (k : ℕ) → HasLevels gates → ClosesCycle gates k → ⊥
levels_never gates k levels closes = cycles.stay gates (drop (k + 1) gates) k closes (subst HasLevels (sym (take-append-drop (k + 1) gates)) levels)

cycle_at : Told → ℕ → Result Aig AigFault
cycle_at told k = Err (record { line = told.first + k; gate = 0; code = Cycle })

pub answer_only : (told : Told) (r s : Result Aig AigFault) → Answer told r → Answer told s → r ≡ s
unfolding cycle_at
answer_only told r s (inl t) (inl u) = t.1 ∙ sym u.1
answer_only told r s (inl t) (inr u) = absurd (levels_never told.gates u.0 t.0 u.1)
answer_only told r s (inr t) (inl u) = absurd (levels_never told.gates t.0 u.0 t.1)
answer_only told r s (inr t) (inr u) = t.2 ∙ ap (cycle_at told) (cycles.one told.gates t.0 u.0 t.1 u.1) ∙ sym u.2

pub answer_said : (r : AigRead) (bytes : List ℕ) → TellsAig r (read_file bytes) → IsSaid r bytes
answer_said (reads.Aig v) bytes tells = value_said v bytes tells
answer_said (reads.Fault f) bytes tells = λ v is. never v (answer_only (read_file bytes) (Ok v) (Err f) (said_answered v bytes is) tells) where
  never : (v : Aig) → ◌≡◌ {A = Result Aig AigFault} (Ok v) (Err f) → ⊥
  never v e = cc
answer_said reads.NoMemory bytes tells = tt

-- the function's answer is one
answer_found : (told : Told) (found : Option ℕ) → MatchOption found (HasLevels told.gates) (ClosesCycle told.gates) → Answer told (answer_by found told)
answer_found told None levels = inl (levels, refl)
answer_found told (Some k) closes = inr (k, closes, refl)

pub answer_is : (told : Told) → IsDistinct told.gates → Answer told (answer_to told)
answer_is told d = answer_found told (first_cycle (nodes_of told.gates)) (found_own told.gates d)

pub reads_it : (r : AigRead) (told : Told) → IsDistinct told.gates → TellsAig r told → Reads r (answer_to told)
reads_it (reads.Aig v) told d tells = answer_only told (answer_to told) (Ok v) (answer_is told d) tells
reads_it (reads.Fault f) told d tells = answer_only told (answer_to told) (Err f) (answer_is told d) tells
reads_it reads.NoMemory told d tells = tt
