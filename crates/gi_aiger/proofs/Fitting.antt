-- The header's numbers and the sum of the justice sizes stay within their limits.
use Rattle.std.proofs.Common.{◌≡◌, ℕ, zero, suc, ◌+◌, ◌-◌, ◌*◌, ◌<◌, ◌≤◌, nat_lt, List, [], ◌∷◌, ◌++◌, length, Bool, true, false, cond, Option, Some, None, Result, Ok, Err, inl, inr, refl, ap, sym, ◌∙◌, subst, arith, length-append}
use Rattle.std.proofs.lemmas.Bool.{cases_eq, cases_lt, eq-eqb, ne_eqb, le-ltb}
use Rattle.std.specs.Prelude.{◌==◌}
use Rattle.std.specs.Prelude.{OnOk}
use Rattle.gi_aiger.specs.declared.aig.Symbol.{Symbol}
use Rattle.gi_aiger.specs.declared.fault.AigCode.{AigCode}
use Rattle.gi_aiger.specs.declared.fault.AigCode.TheVariants.{Header, Limit}
use Rattle.gi_aiger.specs.declared.fault.AigCode.TheVariants as codes
use Rattle.gi_aiger.specs.declared.head.Form.{Form}
use Rattle.gi_aiger.specs.declared.head.Form.TheVariants.{Ascii, Binary}
use Rattle.gi_aiger.specs.declared.aig.AndGate.{AndGate}
use Rattle.gi_aiger.specs.declared.mark.Mark.{Mark}
use Rattle.gi_aiger.specs.declared.row.Section.TheVariants as sections
use Rattle.gi_aiger.specs.Sections.{left_in, first_left, behind, sections_of}
use Rattle.gi_aiger.specs.declared.head.Head.{Head}
use Rattle.gi_aiger.specs.declared.row.Section.{Section}
use Rattle.gi_aiger.specs.declared.row.Row.{Row}
use Rattle.gi_aiger.specs.declared.row.Row.TheVariants as rows
use Rattle.gi_aiger.specs.declared.taken.Taken.{Taken}
use Rattle.gi_aiger.specs.declared.phase.Phase.{Phase}
use Rattle.gi_aiger.specs.declared.phase.Phase.TheVariants.{Heading, Rows, Gates, Naming, Comment, Failed}
use Rattle.gi_aiger.specs.declared.machine.Machine.{Machine}
use Rattle.gi_aiger.specs.Fields.{fields_of, numbers_at}
use Rattle.gi_aiger.specs.Header.{form_of, head_of, is_wrong, is_within, judge_head, has_head, head_parts, head_fields, header_of}
use Rattle.gi_aiger.specs.Taking.{IsBounded, with_row, Fits, room, add_line, numbers_in}
use Rattle.gi_aiger.specs.Files.{gates_line, own_gate, with_gate, begin, inputs_in}
use Rattle.gi_aiger.specs.Groups.{difference_of, greater_at, lesser_at}
use Rattle.gi_aiger.specs.Symbols.{symbol_of}
use Rattle.gi_aiger.specs.Named.{is_named, named_by, add_symbol}
use Rattle.gi_aiger.specs.Machine.{InPhase, IsFit, gates_or_names, phase_after, phase_of, phase_from, head_ends, row_ends, symbol_ends, comment_begins, is_c, is_lenient, line_by_phase, line_ends, byte_by_phase, byte_in_line, greater_ends, lesser_ends, difference_ends, take_byte}
use Rattle.gi_aiger.proofs.Numbering.{evens_length}
use Rattle.gi_aiger.proofs.Limiting.{AreWithin, are_within}
use Rattle.gi_aiger.specs.Rows.{section_of}
use Rattle.gi_aiger.proofs.Takes.{row_fits}
use Rattle.gi_aiger.proofs.Adding.{adds, added_is, line_counts}
use Rattle.gi_aiger.specs.Limits.{most_items}

-- a header that is read
abbrev IsGood : Result Head AigCode → Type 0
IsGood (Ok h) = (is_within h ≡ true) × (is_wrong h ≡ false)
IsGood (Err c) = Unit {0}

judge_good : (h : Head) → IsGood (judge_head h)
judge_good h = by_wrong (is_wrong h) refl where
  by_within : (b : Bool) → is_wrong h ≡ false → is_within h ≡ b → IsGood (cond b (Ok h) (Err Limit))
  by_within true w e = (e, w)
  by_within false w e = tt

  by_wrong : (b : Bool) → is_wrong h ≡ b → IsGood (cond b (Err Header) (cond (is_within h) (Ok h) (Err Limit)))
  by_wrong true w = tt
  by_wrong false w = by_within (is_within h) w refl

parts_good : (f : Option Form) (read : Option (List ℕ)) → IsGood (head_parts f read)
parts_good (Some form) (Some ns) = by_test (has_head ns) where
  by_test : (b : Bool) → IsGood (cond b (judge_head (head_of form ns)) (Err Header))
  by_test true = judge_good (head_of form ns)
  by_test false = tt
parts_good (Some form) None = tt
parts_good None read = tt

header_good : (line : List ℕ) → IsGood (header_of line)
unfolding header_of
header_good line = by_fields (fields_of line) where
  by_fields : (fs : List (List ℕ)) → IsGood (head_fields fs)
  by_fields [] = tt
  by_fields (w ∷ fs) = parts_good (form_of w) (numbers_at fs)

pub header_read : (line : List ℕ) (h : Head) → header_of line ≡ Ok h → (is_within h ≡ true) × (is_wrong h ≡ false)
header_read line h e = subst IsGood e (header_good line)

pub header_within : (line : List ℕ) (h : Head) → header_of line ≡ Ok h → is_within h ≡ true
header_within line h e = (header_read line h e).0

-- a row that fits
sum_fits : (t : Taken) (row : Row) → t.total ≤ most_items → Fits (room t) row → (with_row t row).total ≤ most_items
sum_fits t (rows.Input l) le fits = le
sum_fits t (rows.Latch l) le fits = le
sum_fits t (rows.Out l) le fits = le
sum_fits t (rows.Bad l) le fits = le
sum_fits t (rows.Con l) le fits = le
sum_fits t (rows.Size n) le fits = omega (arith, le, fits)
sum_fits t (rows.Justice l) le fits = le
sum_fits t (rows.Fair l) le fits = le
sum_fits t (rows.Gate g) le fits = le

pub line_fits : (h : Head) (t u : Taken) (s : Section) (line : List ℕ) → t.total ≤ most_items → add_line h t s line ≡ Ok u → u.total ≤ most_items
line_fits h t u s line le e =
    let a = adds h t u s line e in
    let r = added_is h t u a.row a.added in
    subst (λ (v : Taken). v.total ≤ most_items) (sym r.is) (sum_fits (record t { marks = r.marks }) a.row le (row_fits h.max (room t) s (numbers_in h t s line) a.row (sym a.read)))

-- a line more of a section that has one to come
grows : {A : Type 0} (xs : List A) (x : A) (n : ℕ) → n ≤ most_items → 0 < n - length xs → length (xs ++ x ∷ []) ≤ most_items
grows xs x n le lt = omega (arith, le, lt, length-append xs (x ∷ []))

bounded_row : (h : Head) (t : Taken) (row : Row) → AreWithin h → t.total ≤ most_items → IsBounded t → 0 < left_in h t (section_of row) → IsBounded (with_row t row)
bounded_row h t (rows.Input l) w total b lt = record { inputs = grows t.inputs l h.inputs w.inputs lt; latches = b.latches; outs = b.outs; bads = b.bads; cons = b.cons; sizes = b.sizes; justice = b.justice; fair = b.fair; gates = b.gates }
bounded_row h t (rows.Latch l) w total b lt = record { inputs = b.inputs; latches = grows t.latches l h.latches w.latches lt; outs = b.outs; bads = b.bads; cons = b.cons; sizes = b.sizes; justice = b.justice; fair = b.fair; gates = b.gates }
bounded_row h t (rows.Out l) w total b lt = record { inputs = b.inputs; latches = b.latches; outs = grows t.outs l h.outs w.outs lt; bads = b.bads; cons = b.cons; sizes = b.sizes; justice = b.justice; fair = b.fair; gates = b.gates }
bounded_row h t (rows.Bad l) w total b lt = record { inputs = b.inputs; latches = b.latches; outs = b.outs; bads = grows t.bads l h.bads w.bads lt; cons = b.cons; sizes = b.sizes; justice = b.justice; fair = b.fair; gates = b.gates }
bounded_row h t (rows.Con l) w total b lt = record { inputs = b.inputs; latches = b.latches; outs = b.outs; bads = b.bads; cons = grows t.cons l h.cons w.cons lt; sizes = b.sizes; justice = b.justice; fair = b.fair; gates = b.gates }
bounded_row h t (rows.Size n) w total b lt = record { inputs = b.inputs; latches = b.latches; outs = b.outs; bads = b.bads; cons = b.cons; sizes = grows t.sizes n h.justice w.justice lt; justice = b.justice; fair = b.fair; gates = b.gates }
bounded_row h t (rows.Justice l) w total b lt = record { inputs = b.inputs; latches = b.latches; outs = b.outs; bads = b.bads; cons = b.cons; sizes = b.sizes; justice = grows t.justice l t.total total lt; fair = b.fair; gates = b.gates }
bounded_row h t (rows.Fair l) w total b lt = record { inputs = b.inputs; latches = b.latches; outs = b.outs; bads = b.bads; cons = b.cons; sizes = b.sizes; justice = b.justice; fair = grows t.fair l h.fair w.fair lt; gates = b.gates }
bounded_row h t (rows.Gate g) w total b lt = record { inputs = b.inputs; latches = b.latches; outs = b.outs; bads = b.bads; cons = b.cons; sizes = b.sizes; justice = b.justice; fair = b.fair; gates = grows t.gates g h.gates w.gates lt }

still_left : (h : Head) (t : Taken) (marks : List Mark) (s : Section) → 0 < left_in h t s → 0 < left_in h (record t { marks = marks }) s
still_left h t marks sections.Input lt = lt
still_left h t marks sections.Latch lt = lt
still_left h t marks sections.Out lt = lt
still_left h t marks sections.Bad lt = lt
still_left h t marks sections.Con lt = lt
still_left h t marks sections.Size lt = lt
still_left h t marks sections.Justice lt = lt
still_left h t marks sections.Fair lt = lt
still_left h t marks sections.Gate lt = lt

line_bounded : (h : Head) (t u : Taken) (s : Section) (line : List ℕ) → is_within h ≡ true → t.total ≤ most_items → IsBounded t → 0 < left_in h t s → add_line h t s line ≡ Ok u → IsBounded u
line_bounded h t u s line within le b lt e =
    let a = adds h t u s line e in
    let r = added_is h t u a.row a.added in
    let marked : IsBounded (record t { marks = r.marks }) = record { inputs = b.inputs; latches = b.latches; outs = b.outs; bads = b.bads; cons = b.cons; sizes = b.sizes; justice = b.justice; fair = b.fair; gates = b.gates } in
    let lt' : 0 < left_in h (record t { marks = r.marks }) (section_of a.row) = subst (λ (x : Section). 0 < left_in h (record t { marks = r.marks }) x) (sym a.section) (still_left h t r.marks s lt) in
    subst IsBounded (sym r.is) (bounded_row h (record t { marks = r.marks }) a.row (are_within h within) le marked lt')

-- a test that tells
ltb_lt : (a b : ℕ) → nat_lt a b ≡ true → a < b
ltb_lt a b e = elim (cases_lt a b) [ inl lt ↦ lt | inr ge ↦ absurd (let f = le-ltb a b ge in cc) ]

-- the phase that is come to has a line to come
gates_phase : (h : Head) (t : Taken) → InPhase (gates_or_names h t) h t
gates_phase h t = by_test (nat_lt (length t.gates) h.gates) refl where
  by_test : (b : Bool) → nat_lt (length t.gates) h.gates ≡ b → InPhase (cond b (Gates None) Naming) h t
  by_test true e = ltb_lt (length t.gates) h.gates e
  by_test false e = tt

after_phase : (f : Form) (h : Head) (t : Taken) → InPhase (phase_after f h t) h t
after_phase Ascii h t = tt
after_phase Binary h t = gates_phase h t

from_phase : (h : Head) (t : Taken) (ss : List Section) → InPhase (phase_from h t ss) h t
unfolding first_left
from_phase h t [] = after_phase h.form h t
from_phase h t (s ∷ ss) = elim (cases_eq (left_in h t s) 0) [
  | inl none ↦ subst (λ (b : Bool). InPhase (phase_of h t (cond b (first_left h t ss) (Some s))) h t) (sym (eq-eqb (left_in h t s) 0 none)) (from_phase h t ss)
  | inr some ↦ subst (λ (b : Bool). InPhase (phase_of h t (cond b (first_left h t ss) (Some s))) h t) (sym (ne_eqb (left_in h t s) 0 some)) (let lt : 0 < left_in h t s = omega (arith, some) in lt)
]

begin_inputs : (f : Form) (n : ℕ) → n ≤ most_items → length (inputs_in f n) ≤ most_items
begin_inputs Ascii n le = omega arith
begin_inputs Binary n le = omega (arith, le, evens_length n)

begin_bounded : (h : Head) → is_within h ≡ true → IsBounded (begin h)
begin_bounded h within =
    let w = are_within h within in
    record { inputs = begin_inputs h.form h.inputs w.inputs; latches = omega arith; outs = omega arith; bads = omega arith; cons = omega arith; sizes = omega arith; justice = omega arith; fair = omega arith; gates = omega arith }

same_lists : (t : Taken) (marks : List Mark) → IsBounded t → IsBounded (record t { marks = marks })
same_lists t marks b = record { inputs = b.inputs; latches = b.latches; outs = b.outs; bads = b.bads; cons = b.cons; sizes = b.sizes; justice = b.justice; fair = b.fair; gates = b.gates }

-- a symbol more
one_named : (o : Option Symbol) (y more : List Symbol) → named_by o y ≡ Ok more → length more ≡ length y + 1
one_named None y more e = absurd cc
one_named (Some s) y more e = by_test (is_named y s.kind s.place) e where
  by_test : (b : Bool) → cond b (Err codes.Symbol) (Ok (y ++ s ∷ [])) ≡ Ok more → length more ≡ length y + 1
  by_test true e = absurd cc
  by_test false e = let is : y ++ s ∷ [] ≡ more = cc in ap length (sym is) ∙ length-append y (s ∷ [])

-- each step
head_fits : (line : List ℕ) (r : Result Head AigCode) (s : Machine) → header_of line ≡ r → IsFit s → IsFit (head_ends r s)
head_fits line (Ok h) s e fit = let within = header_within line h e in record { head = within; total = omega arith; lists = begin_bounded h within; phase = from_phase h (begin h) (sections_of h.form); lines = omega arith }
head_fits line (Err c) s e fit = record { head = fit.head; total = fit.total; lists = fit.lists; phase = tt; lines = fit.lines }

phase_fits : (p : Phase) (s : Machine) → s.phase ≡ p → IsFit s → IsFit (line_by_phase p s)
phase_fits Heading s at fit = head_fits s.word (header_of s.word) s refl fit
phase_fits (Rows section) s at fit = by_result (add_line s.head s.taken section s.word) refl where
  left : 0 < left_in s.head s.taken section
  left = subst (λ (p : Phase). InPhase p s.head s.taken) at fit.phase

  by_result : (r : Result Taken AigCode) → add_line s.head s.taken section s.word ≡ r → IsFit (row_ends section r s)
  by_result (Ok u) is = record { head = fit.head; total = line_fits s.head s.taken u section s.word fit.total is; lists = line_bounded s.head s.taken u section s.word fit.head fit.total fit.lists left is; phase = from_phase s.head u (section ∷ behind s.head.form section); lines = omega (arith, fit.lines, (line_counts s.head s.taken u section s.word is).0) }
  by_result (Err c) is = record { head = fit.head; total = fit.total; lists = same_lists s.taken [] fit.lists; phase = tt; lines = fit.lines }
phase_fits (Gates g) s at fit = fit
phase_fits Naming s at fit = by_c (is_c s.word) where
  by_result : (r : Result (List Symbol) AigCode) → add_symbol s.head s.symbols s.word ≡ r → IsFit (symbol_ends r s)
  by_result (Ok more) is = record { head = fit.head; total = fit.total; lists = fit.lists; phase = fit.phase; lines = omega (arith, fit.lines, one_named (symbol_of s.head s.word) s.symbols more is) }
  by_result (Err c) is = record { head = fit.head; total = fit.total; lists = fit.lists; phase = tt; lines = fit.lines }

  by_c : (b : Bool) → IsFit (cond b (comment_begins s []) (symbol_ends (add_symbol s.head s.symbols s.word) s))
  by_c true = record { head = fit.head; total = fit.total; lists = fit.lists; phase = tt; lines = fit.lines }
  by_c false = by_result (add_symbol s.head s.symbols s.word) refl
phase_fits Comment s at fit = fit
phase_fits (Failed g c) s at fit = fit

ends_fit : (s : Machine) → IsFit s → IsFit (line_ends s)
unfolding line_ends
ends_fit s fit = phase_fits s.phase s refl fit

word_fits : (s : Machine) (word : List ℕ) → IsFit s → IsFit (record s { word = word })
word_fits s word fit = record { head = fit.head; total = fit.total; lists = fit.lists; phase = fit.phase; lines = fit.lines }

in_line_fits : (s : Machine) (b : ℕ) → IsFit s → IsFit (byte_in_line s b)
in_line_fits s b fit = by_test (b == 10) where
  by_test : (e : Bool) → IsFit (cond e (line_ends s) (record s { word = s.word ++ b ∷ [] }))
  by_test true = ends_fit s fit
  by_test false = word_fits s (s.word ++ b ∷ []) fit

gate_more : (s : Machine) (g : AndGate) → length s.taken.gates < s.head.gates → IsFit s → IsBounded (with_row s.taken (rows.Gate g))
gate_more s g lt fit =
    let w = are_within s.head fit.head in
    let b = fit.lists in
    let le = w.gates in
    record { inputs = b.inputs; latches = b.latches; outs = b.outs; bads = b.bads; cons = b.cons; sizes = b.sizes; justice = b.justice; fair = b.fair; gates = omega (arith, lt, le, length-append s.taken.gates (g ∷ [])) }

gate_fits : (g : Option ℕ) (s : Machine) (groups : List ℕ) → length s.taken.gates < s.head.gates → IsFit s → IsFit (difference_ends g groups s)
gate_fits None s groups lt fit = by_edge (greater_at (own_gate s.head s.taken) (difference_of groups)) where
  by_edge : (r : Result ℕ AigCode) → IsFit (greater_ends r s)
  by_edge (Ok e) = record { head = fit.head; total = fit.total; lists = fit.lists; phase = lt; lines = fit.lines }
  by_edge (Err c) = record { head = fit.head; total = fit.total; lists = fit.lists; phase = tt; lines = fit.lines }
gate_fits (Some e) s groups lt fit = by_edge (lesser_at e (difference_of groups)) where
  by_edge : (r : Result ℕ AigCode) → IsFit (lesser_ends r s e)
  by_edge (Ok l) = record { head = fit.head; total = fit.total; lists = gate_more s (record { lhs = own_gate s.head s.taken; rhs0 = e; rhs1 = l }) lt fit; phase = gates_phase s.head (with_gate s.taken (own_gate s.head s.taken) e l); lines = omega (arith, fit.lines, length-append s.taken.gates (record { lhs = own_gate s.head s.taken; rhs0 = e; rhs1 = l } ∷ [])) }
  by_edge (Err c) = record { head = fit.head; total = fit.total; lists = fit.lists; phase = tt; lines = fit.lines }

byte_phase_fits : (p : Phase) (s : Machine) (b : ℕ) → s.phase ≡ p → IsFit s → IsFit (byte_by_phase p s b)
byte_phase_fits Heading s b at fit = in_line_fits s b fit
byte_phase_fits (Rows section) s b at fit = in_line_fits s b fit
byte_phase_fits (Gates g) s b at fit = by_last (nat_lt b 128) where
  lt : length s.taken.gates < s.head.gates
  lt = subst (λ (p : Phase). InPhase p s.head s.taken) at fit.phase

  by_last : (e : Bool) → IsFit (cond e (difference_ends g (s.word ++ b ∷ []) s) (record s { word = s.word ++ b ∷ [] }))
  by_last true = gate_fits g s (s.word ++ b ∷ []) lt fit
  by_last false = word_fits s (s.word ++ b ∷ []) fit
byte_phase_fits Naming s b at fit = by_test (is_lenient s.word b) where
  by_test : (e : Bool) → IsFit (cond e (comment_begins s (b ∷ [])) (byte_in_line s b))
  by_test true = record { head = fit.head; total = fit.total; lists = fit.lists; phase = tt; lines = fit.lines }
  by_test false = in_line_fits s b fit
byte_phase_fits Comment s b at fit = record { head = fit.head; total = fit.total; lists = fit.lists; phase = fit.phase; lines = fit.lines }
byte_phase_fits (Failed g c) s b at fit = fit

pub byte_fits : (s : Machine) (b : ℕ) → IsFit s → IsFit (take_byte s b)
unfolding take_byte
byte_fits s b fit = byte_phase_fits s.phase s b refl fit

-- the same of calls
pub line_fits_ok : {A E : Type 0} (r : Result A E) (s u : Machine) → IsFit s → OnOk r (u ≡ line_ends s) → OnOk r (IsFit u)
line_fits_ok (Ok v) s u fit e = subst IsFit (sym e) (ends_fit s fit)
line_fits_ok (Err x) s u fit e = e

pub byte_fits_ok : {A E : Type 0} (r : Result A E) (s : Machine) (b : ℕ) (u : Machine) → IsFit s → OnOk r (u ≡ take_byte s b) → OnOk r (IsFit u)
byte_fits_ok (Ok v) s b u fit e = subst IsFit (sym e) (byte_fits s b fit)
byte_fits_ok (Err x) s b u fit e = e
