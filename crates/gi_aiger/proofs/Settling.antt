-- Once a gate stands, the line of the first gate stands.
use Rattle.std.proofs.Common.{◌≡◌, ℕ, nat_lt, List, [], ◌∷◌, ◌++◌, length, Bool, true, false, cond, ◌⊎◌, inl, inr, Option, Some, None, Result, Ok, Err, refl, ap, sym, ◌∙◌, subst}
use Rattle.std.specs.Prelude.{◌==◌}
use Rattle.std.specs.Global.{Global}
use Rattle.gi_aiger.specs.declared.aig.AndGate.{AndGate}
use Rattle.gi_aiger.specs.declared.aig.Symbol.{Symbol}
use Rattle.gi_aiger.specs.declared.fault.AigCode.{AigCode}
use Rattle.gi_aiger.specs.declared.head.Form.{Form}
use Rattle.gi_aiger.specs.declared.head.Form.TheVariants.{Ascii, Binary}
use Rattle.gi_aiger.specs.declared.head.Head.{Head}
use Rattle.gi_aiger.specs.declared.row.Section.{Section}
use Rattle.gi_aiger.specs.declared.row.Section.TheVariants as sections
use Rattle.gi_aiger.specs.declared.row.Row.{Row}
use Rattle.gi_aiger.specs.declared.row.Row.TheVariants as rows
use Rattle.gi_aiger.specs.declared.taken.Taken.{Taken}
use Rattle.gi_aiger.specs.declared.phase.Phase.{Phase}
use Rattle.gi_aiger.specs.declared.phase.Phase.TheVariants.{Heading, Rows, Gates, Naming, Comment, Failed}
use Rattle.gi_aiger.specs.declared.machine.Machine.{Machine}
use Rattle.gi_aiger.specs.Header.{header_of}
use Rattle.gi_aiger.specs.Rows.{section_of}
use Rattle.gi_aiger.specs.Taking.{with_row, add_line}
use Rattle.gi_aiger.specs.Sections.{left_in, first_left, behind, sections_of}
use Rattle.gi_aiger.specs.Groups.{difference_of, greater_at, lesser_at}
use Rattle.gi_aiger.specs.Named.{add_symbol}
use Rattle.gi_aiger.specs.Files.{Told, gates_line, own_gate, with_gate, begin, read_file}
use Rattle.gi_aiger.specs.Machine.{start, head_ends, row_ends, symbol_ends, comment_begins, is_c, is_lenient, gates_or_names, phase_after, phase_of, phase_from, greater_ends, lesser_ends, difference_ends, line_by_phase, line_ends, take_byte, answer_of, answer_now, answer, run}
use Rattle.gi_aiger.proofs.Adding.{adds, added_is, is_gate, line_same}
use Rattle.gi_aiger.proofs.Following.{reads_all}
use Rattle.gi_aiger.proofs.Growing.{Grown, Opens, byte_goes, run_goes, told_gates}
use Rattle.gi_aiger.proofs.Runs.{at, run-append, run-cons, run-nil, last_is}

-- where gates stand, only gates and what is behind them is to come
abbrev Settles : Phase → List AndGate → Type 0
Settles Heading gs = gs ≡ []
Settles (Rows s) gs = is_gate s ≡ false → gs ≡ []
Settles (Gates g) gs = Unit {0}
Settles Naming gs = Unit {0}
Settles Comment gs = Unit {0}
Settles (Failed g c) gs = Unit {0}

settles_none : (p : Phase) (gs : List AndGate) → gs ≡ [] → Settles p gs
settles_none Heading gs none = none
settles_none (Rows s) gs none = λ e. none
settles_none (Gates g) gs none = tt
settles_none Naming gs none = tt
settles_none Comment gs none = tt
settles_none (Failed g c) gs none = tt

-- the line of the first gate is the same, if there is a gate
abbrev Keeps : Taken → Machine → Type 0
Keeps t s = Settles s.phase s.taken.gates × ((t.gates ≡ []) ⊎ (gates_line s.taken ≡ gates_line t))

gate_section : (s : Section) → is_gate s ≡ true → s ≡ sections.Gate
unfolding is_gate
gate_section sections.Input e = absurd cc
gate_section sections.Latch e = absurd cc
gate_section sections.Out e = absurd cc
gate_section sections.Bad e = absurd cc
gate_section sections.Con e = absurd cc
gate_section sections.Size e = absurd cc
gate_section sections.Justice e = absurd cc
gate_section sections.Fair e = absurd cc
gate_section sections.Gate e = refl

row_line : (t : Taken) (r : Row) → section_of r ≡ sections.Gate → gates_line (with_row t r) ≡ gates_line t
row_line t (rows.Input l) e = absurd cc
row_line t (rows.Latch l) e = absurd cc
row_line t (rows.Out l) e = absurd cc
row_line t (rows.Bad l) e = absurd cc
row_line t (rows.Con l) e = absurd cc
row_line t (rows.Size n) e = absurd cc
row_line t (rows.Justice l) e = absurd cc
row_line t (rows.Fair l) e = absurd cc
row_line t (rows.Gate g) e = refl

gate_line : (h : Head) (t u : Taken) (line : List ℕ) → add_line h t sections.Gate line ≡ Ok u → gates_line u ≡ gates_line t
gate_line h t u line e =
    let a = adds h t u sections.Gate line e in
    let r = added_is h t u a.row a.added in
    ap gates_line r.is ∙ row_line (record t { marks = r.marks }) a.row a.section

gates_settle : (h : Head) (t : Taken) (gs : List AndGate) → Settles (gates_or_names h t) gs
gates_settle h t gs = by_test (nat_lt (length t.gates) h.gates) where
  by_test : (b : Bool) → Settles (cond b (Gates None) Naming) gs
  by_test true = tt
  by_test false = tt

after_settles : (f : Form) (h : Head) (t : Taken) (gs : List AndGate) → Settles (phase_after f h t) gs
after_settles Ascii h t gs = tt
after_settles Binary h t gs = gates_settle h t gs

from_gates : (h : Head) (t : Taken) (gs : List AndGate) → Settles (phase_from h t (sections.Gate ∷ [])) gs
unfolding first_left is_gate
from_gates h t gs = by_left (left_in h t sections.Gate == 0) where
  by_left : (b : Bool) → Settles (phase_of h t (cond b None (Some sections.Gate))) gs
  by_left true = after_settles h.form h t gs
  by_left false = λ e. absurd cc

head_keeps : (r : Result Head AigCode) (s : Machine) → s.taken.gates ≡ [] → Keeps s.taken (head_ends r s)
head_keeps (Ok h) s none = (settles_none (phase_from h (begin h) (sections_of h.form)) [] refl, inl none)
head_keeps (Err c) s none = (tt, inl none)

row_keeps : (section : Section) (s : Machine) (r : Result Taken AigCode) → Settles (Rows section) s.taken.gates → add_line s.head s.taken section s.word ≡ r → Keeps s.taken (row_ends section r s)
row_keeps section s (Err c) o e = (tt, inr refl)
row_keeps section s (Ok t) o e = by_gate (is_gate section) refl where
  gate : section ≡ sections.Gate → Keeps s.taken (row_ends section (Ok t) s)
  gate is = (
    subst (λ (x : Section). Settles (phase_from s.head t (x ∷ behind s.head.form x)) t.gates) (sym is) (from_gates s.head t t.gates),
    inr (gate_line s.head s.taken t s.word (ap (λ (x : Section). add_line s.head s.taken x s.word) (sym is) ∙ e)),
  )

  by_gate : (b : Bool) → is_gate section ≡ b → Keeps s.taken (row_ends section (Ok t) s)
  by_gate true is = gate (gate_section section is)
  by_gate false is =
      let none = o is in
      (settles_none (phase_from s.head t (section ∷ behind s.head.form section)) t.gates (line_same s.head s.taken t section s.word is e ∙ none), inl none)

symbol_keeps : (r : Result (List Symbol) AigCode) (a : Global) (k : ℕ) (h : Head) (w : List ℕ) (t : Taken) (y : List Symbol) (c : List ℕ) → Keeps t (symbol_ends r (at a k Naming h w t y c))
symbol_keeps (Ok more) a k h w t y c = (tt, inr refl)
symbol_keeps (Err d) a k h w t y c = (tt, inr refl)

greater_keeps : (r : Result ℕ AigCode) (s : Machine) → Keeps s.taken (greater_ends r s)
greater_keeps (Ok e) s = (tt, inr refl)
greater_keeps (Err c) s = (tt, inr refl)

lesser_keeps : (r : Result ℕ AigCode) (s : Machine) (e : ℕ) → Keeps s.taken (lesser_ends r s e)
lesser_keeps (Ok l) s e = let t = with_gate s.taken (own_gate s.head s.taken) e l in (gates_settle s.head t t.gates, inr refl)
lesser_keeps (Err c) s e = (tt, inr refl)

difference_keeps : (g : Option ℕ) (groups : List ℕ) (s : Machine) → Keeps s.taken (difference_ends g groups s)
difference_keeps None groups s = greater_keeps (greater_at (own_gate s.head s.taken) (difference_of groups)) s
difference_keeps (Some e) groups s = lesser_keeps (lesser_at e (difference_of groups)) s e

line_keeps : (a : Global) (k : ℕ) (p : Phase) (h : Head) (w : List ℕ) (t : Taken) (y : List Symbol) (c : List ℕ) → Settles p t.gates → Keeps t (line_by_phase p (at a k p h w t y c))
line_keeps a k Heading h w t y c o = head_keeps (header_of w) (at a k Heading h w t y c) o
line_keeps a k (Rows s) h w t y c o = row_keeps s (at a k (Rows s) h w t y c) (add_line h t s w) o refl
line_keeps a k (Gates g) h w t y c o = (tt, inr refl)
line_keeps a k Naming h w t y c o = by_c (is_c w) where
  by_c : (b : Bool) → Keeps t (cond b (comment_begins (at a k Naming h w t y c) []) (symbol_ends (add_symbol h y w) (at a k Naming h w t y c)))
  by_c true = (tt, inr refl)
  by_c false = symbol_keeps (add_symbol h y w) a k h w t y c
line_keeps a k Comment h w t y c o = (tt, inr refl)
line_keeps a k (Failed g d) h w t y c o = (tt, inr refl)

byte_keeps : (a : Global) (k : ℕ) (p : Phase) (h : Head) (w : List ℕ) (t : Taken) (y : List Symbol) (c : List ℕ) (b : ℕ) → Settles p t.gates → Keeps t (take_byte (at a k p h w t y c) b)
unfolding take_byte line_ends
byte_keeps a k Heading h w t y c b o = by_test (b == 10) where
  by_test : (e : Bool) → Keeps t (cond e (line_by_phase Heading (at a k Heading h w t y c)) (at a k Heading h (w ++ b ∷ []) t y c))
  by_test true = line_keeps a k Heading h w t y c o
  by_test false = (o, inr refl)
byte_keeps a k (Rows s) h w t y c b o = by_test (b == 10) where
  by_test : (e : Bool) → Keeps t (cond e (line_by_phase (Rows s) (at a k (Rows s) h w t y c)) (at a k (Rows s) h (w ++ b ∷ []) t y c))
  by_test true = line_keeps a k (Rows s) h w t y c o
  by_test false = (o, inr refl)
byte_keeps a k (Gates g) h w t y c b o = by_test (nat_lt b 128) where
  by_test : (e : Bool) → Keeps t (cond e (difference_ends g (w ++ b ∷ []) (at a k (Gates g) h w t y c)) (at a k (Gates g) h (w ++ b ∷ []) t y c))
  by_test true = difference_keeps g (w ++ b ∷ []) (at a k (Gates g) h w t y c)
  by_test false = (tt, inr refl)
byte_keeps a k Naming h w t y c b o = by_lenient (is_lenient w b) where
  by_test : (e : Bool) → Keeps t (cond e (line_by_phase Naming (at a k Naming h w t y c)) (at a k Naming h (w ++ b ∷ []) t y c))
  by_test true = line_keeps a k Naming h w t y c o
  by_test false = (tt, inr refl)

  by_lenient : (e : Bool) → Keeps t (cond e (comment_begins (at a k Naming h w t y c) (b ∷ [])) (cond (b == 10) (line_by_phase Naming (at a k Naming h w t y c)) (at a k Naming h (w ++ b ∷ []) t y c)))
  by_lenient true = (tt, inr refl)
  by_lenient false = by_test (b == 10)
byte_keeps a k Comment h w t y c b o = (tt, inr refl)
byte_keeps a k (Failed g d) h w t y c b o = (tt, inr refl)

opens_of : (p : Phase) (gs : List AndGate) → Settles p gs → Opens p gs
opens_of Heading gs o = o
opens_of (Rows s) gs o = tt
opens_of (Gates g) gs o = tt
opens_of Naming gs o = tt
opens_of Comment gs o = tt
opens_of (Failed g c) gs o = tt

-- where there is no gate later, there was none
none_before : (gs hs : List AndGate) → Grown gs hs → hs ≡ [] → gs ≡ []
none_before [] hs grown none = refl
none_before (g ∷ gs) hs (more, e) none = absurd (no_cons g (gs ++ more) (sym e ∙ none)) where
  no_cons : (x : AndGate) (xs : List AndGate) → x ∷ xs ≡ [] → ⊥
  no_cons x xs e = cc

-- and so over steps
kept : (t u : Taken) (line : ℕ) → Grown t.gates u.gates → (t.gates ≡ []) ⊎ (gates_line u ≡ gates_line t) → (u.gates ≡ []) ⊎ (line ≡ gates_line u) → (t.gates ≡ []) ⊎ (line ≡ gates_line t)
kept t u line grown (inl none) later = inl none
kept t u line grown (inr same) (inl none) = inl (none_before t.gates u.gates grown none)
kept t u line grown (inr same) (inr is) = inr (is ∙ same)

run_keeps : (s : Machine) (bytes : List ℕ) → Settles s.phase s.taken.gates → Keeps s.taken (run s bytes)
run_keeps s [] o = subst (Keeps s.taken) (sym (run-nil s)) (o, inr refl)
run_keeps s (b ∷ bs) o =
    let u = take_byte s b in
    let grown = (byte_goes s.alloc s.line s.phase s.head s.word s.taken s.symbols s.comment b (opens_of s.phase s.taken.gates o)).1 in
    let one : Keeps s.taken u = byte_keeps s.alloc s.line s.phase s.head s.word s.taken s.symbols s.comment b o in
    let all = run_keeps u bs one.0 in
    subst (Keeps s.taken) (sym (run-cons s b bs)) (all.0, kept s.taken u.taken (gates_line (run u bs).taken) grown one.1 all.1)

told_first : (p : Phase) (s : Machine) → (answer_of p s).first ≡ gates_line s.taken
told_first Heading s = refl
told_first (Rows section) s = refl
told_first (Gates g) s = refl
told_first Naming s = refl
told_first Comment s = refl
told_first (Failed g c) s = refl

answer_keeps : (s : Machine) → Settles s.phase s.taken.gates → (s.taken.gates ≡ []) ⊎ ((answer s).first ≡ gates_line s.taken)
unfolding answer line_ends
answer_keeps s o = by_test (length s.word == 0) where
  to_first : (u : Machine) → (s.taken.gates ≡ []) ⊎ (gates_line u.taken ≡ gates_line s.taken) → (s.taken.gates ≡ []) ⊎ ((answer_now u).first ≡ gates_line s.taken)
  to_first u (inl none) = inl none
  to_first u (inr same) = inr (told_first u.phase u ∙ same)

  by_test : (e : Bool) → (s.taken.gates ≡ []) ⊎ ((answer_now (cond e s (line_by_phase s.phase s))).first ≡ gates_line s.taken)
  by_test true = inr (told_first s.phase s)
  by_test false = to_first (line_by_phase s.phase s) (line_keeps s.alloc s.line s.phase s.head s.word s.taken s.symbols s.comment o).1

-- where no line is begun and a gate stands, what comes behind leaves the line of the first gate
pub file_keeps : (a : Global) (bytes more : List ℕ) → (run (start a) bytes).word ≡ [] → ((read_file bytes).gates ≡ []) ⊎ ((read_file (bytes ++ more)).first ≡ (read_file bytes).first)
file_keeps a bytes more none =
    let s = run (start a) bytes in
    let u = run s more in
    let now = (run_keeps (start a) bytes refl).0 in
    let far = run_keeps s more now in
    let grown = (run_goes s more (opens_of s.phase s.taken.gates now)).1 in
    let same : s.taken.gates ≡ (read_file bytes).gates = sym (told_gates s.phase s) ∙ ap (λ (t : Told). t.gates) (sym (last_is s none) ∙ reads_all a bytes) in
    let first : gates_line s.taken ≡ (read_file bytes).first = sym (told_first s.phase s) ∙ ap (λ (t : Told). t.first) (sym (last_is s none) ∙ reads_all a bytes) in
    let new : (answer u).first ≡ (read_file (bytes ++ more)).first = ap (λ (m : Machine). (answer m).first) (sym (run-append (start a) bytes more)) ∙ ap (λ (t : Told). t.first) (reads_all a (bytes ++ more)) in
    ends same first new (kept s.taken u.taken (answer u).first grown far.1 (answer_keeps u far.0)) where
      ends : {gs hs : List AndGate} {k l m n : ℕ} → gs ≡ hs → k ≡ l → m ≡ n → (gs ≡ []) ⊎ (m ≡ k) → (hs ≡ []) ⊎ (n ≡ l)
      ends e f g (inl none) = inl (sym e ∙ none)
      ends e f g (inr is) = inr (sym g ∙ is ∙ f)
