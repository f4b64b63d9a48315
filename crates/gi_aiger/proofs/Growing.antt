-- More bytes bring more gates, and leave those that stand.
use Rattle.std.proofs.Common.{◌≡◌, ℕ, nat_lt, take, drop, List, [], ◌∷◌, ◌++◌, length, Bool, true, false, cond, Option, Some, None, Result, Ok, Err, refl, ap, sym, ◌∙◌, subst, append_assoc}
use Rattle.std.specs.Prelude.{◌==◌}
use Rattle.std.specs.Global.{Global}
use Rattle.std.proofs.lemmas.List.{append-nil, take-append-drop}
use Rattle.gi_aiger.specs.declared.aig.AndGate.{AndGate}
use Rattle.gi_aiger.specs.declared.aig.Symbol.{Symbol}
use Rattle.gi_aiger.specs.declared.fault.AigCode.{AigCode}
use Rattle.gi_aiger.specs.declared.head.Form.{Form}
use Rattle.gi_aiger.specs.declared.head.Form.TheVariants.{Ascii, Binary}
use Rattle.gi_aiger.specs.declared.head.Head.{Head}
use Rattle.gi_aiger.specs.declared.row.Section.{Section}
use Rattle.gi_aiger.specs.declared.row.Row.{Row}
use Rattle.gi_aiger.specs.declared.row.Row.TheVariants as rows
use Rattle.gi_aiger.specs.declared.taken.Taken.{Taken}
use Rattle.gi_aiger.specs.declared.phase.Phase.{Phase}
use Rattle.gi_aiger.specs.declared.phase.Phase.TheVariants.{Heading, Rows, Gates, Naming, Comment, Failed}
use Rattle.gi_aiger.specs.declared.machine.Machine.{Machine}
use Rattle.gi_aiger.specs.Header.{header_of}
use Rattle.gi_aiger.specs.Taking.{with_row, add_line}
use Rattle.gi_aiger.specs.Sections.{first_left, behind, sections_of}
use Rattle.gi_aiger.specs.Groups.{difference_of, greater_at, lesser_at}
use Rattle.gi_aiger.specs.Named.{add_symbol}
use Rattle.gi_aiger.specs.Files.{Told, own_gate, with_gate, read_file}
use Rattle.gi_aiger.specs.Machine.{start, head_ends, row_ends, symbol_ends, comment_begins, is_c, is_lenient, gates_or_names, phase_after, phase_of, phase_from, greater_ends, lesser_ends, difference_ends, line_by_phase, line_ends, take_byte, answer_of, answer_now, answer, run}
use Rattle.gi_aiger.proofs.Adding.{adds, added_is}
use Rattle.gi_aiger.proofs.Runs.{at, run-append, run-cons, run-nil, last_is}
use Rattle.gi_aiger.proofs.Following.{reads_all}

-- further gates behind those that stood
abbrev pub Grown : List AndGate → List AndGate → Type 0
Grown old new = (more : List AndGate) × (new ≡ old ++ more)

pub stays : (gs : List AndGate) → Grown gs gs
stays gs = ([], sym (append-nil gs))

pub grown_then : (a b c : List AndGate) → Grown a b → Grown b c → Grown a c
grown_then a b c (x, e) (y, f) = (x ++ y, f ∙ ap (λ (gs : List AndGate). gs ++ y) e ∙ append_assoc a x y)

-- the first of gates that have grown
pub first_grown : (n : ℕ) (old new : List AndGate) → Grown old new → Grown (take n old) new
first_grown n old new (more, grown) =
    (drop n old ++ more, grown ∙ ap (λ (gs : List AndGate). gs ++ more) (sym (take-append-drop n old)) ∙ append_assoc (take n old) (drop n old) more)

-- a row behind the rows so far
pub row_grown : (t : Taken) (r : Row) → Grown t.gates (with_row t r).gates
row_grown t (rows.Input l) = stays t.gates
row_grown t (rows.Latch l) = stays t.gates
row_grown t (rows.Out l) = stays t.gates
row_grown t (rows.Bad l) = stays t.gates
row_grown t (rows.Con l) = stays t.gates
row_grown t (rows.Size n) = stays t.gates
row_grown t (rows.Justice l) = stays t.gates
row_grown t (rows.Fair l) = stays t.gates
row_grown t (rows.Gate g) = (g ∷ [], refl)

pub line_grown : (h : Head) (t u : Taken) (s : Section) (line : List ℕ) → add_line h t s line ≡ Ok u → Grown t.gates u.gates
line_grown h t u s line e =
    let a = adds h t u s line e in
    let r = added_is h t u a.row a.added in
    subst (λ (v : Taken). Grown t.gates v.gates) (sym r.is) (row_grown (record t { marks = r.marks }) a.row)

-- before the header there are no gates
abbrev pub Opens : Phase → List AndGate → Type 0
Opens Heading gs = gs ≡ []
Opens (Rows s) gs = Unit {0}
Opens (Gates g) gs = Unit {0}
Opens Naming gs = Unit {0}
Opens Comment gs = Unit {0}
Opens (Failed g c) gs = Unit {0}

abbrev pub IsOpen : Machine → Type 0
IsOpen s = Opens s.phase s.taken.gates

gates_open : (h : Head) (t : Taken) (gs : List AndGate) → Opens (gates_or_names h t) gs
gates_open h t gs = by_test (nat_lt (length t.gates) h.gates) where
  by_test : (b : Bool) → Opens (cond b (Gates None) Naming) gs
  by_test true = tt
  by_test false = tt

from_open : (h : Head) (t : Taken) (ss : List Section) (gs : List AndGate) → Opens (phase_from h t ss) gs
from_open h t ss gs = by_found (first_left h t ss) where
  by_form : (f : Form) → Opens (phase_after f h t) gs
  by_form Ascii = tt
  by_form Binary = gates_open h t gs

  by_found : (o : Option Section) → Opens (phase_of h t o) gs
  by_found (Some s) = tt
  by_found None = by_form h.form

-- a machine that goes on from gates
abbrev pub Goes : List AndGate → Machine → Type 0
Goes gs s = IsOpen s × Grown gs s.taken.gates

from_none : (gs hs : List AndGate) → gs ≡ [] → Grown gs hs
from_none gs hs e = (hs, ap (λ (xs : List AndGate). xs ++ hs) (sym e))

head_goes : (r : Result Head AigCode) (s : Machine) → s.taken.gates ≡ [] → Goes s.taken.gates (head_ends r s)
head_goes (Ok h) s e = (from_open h (head_ends (Ok h) s).taken (sections_of h.form) (head_ends (Ok h) s).taken.gates, from_none s.taken.gates (head_ends (Ok h) s).taken.gates e)
head_goes (Err c) s e = (tt, stays s.taken.gates)

row_goes : (section : Section) (s : Machine) (r : Result Taken AigCode) → add_line s.head s.taken section s.word ≡ r → Goes s.taken.gates (row_ends section r s)
row_goes section s (Ok t) e = (from_open s.head t (section ∷ behind s.head.form section) t.gates, line_grown s.head s.taken t section s.word e)
row_goes section s (Err c) e = (tt, stays s.taken.gates)

symbol_goes : (r : Result (List Symbol) AigCode) (a : Global) (k : ℕ) (h : Head) (w : List ℕ) (t : Taken) (y : List Symbol) (c : List ℕ) → Goes t.gates (symbol_ends r (at a k Naming h w t y c))
symbol_goes (Ok more) a k h w t y c = (tt, stays t.gates)
symbol_goes (Err d) a k h w t y c = (tt, stays t.gates)

greater_goes : (r : Result ℕ AigCode) (s : Machine) → Goes s.taken.gates (greater_ends r s)
greater_goes (Ok e) s = (tt, stays s.taken.gates)
greater_goes (Err c) s = (tt, stays s.taken.gates)

lesser_goes : (r : Result ℕ AigCode) (s : Machine) (e : ℕ) → Goes s.taken.gates (lesser_ends r s e)
lesser_goes (Ok l) s e =
    let t = with_gate s.taken (own_gate s.head s.taken) e l in
    (gates_open s.head t t.gates, (record { lhs = own_gate s.head s.taken; rhs0 = e; rhs1 = l } ∷ [], refl))
lesser_goes (Err c) s e = (tt, stays s.taken.gates)

difference_goes : (g : Option ℕ) (groups : List ℕ) (s : Machine) → Goes s.taken.gates (difference_ends g groups s)
difference_goes None groups s = greater_goes (greater_at (own_gate s.head s.taken) (difference_of groups)) s
difference_goes (Some e) groups s = lesser_goes (lesser_at e (difference_of groups)) s e

-- where a line ends
pub line_goes : (a : Global) (k : ℕ) (p : Phase) (h : Head) (w : List ℕ) (t : Taken) (y : List Symbol) (c : List ℕ) → Opens p t.gates → Goes t.gates (line_by_phase p (at a k p h w t y c))
line_goes a k Heading h w t y c o = head_goes (header_of w) (at a k Heading h w t y c) o
line_goes a k (Rows s) h w t y c o = row_goes s (at a k (Rows s) h w t y c) (add_line h t s w) refl
line_goes a k (Gates g) h w t y c o = (tt, stays t.gates)
line_goes a k Naming h w t y c o = by_c (is_c w) where
  by_c : (b : Bool) → Goes t.gates (cond b (comment_begins (at a k Naming h w t y c) []) (symbol_ends (add_symbol h y w) (at a k Naming h w t y c)))
  by_c true = (tt, stays t.gates)
  by_c false = symbol_goes (add_symbol h y w) a k h w t y c
line_goes a k Comment h w t y c o = (tt, stays t.gates)
line_goes a k (Failed g d) h w t y c o = (tt, stays t.gates)

-- and at each byte
pub byte_goes : (a : Global) (k : ℕ) (p : Phase) (h : Head) (w : List ℕ) (t : Taken) (y : List Symbol) (c : List ℕ) (b : ℕ) → Opens p t.gates → Goes t.gates (take_byte (at a k p h w t y c) b)
unfolding take_byte line_ends
byte_goes a k Heading h w t y c b o = by_test (b == 10) where
  by_test : (e : Bool) → Goes t.gates (cond e (line_by_phase Heading (at a k Heading h w t y c)) (at a k Heading h (w ++ b ∷ []) t y c))
  by_test true = line_goes a k Heading h w t y c o
  by_test false = (o, stays t.gates)
byte_goes a k (Rows s) h w t y c b o = by_test (b == 10) where
  by_test : (e : Bool) → Goes t.gates (cond e (line_by_phase (Rows s) (at a k (Rows s) h w t y c)) (at a k (Rows s) h (w ++ b ∷ []) t y c))
  by_test true = line_goes a k (Rows s) h w t y c o
  by_test false = (tt, stays t.gates)
byte_goes a k (Gates g) h w t y c b o = by_test (nat_lt b 128) where
  by_test : (e : Bool) → Goes t.gates (cond e (difference_ends g (w ++ b ∷ []) (at a k (Gates g) h w t y c)) (at a k (Gates g) h (w ++ b ∷ []) t y c))
  by_test true = difference_goes g (w ++ b ∷ []) (at a k (Gates g) h w t y c)
  by_test false = (tt, stays t.gates)
byte_goes a k Naming h w t y c b o = by_lenient (is_lenient w b) where
  by_test : (e : Bool) → Goes t.gates (cond e (line_by_phase Naming (at a k Naming h w t y c)) (at a k Naming h (w ++ b ∷ []) t y c))
  by_test true = line_goes a k Naming h w t y c o
  by_test false = (tt, stays t.gates)

  by_lenient : (e : Bool) → Goes t.gates (cond e (comment_begins (at a k Naming h w t y c) (b ∷ [])) (cond (b == 10) (line_by_phase Naming (at a k Naming h w t y c)) (at a k Naming h (w ++ b ∷ []) t y c)))
  by_lenient true = (tt, stays t.gates)
  by_lenient false = by_test (b == 10)
byte_goes a k Comment h w t y c b o = (tt, stays t.gates)
byte_goes a k (Failed g d) h w t y c b o = (tt, stays t.gates)

pub run_goes : (s : Machine) (bytes : List ℕ) → IsOpen s → Goes s.taken.gates (run s bytes)
run_goes s [] o = subst (Goes s.taken.gates) (sym (run-nil s)) (o, stays s.taken.gates)
run_goes s (b ∷ bs) o =
    let u = take_byte s b in
    let one : Goes s.taken.gates u = byte_goes s.alloc s.line s.phase s.head s.word s.taken s.symbols s.comment b o in
    let all = run_goes u bs one.0 in
    subst (Goes s.taken.gates) (sym (run-cons s b bs)) (all.0, grown_then s.taken.gates u.taken.gates (run u bs).taken.gates one.1 all.1)

-- the gates of an answer are those that stand
pub told_gates : (p : Phase) (s : Machine) → (answer_of p s).gates ≡ s.taken.gates
told_gates Heading s = refl
told_gates (Rows section) s = refl
told_gates (Gates g) s = refl
told_gates Naming s = refl
told_gates Comment s = refl
told_gates (Failed g c) s = refl

answer_grown : (s : Machine) → IsOpen s → Grown s.taken.gates (answer s).gates
unfolding answer line_ends
answer_grown s o = by_test (length s.word == 0) where
  by_test : (e : Bool) → Grown s.taken.gates (answer_now (cond e s (line_by_phase s.phase s))).gates
  by_test true = subst (Grown s.taken.gates) (sym (told_gates s.phase s)) (stays s.taken.gates)
  by_test false =
      let u = line_by_phase s.phase s in
      subst (Grown s.taken.gates) (sym (told_gates u.phase u)) (line_goes s.alloc s.line s.phase s.head s.word s.taken s.symbols s.comment o).1

start_open : (a : Global) → IsOpen (start a)
start_open a = refl

-- where no line is begun, what comes behind leaves the gates
pub file_grown : (a : Global) (bytes more : List ℕ) → (run (start a) bytes).word ≡ [] → Grown (read_file bytes).gates (read_file (bytes ++ more)).gates
file_grown a bytes more none =
    let s = run (start a) bytes in
    let u = run s more in
    let opened : IsOpen s = (run_goes (start a) bytes (start_open a)).0 in
    let far = run_goes s more opened in
    let old : s.taken.gates ≡ (read_file bytes).gates = sym (told_gates s.phase s) ∙ ap (λ (t : Told). t.gates) (sym (last_is s none) ∙ reads_all a bytes) in
    let new : (answer u).gates ≡ (read_file (bytes ++ more)).gates = ap (λ (m : Machine). (answer m).gates) (sym (run-append (start a) bytes more)) ∙ ap (λ (t : Told). t.gates) (reads_all a (bytes ++ more)) in
    subst (λ (gs : List AndGate). Grown gs (read_file (bytes ++ more)).gates) old (subst (Grown s.taken.gates) new (grown_then s.taken.gates u.taken.gates (answer u).gates far.1 (answer_grown u far.0)))
