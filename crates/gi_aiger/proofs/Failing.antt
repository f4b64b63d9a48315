-- A machine that has failed stays so.
use Rattle.std.proofs.Common.{◌≡◌, ◌≢◌, ℕ, nat_lt, List, [], ◌∷◌, ◌++◌, length, Bool, true, false, cond, Option, Some, None, Result, Ok, Err, refl, ap, sym, ◌∙◌, subst}
use Rattle.std.specs.Prelude.{◌==◌}
use Rattle.std.specs.Global.{Global}
use Rattle.gi_aiger.specs.declared.aig.Aig.{Aig}
use Rattle.gi_aiger.specs.declared.aig.Symbol.{Symbol}
use Rattle.gi_aiger.specs.declared.fault.AigCode.{AigCode}
use Rattle.gi_aiger.specs.declared.fault.AigCode.TheVariants.{End}
use Rattle.gi_aiger.specs.declared.fault.AigFault.{AigFault}
use Rattle.gi_aiger.specs.declared.head.Form.{Form}
use Rattle.gi_aiger.specs.declared.head.Form.TheVariants.{Ascii, Binary}
use Rattle.gi_aiger.specs.declared.head.Head.{Head}
use Rattle.gi_aiger.specs.declared.row.Section.{Section}
use Rattle.gi_aiger.specs.declared.taken.Taken.{Taken}
use Rattle.gi_aiger.specs.declared.phase.Phase.{Phase}
use Rattle.gi_aiger.specs.declared.phase.Phase.TheVariants.{Heading, Rows, Gates, Naming, Comment, Failed}
use Rattle.gi_aiger.specs.declared.machine.Machine.{Machine}
use Rattle.gi_aiger.specs.Header.{header_of}
use Rattle.gi_aiger.specs.Taking.{add_line}
use Rattle.gi_aiger.specs.Sections.{first_left, behind, sections_of}
use Rattle.gi_aiger.specs.Groups.{difference_of, greater_at, lesser_at}
use Rattle.gi_aiger.specs.Named.{add_symbol}
use Rattle.gi_aiger.specs.Files.{Told, own_gate, begin, read_file}
use Rattle.gi_aiger.specs.Laws.{FaultsStand, GateFaultsStand}
use Rattle.gi_aiger.specs.Machine.{start, head_ends, row_ends, symbol_ends, comment_begins, is_c, is_lenient, gates_or_names, phase_after, phase_of, phase_from, greater_ends, lesser_ends, difference_ends, line_by_phase, line_ends, take_byte, answer_of, answer_now, answer, run}
use Rattle.gi_aiger.proofs.Runs.{at, run-append, run-cons, run-nil, last_is, last_begun}
use Rattle.gi_aiger.proofs.Following.{reads_all}

abbrev is_failed : Phase → Bool
is_failed Heading = false
is_failed (Rows s) = false
is_failed (Gates g) = false
is_failed Naming = false
is_failed Comment = false
is_failed (Failed g c) = true

-- no line is begun behind a fault or in the comment
abbrev Clean : Phase → List ℕ → Type 0
Clean Heading w = Unit {0}
Clean (Rows s) w = Unit {0}
Clean (Gates g) w = Unit {0}
Clean Naming w = Unit {0}
Clean Comment w = w ≡ []
Clean (Failed g c) w = w ≡ []

abbrev IsClean : Machine → Type 0
IsClean s = Clean s.phase s.word

clean_empty : (p : Phase) (w : List ℕ) → w ≡ [] → Clean p w
clean_empty Heading w e = tt
clean_empty (Rows s) w e = tt
clean_empty (Gates g) w e = tt
clean_empty Naming w e = tt
clean_empty Comment w e = e
clean_empty (Failed g c) w e = e

-- what a line's end leaves
head_none : (r : Result Head AigCode) (s : Machine) → (head_ends r s).word ≡ []
head_none (Ok h) s = refl
head_none (Err c) s = refl

row_none : (section : Section) (r : Result Taken AigCode) (s : Machine) → (row_ends section r s).word ≡ []
row_none section (Ok t) s = refl
row_none section (Err c) s = refl

symbol_none : (r : Result (List Symbol) AigCode) (s : Machine) → (symbol_ends r s).word ≡ []
symbol_none (Ok more) s = refl
symbol_none (Err c) s = refl

name_none : (s : Machine) → (line_by_phase Naming s).word ≡ []
name_none s = by_c (is_c s.word) where
  by_c : (b : Bool) → (cond b (comment_begins s []) (symbol_ends (add_symbol s.head s.symbols s.word) s)).word ≡ []
  by_c true = refl
  by_c false = symbol_none (add_symbol s.head s.symbols s.word) s

greater_none : (r : Result ℕ AigCode) (s : Machine) → (greater_ends r s).word ≡ []
greater_none (Ok e) s = refl
greater_none (Err c) s = refl

lesser_none : (r : Result ℕ AigCode) (s : Machine) (e : ℕ) → (lesser_ends r s e).word ≡ []
lesser_none (Ok l) s e = refl
lesser_none (Err c) s e = refl

difference_none : (g : Option ℕ) (groups : List ℕ) (s : Machine) → (difference_ends g groups s).word ≡ []
difference_none None groups s = greater_none (greater_at (own_gate s.head s.taken) (difference_of groups)) s
difference_none (Some e) groups s = lesser_none (lesser_at e (difference_of groups)) s e

-- behind an LF none is begun
lf_none : (a : Global) (k : ℕ) (p : Phase) (h : Head) (w : List ℕ) (t : Taken) (y : List Symbol) (c : List ℕ) → Clean p w → (take_byte (at a k p h w t y c) 10).word ≡ []
unfolding take_byte line_ends
lf_none a k Heading h w t y c clean = head_none (header_of w) (at a k Heading h w t y c)
lf_none a k (Rows s) h w t y c clean = row_none s (add_line h t s w) (at a k (Rows s) h w t y c)
lf_none a k (Gates g) h w t y c clean = difference_none g (w ++ 10 ∷ []) (at a k (Gates g) h w t y c)
lf_none a k Naming h w t y c clean = by_test (is_lenient w 10) where
  by_test : (b : Bool) → (cond b (comment_begins (at a k Naming h w t y c) (10 ∷ [])) (line_by_phase Naming (at a k Naming h w t y c))).word ≡ []
  by_test true = refl
  by_test false = name_none (at a k Naming h w t y c)
lf_none a k Comment h w t y c clean = clean
lf_none a k (Failed g d) h w t y c clean = clean

-- each byte keeps the machine clean
none_clean : (s : Machine) → s.word ≡ [] → IsClean s
none_clean s e = clean_empty s.phase s.word e

clean_step : (a : Global) (k : ℕ) (p : Phase) (h : Head) (w : List ℕ) (t : Taken) (y : List Symbol) (c : List ℕ) (b : ℕ) → Clean p w → IsClean (take_byte (at a k p h w t y c) b)
unfolding take_byte line_ends
clean_step a k Heading h w t y c b clean = by_test (b == 10) where
  by_test : (e : Bool) → IsClean (cond e (line_by_phase Heading (at a k Heading h w t y c)) (at a k Heading h (w ++ b ∷ []) t y c))
  by_test true = none_clean (head_ends (header_of w) (at a k Heading h w t y c)) (head_none (header_of w) (at a k Heading h w t y c))
  by_test false = tt
clean_step a k (Rows s) h w t y c b clean = by_test (b == 10) where
  by_test : (e : Bool) → IsClean (cond e (line_by_phase (Rows s) (at a k (Rows s) h w t y c)) (at a k (Rows s) h (w ++ b ∷ []) t y c))
  by_test true = none_clean (row_ends s (add_line h t s w) (at a k (Rows s) h w t y c)) (row_none s (add_line h t s w) (at a k (Rows s) h w t y c))
  by_test false = tt
clean_step a k (Gates g) h w t y c b clean = by_test (nat_lt b 128) where
  by_test : (e : Bool) → IsClean (cond e (difference_ends g (w ++ b ∷ []) (at a k (Gates g) h w t y c)) (at a k (Gates g) h (w ++ b ∷ []) t y c))
  by_test true = none_clean (difference_ends g (w ++ b ∷ []) (at a k (Gates g) h w t y c)) (difference_none g (w ++ b ∷ []) (at a k (Gates g) h w t y c))
  by_test false = tt
clean_step a k Naming h w t y c b clean = by_lenient (is_lenient w b) where
  by_test : (e : Bool) → IsClean (cond e (line_by_phase Naming (at a k Naming h w t y c)) (at a k Naming h (w ++ b ∷ []) t y c))
  by_test true = none_clean (line_by_phase Naming (at a k Naming h w t y c)) (name_none (at a k Naming h w t y c))
  by_test false = tt

  by_lenient : (e : Bool) → IsClean (cond e (comment_begins (at a k Naming h w t y c) (b ∷ [])) (cond (b == 10) (line_by_phase Naming (at a k Naming h w t y c)) (at a k Naming h (w ++ b ∷ []) t y c)))
  by_lenient true = refl
  by_lenient false = by_test (b == 10)
clean_step a k Comment h w t y c b clean = clean
clean_step a k (Failed g d) h w t y c b clean = clean

run_clean : (s : Machine) (bytes : List ℕ) → IsClean s → IsClean (run s bytes)
run_clean s [] clean = subst IsClean (sym (run-nil s)) clean
run_clean s (b ∷ bs) clean = subst IsClean (sym (run-cons s b bs)) (run_clean (take_byte s b) bs (clean_step s.alloc s.line s.phase s.head s.word s.taken s.symbols s.comment b clean))

-- a fault that is read
unfoldable pub line_of : Result Aig AigFault → ℕ
line_of (Ok v) = 0
line_of (Err f) = f.line

unfoldable pub code_of : Result Aig AigFault → AigCode
code_of (Ok v) = End
code_of (Err f) = f.code

unfoldable pub gate_of : Result Aig AigFault → ℕ
gate_of (Ok v) = 0
gate_of (Err f) = f.gate

-- what is answered without a fault that was found
live_end : (p : Phase) (s : Machine) (f : AigFault) → is_failed p ≡ false → (answer_of p s).read ≡ Err f → f.code ≡ End
unfolding code_of
live_end Heading s f live e = sym (ap code_of e)
live_end (Rows section) s f live e = sym (ap code_of e)
live_end (Gates g) s f live e = sym (ap code_of e)
live_end Naming s f live e = absurd cc
live_end Comment s f live e = absurd cc
live_end (Failed g c) s f live e = absurd cc

failed_any : (a : Global) (k g : ℕ) (c : AigCode) (h : Head) (w : List ℕ) (t : Taken) (y : List Symbol) (cm more : List ℕ) → run (at a k (Failed g c) h w t y cm) more ≡ at a k (Failed g c) h w t y cm
unfolding run take_byte
failed_any a k g c h w t y cm [] = refl
failed_any a k g c h w t y cm (x ∷ more) = failed_any a k g c h w t y cm more

-- behind a fault the answer stands
told_stays : (a : Global) (k : ℕ) (p : Phase) (h : Head) (w : List ℕ) (t : Taken) (y : List Symbol) (c more : List ℕ) (f : AigFault) → w ≡ [] → (answer (at a k p h w t y c)).read ≡ Err f → f.code ≢ End → answer (run (at a k p h w t y c) more) ≡ answer (at a k p h w t y c)
told_stays a k p h w t y c more f none e ne = by_phase p refl where
  now : (answer_of p (at a k p h w t y c)).read ≡ Err f
  now = ap (λ (t : Told). t.read) (sym (last_is (at a k p h w t y c) none)) ∙ e

  live : is_failed p ≡ false → answer (run (at a k p h w t y c) more) ≡ answer (at a k p h w t y c)
  live l = absurd (ne (live_end p (at a k p h w t y c) f l now))

  by_phase : (q : Phase) → p ≡ q → answer (run (at a k p h w t y c) more) ≡ answer (at a k p h w t y c)
  by_phase Heading is = live (ap is_failed is)
  by_phase (Rows s) is = live (ap is_failed is)
  by_phase (Gates g) is = live (ap is_failed is)
  by_phase Naming is = live (ap is_failed is)
  by_phase Comment is = live (ap is_failed is)
  by_phase (Failed g d) is =
      ap (λ (q : Phase). answer (run (at a k q h w t y c) more)) is ∙ ap answer (failed_any a k g d h w t y c more) ∙ ap (λ (q : Phase). answer (at a k q h w t y c)) (sym is)

start_clean : (a : Global) → IsClean (start a)
start_clean a = tt

-- no line is begun behind whole lines
pub lines_end : (a : Global) (bytes : List ℕ) → (run (start a) (bytes ++ 10 ∷ [])).word ≡ []
lines_end a bytes =
    let before = run (start a) bytes in
    let last : run (start a) (bytes ++ 10 ∷ []) ≡ take_byte before 10 = run-append (start a) bytes (10 ∷ []) ∙ run-cons before 10 [] ∙ run-nil (take_byte before 10) in
    ap (λ (m : Machine). m.word) last ∙ lf_none before.alloc before.line before.phase before.head before.word before.taken before.symbols before.comment (run_clean (start a) bytes (start_clean a))

-- so whole lines of which a fault is read say the same, whatever comes behind them
pub lines_same : (a : Global) (bytes more : List ℕ) (f : AigFault) → (read_file (bytes ++ 10 ∷ [])).read ≡ Err f → f.code ≢ End → read_file ((bytes ++ 10 ∷ []) ++ more) ≡ read_file (bytes ++ 10 ∷ [])
lines_same a bytes more f e ne =
    let s = run (start a) (bytes ++ 10 ∷ []) in
    let now : (answer s).read ≡ Err f = ap (λ (t : Told). t.read) (reads_all a (bytes ++ 10 ∷ [])) ∙ e in
    sym (reads_all a ((bytes ++ 10 ∷ []) ++ more)) ∙ ap answer (run-append (start a) (bytes ++ 10 ∷ []) more) ∙ told_stays s.alloc s.line s.phase s.head s.word s.taken s.symbols s.comment more f (lines_end a bytes) now ne ∙ reads_all a (bytes ++ 10 ∷ [])

pub lines_stand : Global → FaultsStand
lines_stand a bytes more f e ne = ap (λ (t : Told). t.read) (lines_same a bytes more f e ne) ∙ e

no_cons : (w : List ℕ) (b : ℕ) (v : List ℕ) → w ≡ [] → w ≡ b ∷ v → ⊥
no_cons w b v e is = cc

-- no fault of a line is a gate's
gates_live : (h : Head) (t : Taken) → is_failed (gates_or_names h t) ≡ false
gates_live h t = by_test (nat_lt (length t.gates) h.gates) where
  by_test : (b : Bool) → is_failed (cond b (Gates None) Naming) ≡ false
  by_test true = refl
  by_test false = refl

from_live : (h : Head) (t : Taken) (ss : List Section) → is_failed (phase_from h t ss) ≡ false
from_live h t ss = by_found (first_left h t ss) where
  by_form : (f : Form) → is_failed (phase_after f h t) ≡ false
  by_form Ascii = refl
  by_form Binary = gates_live h t

  by_found : (o : Option Section) → is_failed (phase_of h t o) ≡ false
  by_found (Some s) = refl
  by_found None = by_form h.form

head_gate : (r : Result Head AigCode) (s : Machine) (f : AigFault) → (answer_now (head_ends r s)).read ≡ Err f → f.code ≢ End → f.gate ≡ 0
unfolding gate_of
head_gate (Ok h) s f e ne = absurd (ne (live_end (phase_from h (begin h) (sections_of h.form)) (head_ends (Ok h) s) f (from_live h (begin h) (sections_of h.form)) e))
head_gate (Err c) s f e ne = sym (ap gate_of e)

row_gate : (section : Section) (r : Result Taken AigCode) (s : Machine) (f : AigFault) → (answer_now (row_ends section r s)).read ≡ Err f → f.code ≢ End → f.gate ≡ 0
unfolding gate_of
row_gate section (Ok t) s f e ne = absurd (ne (live_end (phase_from s.head t (section ∷ behind s.head.form section)) (row_ends section (Ok t) s) f (from_live s.head t (section ∷ behind s.head.form section)) e))
row_gate section (Err c) s f e ne = sym (ap gate_of e)

symbol_gate : (r : Result (List Symbol) AigCode) (a : Global) (k : ℕ) (h : Head) (w : List ℕ) (t : Taken) (y : List Symbol) (c : List ℕ) (f : AigFault) → (answer_now (symbol_ends r (at a k Naming h w t y c))).read ≡ Err f → f.gate ≡ 0
unfolding gate_of
symbol_gate (Ok more) a k h w t y c f e = absurd cc
symbol_gate (Err d) a k h w t y c f e = sym (ap gate_of e)

line_gate : (a : Global) (k : ℕ) (p : Phase) (h : Head) (w : List ℕ) (t : Taken) (y : List Symbol) (c : List ℕ) (b : ℕ) (v : List ℕ) (f : AigFault) → Clean p w → w ≡ b ∷ v → (answer_now (line_ends (at a k p h w t y c))).read ≡ Err f → f.code ≢ End → f.gate ≡ 0
unfolding line_ends
line_gate a k Heading h w t y c b v f clean is e ne = head_gate (header_of w) (at a k Heading h w t y c) f e ne
line_gate a k (Rows s) h w t y c b v f clean is e ne = row_gate s (add_line h t s w) (at a k (Rows s) h w t y c) f e ne
line_gate a k (Gates g) h w t y c b v f clean is e ne = absurd (ne (live_end (Gates g) (at a k (Gates g) h w t y c) f refl e))
line_gate a k Naming h w t y c b v f clean is e ne = by_c (is_c w) e where
  by_c : (x : Bool) → (answer_now (cond x (comment_begins (at a k Naming h w t y c) []) (symbol_ends (add_symbol h y w) (at a k Naming h w t y c)))).read ≡ Err f → f.gate ≡ 0
  by_c true e = absurd (ne (live_end Comment (at a k Comment h [] t y []) f refl e))
  by_c false e = symbol_gate (add_symbol h y w) a k h w t y c f e
line_gate a k Comment h w t y c b v f clean is e ne = absurd (no_cons w b v clean is)
line_gate a k (Failed g d) h w t y c b v f clean is e ne = absurd (no_cons w b v clean is)

pub gates_same : (a : Global) (bytes more : List ℕ) (f : AigFault) → (read_file bytes).read ≡ Err f → f.code ≢ End → f.gate ≢ 0 → read_file (bytes ++ more) ≡ read_file bytes
gates_same a bytes more f e ne gate = by_word (run (start a) bytes).word refl where
  by_word : (w : List ℕ) → (run (start a) bytes).word ≡ w → read_file (bytes ++ more) ≡ read_file bytes
  by_word [] is =
      let m = run (start a) bytes in
      let now : (answer m).read ≡ Err f = ap (λ (t : Told). t.read) (reads_all a bytes) ∙ e in
      sym (reads_all a (bytes ++ more)) ∙ ap answer (run-append (start a) bytes more) ∙ told_stays m.alloc m.line m.phase m.head m.word m.taken m.symbols m.comment more f is now ne ∙ reads_all a bytes
  by_word (b ∷ v) is =
      let m = run (start a) bytes in
      let now : (answer_now (line_ends m)).read ≡ Err f = ap (λ (t : Told). t.read) (sym (last_begun m b v is) ∙ reads_all a bytes) ∙ e in
      absurd (gate (line_gate m.alloc m.line m.phase m.head m.word m.taken m.symbols m.comment b v f (run_clean (start a) bytes (start_clean a)) is now ne))

pub gates_stand : Global → GateFaultsStand
gates_stand a bytes more f e ne gate = ap (λ (t : Told). t.read) (gates_same a bytes more f e ne gate) ∙ e
