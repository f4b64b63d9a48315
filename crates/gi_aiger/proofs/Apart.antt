-- No two gates that stand define the same variable.
use Rattle.std.proofs.Common.{◌≡◌, ◌≢◌, ℕ, zero, suc, ◌+◌, ◌*◌, ◌/◌, ◌<◌, ◌≤◌, nat_lt, List, [], ◌∷◌, ◌++◌, length, Bool, true, false, cond, ◌⊎◌, inl, inr, Option, Some, None, Result, Ok, Err, refl, ap, sym, ◌∙◌, subst, arith, length-append}
use Rattle.std.proofs.lemmas.List.{get_or_append_left}
use Rattle.gi_aiger.specs.declared.aig.AndGate.{AndGate}
use Rattle.gi_aiger.specs.declared.aig.Symbol.{Symbol}
use Rattle.gi_aiger.specs.declared.fault.AigCode.{AigCode}
use Rattle.gi_aiger.specs.declared.fault.AigCode.TheVariants.{Defined, Undefined, End}
use Rattle.gi_aiger.specs.declared.head.Form.{Form}
use Rattle.gi_aiger.specs.declared.head.Form.TheVariants.{Ascii, Binary}
use Rattle.gi_aiger.specs.declared.head.Head.{Head}
use Rattle.gi_aiger.specs.declared.mark.Mark.{Mark}
use Rattle.gi_aiger.specs.declared.mark.Mark.TheVariants as marks
use Rattle.gi_aiger.specs.declared.row.Section.{Section}
use Rattle.gi_aiger.specs.declared.row.Section.TheVariants as sections
use Rattle.gi_aiger.specs.declared.row.Row.{Row}
use Rattle.gi_aiger.specs.declared.row.Row.TheVariants as rows
use Rattle.gi_aiger.specs.declared.taken.Taken.{Taken}
use Rattle.gi_aiger.specs.Header.{header_of}
use Rattle.gi_aiger.specs.Lines.{lines_of, bare, joined}
use Rattle.gi_aiger.specs.Rows.{section_of, defined_by}
use Rattle.gi_aiger.specs.Marks.{mark_at, marked, missing}
use Rattle.gi_aiger.specs.Taking.{with_row, with_line, is_defined, is_known, to_come, checked, add_by, add_line}
use Rattle.gi_aiger.specs.Sections.{left_in, sections_of}
use Rattle.gi_aiger.specs.Groups.{groups_at, difference_of, greater_at, lesser_at}
use Rattle.gi_aiger.specs.Named.{add_symbol}
use Rattle.gi_aiger.specs.Levels.{gate_at, IsDistinct}
use Rattle.gi_aiger.specs.Files.{Told, gate_stopped, whole, begins_comment, comment_of, then_symbols, read_symbols, own_gate, with_gate, then_groups, then_edge, read_gates, after_sections, then_line, read_section, read_sections, begin, after_header, read_lines, read_file}
use Rattle.gi_aiger.proofs.Adding.{adds, is_gate, line_same}
use Rattle.gi_aiger.proofs.Marking.{rows_keep, rows_define}
use Rattle.gi_aiger.proofs.Resolving.{place_or}

abbrev Apart : Told → Type 0
Apart told = IsDistinct told.gates

-- behind the gates
symbols_apart : (h : Head) (k : ℕ) (t : Taken) (y : List Symbol) (ls : List (List ℕ)) → IsDistinct t.gates → Apart (read_symbols h k t y ls)
unfolding read_symbols
symbols_apart h k t y [] d = d
symbols_apart h k t y (l ∷ ls) d = by_test (begins_comment l) (λ more. symbols_apart h (k + 1) t more ls d) where
  by_result : (r : Result (List Symbol) AigCode) → ((more : List Symbol) → Apart (read_symbols h (k + 1) t more ls)) → Apart (then_symbols r t k (λ more. read_symbols h (k + 1) t more ls))
  by_result (Ok more) ih = ih more
  by_result (Err c) ih = d

  by_test : (b : Bool) → ((more : List Symbol) → Apart (read_symbols h (k + 1) t more ls)) → Apart (cond b (whole h t y (Some (comment_of (joined (l ∷ ls))))) (then_symbols (add_symbol h y (bare l)) t k (λ more. read_symbols h (k + 1) t more ls)))
  by_test true ih = d
  by_test false ih = by_result (add_symbol h y (bare l)) ih

-- one gate more
last_gate : (gs : List AndGate) (g : AndGate) → gate_at (gs ++ g ∷ []) (length gs) ≡ g
last_gate [] g = refl
last_gate (x ∷ gs) g = last_gate gs g

gate_before : (gs : List AndGate) (g : AndGate) (k : ℕ) → k < length gs → gate_at (gs ++ g ∷ []) k ≡ gate_at gs k
gate_before gs g k lt = get_or_append_left gs (g ∷ []) (record { lhs = 0; rhs0 = 0; rhs1 = 0 }) k lt

-- what holds of each gate, and of one more
pub each_more : (P : ℕ → AndGate → Type 0) (gs : List AndGate) (g : AndGate) → ((k : ℕ) → k < length gs → P k (gate_at gs k)) → P (length gs) g → (k : ℕ) → k < length (gs ++ g ∷ []) → P k (gate_at (gs ++ g ∷ []) k)
each_more P gs g each last k lt = elim (place_or k (length gs)) [
  | inl t ↦ subst (P k) (sym (gate_before gs g k t)) (each k t)
  | inr f ↦ let same : k ≡ length gs = omega (arith, lt, f, length-append gs (g ∷ [])) in subst (λ (i : ℕ). P i (gate_at (gs ++ g ∷ []) i)) (sym same) (subst (P (length gs)) (sym (last_gate gs g)) last)
]

-- binary gates are numbered
pub record Numbered (h : Head) (t : Taken) : Type 0 where
  pub each : (k : ℕ) → k < length t.gates → (gate_at t.gates k).lhs ≡ 2 * (h.inputs + h.latches + k + 1)

pub numbered_distinct : (h : Head) (t : Taken) → Numbered h t → IsDistinct t.gates
numbered_distinct h t n = record { apart = λ j k a b e. same j k (n.each j a) (n.each k b) e } where
  same : (j k : ℕ) → (gate_at t.gates j).lhs ≡ 2 * (h.inputs + h.latches + j + 1) → (gate_at t.gates k).lhs ≡ 2 * (h.inputs + h.latches + k + 1) → (gate_at t.gates j).lhs / 2 ≡ (gate_at t.gates k).lhs / 2 → j ≡ k
  same j k a b e = omega (arith, a, b, e)

pub one_numbered : (h : Head) (t : Taken) (e l : ℕ) → Numbered h t → Numbered h (with_gate t (own_gate h t) e l)
one_numbered h t e l n = record { each = each_more (λ k g. g.lhs ≡ 2 * (h.inputs + h.latches + k + 1)) t.gates (record { lhs = own_gate h t; rhs0 = e; rhs1 = l }) n.each refl }

gates_numbered : (h : Head) (k n : ℕ) (t : Taken) (bytes : List ℕ) → Numbered h t → Apart (read_gates h k n t bytes)
unfolding read_gates
gates_numbered h k zero t bytes num = symbols_apart h k t [] (lines_of bytes) (numbered_distinct h t num)
gates_numbered h k (suc n) t bytes num = by_first (groups_at bytes) (λ e l more. gates_numbered h k n (with_gate t (own_gate h t) e l) more (one_numbered h t e l num)) where
  stands : IsDistinct t.gates
  stands = numbered_distinct h t num

  by_lesser : (r : Result ℕ AigCode) (e : ℕ) (more : List ℕ) → ((e l : ℕ) (more : List ℕ) → Apart (read_gates h k n (with_gate t (own_gate h t) e l) more)) → Apart (then_edge r (gate_stopped t k) (λ l. read_gates h k n (with_gate t (own_gate h t) e l) more))
  by_lesser (Ok l) e more ih = ih e l more
  by_lesser (Err c) e more ih = stands

  by_second : (o : Option (List ℕ × List ℕ)) (e : ℕ) → ((e l : ℕ) (more : List ℕ) → Apart (read_gates h k n (with_gate t (own_gate h t) e l) more))
      → Apart (then_groups o (gate_stopped t k End) (λ second more. then_edge (lesser_at e (difference_of second)) (gate_stopped t k) (λ l. read_gates h k n (with_gate t (own_gate h t) e l) more)))
  by_second None e ih = stands
  by_second (Some p) e ih = by_lesser (lesser_at e (difference_of p.0)) e p.1 ih

  by_greater : (r : Result ℕ AigCode) (rest : List ℕ) → ((e l : ℕ) (more : List ℕ) → Apart (read_gates h k n (with_gate t (own_gate h t) e l) more))
      → Apart (then_edge r (gate_stopped t k) (λ e. then_groups (groups_at rest) (gate_stopped t k End) (λ second more. then_edge (lesser_at e (difference_of second)) (gate_stopped t k) (λ l. read_gates h k n (with_gate t (own_gate h t) e l) more))))
  by_greater (Ok e) rest ih = by_second (groups_at rest) e ih
  by_greater (Err c) rest ih = stands

  by_first : (o : Option (List ℕ × List ℕ)) → ((e l : ℕ) (more : List ℕ) → Apart (read_gates h k n (with_gate t (own_gate h t) e l) more))
      → Apart (then_groups o (gate_stopped t k End) (λ first rest. then_edge (greater_at (own_gate h t) (difference_of first)) (gate_stopped t k) (λ e.
      then_groups (groups_at rest) (gate_stopped t k End) (λ second more. then_edge (lesser_at e (difference_of second)) (gate_stopped t k) (λ l. read_gates h k n (with_gate t (own_gate h t) e l) more)))))
  by_first None ih = stands
  by_first (Some p) ih = by_greater (greater_at (own_gate h t) (difference_of p.0)) p.1 ih

-- sections of lines: what each line keeps
abbrev pub Keeps : Head → (Taken → Type 0) → Section → Type 0
Keeps h P s = (t u : Taken) (line : List ℕ) → P t → add_line h t s line ≡ Ok u → P u

abbrev pub AllKeep : Head → (Taken → Type 0) → List Section → Type 0
AllKeep h P [] = Unit {0}
AllKeep h P (s ∷ ss) = Keeps h P s × AllKeep h P ss

section_apart : (h : Head) (P : Taken → Type 0) (s : Section) (next : ℕ → Taken → List (List ℕ) → Told) → ((t : Taken) → P t → IsDistinct t.gates) → Keeps h P s → ((k : ℕ) (u : Taken) (ls : List (List ℕ)) → P u → Apart (next k u ls))
    → (n k : ℕ) (t : Taken) (ls : List (List ℕ)) → P t → Apart (read_section h s n k t ls next)
unfolding read_section
section_apart h P s next now keeps nx zero k t ls p = nx k t ls p
section_apart h P s next now keeps nx (suc n) k t [] p = now t p
section_apart h P s next now keeps nx (suc n) k t (l ∷ ls) p = by_result (add_line h t s (bare l)) refl (λ u q. section_apart h P s next now keeps nx n (k + 1) u ls q) where
  by_result : (r : Result Taken AigCode) → add_line h t s (bare l) ≡ r → ((u : Taken) → P u → Apart (read_section h s n (k + 1) u ls next)) → Apart (then_line r t k (λ u. read_section h s n (k + 1) u ls next))
  by_result (Ok u) e ih = ih u (keeps t u (bare l) p e)
  by_result (Err c) e ih = now t p

sections_apart : (h : Head) (P : Taken → Type 0) (ss : List Section) → ((t : Taken) → P t → IsDistinct t.gates) → AllKeep h P ss → ((k : ℕ) (u : Taken) (ls : List (List ℕ)) → P u → Apart (after_sections h.form h k u ls))
    → (k : ℕ) (t : Taken) (ls : List (List ℕ)) → P t → Apart (read_sections h ss k t ls)
unfolding read_sections
sections_apart h P [] now keep nx k t ls p = nx k t ls p
sections_apart h P (s ∷ ss) now keep nx k t ls p = section_apart h P s (λ k u more. read_sections h ss k u more) now keep.0 (λ k u more q. sections_apart h P ss now keep.1 nx k u more q) (left_in h t s) k t ls p

-- the ASCII form: what gates define is marked
pub record Marked (t : Taken) : Type 0 where
  pub each : (k : ℕ) → k < length t.gates → mark_at t.marks ((gate_at t.gates k).lhs / 2) ≡ marks.Defined
  pub apart : IsDistinct t.gates

fresh_is : (ms : List Mark) (v w : ℕ) → is_known (Some v) ms ≡ false → mark_at ms w ≡ marks.Defined → w ≡ v → ⊥
fresh_is ms v w nk d e = let t : is_defined (mark_at ms v) ≡ true = ap is_defined (ap (mark_at ms) (sym e) ∙ d) in cc

-- a line that is no gate's
plain_marked : (t : Taken) (row : Row) → (with_line t row).gates ≡ t.gates → (with_line t row).marks ≡ marked row t.marks → Marked t → Marked (with_line t row)
plain_marked t row gates ms m = record { each = λ k lt. each k (subst (λ (gs : List AndGate). k < length gs) gates lt); apart = subst (λ (gs : List AndGate). IsDistinct gs) (sym gates) m.apart } where
  each : (k : ℕ) → k < length t.gates → mark_at (with_line t row).marks ((gate_at (with_line t row).gates k).lhs / 2) ≡ marks.Defined
  each k lt =
      ap (λ (xs : List Mark). mark_at xs ((gate_at (with_line t row).gates k).lhs / 2)) ms ∙ ap (λ (gs : List AndGate). mark_at (marked row t.marks) ((gate_at gs k).lhs / 2)) gates
      ∙ rows_keep (row ∷ []) ((gate_at t.gates k).lhs / 2) t.marks (m.each k lt)

-- and a gate's
gate_marked : (t : Taken) (g : AndGate) → is_known (Some (g.lhs / 2)) t.marks ≡ false → Marked t → Marked (with_line t (rows.Gate g))
gate_marked t g nk m = record {
  each = each_more (λ k x. mark_at (marked (rows.Gate g) t.marks) (x.lhs / 2) ≡ marks.Defined) t.gates g (λ k lt. rows_keep (rows.Gate g ∷ []) ((gate_at t.gates k).lhs / 2) t.marks (m.each k lt)) (rows_define (rows.Gate g ∷ []) (g.lhs / 2) t.marks (0, omega arith, refl));
  apart = record { apart = λ j k a b e. by_place j k (place_or j (length t.gates)) (place_or k (length t.gates)) a b e };
} where
  len : length (t.gates ++ g ∷ []) ≡ length t.gates + 1
  len = length-append t.gates (g ∷ [])

  other : (j k : ℕ) → j < length t.gates → k ≡ length t.gates → (gate_at (t.gates ++ g ∷ []) j).lhs / 2 ≡ (gate_at (t.gates ++ g ∷ []) k).lhs / 2 → ⊥
  other j k lt at e =
      fresh_is t.marks (g.lhs / 2) ((gate_at t.gates j).lhs / 2) nk (m.each j lt)
      (ap (λ (x : AndGate). x.lhs / 2) (sym (gate_before t.gates g j lt)) ∙ e ∙ ap (λ (i : ℕ). (gate_at (t.gates ++ g ∷ []) i).lhs / 2) at ∙ ap (λ (x : AndGate). x.lhs / 2) (last_gate t.gates g))

  by_place : (j k : ℕ) → (j < length t.gates) ⊎ (length t.gates ≤ j) → (k < length t.gates) ⊎ (length t.gates ≤ k) → j < length (t.gates ++ g ∷ []) → k < length (t.gates ++ g ∷ []) → (gate_at (t.gates ++ g ∷ []) j).lhs / 2 ≡ (gate_at (t.gates ++ g ∷ []) k).lhs / 2 → j ≡ k
  by_place j k (inl p) (inl q) a b e = m.apart.apart j k p q (ap (λ (x : AndGate). x.lhs / 2) (sym (gate_before t.gates g j p)) ∙ e ∙ ap (λ (x : AndGate). x.lhs / 2) (gate_before t.gates g k q))
  by_place j k (inl p) (inr q) a b e = absurd (other j k p (omega (arith, b, q, len)) e)
  by_place j k (inr p) (inl q) a b e = absurd (other k j q (omega (arith, a, p, len)) (sym e))
  by_place j k (inr p) (inr q) a b e = omega (arith, a, b, p, q, len)

row_marked : (t : Taken) (row : Row) → is_known (defined_by row) t.marks ≡ false → Marked t → Marked (with_line t row)
row_marked t (rows.Input l) nk m = plain_marked t (rows.Input l) refl refl m
row_marked t (rows.Latch l) nk m = plain_marked t (rows.Latch l) refl refl m
row_marked t (rows.Out l) nk m = plain_marked t (rows.Out l) refl refl m
row_marked t (rows.Bad l) nk m = plain_marked t (rows.Bad l) refl refl m
row_marked t (rows.Con l) nk m = plain_marked t (rows.Con l) refl refl m
row_marked t (rows.Size n) nk m = plain_marked t (rows.Size n) refl refl m
row_marked t (rows.Justice l) nk m = plain_marked t (rows.Justice l) refl refl m
row_marked t (rows.Fair l) nk m = plain_marked t (rows.Fair l) refl refl m
row_marked t (rows.Gate g) nk m = gate_marked t g nk m

ok_is : {t u : Taken} → ◌≡◌ {A = Result Taken AigCode} (Ok t) (Ok u) → u ≡ t
ok_is e = cc

ascii_keeps : (h : Head) (s : Section) → h.form ≡ Ascii → Keeps h Marked s
ascii_keeps h s form t u line m e =
    let a = adds h t u s line e in
    by_known a.row (is_known (defined_by a.row) t.marks) refl (ap (λ (f : Form). add_by f h t a.row) (sym form) ∙ a.added) where
      by_check : (row : Row) (b : Bool) → is_known (defined_by row) t.marks ≡ false → cond b (Err Undefined) (Ok (with_line t row)) ≡ Ok u → Marked u
      by_check row true nk e = absurd cc
      by_check row false nk e = subst Marked (sym (ok_is e)) (row_marked t row nk m)

      by_known : (row : Row) (b : Bool) → is_known (defined_by row) t.marks ≡ b → cond b (Err Defined) (checked h (with_line t row)) ≡ Ok u → Marked u
      by_known row true nk e = absurd cc
      by_known row false nk e = by_check row (nat_lt (to_come h (with_line t row)) (missing (with_line t row).marks)) nk e

ascii_all : (h : Head) → h.form ≡ Ascii → (ss : List Section) → AllKeep h Marked ss
ascii_all h form [] = tt
ascii_all h form (s ∷ ss) = (ascii_keeps h s form, ascii_all h form ss)

-- the binary form: gates are no lines
abbrev IsEmpty : Taken → Type 0
IsEmpty t = t.gates ≡ []

binary_keeps : (h : Head) (s : Section) → is_gate s ≡ false → Keeps h IsEmpty s
binary_keeps h s plain t u line none e = line_same h t u s line plain e ∙ none

binary_all : (h : Head) → AllKeep h IsEmpty (sections_of Binary)
unfolding is_gate
binary_all h = (binary_keeps h sections.Input refl, (binary_keeps h sections.Latch refl, (binary_keeps h sections.Out refl, (binary_keeps h sections.Bad refl, (binary_keeps h sections.Con refl, (binary_keeps h sections.Size refl, (binary_keeps h sections.Justice refl, (binary_keeps h sections.Fair refl, tt))))))))

none_apart : (gs : List AndGate) → gs ≡ [] → IsDistinct gs
none_apart gs e = record { apart = λ j k a b same. absurd (omega (arith, a, ap length e)) }

none_numbered : (h : Head) (t : Taken) → t.gates ≡ [] → Numbered h t
none_numbered h t e = record { each = λ k lt. absurd (omega (arith, lt, ap length e)) }

none_marked : (h : Head) → Marked (begin h)
none_marked h = record { each = λ k lt. absurd (omega arith); apart = none_apart [] refl }

header_apart : (r : Result Head AigCode) (ls : List (List ℕ)) → Apart (after_header r ls)
header_apart (Ok h) ls = by_form h.form refl where
  by_form : (f : Form) → h.form ≡ f → Apart (read_sections h (sections_of f) 2 (begin h) ls)
  by_form Ascii e = sections_apart h Marked (sections_of Ascii) (λ t m. m.apart) (ascii_all h e (sections_of Ascii)) (λ k u more m. ascii_after k u more m) 2 (begin h) ls (none_marked h) where
    ascii_after : (k : ℕ) (u : Taken) (more : List (List ℕ)) → Marked u → Apart (after_sections h.form h k u more)
    ascii_after k u more m = subst (λ (f : Form). Apart (after_sections f h k u more)) (sym e) (symbols_apart h k u [] more m.apart)
  by_form Binary e = sections_apart h IsEmpty (sections_of Binary) (λ t none. none_apart t.gates none) (binary_all h) (λ k u more none. binary_after k u more none) 2 (begin h) ls refl where
    binary_after : (k : ℕ) (u : Taken) (more : List (List ℕ)) → IsEmpty u → Apart (after_sections h.form h k u more)
    binary_after k u more none = subst (λ (f : Form). Apart (after_sections f h k u more)) (sym e) (gates_numbered h k (left_in h u sections.Gate) u (joined more) (none_numbered h u none))
header_apart (Err c) ls = none_apart [] refl

lines_apart : (ls : List (List ℕ)) → Apart (read_lines ls)
lines_apart [] = none_apart [] refl
lines_apart (l ∷ ls) = header_apart (header_of (bare l)) ls

pub gates_apart : (bytes : List ℕ) → IsDistinct (read_file bytes).gates
unfolding read_file
gates_apart bytes = lines_apart (lines_of bytes)
