-- The machine reads what the file says.
use Rattle.std.proofs.Common.{◌≡◌, ℕ, zero, suc, ◌+◌, nat_lt, List, [], ◌∷◌, ◌++◌, length, Bool, true, false, cond, inl, inr, Option, Some, None, option_map, Result, Ok, Err, refl, ap, sym, ◌∙◌, append_assoc, arith, subst, length-append}
use Rattle.std.specs.Prelude.{◌==◌}
use Rattle.std.specs.Global.{Global}
use Rattle.std.proofs.lemmas.Bool.{ne_eqb, lt-ltb, le-ltb}
use Rattle.std.proofs.lemmas.List.{append-nil}
use Rattle.gi_aiger.specs.declared.aig.Symbol.{Symbol}
use Rattle.gi_aiger.specs.declared.fault.AigCode.{AigCode}
use Rattle.gi_aiger.specs.declared.fault.AigCode.TheVariants.{End}
use Rattle.gi_aiger.specs.declared.head.Form.{Form}
use Rattle.gi_aiger.specs.declared.head.Form.TheVariants.{Ascii, Binary}
use Rattle.gi_aiger.specs.declared.head.Head.{Head}
use Rattle.gi_aiger.specs.declared.row.Section.{Section}
use Rattle.gi_aiger.specs.declared.row.Section.TheVariants.{Input, Latch, Out, Bad, Con, Size, Justice, Fair, Gate}
use Rattle.gi_aiger.specs.declared.taken.Taken.{Taken}
use Rattle.gi_aiger.specs.declared.phase.Phase.{Phase}
use Rattle.gi_aiger.specs.declared.phase.Phase.TheVariants.{Heading, Rows, Gates, Naming}
use Rattle.gi_aiger.specs.declared.machine.Machine.{Machine}
use Rattle.gi_aiger.specs.Header.{header_of}
use Rattle.gi_aiger.specs.Lines.{lines_of, bare, joined}
use Rattle.gi_aiger.specs.Taking.{nothing, add_line}
use Rattle.gi_aiger.specs.Sections.{left_in, gate_lines, behind, sections_of, first_left}
use Rattle.gi_aiger.specs.Groups.{groups_at, difference_of, greater_at, lesser_at}
use Rattle.gi_aiger.specs.Named.{add_symbol}
use Rattle.gi_aiger.specs.Files.{Told, gate_stopped, whole, begins_comment, comment_of, then_symbols, read_symbols, own_gate, with_gate, then_groups, then_edge, read_gates, after_sections, then_line, read_section, read_sections, begin, after_header, read_lines, read_file}
use Rattle.gi_aiger.specs.Machine.{no_head, start, head_ends, row_ends, symbol_ends, gates_or_names, phase_after, phase_of, phase_from, difference_ends, greater_ends, lesser_ends, line_ends, take_byte, answer_now, answer, run}
use Rattle.gi_aiger.proofs.Lining.{AreLines, lines_are, joined_lines}
use Rattle.gi_aiger.proofs.Runs.{at, run-cons, run-nil, last_is, failed_answer, line_is, name_line, comment_line}
use Rattle.gi_aiger.proofs.Adding.{one_less}

rest_lines : (l : List ℕ) (ls : List (List ℕ)) → AreLines (l ∷ ls) → AreLines ls
rest_lines l ls (inl q) = q.3
rest_lines l ls (inr q) = subst AreLines (sym q.4) tt

-- symbols and the comment
pub reads_symbols : (a : Global) (k : ℕ) (h : Head) (t : Taken) (y : List Symbol) (ls : List (List ℕ)) → AreLines ls → answer (run (at a k Naming h [] t y []) (joined ls)) ≡ read_symbols h k t y ls
unfolding read_symbols
reads_symbols a k h t y [] lines = ap answer (run-nil (at a k Naming h [] t y [])) ∙ last_is (at a k Naming h [] t y []) refl
reads_symbols a k h t y (l ∷ ls) lines = by_test (begins_comment l) refl (λ more. reads_symbols a (k + 1) h t more ls (rest_lines l ls lines)) where
  by_result : (r : Result (List Symbol) AigCode) → ((more : List Symbol) → answer (run (at a (k + 1) Naming h [] t more []) (joined ls)) ≡ read_symbols h (k + 1) t more ls)
      → answer (run (symbol_ends r (at a k Naming h (bare l) t y [])) (joined ls)) ≡ then_symbols r t k (λ more. read_symbols h (k + 1) t more ls)
  by_result (Ok more) ih = ih more
  by_result (Err c) ih = failed_answer a k 0 c h t y [] (joined ls)

  by_test : (b : Bool) → begins_comment l ≡ b → ((more : List Symbol) → answer (run (at a (k + 1) Naming h [] t more []) (joined ls)) ≡ read_symbols h (k + 1) t more ls)
      → answer (run (at a k Naming h [] t y []) (joined (l ∷ ls))) ≡ cond b (whole h t y (Some (comment_of (joined (l ∷ ls))))) (then_symbols (add_symbol h y (bare l)) t k (λ more. read_symbols h (k + 1) t more ls))
  by_test true e ih = comment_line a k h t y [] l ls e lines
  by_test false e ih = name_line a k h t y [] l ls e lines ∙ by_result (add_symbol h y (bare l)) ih

-- the groups of a difference
abbrev Groups : Global → ℕ → Option ℕ → Head → List ℕ → Taken → List ℕ → Option (List ℕ × List ℕ) → Type 0
Groups a k g h w t bytes None = run (at a k (Gates g) h w t [] []) bytes ≡ at a k (Gates g) h (w ++ bytes) t [] []
Groups a k g h w t bytes (Some p) = run (at a k (Gates g) h w t [] []) bytes ≡ run (difference_ends g (w ++ p.0) (at a k (Gates g) h [] t [] [])) p.1

greater_free : (r : Result ℕ AigCode) (a : Global) (k : ℕ) (g : Option ℕ) (h : Head) (w : List ℕ) (t : Taken) → greater_ends r (at a k (Gates g) h w t [] []) ≡ greater_ends r (at a k (Gates g) h [] t [] [])
greater_free (Ok e) a k g h w t = refl
greater_free (Err c) a k g h w t = refl

lesser_free : (r : Result ℕ AigCode) (e : ℕ) (a : Global) (k : ℕ) (g : Option ℕ) (h : Head) (w : List ℕ) (t : Taken) → lesser_ends r (at a k (Gates g) h w t [] []) e ≡ lesser_ends r (at a k (Gates g) h [] t [] []) e
lesser_free (Ok l) e a k g h w t = refl
lesser_free (Err c) e a k g h w t = refl

word_free : (g : Option ℕ) (groups : List ℕ) (a : Global) (k : ℕ) (f : Option ℕ) (h : Head) (w : List ℕ) (t : Taken) → difference_ends g groups (at a k (Gates f) h w t [] []) ≡ difference_ends g groups (at a k (Gates f) h [] t [] [])
word_free None groups a k f h w t = greater_free (greater_at (own_gate h t) (difference_of groups)) a k f h w t
word_free (Some e) groups a k f h w t = lesser_free (lesser_at e (difference_of groups)) e a k f h w t

gate_byte : (a : Global) (k : ℕ) (g : Option ℕ) (h : Head) (w : List ℕ) (t : Taken) (b : ℕ) → take_byte (at a k (Gates g) h w t [] []) b ≡ cond (nat_lt b 128) (difference_ends g (w ++ b ∷ []) (at a k (Gates g) h w t [] [])) (at a k (Gates g) h (w ++ b ∷ []) t [] [])
unfolding take_byte
gate_byte a k g h w t b = refl

groups_run : (a : Global) (k : ℕ) (g : Option ℕ) (h : Head) (t : Taken) (bytes w : List ℕ) → Groups a k g h w t bytes (groups_at bytes)
unfolding groups_at
groups_run a k g h t [] w = run-nil (at a k (Gates g) h w t [] []) ∙ ap (λ (v : List ℕ). at a k (Gates g) h v t [] []) (sym (append-nil w))
groups_run a k g h t (b ∷ bs) w = by_last (nat_lt b 128) refl (groups_run a k g h t bs (w ++ b ∷ [])) where
  first : run (at a k (Gates g) h w t [] []) (b ∷ bs) ≡ run (cond (nat_lt b 128) (difference_ends g (w ++ b ∷ []) (at a k (Gates g) h w t [] [])) (at a k (Gates g) h (w ++ b ∷ []) t [] [])) bs
  first = run-cons (at a k (Gates g) h w t [] []) b bs ∙ ap (λ (s : Machine). run s bs) (gate_byte a k g h w t b)

  more : (o : Option (List ℕ × List ℕ)) → nat_lt b 128 ≡ false → Groups a k g h (w ++ b ∷ []) t bs o → Groups a k g h w t (b ∷ bs) (option_map (λ p. (b ∷ p.0, p.1)) o)
  more None e ih =
      first ∙ ap (λ (f : Bool). run (cond f (difference_ends g (w ++ b ∷ []) (at a k (Gates g) h w t [] [])) (at a k (Gates g) h (w ++ b ∷ []) t [] [])) bs) e ∙ ih
      ∙ ap (λ (v : List ℕ). at a k (Gates g) h v t [] []) (append_assoc w (b ∷ []) bs)
  more (Some p) e ih =
      first ∙ ap (λ (f : Bool). run (cond f (difference_ends g (w ++ b ∷ []) (at a k (Gates g) h w t [] [])) (at a k (Gates g) h (w ++ b ∷ []) t [] [])) bs) e ∙ ih
      ∙ ap (λ (v : List ℕ). run (difference_ends g v (at a k (Gates g) h [] t [] [])) p.1) (append_assoc w (b ∷ []) p.0)

  by_last : (f : Bool) → nat_lt b 128 ≡ f → Groups a k g h (w ++ b ∷ []) t bs (groups_at bs) → Groups a k g h w t (b ∷ bs) (cond f (Some (b ∷ [], bs)) (option_map (λ p. (b ∷ p.0, p.1)) (groups_at bs)))
  by_last true e ih =
      first ∙ ap (λ (f : Bool). run (cond f (difference_ends g (w ++ b ∷ []) (at a k (Gates g) h w t [] [])) (at a k (Gates g) h (w ++ b ∷ []) t [] [])) bs) e
      ∙ ap (λ (s : Machine). run s bs) (word_free g (w ++ b ∷ []) a k g h w t)
  by_last false e ih = more (groups_at bs) e ih

-- the input ends in a gate
same_cond : {A : Type 0} (b : Bool) (x : A) → cond b x x ≡ x
same_cond true x = refl
same_cond false x = refl

gate_answer : (a : Global) (k : ℕ) (g : Option ℕ) (h : Head) (w : List ℕ) (t : Taken) → answer (at a k (Gates g) h w t [] []) ≡ gate_stopped t k End
unfolding answer line_ends
gate_answer a k g h w t = ap answer_now (same_cond (length w == 0) (at a k (Gates g) h w t [] []))

-- what follows a gate's first difference, and its second
abbrev Behind : Head → ℕ → Taken → ℕ → Option (List ℕ × List ℕ) → (Taken → List ℕ → Told) → Told
Behind h k t e o next = then_groups o (gate_stopped t k End) (λ second more. then_edge (lesser_at e (difference_of second)) (gate_stopped t k) (λ l. next (with_gate t (own_gate h t) e l) more))

second_run : (a : Global) (k : ℕ) (h : Head) (t : Taken) (e : ℕ) (bytes : List ℕ) (next : Taken → List ℕ → Told)
    → ((l : ℕ) (more : List ℕ) → answer (run (at a k (gates_or_names h (with_gate t (own_gate h t) e l)) h [] (with_gate t (own_gate h t) e l) [] []) more) ≡ next (with_gate t (own_gate h t) e l) more)
    → answer (run (at a k (Gates (Some e)) h [] t [] []) bytes) ≡ Behind h k t e (groups_at bytes) next
second_run a k h t e bytes next ih = by_groups (groups_at bytes) (groups_run a k (Some e) h t bytes []) where
  by_edge : (r : Result ℕ AigCode) (more : List ℕ) → answer (run (lesser_ends r (at a k (Gates (Some e)) h [] t [] []) e) more) ≡ then_edge r (gate_stopped t k) (λ l. next (with_gate t (own_gate h t) e l) more)
  by_edge (Ok l) more = ih l more
  by_edge (Err c) more = failed_answer a k (length t.gates + 1) c h t [] [] more

  by_groups : (o : Option (List ℕ × List ℕ)) → Groups a k (Some e) h [] t bytes o → answer (run (at a k (Gates (Some e)) h [] t [] []) bytes) ≡ Behind h k t e o next
  by_groups None d = ap answer d ∙ gate_answer a k (Some e) h bytes t
  by_groups (Some p) d = ap answer d ∙ by_edge (lesser_at e (difference_of p.0)) p.1

names_now : (h : Head) (t : Taken) → left_in h t Gate ≡ 0 → gates_or_names h t ≡ Naming
names_now h t e = ap (λ (b : Bool). cond b (Gates None) Naming) (le-ltb (length t.gates) h.gates (omega (arith, e)))

gates_now : (h : Head) (t : Taken) (n : ℕ) → left_in h t Gate ≡ suc n → gates_or_names h t ≡ Gates None
gates_now h t n e = ap (λ (b : Bool). cond b (Gates None) Naming) (lt-ltb (length t.gates) h.gates (omega (arith, e)))

pub reads_gates : (a : Global) (h : Head) (n k : ℕ) (t : Taken) (bytes : List ℕ) → left_in h t Gate ≡ n → answer (run (at a k (gates_or_names h t) h [] t [] []) bytes) ≡ read_gates h k n t bytes
unfolding read_gates
reads_gates a h zero k t bytes left =
    ap (λ (p : Phase). answer (run (at a k p h [] t [] []) bytes)) (names_now h t left) ∙ ap (λ (bs : List ℕ). answer (run (at a k Naming h [] t [] []) bs)) (sym (joined_lines bytes))
    ∙ reads_symbols a k h t [] (lines_of bytes) (lines_are bytes)
reads_gates a h (suc n) k t bytes left =
    ap (λ (p : Phase). answer (run (at a k p h [] t [] []) bytes)) (gates_now h t n left)
    ∙ by_groups (groups_at bytes) (groups_run a k None h t bytes []) (λ e l more. reads_gates a h n k (with_gate t (own_gate h t) e l) more (fewer e l)) where
      fewer : (e l : ℕ) → left_in h (with_gate t (own_gate h t) e l) Gate ≡ n
      fewer e l = omega (arith, left, length-append t.gates (record { lhs = own_gate h t; rhs0 = e; rhs1 = l } ∷ []))

      by_edge : (r : Result ℕ AigCode) (more : List ℕ)
          → ((e l : ℕ) (more : List ℕ) → answer (run (at a k (gates_or_names h (with_gate t (own_gate h t) e l)) h [] (with_gate t (own_gate h t) e l) [] []) more) ≡ read_gates h k n (with_gate t (own_gate h t) e l) more)
          → answer (run (greater_ends r (at a k (Gates None) h [] t [] [])) more) ≡ then_edge r (gate_stopped t k) (λ e. Behind h k t e (groups_at more) (read_gates h k n))
      by_edge (Ok e) more ih = second_run a k h t e more (read_gates h k n) (ih e)
      by_edge (Err c) more ih = failed_answer a k (length t.gates + 1) c h t [] [] more

      by_groups : (o : Option (List ℕ × List ℕ)) → Groups a k None h [] t bytes o
          → ((e l : ℕ) (more : List ℕ) → answer (run (at a k (gates_or_names h (with_gate t (own_gate h t) e l)) h [] (with_gate t (own_gate h t) e l) [] []) more) ≡ read_gates h k n (with_gate t (own_gate h t) e l) more)
          → answer (run (at a k (Gates None) h [] t [] []) bytes) ≡ then_groups o (gate_stopped t k End) (λ first rest. then_edge (greater_at (own_gate h t) (difference_of first)) (gate_stopped t k) (λ e. Behind h k t e (groups_at rest) (read_gates h k n)))
      by_groups None d ih = ap answer d ∙ gate_answer a k None h bytes t
      by_groups (Some p) d ih = ap answer d ∙ by_edge (greater_at (own_gate h t) (difference_of p.0)) p.1 ih

-- sections of lines
abbrev pub Next : Global → Head → List Section → (ℕ → Taken → List (List ℕ) → Told) → Type 0
Next a h ss next = (k : ℕ) (u : Taken) (ls : List (List ℕ)) → AreLines ls → answer (run (at a k (phase_from h u ss) h [] u [] []) (joined ls)) ≡ next k u ls

none_left : (h : Head) (t : Taken) (s : Section) (ss : List Section) → left_in h t s ≡ 0 → first_left h t (s ∷ ss) ≡ first_left h t ss
unfolding first_left
none_left h t s ss e = rw e refl

some_left : (h : Head) (t : Taken) (s : Section) (ss : List Section) (n : ℕ) → left_in h t s ≡ suc n → first_left h t (s ∷ ss) ≡ Some s
unfolding first_left
some_left h t s ss n e = rw (ne_eqb (left_in h t s) 0 (λ z. omega (arith, e, z))) refl

row_line : (a : Global) (k : ℕ) (s : Section) (h : Head) (w : List ℕ) (t : Taken) → line_ends (at a k (Rows s) h w t [] []) ≡ row_ends s (add_line h t s w) (at a k (Rows s) h w t [] [])
unfolding line_ends
row_line a k s h w t = refl

reads_section : (a : Global) (h : Head) (s : Section) (next : ℕ → Taken → List (List ℕ) → Told) → Next a h (behind h.form s) next → (n k : ℕ) (t : Taken) (ls : List (List ℕ)) → left_in h t s ≡ n → AreLines ls
    → answer (run (at a k (phase_from h t (s ∷ behind h.form s)) h [] t [] []) (joined ls)) ≡ read_section h s n k t ls next
unfolding read_section
reads_section a h s next nx zero k t ls left lines = ap (λ (o : Option Section). answer (run (at a k (phase_of h t o) h [] t [] []) (joined ls))) (none_left h t s (behind h.form s) left) ∙ nx k t ls lines
reads_section a h s next nx (suc n) k t [] left lines =
    ap (λ (o : Option Section). answer (run (at a k (phase_of h t o) h [] t [] []) [])) (some_left h t s (behind h.form s) n left)
    ∙ ap answer (run-nil (at a k (Rows s) h [] t [] [])) ∙ last_is (at a k (Rows s) h [] t [] []) refl
reads_section a h s next nx (suc n) k t (l ∷ ls) left lines =
    ap (λ (o : Option Section). answer (run (at a k (phase_of h t o) h [] t [] []) (joined (l ∷ ls)))) (some_left h t s (behind h.form s) n left)
    ∙ line_is a k (Rows s) h t [] [] l ls refl lines ∙ ap (λ (m : Machine). answer (run m (joined ls))) (row_line a k s h (bare l) t)
    ∙ by_result (add_line h t s (bare l)) refl (λ u fewer. reads_section a h s next nx n (k + 1) u ls fewer (rest_lines l ls lines)) where
      by_result : (r : Result Taken AigCode) → add_line h t s (bare l) ≡ r
          → ((u : Taken) → left_in h u s ≡ n → answer (run (at a (k + 1) (phase_from h u (s ∷ behind h.form s)) h [] u [] []) (joined ls)) ≡ read_section h s n (k + 1) u ls next)
          → answer (run (row_ends s r (at a k (Rows s) h (bare l) t [] [])) (joined ls)) ≡ then_line r t k (λ u. read_section h s n (k + 1) u ls next)
      by_result (Ok u) e ih = ih u (one_less h t u s (bare l) n e left)
      by_result (Err c) e ih = failed_answer a k 0 c h (record t { marks = [] }) [] [] (joined ls)

step : (a : Global) (h : Head) (s : Section) → Next a h (behind h.form s) (read_sections h (behind h.form s)) → Next a h (s ∷ behind h.form s) (read_sections h (s ∷ behind h.form s))
unfolding read_sections
step a h s nx = λ k u ls lines. reads_section a h s (λ k u more. read_sections h (behind h.form s) k u more) nx (left_in h u s) k u ls refl lines

no_more : (h : Head) (u : Taken) → first_left h u [] ≡ None
unfolding first_left
no_more h u = refl

base : (a : Global) (h : Head) → Next a h [] (read_sections h [])
unfolding read_sections
base a h = λ k u ls lines. ap (λ (o : Option Section). answer (run (at a k (phase_of h u o) h [] u [] []) (joined ls))) (no_more h u) ∙ by_form h.form k u ls lines where
  by_form : (f : Form) (k : ℕ) (u : Taken) (ls : List (List ℕ)) → AreLines ls → answer (run (at a k (phase_after f h u) h [] u [] []) (joined ls)) ≡ after_sections f h k u ls
  by_form Ascii k u ls lines = reads_symbols a k h u [] ls lines
  by_form Binary k u ls lines = reads_gates a h (left_in h u Gate) k u (joined ls) refl

gates_next : (a : Global) (h : Head) → Next a h (gate_lines h.form) (read_sections h (gate_lines h.form))
gates_next a h = by_form h.form where
  by_form : (f : Form) → Next a h (gate_lines f) (read_sections h (gate_lines f))
  by_form Ascii = step a h Gate (base a h)
  by_form Binary = base a h

all_next : (a : Global) (h : Head) → Next a h (sections_of h.form) (read_sections h (sections_of h.form))
all_next a h = step a h Input (step a h Latch (step a h Out (step a h Bad (step a h Con (step a h Size (step a h Justice (step a h Fair (gates_next a h))))))))

-- the whole file
head_line : (a : Global) (w : List ℕ) → line_ends (at a 1 Heading no_head w nothing [] []) ≡ head_ends (header_of w) (at a 1 Heading no_head w nothing [] [])
unfolding line_ends
head_line a w = refl

reads_lines : (a : Global) (ls : List (List ℕ)) → AreLines ls → answer (run (start a) (joined ls)) ≡ read_lines ls
reads_lines a [] lines = ap answer (run-nil (start a)) ∙ last_is (start a) refl
reads_lines a (l ∷ ls) lines = line_is a 1 Heading no_head nothing [] [] l ls refl lines ∙ ap (λ (m : Machine). answer (run m (joined ls))) (head_line a (bare l)) ∙ by_result (header_of (bare l)) where
  by_result : (r : Result Head AigCode) → answer (run (head_ends r (at a 1 Heading no_head (bare l) nothing [] [])) (joined ls)) ≡ after_header r ls
  by_result (Ok h) = all_next a h 2 (begin h) ls (rest_lines l ls lines)
  by_result (Err c) = failed_answer a 1 0 c no_head nothing [] [] (joined ls)

pub reads_all : (a : Global) (bytes : List ℕ) → answer (run (start a) bytes) ≡ read_file bytes
unfolding read_file
reads_all a bytes = ap (λ (bs : List ℕ). answer (run (start a) bs)) (sym (joined_lines bytes)) ∙ reads_lines a (lines_of bytes) (lines_are bytes)
