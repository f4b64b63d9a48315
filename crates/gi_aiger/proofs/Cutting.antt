-- The lines up to the one that a fault names show it.
use Rattle.std.proofs.Common.{◌≡◌, ◌≢◌, ℕ, zero, suc, ◌+◌, ◌<◌, ◌≤◌, List, [], ◌∷◌, ◌++◌, length, map, take, Bool, true, false, cond, inl, inr, Option, Some, None, Result, Ok, Err, refl, ap, sym, ◌∙◌, subst, arith, length-append, append_assoc}
use Rattle.gi_aiger.specs.declared.aig.Aig.{Aig}
use Rattle.gi_aiger.specs.declared.aig.AndGate.{AndGate}
use Rattle.gi_aiger.specs.declared.aig.Symbol.{Symbol}
use Rattle.gi_aiger.specs.declared.fault.AigCode.{AigCode}
use Rattle.gi_aiger.specs.declared.fault.AigCode.TheVariants.{End}
use Rattle.gi_aiger.specs.declared.fault.AigFault.{AigFault}
use Rattle.gi_aiger.specs.declared.head.Form.{Form}
use Rattle.gi_aiger.specs.declared.head.Form.TheVariants.{Ascii, Binary}
use Rattle.gi_aiger.specs.declared.head.Head.{Head}
use Rattle.gi_aiger.specs.declared.row.Section.{Section}
use Rattle.gi_aiger.specs.declared.row.Section.TheVariants as sections
use Rattle.gi_aiger.specs.declared.row.Row.{Row}
use Rattle.gi_aiger.specs.declared.row.Row.TheVariants as rows
use Rattle.gi_aiger.specs.declared.taken.Taken.{Taken}
use Rattle.gi_aiger.specs.Header.{header_of}
use Rattle.gi_aiger.specs.Lines.{lines_of, bare, joined, text_of}
use Rattle.gi_aiger.specs.Taking.{nothing, with_row, add_line}
use Rattle.gi_aiger.specs.Sections.{left_in, sections_of}
use Rattle.gi_aiger.specs.Groups.{groups_at, difference_of, greater_at, lesser_at}
use Rattle.gi_aiger.specs.Named.{add_symbol}
use Rattle.gi_aiger.specs.Files.{Told, gates_line, stopped, gate_stopped, whole, begins_comment, comment_of, then_symbols, read_symbols, own_gate, with_gate, then_groups, then_edge, read_gates, after_sections, then_line, read_section, read_sections, begin, after_header, read_lines}
use Rattle.gi_aiger.proofs.Adding.{line_counts}
use Rattle.gi_aiger.proofs.Deserving.{bare_is_plain}
use Rattle.gi_aiger.proofs.Ending.{Stand, whole_stands, stopped_stands}
use Rattle.gi_aiger.proofs.Failing.{line_of, code_of}
use Rattle.gi_aiger.proofs.Growing.{Grown, stays, grown_then, first_grown, line_grown}
use Rattle.gi_aiger.proofs.Lining.{AreLines, bare_whole, bare_plain}
use Rattle.gi_aiger.proofs.Runs.{cut_no}
use Rattle.gi_aiger.proofs.Wording.{one_line}

-- a line with its LF
abbrev pub whole_line : List ℕ → List ℕ
whole_line l = bare l ++ 10 ∷ []

pub bare_again : (l : List ℕ) → bare (whole_line l) ≡ bare l
bare_again l = bare_whole (bare l) [] (bare_is_plain l)

-- the lines of a beginning of whole lines, whatever stands behind it
pub lines_first : (ls : List (List ℕ)) (more : List ℕ) → lines_of (text_of (map bare ls) ++ more) ≡ map whole_line ls ++ lines_of more
lines_first [] more = refl
lines_first (l ∷ ls) more =
    let rest = text_of (map bare ls) in
    ap lines_of (append_assoc (bare l ++ 10 ∷ []) rest more ∙ append_assoc (bare l) (10 ∷ []) (rest ++ more)) ∙ one_line (bare l) (rest ++ more) (bare_is_plain l) ∙ ap (λ (ys : List (List ℕ)). whole_line l ∷ ys) (lines_first ls more)

-- a line that begins no comment begins none with its LF
no_comment : (l : List ℕ) (ls : List (List ℕ)) → AreLines (l ∷ ls) → begins_comment l ≡ false → begins_comment (whole_line l) ≡ false
no_comment l ls (inl q) nc = ap (λ (x : List ℕ). begins_comment (x ++ 10 ∷ [])) (ap bare q.1 ∙ bare_whole q.0 [] q.2) ∙ ap begins_comment (sym q.1) ∙ nc
no_comment l ls (inr q) nc = ap (λ (x : List ℕ). begins_comment (x ++ 10 ∷ [])) (ap bare q.2 ∙ bare_plain (q.0 ∷ q.1) q.3) ∙ cut_no q.0 q.1 (ap begins_comment (sym q.2) ∙ nc)

pub rest_lines : (l : List ℕ) (ls : List (List ℕ)) → AreLines (l ∷ ls) → AreLines ls
rest_lines l ls (inl q) = q.3
rest_lines l ls (inr q) = subst AreLines (sym q.4) tt

-- what is read from a line on: the gates that stand stay, and no fault is before it
pub record Later (k : ℕ) (t : Taken) (told : Told) : Type 0 where
  pub grown : Grown t.gates told.gates
  pub first : gates_line t ≤ told.first
  pub line : (f : AigFault) → told.read ≡ Err f → k ≤ f.line
  pub stand : Stand told

stopped_later : (t : Taken) (k g : ℕ) (c : AigCode) → Later k t (stopped t k g c)
unfolding line_of
stopped_later t k g c = record { grown = stays t.gates; first = omega arith; line = λ f e. let is : k ≡ f.line = ap line_of e in omega (arith, is); stand = stopped_stands t k g c }

whole_later : (h : Head) (t : Taken) (k : ℕ) (y : List Symbol) (c : Option (List ℕ)) → Later k t (whole h t y c)
whole_later h t k y c = record { grown = stays t.gates; first = omega arith; line = λ f e. absurd cc; stand = whole_stands h t y c }

-- from a later line on
earlier : (k l : ℕ) (t u : Taken) (told : Told) → k ≤ l → Grown t.gates u.gates → gates_line t ≤ gates_line u → Later l u told → Later k t told
earlier k l t u told le grown first z = record { grown = grown_then t.gates u.gates told.gates grown z.grown; first = omega (arith, first, z.first); line = λ f e. omega (arith, le, z.line f e); stand = z.stand }

symbols_later : (h : Head) (k : ℕ) (t : Taken) (y : List Symbol) (ls : List (List ℕ)) → Later k t (read_symbols h k t y ls)
unfolding read_symbols
symbols_later h k t y [] = whole_later h t k y None
symbols_later h k t y (l ∷ ls) = by_test (begins_comment l) (λ more. symbols_later h (k + 1) t more ls) where
  by_result : (r : Result (List Symbol) AigCode) → ((more : List Symbol) → Later (k + 1) t (read_symbols h (k + 1) t more ls)) → Later k t (then_symbols r t k (λ more. read_symbols h (k + 1) t more ls))
  by_result (Ok more) ih = earlier k (k + 1) t t (read_symbols h (k + 1) t more ls) (omega arith) (stays t.gates) (omega arith) (ih more)
  by_result (Err c) ih = stopped_later t k 0 c

  by_test : (b : Bool) → ((more : List Symbol) → Later (k + 1) t (read_symbols h (k + 1) t more ls)) → Later k t (cond b (whole h t y (Some (comment_of (joined (l ∷ ls))))) (then_symbols (add_symbol h y (bare l)) t k (λ more. read_symbols h (k + 1) t more ls)))
  by_test true ih = whole_later h t k y (Some (comment_of (joined (l ∷ ls))))
  by_test false ih = by_result (add_symbol h y (bare l)) ih

pub gates_later : (h : Head) (k n : ℕ) (t : Taken) (bytes : List ℕ) → Later k t (read_gates h k n t bytes)
unfolding read_gates
gates_later h k zero t bytes = symbols_later h k t [] (lines_of bytes)
gates_later h k (suc n) t bytes = by_first (groups_at bytes) (λ u more. gates_later h k n u more) where
  by_lesser : (r : Result ℕ AigCode) (e : ℕ) (more : List ℕ) → ((u : Taken) (more : List ℕ) → Later k u (read_gates h k n u more)) → Later k t (then_edge r (gate_stopped t k) (λ l. read_gates h k n (with_gate t (own_gate h t) e l) more))
  by_lesser (Ok l) e more ih =
      let u = with_gate t (own_gate h t) e l in
      earlier k k t u (read_gates h k n u more) (omega arith) (record { lhs = own_gate h t; rhs0 = e; rhs1 = l } ∷ [], refl) (omega arith) (ih u more)
  by_lesser (Err c) e more ih = stopped_later t k (length t.gates + 1) c

  by_second : (o : Option (List ℕ × List ℕ)) (e : ℕ) → ((u : Taken) (more : List ℕ) → Later k u (read_gates h k n u more)) → Later k t (then_groups o (gate_stopped t k End) (λ second more. then_edge (lesser_at e (difference_of second)) (gate_stopped t k) (λ l. read_gates h k n (with_gate t (own_gate h t) e l) more)))
  by_second None e ih = stopped_later t k (length t.gates + 1) End
  by_second (Some p) e ih = by_lesser (lesser_at e (difference_of p.0)) e p.1 ih

  by_greater : (r : Result ℕ AigCode) (rest : List ℕ) → ((u : Taken) (more : List ℕ) → Later k u (read_gates h k n u more)) → Later k t (then_edge r (gate_stopped t k) (λ e. then_groups (groups_at rest) (gate_stopped t k End) (λ second more. then_edge (lesser_at e (difference_of second)) (gate_stopped t k) (λ l. read_gates h k n (with_gate t (own_gate h t) e l) more))))
  by_greater (Ok e) rest ih = by_second (groups_at rest) e ih
  by_greater (Err c) rest ih = stopped_later t k (length t.gates + 1) c

  by_first : (o : Option (List ℕ × List ℕ)) → ((u : Taken) (more : List ℕ) → Later k u (read_gates h k n u more))
      → Later k t (then_groups o (gate_stopped t k End) (λ first rest. then_edge (greater_at (own_gate h t) (difference_of first)) (gate_stopped t k) (λ e. then_groups (groups_at rest) (gate_stopped t k End) (λ second more. then_edge (lesser_at e (difference_of second)) (gate_stopped t k) (λ l. read_gates h k n (with_gate t (own_gate h t) e l) more)))))
  by_first None ih = stopped_later t k (length t.gates + 1) End
  by_first (Some p) ih = by_greater (greater_at (own_gate h t) (difference_of p.0)) p.1 ih

pub section_later : (h : Head) (s : Section) (next : ℕ → Taken → List (List ℕ) → Told) → ((k : ℕ) (u : Taken) (ls : List (List ℕ)) → Later k u (next k u ls)) → (n k : ℕ) (t : Taken) (ls : List (List ℕ)) → Later k t (read_section h s n k t ls next)
unfolding read_section
section_later h s next lx zero k t ls = lx k t ls
section_later h s next lx (suc n) k t [] = stopped_later t k 0 End
section_later h s next lx (suc n) k t (l ∷ ls) = by_result (add_line h t s (bare l)) refl (λ u. section_later h s next lx n (k + 1) u ls) where
  by_result : (r : Result Taken AigCode) → add_line h t s (bare l) ≡ r → ((u : Taken) → Later (k + 1) u (read_section h s n (k + 1) u ls next)) → Later k t (then_line r t k (λ u. read_section h s n (k + 1) u ls next))
  by_result (Ok u) e ih = earlier k (k + 1) t u (read_section h s n (k + 1) u ls next) (omega arith) (line_grown h t u s (bare l) e) (line_counts h t u s (bare l) e).1 (ih u)
  by_result (Err c) e ih = stopped_later t k 0 c

after_later : (f : Form) (h : Head) (k : ℕ) (t : Taken) (ls : List (List ℕ)) → Later k t (after_sections f h k t ls)
after_later Ascii h k t ls = symbols_later h k t [] ls
after_later Binary h k t ls = gates_later h k (left_in h t sections.Gate) t (joined ls)

pub sections_later : (h : Head) (ss : List Section) (k : ℕ) (t : Taken) (ls : List (List ℕ)) → Later k t (read_sections h ss k t ls)
unfolding read_sections
sections_later h [] k t ls = after_later h.form h k t ls
sections_later h (s ∷ ss) k t ls = section_later h s (λ k u more. read_sections h ss k u more) (λ k u more. sections_later h ss k u more) (left_in h t s) k t ls

-- the lines are counted from 1
pub lines_from : (ls : List (List ℕ)) → (1 ≤ (read_lines ls).first) × ((f : AigFault) → (read_lines ls).read ≡ Err f → 1 ≤ f.line)
lines_from [] = let z = stopped_later nothing 1 0 End in (omega arith, z.line)
lines_from (l ∷ ls) = by_header (header_of (bare l)) where
  by_header : (r : Result Head AigCode) → (1 ≤ (after_header r ls).first) × ((f : AigFault) → (after_header r ls).read ≡ Err f → 1 ≤ f.line)
  by_header (Ok h) = let z = sections_later h (sections_of h.form) 2 (begin h) ls in (omega (arith, z.first), λ f e. omega (arith, z.line f e))
  by_header (Err c) = let z = stopped_later nothing 1 0 c in (omega arith, z.line)

-- the first of these lines with others behind them
abbrev pub cut : ℕ → List (List ℕ) → List (List ℕ) → List (List ℕ)
cut n ls tail = map whole_line (take n ls) ++ tail

-- a fault of some kind is at none of so many lines, some of which may not count
abbrev pub Behind : (Told → AigFault → Type 0) → ℕ → ℕ → ℕ → Told → Type 0
Behind P x k n told = (f : AigFault) → P told f → told.read ≡ Err f → k + n ≤ f.line + x

pub later_behind : (P : Told → AigFault → Type 0) (x : ℕ) (k : ℕ) (t : Taken) (told : Told) → Later k t told → Behind P x k 0 told
later_behind P x k t told z = λ f p e. omega (arith, z.line f e)

-- where a value is read of the first lines with others behind them, no fault is at one of them
pub symbols_behind : (P : Told → AigFault → Type 0) (x : ℕ) (h : Head) (tail : List (List ℕ)) (v : Aig) (n k : ℕ) (t : Taken) (y : List Symbol) (ls : List (List ℕ)) → AreLines ls → (read_symbols h k t y (cut n ls tail)).read ≡ Ok v → Behind P x k n (read_symbols h k t y ls)
unfolding read_symbols
symbols_behind P x h tail v zero k t y ls lines ok = later_behind P x k t (read_symbols h k t y ls) (symbols_later h k t y ls)
symbols_behind P x h tail v (suc n) k t y [] lines ok = λ f p e. absurd cc
symbols_behind P x h tail v (suc n) k t y (l ∷ ls) lines ok = by_test (begins_comment l) refl (λ more. symbols_behind P x h tail v n (k + 1) t more ls (rest_lines l ls lines)) where
  by_result : (r : Result (List Symbol) AigCode) → (then_symbols r t k (λ more. read_symbols h (k + 1) t more (cut n ls tail))).read ≡ Ok v
      → ((more : List Symbol) → (read_symbols h (k + 1) t more (cut n ls tail)).read ≡ Ok v → Behind P x (k + 1) n (read_symbols h (k + 1) t more ls)) → Behind P x k (suc n) (then_symbols r t k (λ more. read_symbols h (k + 1) t more ls))
  by_result (Ok more) ok ih = λ f p e. omega (arith, ih more ok f p e)
  by_result (Err c) ok ih = absurd cc

  told : begins_comment l ≡ false → (then_symbols (add_symbol h y (bare l)) t k (λ more. read_symbols h (k + 1) t more (cut n ls tail))).read ≡ Ok v
  told nc =
      ap (λ (x : List ℕ). (then_symbols (add_symbol h y x) t k (λ more. read_symbols h (k + 1) t more (cut n ls tail))).read) (sym (bare_again l))
      ∙ ap (λ (b : Bool). (cond b (whole h t y (Some (comment_of (joined (whole_line l ∷ cut n ls tail))))) (then_symbols (add_symbol h y (bare (whole_line l))) t k (λ more. read_symbols h (k + 1) t more (cut n ls tail)))).read) (sym (no_comment l ls lines nc)) ∙ ok

  by_test : (b : Bool) → begins_comment l ≡ b → ((more : List Symbol) → (read_symbols h (k + 1) t more (cut n ls tail)).read ≡ Ok v → Behind P x (k + 1) n (read_symbols h (k + 1) t more ls))
      → Behind P x k (suc n) (cond b (whole h t y (Some (comment_of (joined (l ∷ ls))))) (then_symbols (add_symbol h y (bare l)) t k (λ more. read_symbols h (k + 1) t more ls)))
  by_test true is ih = λ f p e. absurd cc
  by_test false is ih = by_result (add_symbol h y (bare l)) (told is) ih

pub section_behind : (P : Told → AigFault → Type 0) (x : ℕ) → ((told : Told) (f : AigFault) → P told f → f.code ≢ End) → (h : Head) (s : Section) (next : ℕ → Taken → List (List ℕ) → Told) (tail : List (List ℕ)) (v : Aig) → ((k : ℕ) (u : Taken) (ls : List (List ℕ)) → Later k u (next k u ls))
    → ((n k : ℕ) (u : Taken) (ls : List (List ℕ)) → AreLines ls → (next k u (cut n ls tail)).read ≡ Ok v → Behind P x k n (next k u ls))
    → (c n k : ℕ) (t : Taken) (ls : List (List ℕ)) → AreLines ls → (read_section h s c k t (cut n ls tail) next).read ≡ Ok v → Behind P x k n (read_section h s c k t ls next)
unfolding read_section code_of
section_behind P x late h s next tail v lx nx zero n k t ls lines ok = nx n k t ls lines ok
section_behind P x late h s next tail v lx nx (suc c) zero k t ls lines ok = later_behind P x k t (read_section h s (suc c) k t ls next) (section_later h s next lx (suc c) k t ls)
section_behind P x late h s next tail v lx nx (suc c) (suc n) k t [] lines ok = λ f p e. absurd (late (stopped t k 0 End) f p (sym (ap code_of e)))
section_behind P x late h s next tail v lx nx (suc c) (suc n) k t (l ∷ ls) lines ok =
    by_result (add_line h t s (bare l)) (ap (λ (x : List ℕ). (then_line (add_line h t s x) t k (λ u. read_section h s c (k + 1) u (cut n ls tail) next)).read) (sym (bare_again l)) ∙ ok) (λ u. section_behind P x late h s next tail v lx nx c n (k + 1) u ls (rest_lines l ls lines)) where
      by_result : (r : Result Taken AigCode) → (then_line r t k (λ u. read_section h s c (k + 1) u (cut n ls tail) next)).read ≡ Ok v
          → ((u : Taken) → (read_section h s c (k + 1) u (cut n ls tail) next).read ≡ Ok v → Behind P x (k + 1) n (read_section h s c (k + 1) u ls next)) → Behind P x k (suc n) (then_line r t k (λ u. read_section h s c (k + 1) u ls next))
      by_result (Ok u) ok ih = λ f p e. omega (arith, ih u ok f p e)
      by_result (Err c) ok ih = absurd cc

pub ascii_behind : (P : Told → AigFault → Type 0) (x : ℕ) → ((told : Told) (f : AigFault) → P told f → f.code ≢ End) → (h : Head) (tail : List (List ℕ)) (v : Aig) (ss : List Section) (n k : ℕ) (t : Taken) (ls : List (List ℕ)) → h.form ≡ Ascii → AreLines ls → (read_sections h ss k t (cut n ls tail)).read ≡ Ok v → Behind P x k n (read_sections h ss k t ls)
unfolding read_sections
ascii_behind P x late h tail v [] n k t ls form lines ok =
    subst (λ (f : Form). Behind P x k n (after_sections f h k t ls)) (sym form) (symbols_behind P x h tail v n k t [] ls lines (ap (λ (f : Form). (after_sections f h k t (cut n ls tail)).read) (sym form) ∙ ok))
ascii_behind P x late h tail v (s ∷ ss) n k t ls form lines ok =
    section_behind P x late h s (λ k u more. read_sections h ss k u more) tail v (λ k u more. sections_later h ss k u more) (λ n k u ls lines ok. ascii_behind P x late h tail v ss n k u ls form lines ok) (left_in h t s) n k t ls lines ok

-- and the value has the gates that are named at them
abbrev pub Has : List AndGate → ℕ → ℕ → Told → Type 0
Has gates k n told = (j : ℕ) → j < length told.gates → told.first + j < k + n → Grown (take (j + 1) told.gates) gates

pub take_front : (n : ℕ) (xs ys : List AndGate) → n ≤ length xs → take n (xs ++ ys) ≡ take n xs
take_front zero xs ys le = refl
take_front (suc n) [] ys le = absurd (omega (arith, le))
take_front (suc n) (x ∷ xs) ys le = ap (λ (gs : List AndGate). x ∷ gs) (take_front n xs ys (omega (arith, le)))

-- the value's gates begin with those that stood
value_grown : (k : ℕ) (t : Taken) (told : Told) (v : Aig) → Later k t told → told.read ≡ Ok v → Grown t.gates v.gates
value_grown k t told v z ok = subst (Grown t.gates) (z.stand v ok) z.grown

later_has : (k : ℕ) (t : Taken) (told : Told) (gates : List AndGate) → Later k t told → k ≡ gates_line t + length t.gates → Grown t.gates gates → Has gates k 0 told
later_has k t told gates z count grown = λ j lt le. by_grown z.grown j (omega (arith, z.first, count, le)) where
  by_grown : Grown t.gates told.gates → (j : ℕ) → j + 1 ≤ length t.gates → Grown (take (j + 1) told.gates) gates
  by_grown (more, e) j le =
      subst (λ (gs : List AndGate). Grown gs gates) (sym (ap (take (j + 1)) e ∙ take_front (j + 1) t.gates more le)) (first_grown (j + 1) t.gates gates grown)

pub symbols_gates : (h : Head) (k : ℕ) (t : Taken) (y : List Symbol) (ls : List (List ℕ)) → (read_symbols h k t y ls).gates ≡ t.gates
unfolding read_symbols
symbols_gates h k t y [] = refl
symbols_gates h k t y (l ∷ ls) = by_test (begins_comment l) (λ more. symbols_gates h (k + 1) t more ls) where
  by_result : (r : Result (List Symbol) AigCode) → ((more : List Symbol) → (read_symbols h (k + 1) t more ls).gates ≡ t.gates) → (then_symbols r t k (λ more. read_symbols h (k + 1) t more ls)).gates ≡ t.gates
  by_result (Ok more) ih = ih more
  by_result (Err c) ih = refl

  by_test : (b : Bool) → ((more : List Symbol) → (read_symbols h (k + 1) t more ls).gates ≡ t.gates) → (cond b (whole h t y (Some (comment_of (joined (l ∷ ls))))) (then_symbols (add_symbol h y (bare l)) t k (λ more. read_symbols h (k + 1) t more ls))).gates ≡ t.gates
  by_test true ih = refl
  by_test false ih = by_result (add_symbol h y (bare l)) ih

same_has : (k n : ℕ) (t : Taken) (told : Told) (gates : List AndGate) → told.gates ≡ t.gates → Grown t.gates gates → Has gates k n told
same_has k n t told gates same grown = λ j lt le. subst (λ (gs : List AndGate). Grown (take (j + 1) gs) gates) (sym same) (first_grown (j + 1) t.gates gates grown)

section_has : (h : Head) (s : Section) (next : ℕ → Taken → List (List ℕ) → Told) (tail : List (List ℕ)) (v : Aig) → ((k : ℕ) (u : Taken) (ls : List (List ℕ)) → Later k u (next k u ls))
    → ((n k : ℕ) (u : Taken) (ls : List (List ℕ)) → k ≡ gates_line u + length u.gates → (next k u (cut n ls tail)).read ≡ Ok v → Has v.gates k n (next k u ls))
    → (c n k : ℕ) (t : Taken) (ls : List (List ℕ)) → k ≡ gates_line t + length t.gates → (read_section h s c k t (cut n ls tail) next).read ≡ Ok v → Has v.gates k n (read_section h s c k t ls next)
unfolding read_section
section_has h s next tail v lx nx zero n k t ls count ok = nx n k t ls count ok
section_has h s next tail v lx nx (suc c) zero k t ls count ok =
    later_has k t (read_section h s (suc c) k t ls next) v.gates (section_later h s next lx (suc c) k t ls) count (value_grown k t (read_section h s (suc c) k t tail next) v (section_later h s next lx (suc c) k t tail) ok)
section_has h s next tail v lx nx (suc c) (suc n) k t [] count ok =
    same_has k (suc n) t (stopped t k 0 End) v.gates refl (value_grown k t (read_section h s (suc c) k t tail next) v (section_later h s next lx (suc c) k t tail) ok)
section_has h s next tail v lx nx (suc c) (suc n) k t (l ∷ ls) count ok =
    by_result (add_line h t s (bare l)) refl (ap (λ (x : List ℕ). (then_line (add_line h t s x) t k (λ u. read_section h s c (k + 1) u (cut n ls tail) next)).read) (sym (bare_again l)) ∙ ok) (λ u. section_has h s next tail v lx nx c n (k + 1) u ls) where
      by_result : (r : Result Taken AigCode) → add_line h t s (bare l) ≡ r → (then_line r t k (λ u. read_section h s c (k + 1) u (cut n ls tail) next)).read ≡ Ok v
          → ((u : Taken) → k + 1 ≡ gates_line u + length u.gates → (read_section h s c (k + 1) u (cut n ls tail) next).read ≡ Ok v → Has v.gates (k + 1) n (read_section h s c (k + 1) u ls next)) → Has v.gates k (suc n) (then_line r t k (λ u. read_section h s c (k + 1) u ls next))
      by_result (Ok u) e ok ih = λ j lt le. ih u (omega (arith, count, (line_counts h t u s (bare l) e).0)) ok j lt (omega (arith, le))
      by_result (Err c) e ok ih = absurd cc

pub ascii_has : (h : Head) (tail : List (List ℕ)) (v : Aig) (ss : List Section) (n k : ℕ) (t : Taken) (ls : List (List ℕ)) → h.form ≡ Ascii → k ≡ gates_line t + length t.gates → (read_sections h ss k t (cut n ls tail)).read ≡ Ok v → Has v.gates k n (read_sections h ss k t ls)
unfolding read_sections
ascii_has h tail v [] n k t ls form count ok =
    let now : (read_symbols h k t [] (cut n ls tail)).read ≡ Ok v = ap (λ (f : Form). (after_sections f h k t (cut n ls tail)).read) (sym form) ∙ ok in
    subst (λ (f : Form). Has v.gates k n (after_sections f h k t ls)) (sym form) (same_has k n t (read_symbols h k t [] ls) v.gates (symbols_gates h k t [] ls) (value_grown k t (read_symbols h k t [] (cut n ls tail)) v (symbols_later h k t [] (cut n ls tail)) now))
ascii_has h tail v (s ∷ ss) n k t ls form count ok =
    section_has h s (λ k u more. read_sections h ss k u more) tail v (λ k u more. sections_later h ss k u more) (λ n k u ls count ok. ascii_has h tail v ss n k u ls form count ok) (left_in h t s) n k t ls count ok
