-- Where a fault is answered, no continuation helps.
use Rattle.std.proofs.Common.{◌≡◌, ◌≢◌, ℕ, zero, suc, ◌+◌, ◌≤◌, List, [], ◌∷◌, ◌++◌, length, ◌<◌, ◌⊎◌, true, inl, inr, Result, Ok, Err, take, refl, ap, sym, ◌∙◌, subst, arith, length-append}
use Rattle.std.specs.Global.{Global}
use Rattle.gi_aiger.specs.declared.aig.Aig.{Aig}
use Rattle.gi_aiger.specs.declared.aig.AndGate.{AndGate}
use Rattle.gi_aiger.specs.declared.fault.AigCode.{AigCode}
use Rattle.gi_aiger.specs.declared.fault.AigCode.TheVariants.{Cycle, End}
use Rattle.gi_aiger.specs.declared.fault.AigFault.{AigFault}
use Rattle.gi_aiger.specs.declared.head.Form.TheVariants.{Ascii, Binary}
use Rattle.gi_aiger.specs.declared.head.Head.{Head}
use Rattle.gi_aiger.specs.Answers.{Answer, read_aig}
use Rattle.gi_aiger.specs.Files.{Told, begin, read_sections, after_header, read_lines, read_file}
use Rattle.gi_aiger.specs.Deltas.{AreGates}
use Rattle.gi_aiger.specs.Header.{header_of, is_within}
use Rattle.gi_aiger.specs.Laws.{LinesLast, GatesLast, LinesHelpless, GatesHelpless, AsciiHelpless, BinaryHelpless, OneAnswer, first_lines, line_feeds}
use Rattle.gi_aiger.specs.Levels.{HasLevels, ClosesCycle}
use Rattle.gi_aiger.specs.Lines.{lines_of, bare}
use Rattle.gi_aiger.specs.Relation.{IsAig, head_of_aig}
use Rattle.gi_aiger.specs.Sections.{sections_of}
use Rattle.gi_aiger.proofs.Accepting.{ascii_read, binary_read}
use Rattle.gi_aiger.proofs.Cutting.{cut, bare_again, take_front, lines_first, rest_lines, lines_from, Behind, Has, ascii_behind, ascii_has}
use Rattle.gi_aiger.proofs.Apart.{gates_apart}
use Rattle.gi_aiger.proofs.Ending.{levels_never, value_said, said_answered, answer_only, answer_is}
use Rattle.gi_aiger.proofs.Failing.{line_of, code_of, gate_of, lines_same, gates_same, lines_end}
use Rattle.gi_aiger.proofs.Falling.{binary_levels}
use Rattle.gi_aiger.proofs.Feeding.{AtGates, binary_behind}
use Rattle.gi_aiger.proofs.Fitting.{header_within}
use Rattle.gi_aiger.proofs.Growing.{Grown, file_grown}
use Rattle.gi_aiger.proofs.Lining.{AreLines, lines_are}
use Rattle.gi_aiger.proofs.OneCycle as cycles
use Rattle.gi_aiger.proofs.Settling.{file_keeps}

-- a cycle stays where further gates come
pub closes_more : (gs more : List AndGate) (k : ℕ) → ClosesCycle gs k → ClosesCycle (gs ++ more) k
closes_more gs more k c =
    let lt = c.within in
    let before : take k (gs ++ more) ≡ take k gs = take_front k gs more (omega (arith, lt)) in
    let with : take (k + 1) (gs ++ more) ≡ take (k + 1) gs = take_front (k + 1) gs more (omega (arith, lt)) in
    record { within = omega (arith, lt, length-append gs more); before = subst HasLevels (sym before) c.before; closes = λ h. c.closes (subst HasLevels with h) }

cycle_line : ℕ → ℕ → Result Aig AigFault
cycle_line k first = Err (record { line = first + k; gate = 0; code = Cycle })

-- whole lines of which a fault is answered
pub lines_last : Global → LinesLast
unfolding cycle_line
lines_last a bytes more f answer late = by_answer answer where
  whole : List ℕ
  whole = bytes ++ 10 ∷ []

  some_gate : (gs : List AndGate) (k : ℕ) → k < length gs → gs ≡ [] → ⊥
  some_gate gs k lt none = let e : length gs ≡ 0 = ap (λ (xs : List AndGate). length xs) none in omega (arith, lt, e)

  by_first : (k : ℕ) → ClosesCycle (read_file whole).gates k → Err f ≡ cycle_line k (read_file whole).first → Grown (read_file whole).gates (read_file (whole ++ more)).gates → ((read_file whole).gates ≡ []) ⊎ ((read_file (whole ++ more)).first ≡ (read_file whole).first) → Answer (read_file (whole ++ more)) (Err f)
  by_first k c e (gs, grown) (inl none) = absurd (some_gate (read_file whole).gates k c.within none)
  by_first k c e (gs, grown) (inr first) = inr (k, subst (λ (xs : List AndGate). ClosesCycle xs k) (sym grown) (closes_more (read_file whole).gates gs k c), e ∙ sym (ap (cycle_line k) first))

  by_answer : Answer (read_file whole) (Err f) → Answer (read_file (whole ++ more)) (Err f)
  by_answer (inl t) = subst (λ (told : Told). Answer told (Err f)) (sym (lines_same a bytes more f (sym t.1) late)) (inl t)
  by_answer (inr t) = by_first t.0 t.1 t.2 (file_grown a whole more (lines_end a bytes)) (file_keeps a whole more (lines_end a bytes))

pub gates_last : Global → GatesLast
unfolding gate_of
gates_last a bytes more f answer late gate = by_answer answer where
  by_answer : Answer (read_file bytes) (Err f) → Answer (read_file (bytes ++ more)) (Err f)
  by_answer (inl t) = subst (λ (told : Told). Answer told (Err f)) (sym (gates_same a bytes more f (sym t.1) late gate)) (inl t)
  by_answer (inr t) = absurd (gate (ap gate_of t.2))

-- where a fault is answered, no value is said
fault_only : (v : Aig) (bytes : List ℕ) (f : AigFault) → Answer (read_file bytes) (Err f) → IsAig v bytes → ⊥
fault_only v bytes f answer is = never (answer_only (read_file bytes) (Ok v) (Err f) (said_answered v bytes is) answer) where
  never : ◌≡◌ {A = Result Aig AigFault} (Ok v) (Err f) → ⊥
  never e = cc

pub lines_helpless : Global → LinesHelpless
lines_helpless a bytes f answer late v more is = fault_only v ((bytes ++ 10 ∷ []) ++ more) f (lines_last a bytes more f answer late) is

pub gates_helpless : Global → GatesHelpless
gates_helpless a bytes f answer late gate v more is = fault_only v (bytes ++ more) f (gates_last a bytes more f answer late gate) is

-- the lines up to the one that is named
answer_from : (told : Told) (f : AigFault) → 1 ≤ told.first → ((g : AigFault) → told.read ≡ Err g → 1 ≤ g.line) → Answer told (Err f) → 1 ≤ f.line
unfolding line_of
answer_from told f first line (inl t) = line f (sym t.1)
answer_from told f first line (inr t) = let is : f.line ≡ told.first + t.0 = ap line_of t.2 in omega (arith, first, is)

no_lines : (f : AigFault) → Answer (read_lines []) (Err f) → f.code ≢ End → ⊥
unfolding code_of
no_lines f (inl t) late = late (ap code_of t.1)
no_lines f (inr t) late = absurd (omega (arith, t.1.within))

-- a fault within lines that a value begins with
within : (told : Told) (f : AigFault) (gates : List AndGate) (m : ℕ) → Behind (λ told g. g.code ≢ End) 0 2 m told → Has gates 2 m told → HasLevels gates → f.line ≡ suc m → f.code ≢ End → Answer told (Err f) → ⊥
unfolding line_of
within told f gates m behind has levels line late (inl t) = absurd (omega (arith, line, behind f late (sym t.1)))
within told f gates m behind has levels line late (inr t) =
    let is : f.line ≡ told.first + t.0 = ap line_of t.2 in
    by_grown (has t.0 t.1.within (omega (arith, line, is))) where
      by_grown : Grown (take (t.0 + 1) told.gates) gates → ⊥
      by_grown (more, e) = cycles.stay told.gates more t.0 t.1 (subst HasLevels e levels)

within_binary : (told : Told) (f : AigFault) (gates : List ℕ) (m : ℕ) → Behind (AtGates gates) (line_feeds gates) 2 m told → HasLevels told.gates → f.line + line_feeds gates ≡ suc m → AtGates gates told f → Answer told (Err f) → ⊥
within_binary told f gates m behind levels line at (inl t) = absurd (omega (arith, line, behind f at (sym t.1)))
within_binary told f gates m behind levels line at (inr t) = levels_never told.gates t.0 levels t.1

first_of : List (List ℕ) → List ℕ
first_of [] = []
first_of (l ∷ ls) = l

-- the first lines begin with a value's header
in_lines : (h : Head) (v : Aig) (f : AigFault) (tail : List (List ℕ)) (n x : ℕ) (Q : Told → Type 0) (ls : List (List ℕ)) (head : List ℕ) (rest : List (List ℕ)) → f.line + x ≡ n → AreLines ls → Answer (read_lines ls) (Err f) → Q (read_lines ls) → f.code ≢ End → cut n ls tail ≡ head ∷ rest → header_of (bare head) ≡ Ok h → (read_lines (cut n ls tail)).read ≡ Ok v
    → ((m : ℕ) (ls : List (List ℕ)) → n ≡ suc m → AreLines ls → (read_sections h (sections_of h.form) 2 (begin h) (cut m ls tail)).read ≡ Ok v → Answer (read_sections h (sections_of h.form) 2 (begin h) ls) (Err f) → Q (read_sections h (sections_of h.form) 2 (begin h) ls) → ⊥) → ⊥
unfolding first_of
in_lines h v f tail zero x Q ls head rest line lines answer q late e header ok inside =
    let from = lines_from ls in
    absurd (omega (arith, line, answer_from (read_lines ls) f from.0 from.1 answer))
in_lines h v f tail (suc m) x Q [] head rest line lines answer q late e header ok inside = no_lines f answer late
in_lines h v f tail (suc m) x Q (l ∷ ls) head rest line lines answer q late e header ok inside =
    let again = bare_again l in
    let same : header_of (bare l) ≡ Ok h = ap header_of (sym again ∙ ap bare (ap first_of e)) ∙ header in
    let now : (after_header (Ok h) (cut m ls tail)).read ≡ Ok v = ap (λ (r : Result Head AigCode). (after_header r (cut m ls tail)).read) (sym (ap header_of again ∙ same)) ∙ ok in
    inside m ls refl (rest_lines l ls lines) now (subst (λ (r : Result Head AigCode). Answer (after_header r ls) (Err f)) same answer) (subst (λ (r : Result Head AigCode). Q (after_header r ls)) same q)

pub ascii_helpless : AsciiHelpless
unfolding read_file
ascii_helpless bytes f answer late v more is =
    let ls = lines_of bytes in
    let h = head_of_aig Ascii v in
    let tail = lines_of more in
    let lines : lines_of (first_lines f.line bytes ++ more) ≡ cut f.line ls tail = lines_first (take f.line ls) more in
    let ok : (read_lines (cut f.line ls tail)).read ≡ Ok v = ap (λ (xs : List (List ℕ)). (read_lines xs).read) (sym lines) ∙ ascii_read v (first_lines f.line bytes ++ more) is in
    in_lines h v f tail f.line 0 (λ told. Unit {0}) ls is.head (is.body ++ (is.names ++ is.rest)) (omega arith) (lines_are bytes) answer tt late (sym lines ∙ is.lines) is.header ok
    (λ m rows line lines now answer q. within (read_sections h (sections_of Ascii) 2 (begin h) rows) f v.gates m (ascii_behind (λ told g. g.code ≢ End) 0 (λ told g p. p) h tail v (sections_of Ascii) m 2 (begin h) rows refl lines now) (ascii_has h tail v (sections_of Ascii) m 2 (begin h) rows refl refl now) is.sound.levels line late answer)

-- in the binary form there are no cycles
pub binary_helpless : BinaryHelpless
unfolding read_file
binary_helpless bytes gates f answer late gate are v more is =
    let ls = lines_of bytes in
    let h = head_of_aig Binary v in
    let tail = lines_of more in
    let n = f.line + line_feeds gates in
    let lines : lines_of (first_lines n bytes ++ more) ≡ cut n ls tail = lines_first (take n ls) more in
    let ok : (read_lines (cut n ls tail)).read ≡ Ok v = ap (λ (xs : List (List ℕ)). (read_lines xs).read) (sym lines) ∙ binary_read v (first_lines n bytes ++ more) is in
    let small : is_within h ≡ true = header_within (bare is.head) h is.header in
    in_lines h v f tail n (line_feeds gates) (λ told. AreGates told.gates gates) ls is.head (is.body ++ is.behind) refl (lines_are bytes) answer are late (sym lines ∙ is.lines) is.header ok
    (λ m rows line lines now answer are. within_binary (read_sections h (sections_of Binary) 2 (begin h) rows) f gates m (binary_behind gates h more v (sections_of Binary) m 2 (begin h) rows refl small lines now) (binary_levels h rows refl) line (late, gate, are) answer)

-- bytes have the function's answer, and no other
read_is : (bytes : List ℕ) → Answer (read_file bytes) (read_aig bytes)
unfolding read_aig
read_is bytes = answer_is (read_file bytes) (gates_apart bytes)

only_read : (bytes : List ℕ) (r : Result Aig AigFault) → Answer (read_file bytes) r → r ≡ read_aig bytes
only_read bytes r answer = answer_only (read_file bytes) r (read_aig bytes) answer (read_is bytes)

was_read : (bytes : List ℕ) (r : Result Aig AigFault) → r ≡ read_aig bytes → Answer (read_file bytes) r
was_read bytes r e = subst (Answer (read_file bytes)) (sym e) (read_is bytes)

pub one_answer : OneAnswer
one_answer = record {
  only = λ bytes. answer_only (read_file bytes);
  read = λ bytes r. (only_read bytes r, was_read bytes r);
  value = λ v bytes. (λ is. sym (only_read bytes (Ok v) (said_answered v bytes is)), λ e. value_said v bytes (was_read bytes (Ok v) (sym e)));
  said = value_said;
  answered = said_answered;
}
