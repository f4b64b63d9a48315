-- The text of a numbered value is read as that value.
use Rattle.std.proofs.Common.{◌≡◌, ℕ, zero, suc, ◌+◌, ◌*◌, ◌-◌, ◌<◌, ◌≤◌, Bool, true, false, cond, List, [], ◌∷◌, ◌++◌, length, map, drop, decimal, inl, Result, Ok, refl, ap, sym, ◌∙◌, subst, append_assoc, arith}
use Rattle.std.specs.Prelude.{◌==◌}
use Rattle.std.specs.List.{flat_map, AllByRecursion}
use Rattle.std.proofs.lemmas.List.{take_at, drop_at}
use Rattle.std.proofs.lemmas.List.Concat.{flat_map-append}
use Rattle.gi_aiger.specs.declared.aig.Aig.{Aig}
use Rattle.gi_aiger.specs.declared.aig.AndGate.{AndGate}
use Rattle.gi_aiger.specs.declared.aig.Latch.{Latch}
use Rattle.gi_aiger.specs.declared.fault.AigCode.{AigCode}
use Rattle.gi_aiger.specs.declared.fault.AigFault.{AigFault}
use Rattle.gi_aiger.specs.declared.head.Form.TheVariants.{Binary}
use Rattle.gi_aiger.specs.declared.head.Head.{Head}
use Rattle.gi_aiger.specs.declared.row.Section.TheVariants as sections
use Rattle.gi_aiger.specs.declared.row.Row.TheVariants as rows
use Rattle.gi_aiger.specs.declared.taken.Taken.{Taken}
use Rattle.gi_aiger.specs.Answers.{Answer}
use Rattle.gi_aiger.specs.Header.{header_of}
use Rattle.gi_aiger.specs.Levels.{gate_at, HasLevels}
use Rattle.gi_aiger.specs.Lines.{lines_of}
use Rattle.gi_aiger.specs.Sections.{left_in, sections_of}
use Rattle.gi_aiger.specs.Symbols.{places_of}
use Rattle.gi_aiger.specs.Texts.{count_text, further_text, number_line, number_lines, symbol_line, comment_text}
use Rattle.gi_aiger.specs.Evens.{evens}
use Rattle.gi_aiger.specs.Files.{Told, shares, aig_of, whole, read_gates, read_sections, begin, after_header, read_lines, read_file}
use Rattle.gi_aiger.proofs.Lining.{joined_lines, bare_whole}
use Rattle.gi_aiger_binary.specs.Texts.{head_text, latch_line, gate_text, binary_text}
use Rattle.gi_aiger_binary.specs.Numbered.{evens_from, IsFalling, IsNumbered, IsInLimits, AreWithin, head_of_aig}
use Rattle.gi_aiger_binary.proofs.Headed.{head_words, header_read, plain_head_words, head_written}
use Rattle.gi_aiger_binary.proofs.Rowed.{line_first, section_done, all_outs, all_bads, all_cons, all_justice, all_fair, all_sizes}
use Rattle.gi_aiger_binary.proofs.Latched.{words_of, all_latches, takes_latches, takes_outs, takes_bads, takes_cons, takes_justice, takes_fair, takes_sizes}
use Rattle.gi_aiger_binary.proofs.Gated.{gates_read}
use Rattle.gi_aiger_binary.proofs.Named.{symbols_read}
use Rattle.gi_aiger.specs.Limits.{most_items}

shares_all : (lists : List (List ℕ)) → shares (map (λ (p : List ℕ). length p) lists) (flat_map (λ p. p) lists) ≡ lists
unfolding shares
shares_all [] = refl
shares_all (p ∷ ps) =
    ap (λ (xs : List ℕ). xs ∷ shares (map (λ (p : List ℕ). length p) ps) (drop (length p) (p ++ flat_map (λ p. p) ps))) (take_at p (flat_map (λ p. p) ps) (length p) refl)
    ∙ ap (λ (xs : List ℕ). p ∷ shares (map (λ (p : List ℕ). length p) ps) xs) (drop_at p (flat_map (λ p. p) ps) (length p) refl)
    ∙ ap (λ (ls : List (List ℕ)). p ∷ ls) (shares_all ps)

from-push : (v n : ℕ) → evens_from v n ++ 2 * (v + n) ∷ [] ≡ evens_from v (suc n)
from-push v zero = ap (λ (k : ℕ). 2 * k ∷ []) (let e : v + 0 ≡ v = omega arith in e)
from-push v (suc n) =
    ap (λ (k : ℕ). 2 * v ∷ (evens_from (suc v) n ++ 2 * k ∷ [])) (let e : v + suc n ≡ suc v + n = omega arith in e)
    ∙ ap (λ (xs : List ℕ). 2 * v ∷ xs) (from-push (suc v) n)

evens_are : (n : ℕ) → evens n ≡ evens_from 1 n
unfolding evens
evens_are zero = refl
evens_are (suc n) =
    ap (λ (xs : List ℕ). xs ++ 2 * (n + 1) ∷ []) (evens_are n)
    ∙ ap (λ (k : ℕ). evens_from 1 n ++ 2 * k ∷ []) (let e : n + 1 ≡ 1 + n = omega arith in e)
    ∙ from-push 1 n

length-from : (v n : ℕ) → length (evens_from v n) ≡ n
length-from v zero = refl
length-from v (suc n) = ap suc (length-from (suc v) n)

length-evens : (n : ℕ) → length (evens n) ≡ n
length-evens n = ap (λ (xs : List ℕ). length xs) (evens_are n) ∙ length-from 1 n

lists_text : (lists : List (List ℕ)) → flat_map number_lines lists ≡ number_lines (flat_map (λ p. p) lists)
lists_text [] = refl
lists_text (p ∷ ps) = ap (λ (xs : List ℕ). number_lines p ++ xs) (lists_text ps) ∙ sym (flat_map-append number_line p (flat_map (λ p. p) ps))

reassoc : (h l o b c s j f g y m : List ℕ) → (((((((((h ++ l) ++ o) ++ b) ++ c) ++ s) ++ j) ++ f) ++ g) ++ y) ++ m ≡ h ++ (l ++ (o ++ (b ++ (c ++ (s ++ (j ++ (f ++ (g ++ (y ++ m)))))))))
reassoc h l o b c s j f g y m =
    append_assoc ((((((((h ++ l) ++ o) ++ b) ++ c) ++ s) ++ j) ++ f) ++ g) y m
    ∙ append_assoc (((((((h ++ l) ++ o) ++ b) ++ c) ++ s) ++ j) ++ f) g (y ++ m)
    ∙ append_assoc ((((((h ++ l) ++ o) ++ b) ++ c) ++ s) ++ j) f (g ++ (y ++ m))
    ∙ append_assoc (((((h ++ l) ++ o) ++ b) ++ c) ++ s) j (f ++ (g ++ (y ++ m)))
    ∙ append_assoc ((((h ++ l) ++ o) ++ b) ++ c) s (j ++ (f ++ (g ++ (y ++ m))))
    ∙ append_assoc (((h ++ l) ++ o) ++ b) c (s ++ (j ++ (f ++ (g ++ (y ++ m)))))
    ∙ append_assoc ((h ++ l) ++ o) b (c ++ (s ++ (j ++ (f ++ (g ++ (y ++ m))))))
    ∙ append_assoc (h ++ l) o (b ++ (c ++ (s ++ (j ++ (f ++ (g ++ (y ++ m)))))))
    ∙ append_assoc h l (o ++ (b ++ (c ++ (s ++ (j ++ (f ++ (g ++ (y ++ m))))))))

-- a gate of a numbered value
record Placed (v k : ℕ) (g : AndGate) : Type 0 where
  lhs : g.lhs ≡ 2 * (v + k)
  falls : IsFalling g

placed : (gs : List AndGate) (v : ℕ) → map (λ (g : AndGate). g.lhs) gs ≡ evens_from v (length gs) → AllByRecursion IsFalling gs → (k : ℕ) → k < length gs → Placed v k (gate_at gs k)
placed [] v e falls k lt = absurd (omega arith)
placed (g ∷ gs) v e falls zero lt = record { lhs = (let own : g.lhs ≡ 2 * v = cc in omega (arith, own)); falls = falls.0 }
placed (g ∷ gs) v e falls (suc k) lt =
    let more : map (λ (g : AndGate). g.lhs) gs ≡ evens_from (suc v) (length gs) = cc in
    let p = placed gs (suc v) more falls.1 k (omega arith) in
    record { lhs = p.lhs ∙ (let e : 2 * (suc v + k) ≡ 2 * (v + suc k) = omega arith in e); falls = p.falls }

pub gates_have_levels : (gs : List AndGate) (v : ℕ) → map (λ (g : AndGate). g.lhs) gs ≡ evens_from v (length gs) → AllByRecursion IsFalling gs → HasLevels gs
gates_have_levels gs v e falls = record {
  level = λ x. x;
  left = λ k lt. (let p = placed gs v e falls k lt in omega (arith, p.lhs, p.falls.0));
  right = λ k lt. (let p = placed gs v e falls k lt in omega (arith, p.lhs, p.falls.0, p.falls.1));
}

either_le : (b : Bool) (x y n : ℕ) → x ≤ n → y ≤ n → cond b x y ≤ n
either_le true x y n a b = a
either_le false x y n a b = b

-- what stands behind each section
abbrev taken_of : List ℕ → List Latch → List ℕ → List ℕ → List ℕ → List ℕ → ℕ → List ℕ → List ℕ → List AndGate → Taken
taken_of inputs latches outs bads cons sizes total justice fair gates = record { inputs = inputs; latches = latches; outs = outs; bads = bads; cons = cons; sizes = sizes; total = total; justice = justice; fair = fair; gates = gates; marks = [] }

module _ (w : Aig) (n : IsNumbered w) (l : IsInLimits w) where
  abbrev h : Head
  h = head_of_aig w

  abbrev most : ℕ
  most = length w.inputs + length w.latches + length w.gates

  within : (ls : List ℕ) → AreWithin w.max ls → AreWithin most ls
  within ls a = subst (λ (m : ℕ). AreWithin m ls) n.max a

  abbrev all : List ℕ
  all = flat_map (λ p. p) w.justice

  abbrev sizes : List ℕ
  sizes = map (λ (p : List ℕ). length p) w.justice

  abbrev read : Taken
  read = taken_of (evens (length w.inputs)) w.latches w.outs w.bads w.cons sizes (length all) all w.fair []

  abbrev lines_end : ℕ
  lines_end = 2 + 0 + length w.latches + length w.outs + length w.bads + length w.cons + length w.justice + length all + length w.fair

  sections_read : (rest : List ℕ) → read_sections h (sections_of Binary) 2 (begin h) (lines_of (flat_map latch_line w.latches ++ (number_lines w.outs ++ (number_lines w.bads ++ (number_lines w.cons ++ (flat_map (λ p. number_line (length p)) w.justice ++ (number_lines all ++ (number_lines w.fair ++ rest)))))))) ≡ read_sections h [] lines_end read (lines_of rest)
  sections_read rest =
      let ins = evens (length w.inputs) in
      let ni = length-evens (length w.inputs) in
      section_done h sections.Input (sections.Latch ∷ sections.Out ∷ sections.Bad ∷ sections.Con ∷ sections.Size ∷ sections.Justice ∷ sections.Fair ∷ []) decimal rows.Input [] 2 (taken_of ins [] [] [] [] [] 0 [] [] []) (taken_of ins [] [] [] [] [] 0 [] [] []) (flat_map latch_line w.latches ++ (number_lines w.outs ++ (number_lines w.bads ++ (number_lines w.cons ++ (flat_map (λ p. number_line (length p)) w.justice ++ (number_lines all ++ (number_lines w.fair ++ rest))))))) (omega (arith, ni)) tt refl
      ∙ section_done h sections.Latch (sections.Out ∷ sections.Bad ∷ sections.Con ∷ sections.Size ∷ sections.Justice ∷ sections.Fair ∷ []) words_of rows.Latch w.latches (2 + 0) (taken_of ins [] [] [] [] [] 0 [] [] []) (taken_of ins w.latches [] [] [] [] 0 [] [] []) (number_lines w.outs ++ (number_lines w.bads ++ (number_lines w.cons ++ (flat_map (λ p. number_line (length p)) w.justice ++ (number_lines all ++ (number_lines w.fair ++ rest)))))) (omega arith) (all_latches w l.variables (taken_of ins [] [] [] [] [] 0 [] [] []) w.latches (n.latches ∙ ap (λ (k : ℕ). evens_from k (length w.latches)) (let e : length w.inputs + 1 ≡ length w.inputs + 0 + 1 = omega arith in e)) (omega arith) (within (map (λ (x : Latch). x.next) w.latches) n.nexts)) (takes_latches (taken_of ins [] [] [] [] [] 0 [] [] []) w.latches)
      ∙ section_done h sections.Out (sections.Bad ∷ sections.Con ∷ sections.Size ∷ sections.Justice ∷ sections.Fair ∷ []) decimal rows.Out w.outs (2 + 0 + length w.latches) (taken_of ins w.latches [] [] [] [] 0 [] [] []) (taken_of ins w.latches w.outs [] [] [] 0 [] [] []) (number_lines w.bads ++ (number_lines w.cons ++ (flat_map (λ p. number_line (length p)) w.justice ++ (number_lines all ++ (number_lines w.fair ++ rest))))) (omega arith) (all_outs w l.variables (taken_of ins w.latches [] [] [] [] 0 [] [] []) w.outs (within w.outs n.outs)) (takes_outs (taken_of ins w.latches [] [] [] [] 0 [] [] []) w.outs)
      ∙ section_done h sections.Bad (sections.Con ∷ sections.Size ∷ sections.Justice ∷ sections.Fair ∷ []) decimal rows.Bad w.bads (2 + 0 + length w.latches + length w.outs) (taken_of ins w.latches w.outs [] [] [] 0 [] [] []) (taken_of ins w.latches w.outs w.bads [] [] 0 [] [] []) (number_lines w.cons ++ (flat_map (λ p. number_line (length p)) w.justice ++ (number_lines all ++ (number_lines w.fair ++ rest)))) (omega arith) (all_bads w l.variables (taken_of ins w.latches w.outs [] [] [] 0 [] [] []) w.bads (within w.bads n.bads)) (takes_bads (taken_of ins w.latches w.outs [] [] [] 0 [] [] []) w.bads)
      ∙ section_done h sections.Con (sections.Size ∷ sections.Justice ∷ sections.Fair ∷ []) decimal rows.Con w.cons (2 + 0 + length w.latches + length w.outs + length w.bads) (taken_of ins w.latches w.outs w.bads [] [] 0 [] [] []) (taken_of ins w.latches w.outs w.bads w.cons [] 0 [] [] []) (flat_map (λ p. number_line (length p)) w.justice ++ (number_lines all ++ (number_lines w.fair ++ rest))) (omega arith) (all_cons w l.variables (taken_of ins w.latches w.outs w.bads [] [] 0 [] [] []) w.cons (within w.cons n.cons)) (takes_cons (taken_of ins w.latches w.outs w.bads [] [] 0 [] [] []) w.cons)
      ∙ section_done h sections.Size (sections.Justice ∷ sections.Fair ∷ []) (λ p. decimal (length p)) (λ (p : List ℕ). rows.Size (length p)) w.justice (2 + 0 + length w.latches + length w.outs + length w.bads + length w.cons) (taken_of ins w.latches w.outs w.bads w.cons [] 0 [] [] []) (taken_of ins w.latches w.outs w.bads w.cons sizes (length all) [] [] []) (number_lines all ++ (number_lines w.fair ++ rest)) (omega arith) (all_sizes w l.variables (taken_of ins w.latches w.outs w.bads w.cons [] 0 [] [] []) w.justice (let s = l.sizes in omega arith)) (takes_sizes (taken_of ins w.latches w.outs w.bads w.cons [] 0 [] [] []) w.justice ∙ ap (λ (k : ℕ). taken_of ins w.latches w.outs w.bads w.cons sizes k [] [] []) (let e : 0 + length all ≡ length all = omega arith in e))
      ∙ section_done h sections.Justice (sections.Fair ∷ []) decimal rows.Justice all (2 + 0 + length w.latches + length w.outs + length w.bads + length w.cons + length w.justice) (taken_of ins w.latches w.outs w.bads w.cons sizes (length all) [] [] []) (taken_of ins w.latches w.outs w.bads w.cons sizes (length all) all [] []) (number_lines w.fair ++ rest) (omega arith) (all_justice w l.variables (taken_of ins w.latches w.outs w.bads w.cons sizes (length all) [] [] []) all (within all n.justice)) (takes_justice (taken_of ins w.latches w.outs w.bads w.cons sizes (length all) [] [] []) all)
      ∙ section_done h sections.Fair [] decimal rows.Fair w.fair (2 + 0 + length w.latches + length w.outs + length w.bads + length w.cons + length w.justice + length all) (taken_of ins w.latches w.outs w.bads w.cons sizes (length all) all [] []) read rest (omega arith) (all_fair w l.variables (taken_of ins w.latches w.outs w.bads w.cons sizes (length all) all [] []) w.fair (within w.fair n.fair)) (takes_fair (taken_of ins w.latches w.outs w.bads w.cons sizes (length all) all [] []) w.fair)

  abbrev read_whole : Taken
  read_whole = taken_of (evens (length w.inputs)) w.latches w.outs w.bads w.cons sizes (length all) all w.fair w.gates

  places_le : (kind : ℕ) → places_of h kind ≤ most_items
  places_le kind =
      let v = l.variables in
      either_le (kind == 105) _ _ most_items (omega arith) (either_le (kind == 108) _ _ most_items (omega arith) (either_le (kind == 111) _ _ most_items l.outs (either_le (kind == 98) _ _ most_items l.bads (either_le (kind == 99) _ _ most_items l.cons (either_le (kind == 106) _ _ most_items l.justice (either_le (kind == 102) _ _ most_items l.fair (omega arith)))))))

  behind_lines : read_sections h [] lines_end read (lines_of (flat_map gate_text w.gates ++ (flat_map symbol_line w.symbols ++ comment_text w.comment))) ≡ whole h read_whole w.symbols w.comment
  unfolding read_sections read_gates
  behind_lines =
      ap (read_gates h lines_end (left_in h read sections.Gate) read) (joined_lines (flat_map gate_text w.gates ++ (flat_map symbol_line w.symbols ++ comment_text w.comment)))
      ∙ ap (λ (k : ℕ). read_gates h lines_end k read (flat_map gate_text w.gates ++ (flat_map symbol_line w.symbols ++ comment_text w.comment))) (let e : length w.gates - 0 ≡ length w.gates = omega arith in e)
      ∙ gates_read h lines_end w.gates read (flat_map symbol_line w.symbols ++ comment_text w.comment) (n.gates ∙ ap (λ (k : ℕ). evens_from k (length w.gates)) (let e : length w.inputs + length w.latches + 1 ≡ length w.inputs + length w.latches + 0 + 1 = omega arith in e)) n.falling (let v = l.variables in omega arith)
      ∙ symbols_read h places_le read_whole w.comment w.symbols [] lines_end l.symbols

  -- the header's line as a function of its first count
  abbrev head_with : ℕ → List ℕ
  head_with m = (((97 ∷ 105 ∷ 103 ∷ []) ++ ((((count_text m ++ count_text (length w.inputs)) ++ count_text (length w.latches)) ++ count_text (length w.outs)) ++ count_text (length w.gates))) ++ further_text (length w.bads) (length w.cons) (length w.justice) (length w.fair)) ++ 10 ∷ []

  abbrev pub words : List ℕ
  words = head_words w l.variables l.outs l.bads l.cons l.justice l.fair

  abbrev pub body : List ℕ
  body = flat_map latch_line w.latches ++ (number_lines w.outs ++ (number_lines w.bads ++ (number_lines w.cons ++ (flat_map (λ p. number_line (length p)) w.justice ++ (number_lines all ++ (number_lines w.fair ++ (flat_map gate_text w.gates ++ (flat_map symbol_line w.symbols ++ comment_text w.comment))))))))

  pub text_is : binary_text w ≡ words ++ 10 ∷ body
  unfolding binary_text
  text_is =
      reassoc (head_text w) (flat_map latch_line w.latches) (number_lines w.outs) (number_lines w.bads) (number_lines w.cons) (flat_map (λ p. number_line (length p)) w.justice) (flat_map number_lines w.justice) (number_lines w.fair) (flat_map gate_text w.gates) (flat_map symbol_line w.symbols) (comment_text w.comment)
      ∙ ap (λ (xs : List ℕ). head_text w ++ (flat_map latch_line w.latches ++ (number_lines w.outs ++ (number_lines w.bads ++ (number_lines w.cons ++ (flat_map (λ p. number_line (length p)) w.justice ++ (xs ++ (number_lines w.fair ++ (flat_map gate_text w.gates ++ (flat_map symbol_line w.symbols ++ comment_text w.comment)))))))))) (lists_text w.justice)
      ∙ ap (λ (m : ℕ). head_with m ++ body) n.max
      ∙ ap (λ (xs : List ℕ). (xs ++ 10 ∷ []) ++ body) (head_written w l.variables l.outs l.bads l.cons l.justice l.fair)
      ∙ append_assoc words (10 ∷ []) body

  pub file_read : read_file (binary_text w) ≡ whole h read_whole w.symbols w.comment
  unfolding read_file
  file_read =
      ap (λ (xs : List ℕ). read_lines (lines_of xs)) text_is
      ∙ ap read_lines (line_first words body (plain_head_words w l.variables l.outs l.bads l.cons l.justice l.fair))
      ∙ ap (λ (xs : List ℕ). after_header (header_of xs) (lines_of body)) (bare_whole words [] (plain_head_words w l.variables l.outs l.bads l.cons l.justice l.fair))
      ∙ ap (λ (r : Result Head AigCode). after_header r (lines_of body)) (header_read w l.variables l.outs l.bads l.cons l.justice l.fair)
      ∙ sections_read (flat_map gate_text w.gates ++ (flat_map symbol_line w.symbols ++ comment_text w.comment))
      ∙ behind_lines

  value_is : w ≡ aig_of h read_whole w.symbols w.comment
  value_is = λ i. record {
    max = n.max i;
    inputs = (n.inputs ∙ sym (evens_are (length w.inputs))) i;
    latches = w.latches;
    outs = w.outs;
    bads = w.bads;
    cons = w.cons;
    justice = sym (shares_all w.justice) i;
    fair = w.fair;
    gates = w.gates;
    symbols = w.symbols;
    comment = w.comment;
  }

  abbrev Value : Type 0
  Value = Result Aig AigFault

  abbrev value : Aig → Value
  value v = Ok v

  pub answered : Answer (read_file (binary_text w)) (Ok w)
  answered = subst (λ (told : Told). Answer told (Ok w)) (sym file_read) (inl (gates_have_levels w.gates (length w.inputs + length w.latches + 1) n.gates n.falling, ap value value_is))
