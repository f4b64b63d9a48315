-- What is written in the ASCII form says the value.
use Rattle.std.proofs.Common.{◌≡◌, ℕ, ◌+◌, ◌^◌, ◌<◌, ◌≤◌, nat_le, List, [], ◌∷◌, ◌++◌, length, map, decimal, Bool, true, false, ◌&&◌, not, cond, inl, inr, Some, Result, Ok, Err, refl, ap, sym, ◌∙◌, subst, arith, append_assoc}
use Rattle.std.specs.Prelude.{◌==◌, sum_by}
use Rattle.std.specs.List.{flat_map, AllByRecursion}
use Rattle.std.proofs.lemmas.Grind.{flat_map-append}
use Rattle.std.proofs.lemmas.Bool.Decides.{eqb_tells, nat_tests}
use Rattle.std.proofs.lemmas.List.{append-nil}
use Rattle.std.proofs.lemmas.List.Elements.{recursion_from_All}
use Rattle.std.proofs.lemmas.List.Folds.{flat_map-map}
use Rattle.gi_aiger.specs.declared.aig.Aig.{Aig}
use Rattle.gi_aiger.specs.declared.aig.Latch.{Latch}
use Rattle.gi_aiger.specs.declared.aig.Reset.{Reset}
use Rattle.gi_aiger.specs.declared.aig.Reset.TheVariants.{Zero, One, Free}
use Rattle.gi_aiger.specs.declared.aig.Symbol.{Symbol}
use Rattle.gi_aiger.specs.declared.fault.AigCode.{AigCode}
use Rattle.gi_aiger.specs.declared.fault.AigCode.TheVariants.{Header, Limit}
use Rattle.gi_aiger.specs.declared.head.Form.TheVariants.{Ascii}
use Rattle.gi_aiger.specs.declared.head.Head.{Head}
use Rattle.gi_aiger.specs.declared.row.Section.{Section}
use Rattle.gi_aiger.specs.declared.row.Section.TheVariants as sections
use Rattle.gi_aiger.specs.declared.row.Row.{Row}
use Rattle.gi_aiger.specs.declared.row.Row.TheVariants as rows
use Rattle.gi_aiger.specs.declared.taken.Taken.{Taken}
use Rattle.gi_aiger.specs.Fields.{with_byte, fields_of}
use Rattle.gi_aiger.specs.Header.{is_tried, is_fitting, is_wrong, is_within, judge_head, head_numbers, head_parts, head_fields, header_of}
use Rattle.gi_aiger.specs.Lines.{lines_of, bare, joined}
use Rattle.gi_aiger.specs.Sections.{sections_of}
use Rattle.gi_aiger.specs.Taking.{nothing, room}
use Rattle.gi_aiger.specs.Texts.{count_text, further_text, head_text, number_line, number_lines, latch_line, gate_line, symbol_line, comment_text, body_text, ascii_text}
use Rattle.gi_aiger.specs.Relation.{IsSound, IsAscii, head_of_aig, rows_at, rows_of}
use Rattle.gi_aiger.specs.Good.{IsTitle, IsGood}
use Rattle.gi_aiger.proofs.Lining.{IsPlain, bare_whole}
use Rattle.gi_aiger.proofs.Limiting.{AreWithin, are_within, places_low}
use Rattle.gi_aiger.proofs.Spelling.{InRange}
use Rattle.gi_aiger.proofs.Knowing.{size_in}
use Rattle.gi_aiger.proofs.Sounding.{flat_flat, flat_same, each_join}
use Rattle.gi_aiger.proofs.Accepting.{sound_range}
use Rattle.gi_aiger.proofs.Wording.{AreShort, spaced, fields_spaced, numbers_spaced, spaced_plain, row_line, IsShortRow, rows_say, EndsLine, row_ends, lines_joined, comment_rest, title_ends, titles_say}
use Rattle.gi_aiger.specs.Limits.{most_items}

-- the sections of lines
abbrev text_at : Aig → Section → List ℕ
text_at v sections.Input = number_lines v.inputs
text_at v sections.Latch = flat_map latch_line v.latches
text_at v sections.Out = number_lines v.outs
text_at v sections.Bad = number_lines v.bads
text_at v sections.Con = number_lines v.cons
text_at v sections.Size = flat_map (λ p. number_line (length p)) v.justice
text_at v sections.Justice = flat_map number_lines v.justice
text_at v sections.Fair = number_lines v.fair
text_at v sections.Gate = flat_map gate_line v.gates

section_text : (v : Aig) (s : Section) → flat_map row_line (rows_at v s) ≡ text_at v s
section_text v sections.Input = flat_map-map row_line rows.Input v.inputs
section_text v sections.Latch = flat_map-map row_line rows.Latch v.latches
section_text v sections.Out = flat_map-map row_line rows.Out v.outs
section_text v sections.Bad = flat_map-map row_line rows.Bad v.bads
section_text v sections.Con = flat_map-map row_line rows.Con v.cons
section_text v sections.Size = flat_map-map row_line (λ (p : List ℕ). rows.Size (length p)) v.justice
section_text v sections.Justice = flat_map-map row_line rows.Justice (flat_map (λ p. p) v.justice) ∙ flat_flat number_line (λ (p : List ℕ). p) v.justice
section_text v sections.Fair = flat_map-map row_line rows.Fair v.fair
section_text v sections.Gate = flat_map-map row_line rows.Gate v.gates

regroup : (h i l o b c s j f g : List ℕ) → ((((((((h ++ i) ++ l) ++ o) ++ b) ++ c) ++ s) ++ j) ++ f) ++ g ≡ h ++ (i ++ (l ++ (o ++ (b ++ (c ++ (s ++ (j ++ (f ++ (g ++ [])))))))))
regroup h i l o b c s j f g = simp (append_assoc, append-nil) refl

body_is : (v : Aig) → body_text v ≡ head_text v ++ flat_map row_line (rows_of v)
body_is v =
    regroup (head_text v) (number_lines v.inputs) (flat_map latch_line v.latches) (number_lines v.outs) (number_lines v.bads) (number_lines v.cons) (flat_map (λ p. number_line (length p)) v.justice) (flat_map number_lines v.justice) (number_lines v.fair) (flat_map gate_line v.gates)
    ∙ ap (λ (xs : List ℕ). head_text v ++ xs) (sym (flat_flat row_line (rows_at v) (sections_of Ascii) ∙ flat_same (λ s. flat_map row_line (rows_at v s)) (text_at v) (section_text v) (sections_of Ascii)))

joined_map : {A : Type 0} (f : A → List ℕ) (xs : List A) → joined (map f xs) ≡ flat_map f xs
joined_map f [] = refl
joined_map f (x ∷ xs) = ap (λ (ys : List ℕ). f x ++ ys) (joined_map f xs)

abbrev lines_in : Aig → List (List ℕ)
lines_in v = head_text v ∷ (map row_line (rows_of v) ++ map symbol_line v.symbols)

text_is : (v : Aig) → ascii_text v ≡ joined (lines_in v) ++ comment_text v.comment
unfolding ascii_text
text_is v =
    let body = map row_line (rows_of v) in
    let names = map symbol_line v.symbols in
    let parts : joined (body ++ names) ≡ flat_map row_line (rows_of v) ++ flat_map symbol_line v.symbols = flat_map-append (λ l. l) body names ∙ ap (λ (xs : List ℕ). xs ++ joined names) (joined_map row_line (rows_of v)) ∙ ap (λ (xs : List ℕ). flat_map row_line (rows_of v) ++ xs) (joined_map symbol_line v.symbols) in
    ap (λ (xs : List ℕ). (xs ++ flat_map symbol_line v.symbols) ++ comment_text v.comment) (body_is v) ∙ ap (λ (xs : List ℕ). xs ++ comment_text v.comment) (append_assoc (head_text v) (flat_map row_line (rows_of v)) (flat_map symbol_line v.symbols))
    ∙ ap (λ (xs : List ℕ). (head_text v ++ xs) ++ comment_text v.comment) (sym parts)

-- the header's numbers
abbrev further_by : Bool → Bool → Bool → Bool → ℕ → ℕ → ℕ → ℕ → List ℕ
further_by f j c b nb nc nj nf = cond f (cond j (cond c (cond b [] (nb ∷ [])) (nb ∷ nc ∷ [])) (nb ∷ nc ∷ nj ∷ [])) (nb ∷ nc ∷ nj ∷ nf ∷ [])

abbrev text_by : Bool → Bool → Bool → Bool → ℕ → ℕ → ℕ → ℕ → List ℕ
text_by f j c b nb nc nj nf = cond f (cond j (cond c (cond b [] (count_text nb)) (count_text nb ++ count_text nc)) ((count_text nb ++ count_text nc) ++ count_text nj)) (((count_text nb ++ count_text nc) ++ count_text nj) ++ count_text nf)

two_parts : (a b : List ℕ) → a ++ b ≡ a ++ (b ++ [])
two_parts a b = ap (λ (xs : List ℕ). a ++ xs) (sym (append-nil b))

three_parts : (a b c : List ℕ) → (a ++ b) ++ c ≡ a ++ (b ++ (c ++ []))
three_parts a b c = append_assoc a b c ∙ ap (λ (xs : List ℕ). a ++ xs) (two_parts b c)

four_parts : (a b c d : List ℕ) → ((a ++ b) ++ c) ++ d ≡ a ++ (b ++ (c ++ (d ++ [])))
four_parts a b c d = append_assoc (a ++ b) c d ∙ append_assoc a b (c ++ d) ∙ ap (λ (xs : List ℕ). a ++ (b ++ xs)) (two_parts c d)

five_parts : (a b c d e f : List ℕ) → ((((a ++ b) ++ c) ++ d) ++ e) ++ f ≡ a ++ (b ++ (c ++ (d ++ (e ++ f))))
five_parts a b c d e f = append_assoc (((a ++ b) ++ c) ++ d) e f ∙ append_assoc ((a ++ b) ++ c) d (e ++ f) ∙ append_assoc (a ++ b) c (d ++ (e ++ f)) ∙ append_assoc a b (c ++ (d ++ (e ++ f)))

further_spaced : (f j c b : Bool) (nb nc nj nf : ℕ) → text_by f j c b nb nc nj nf ≡ spaced (further_by f j c b nb nc nj nf)
further_spaced false j c b nb nc nj nf = four_parts (count_text nb) (count_text nc) (count_text nj) (count_text nf)
further_spaced true false c b nb nc nj nf = three_parts (count_text nb) (count_text nc) (count_text nj)
further_spaced true true false b nb nc nj nf = two_parts (count_text nb) (count_text nc)
further_spaced true true true false nb nc nj nf = sym (append-nil (count_text nb))
further_spaced true true true true nb nc nj nf = refl

further_short : (f j c b : Bool) (nb nc nj nf : ℕ) → nb ≤ most_items → nc ≤ most_items → nj ≤ most_items → nf ≤ most_items → AreShort (further_by f j c b nb nc nj nf)
further_short false j c b nb nc nj nf p q r s = (omega (arith, p), (omega (arith, q), (omega (arith, r), (omega (arith, s), tt))))
further_short true false c b nb nc nj nf p q r s = (omega (arith, p), (omega (arith, q), (omega (arith, r), tt)))
further_short true true false b nb nc nj nf p q r s = (omega (arith, p), (omega (arith, q), tt))
further_short true true true false nb nc nj nf p q r s = (omega (arith, p), tt)
further_short true true true true nb nc nj nf p q r s = tt

abbrev head_by : ℕ → ℕ → ℕ → ℕ → ℕ → ℕ → ℕ → ℕ → ℕ → Head
head_by m i l o a nb nc nj nf = record { form = Ascii; max = m; inputs = i; latches = l; outs = o; gates = a; bads = nb; cons = nc; justice = nj; fair = nf }

further_head : (m i l o a : ℕ) (f j c b : Bool) (nb nc nj nf : ℕ) → (f ≡ true → nf ≡ 0) → (j ≡ true → nj ≡ 0) → (c ≡ true → nc ≡ 0) → (b ≡ true → nb ≡ 0) → head_numbers Ascii (m ∷ i ∷ l ∷ o ∷ a ∷ further_by f j c b nb nc nj nf) ≡ judge_head (head_by m i l o a nb nc nj nf)
further_head m i l o a false j c b nb nc nj nf hf hj hc hb = refl
further_head m i l o a true false c b nb nc nj nf hf hj hc hb = ap (λ (n : ℕ). judge_head (head_by m i l o a nb nc nj n)) (sym (hf refl))
further_head m i l o a true true false b nb nc nj nf hf hj hc hb = ap (λ (n : ℕ). judge_head (head_by m i l o a nb nc 0 n)) (sym (hf refl)) ∙ ap (λ (n : ℕ). judge_head (head_by m i l o a nb nc n nf)) (sym (hj refl))
further_head m i l o a true true true false nb nc nj nf hf hj hc hb =
    ap (λ (n : ℕ). judge_head (head_by m i l o a nb 0 0 n)) (sym (hf refl)) ∙ ap (λ (n : ℕ). judge_head (head_by m i l o a nb 0 n nf)) (sym (hj refl)) ∙ ap (λ (n : ℕ). judge_head (head_by m i l o a nb n nj nf)) (sym (hc refl))
further_head m i l o a true true true true nb nc nj nf hf hj hc hb =
    ap (λ (n : ℕ). judge_head (head_by m i l o a 0 0 0 n)) (sym (hf refl)) ∙ ap (λ (n : ℕ). judge_head (head_by m i l o a 0 0 n nf)) (sym (hj refl)) ∙ ap (λ (n : ℕ). judge_head (head_by m i l o a 0 n nj nf)) (sym (hc refl)) ∙ ap (λ (n : ℕ). judge_head (head_by m i l o a n nc nj nf)) (sym (hb refl))

is_zero : (n : ℕ) → (n == 0) ≡ true → n ≡ 0
is_zero n e = elim (eqb_tells n 0) [ inl t ↦ t.1 | inr f ↦ absurd cc ]

abbrev further_of : Aig → List ℕ
further_of v = further_by (length v.fair == 0) (length v.justice == 0) (length v.cons == 0) (length v.bads == 0) (length v.bads) (length v.cons) (length v.justice) (length v.fair)

abbrev first_of : Aig → List ℕ
first_of v = v.max ∷ length v.inputs ∷ length v.latches ∷ length v.outs ∷ length v.gates ∷ []

abbrev numbers_in : Aig → List ℕ
numbers_in v = v.max ∷ length v.inputs ∷ length v.latches ∷ length v.outs ∷ length v.gates ∷ further_of v

abbrev head_word : Aig → List ℕ
head_word v = 97 ∷ 97 ∷ 103 ∷ spaced (numbers_in v)

five : (m i l o a : ℕ) (more : List ℕ) → ((((count_text m ++ count_text i) ++ count_text l) ++ count_text o) ++ count_text a) ++ more ≡ count_text m ++ (count_text i ++ (count_text l ++ (count_text o ++ (count_text a ++ more))))
five m i l o a more = five_parts (count_text m) (count_text i) (count_text l) (count_text o) (count_text a) more

head_is : (v : Aig) → head_text v ≡ head_word v ++ 10 ∷ []
head_is v =
    ap (λ (xs : List ℕ). 97 ∷ 97 ∷ 103 ∷ (xs ++ 10 ∷ []))
    (five v.max (length v.inputs) (length v.latches) (length v.outs) (length v.gates) (further_text (length v.bads) (length v.cons) (length v.justice) (length v.fair))
    ∙ ap (λ (xs : List ℕ). count_text v.max ++ (count_text (length v.inputs) ++ (count_text (length v.latches) ++ (count_text (length v.outs) ++ (count_text (length v.gates) ++ xs)))))
    (further_spaced (length v.fair == 0) (length v.justice == 0) (length v.cons == 0) (length v.bads == 0) (length v.bads) (length v.cons) (length v.justice) (length v.fair)))

head_short : (v : Aig) → AreWithin (head_of_aig Ascii v) → AreShort (numbers_in v)
head_short v w =
    (omega (arith, w.max), (omega (arith, w.inputs), (omega (arith, w.latches), (omega (arith, w.outs), (omega (arith, w.gates), further_short (length v.fair == 0) (length v.justice == 0) (length v.cons == 0) (length v.bads == 0) (length v.bads) (length v.cons) (length v.justice) (length v.fair) w.bads w.cons w.justice w.fair)))))

head_plain : (v : Aig) → AreWithin (head_of_aig Ascii v) → IsPlain (head_word v)
head_plain v w = subst (λ (xs : List ℕ). IsPlain (97 ∷ 97 ∷ 103 ∷ xs)) (append-nil (spaced (numbers_in v))) (spaced_plain (numbers_in v) [] (head_short v w) refl)

and_false : (b : Bool) → (b && false) ≡ false
and_false true = refl
and_false false = refl

judge_ok : (h : Head) → is_fitting h.form h.max (h.inputs + h.latches + h.gates) ≡ true → is_within h ≡ true → judge_head h ≡ Ok h
judge_ok h fits within =
    let right : is_wrong h ≡ false = ap (λ (b : Bool). is_tried h && not b) fits ∙ and_false (is_tried h) in
    ap (λ (b : Bool). cond {A = Result Head AigCode} b (Err Header) (cond (is_within h) (Ok h) (Err Limit))) right ∙ ap (λ (b : Bool). cond {A = Result Head AigCode} b (Ok h) (Err Limit)) within

header_fields : (v : Aig) → AreShort (numbers_in v) → fields_of (head_word v) ≡ (97 ∷ 97 ∷ 103 ∷ []) ∷ map decimal (numbers_in v)
unfolding fields_of
header_fields v short = ap (λ (fs : List (List ℕ)). with_byte 97 (with_byte 97 (with_byte 103 fs))) (fields_spaced [] (numbers_in v) refl short)

header_read : (v : Aig) → IsGood v → header_of (bare (head_text v)) ≡ Ok (head_of_aig Ascii v)
unfolding header_of
header_read v good =
    let w = are_within (head_of_aig Ascii v) good.within in
    let le : length v.inputs + length v.latches + length v.gates ≤ v.max = good.fits in
    let fits : nat_le (length v.inputs + length v.latches + length v.gates) v.max ≡ true = grind (arith, nat_tests) in
    ap (λ (l : List ℕ). head_fields (fields_of (bare l))) (head_is v) ∙ ap (λ (l : List ℕ). head_fields (fields_of l)) (bare_whole (head_word v) [] (head_plain v w)) ∙ ap head_fields (header_fields v (head_short v w))
    ∙ ap (head_parts (Some Ascii)) (numbers_spaced (numbers_in v) (head_short v w))
    ∙ further_head v.max (length v.inputs) (length v.latches) (length v.outs) (length v.gates) (length v.fair == 0) (length v.justice == 0) (length v.cons == 0) (length v.bads == 0) (length v.bads) (length v.cons) (length v.justice) (length v.fair) (is_zero (length v.fair)) (is_zero (length v.justice)) (is_zero (length v.cons)) (is_zero (length v.bads))
    ∙ judge_ok (head_of_aig Ascii v) fits good.within

-- rows are of small numbers
latch_short : (l : Latch) (r : Reset) → l.lit < 2 ^ 64 → l.next < 2 ^ 64 → IsShortRow (rows.Latch (record { lit = l.lit; next = l.next; reset = r }))
latch_short l Zero a b = (a, (b, tt))
latch_short l One a b = (a, (b, (omega arith, tt)))
latch_short l Free a b = (a, (b, (a, tt)))

range_short : (max room : ℕ) (r : Row) → max ≤ most_items → room ≤ most_items → InRange max room r → IsShortRow r
range_short max room (rows.Input l) p q is = (omega (arith, p, is.2), tt)
range_short max room (rows.Latch l) p q is = latch_short l l.reset (omega (arith, p, is.0.2)) (omega (arith, p, is.1))
range_short max room (rows.Out l) p q is = (omega (arith, p, is), tt)
range_short max room (rows.Bad l) p q is = (omega (arith, p, is), tt)
range_short max room (rows.Con l) p q is = (omega (arith, p, is), tt)
range_short max room (rows.Size n) p q is = (omega (arith, q, is), tt)
range_short max room (rows.Justice l) p q is = (omega (arith, p, is), tt)
range_short max room (rows.Fair l) p q is = (omega (arith, p, is), tt)
range_short max room (rows.Gate g) p q is = (omega (arith, p, is.0.2), (omega (arith, p, is.1), (omega (arith, p, is.2), tt)))

rows_short : (v : Aig) → IsSound v → v.max ≤ most_items → (before rs : List Row) → rows_of v ≡ before ++ rs → AllByRecursion IsShortRow rs
rows_short v s small before [] e = tt
rows_short v s small before (r ∷ rs) e =
    let t : Taken = record nothing { total = 0 + sum_by size_in before } in
    let is : InRange v.max (room t) r = sound_range v s before r rs e t refl in
    (range_short v.max (room t) r small (omega arith) is, rows_short v s small (before ++ r ∷ []) rs (e ∙ sym (append_assoc before (r ∷ []) rs)))

rows_end : (rs : List Row) → AllByRecursion IsShortRow rs → AllByRecursion EndsLine (map row_line rs)
rows_end [] short = tt
rows_end (r ∷ rs) short = (row_ends r short.0, rows_end rs short.1)

places_short : (h : Head) (ss : List Symbol) → AreWithin h → AllByRecursion (IsTitle h) ss → AllByRecursion (λ s. s.place < 2 ^ 64) ss
places_short h [] w titles = tt
places_short h (s ∷ ss) w titles = (omega (arith, titles.0.place, places_low h s.kind w), places_short h ss w titles.1)

titles_end : (h : Head) (ss : List Symbol) → AllByRecursion (IsTitle h) ss → AllByRecursion (λ s. s.place < 2 ^ 64) ss → AllByRecursion EndsLine (map symbol_line ss)
titles_end h [] titles small = tt
titles_end h (s ∷ ss) titles small = (title_ends h s titles.0 small.0, titles_end h ss titles.1 small.1)

pub good_ascii : (v : Aig) → IsGood v → IsAscii v (ascii_text v)
good_ascii v good =
    let h = head_of_aig Ascii v in
    let w = are_within h good.within in
    let short = rows_short v good.sound w.max [] (rows_of v) refl in
    let titles = recursion_from_All (IsTitle h) v.symbols good.titles in
    let places = places_short h v.symbols w titles in
    let body = map row_line (rows_of v) in
    let names = map symbol_line v.symbols in
    let rest = lines_of (comment_text v.comment) in
    let ends : AllByRecursion EndsLine (lines_in v) = ((head_word v, head_is v, head_plain v w), each_join EndsLine body names (rows_end (rows_of v) short) (titles_end h v.symbols titles places)) in
    record {
      head = head_text v;
      body = body;
      names = names;
      rest = rest;
      lines = ap lines_of (text_is v) ∙ lines_joined (lines_in v) (comment_text v.comment) ends ∙ ap (λ (ls : List (List ℕ)). head_text v ∷ ls) (append_assoc body names rest);
      header = header_read v good;
      sections = rows_say (rows_of v) short;
      named = titles_say h [] v.symbols titles places good.apart;
      comment = comment_rest v.comment;
      sound = good.sound;
    }
