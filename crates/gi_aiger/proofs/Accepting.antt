-- A value that a file says is read.
use Rattle.std.proofs.Common.{◌≡◌, ℕ, ◌+◌, ◌*◌, ◌-◌, ◌/◌, ◌≤◌, nat_lt, nat_le, List, [], ◌∷◌, ◌++◌, length, drop, map, Bool, true, false, ◌&&◌, cond, inl, inr, Some, Result, Ok, Err, refl, ap, sym, ◌∙◌, subst, arith, length-append, append_assoc}
use Rattle.std.specs.Prelude.{sum, sum_by, All}
use Rattle.std.specs.List.{flat_map, AllByRecursion}
use Rattle.std.proofs.Math.Seq.{take-append_seam, drop-append_seam}
use Rattle.std.proofs.lemmas.Grind.{flat_map-append}
use Rattle.std.proofs.lemmas.List.{append-nil, length-map}
use Rattle.std.proofs.lemmas.List.Elements.{recursion_from_All}
use Rattle.std.proofs.lemmas.List.Sums.{sum_by-cons, sum_by-append}
use Rattle.std.proofs.lemmas.Bool.Decides.{nat_tests}
use Rattle.gi_aiger.specs.declared.aig.Aig.{Aig}
use Rattle.gi_aiger.specs.declared.aig.AndGate.{AndGate}
use Rattle.gi_aiger.specs.declared.aig.Latch.{Latch}
use Rattle.gi_aiger.specs.declared.fault.AigCode.{AigCode}
use Rattle.gi_aiger.specs.declared.fault.AigCode.TheVariants.{Defined, Undefined}
use Rattle.gi_aiger.specs.declared.head.Form.TheVariants.{Ascii, Binary}
use Rattle.gi_aiger.specs.declared.head.Head.{Head}
use Rattle.gi_aiger.specs.declared.row.Section.{Section}
use Rattle.gi_aiger.specs.declared.row.Section.TheVariants as sections
use Rattle.gi_aiger.specs.declared.row.Row.{Row}
use Rattle.gi_aiger.specs.declared.row.Row.TheVariants as rows
use Rattle.gi_aiger.specs.declared.taken.Taken.{Taken}
use Rattle.gi_aiger.specs.Lines.{lines_of, bare}
use Rattle.gi_aiger.specs.Rows.{literals_in, defined_by, defined_variables, section_of}
use Rattle.gi_aiger.specs.Marks.{missing, marks_of}
use Rattle.gi_aiger.specs.Header.{is_within}
use Rattle.gi_aiger.specs.Sections.{sections_of, left_in}
use Rattle.gi_aiger.specs.Taking.{with_row, with_line, is_known, to_come, checked, add_by, room, left_out, own_latch}
use Rattle.gi_aiger.specs.Evens.{evens}
use Rattle.gi_aiger.specs.Files.{Told, shares, aig_of, begin, after_header, after_sections, read_gates, read_section, read_sections, read_symbols, read_lines, read_file}
use Rattle.gi_aiger.specs.Relation.{IsDefining, IsSound, IsAscii, IsBinary, IsAig, AllSay, AreOnce, head_of_aig, rows_at, rows_of, defining_literals, leaves_out}
use Rattle.gi_aiger.proofs.Marking.{closed_end}
use Rattle.gi_aiger.proofs.Fitting.{header_within}
use Rattle.gi_aiger.proofs.Limiting.{are_within}
use Rattle.gi_aiger.proofs.Spelling.{InRange}
use Rattle.gi_aiger.proofs.Putting.{takes, takes-append, after, section_takes, Lists, rows_by, state_by, News, Counts}
use Rattle.gi_aiger.proofs.Going.{AllRight, sections_there}
use Rattle.gi_aiger.proofs.Titling.{symbols_there}
use Rattle.gi_aiger.proofs.Pairing.{Owns, AreSmall, gates_there}
use Rattle.gi_aiger.proofs.Numbering.{AreFrom, from_left, from_right, from_evens, evens_from, evens_length}
use Rattle.gi_aiger.proofs.Knowing.{latch_in, gate_in, input_in, size_in, define_all, unknown, few_missing}
use Rattle.gi_aiger.proofs.Sounding.{defining_in, defining_all, latches_all, gates_all, sizes_all, sum_lengths, others_of, others_plain, latches_takes, gates_takes, sizes_takes, marks_takes, each_at, each_right, Low, in_range, sum_same, counts, rows_count, variables_are}
use Rattle.gi_aiger.specs.Limits.{most_items}

-- a sound value's rows are in range
pub sound_range : (v : Aig) → IsSound v → (before : List Row) (r : Row) (later : List Row) → rows_of v ≡ before ++ r ∷ later → (t : Taken) → t.total ≡ 0 + sum_by size_in before → InRange v.max (room t) r
sound_range v s before r later e t total =
    let defining = recursion_from_All (IsDefining v.max) (flat_map defining_in (before ++ r ∷ later)) (subst (All (IsDefining v.max)) (sym (defining_all v) ∙ ap (flat_map defining_in) e) s.defining) in
    let used = recursion_from_All (Low v.max) (flat_map literals_in (before ++ r ∷ later)) (subst (All (Low v.max)) (ap (flat_map literals_in) e) s.literals) in
    let fits : size_in r ≤ room t = omega (arith, total, s.sizes, sizes_all v, ap (sum_by size_in) e, sum_by-append size_in before (r ∷ later), sum_by-cons size_in r later) in
    in_range v.max (room t) r (each_at (IsDefining v.max) defining_in before r later defining) (each_at (Low v.max) literals_in before r later used) fits

-- the ASCII form: no variable is defined before, and none stays undefined
added_ok : (h : Head) (t : Taken) (r : Row) → is_known (defined_by r) t.marks ≡ false → nat_lt (to_come h (with_line t r)) (missing (with_line t r).marks) ≡ false → add_by Ascii h t r ≡ Ok (with_line t r)
added_ok h t r known few =
    ap (λ (b : Bool). cond {A = Result Taken AigCode} b (Err Defined) (checked h (with_line t r))) known ∙ ap (λ (b : Bool). cond {A = Result Taken AigCode} b (Err Undefined) (Ok (with_line t r))) few

not_below : (a b : ℕ) → b ≤ a → nat_lt a b ≡ false
not_below a b le = grind (arith, nat_tests)

rows_right : (v : Aig) → IsSound v → (before rs : List Row) (ls : List (List ℕ)) → rows_of v ≡ before ++ rs → AllSay Ascii ls rs → AllRight (head_of_aig Ascii v) (takes Ascii (begin (head_of_aig Ascii v)) before) ls rs
rows_right v s before [] [] e say = tt
rows_right v s before (r ∷ rs) [] e say = absurd say
rows_right v s before [] (l ∷ ls) e say = absurd say
rows_right v s before (r ∷ rs) (l ∷ ls) e say =
    let h = head_of_aig Ascii v in
    let t = takes Ascii (begin h) before in
    let done = before ++ r ∷ [] in
    let next : takes Ascii (begin h) done ≡ with_line t r = takes-append Ascii (begin h) before (r ∷ []) in
    let all : rows_of v ≡ done ++ rs = e ∙ sym (append_assoc before (r ∷ []) rs) in
    let known : is_known (defined_by r) t.marks ≡ false = ap (is_known (defined_by r)) (marks_takes (begin h) before) ∙ unknown before r rs (subst (λ (xs : List Row). AreOnce (defined_variables xs)) e s.once) in
    let now : missing (with_line t r).marks ≡ missing (marks_of done []) = ap (λ (u : Taken). missing u.marks) (sym next) ∙ ap missing (marks_takes (begin h) done) in
    let few : missing (marks_of done []) ≤ sum_by latch_in rs + sum_by gate_in rs = few_missing v.inputs (others_of v) done rs [] (sym all) (others_plain v) refl (closed_end (rows_of v) s.closed) in
    let latches : length (with_line t r).latches ≡ 0 + sum_by latch_in done = ap (λ (u : Taken). length u.latches) (sym next) ∙ latches_takes Ascii (begin h) done in
    let gates : length (with_line t r).gates ≡ 0 + sum_by gate_in done = ap (λ (u : Taken). length u.gates) (sym next) ∙ gates_takes Ascii (begin h) done in
    let enough : missing (with_line t r).marks ≤ to_come h (with_line t r) =
    enough_is (missing (with_line t r).marks) (missing (marks_of done [])) (length (with_line t r).latches) (length (with_line t r).gates) (sum_by latch_in done) (sum_by gate_in done) (sum_by latch_in rs) (sum_by gate_in rs) (length v.latches) (length v.gates) now few latches gates
    (sym (latches_all v) ∙ ap (sum_by latch_in) all ∙ sum_by-append latch_in done rs) (sym (gates_all v) ∙ ap (sum_by gate_in) all ∙ sum_by-append gate_in done rs) in (
      record {
        says = say.0;
        range = sound_range v s before r rs e t (sizes_takes Ascii (begin h) before);
        own = refl;
        added = added_ok h t r known (not_below (to_come h (with_line t r)) (missing (with_line t r).marks) enough);
      },
      subst (λ (u : Taken). AllRight h u ls rs) next (rows_right v s done rs ls all say.1),
    ) where
      enough_is : (m n a b c d x y p q : ℕ) → m ≡ n → n ≤ x + y → a ≡ 0 + c → b ≡ 0 + d → p ≡ c + x → q ≡ d + y → m ≤ (p - a) + (q - b)
      enough_is m n a b c d x y p q e1 e2 e3 e4 e5 e6 = omega (arith, e1, e2, e3, e4, e5, e6)

-- the lists of a value, by sections
abbrev lists_of : Aig → Lists (sections_of Ascii)
lists_of v = (v.inputs, (v.latches, (v.outs, (v.bads, (v.cons, (map length v.justice, (flat_map (λ p. p) v.justice, (v.fair, (v.gates, tt)))))))))

pub size_map : (js : List (List ℕ)) → map (λ p. rows.Size (length p)) js ≡ map rows.Size (map length js)
size_map [] = refl
size_map (j ∷ js) = ap (λ (rs : List Row). rows.Size (length j) ∷ rs) (size_map js)

rows_same : (v : Aig) → rows_of v ≡ rows_by (sections_of Ascii) (lists_of v)
rows_same v =
    ap (λ (xs : List Row). map rows.Input v.inputs ++ (map rows.Latch v.latches ++ (map rows.Out v.outs ++ (map rows.Bad v.bads ++ (map rows.Con v.cons ++ (xs ++ (map rows.Justice (flat_map (λ p. p) v.justice) ++ (map rows.Fair v.fair ++ (map rows.Gate v.gates ++ []))))))))) (size_map v.justice)

pub ascii_news : (h : Head) → News (sections_of Ascii) (begin (record h { form = Ascii }))
ascii_news h = (refl, λ xs ms. (refl, λ xs ms. (refl, λ xs ms. (refl, λ xs ms. (refl, λ xs ms. (refl, λ xs ms. (refl, λ xs ms. (refl, λ xs ms. (refl, λ xs ms. tt)))))))))

same_count : (n : ℕ) → n ≡ n - 0
same_count n = omega arith

ascii_counts : (v : Aig) → Counts (head_of_aig Ascii v) (sections_of Ascii) (begin (head_of_aig Ascii v)) (lists_of v)
ascii_counts v =
    (same_count (length v.inputs), (same_count (length v.latches), (same_count (length v.outs), (same_count (length v.bads), (same_count (length v.cons), (length-map v.justice length ∙ same_count (length v.justice), (sym (sum_lengths v.justice) ∙ same_count (sum (map length v.justice)), (same_count (length v.fair), (same_count (length v.gates), tt)))))))))

pub shares_all : (js : List (List ℕ)) → shares (map length js) (flat_map (λ p. p) js) ≡ js
unfolding shares
shares_all [] = refl
shares_all (j ∷ js) =
    ap (λ (xs : List ℕ). xs ∷ shares (map length js) (drop (length j) (j ++ flat_map (λ p. p) js))) (take-append_seam j (flat_map (λ p. p) js))
    ∙ ap (λ (xs : List ℕ). j ∷ shares (map length js) xs) (drop-append_seam j (flat_map (λ p. p) js)) ∙ ap (λ (ks : List (List ℕ)). j ∷ ks) (shares_all js)

abbrev pub with_justice : Aig → List (List ℕ) → Aig
with_justice v js = record v { justice = js }

pub ascii_read : (v : Aig) (bytes : List ℕ) → IsAscii v bytes → (read_file bytes).read ≡ Ok v
unfolding read_file
ascii_read v bytes a =
    let h = head_of_aig Ascii v in
    let tail = a.names ++ a.rest in
    let stands = state_by Ascii (sections_of Ascii) (begin h) (lists_of v) in
    let right : AllRight h (begin h) a.body (rows_by (sections_of Ascii) (lists_of v)) = subst (AllRight h (begin h) a.body) (rows_same v) (rows_right v a.sound [] (rows_of v) a.body refl a.sections) in
    let ends : (k : ℕ) → (after_sections Ascii h k stands tail).read ≡ Ok v = λ k. ap (λ (t : Told). t.read) (symbols_there h stands a.rest v.comment k [] a.names v.symbols a.named a.comment) ∙ ap (λ (js : List (List ℕ)). Ok (with_justice v js)) (shares_all v.justice) in
    let read : (read_sections h (sections_of Ascii) 2 (begin h) (a.body ++ tail)).read ≡ Ok v = sections_there h (λ (told : Told). told.read ≡ Ok v) tail (sections_of Ascii) 2 (begin h) a.body (lists_of v) (ascii_news h) (ascii_counts v) right ends in
    ap (λ (ls : List (List ℕ)). (read_lines ls).read) a.lines ∙ ap (λ (r : Result Head AigCode). (after_header r (a.body ++ tail)).read) a.header ∙ read

-- the binary form: the lines between the header and the gates
abbrev pub mids : List Section
mids = sections.Latch ∷ sections.Out ∷ sections.Bad ∷ sections.Con ∷ sections.Size ∷ sections.Justice ∷ sections.Fair ∷ []

abbrev pub mid_of : Aig → List Row
mid_of v = flat_map (rows_at v) mids

pub rows_around : (v : Aig) → rows_of v ≡ map rows.Input v.inputs ++ (mid_of v ++ map rows.Gate v.gates)
rows_around v = ap (λ (rs : List Row). map rows.Input v.inputs ++ rs) (flat_map-append (rows_at v) mids (sections.Gate ∷ []) ∙ ap (λ (rs : List Row). mid_of v ++ rs) (append-nil (map rows.Gate v.gates)))

pub mid_inputs : (v : Aig) → sum_by input_in (mid_of v) ≡ 0
mid_inputs v = rows_count 1 0 0 false v mids ∙ (let s : sum_by (counts 1 0 0 false v) mids ≡ 0 = omega arith in s)

pub mid_gates : (v : Aig) → sum_by gate_in (mid_of v) ≡ 0
mid_gates v = rows_count 0 0 1 false v mids ∙ (let s : sum_by (counts 0 0 1 false v) mids ≡ 0 = omega arith in s)

inputs_measured : (ins : List ℕ) → (sum_by input_in (map rows.Input ins) ≡ length ins) × (sum_by latch_in (map rows.Input ins) ≡ 0) × (sum_by gate_in (map rows.Input ins) ≡ 0) × (sum_by size_in (map rows.Input ins) ≡ 0)
inputs_measured ins = (omega (arith, sum_same input_in rows.Input 1 (λ l. refl) ins), omega (arith, sum_same latch_in rows.Input 0 (λ l. refl) ins), omega (arith, sum_same gate_in rows.Input 0 (λ l. refl) ins), omega (arith, sum_same size_in rows.Input 0 (λ l. refl) ins))

-- so many literals are defined
pub defining_length : (rs : List Row) → length (flat_map defining_in rs) ≡ sum_by input_in rs + sum_by latch_in rs + sum_by gate_in rs
defining_length rs = sym (length-map (flat_map defining_in rs) (λ l. l / 2)) ∙ ap length (sym (variables_are rs)) ∙ define_all rs

-- a latch in its place
latch_at : (v : Aig) → AreFrom 0 (flat_map defining_in (rows_of v)) → (before later : List Row) (l : Latch) → rows_of v ≡ before ++ rows.Latch l ∷ later → l.lit ≡ 2 * (length (flat_map defining_in before) + 1)
latch_at v from before later l e =
    let all : AreFrom 0 (flat_map defining_in before ++ (l.lit ∷ flat_map defining_in later)) = subst (AreFrom 0) (ap (flat_map defining_in) e ∙ flat_map-append defining_in before (rows.Latch l ∷ later)) from in
    let here = from_right 0 (flat_map defining_in before) (l.lit ∷ flat_map defining_in later) all in
    omega (arith, here.0)

own_row : (r : Row) (own : ℕ) → ((l : Latch) → r ≡ rows.Latch l → own ≡ l.lit) → left_out Binary (section_of r) own ≡ leaves_out Binary r
own_row (rows.Input l) own is = refl
own_row (rows.Latch l) own is = ap Some (is l refl)
own_row (rows.Out l) own is = refl
own_row (rows.Bad l) own is = refl
own_row (rows.Con l) own is = refl
own_row (rows.Size n) own is = refl
own_row (rows.Justice l) own is = refl
own_row (rows.Fair l) own is = refl
own_row (rows.Gate g) own is = refl

mid_right : (v : Aig) → IsSound v → AreFrom 0 (flat_map defining_in (rows_of v)) → (before rs : List Row) (ls : List (List ℕ)) → mid_of v ≡ before ++ rs → AllSay Binary ls rs → AllRight (head_of_aig Binary v) (takes Binary (begin (head_of_aig Binary v)) before) ls rs
mid_right v s from before [] [] e say = tt
mid_right v s from before (r ∷ rs) [] e say = absurd say
mid_right v s from before [] (l ∷ ls) e say = absurd say
mid_right v s from before (r ∷ rs) (l ∷ ls) e say =
    let h = head_of_aig Binary v in
    let t = takes Binary (begin h) before in
    let done = before ++ r ∷ [] in
    let ins = map rows.Input v.inputs in
    let next : takes Binary (begin h) done ≡ with_row t r = takes-append Binary (begin h) before (r ∷ []) in
    let all : mid_of v ≡ done ++ rs = e ∙ sym (append_assoc before (r ∷ []) rs) in
    let whole : rows_of v ≡ (ins ++ before) ++ r ∷ (rs ++ map rows.Gate v.gates) = rows_around v ∙ ap (λ (xs : List Row). ins ++ (xs ++ map rows.Gate v.gates)) e ∙ ap (λ (xs : List Row). ins ++ xs) (append_assoc before (r ∷ rs) (map rows.Gate v.gates)) ∙ sym (append_assoc ins before (r ∷ (rs ++ map rows.Gate v.gates))) in
    let m = inputs_measured v.inputs in
    let latches : length t.latches ≡ 0 + sum_by latch_in before = latches_takes Binary (begin h) before in
    let size : t.total ≡ 0 + sum_by size_in (ins ++ before) = omega (arith, sizes_takes Binary (begin h) before, sum_by-append size_in ins before, m.3) in
    let place : length (flat_map defining_in (ins ++ before)) ≡ length v.inputs + length t.latches =
    place_is (length (flat_map defining_in (ins ++ before))) (sum_by input_in (ins ++ before)) (sum_by latch_in (ins ++ before)) (sum_by gate_in (ins ++ before)) (sum_by input_in before) (sum_by latch_in before) (sum_by gate_in before) (length v.inputs) (length t.latches)
    (defining_length (ins ++ before)) (omega (arith, sum_by-append input_in ins before, m.0)) (omega (arith, sum_by-append latch_in ins before, m.1)) (omega (arith, sum_by-append gate_in ins before, m.2)) (omega (arith, mid_inputs v, ap (sum_by input_in) e, sum_by-append input_in before (r ∷ rs)))
    (omega (arith, mid_gates v, ap (sum_by gate_in) e, sum_by-append gate_in before (r ∷ rs))) latches in
    let own : left_out Binary (section_of r) (own_latch h t) ≡ leaves_out Binary r = own_row r (own_latch h t) (λ l is.
    sym (latch_at v from (ins ++ before) (rs ++ map rows.Gate v.gates) l (whole ∙ ap (λ (x : Row). (ins ++ before) ++ x ∷ (rs ++ map rows.Gate v.gates)) is) ∙ ap (λ (n : ℕ). 2 * (n + 1)) place)) in (
      record { says = say.0; range = sound_range v s (ins ++ before) r (rs ++ map rows.Gate v.gates) whole t size; own = own; added = refl },
      subst (λ (u : Taken). AllRight h u ls rs) next (mid_right v s from done rs ls all say.1),
    ) where
      place_is : (n i c g i1 c1 g1 a b : ℕ) → n ≡ i + c + g → i ≡ a + i1 → c ≡ c1 → g ≡ g1 → i1 ≡ 0 → g1 ≡ 0 → b ≡ 0 + c1 → n ≡ a + b
      place_is n i c g i1 c1 g1 a b e1 e2 e3 e4 e5 e6 e7 = omega (arith, e1, e2, e3, e4, e5, e6, e7)

owns_there : (h : Head) (gs : List AndGate) (t : Taken) → AreFrom (h.inputs + h.latches + length t.gates) (map (λ g. g.lhs) gs) → Owns h t gs
owns_there h [] t from = tt
owns_there h (g ∷ gs) t from =
    let e : h.inputs + h.latches + length t.gates + 1 ≡ h.inputs + h.latches + length (t.gates ++ g ∷ []) = omega (arith, length-append t.gates (g ∷ [])) in
    (from.0, owns_there h gs (with_row t (rows.Gate g)) (subst (λ (n : ℕ). AreFrom n (map (λ g. g.lhs) gs)) e from.1))

small_gates : (max : ℕ) (gs : List AndGate) → max ≤ most_items → AllByRecursion (IsDefining max) (map (λ g. g.lhs) gs) → AreSmall gs
small_gates max [] le all = tt
small_gates max (g ∷ gs) le all = (omega (arith, le, all.0.2), small_gates max gs le all.1)

abbrev mid_lists : Aig → Lists mids
mid_lists v = (v.latches, (v.outs, (v.bads, (v.cons, (map length v.justice, (flat_map (λ p. p) v.justice, (v.fair, tt)))))))

mid_same : (v : Aig) → mid_of v ≡ rows_by mids (mid_lists v)
mid_same v = ap (λ (xs : List Row). map rows.Latch v.latches ++ (map rows.Out v.outs ++ (map rows.Bad v.bads ++ (map rows.Con v.cons ++ (xs ++ (map rows.Justice (flat_map (λ p. p) v.justice) ++ (map rows.Fair v.fair ++ []))))))) (size_map v.justice)

pub mid_news : (h : Head) → News mids (begin (record h { form = Binary }))
mid_news h = (refl, λ xs ms. (refl, λ xs ms. (refl, λ xs ms. (refl, λ xs ms. (refl, λ xs ms. (refl, λ xs ms. (refl, λ xs ms. tt)))))))

mid_counts : (v : Aig) → Counts (head_of_aig Binary v) mids (begin (head_of_aig Binary v)) (mid_lists v)
mid_counts v =
    (same_count (length v.latches), (same_count (length v.outs), (same_count (length v.bads), (same_count (length v.cons), (length-map v.justice length ∙ same_count (length v.justice), (sym (sum_lengths v.justice) ∙ same_count (sum (map length v.justice)), (same_count (length v.fair), tt)))))))

-- the inputs have no lines
pub skip_inputs : (h : Head) (ls : List (List ℕ)) → read_sections (record h { form = Binary }) (sections_of Binary) 2 (begin (record h { form = Binary })) ls ≡ read_sections (record h { form = Binary }) mids 2 (begin (record h { form = Binary })) ls
unfolding read_sections read_section
skip_inputs h ls =
    let g = record h { form = Binary } in
    let none : h.inputs - length (evens h.inputs) ≡ 0 = omega (arith, evens_length h.inputs) in
    ap (λ (n : ℕ). read_section g sections.Input n 2 (begin g) ls (λ k u more. read_sections g mids k u more)) none

abbrev with_parts : Aig → List ℕ → List (List ℕ) → Aig
with_parts v ins js = record v { inputs = ins; justice = js }

defining_first : (v : Aig) → defining_literals v ≡ evens v.max → AreFrom 0 (defining_literals v)
defining_first v e = subst (AreFrom 0) (sym e) (evens_from v.max)

pub binary_read : (v : Aig) (bytes : List ℕ) → IsBinary v bytes → (read_file bytes).read ≡ Ok v
unfolding read_file
binary_read v bytes a =
    let h = head_of_aig Binary v in
    let lits = map (λ (l : Latch). l.lit) v.latches in
    let lhss = map (λ (g : AndGate). g.lhs) v.gates in
    let from = defining_first v a.numbered.literals in
    let inputs : v.inputs ≡ evens (length v.inputs) = from_evens v.inputs (from_left 0 v.inputs lits (from_left 0 (v.inputs ++ lits) lhss from)) in
    let stands = state_by Binary mids (begin h) (mid_lists v) in
    let within = header_within (bare a.head) h a.header in
    let small : v.max ≤ most_items = (are_within h within).max in
    let defining = each_right (IsDefining v.max) (v.inputs ++ lits) lhss (recursion_from_All (IsDefining v.max) (defining_literals v) a.sound.defining) in
    let place : 0 + length (v.inputs ++ lits) ≡ length v.inputs + length v.latches + length {A = AndGate} [] = omega (arith, length-append v.inputs lits, length-map v.latches (λ (l : Latch). l.lit)) in
    let owns : Owns h stands v.gates = owns_there h v.gates stands (subst (λ (n : ℕ). AreFrom n lhss) place (from_right 0 (v.inputs ++ lits) lhss from)) in
    let right : AllRight h (begin h) a.body (rows_by mids (mid_lists v)) = subst (AllRight h (begin h) a.body) (mid_same v) (mid_right v a.sound (subst (AreFrom 0) (sym (defining_all v)) from) [] (mid_of v) a.body refl a.sections) in
    let whole = takes Binary stands (map rows.Gate v.gates) in
    let put_gates : whole ≡ after Binary sections.Gate stands v.gates = section_takes Binary sections.Gate stands v.gates refl in
    let value : aig_of h whole v.symbols v.comment ≡ v = ap (λ (u : Taken). aig_of h u v.symbols v.comment) put_gates ∙ ap (λ (ins : List ℕ). with_parts v ins (shares (map length v.justice) (flat_map (λ p. p) v.justice))) (sym inputs) ∙ ap (with_parts v v.inputs) (shares_all v.justice) in
    let named : (k : ℕ) → (read_symbols h k whole [] (lines_of a.after)).read ≡ Ok v = λ k. ap (λ (ls : List (List ℕ)). (read_symbols h k whole [] ls).read) a.lines_after ∙ ap (λ (t : Told). t.read) (symbols_there h whole a.rest v.comment k [] a.names v.symbols a.named a.comment) ∙ ap Ok value in
    let count : length v.gates ≡ left_in h stands sections.Gate = same_count (length v.gates) in
    let ends : (k : ℕ) → (after_sections Binary h k stands a.behind).read ≡ Ok v = λ k.
    ap (λ (bs : List ℕ). (read_gates h k (left_in h stands sections.Gate) stands bs).read) a.parts ∙ ap (λ (n : ℕ). (read_gates h k n stands (a.gates ++ a.after)).read) (sym count)
    ∙ gates_there h (λ (told : Told). told.read ≡ Ok v) k a.after stands v.gates a.gates a.gates_are owns (small_gates v.max v.gates small defining) (named k) in
    let read : (read_sections h mids 2 (begin h) (a.body ++ a.behind)).read ≡ Ok v = sections_there h (λ (told : Told). told.read ≡ Ok v) a.behind mids 2 (begin h) a.body (mid_lists v) (mid_news h) (mid_counts v) right ends in
    ap (λ (ls : List (List ℕ)). (read_lines ls).read) a.lines ∙ ap (λ (r : Result Head AigCode). (after_header r (a.body ++ a.behind)).read) a.header ∙ ap (λ (t : Told). t.read) (skip_inputs h (a.body ++ a.behind)) ∙ read

pub said_read : (v : Aig) (bytes : List ℕ) → IsAig v bytes → (read_file bytes).read ≡ Ok v
said_read v bytes (inl a) = ascii_read v bytes a
said_read v bytes (inr a) = binary_read v bytes a
