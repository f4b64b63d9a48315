-- A value that is read from the ASCII form is what the file says.
use Rattle.std.proofs.Common.{◌≡◌, ℕ, zero, suc, ◌-◌, ◌≤◌, nat_lt, List, [], ◌∷◌, ◌++◌, length, take, drop, map, Bool, true, false, cond, Option, Ok, Err, refl, ap, sym, ◌∙◌, subst, arith}
use Rattle.std.specs.Prelude.{sum, All}
use Rattle.std.specs.List.{flat_map, AllByRecursion}
use Rattle.std.proofs.lemmas.List.{take-append-drop}
use Rattle.std.proofs.lemmas.List.Elements.{All-from_recursion}
use Rattle.std.proofs.lemmas.List.Sums.{sum_by-cons}
use Rattle.std.proofs.lemmas.Bool.Decides.{nat_tests}
use Rattle.gi_aiger.specs.declared.aig.Aig.{Aig}
use Rattle.gi_aiger.specs.declared.aig.Symbol.{Symbol}
use Rattle.gi_aiger.specs.declared.fault.AigCode.TheVariants.{Defined, Undefined}
use Rattle.gi_aiger.specs.declared.head.Form.{Form}
use Rattle.gi_aiger.specs.declared.head.Form.TheVariants.{Ascii}
use Rattle.gi_aiger.specs.declared.head.Head.{Head}
use Rattle.gi_aiger.specs.declared.mark.Mark.{Mark}
use Rattle.gi_aiger.specs.declared.row.Row.{Row}
use Rattle.gi_aiger.specs.declared.row.Row.TheVariants as rows
use Rattle.gi_aiger.specs.declared.taken.Taken.{Taken}
use Rattle.gi_aiger.specs.Header.{header_of}
use Rattle.gi_aiger.specs.Levels.{HasLevels}
use Rattle.gi_aiger.specs.Lines.{lines_of, bare}
use Rattle.gi_aiger.specs.Rows.{literals_in, defined_by, defined_variables, section_of}
use Rattle.gi_aiger.specs.Marks.{missing, marked, marks_of}
use Rattle.gi_aiger.specs.Sections.{sections_of}
use Rattle.gi_aiger.specs.Taking.{with_line, is_known, to_come, checked, add_by, room}
use Rattle.gi_aiger.specs.Files.{shares, aig_of, begin, read_sections}
use Rattle.gi_aiger.specs.Relation.{IsDefining, IsAscii, AllSay, AllName, IsRest, AreOnce, head_of_aig, rows_of}
use Rattle.gi_aiger.proofs.Takes.{marks_stay}
use Rattle.gi_aiger.proofs.Fitting.{line_fits}
use Rattle.gi_aiger.proofs.Saying.{step, right_reads}
use Rattle.gi_aiger.proofs.Putting.{takes, Lists, rows_by, state_by, state_takes, Counts}
use Rattle.gi_aiger.proofs.Going.{AllRight, sections_back}
use Rattle.gi_aiger.proofs.Titling.{symbols_back}
use Rattle.gi_aiger.proofs.Knowing.{NoneKnown, once_from, all_closed}
use Rattle.gi_aiger.proofs.Sounding.{defining_in, defining_all, Low, defines_well, uses_well, each_join, marks_takes}
use Rattle.gi_aiger.proofs.Accepting.{ascii_news, size_map}
use Rattle.gi_aiger.specs.Limits.{most_items}

-- what right lines say
pub rows_said : (h : Head) (t : Taken) (ls : List (List ℕ)) (rs : List Row) → AllRight h t ls rs → AllSay h.form ls rs
rows_said h t [] [] right = tt
rows_said h t [] (r ∷ rs) right = absurd right
rows_said h t (l ∷ ls) [] right = absurd right
rows_said h t (l ∷ ls) (r ∷ rs) right = (right.0.says, rows_said h (step h.form t r) ls rs right.1)

pub ranges : (h : Head) (t : Taken) (ls : List (List ℕ)) (rs : List Row) → AllRight h t ls rs → AllByRecursion (IsDefining h.max) (flat_map defining_in rs) × AllByRecursion (Low h.max) (flat_map literals_in rs)
ranges h t [] [] right = (tt, tt)
ranges h t [] (r ∷ rs) right = absurd right
ranges h t (l ∷ ls) [] right = absurd right
ranges h t (l ∷ ls) (r ∷ rs) right =
    let more = ranges h (step h.form t r) ls rs right.1 in
    (each_join (IsDefining h.max) (defining_in r) (flat_map defining_in rs) (defines_well h.max (room t) r right.0.range) more.0, each_join (Low h.max) (literals_in r) (flat_map literals_in rs) (uses_well h.max (room t) r right.0.range) more.1)

pub totals : (h : Head) (t : Taken) (ls : List (List ℕ)) (rs : List Row) → AllRight h t ls rs → t.total ≤ most_items → (takes h.form t rs).total ≤ most_items
totals h t [] [] right le = le
totals h t [] (r ∷ rs) right le = absurd right
totals h t (l ∷ ls) [] right le = absurd right
totals h t (l ∷ ls) (r ∷ rs) right le = totals h (step h.form t r) ls rs right.1 (line_fits h t (step h.form t r) (section_of r) (bare l) le (right_reads h t l r right.0))

-- the marks in the ASCII form
abbrev asc : Head → Head
asc h = record h { form = Ascii }

one_fresh : (h : Head) (t : Taken) (r : Row) → add_by Ascii h t r ≡ Ok (with_line t r) → (is_known (defined_by r) t.marks ≡ false) × (missing (with_line t r).marks ≤ to_come h (with_line t r))
one_fresh h t r e = by_known (is_known (defined_by r) t.marks) refl e where
  few : (a b : ℕ) → nat_lt a b ≡ false → b ≤ a
  few a b f = grind (arith, nat_tests, f)

  by_check : (b : Bool) → nat_lt (to_come h (with_line t r)) (missing (with_line t r).marks) ≡ b → cond b (Err Undefined) (Ok (with_line t r)) ≡ Ok (with_line t r) → missing (with_line t r).marks ≤ to_come h (with_line t r)
  by_check true f e = absurd cc
  by_check false f e = few (to_come h (with_line t r)) (missing (with_line t r).marks) f

  by_known : (b : Bool) → is_known (defined_by r) t.marks ≡ b → cond b (Err Defined) (checked h (with_line t r)) ≡ Ok (with_line t r) → (is_known (defined_by r) t.marks ≡ false) × (missing (with_line t r).marks ≤ to_come h (with_line t r))
  by_known true k e = absurd cc
  by_known false k e = (k, by_check (nat_lt (to_come h (with_line t r)) (missing (with_line t r).marks)) refl e)

none_known : (h : Head) (t : Taken) (ls : List (List ℕ)) (rs : List Row) → AllRight (asc h) t ls rs → NoneKnown t.marks rs
none_known h t [] [] right = tt
none_known h t [] (r ∷ rs) right = absurd right
none_known h t (l ∷ ls) [] right = absurd right
none_known h t (l ∷ ls) (r ∷ rs) right = ((one_fresh (asc h) t r right.0.added).0, subst (λ (ms : List Mark). NoneKnown ms rs) (marks_stay (record t { marks = marked r t.marks }) r) (none_known h (with_line t r) ls rs right.1))

few_missing_at : (h : Head) (t : Taken) (ls : List (List ℕ)) (rs : List Row) → AllRight (asc h) t ls rs → missing t.marks ≤ to_come (asc h) t → missing (takes Ascii t rs).marks ≤ to_come (asc h) (takes Ascii t rs)
few_missing_at h t [] [] right le = le
few_missing_at h t [] (r ∷ rs) right le = absurd right
few_missing_at h t (l ∷ ls) [] right le = absurd right
few_missing_at h t (l ∷ ls) (r ∷ rs) right le = few_missing_at h (with_line t r) ls rs right.1 (one_fresh (asc h) t r right.0.added).1

-- justice properties by their sizes
pub shares_count : (ns ls : List ℕ) → length (shares ns ls) ≡ length ns
unfolding shares
shares_count [] ls = refl
shares_count (n ∷ ns) ls = ap suc (shares_count ns (drop n ls))

take_length : (n : ℕ) (ls : List ℕ) → n ≤ length ls → length (take n ls) ≡ n
take_length zero ls le = refl
take_length (suc n) [] le = absurd (omega (arith, le))
take_length (suc n) (l ∷ ls) le = ap suc (take_length n ls (omega (arith, le)))

drop_length : (n : ℕ) (ls : List ℕ) → length (drop n ls) ≡ length ls - n
drop_length zero ls = omega arith
drop_length (suc n) [] = omega arith
drop_length (suc n) (l ∷ ls) = omega (arith, drop_length n ls)

pub shares_lengths : (ns ls : List ℕ) → length ls ≡ sum ns → map length (shares ns ls) ≡ ns
unfolding shares
shares_lengths [] ls e = refl
shares_lengths (n ∷ ns) ls e =
    let s = sum_by-cons (λ x. x) n ns in
    ap (λ (m : ℕ). m ∷ map length (shares ns (drop n ls))) (take_length n ls (omega (arith, e, s))) ∙ ap (λ (ms : List ℕ). n ∷ ms) (shares_lengths ns (drop n ls) (omega (arith, drop_length n ls, e, s)))

none_left : (ls : List ℕ) → length ls ≡ 0 → [] ≡ ls
none_left [] e = refl
none_left (l ∷ ls) e = absurd (omega (arith, e))

pub shares_flat : (ns ls : List ℕ) → length ls ≡ sum ns → flat_map (λ p. p) (shares ns ls) ≡ ls
unfolding shares
shares_flat [] ls e = none_left ls e
shares_flat (n ∷ ns) ls e =
    let s = sum_by-cons (λ x. x) n ns in
    ap (λ (xs : List ℕ). take n ls ++ xs) (shares_flat ns (drop n ls) (omega (arith, drop_length n ls, e, s))) ∙ take-append-drop n ls

-- a header of equal numbers
pub counted : (n k : ℕ) → n ≡ k - 0 → n ≡ k
counted n k e = omega (arith, e)

abbrev pub head_by : Form → ℕ → ℕ → ℕ → ℕ → ℕ → ℕ → ℕ → ℕ → ℕ → Head
head_by form m i l o a b c j f = record { form = form; max = m; inputs = i; latches = l; outs = o; gates = a; bads = b; cons = c; justice = j; fair = f }

pub same_head : (form : Form) (m i l o a b c j f p q r s t u v w : ℕ) → i ≡ p → l ≡ q → o ≡ r → a ≡ s → b ≡ t → c ≡ u → j ≡ v → f ≡ w → head_by form m i l o a b c j f ≡ head_by form m p q r s t u v w
same_head form m i l o a b c j f p q r s t u v w e1 e2 e3 e4 e5 e6 e7 e8 = cc

-- the value
build : (h : Head) (L : Lists (sections_of Ascii)) → Counts (asc h) (sections_of Ascii) (begin (asc h)) L → (bytes head : List ℕ) (body names rest : List (List ℕ)) (symbols : List Symbol) (comment : Option (List ℕ)) → lines_of bytes ≡ head ∷ (body ++ (names ++ rest)) → header_of (bare head) ≡ Ok (asc h)
    → AllRight (asc h) (begin (asc h)) body (rows_by (sections_of Ascii) L) → AllName (asc h) [] names symbols → IsRest rest comment → HasLevels (state_by Ascii (sections_of Ascii) (begin (asc h)) L).gates
    → IsAscii (aig_of (asc h) (state_by Ascii (sections_of Ascii) (begin (asc h)) L) symbols comment) bytes
build h (i, (l, (o, (b, (c, (n, (j, (f, (g, u))))))))) (ki, (kl, (ko, (kb, (kc, (kn, (kj, (kf, (kg, k))))))))) bytes head body names rest symbols comment lines header right named ends levels =
    let L : Lists (sections_of Ascii) = (i, (l, (o, (b, (c, (n, (j, (f, (g, u))))))))) in
    let stands : Taken = state_by Ascii (sections_of Ascii) (begin (asc h)) L in
    let v : Aig = aig_of (asc h) stands symbols comment in
    let R = rows_by (sections_of Ascii) L in
    let sizes : length j ≡ sum n = counted (length j) (sum n) kj in
    let rows_is : rows_of v ≡ R =
    ap (λ (xs : List Row). map rows.Input i ++ (map rows.Latch l ++ (map rows.Out o ++ (map rows.Bad b ++ (map rows.Con c ++ (xs ++ (map rows.Justice (flat_map (λ p. p) (shares n j)) ++ (map rows.Fair f ++ (map rows.Gate g ++ []))))))))) (size_map (shares n j) ∙ ap (map rows.Size) (shares_lengths n j sizes))
    ∙ ap (λ (js : List ℕ). map rows.Input i ++ (map rows.Latch l ++ (map rows.Out o ++ (map rows.Bad b ++ (map rows.Con c ++ (map rows.Size n ++ (map rows.Justice js ++ (map rows.Fair f ++ (map rows.Gate g ++ []))))))))) (shares_flat n j sizes) in
    let same : head_of_aig Ascii v ≡ asc h =
    same_head Ascii h.max (length i) (length l) (length o) (length g) (length b) (length c) (length (shares n j)) (length f) h.inputs h.latches h.outs h.gates h.bads h.cons h.justice h.fair
    (counted (length i) h.inputs ki) (counted (length l) h.latches kl) (counted (length o) h.outs ko) (counted (length g) h.gates kg) (counted (length b) h.bads kb) (counted (length c) h.cons kc) (shares_count n j ∙ counted (length n) h.justice kn) (counted (length f) h.fair kf) in
    let all = ranges (asc h) (begin (asc h)) body R right in
    let taken : takes Ascii (begin (asc h)) R ≡ stands = state_takes Ascii (sections_of Ascii) (begin (asc h)) L (ascii_news h) in
    let few : missing (takes Ascii (begin (asc h)) R).marks ≤ to_come (asc h) (takes Ascii (begin (asc h)) R) = few_missing_at h (begin (asc h)) body R right (omega arith) in
    let come : to_come (asc h) stands ≡ 0 = omega (arith, kl, kg) in
    let none : missing (marks_of R []) ≡ 0 =
    omega (arith, subst (λ (u : Taken). missing (takes Ascii (begin (asc h)) R).marks ≤ to_come (asc h) u) taken few, come, ap missing (marks_takes (begin (asc h)) R)) in
    let total : stands.total ≤ most_items = subst (λ (u : Taken). u.total ≤ most_items) taken (totals (asc h) (begin (asc h)) body R right (omega arith)) in
    let literals : length (flat_map (λ p. p) (shares n j)) ≡ length j = ap length (shares_flat n j sizes) in
    record {
      head = head;
      body = body;
      names = names;
      rest = rest;
      lines = lines;
      header = header ∙ ap Ok (sym same);
      sections = subst (AllSay Ascii body) (sym rows_is) (rows_said (asc h) (begin (asc h)) body R right);
      named = subst (λ (x : Head). AllName x [] names symbols) (sym same) named;
      comment = ends;
      sound = record {
        defining = subst (All (IsDefining h.max)) (defining_all v) (subst (λ (rs : List Row). All (IsDefining h.max) (flat_map defining_in rs)) (sym rows_is) (All-from_recursion (IsDefining h.max) (flat_map defining_in R) all.0));
        literals = subst (λ (rs : List Row). All (Low h.max) (flat_map literals_in rs)) (sym rows_is) (All-from_recursion (Low h.max) (flat_map literals_in R) all.1);
        once = subst (λ (rs : List Row). AreOnce (defined_variables rs)) (sym rows_is) (once_from [] R (none_known h (begin (asc h)) body R right));
        closed = all_closed (rows_of v) (ap (λ (rs : List Row). missing (marks_of rs [])) rows_is ∙ none);
        levels = levels;
        sizes = omega (arith, total, literals, sizes);
      };
    }

pub ascii_said : (v : Aig) (bytes head : List ℕ) (ls : List (List ℕ)) (h : Head) → lines_of bytes ≡ head ∷ ls → header_of (bare head) ≡ Ok (asc h) → (read_sections (asc h) (sections_of Ascii) 2 (begin (asc h)) ls).read ≡ Ok v → HasLevels v.gates → IsAscii v bytes
ascii_said v bytes head ls h lines header read levels =
    let w = sections_back (asc h) v (sections_of Ascii) 2 (begin (asc h)) ls (ascii_news h) read in
    let stands = state_by Ascii (sections_of Ascii) (begin (asc h)) w.lists in
    let t = symbols_back (asc h) v stands w.line [] w.tail w.read in
    let all : lines_of bytes ≡ head ∷ (w.body ++ (t.names ++ t.rest)) = lines ∙ ap (λ (xs : List (List ℕ)). head ∷ xs) (sym (ap (λ (xs : List (List ℕ)). w.body ++ xs) t.split ∙ w.split)) in
    subst (λ (x : Aig). IsAscii x bytes) (sym t.value) (build h w.lists w.counts bytes head w.body t.names t.rest t.symbols t.comment all header w.right t.named t.ends (subst (λ (x : Aig). HasLevels x.gates) t.value levels))
