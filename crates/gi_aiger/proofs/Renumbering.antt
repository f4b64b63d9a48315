-- A value that is read from the binary form is what the file says.
use Rattle.std.proofs.Common.{◌≡◌, ℕ, zero, suc, ◌+◌, ◌*◌, ◌-◌, ◌/◌, ◌<◌, ◌≤◌, nat_le, List, [], ◌∷◌, ◌++◌, length, map, Bool, true, false, ◌&&◌, not, cond, inl, inr, Option, Some, None, Result, Ok, Err, refl, ap, sym, ◌∙◌, subst, arith, length-append}
use Rattle.std.specs.Prelude.{◌==◌, sum, sum_by, Contains, filter}
use Rattle.std.specs.List.{flat_map, AllByRecursion}
use Rattle.std.proofs.lemmas.Grind.{flat_map-append}
use Rattle.std.proofs.lemmas.List.{append-nil, length-map}
use Rattle.std.proofs.lemmas.List.Elements.{All-from_recursion}
use Rattle.std.proofs.lemmas.List.Sums.{sum_by-cons}
use Rattle.std.proofs.lemmas.Bool.Decides.{nat_tests, eqb_tells, leb_tells}
use Rattle.gi_aiger.specs.declared.aig.Aig.{Aig}
use Rattle.gi_aiger.specs.declared.aig.AndGate.{AndGate}
use Rattle.gi_aiger.specs.declared.aig.Latch.{Latch}
use Rattle.gi_aiger.specs.declared.aig.Symbol.{Symbol}
use Rattle.gi_aiger.specs.declared.head.Form.{Form}
use Rattle.gi_aiger.specs.declared.head.Form.TheVariants.{Binary}
use Rattle.gi_aiger.specs.declared.head.Head.{Head}
use Rattle.gi_aiger.specs.declared.row.Section.TheVariants as sections
use Rattle.gi_aiger.specs.declared.row.Row.{Row}
use Rattle.gi_aiger.specs.declared.row.Row.TheVariants as rows
use Rattle.gi_aiger.specs.declared.taken.Taken.{Taken}
use Rattle.gi_aiger.specs.Header.{is_tried, is_fitting, header_of}
use Rattle.gi_aiger.specs.Levels.{HasLevels}
use Rattle.gi_aiger.specs.Lines.{lines_of, bare, joined}
use Rattle.gi_aiger.specs.Rows.{literals_in, uses_of, defined_variables}
use Rattle.gi_aiger.specs.Sections.{sections_of, left_in}
use Rattle.gi_aiger.specs.Taking.{with_row, own_latch, left_out}
use Rattle.gi_aiger.specs.Evens.{evens}
use Rattle.gi_aiger.specs.Files.{Told, shares, aig_of, begin, read_sections}
use Rattle.gi_aiger.specs.Deltas.{AreGates}
use Rattle.gi_aiger.specs.Relation.{IsDefining, IsSound, IsBinary, AllSay, AllName, IsRest, AreOnce, head_of_aig, rows_at, rows_of, defining_literals, leaves_out}
use Rattle.gi_aiger.proofs.Fitting.{header_read}
use Rattle.gi_aiger.proofs.Limiting.{AreWithin, are_within}
use Rattle.gi_aiger.proofs.Saying.{Right}
use Rattle.gi_aiger.proofs.Putting.{takes, after, section_takes, Lists, rows_by, state_by, state_takes, Counts}
use Rattle.gi_aiger.proofs.Going.{AllRight, sections_back}
use Rattle.gi_aiger.proofs.Titling.{symbols_back}
use Rattle.gi_aiger.proofs.Pairing.{Owns, gates_back}
use Rattle.gi_aiger.proofs.Numbering.{AreFrom, from_join, from_evens, evens_from, evens_length}
use Rattle.gi_aiger.proofs.Knowing.{gate_in, input_in}
use Rattle.gi_aiger.proofs.Sounding.{defining_in, defining_all, defining_at, defining_section, variables_are, flat_flat, flat_same, flat_none, Low, each_left, each_right, each_join}
use Rattle.gi_aiger.proofs.Accepting.{mids, mid_of, mid_news, mid_inputs, mid_gates, rows_around, skip_inputs, size_map}
use Rattle.gi_aiger.proofs.Retelling.{rows_said, ranges, totals, shares_count, shares_lengths, shares_flat, counted, same_head}
use Rattle.gi_aiger.specs.Limits.{most_items}

abbrev bin : Head → Head
bin h = record h { form = Binary }

-- a header that is read fits
pub header_fits : (line : List ℕ) (h : Head) → header_of line ≡ Ok h → AreWithin h × (is_fitting h.form h.max (h.inputs + h.latches + h.gates) ≡ true)
header_fits line h e =
    let f = header_read line h e in
    let w = are_within h f.0 in
    (w, fitting (is_fitting h.form h.max (h.inputs + h.latches + h.gates)) (is_tried h) (tried h w) f.1) where
      small : (n : ℕ) → n ≤ most_items → nat_le n 4294967295 ≡ true
      small n le = grind (arith, nat_tests)

      tried : (h : Head) → AreWithin h → is_tried h ≡ true
      tried h w = rw (small h.max w.max, small h.inputs w.inputs, small h.latches w.latches, small h.gates w.gates) refl

      fitting : (b t : Bool) → t ≡ true → (t && not b) ≡ false → b ≡ true
      fitting true t e f = refl
      fitting false true e f = absurd cc
      fitting false false e f = absurd cc

pub sums_to : (max n : ℕ) → (n == max) ≡ true → n ≡ max
sums_to max n e = elim (eqb_tells n max) [ inl t ↦ t.1 | inr f ↦ absurd cc ]

-- numbered literals
pub from_defining : (max k : ℕ) (xs : List ℕ) → AreFrom k xs → k + length xs ≤ max → AllByRecursion (IsDefining max) xs
from_defining max k [] from le = tt
from_defining max k (x ∷ xs) from le = ((omega (arith, from.0), omega (arith, from.0), omega (arith, from.0, le)), from_defining max (k + 1) xs from.1 (omega (arith, le)))

abbrev halves : List ℕ → List ℕ
halves xs = map (λ l. l / 2) xs

from_above : (k y : ℕ) (xs : List ℕ) → AreFrom k xs → Contains (halves xs) y → k < y
from_above k y [] from h = absurd (omega (arith, h.1))
from_above k y (x ∷ xs) from (zero, lt, e) = omega (arith, from.0, e)
from_above k y (x ∷ xs) from (suc i, lt, e) = let h = from_above (k + 1) y xs from.1 (i, omega (arith, lt), e) in omega (arith, h)

from_once : (k : ℕ) (xs : List ℕ) → AreFrom k xs → AreOnce (halves xs)
from_once k [] from = tt
from_once k (x ∷ xs) from = (λ h. let a = from_above (k + 1) (x / 2) xs from.1 h in omega (arith, a, from.0), from_once (k + 1) xs from.1)

from_has : (k y : ℕ) (xs : List ℕ) → AreFrom k xs → k < y → y ≤ k + length xs → Contains (halves xs) y
from_has k y [] from low high = absurd (omega (arith, low, high))
from_has k y (x ∷ xs) from low high = elim (leb_tells y (k + 1)) [
  | inl t ↦ let here : x / 2 ≡ y = omega (arith, from.0, low, t.1) in (0, omega arith, here)
  | inr f ↦ let more = from_has (k + 1) y xs from.1 (omega (arith, f.1)) (omega (arith, high)) in (suc more.0, omega (arith, more.1), more.2)
]

-- the variables that literals use are within the greatest
abbrev Known : ℕ → ℕ → Type 0
Known max u = (0 < u) × (u ≤ max)

uses_known : (max : ℕ) (ls : List ℕ) → AllByRecursion (Low max) ls → AllByRecursion (Known max) (filter (λ v. not (v == 0)) (halves ls))
uses_known max [] low = tt
uses_known max (l ∷ ls) low = by_zero (l / 2 == 0) refl (uses_known max ls low.1) where
  not_zero : (n : ℕ) → (n == 0) ≡ false → 0 < n
  not_zero n f = elim (eqb_tells n 0) [ inl t ↦ absurd cc | inr g ↦ omega (arith, g.1) ]

  by_zero : (b : Bool) → (l / 2 == 0) ≡ b → AllByRecursion (Known max) (filter (λ v. not (v == 0)) (halves ls)) → AllByRecursion (Known max) (cond (not b) (l / 2 ∷ filter (λ v. not (v == 0)) (halves ls)) (filter (λ v. not (v == 0)) (halves ls)))
  by_zero true e more = more
  by_zero false e more = let some = not_zero (l / 2) e in ((some, omega (arith, low.0)), more)

rows_known : (max : ℕ) (rs : List Row) → AllByRecursion (Low max) (flat_map literals_in rs) → AllByRecursion (Known max) (flat_map uses_of rs)
rows_known max [] low = tt
rows_known max (r ∷ rs) low = each_join (Known max) (uses_of r) (flat_map uses_of rs) (uses_known max (literals_in r) (each_left (Low max) (literals_in r) (flat_map literals_in rs) low)) (rows_known max rs (each_right (Low max) (literals_in r) (flat_map literals_in rs) low))

each_weaker : {X : Type 0} (P Q : X → Type 0) → ((x : X) → P x → Q x) → (xs : List X) → AllByRecursion P xs → AllByRecursion Q xs
each_weaker P Q f [] all = tt
each_weaker P Q f (x ∷ xs) all = (f x all.0, each_weaker P Q f xs all.1)

-- the rows between the header and the gates number the latches
latch_own : (h : Head) (t : Taken) (l : Latch) → left_out Binary sections.Latch (own_latch h t) ≡ leaves_out Binary (rows.Latch l) → l.lit ≡ 2 * (h.inputs + length t.latches + 1)
latch_own h t l e = let is : own_latch h t ≡ l.lit = cc in sym is

mids_from : (h : Head) (t : Taken) (ls : List (List ℕ)) (rs : List Row) → AllRight (bin h) t ls rs → sum_by input_in rs ≡ 0 → sum_by gate_in rs ≡ 0 → AreFrom (h.inputs + length t.latches) (flat_map defining_in rs)
mids_from h t [] [] right i g = tt
mids_from h t [] (r ∷ rs) right i g = absurd right
mids_from h t (l ∷ ls) [] right i g = absurd right
mids_from h t (l ∷ ls) (r ∷ rs) right i g = by_row r right.0 (omega (arith, i, sum_by-cons input_in r rs)) (omega (arith, g, sum_by-cons gate_in r rs)) (mids_from h (with_row t r) ls rs right.1 (omega (arith, i, sum_by-cons input_in r rs)) (omega (arith, g, sum_by-cons gate_in r rs))) where
  by_row : (r : Row) → Right (bin h) t l r → input_in r ≡ 0 → gate_in r ≡ 0 → AreFrom (h.inputs + length (with_row t r).latches) (flat_map defining_in rs) → AreFrom (h.inputs + length t.latches) (defining_in r ++ flat_map defining_in rs)
  by_row (rows.Input n) is i g more = absurd (omega (arith, i))
  by_row (rows.Latch n) is i g more = (latch_own (bin h) t n is.own, let e : h.inputs + length (t.latches ++ n ∷ []) ≡ h.inputs + length t.latches + 1 = omega (arith, length-append t.latches (n ∷ [])) in subst (λ (k : ℕ). AreFrom k (flat_map defining_in rs)) e more)
  by_row (rows.Out n) is i g more = more
  by_row (rows.Bad n) is i g more = more
  by_row (rows.Con n) is i g more = more
  by_row (rows.Size n) is i g more = more
  by_row (rows.Justice n) is i g more = more
  by_row (rows.Fair n) is i g more = more
  by_row (rows.Gate n) is i g more = absurd (omega (arith, g))

owned_from : (h : Head) (gs : List AndGate) (t : Taken) → Owns h t gs → AreFrom (h.inputs + h.latches + length t.gates) (map (λ g. g.lhs) gs)
owned_from h [] t owns = tt
owned_from h (g ∷ gs) t owns =
    let e : h.inputs + h.latches + length (t.gates ++ g ∷ []) ≡ h.inputs + h.latches + length t.gates + 1 = omega (arith, length-append t.gates (g ∷ [])) in
    (owns.0, subst (λ (n : ℕ). AreFrom n (map (λ g. g.lhs) gs)) e (owned_from h gs (with_row t (rows.Gate g)) owns.1))

gates_low : (max : ℕ) (gs : List AndGate) (bytes : List ℕ) → AreGates gs bytes → AllByRecursion (IsDefining max) (map (λ g. g.lhs) gs) → AllByRecursion (Low max) (flat_map literals_in (map rows.Gate gs))
gates_low max [] bytes are defining = tt
gates_low max (g ∷ gs) bytes are defining = (omega (arith, are.3.below, defining.0.2), (omega (arith, are.3.below, are.3.ordered, defining.0.2), gates_low max gs are.1 are.4 defining.1))

mid_defining : (v : Aig) → flat_map defining_in (mid_of v) ≡ map (λ l. l.lit) v.latches
mid_defining v = flat_flat defining_in (rows_at v) mids ∙ flat_same (λ s. flat_map defining_in (rows_at v s)) (defining_at v) (defining_section v) mids ∙ append-nil (map (λ l. l.lit) v.latches)

low_join : (max : ℕ) (rs qs : List Row) → AllByRecursion (Low max) (flat_map literals_in rs) → AllByRecursion (Low max) (flat_map literals_in qs) → AllByRecursion (Low max) (flat_map literals_in (rs ++ qs))
low_join max rs qs a b = subst (AllByRecursion (Low max)) (sym (flat_map-append literals_in rs qs)) (each_join (Low max) (flat_map literals_in rs) (flat_map literals_in qs) a b)

inputs_low : (max : ℕ) (ins : List ℕ) → AllByRecursion (Low max) (flat_map literals_in (map rows.Input ins))
inputs_low max ins = subst (AllByRecursion (Low max)) (sym (flat_none literals_in rows.Input (λ l. refl) ins)) tt

-- a value whose literals are numbered is sound where its other literals are low
numbered_sound : (v : Aig) → AreFrom 0 (defining_literals v) → length (defining_literals v) ≡ v.max → AllByRecursion (Low v.max) (flat_map literals_in (rows_of v)) → HasLevels v.gates → length (flat_map (λ p. p) v.justice) ≤ most_items → IsSound v
numbered_sound v from count low levels sizes =
    let variables : defined_variables (rows_of v) ≡ halves (defining_literals v) = variables_are (rows_of v) ∙ ap halves (defining_all v) in
    record {
      defining = All-from_recursion (IsDefining v.max) (defining_literals v) (from_defining v.max 0 (defining_literals v) from (omega (arith, count)));
      literals = All-from_recursion (Low v.max) (flat_map literals_in (rows_of v)) low;
      once = subst AreOnce (sym variables) (from_once 0 (defining_literals v) from);
      closed = All-from_recursion (Contains (defined_variables (rows_of v))) (flat_map uses_of (rows_of v))
          (each_weaker (Known v.max) (Contains (defined_variables (rows_of v))) (λ u k. subst (λ (xs : List ℕ). Contains xs u) (sym variables) (from_has 0 u (defining_literals v) from k.0 (omega (arith, count, k.1)))) (flat_map uses_of (rows_of v)) (rows_known v.max (rows_of v) low));
      levels = levels;
      sizes = sizes;
    }

-- the value
build : (h : Head) (L : Lists mids) → Counts (bin h) mids (begin (bin h)) L → h.inputs + h.latches + h.gates ≡ h.max → (gs : List AndGate) → length gs ≡ h.gates - 0 → (bytes head gates later : List ℕ) (body behind names rest : List (List ℕ)) (symbols : List Symbol) (comment : Option (List ℕ)) → lines_of bytes ≡ head ∷ (body ++ behind) → joined behind ≡ gates ++ later → lines_of later ≡ names ++ rest → header_of (bare head) ≡ Ok (bin h)
    → AllRight (bin h) (begin (bin h)) body (rows_by mids L) → AreGates gs gates → Owns (bin h) (state_by Binary mids (begin (bin h)) L) gs → AllName (bin h) [] names symbols → IsRest rest comment → HasLevels gs
    → IsBinary (aig_of (bin h) (after Binary sections.Gate (state_by Binary mids (begin (bin h)) L) gs) symbols comment) bytes
build h (l, (o, (b, (c, (n, (j, (f, u))))))) (kl, (ko, (kb, (kc, (kn, (kj, (kf, k))))))) fits gs kg bytes head gates later body behind names rest symbols comment lines parts lines_after header right are owns named ends levels =
    let L : Lists mids = (l, (o, (b, (c, (n, (j, (f, u))))))) in
    let stands : Taken = state_by Binary mids (begin (bin h)) L in
    let v : Aig = aig_of (bin h) (after Binary sections.Gate stands gs) symbols comment in
    let R = rows_by mids L in
    let lits = map (λ (x : Latch). x.lit) l in
    let lhss = map (λ (x : AndGate). x.lhs) gs in
    let sizes : length j ≡ sum n = counted (length j) (sum n) kj in
    let mid_is : mid_of v ≡ R =
    ap (λ (xs : List Row). map rows.Latch l ++ (map rows.Out o ++ (map rows.Bad b ++ (map rows.Con c ++ (xs ++ (map rows.Justice (flat_map (λ p. p) (shares n j)) ++ (map rows.Fair f ++ []))))))) (size_map (shares n j) ∙ ap (map rows.Size) (shares_lengths n j sizes))
    ∙ ap (λ (js : List ℕ). map rows.Latch l ++ (map rows.Out o ++ (map rows.Bad b ++ (map rows.Con c ++ (map rows.Size n ++ (map rows.Justice js ++ (map rows.Fair f ++ []))))))) (shares_flat n j sizes) in
    let inputs : length (evens h.inputs) ≡ h.inputs = evens_length h.inputs in
    let same : head_of_aig Binary v ≡ bin h =
    same_head Binary h.max (length (evens h.inputs)) (length l) (length o) (length gs) (length b) (length c) (length (shares n j)) (length f) h.inputs h.latches h.outs h.gates h.bads h.cons h.justice h.fair
    inputs (counted (length l) h.latches kl) (counted (length o) h.outs ko) (counted (length gs) h.gates kg) (counted (length b) h.bads kb) (counted (length c) h.cons kc) (shares_count n j ∙ counted (length n) h.justice kn) (counted (length f) h.fair kf) in
    let all = ranges (bin h) (begin (bin h)) body R right in
    let taken : takes Binary (begin (bin h)) R ≡ stands = state_takes Binary mids (begin (bin h)) L (mid_news h) in
    let total : stands.total ≤ most_items = subst (λ (u : Taken). u.total ≤ most_items) taken (totals (bin h) (begin (bin h)) body R right (omega arith)) in
    let literals : length (flat_map (λ p. p) (shares n j)) ≡ length j = ap length (shares_flat n j sizes) in
    let latches : AreFrom (h.inputs + 0) lits = subst (AreFrom (h.inputs + 0)) (ap (flat_map defining_in) (sym mid_is) ∙ mid_defining v) (mids_from h (begin (bin h)) body R right (ap (sum_by input_in) (sym mid_is) ∙ mid_inputs v) (ap (sum_by gate_in) (sym mid_is) ∙ mid_gates v)) in
    let place1 : h.inputs + 0 ≡ 0 + length (evens h.inputs) = omega (arith, inputs) in
    let place2 : h.inputs + h.latches + 0 ≡ 0 + length (evens h.inputs ++ lits) = omega (arith, inputs, length-append (evens h.inputs) lits, length-map l (λ (x : Latch). x.lit), kl) in
    let front : AreFrom 0 (evens h.inputs ++ lits) = from_join 0 (evens h.inputs) lits (evens_from h.inputs) (subst (λ (k : ℕ). AreFrom k lits) place1 latches) in
    let from : AreFrom 0 (defining_literals v) = from_join 0 (evens h.inputs ++ lits) lhss front (subst (λ (k : ℕ). AreFrom k lhss) place2 (owned_from (bin h) gs stands owns)) in
    let count : length (defining_literals v) ≡ h.max =
    omega (arith, length-append (evens h.inputs ++ lits) lhss, length-append (evens h.inputs) lits, length-map l (λ (x : Latch). x.lit), length-map gs (λ (x : AndGate). x.lhs), inputs, kl, kg, fits) in
    let defining = from_defining h.max 0 (defining_literals v) from (omega (arith, count)) in
    let mid_low = subst (λ (rs : List Row). AllByRecursion (Low h.max) (flat_map literals_in rs)) (sym mid_is) all.1 in
    let gate_low = gates_low h.max gs gates are (each_right (IsDefining h.max) (evens h.inputs ++ lits) lhss defining) in
    let low = subst (λ (rs : List Row). AllByRecursion (Low h.max) (flat_map literals_in rs)) (sym (rows_around v)) (low_join h.max (map rows.Input (evens h.inputs)) (mid_of v ++ map rows.Gate gs) (inputs_low h.max (evens h.inputs)) (low_join h.max (mid_of v) (map rows.Gate gs) mid_low gate_low)) in
    record {
      head = head;
      body = body;
      behind = behind;
      gates = gates;
      after = later;
      names = names;
      rest = rest;
      lines = lines;
      parts = parts;
      lines_after = lines_after;
      header = header ∙ ap Ok (sym same);
      sections = subst (AllSay Binary body) (sym mid_is) (rows_said (bin h) (begin (bin h)) body R right);
      gates_are = are;
      named = subst (λ (x : Head). AllName x [] names symbols) (sym same) named;
      comment = ends;
      numbered = record { literals = from_evens (defining_literals v) from ∙ ap evens count };
      sound = numbered_sound v from count low levels (omega (arith, total, literals, sizes));
    }

pub binary_said : (v : Aig) (bytes head : List ℕ) (ls : List (List ℕ)) (h : Head) → lines_of bytes ≡ head ∷ ls → header_of (bare head) ≡ Ok (bin h) → (read_sections (bin h) (sections_of Binary) 2 (begin (bin h)) ls).read ≡ Ok v → HasLevels v.gates → IsBinary v bytes
binary_said v bytes head ls h lines header read levels =
    let w = sections_back (bin h) v mids 2 (begin (bin h)) ls (mid_news h) (ap (λ (t : Told). t.read) (sym (skip_inputs h ls)) ∙ read) in
    let stands = state_by Binary mids (begin (bin h)) w.lists in
    let p = gates_back (bin h) v w.line (left_in (bin h) stands sections.Gate) stands (joined w.tail) w.read in
    let t = symbols_back (bin h) v (takes Binary stands (map rows.Gate p.gates)) w.line [] (lines_of p.rest) p.read in
    let fits = sums_to h.max (h.inputs + h.latches + h.gates) (header_fits (bare head) (bin h) header).1 in
    let value : v ≡ aig_of (bin h) (after Binary sections.Gate stands p.gates) t.symbols t.comment = t.value ∙ ap (λ (u : Taken). aig_of (bin h) u t.symbols t.comment) (section_takes Binary sections.Gate stands p.gates refl) in
    let all : lines_of bytes ≡ head ∷ (w.body ++ w.tail) = lines ∙ ap (λ (xs : List (List ℕ)). head ∷ xs) (sym w.split) in
    subst (λ (x : Aig). IsBinary x bytes) (sym value)
    (build h w.lists w.counts fits p.gates p.count bytes head p.front p.rest w.body w.tail t.names t.rest t.symbols t.comment all p.split (sym t.split) header w.right p.are p.owns t.named t.ends (subst (λ (x : Aig). HasLevels x.gates) value levels))
