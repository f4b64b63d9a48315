-- Lines of the binary form, among which the LF bytes of gates end none.
use Rattle.std.proofs.Common.{◌≡◌, ◌≢◌, ℕ, zero, suc, ◌+◌, ◌*◌, ◌-◌, ◌%◌, ◌<◌, ◌≤◌, nat_le, List, [], ◌∷◌, ◌++◌, length, map, take, Bool, true, false, ◌&&◌, cond, inl, inr, Result, Ok, Err, refl, ap, sym, ◌∙◌, subst, arith, length-append, append_assoc}
use Rattle.std.specs.Prelude.{◌==◌}
use Rattle.std.proofs.lemmas.Bool.{ne_eqb}
use Rattle.std.proofs.lemmas.Bool.Decides.{eqb_tells, leb_tells, nat_tests}
use Rattle.std.proofs.lemmas.List.{append-nil}
use Rattle.gi_aiger.specs.declared.aig.Aig.{Aig}
use Rattle.gi_aiger.specs.declared.aig.AndGate.{AndGate}
use Rattle.gi_aiger.specs.declared.fault.AigCode.{AigCode}
use Rattle.gi_aiger.specs.declared.fault.AigCode.TheVariants.{End}
use Rattle.gi_aiger.specs.declared.fault.AigFault.{AigFault}
use Rattle.gi_aiger.specs.declared.head.Form.{Form}
use Rattle.gi_aiger.specs.declared.head.Form.TheVariants.{Binary}
use Rattle.gi_aiger.specs.declared.head.Head.{Head}
use Rattle.gi_aiger.specs.declared.row.Row.TheVariants as rows
use Rattle.gi_aiger.specs.declared.row.Section.{Section}
use Rattle.gi_aiger.specs.declared.row.Section.TheVariants as sections
use Rattle.gi_aiger.specs.declared.taken.Taken.{Taken}
use Rattle.gi_aiger.specs.Deltas.{IsDelta, AreGates}
use Rattle.gi_aiger.specs.Fields.{with_byte}
use Rattle.gi_aiger.specs.Header.{is_within}
use Rattle.gi_aiger.specs.Laws.{first_lines, line_feeds}
use Rattle.gi_aiger.specs.Lines.{lines_of, bare, joined, text_of}
use Rattle.gi_aiger.specs.Sections.{left_in}
use Rattle.gi_aiger.specs.Taking.{with_row}
use Rattle.gi_aiger.specs.Files.{Told, gate_stopped, read_symbols, read_gates, after_sections, read_sections}
use Rattle.gi_aiger.proofs.Cutting.{whole_line, cut, lines_first, Later, gates_later, sections_later, Behind, symbols_behind, section_behind, symbols_gates}
use Rattle.gi_aiger.proofs.Failing.{gate_of}
use Rattle.gi_aiger.proofs.Limiting.{are_within}
use Rattle.gi_aiger.proofs.Lining.{AreLines, IsPlain, plain_head, lines_are, joined_lines}
use Rattle.gi_aiger.proofs.Pairing.{Owns, AreSmall, gates_there, gates_through}
use Rattle.gi_aiger.proofs.Putting.{takes}
use Rattle.gi_aiger.proofs.Wording.{one_line}
use Rattle.gi_aiger.specs.Limits.{most_items}

-- how many LF bytes there are
feeds_yes : (x : ℕ) (xs : List ℕ) → (x == 10) ≡ true → line_feeds (x ∷ xs) ≡ suc (line_feeds xs)
feeds_yes x xs t = rw t refl

feeds_no : (x : ℕ) (xs : List ℕ) → (x == 10) ≡ false → line_feeds (x ∷ xs) ≡ line_feeds xs
feeds_no x xs f = rw f refl

feeds_append : (xs ys : List ℕ) → line_feeds (xs ++ ys) ≡ line_feeds xs + line_feeds ys
feeds_append [] ys = omega arith
feeds_append (x ∷ xs) ys = elim (eqb_tells x 10) [
  | inl t ↦ omega (arith, feeds_yes x (xs ++ ys) t.0, feeds_yes x xs t.0, feeds_append xs ys)
  | inr f ↦ omega (arith, feeds_no x (xs ++ ys) f.0, feeds_no x xs f.0, feeds_append xs ys)
]

high_no : (x : ℕ) (xs : List ℕ) → 128 ≤ x → line_feeds (x ∷ xs) ≡ line_feeds xs
high_no x xs big = feeds_no x xs (ne_eqb x 10 (λ e. omega (arith, big, e)))

-- one number, or one list of gates, has as many in each spelling
same_high : (a b g h n : ℕ) → n ≡ a % 128 + 128 * g → n ≡ b % 128 + 128 * h → h ≡ g
same_high a b g h n e f = omega (arith, e, f)

delta_feeds : (a b : List ℕ) (n : ℕ) → IsDelta a n → IsDelta b n → line_feeds a ≡ line_feeds b
delta_feeds [] b n d e = absurd d
delta_feeds (x ∷ xs) [] n d e = absurd e
delta_feeds (x ∷ []) (y ∷ []) n d e = ap (λ (m : ℕ). line_feeds (m ∷ [])) (sym d.1 ∙ e.1)
delta_feeds (x ∷ []) (y ∷ z ∷ ys) n d e = absurd (omega (arith, d.0, d.1, e.2, e.3))
delta_feeds (x ∷ z ∷ xs) (y ∷ []) n d e = absurd (omega (arith, e.0, e.1, d.2, d.3))
delta_feeds (x ∷ z ∷ xs) (y ∷ w ∷ ys) n d e =
    high_no x (z ∷ xs) d.0 ∙ delta_feeds (z ∷ xs) (w ∷ ys) d.1 d.4 (subst (IsDelta (w ∷ ys)) (same_high x y d.1 e.1 n d.3 e.3) e.4) ∙ sym (high_no y (w ∷ ys) e.0)

gates_feeds : (gs : List AndGate) (a b : List ℕ) → AreGates gs a → AreGates gs b → line_feeds a ≡ line_feeds b
gates_feeds [] a b d e = ap line_feeds (d ∙ sym e)
gates_feeds (g ∷ gs) a b d e =
    let one = delta_feeds d.3.first e.3.first (g.lhs - g.rhs0) d.3.to_first e.3.to_first in
    let two = delta_feeds d.3.second e.3.second (g.rhs0 - g.rhs1) d.3.to_second e.3.to_second in
    let left : line_feeds d.0 ≡ line_feeds d.3.first + line_feeds d.3.second = ap line_feeds d.3.bytes_are ∙ feeds_append d.3.first d.3.second in
    let right : line_feeds e.0 ≡ line_feeds e.3.first + line_feeds e.3.second = ap line_feeds e.3.bytes_are ∙ feeds_append e.3.first e.3.second in
    let rest = gates_feeds gs d.1 e.1 d.4 e.4 in
    let all : line_feeds a ≡ line_feeds d.0 + line_feeds d.1 = ap line_feeds d.2 ∙ feeds_append d.0 d.1 in
    let also : line_feeds b ≡ line_feeds e.0 + line_feeds e.1 = ap line_feeds e.2 ∙ feeds_append e.0 e.1 in
    omega (arith, one, two, left, right, rest, all, also)

-- the last gates have no more
later_feeds : (xs ys : List AndGate) (all back : List ℕ) → AreGates (xs ++ ys) all → AreGates ys back → line_feeds back ≤ line_feeds all
later_feeds [] ys all back d e = omega (arith, gates_feeds ys all back d e)
later_feeds (g ∷ xs) ys all back d e = omega (arith, later_feeds xs ys d.1 back d.4 e, ap line_feeds d.2 ∙ feeds_append d.0 d.1)

-- the lines of bytes, from the first on
lines_some : (b : ℕ) (bs : List ℕ) → (l : List ℕ) × (ls : List (List ℕ)) × (lines_of (b ∷ bs) ≡ l ∷ ls)
unfolding lines_of
lines_some b bs = by_test (b == 10) (lines_of bs) where
  by_test : (t : Bool) (ls : List (List ℕ)) → (k : List ℕ) × (ks : List (List ℕ)) × (cond t ((10 ∷ []) ∷ ls) (with_byte b ls) ≡ k ∷ ks)
  by_test true ls = (10 ∷ [], ls, refl)
  by_test false [] = (b ∷ [], [], refl)
  by_test false (l ∷ ls) = (b ∷ l, ls, refl)

lines_there : (xs : List ℕ) (y : ℕ) (ys : List ℕ) → (l : List ℕ) × (ls : List (List ℕ)) × (lines_of (xs ++ y ∷ ys) ≡ l ∷ ls)
lines_there [] y ys = lines_some y ys
lines_there (x ∷ xs) y ys = lines_some x (xs ++ y ∷ ys)

abbrev front_of : ℕ → List (List ℕ) → List ℕ
front_of n ls = text_of (map bare (take n ls))

lf_line : (x : ℕ) (bs : List ℕ) → (x == 10) ≡ true → lines_of (x ∷ bs) ≡ (10 ∷ []) ∷ lines_of bs
unfolding lines_of
lf_line x bs t = rw t refl

no_lf_line : (x : ℕ) (bs : List ℕ) → (x == 10) ≡ false → lines_of (x ∷ bs) ≡ with_byte x (lines_of bs)
unfolding lines_of
no_lf_line x bs f = rw f refl

bare_lf : bare (10 ∷ []) ≡ []
unfolding bare
bare_lf = refl

bare_more : (x : ℕ) (l : List ℕ) → (x == 10) ≡ false → bare (x ∷ l) ≡ x ∷ bare l
unfolding bare
bare_more x l f = rw f refl

first_past : (xs : List ℕ) (y : ℕ) (ys : List ℕ) (n i : ℕ) → n ≡ line_feeds xs + suc i → first_lines n (xs ++ y ∷ ys) ≡ xs ++ first_lines (suc i) (y ∷ ys)
first_past [] y ys n i e = let same : n ≡ suc i = omega (arith, e) in ap (λ (m : ℕ). first_lines m (y ∷ ys)) same
first_past (x ∷ xs) y ys zero i e = absurd (omega (arith, e))
first_past (x ∷ xs) y ys (suc m) i e = elim (eqb_tells x 10) [
  | inl t ↦
      let fewer : m ≡ line_feeds xs + suc i = omega (arith, e, feeds_yes x xs t.0) in
      ap (front_of (suc m)) (lf_line x (xs ++ y ∷ ys) t.0) ∙ ap (λ (w : List ℕ). (w ++ 10 ∷ []) ++ first_lines m (xs ++ y ∷ ys)) bare_lf ∙ ap (λ (bs : List ℕ). 10 ∷ bs) (first_past xs y ys m i fewer) ∙ ap (λ (b : ℕ). b ∷ (xs ++ first_lines (suc i) (y ∷ ys))) (sym t.1)
  | inr f ↦
      let some = lines_there xs y ys in
      let same : suc m ≡ line_feeds xs + suc i = omega (arith, e, feeds_no x xs f.0) in
      ap (front_of (suc m)) (no_lf_line x (xs ++ y ∷ ys) f.0 ∙ ap (with_byte x) some.2) ∙ ap (λ (w : List ℕ). (w ++ 10 ∷ []) ++ front_of m some.1) (bare_more x some.0 f.0)
      ∙ ap (λ (ls : List (List ℕ)). x ∷ front_of (suc m) ls) (sym some.2) ∙ ap (λ (bs : List ℕ). x ∷ bs) (first_past xs y ys (suc m) i same)
]

plain_line : (b : ℕ) (x : List ℕ) → IsPlain (b ∷ x) → lines_of (b ∷ x) ≡ (b ∷ x) ∷ []
unfolding lines_of
plain_line b [] plain = rw (plain_head b [] plain).0 refl
plain_line b (c ∷ x) plain = let h = plain_head b (c ∷ x) plain in rw h.0 (ap (with_byte b) (plain_line c x h.1))

no_text : lines_of [] ≡ []
unfolding lines_of
no_text = refl

joined_back : (ls : List (List ℕ)) → AreLines ls → lines_of (joined ls) ≡ ls
joined_back [] lines = no_text
joined_back (l ∷ ls) (inl q) =
    ap (λ (x : List ℕ). lines_of (x ++ joined ls)) q.1 ∙ ap lines_of (append_assoc q.0 (10 ∷ []) (joined ls)) ∙ one_line q.0 (joined ls) q.2 ∙ ap (λ (xs : List (List ℕ)). (q.0 ++ 10 ∷ []) ∷ xs) (joined_back ls q.3) ∙ ap (λ (x : List ℕ). x ∷ ls) (sym q.1)
joined_back (l ∷ ls) (inr q) =
    ap (λ (xs : List (List ℕ)). lines_of (joined (l ∷ xs))) q.4 ∙ ap lines_of (append-nil l ∙ q.2) ∙ plain_line q.0 q.1 q.3 ∙ ap (λ (x : List ℕ). x ∷ []) (sym q.2) ∙ ap (λ (xs : List (List ℕ)). l ∷ xs) (sym q.4)

joined_cut : (xs : List (List ℕ)) (more : List ℕ) → joined (map whole_line xs ++ lines_of more) ≡ text_of (map bare xs) ++ more
joined_cut [] more = joined_lines more
joined_cut (x ∷ xs) more = ap (λ (bs : List ℕ). whole_line x ++ bs) (joined_cut xs more) ∙ sym (append_assoc (whole_line x) (text_of (map bare xs)) more)

-- gates that are numbered within the header are small
small_owned : (h : Head) (t : Taken) (gs : List AndGate) → 2 * (h.inputs + h.latches + length t.gates + length gs) < 4294967296 → Owns h t gs → AreSmall gs
small_owned h t [] lt owns = tt
small_owned h t (g ∷ gs) lt owns = (omega (arith, lt, owns.0), small_owned h (with_row t (rows.Gate g)) gs (omega (arith, lt, length-append t.gates (g ∷ []))) owns.1)

takes_gates : (t : Taken) (gs : List AndGate) → (takes Binary t (map rows.Gate gs)).gates ≡ t.gates ++ gs
takes_gates t [] = sym (append-nil t.gates)
takes_gates t (g ∷ gs) = takes_gates (with_row t (rows.Gate g)) gs ∙ append_assoc t.gates (g ∷ []) gs

no_gate : (f : AigFault) → f.gate ≡ 0 → (t : Taken) (k : ℕ) (c : AigCode) → (gate_stopped t k c).read ≡ Err f → ⊥
unfolding gate_of
no_gate f z t k c e = let is : length t.gates + 1 ≡ f.gate = ap gate_of e in absurd (omega (arith, is, z))

no_symbols : (h : Head) (k : ℕ) (t : Taken) (f : AigFault) (bytes : List ℕ) → bytes ≡ [] → (read_symbols h k t [] (lines_of bytes)).read ≡ Err f → ⊥
unfolding read_symbols lines_of
no_symbols h k t f [] none e = absurd cc
no_symbols h k t f (b ∷ bs) none e = absurd cc

-- a fault that is no binary gate's, where these bytes are the gates that stand
abbrev pub AtGates : List ℕ → Told → AigFault → Type 0
AtGates gates told f = (f.code ≢ End) × (f.gate ≡ 0) × AreGates told.gates gates

gates_behind : (gates : List ℕ) (h : Head) → is_within h ≡ true → (more : List ℕ) (v : Aig) (n k : ℕ) (t : Taken) (ls : List (List ℕ)) → AreLines ls → (read_gates h k (left_in h t sections.Gate) t (joined (cut n ls (lines_of more)))).read ≡ Ok v
    → Behind (AtGates gates) (line_feeds gates) k n (read_gates h k (left_in h t sections.Gate) t (joined ls))
gates_behind gates h small more v n k t ls lines ok = λ f p e.
    let c = left_in h t sections.Gate in
    let w = gates_through h (Err f) (no_gate f p.1) k c t (joined ls) e in
    let stands = takes Binary t (map rows.Gate w.gates) in
    let low = are_within h small in
    let are_small : AreSmall w.gates = smalls h t w.gates low.inputs low.latches low.gates w.count w.owns in
    let through : (rest : List ℕ) → read_gates h k c t (w.front ++ rest) ≡ read_symbols h k stands [] (lines_of rest) = λ rest.
    ap (λ (m : ℕ). read_gates h k m t (w.front ++ rest)) (sym w.count) ∙ gates_there h (λ (told : Told). told ≡ read_symbols h k stands [] (lines_of rest)) k rest t w.gates w.front w.are w.owns are_small refl in
    let all : (read_gates h k c t (joined ls)).gates ≡ t.gates ++ w.gates =
    ap (λ (bs : List ℕ). (read_gates h k c t bs).gates) w.split ∙ ap (λ (told : Told). told.gates) (through w.rest) ∙ symbols_gates h k stands [] (lines_of w.rest) ∙ takes_gates t w.gates in
    let feeds : line_feeds w.front ≤ line_feeds gates = later_feeds t.gates w.gates gates w.front (subst (λ (gs : List AndGate). AreGates gs gates) all p.2) w.are in
    by_rest f (line_feeds w.front) feeds (gates_later h k c t (joined ls)) e w.front w.rest stands w.split refl w.read through where
      smalls : (h : Head) (t : Taken) (gs : List AndGate) → h.inputs ≤ most_items → h.latches ≤ most_items → h.gates ≤ most_items → length gs ≡ h.gates - length t.gates → Owns h t gs → AreSmall gs
      smalls h t [] i l g count owns = tt
      smalls h t (x ∷ gs) i l g count owns = small_owned h t (x ∷ gs) (omega (arith, i, l, g, count)) owns

      by_rest : (f : AigFault) (x : ℕ) → x ≤ line_feeds gates → Later k t (read_gates h k (left_in h t sections.Gate) t (joined ls)) → (read_gates h k (left_in h t sections.Gate) t (joined ls)).read ≡ Err f → (front rest : List ℕ) (stands : Taken) → joined ls ≡ front ++ rest → x ≡ line_feeds front → (read_symbols h k stands [] (lines_of rest)).read ≡ Err f
          → ((bs : List ℕ) → read_gates h k (left_in h t sections.Gate) t (front ++ bs) ≡ read_symbols h k stands [] (lines_of bs)) → k + n ≤ f.line + line_feeds gates
      by_rest f x feeds later e front [] stands split is read through = absurd (no_symbols h k stands f [] refl read)
      by_rest f x feeds later e front (y ∷ ys) stands split is read through = elim (leb_tells n x) [
        | inl t ↦ omega (arith, t.1, feeds, later.line f e)
        | inr g ↦
            let i = n - (x + 1) in
            let count : n ≡ line_feeds front + suc i = omega (arith, g.1, is) in
            let lines_are_back : lines_of (joined ls) ≡ ls = joined_back ls lines in
            let text : joined (cut n ls (lines_of more)) ≡ front ++ (first_lines (suc i) (y ∷ ys) ++ more) =
            joined_cut (take n ls) more ∙ ap (λ (xs : List (List ℕ)). front_of n xs ++ more) (sym lines_are_back) ∙ ap (λ (bs : List ℕ). first_lines n bs ++ more) split ∙ ap (λ (bs : List ℕ). bs ++ more) (first_past front y ys n i count)
            ∙ append_assoc front (first_lines (suc i) (y ∷ ys)) more in
            let again : (read_symbols h k stands [] (cut (suc i) (lines_of (y ∷ ys)) (lines_of more))).read ≡ Ok v =
            ap (λ (xs : List (List ℕ)). (read_symbols h k stands [] xs).read) (sym (lines_first (take (suc i) (lines_of (y ∷ ys))) more)) ∙ ap (λ (told : Told). told.read) (sym (through (first_lines (suc i) (y ∷ ys) ++ more)))
            ∙ ap (λ (bs : List ℕ). (read_gates h k (left_in h t sections.Gate) t bs).read) (sym text) ∙ ok in
            let far : k + suc i ≤ f.line + 0 = symbols_behind (λ told g. Unit {0}) 0 h (lines_of more) v (suc i) k stands [] (lines_of (y ∷ ys)) (lines_are (y ∷ ys)) again f tt read in
            omega (arith, far, count, is, feeds)
      ]

pub binary_behind : (gates : List ℕ) (h : Head) (more : List ℕ) (v : Aig) (ss : List Section) (n k : ℕ) (t : Taken) (ls : List (List ℕ)) → h.form ≡ Binary → is_within h ≡ true → AreLines ls → (read_sections h ss k t (cut n ls (lines_of more))).read ≡ Ok v → Behind (AtGates gates) (line_feeds gates) k n (read_sections h ss k t ls)
unfolding read_sections
binary_behind gates h more v [] n k t ls form small lines ok =
    subst (λ (f : Form). Behind (AtGates gates) (line_feeds gates) k n (after_sections f h k t ls)) (sym form) (gates_behind gates h small more v n k t ls lines (ap (λ (f : Form). (after_sections f h k t (cut n ls (lines_of more))).read) (sym form) ∙ ok))
binary_behind gates h more v (s ∷ ss) n k t ls form small lines ok =
    section_behind (AtGates gates) (line_feeds gates) (λ told f p. p.0) h s (λ k u more. read_sections h ss k u more) (lines_of more) v (λ k u more. sections_later h ss k u more) (λ n k u ls lines ok. binary_behind gates h more v ss n k u ls form small lines ok) (left_in h t s) n k t ls lines ok
