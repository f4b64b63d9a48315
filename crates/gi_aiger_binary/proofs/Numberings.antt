-- A sound value, numbered anew, is numbered as the binary form wants it.
use Rattle.std.proofs.Common.{◌≡◌, ℕ, suc, ◌+◌, ◌*◌, ◌-◌, ◌/◌, ◌%◌, ◌<◌, ◌≤◌, max, min, eqb, Bool, true, false, cond, List, [], ◌∷◌, ◌++◌, length, map, get_or, inl, inr, refl, ap, sym, ◌∙◌, subst, arith, length-append}
use Rattle.std.specs.Prelude.{◌==◌}
use Rattle.std.specs.List.{All, AllByRecursion, IsDistinct, flat_map}
use Rattle.std.proofs.lemmas.Bool.{cases_lt}
use Rattle.std.proofs.lemmas.List.{length-map, map-append, get_or-map, get_or_append_left, get_or-append_right}
use Rattle.std.proofs.lemmas.List.Sorted.{All-permutation}
use Rattle.gi_aiger.specs.declared.aig.Aig.{Aig}
use Rattle.gi_aiger.specs.declared.aig.AndGate.{AndGate}
use Rattle.gi_aiger.specs.declared.aig.Latch.{Latch}
use Rattle.gi_aiger.specs.declared.head.Form.TheVariants.{Binary}
use Rattle.gi_aiger.specs.declared.head.Head.{Head}
use Rattle.gi_aiger.specs.Levels.{gate_at}
use Rattle.gi_aiger_binary.specs.Renumbering.{place_among, number_in, variables_of, literal_by, latch_by, gate_by, renumbered}
use Rattle.gi_aiger_binary.specs.Numbered.{evens_from, AreWithin, IsFalling, IsNumbered, IsInLimits, AreSymbols, head_of_aig}
use Rattle.gi_aiger_binary.specs.Sound.{IsDefining, IsReadable}
use Rattle.gi_aiger_binary.proofs.Numbering.{number_bound}
use Rattle.gi_aiger_binary.proofs.InOrder.{IsByLevel, places_inside}
use Rattle.gi_aiger_binary.proofs.Renumbered.{length-ordered, length-variables}
use Rattle.gi_aiger_binary.proofs.Placing.{place_at, number_is, evens_at, gates_permuted, variables_distinct}
use Rattle.gi_aiger.specs.Limits.{most_items}

pub map-map : {X Y Z : Type 0} (f : Y → Z) (g : X → Y) (xs : List X) → map f (map g xs) ≡ map (λ (x : X). f (g x)) xs
map-map f g [] = refl
map-map f g (x ∷ xs) = ap (λ ys. f (g x) ∷ ys) (map-map f g xs)

flat-map : (f : ℕ → ℕ) (lists : List (List ℕ)) → flat_map (λ p. p) (map (map f) lists) ≡ map f (flat_map (λ p. p) lists)
flat-map f [] = refl
flat-map f (p ∷ ps) = ap (λ (xs : List ℕ). map f p ++ xs) (flat-map f ps) ∙ sym (map-append f p (flat_map (λ p. p) ps))

-- what holds of each gate's image
all_gates : (P : AndGate → Type 0) (f : AndGate → AndGate) (gs : List AndGate) → ((k : ℕ) → k < length gs → P (f (gate_at gs k))) → AllByRecursion P (map f gs)
all_gates P f [] each = tt
all_gates P f (g ∷ gs) each = (each 0 (omega arith), all_gates P f gs (λ k lt. each (suc k) (omega arith)))

falls_from : (a b c m p q r : ℕ) → a ≤ m → b ≤ m → c ≡ suc m → (max (2 * a + p % 2) (2 * b + q % 2) < 2 * c + r % 2) × (min (2 * a + p % 2) (2 * b + q % 2) ≤ max (2 * a + p % 2) (2 * b + q % 2))
falls_from a b c m p q r la lb e = (omega arith, omega arith)

bound_from : (a m l : ℕ) → a ≤ m → 2 * a + l % 2 ≤ 2 * m + 1
bound_from a m l le = omega arith

literals_within : (vs ls : List ℕ) → AreWithin (length vs) (map (literal_by (number_in vs)) ls)
literals_within vs [] = tt
literals_within vs (l ∷ ls) = (bound_from (number_in vs (l / 2)) (length vs) l (number_bound vs (l / 2)), literals_within vs ls)

module _ (v : Aig) (ordered : List AndGate) (o : IsByLevel v.gates ordered) (s : IsReadable v) where
  abbrev vs : List ℕ
  vs = variables_of v ordered

  abbrev ins : List ℕ
  ins = map (λ l. l / 2) v.inputs

  abbrev las : List ℕ
  las = map (λ (l : Latch). l.lit / 2) v.latches

  abbrev gas : List ℕ
  gas = map (λ (g : AndGate). g.lhs / 2) ordered

  abbrev ni : ℕ
  ni = length v.inputs

  abbrev nl : ℕ
  nl = length v.latches

  distinct : IsDistinct eqb vs
  distinct = variables_distinct v ordered o s.once

  length-ins : length ins ≡ ni
  length-ins = length-map v.inputs (λ l. l / 2)

  length-las : length las ≡ nl
  length-las = length-map v.latches (λ (l : Latch). l.lit / 2)

  length-gas : length gas ≡ length ordered
  length-gas = length-map ordered (λ (g : AndGate). g.lhs / 2)

  length-fronts : length (ins ++ las) ≡ ni + nl
  length-fronts = omega (arith, length-append ins las, length-ins, length-las)

  -- a literal that stands at a place of the order
  literal_at : (l k : ℕ) → k < length vs → get_or vs k 0 ≡ l / 2 → IsDefining l → literal_by (number_in vs) l ≡ 2 * suc k
  literal_at l k lt e is =
      ap (λ (n : ℕ). 2 * n + l % 2) (number_is vs k (l / 2) distinct lt e (let two = is.1 in omega arith))
      ∙ (let even = is.0 in let sum : 2 * suc k + l % 2 ≡ 2 * suc k = omega arith in sum)

  input_at : (k d : ℕ) → k < ni → literal_by (number_in vs) (get_or v.inputs k d) ≡ 2 * (1 + k)
  input_at k d lt =
      literal_at (get_or v.inputs k d) k (omega (arith, length-variables v ordered))
      (get_or_append_left (ins ++ las) gas 0 k (omega (arith, length-fronts)) ∙ get_or_append_left ins las 0 k (omega (arith, length-ins)) ∙ get_or-map (λ l. l / 2) v.inputs k d 0 lt)
      (s.inputs k d lt)
      ∙ (let e : 2 * suc k ≡ 2 * (1 + k) = omega arith in e)

  latch_at : (k : ℕ) (d : Latch) → k < nl → literal_by (number_in vs) (get_or v.latches k d).lit ≡ 2 * (ni + 1 + k)
  latch_at k d lt =
      literal_at (get_or v.latches k d).lit (ni + k) (omega (arith, length-variables v ordered))
      (get_or_append_left (ins ++ las) gas 0 (ni + k) (omega (arith, length-fronts)) ∙ get_or-append_right ins las ni (ni + k) 0 length-ins (omega arith) ∙ ap (λ (i : ℕ). get_or las i 0) (let e : ni + k - ni ≡ k = omega arith in e) ∙ get_or-map (λ (l : Latch). l.lit / 2) v.latches k d 0 lt)
      (s.latches k d lt)
      ∙ (let e : 2 * suc (ni + k) ≡ 2 * (ni + 1 + k) = omega arith in e)

  pub gate_place : (k : ℕ) (d : AndGate) → k < length ordered → get_or vs (ni + nl + k) 0 ≡ (get_or ordered k d).lhs / 2
  gate_place k d lt = get_or-append_right (ins ++ las) gas (ni + nl) (ni + nl + k) 0 length-fronts (omega arith) ∙ ap (λ (i : ℕ). get_or gas i 0) (let e : ni + nl + k - (ni + nl) ≡ k = omega arith in e) ∙ get_or-map (λ (g : AndGate). g.lhs / 2) ordered k d 0 lt

  defining_gates : All (λ (g : AndGate). IsDefining g.lhs) ordered
  defining_gates = All-permutation (λ (g : AndGate). IsDefining g.lhs) v.gates ordered (gates_permuted v.gates ordered o) s.gates

  pub gate_number : (k : ℕ) (d : AndGate) → k < length ordered → number_in vs ((get_or ordered k d).lhs / 2) ≡ suc (ni + nl + k)
  gate_number k d lt = number_is vs (ni + nl + k) ((get_or ordered k d).lhs / 2) distinct (omega (arith, length-variables v ordered)) (gate_place k d lt) (let two = (defining_gates k d lt).1 in omega arith)

  gate_literal : (k : ℕ) (d : AndGate) → k < length ordered → literal_by (number_in vs) (get_or ordered k d).lhs ≡ 2 * (ni + nl + 1 + k)
  gate_literal k d lt =
      literal_at (get_or ordered k d).lhs (ni + nl + k) (omega (arith, length-variables v ordered)) (gate_place k d lt) (defining_gates k d lt)
      ∙ (let e : 2 * suc (ni + nl + k) ≡ 2 * (ni + nl + 1 + k) = omega arith in e)

  -- levels by place
  abbrev pub level_at : ℕ → ℕ
  level_at k = o.level ((gate_at ordered k).lhs / 2)

  length-places : length o.places ≡ length ordered
  length-places = sym (length-map o.places (gate_at v.gates)) ∙ ap (λ (gs : List AndGate). length gs) (sym o.are)

  ordered_at : (k : ℕ) → k < length ordered → gate_at ordered k ≡ gate_at v.gates (get_or o.places k 0)
  ordered_at k lt = ap (λ (gs : List AndGate). gate_at gs k) o.are ∙ get_or-map (gate_at v.gates) o.places k 0 (record { lhs = 0; rhs0 = 0; rhs1 = 0 }) (omega (arith, lt, length-places))

  pub level_over : (k : ℕ) → k < length ordered → level_at k ≡ suc (max (o.level ((gate_at ordered k).rhs0 / 2)) (o.level ((gate_at ordered k).rhs1 / 2)))
  level_over k lt =
      ap (λ (g : AndGate). o.level (g.lhs / 2)) (ordered_at k lt)
      ∙ o.levels.gate (get_or o.places k 0) (places_inside v.gates ordered o k 0 (omega (arith, lt, length-places)))
      ∙ ap (λ (g : AndGate). suc (max (o.level (g.rhs0 / 2)) (o.level (g.rhs1 / 2)))) (sym (ordered_at k lt))

  pub levels_rise : (i j : ℕ) → i ≤ j → j < length ordered → level_at i ≤ level_at j
  levels_rise i j le lt =
      let up = o.order.rises i j 0 le (omega (arith, lt, length-places)) in
      let p = ap (λ (g : AndGate). o.level (g.lhs / 2)) (ordered_at i (omega (arith, le, lt))) in
      let q = ap (λ (g : AndGate). o.level (g.lhs / 2)) (ordered_at j lt) in
      omega (arith, up, p, q)

  -- a variable of a lower level stands before the gate
  place_below : (k x : ℕ) → k < length ordered → o.level x < level_at k → place_among vs x ≤ ni + nl + k
  place_below k x lt low = elim (cases_lt (ni + nl) (place_among vs x)) [
    | inr le ↦ omega arith
    | inl gt ↦
        (let r = place_at vs x (place_among vs x - 1) (let e : place_among vs x ≡ suc (place_among vs x - 1) = omega arith in e) in
        let n = length-variables v ordered in
        let inside = r.0 in
        let j : ℕ = place_among vs x - 1 - (ni + nl) in
        let jl : place_among vs x - 1 - (ni + nl) < length ordered = omega (arith, n, inside) in
        let here : (gate_at ordered (place_among vs x - 1 - (ni + nl))).lhs / 2 ≡ x =
        sym (gate_place (place_among vs x - 1 - (ni + nl)) (record { lhs = 0; rhs0 = 0; rhs1 = 0 }) jl) ∙ ap (λ (i : ℕ). get_or vs i 0) (let e : ni + nl + (place_among vs x - 1 - (ni + nl)) ≡ place_among vs x - 1 = omega arith in e) ∙ r.1 in
        let level : o.level x ≡ level_at (place_among vs x - 1 - (ni + nl)) = ap o.level (sym here) in
        elim (cases_lt (place_among vs x - 1 - (ni + nl)) k) [
          | inl below ↦ omega arith
          | inr over ↦ absurd (let up = levels_rise k (place_among vs x - 1 - (ni + nl)) over jl in omega (arith, up, level, low))
        ])
  ]

  pub number_below : (k x : ℕ) → k < length ordered → o.level x < level_at k → number_in vs x ≤ ni + nl + k
  number_below k x lt low = by_test (x == 0) where
    by_test : (b : Bool) → cond b 0 (place_among vs x) ≤ ni + nl + k
    by_test true = omega arith
    by_test false = place_below k x lt low

  gate_falls : (k : ℕ) → k < length ordered → IsFalling (gate_by (number_in vs) (gate_at ordered k))
  gate_falls k lt =
      let over = level_over k lt in
      falls_from (number_in vs ((gate_at ordered k).rhs0 / 2)) (number_in vs ((gate_at ordered k).rhs1 / 2)) (number_in vs ((gate_at ordered k).lhs / 2)) (ni + nl + k) (gate_at ordered k).rhs0 (gate_at ordered k).rhs1 (gate_at ordered k).lhs
      (number_below k ((gate_at ordered k).rhs0 / 2) lt (omega (arith, over)))
      (number_below k ((gate_at ordered k).rhs1 / 2) lt (omega (arith, over)))
      (gate_number k (record { lhs = 0; rhs0 = 0; rhs1 = 0 }) lt)

  abbrev number : ℕ → ℕ
  number = number_in vs

  pub is_numbered : IsNumbered (renumbered v ordered)
  is_numbered =
      let li = length-map v.inputs (literal_by number) in
      let ll = length-map v.latches (latch_by number) in
      let lg = length-map ordered (gate_by number) in
      record {
        max = length-variables v ordered ∙ omega (arith, li, ll, lg);
        inputs = evens_at (literal_by number) v.inputs 1 (λ k d lt. input_at k d lt) ∙ ap (evens_from 1) (sym li);
        latches = map-map (λ (l : Latch). l.lit) (latch_by number) v.latches ∙ evens_at (λ (l : Latch). literal_by number l.lit) v.latches (ni + 1) (λ k d lt. latch_at k d lt) ∙ ap (λ (n : ℕ). evens_from (n + 1) nl) (sym li) ∙ ap (evens_from (length (map (literal_by number) v.inputs) + 1)) (sym ll);
        gates = map-map (λ (g : AndGate). g.lhs) (gate_by number) ordered ∙ evens_at (λ (g : AndGate). literal_by number g.lhs) ordered (ni + nl + 1) (λ k d lt. gate_literal k d lt) ∙ ap (λ (n : ℕ). evens_from (n + nl + 1) (length ordered)) (sym li) ∙ ap (λ (n : ℕ). evens_from (length (map (literal_by number) v.inputs) + n + 1) (length ordered)) (sym ll) ∙ ap (evens_from (length (map (literal_by number) v.inputs) + length (map (latch_by number) v.latches) + 1)) (sym lg);
        falling = all_gates IsFalling (gate_by number) ordered gate_falls;
        nexts = subst (AreWithin (length vs)) (map-map (literal_by number) (λ (l : Latch). l.next) v.latches ∙ sym (map-map (λ (l : Latch). l.next) (latch_by number) v.latches)) (literals_within vs (map (λ (l : Latch). l.next) v.latches));
        outs = literals_within vs v.outs;
        bads = literals_within vs v.bads;
        cons = literals_within vs v.cons;
        justice = subst (AreWithin (length vs)) (sym (flat-map (literal_by number) v.justice)) (literals_within vs (flat_map (λ p. p) v.justice));
        fair = literals_within vs v.fair;
      }

  same_head : head_of_aig (renumbered v ordered) ≡ head_of_aig v
  same_head =
      let li = length-map v.inputs (literal_by number) in
      let ll = length-map v.latches (latch_by number) in
      let lg : length (map (gate_by number) ordered) ≡ length v.gates = length-map ordered (gate_by number) ∙ length-ordered v.gates ordered o in
      λ i. record {
        form = Binary;
        max = li i + ll i + lg i;
        inputs = li i;
        latches = ll i;
        outs = length-map v.outs (literal_by number) i;
        gates = lg i;
        bads = length-map v.bads (literal_by number) i;
        cons = length-map v.cons (literal_by number) i;
        justice = length-map v.justice (map (literal_by number)) i;
        fair = length-map v.fair (literal_by number) i;
      }

  pub is_in_limits : IsInLimits (renumbered v ordered)
  is_in_limits =
      let l = s.limits in
      record {
        variables = subst (λ (h : Head). h.max ≤ most_items) (sym same_head) l.variables;
        outs = subst (λ (n : ℕ). n ≤ most_items) (sym (length-map v.outs (literal_by number))) l.outs;
        bads = subst (λ (n : ℕ). n ≤ most_items) (sym (length-map v.bads (literal_by number))) l.bads;
        cons = subst (λ (n : ℕ). n ≤ most_items) (sym (length-map v.cons (literal_by number))) l.cons;
        justice = subst (λ (n : ℕ). n ≤ most_items) (sym (length-map v.justice (map (literal_by number)))) l.justice;
        sizes = subst (λ (n : ℕ). n ≤ most_items) (sym (length-map (flat_map (λ p. p) v.justice) (literal_by number)) ∙ ap (λ (xs : List ℕ). length xs) (sym (flat-map (literal_by number) v.justice))) l.sizes;
        fair = subst (λ (n : ℕ). n ≤ most_items) (sym (length-map v.fair (literal_by number))) l.fair;
        symbols = subst (λ (h : Head). AreSymbols h [] v.symbols) (sym same_head) l.symbols;
      }
