-- A numbered value keeps its numbers.
use Rattle.std.proofs.Common.{◌≡◌, ℕ, zero, suc, ◌+◌, ◌*◌, ◌/◌, ◌%◌, ◌<◌, ◌≤◌, max, min, List, [], ◌∷◌, ◌++◌, length, map, inl, inr, refl, ap, sym, ◌∙◌, subst, arith}
use Rattle.std.specs.List.{flat_map, AllByRecursion}
use Rattle.std.proofs.lemmas.Bool.{ne_eqb}
use Rattle.std.proofs.lemmas.Bool.Decides.{eqb_tells}
use Rattle.gi_aiger.specs.declared.aig.Aig.{Aig}
use Rattle.gi_aiger.specs.declared.aig.AndGate.{AndGate}
use Rattle.gi_aiger.specs.declared.aig.Latch.{Latch}
use Rattle.gi_aiger_binary.specs.Renumbering.{further, place_among, number_in, variables_of, literal_by, latch_by, gate_by, renumbered}
use Rattle.gi_aiger_binary.specs.Numbered.{evens_from, AreWithin, IsFalling, IsNumbered}
use Rattle.gi_aiger_binary.proofs.Numberings.{map-map}

-- so many numbers from one on
abbrev up_from : ℕ → ℕ → List ℕ
up_from v zero = []
up_from v (suc n) = v ∷ up_from (suc v) n

length-up : (v n : ℕ) → length (up_from v n) ≡ n
length-up v zero = refl
length-up v (suc n) = ap suc (length-up (suc v) n)

halves : (v n : ℕ) → map (λ l. l / 2) (evens_from v n) ≡ up_from v n
halves v zero = refl
halves v (suc n) = ap (λ (x : ℕ). x ∷ map (λ l. l / 2) (evens_from (suc v) n)) (let e : 2 * v / 2 ≡ v = omega arith in e) ∙ ap (λ (xs : List ℕ). v ∷ xs) (halves (suc v) n)

up_append : (v n m : ℕ) → up_from v n ++ up_from (v + n) m ≡ up_from v (n + m)
up_append v zero m = ap (λ (k : ℕ). up_from k m) (let e : v + 0 ≡ v = omega arith in e) ∙ ap (up_from v) (let e : m ≡ 0 + m = omega arith in e)
up_append v (suc n) m =
    ap (λ (k : ℕ). v ∷ (up_from (suc v) n ++ up_from k m)) (let e : v + suc n ≡ suc v + n = omega arith in e)
    ∙ ap (λ (xs : List ℕ). v ∷ xs) (up_append (suc v) n m)
    ∙ ap (up_from v) (let e : suc (n + m) ≡ suc n + m = omega arith in e)

place_up : (v n k : ℕ) → k < n → place_among (up_from v n) (v + k) ≡ suc k
unfolding place_among
place_up v zero k lt = absurd (omega arith)
place_up v (suc n) zero lt = elim (eqb_tells v (v + 0)) [ inl t ↦ rw t.0 refl | inr f ↦ absurd (f.1 (omega arith)) ]
place_up v (suc n) (suc k) lt =
    rw (ne_eqb v (v + suc k) (λ e. omega arith))
    (ap further (ap (place_among (up_from (suc v) n)) (let e : v + suc k ≡ suc v + k = omega arith in e) ∙ place_up (suc v) n k (omega arith)))

number_up : (most x : ℕ) → x ≤ most → number_in (up_from 1 most) x ≡ x
number_up most zero le = refl
number_up most (suc x) le = rw (ne_eqb (suc x) 0 (λ e. omega arith)) (ap (place_among (up_from 1 most)) (let e : suc x ≡ 1 + x = omega arith in e) ∙ place_up 1 most x (omega arith))

literal_stays : (most l : ℕ) → l ≤ 2 * most + 1 → literal_by (number_in (up_from 1 most)) l ≡ l
literal_stays most l le = ap (λ (n : ℕ). 2 * n + l % 2) (number_up most (l / 2) (omega arith)) ∙ (let e : 2 * (l / 2) + l % 2 ≡ l = omega arith in e)

literals_stay : (most : ℕ) (ls : List ℕ) → AreWithin most ls → map (literal_by (number_in (up_from 1 most))) ls ≡ ls
literals_stay most [] within = refl
literals_stay most (l ∷ ls) within = ap (λ (x : ℕ). x ∷ map (literal_by (number_in (up_from 1 most))) ls) (literal_stays most l within.0) ∙ ap (λ (xs : List ℕ). l ∷ xs) (literals_stay most ls within.1)

split_within : (most : ℕ) (xs ys : List ℕ) → AreWithin most (xs ++ ys) → AreWithin most xs × AreWithin most ys
split_within most [] ys all = (tt, all)
split_within most (x ∷ xs) ys all = let r = split_within most xs ys all.1 in ((all.0, r.0), r.1)

lists_stay : (most : ℕ) (lists : List (List ℕ)) → AreWithin most (flat_map (λ p. p) lists) → map (map (literal_by (number_in (up_from 1 most)))) lists ≡ lists
lists_stay most [] within = refl
lists_stay most (p ∷ ps) within =
    let r = split_within most p (flat_map (λ p. p) ps) within in
    ap (λ (x : List ℕ). x ∷ map (map (literal_by (number_in (up_from 1 most)))) ps) (literals_stay most p r.0) ∙ ap (λ (xs : List (List ℕ)). p ∷ xs) (lists_stay most ps r.1)

evens_within : (most v n : ℕ) → v + n ≤ most + 1 → AreWithin most (evens_from v n)
evens_within most v zero le = tt
evens_within most v (suc n) le = (omega arith, evens_within most (suc v) n (omega arith))

latches_stay : (most : ℕ) (ls : List Latch) → AreWithin most (map (λ (l : Latch). l.lit) ls) → AreWithin most (map (λ (l : Latch). l.next) ls) → map (latch_by (number_in (up_from 1 most))) ls ≡ ls
latches_stay most [] lits nexts = refl
latches_stay most (l ∷ ls) lits nexts =
    ap (λ (x : ℕ). record { lit = x; next = literal_by (number_in (up_from 1 most)) l.next; reset = l.reset } ∷ map (latch_by (number_in (up_from 1 most))) ls) (literal_stays most l.lit lits.0)
    ∙ ap (λ (x : ℕ). record { lit = l.lit; next = x; reset = l.reset } ∷ map (latch_by (number_in (up_from 1 most))) ls) (literal_stays most l.next nexts.0)
    ∙ ap (λ (xs : List Latch). l ∷ xs) (latches_stay most ls lits.1 nexts.1)

gate_stays : (most : ℕ) (g : AndGate) → g.lhs ≤ 2 * most + 1 → IsFalling g → gate_by (number_in (up_from 1 most)) g ≡ g
gate_stays most g le falls = λ i. record {
  lhs = literal_stays most g.lhs le i;
  rhs0 = (greater (literal_by (number_in (up_from 1 most)) g.rhs0) (literal_by (number_in (up_from 1 most)) g.rhs1) g.rhs0 g.rhs1 (literal_stays most g.rhs0 (below g.lhs g.rhs0 le falls.0)) (literal_stays most g.rhs1 (below_two g.lhs g.rhs0 g.rhs1 le falls.0 falls.1)) falls.1) i;
  rhs1 = (lesser (literal_by (number_in (up_from 1 most)) g.rhs0) (literal_by (number_in (up_from 1 most)) g.rhs1) g.rhs0 g.rhs1 (literal_stays most g.rhs0 (below g.lhs g.rhs0 le falls.0)) (literal_stays most g.rhs1 (below_two g.lhs g.rhs0 g.rhs1 le falls.0 falls.1)) falls.1) i;
} where
  below : (a b : ℕ) → a ≤ 2 * most + 1 → b < a → b ≤ 2 * most + 1
  below a b la lb = omega arith

  below_two : (a b c : ℕ) → a ≤ 2 * most + 1 → b < a → c ≤ b → c ≤ 2 * most + 1
  below_two a b c la lb lc = omega arith

  greater : (x y a b : ℕ) → x ≡ a → y ≡ b → b ≤ a → max x y ≡ a
  greater x y a b e f le = omega arith

  lesser : (x y a b : ℕ) → x ≡ a → y ≡ b → b ≤ a → min x y ≡ b
  lesser x y a b e f le = omega arith

gates_stay : (most : ℕ) (gs : List AndGate) → AreWithin most (map (λ (g : AndGate). g.lhs) gs) → AllByRecursion IsFalling gs → map (gate_by (number_in (up_from 1 most))) gs ≡ gs
gates_stay most [] within falls = refl
gates_stay most (g ∷ gs) within falls =
    ap (λ (x : AndGate). x ∷ map (gate_by (number_in (up_from 1 most))) gs) (gate_stays most g within.0 falls.0)
    ∙ ap (λ (xs : List AndGate). g ∷ xs) (gates_stay most gs within.1 falls.1)

module _ (w : Aig) (n : IsNumbered w) where
  abbrev ni : ℕ
  ni = length w.inputs

  abbrev nl : ℕ
  nl = length w.latches

  abbrev na : ℕ
  na = length w.gates

  front : (map (λ l. l / 2) w.inputs ++ map (λ (l : Latch). l.lit / 2) w.latches) ≡ up_from 1 (ni + nl)
  front =
      ap (λ (xs : List ℕ). map (λ l. l / 2) xs ++ map (λ (l : Latch). l.lit / 2) w.latches) n.inputs
      ∙ ap (λ (xs : List ℕ). xs ++ map (λ (l : Latch). l.lit / 2) w.latches) (halves 1 ni)
      ∙ ap (λ (xs : List ℕ). up_from 1 ni ++ xs) (sym (map-map (λ l. l / 2) (λ (l : Latch). l.lit) w.latches) ∙ ap (map (λ l. l / 2)) n.latches ∙ halves (ni + 1) nl ∙ ap (λ (k : ℕ). up_from k nl) (let e : ni + 1 ≡ 1 + ni = omega arith in e))
      ∙ up_append 1 ni nl

  variables_are : variables_of w w.gates ≡ up_from 1 (ni + nl + na)
  variables_are =
      ap (λ (xs : List ℕ). xs ++ map (λ (g : AndGate). g.lhs / 2) w.gates) front
      ∙ ap (λ (xs : List ℕ). up_from 1 (ni + nl) ++ xs) (sym (map-map (λ l. l / 2) (λ (g : AndGate). g.lhs) w.gates) ∙ ap (map (λ l. l / 2)) n.gates ∙ halves (ni + nl + 1) na ∙ ap (λ (k : ℕ). up_from k na) (let e : ni + nl + 1 ≡ 1 + (ni + nl) = omega arith in e))
      ∙ up_append 1 (ni + nl) na

  up_is : variables_of w w.gates ≡ up_from 1 w.max
  up_is = variables_are ∙ ap (up_from 1) (sym n.max)

  abbrev number : ℕ → ℕ
  number = number_in (up_from 1 w.max)

  within_inputs : AreWithin w.max w.inputs
  within_inputs = subst (AreWithin w.max) (sym n.inputs) (evens_within w.max 1 ni (let m = n.max in omega arith))

  within_latches : AreWithin w.max (map (λ (l : Latch). l.lit) w.latches)
  within_latches = subst (AreWithin w.max) (sym n.latches) (evens_within w.max (ni + 1) nl (let m = n.max in omega arith))

  within_gates : AreWithin w.max (map (λ (g : AndGate). g.lhs) w.gates)
  within_gates = subst (AreWithin w.max) (sym n.gates) (evens_within w.max (ni + nl + 1) na (let m = n.max in omega arith))

  pub fixed : renumbered w w.gates ≡ w
  fixed = λ i. record {
    max = (ap (λ (xs : List ℕ). length xs) up_is ∙ length-up 1 w.max) i;
    inputs = (ap (λ (xs : List ℕ). map (literal_by (number_in xs)) w.inputs) up_is ∙ literals_stay w.max w.inputs within_inputs) i;
    latches = (ap (λ (xs : List ℕ). map (latch_by (number_in xs)) w.latches) up_is ∙ latches_stay w.max w.latches within_latches n.nexts) i;
    outs = (ap (λ (xs : List ℕ). map (literal_by (number_in xs)) w.outs) up_is ∙ literals_stay w.max w.outs n.outs) i;
    bads = (ap (λ (xs : List ℕ). map (literal_by (number_in xs)) w.bads) up_is ∙ literals_stay w.max w.bads n.bads) i;
    cons = (ap (λ (xs : List ℕ). map (literal_by (number_in xs)) w.cons) up_is ∙ literals_stay w.max w.cons n.cons) i;
    justice = (ap (λ (xs : List ℕ). map (map (literal_by (number_in xs))) w.justice) up_is ∙ lists_stay w.max w.justice n.justice) i;
    fair = (ap (λ (xs : List ℕ). map (literal_by (number_in xs)) w.fair) up_is ∙ literals_stay w.max w.fair n.fair) i;
    gates = (ap (λ (xs : List ℕ). map (gate_by (number_in xs)) w.gates) up_is ∙ gates_stay w.max w.gates within_gates n.falling) i;
    symbols = w.symbols;
    comment = w.comment;
  }
