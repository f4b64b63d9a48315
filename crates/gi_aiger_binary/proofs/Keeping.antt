-- A value that was numbered anew means the same.
use Rattle.std.proofs.Common.{◌≡◌, ℕ, zero, suc, ◌+◌, ◌*◌, ◌-◌, ◌/◌, ◌%◌, ◌<◌, ◌==◌, max, min, Bool, true, false, cond, not, ◌&&◌, List, [], ◌∷◌, ◌++◌, map, All, Contains, inl, inr, refl, ap, sym, ◌∙◌, subst, arith}
use Rattle.std.specs.List.Sorted.{IsPermutation}
use Rattle.std.proofs.lemmas.Bool.{cases_lt, ne_eqb}
use Rattle.std.proofs.lemmas.Bool.Decides.{eqb_tells}
use Rattle.std.proofs.lemmas.List.{length-map, get_or-map}
use Rattle.std.proofs.lemmas.List.Elements.{All-map, All-weaker}
use Rattle.std.proofs.lemmas.List.Sorted.{All-permutation, Contains-permutation, IsPermutation-append_right, IsPermutation-map, IsPermutation-sym}
use Rattle.gi_aiger.specs.declared.aig.Aig.{Aig}
use Rattle.gi_aiger.specs.declared.aig.AndGate.{AndGate}
use Rattle.gi_aiger.specs.declared.aig.Latch.{Latch}
use Rattle.gi_aiger_binary.specs.Meaning.{value_of, AgreesWith, MeansTheSame}
use Rattle.gi_aiger_binary.specs.Renumbering.{further, place_among, number_in, variables_of, literal_by, gate_by, in_order, numbered_anew}
use Rattle.gi_aiger_binary.specs.Sound.{IsWritable}
use Rattle.gi_aiger_binary.proofs.InOrder.{ordered_is}
use Rattle.gi_aiger_binary.proofs.Placing.{place_at, gates_permuted}

-- a variable in the order has a place
further_on : (p : ℕ) → 0 < p → 0 < further p
further_on zero lt = absurd (omega arith)
further_on (suc p) lt = omega arith

has_place : (vs : List ℕ) (x : ℕ) → Contains vs x → 0 < place_among vs x
unfolding place_among
has_place [] x c = absurd (let lt = c.1 in omega arith)
has_place (v ∷ vs) x (zero, lt, e) = elim (eqb_tells v x) [ inl t ↦ rw t.0 (omega arith) | inr f ↦ absurd (f.1 e) ]
has_place (v ∷ vs) x (suc k, lt, e) =
    let behind : 0 < place_among vs x = has_place vs x (k, omega arith, e) in
    elim (eqb_tells v x) [ inl t ↦ rw t.0 (omega arith) | inr f ↦ rw f.0 (further_on (place_among vs x) behind) ]

number_place : (vs : List ℕ) (x : ℕ) → 0 < number_in vs x → number_in vs x ≡ place_among vs x
number_place vs x lt = elim (eqb_tells x 0) [ inl t ↦ absurd (let none : 0 < 0 = rw t.0 at lt in omega arith) | inr f ↦ rw f.0 refl ]

numbers_apart : (vs : List ℕ) (x y : ℕ) → 0 < number_in vs x → number_in vs x ≡ number_in vs y → x ≡ y
numbers_apart vs x y lt e =
    let more : number_in vs x ≡ suc (number_in vs x - 1) = omega arith in
    let a = place_at vs x (number_in vs x - 1) (sym (number_place vs x lt) ∙ more) in
    let b = place_at vs y (number_in vs x - 1) (sym (number_place vs y (subst (λ n. 0 < n) e lt)) ∙ sym e ∙ more) in
    sym a.1 ∙ b.1

-- the value of a literal, and of two operands in either order
half_of : (n l : ℕ) → (2 * n + l % 2) / 2 ≡ n
half_of n l = omega arith

odd_of : (n l : ℕ) → (2 * n + l % 2) % 2 ≡ l % 2
odd_of n l = omega arith

value_by : (number : ℕ → ℕ) (values : ℕ → Bool) (l : ℕ) → value_of values (literal_by number l) ≡ value_of (λ x. values (number x)) l
value_by number values l =
    ap (λ (k : ℕ). cond (k == 0) (values (literal_by number l / 2)) (not (values (literal_by number l / 2)))) (odd_of (number (l / 2)) l)
    ∙ ap (λ (k : ℕ). cond (l % 2 == 0) (values k) (not (values k))) (half_of (number (l / 2)) l)

and_flips : (a b : Bool) → (a && b) ≡ (b && a)
and_flips true true = refl
and_flips true false = refl
and_flips false true = refl
and_flips false false = refl

either_order : (f : ℕ → Bool) (a b : ℕ) → (f (max a b) && f (min a b)) ≡ (f a && f b)
either_order f a b = elim (cases_lt a b) [
  | inl lt ↦
      (let m : max a b ≡ b = omega arith in
      let n : min a b ≡ a = omega arith in
      ap (λ (x : ℕ). f x && f (min a b)) m ∙ ap (λ (x : ℕ). f b && f x) n ∙ and_flips (f b) (f a))
  | inr le ↦
      (let m : max a b ≡ a = omega arith in
      let n : min a b ≡ b = omega arith in
      ap (λ (x : ℕ). f x && f (min a b)) m ∙ ap (λ (x : ℕ). f a && f x) n)
]

module _ (number : ℕ → ℕ) (values : ℕ → Bool) where
  abbrev old : ℕ → Bool
  old x = values (number x)

  operands_by : (g : AndGate) → (value_of values (gate_by number g).rhs0 && value_of values (gate_by number g).rhs1) ≡ (value_of old g.rhs0 && value_of old g.rhs1)
  operands_by g =
      either_order (value_of values) (literal_by number g.rhs0) (literal_by number g.rhs1)
      ∙ ap (λ (b : Bool). b && value_of values (literal_by number g.rhs1)) (value_by number values g.rhs0)
      ∙ ap (λ (b : Bool). value_of old g.rhs0 && b) (value_by number values g.rhs1)

  agrees : (g : AndGate) → AgreesWith values (gate_by number g) → AgreesWith old g
  agrees g h = sym (value_by number values g.lhs) ∙ h ∙ operands_by g

  agrees_again : (g : AndGate) → AgreesWith old g → AgreesWith values (gate_by number g)
  agrees_again g h = value_by number values g.lhs ∙ h ∙ sym (operands_by g)

  all_agree : (gs : List AndGate) → All (AgreesWith values) (map (gate_by number) gs) → All (AgreesWith old) gs
  all_agree gs h k d lt = agrees _ (subst (AgreesWith values) (get_or-map (gate_by number) gs k d (gate_by number d) lt) (h k (gate_by number d) (omega (arith, lt, length-map gs (gate_by number)))))

  all_agree_again : (gs : List AndGate) → All (AgreesWith old) gs → All (AgreesWith values) (map (gate_by number) gs)
  all_agree_again gs h = All-map (AgreesWith values) (gate_by number) gs (All-weaker (AgreesWith old) (λ g. AgreesWith values (gate_by number g)) agrees_again gs h)

pub meaning_stays : (v : Aig) → IsWritable v → MeansTheSame (number_in (variables_of v (in_order v.gates))) v (numbered_anew v)
meaning_stays v w =
    let moved : IsPermutation v.gates (in_order v.gates) = gates_permuted v.gates (in_order v.gates) (ordered_is v.gates w.apart w.levels) in
    let variables : IsPermutation (variables_of v v.gates) (variables_of v (in_order v.gates)) =
    IsPermutation-append_right (map (λ l. l / 2) v.inputs ++ map (λ (l : Latch). l.lit / 2) v.latches) (map (λ (g : AndGate). g.lhs / 2) v.gates) (map (λ (g : AndGate). g.lhs / 2) (in_order v.gates)) (IsPermutation-map (λ (g : AndGate). g.lhs / 2) v.gates (in_order v.gates) moved) in
    record {
      constant = refl;
      numbered = λ x some c. rw (ne_eqb x 0 some) (has_place (variables_of v (in_order v.gates)) x (Contains-permutation (variables_of v v.gates) (variables_of v (in_order v.gates)) x variables c));
      apart = numbers_apart (variables_of v (in_order v.gates));
      literals = λ values l. value_by (number_in (variables_of v (in_order v.gates))) values l;
      gates = λ values. (
        λ h. All-permutation (AgreesWith (λ x. values (number_in (variables_of v (in_order v.gates)) x))) (in_order v.gates) v.gates (IsPermutation-sym v.gates (in_order v.gates) moved) (all_agree (number_in (variables_of v (in_order v.gates))) values (in_order v.gates) h),
        λ h. (all_agree_again (number_in (variables_of v (in_order v.gates))) values (in_order v.gates) (All-permutation (AgreesWith (λ x. values (number_in (variables_of v (in_order v.gates)) x))) v.gates (in_order v.gates) moved h)),
      );
    }
