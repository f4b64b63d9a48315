-- Binary gates are read where their bytes are differences in the shortest spelling, and only there.
use Rattle.std.proofs.Common.{◌≡◌, ◌≢◌, ℕ, zero, suc, ◌+◌, ◌*◌, ◌-◌, ◌%◌, ◌<◌, ◌≤◌, nat_lt, List, [], ◌∷◌, ◌++◌, length, get_or, Bool, true, false, ◌&&◌, cond, ◌⊎◌, inl, inr, Option, Some, None, option_map, Result, Ok, Err, refl, ap, sym, ◌∙◌, subst, arith, append_assoc}
use Rattle.std.specs.Prelude.{◌==◌, map}
use Rattle.std.specs.List.{AllByRecursion}
use Rattle.std.proofs.lemmas.Bool.{ne_eqb}
use Rattle.std.proofs.lemmas.Bool.Decides.{nat_tests, leb_tells, eqb_tells}
use Rattle.gi_aiger.specs.declared.aig.Aig.{Aig}
use Rattle.gi_aiger.specs.declared.aig.AndGate.{AndGate}
use Rattle.gi_aiger.specs.declared.fault.AigCode.{AigCode}
use Rattle.gi_aiger.specs.declared.fault.AigCode.TheVariants.{End, Order}
use Rattle.gi_aiger.specs.declared.fault.AigFault.{AigFault}
use Rattle.gi_aiger.specs.declared.head.Form.TheVariants.{Binary}
use Rattle.gi_aiger.specs.declared.head.Head.{Head}
use Rattle.gi_aiger.specs.declared.row.Row.TheVariants as rows
use Rattle.gi_aiger.specs.declared.taken.Taken.{Taken}
use Rattle.gi_aiger.specs.Groups.{groups_at, value_of, is_longer, difference_of, greater_at, lesser_at}
use Rattle.gi_aiger.specs.Lines.{lines_of}
use Rattle.gi_aiger.specs.Taking.{with_row}
use Rattle.gi_aiger.specs.Files.{Told, gate_stopped, own_gate, with_gate, then_groups, then_edge, read_symbols, read_gates}
use Rattle.gi_aiger.specs.Deltas.{IsDelta, IsGate, AreGates}
use Rattle.gi_aiger.proofs.Putting.{takes}

abbrev Pair : Type 0
Pair = List ℕ × List ℕ

abbrev pair : List ℕ → List ℕ → Option Pair
pair xs ys = Some (xs, ys)

ltb_tells : (a b : ℕ) → ((nat_lt a b ≡ true) × (a < b)) ⊎ ((nat_lt a b ≡ false) × (b ≤ a))
ltb_tells a b = elim (leb_tells b a) [
  | inl t ↦ let le : b ≤ a = t.1 in let f : nat_lt a b ≡ false = grind (arith, nat_tests) in inr (f, le)
  | inr f ↦ let lt : a < b = omega (arith, f.1) in let t : nat_lt a b ≡ true = grind (arith, nat_tests) in inl (t, lt)
]

-- a difference is groups
delta_groups : (bs : List ℕ) (n : ℕ) (rest : List ℕ) → IsDelta bs n → groups_at (bs ++ rest) ≡ pair bs rest
unfolding groups_at
delta_groups [] n rest d = absurd d
delta_groups (b ∷ []) n rest d = let small : b < 128 = d.0 in let t : nat_lt b 128 ≡ true = grind (arith, nat_tests) in rw t refl
delta_groups (b ∷ c ∷ bs) n rest d = let big : 128 ≤ b = d.0 in let f : nat_lt b 128 ≡ false = grind (arith, nat_tests) in rw f (ap (λ (o : Option Pair). option_map (λ p. (b ∷ p.0, p.1)) o) (delta_groups (c ∷ bs) d.1 rest d.4))

delta_value : (bs : List ℕ) (n : ℕ) → IsDelta bs n → value_of bs ≡ n
unfolding value_of
delta_value [] n d = absurd d
delta_value (b ∷ []) n d = omega (arith, d.0, d.1)
delta_value (b ∷ c ∷ bs) n d = ap (λ (m : ℕ). b % 128 + 128 * m) (delta_value (c ∷ bs) d.1 d.4) ∙ sym d.3

abbrev last : List ℕ → ℕ
last bs = get_or bs (length bs - 1) 0

last-cons : (b c : ℕ) (bs : List ℕ) → last (b ∷ c ∷ bs) ≡ last (c ∷ bs)
last-cons b c bs = let e : length (b ∷ c ∷ bs) - 1 ≡ suc (length (c ∷ bs) - 1) = omega arith in ap (λ (i : ℕ). get_or (b ∷ c ∷ bs) i 0) e

delta_last : (bs : List ℕ) (n : ℕ) → IsDelta bs n → 0 < n → last bs ≢ 0
delta_last [] n d some e = absurd d
delta_last (b ∷ []) n d some e = omega (arith, d.1, some, e)
delta_last (b ∷ c ∷ bs) n d some e = delta_last (c ∷ bs) d.1 d.4 d.2 (sym (last-cons b c bs) ∙ e)

and_false : (b : Bool) → (b && false) ≡ false
and_false true = refl
and_false false = refl

delta_short : (bs : List ℕ) (n : ℕ) → IsDelta bs n → is_longer bs ≡ false
delta_short [] n d = absurd d
delta_short (b ∷ []) n d = refl
delta_short (b ∷ c ∷ bs) n d =
    let f : (last (b ∷ c ∷ bs) == 0) ≡ false = ne_eqb (last (b ∷ c ∷ bs)) 0 (λ e. delta_last (c ∷ bs) d.1 d.4 d.2 (sym (last-cons b c bs) ∙ e)) in
    ap (λ (x : Bool). nat_lt 1 (length (b ∷ c ∷ bs)) && x) f ∙ and_false (nat_lt 1 (length (b ∷ c ∷ bs)))

abbrev if_small : Bool → ℕ → Option ℕ
if_small b n = cond b (Some n) None

abbrev if_short : Bool → Option ℕ → Option ℕ
if_short b o = cond b None o

delta_difference : (bs : List ℕ) (n : ℕ) → IsDelta bs n → n < 4294967296 → difference_of bs ≡ Some n
delta_difference bs n d small =
    let t : nat_lt n 4294967296 ≡ true = grind (arith, nat_tests) in
    ap (λ (b : Bool). if_short b (if_small (nat_lt (value_of bs) 4294967296) (value_of bs))) (delta_short bs n d) ∙ ap (λ (m : ℕ). if_small (nat_lt m 4294967296) m) (delta_value bs n d) ∙ ap (λ (b : Bool). if_small b n) t

-- and groups are a difference
abbrev AreGroups : List ℕ → Type 0
AreGroups [] = ⊥
AreGroups (b ∷ []) = b < 128
AreGroups (b ∷ c ∷ bs) = (128 ≤ b) × AreGroups (c ∷ bs)

abbrev Cut : List ℕ → Pair → Type 0
Cut bytes p = (bytes ≡ p.0 ++ p.1) × AreGroups p.0

more_groups : (b : ℕ) (gs : List ℕ) → 128 ≤ b → AreGroups gs → AreGroups (b ∷ gs)
more_groups b [] big are = absurd are
more_groups b (c ∷ gs) big are = (big, are)

groups_back : (bytes : List ℕ) (p : Pair) → groups_at bytes ≡ Some p → Cut bytes p
unfolding groups_at
groups_back [] p e = absurd cc
groups_back (b ∷ bs) p e = elim (ltb_tells b 128) [
  | inl t ↦ let is : pair (b ∷ []) bs ≡ Some p = rw t.0 at e in subst (Cut (b ∷ bs)) (some_is is) (refl, t.1)
  | inr f ↦ by_rest f.1 (groups_at bs) (λ q. groups_back bs q) (rw f.0 at e)
] where
  some_is : {q r : Pair} → ◌≡◌ {A = Option Pair} (Some q) (Some r) → q ≡ r
  some_is e = cc

  by_rest : 128 ≤ b → (o : Option Pair) → ((q : Pair) → o ≡ Some q → Cut bs q) → option_map (λ q. (b ∷ q.0, q.1)) o ≡ Some p → Cut (b ∷ bs) p
  by_rest big None ih e = absurd cc
  by_rest big (Some q) ih e =
      let c = ih q refl in
      let is : pair (b ∷ q.0) q.1 ≡ Some p = e in
      subst (Cut (b ∷ bs)) (some_is is) (ap (λ (xs : List ℕ). b ∷ xs) c.0, more_groups b q.0 big c.1)

value_some : (bs : List ℕ) → AreGroups bs → last bs ≢ 0 → 0 < value_of bs
unfolding value_of
value_some [] are some = absurd are
value_some (b ∷ []) are some = let z : (b ≡ 0 → ⊥) = some in by_zero b are some where
  by_zero : (b : ℕ) → b < 128 → (b ≡ 0 → ⊥) → 0 < b % 128 + 128 * 0
  by_zero b lt ne = omega (arith, lt, ne)
value_some (b ∷ c ∷ bs) are some = let h = value_some (c ∷ bs) are.1 (λ e. some (last-cons b c bs ∙ e)) in omega (arith, h)

groups_delta : (bs : List ℕ) → AreGroups bs → last bs ≢ 0 → IsDelta bs (value_of bs)
unfolding value_of
groups_delta [] are some = absurd are
groups_delta (b ∷ []) are some = (are, omega (arith, are))
groups_delta (b ∷ c ∷ bs) are some =
    let later = λ (e : last (c ∷ bs) ≡ 0). some (last-cons b c bs ∙ e) in
    (are.0, value_of (c ∷ bs), value_some (c ∷ bs) are.1 later, refl, groups_delta (c ∷ bs) are.1 later)

short_delta : (bs : List ℕ) → AreGroups bs → is_longer bs ≡ false → IsDelta bs (value_of bs)
unfolding value_of
short_delta [] are short = absurd are
short_delta (b ∷ []) are short = (are, omega (arith, are))
short_delta (b ∷ c ∷ bs) are short = groups_delta (b ∷ c ∷ bs) are (λ e. zero_longer (last (b ∷ c ∷ bs)) e short) where
  zero_longer : (n : ℕ) → n ≡ 0 → (nat_lt 1 (length (b ∷ c ∷ bs)) && (n == 0)) ≡ false → ⊥
  zero_longer n e f = let t : nat_lt 1 (length (b ∷ c ∷ bs)) ≡ true = grind (arith, nat_tests) in let u : (n == 0) ≡ true = rw e refl in let g = rw (t, u) at f in cc

difference_back : (bs : List ℕ) (n : ℕ) → AreGroups bs → difference_of bs ≡ Some n → IsDelta bs n
difference_back bs n are e = by_longer (is_longer bs) refl e where
  by_small : (b : Bool) → is_longer bs ≡ false → if_small b (value_of bs) ≡ Some n → IsDelta bs n
  by_small true short e = let is : value_of bs ≡ n = cc in subst (IsDelta bs) is (short_delta bs are short)
  by_small false short e = absurd cc

  by_longer : (b : Bool) → is_longer bs ≡ b → if_short b (if_small (nat_lt (value_of bs) 4294967296) (value_of bs)) ≡ Some n → IsDelta bs n
  by_longer true short e = absurd cc
  by_longer false short e = by_small (nat_lt (value_of bs) 4294967296) short e

-- operands
greater_ok : (own greater : ℕ) → greater < own → greater_at own (Some (own - greater)) ≡ Ok greater
greater_ok own greater lt =
    let a : (own - greater == 0) ≡ false = ne_eqb (own - greater) 0 (λ e. omega (arith, lt, e)) in
    let b : nat_lt own (own - greater) ≡ false = grind (arith, nat_tests) in
    let c : own - (own - greater) ≡ greater = omega (arith, lt) in
    rw (a, b) (ap Ok c)

lesser_ok : (greater lesser : ℕ) → lesser ≤ greater → lesser_at greater (Some (greater - lesser)) ≡ Ok lesser
lesser_ok greater lesser le =
    let b : nat_lt greater (greater - lesser) ≡ false = grind (arith, nat_tests) in
    let c : greater - (greater - lesser) ≡ lesser = omega (arith, le) in
    rw b (ap Ok c)

ok_is : (n m : ℕ) → ◌≡◌ {A = Result ℕ AigCode} (Ok n) (Ok m) → n ≡ m
ok_is n m e = cc

pub greater_back : (own : ℕ) (o : Option ℕ) (greater : ℕ) → greater_at own o ≡ Ok greater → (o ≡ Some (own - greater)) × (greater < own)
greater_back own None greater e = absurd cc
greater_back own (Some d) greater e = elim (eqb_tells d 0) [
  | inl t ↦ absurd (never (rw t.0 at e))
  | inr f ↦ elim (ltb_tells own d) [
    | inl t ↦ absurd (never (rw (f.0, t.0) at e))
    | inr g ↦ let is : own - d ≡ greater = ok_is (own - d) greater (rw (f.0, g.0) at e) in positive is f.1 g.1
  ]
] where
  never : ◌≡◌ {A = Result ℕ AigCode} (Err Order) (Ok greater) → ⊥
  never e = cc

  positive : own - d ≡ greater → (d ≡ 0 → ⊥) → d ≤ own → (◌≡◌ {A = Option ℕ} (Some d) (Some (own - greater))) × (greater < own)
  positive is ne le = let e : d ≡ own - greater = omega (arith, is, le) in (ap Some e, omega (arith, is, ne, le))

pub lesser_back : (greater : ℕ) (o : Option ℕ) (lesser : ℕ) → lesser_at greater o ≡ Ok lesser → (o ≡ Some (greater - lesser)) × (lesser ≤ greater)
lesser_back greater None lesser e = absurd cc
lesser_back greater (Some d) lesser e = elim (ltb_tells greater d) [
  | inl t ↦ absurd (never (rw t.0 at e))
  | inr g ↦ let is : greater - d ≡ lesser = ok_is (greater - d) lesser (rw g.0 at e) in near is g.1
] where
  never : ◌≡◌ {A = Result ℕ AigCode} (Err Order) (Ok lesser) → ⊥
  never e = cc

  near : greater - d ≡ lesser → d ≤ greater → (◌≡◌ {A = Option ℕ} (Some d) (Some (greater - lesser))) × (lesser ≤ greater)
  near is le = let e : d ≡ greater - lesser = omega (arith, is, le) in (ap Some e, omega (arith, is, le))

-- each gate defines the next variable
abbrev pub Owns : Head → Taken → List AndGate → Type 0
Owns h t [] = Unit {0}
Owns h t (g ∷ gs) = (g.lhs ≡ own_gate h t) × Owns h (with_row t (rows.Gate g)) gs

abbrev pub AreSmall : List AndGate → Type 0
AreSmall gs = AllByRecursion (λ g. g.lhs < 4294967296) gs

-- one gate
gate_there : (h : Head) (k n : ℕ) (t : Taken) (g : AndGate) (front more : List ℕ) → IsGate g front → g.lhs ≡ own_gate h t → g.lhs < 4294967296 → read_gates h k (suc n) t (front ++ more) ≡ read_gates h k n (with_row t (rows.Gate g)) more
unfolding read_gates
gate_there h k n t g front more is own small =
    let bytes : front ++ more ≡ is.first ++ (is.second ++ more) = ap (λ (xs : List ℕ). xs ++ more) is.bytes_are ∙ append_assoc is.first is.second more in
    let below : g.rhs0 < own_gate h t = subst (λ (n : ℕ). g.rhs0 < n) own is.below in
    let d1 : difference_of is.first ≡ Some (own_gate h t - g.rhs0) = delta_difference is.first (g.lhs - g.rhs0) is.to_first (omega (arith, small)) ∙ ap (λ (n : ℕ). Some (n - g.rhs0)) own in
    let d2 : difference_of is.second ≡ Some (g.rhs0 - g.rhs1) = delta_difference is.second (g.rhs0 - g.rhs1) is.to_second (omega (arith, small, is.below)) in
    let e1 : groups_at (front ++ more) ≡ pair is.first (is.second ++ more) = ap groups_at bytes ∙ delta_groups is.first (g.lhs - g.rhs0) (is.second ++ more) is.to_first in
    let e2 : greater_at (own_gate h t) (difference_of is.first) ≡ Ok g.rhs0 = ap (greater_at (own_gate h t)) d1 ∙ greater_ok (own_gate h t) g.rhs0 below in
    let e3 : groups_at (is.second ++ more) ≡ pair is.second more = delta_groups is.second (g.rhs0 - g.rhs1) more is.to_second in
    let e4 : lesser_at g.rhs0 (difference_of is.second) ≡ Ok g.rhs1 = ap (lesser_at g.rhs0) d2 ∙ lesser_ok g.rhs0 g.rhs1 is.ordered in
    ap (λ (o : Option Pair). then_groups o (gate_stopped t k End) (λ first rest. then_edge (greater_at (own_gate h t) (difference_of first)) (gate_stopped t k) (λ e. then_groups (groups_at rest) (gate_stopped t k End) (λ second more. then_edge (lesser_at e (difference_of second)) (gate_stopped t k) (λ l. read_gates h k n (with_gate t (own_gate h t) e l) more))))) e1
    ∙ ap (λ (r : Result ℕ AigCode). then_edge r (gate_stopped t k) (λ e. then_groups (groups_at (is.second ++ more)) (gate_stopped t k End) (λ second more. then_edge (lesser_at e (difference_of second)) (gate_stopped t k) (λ l. read_gates h k n (with_gate t (own_gate h t) e l) more)))) e2
    ∙ ap (λ (o : Option Pair). then_groups o (gate_stopped t k End) (λ second more. then_edge (lesser_at g.rhs0 (difference_of second)) (gate_stopped t k) (λ l. read_gates h k n (with_gate t (own_gate h t) g.rhs0 l) more))) e3
    ∙ ap (λ (r : Result ℕ AigCode). then_edge r (gate_stopped t k) (λ l. read_gates h k n (with_gate t (own_gate h t) g.rhs0 l) more)) e4 ∙ ap (λ (n1 : ℕ). read_gates h k n (with_gate t n1 g.rhs0 g.rhs1) more) (sym own)

pub gates_there : (h : Head) (P : Told → Type 0) (k : ℕ) (rest : List ℕ) (t : Taken) (gs : List AndGate) (bytes : List ℕ) → AreGates gs bytes → Owns h t gs → AreSmall gs → P (read_symbols h k (takes Binary t (map rows.Gate gs)) [] (lines_of rest)) → P (read_gates h k (length gs) t (bytes ++ rest))
unfolding read_gates
gates_there h P k rest t [] bytes are owns small p = subst (λ (xs : List ℕ). P (read_symbols h k t [] (lines_of (xs ++ rest)))) (sym are) p
gates_there h P k rest t (g ∷ gs) bytes are owns small p =
    let all : bytes ++ rest ≡ are.0 ++ (are.1 ++ rest) = ap (λ (xs : List ℕ). xs ++ rest) are.2 ∙ append_assoc are.0 are.1 rest in
    let one : read_gates h k (suc (length gs)) t (bytes ++ rest) ≡ read_gates h k (length gs) (with_row t (rows.Gate g)) (are.1 ++ rest) = ap (read_gates h k (suc (length gs)) t) all ∙ gate_there h k (length gs) t g are.0 (are.1 ++ rest) are.3 owns.0 small.0 in
    subst P (sym one) (gates_there h P k rest (with_row t (rows.Gate g)) gs are.1 are.4 owns.1 small.1 p)

-- and back: what is read behind all gates is no gate's fault
pub record Paired (h : Head) (v : Result Aig AigFault) (k n : ℕ) (t : Taken) (bytes : List ℕ) : Type 0 where
  pub gates : List AndGate
  pub front : List ℕ
  pub rest : List ℕ
  pub split : bytes ≡ front ++ rest
  pub are : AreGates gates front
  pub owns : Owns h t gates
  pub count : length gates ≡ n
  pub read : (read_symbols h k (takes Binary t (map rows.Gate gates)) [] (lines_of rest)).read ≡ v

pub gates_through : (h : Head) (v : Result Aig AigFault) → ((t : Taken) (k : ℕ) (c : AigCode) → (gate_stopped t k c).read ≡ v → ⊥) → (k n : ℕ) (t : Taken) (bytes : List ℕ) → (read_gates h k n t bytes).read ≡ v → Paired h v k n t bytes
unfolding read_gates
gates_through h v never k zero t bytes e = record { gates = []; front = []; rest = bytes; split = refl; are = refl; owns = tt; count = refl; read = e }
gates_through h v never k (suc n) t bytes e = by_first (groups_at bytes) refl (λ u more q. gates_through h v never k n u more q) e where
  one_more : (a b c d : List ℕ) (x y : ℕ) → Cut bytes (a, b) → Cut b (c, d) → greater_at (own_gate h t) (difference_of a) ≡ Ok x → lesser_at x (difference_of c) ≡ Ok y → Paired h v k n (with_gate t (own_gate h t) x y) d → Paired h v k (suc n) t bytes
  one_more a b c d x y ab cd ex ey w =
      let g = greater_back (own_gate h t) (difference_of a) x ex in
      let l = lesser_back x (difference_of c) y ey in
      record {
        gates = record { lhs = own_gate h t; rhs0 = x; rhs1 = y } ∷ w.gates;
        front = (a ++ c) ++ w.front;
        rest = w.rest;
        split = ab.0 ∙ ap (λ (xs : List ℕ). a ++ xs) (cd.0 ∙ ap (λ (xs : List ℕ). c ++ xs) w.split) ∙ sym (append_assoc a c (w.front ++ w.rest)) ∙ sym (append_assoc (a ++ c) w.front w.rest);
        are = (a ++ c, w.front, refl, record { first = a; second = c; bytes_are = refl; below = g.1; ordered = l.1; to_first = difference_back a (own_gate h t - x) ab.1 g.0; to_second = difference_back c (x - y) cd.1 l.0 }, w.are);
        owns = (refl, w.owns);
        count = ap suc w.count;
        read = w.read;
      }

  by_lesser : (a b c d : List ℕ) (x : ℕ) (r : Result ℕ AigCode) → Cut bytes (a, b) → Cut b (c, d) → greater_at (own_gate h t) (difference_of a) ≡ Ok x → lesser_at x (difference_of c) ≡ r → ((u : Taken) (more : List ℕ) → (read_gates h k n u more).read ≡ v → Paired h v k n u more)
      → (then_edge r (gate_stopped t k) (λ l. read_gates h k n (with_gate t (own_gate h t) x l) d)).read ≡ v → Paired h v k (suc n) t bytes
  by_lesser a b c d x (Ok y) ab cd ex ey ih e = one_more a b c d x y ab cd ex ey (ih (with_gate t (own_gate h t) x y) d e)
  by_lesser a b c d x (Err z) ab cd ex ey ih e = absurd (never t k z e)

  by_second : (a b : List ℕ) (x : ℕ) (o : Option Pair) → Cut bytes (a, b) → groups_at b ≡ o → greater_at (own_gate h t) (difference_of a) ≡ Ok x → ((u : Taken) (more : List ℕ) → (read_gates h k n u more).read ≡ v → Paired h v k n u more)
      → (then_groups o (gate_stopped t k End) (λ second more. then_edge (lesser_at x (difference_of second)) (gate_stopped t k) (λ l. read_gates h k n (with_gate t (own_gate h t) x l) more))).read ≡ v → Paired h v k (suc n) t bytes
  by_second a b x None ab eo ex ih e = absurd (never t k End e)
  by_second a b x (Some p) ab eo ex ih e = by_lesser a b p.0 p.1 x (lesser_at x (difference_of p.0)) ab (groups_back b p eo) ex refl ih e

  by_greater : (a b : List ℕ) (r : Result ℕ AigCode) → Cut bytes (a, b) → greater_at (own_gate h t) (difference_of a) ≡ r → ((u : Taken) (more : List ℕ) → (read_gates h k n u more).read ≡ v → Paired h v k n u more)
      → (then_edge r (gate_stopped t k) (λ e. then_groups (groups_at b) (gate_stopped t k End) (λ second more. then_edge (lesser_at e (difference_of second)) (gate_stopped t k) (λ l. read_gates h k n (with_gate t (own_gate h t) e l) more)))).read ≡ v → Paired h v k (suc n) t bytes
  by_greater a b (Ok x) ab ex ih e = by_second a b x (groups_at b) ab refl ex ih e
  by_greater a b (Err z) ab ex ih e = absurd (never t k z e)

  by_first : (o : Option Pair) → groups_at bytes ≡ o → ((u : Taken) (more : List ℕ) → (read_gates h k n u more).read ≡ v → Paired h v k n u more)
      → (then_groups o (gate_stopped t k End) (λ first rest. then_edge (greater_at (own_gate h t) (difference_of first)) (gate_stopped t k) (λ e. then_groups (groups_at rest) (gate_stopped t k End) (λ second more. then_edge (lesser_at e (difference_of second)) (gate_stopped t k) (λ l. read_gates h k n (with_gate t (own_gate h t) e l) more))))).read ≡ v → Paired h v k (suc n) t bytes
  by_first None eo ih e = absurd (never t k End e)
  by_first (Some p) eo ih e = by_greater p.0 p.1 (greater_at (own_gate h t) (difference_of p.0)) (groups_back bytes p eo) refl ih e

pub gates_back : (h : Head) (v : Aig) (k n : ℕ) (t : Taken) (bytes : List ℕ) → (read_gates h k n t bytes).read ≡ Ok v → Paired h (Ok v) k n t bytes
gates_back h v k n t bytes e = gates_through h (Ok v) never k n t bytes e where
  never : (t : Taken) (k : ℕ) (c : AigCode) → (gate_stopped t k c).read ≡ Ok v → ⊥
  never t k c e = absurd cc
