-- The clauses of the drill are of three literals, and the plan satisfies them.
use Rattle.std.proofs.Common.{◌≡◌, ℕ, zero, suc, ◌+◌, ◌*◌, ◌<◌, ◌≤◌, max, min, nat_le, Bool, true, false, List, [], ◌∷◌, length, map, refl, ap, sym, ◌∙◌, subst, inl, inr, arith}
use Rattle.std.specs.List.{AllByRecursion, range_with_len}
use Rattle.std.proofs.lemmas.Bool.{cases_Bool, or_parts}
use Rattle.std.proofs.lemmas.Bool.Decides.{eqb_tells}
use Rattle.std.proofs.lemmas.List.Elements.{All-from_recursion}
use Rattle.std.proofs.lemmas.List.FromFn.{length-map-range_with_len}
use Rattle.gi_lit.specs.Truth.{true_in, clause_true, Satisfies}
use Rattle.gi_lit.proofs.Literals.{true_in-opposite, var-opposite}
use Rattle.gi_drill.specs.Generator.{draw, drawn, state_after}
use Rattle.gi_drill.specs.Instance.{chosen, clause_at, first_clauses, literal_by, mended, past, place_a, place_b, place_c, plan, second_place, third_place, turned}
use Rattle.gi_drill.specs.Laws.{PlanSatisfies}
use Rattle.gi_drill.proofs.Drawing.{clauses_are}
use Rattle.gi_drill.proofs.Phases.{IsTriple, IsWithin}

drawn_150 : (x : ℕ) → drawn 150 x < 150
unfolding drawn
drawn_150 x = omega arith

drawn_148 : (x : ℕ) → drawn 148 x < 148
unfolding drawn
drawn_148 x = omega arith

second_low : (a d : ℕ) → second_place a d < 150
unfolding second_place
second_low a d = omega arith

past_low : (place n m : ℕ) → n < m → past place n < m + 1
past_low place n m h = elim (cases_Bool (nat_le place n)) [
  | inl t ↦ rw t (omega arith)
  | inr f ↦ rw f (omega arith)
]

third_low : (a b d : ℕ) → d < 148 → third_place a b d < 150
unfolding third_place
third_low a b d h = past_low (max a b) (past (min a b) d) 149 (past_low (min a b) d 148 h)

literal_within : (place sign : ℕ) → place < 150 → IsWithin (literal_by place sign)
unfolding literal_by
literal_within place sign h = elim (eqb_tells sign 1) [
  | inl t ↦ rw t.0 (omega arith, omega arith)
  | inr f ↦ rw f.0 (omega arith, omega arith)
]

chosen_triple : (x : ℕ) → IsTriple (chosen x)
unfolding chosen
chosen_triple x = record {
  within = (
    literal_within (place_a x) (draw 4 2 x) (drawn_150 (state_after 1 x)),
    (
      literal_within (place_b x) (draw 5 2 x) (second_low (place_a x) (draw 2 149 x)),
      (literal_within (place_c x) (draw 6 2 x) (third_low (place_a x) (place_b x) (draw 3 148 x) (drawn_148 (state_after 3 x))), tt),
    ),
  );
  three = refl;
}

turned_triple : (c : List ℕ) → IsTriple c → IsTriple (turned c)
turned_triple [] h = h
turned_triple (l ∷ c) h = record { within = (subst (λ (v : ℕ). (1 ≤ v) × (v ≤ 150)) (sym (var-opposite l)) h.within.0, h.within.1); three = h.three }

mended_triple : (values : List Bool) (c : List ℕ) → IsTriple c → IsTriple (mended values c)
unfolding mended
mended_triple values c h = elim (cases_Bool (clause_true values c)) [
  | inl t ↦ rw t h
  | inr f ↦ rw f (turned_triple c h)
]

turned_true : (values : List Bool) (c : List ℕ) → 0 < length c → clause_true values c ≡ false → clause_true values (turned c) ≡ true
turned_true values [] some h = absurd (omega arith)
turned_true values (l ∷ c) some h =
    let parts = or_parts (true_in values l) (clause_true values c) h in
    rw (true_in-opposite values l, parts.0) refl

mended_true : (values : List Bool) (c : List ℕ) → 0 < length c → clause_true values (mended values c) ≡ true
unfolding mended
mended_true values c some = elim (cases_Bool (clause_true values c)) [
  | inl t ↦ rw t t
  | inr f ↦ rw f (turned_true values c some f)
]

clause_triple : (seed i : ℕ) → IsTriple (clause_at seed i)
unfolding clause_at
clause_triple seed i = mended_triple (plan seed) (chosen (state_after (150 + 6 * i) seed)) (chosen_triple (state_after (150 + 6 * i) seed))

clause_holds : (seed i : ℕ) → clause_true (plan seed) (clause_at seed i) ≡ true
unfolding clause_at
clause_holds seed i = mended_true (plan seed) (chosen (state_after (150 + 6 * i) seed)) (omega (arith, (chosen_triple (state_after (150 + 6 * i) seed)).three))

triples_from : (seed a n : ℕ) → AllByRecursion IsTriple (map (clause_at seed) (range_with_len a n))
triples_from seed a zero = tt
triples_from seed a (suc n) = (clause_triple seed a, triples_from seed (a + 1) n)

hold_from : (seed a n : ℕ) → AllByRecursion (λ c. clause_true (plan seed) c ≡ true) (map (clause_at seed) (range_with_len a n))
hold_from seed a zero = tt
hold_from seed a (suc n) = (clause_holds seed a, hold_from seed (a + 1) n)

pub triples : (seed n : ℕ) → AllByRecursion IsTriple (first_clauses seed n)
triples seed n = subst (AllByRecursion IsTriple) (sym (clauses_are seed n)) (triples_from seed 0 n)

pub clauses_count : (seed n : ℕ) → length (first_clauses seed n) ≡ n
clauses_count seed n = ap length (clauses_are seed n) ∙ length-map-range_with_len (clause_at seed) 0 n

satisfied_first : (seed n : ℕ) → Satisfies (plan seed) (first_clauses seed n)
satisfied_first seed n = record { each = All-from_recursion (λ c. clause_true (plan seed) c ≡ true) (first_clauses seed n) (subst (AllByRecursion (λ c. clause_true (plan seed) c ≡ true)) (sym (clauses_are seed n)) (hold_from seed 0 n)) }

pub satisfied : PlanSatisfies
satisfied n = satisfied_first n 600
