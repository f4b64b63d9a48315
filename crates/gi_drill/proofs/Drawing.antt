-- States and draws.
use Rattle.std.proofs.Common.{◌≡◌, ℕ, zero, suc, ◌+◌, ◌*◌, ◌==◌, Bool, List, [], ◌∷◌, ◌++◌, length, map, refl, ap, sym, ◌∙◌, arith}
use Rattle.std.specs.List.{flat_map, range_with_len}
use Rattle.std.proofs.lemmas.List.FromFn.{length-map-range_with_len, map-range_with_len_more}
use Rattle.gi_drill.specs.Generator.{draw, drawn, next, state_after}
use Rattle.gi_drill.specs.Instance.{chosen, clause_at, first_clauses, first_values, mended, plan}
use Rattle.gi_drill.specs.Script.{round, rounds, variable_of}

pub state_more : (n x : ℕ) → state_after (n + 1) x ≡ next (state_after n x)
unfolding state_after
state_more n x = let e : n + 1 ≡ suc n = omega arith in rw e refl

pub state_sum : (m n x : ℕ) → state_after m (state_after n x) ≡ state_after (n + m) x
unfolding state_after
state_sum zero n x = let e : n + 0 ≡ n = omega arith in rw e refl
state_sum (suc m) n x = let e : n + suc m ≡ suc (n + m) = omega arith in rw e (ap next (state_sum m n x))

-- one value more
pub value_more : (seed v d g : ℕ) (values : List Bool) → values ≡ map (λ v. draw (v + 1) 2 seed == 1) (range_with_len 0 v) → g ≡ next (state_after v seed) → d ≡ drawn 2 g → values ++ (d == 1) ∷ [] ≡ map (λ v. draw (v + 1) 2 seed == 1) (range_with_len 0 (v + 1))
value_more seed v d g values h e q =
    ap (λ (xs : List Bool). xs ++ (d == 1) ∷ []) h
    ∙ ap (λ (n : ℕ). map (λ v. draw (v + 1) 2 seed == 1) (range_with_len 0 v) ++ (n == 1) ∷ []) (q ∙ ap (drawn 2) (e ∙ sym (state_more v seed)))
    ∙ sym (map-range_with_len_more (λ v. draw (v + 1) 2 seed == 1) 0 v v (omega arith))

pub values_are : (seed n : ℕ) → first_values seed n ≡ map (λ v. draw (v + 1) 2 seed == 1) (range_with_len 0 n)
unfolding first_values
values_are seed n = refl

pub values_count : (seed n : ℕ) → length (first_values seed n) ≡ n
unfolding first_values
values_count seed n = length-map-range_with_len (λ v. draw (v + 1) 2 seed == 1) 0 n

pub clauses_are : (seed n : ℕ) → first_clauses seed n ≡ map (clause_at seed) (range_with_len 0 n)
unfolding first_clauses
clauses_are seed n = refl

pub rounds_are : (n : ℕ) → rounds n ≡ flat_map round (map variable_of (range_with_len 0 n))
unfolding rounds
rounds_are n = refl

pub clause_is : (seed i x : ℕ) (values : List Bool) → values ≡ plan seed → x ≡ state_after (150 + 6 * i) seed → mended values (chosen x) ≡ clause_at seed i
unfolding clause_at
clause_is seed i x values p e = ap (λ (vs : List Bool). mended vs (chosen x)) p ∙ ap (λ (y : ℕ). mended (plan seed) (chosen y)) e

pub six_more : (seed i : ℕ) → state_after 6 (state_after (150 + 6 * i) seed) ≡ state_after (150 + 6 * (i + 1)) seed
six_more seed i = state_sum 6 (150 + 6 * i) seed ∙ ap (λ (n : ℕ). state_after n seed) (let e : 150 + 6 * i + 6 ≡ 150 + 6 * (i + 1) = omega arith in e)

pub state_none : (x : ℕ) → state_after 0 x ≡ x
unfolding state_after
state_none x = refl
