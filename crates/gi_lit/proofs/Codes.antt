-- Over n variables there are at most 3^n clauses none of which holds an earlier one.
use Rattle.std.proofs.Common.{◌≡◌, ◌≢◌, ℕ, zero, suc, ◌+◌, ◌*◌, ◌/◌, ◌%◌, ◌^◌, ◌<◌, ◌≤◌, Bool, true, false, cond, nat_eq, List, [], ◌∷◌, ◌++◌, map, get_or, refl, sym, ◌∙◌, subst, arith, inl, inr, ◌⊎◌}
use Rattle.std.specs.List.{All, AllByRecursion, Contains, list_any, IsDistinct}
use Rattle.std.proofs.Math.Nat.{pow-suc}
use Rattle.std.proofs.lemmas.Bool.{cases_eq, eqb-true, eq-eqb, ne_eqb, false_from_ne_true}
use Rattle.std.proofs.lemmas.List.{length-map}
use Rattle.std.proofs.lemmas.List.Elements.{All-nil, All-cons, All-head, All-tail, All-contains, Contains-append_left, Contains-append_right, Contains-push, All-map, Contains-get_or}
use Rattle.std.proofs.lemmas.List.Folds.{list_any_at}
use Rattle.std.proofs.lemmas.Map.Views.{Contains-from_any}
use Rattle.std.proofs.lemmas.Map.Steps.{length-le_from_distinct_below}
use Rattle.gi_lit.specs.Literals.{opposite}
use Rattle.gi_lit.specs.Problem.{Problem, full, IsProblemVar, IsWellFormed}
use Rattle.gi_lit.specs.Learnt.{AreFresh}
use Rattle.gi_lit.proofs.Vars.{var_facts}
use Rattle.gi_lit.specs.Laws.{FreshClausesAreFew}

-- 1 where the positive literal stands in the clause, else 2 for the negative one, else 0
digit : ℕ → List ℕ → ℕ
digit v c = cond (list_any (nat_eq (2 * v)) c) 1 (cond (list_any (nat_eq (2 * v + 1)) c) 2 0)

-- the clause as a number of n digits
code : ℕ → List ℕ → ℕ
code zero c = 0
code (suc n) c = digit (suc n) c + 3 * code n c

digit_small : (v : ℕ) (c : List ℕ) → digit v c < 3
unfolding digit
digit_small v c = go (list_any (nat_eq (2 * v)) c) (list_any (nat_eq (2 * v + 1)) c)
  where
    go : (a b : Bool) → cond a 1 (cond b 2 0) < 3
    go true b = omega arith
    go false true = omega arith
    go false false = omega arith

code_small : (n : ℕ) (c : List ℕ) → code n c < 3 ^ n
unfolding code
code_small zero c = omega arith
code_small (suc n) c = rw pow-suc (omega (arith, digit_small (suc n) c, code_small n c))

same_digits : (n : ℕ) (c d : List ℕ) → code n c ≡ code n d → (v : ℕ) → 1 ≤ v → v ≤ n → digit v c ≡ digit v d
unfolding code
same_digits zero c d e v low high = absurd (omega arith)
same_digits (suc n) c d e v low high = elim (cases_eq v (suc n)) [
  | inl same ↦ rw same (omega (arith, digit_small (suc n) c, digit_small (suc n) d))
  | inr other ↦ same_digits n c d (omega (arith, digit_small (suc n) c, digit_small (suc n) d)) v low (omega arith)
]

has_from : (c : List ℕ) (l : ℕ) → Contains c l → list_any (nat_eq l) c ≡ true
has_from c l h = list_any_at (nat_eq l) c h.0 l h.1 (eq-eqb l (get_or c h.0 l) (sym h.2))

from_has : (c : List ℕ) (l : ℕ) → list_any (nat_eq l) c ≡ true → Contains c l
from_has c l h = Contains-from_any {eq = nat_eq} eqb-true l c h

digit_pos : (v : ℕ) (c : List ℕ) → list_any (nat_eq (2 * v)) c ≡ true → digit v c ≡ 1
unfolding digit
digit_pos v c h = rw h refl

digit_neg : (v : ℕ) (c : List ℕ) → list_any (nat_eq (2 * v)) c ≡ false → list_any (nat_eq (2 * v + 1)) c ≡ true → digit v c ≡ 2
unfolding digit
digit_neg v c h k = rw (h, k) refl

pos_from : (v : ℕ) (c : List ℕ) → digit v c ≡ 1 → list_any (nat_eq (2 * v)) c ≡ true
unfolding digit
pos_from v c = go (list_any (nat_eq (2 * v)) c) (list_any (nat_eq (2 * v + 1)) c)
  where
    go : (a b : Bool) → cond {A = ℕ} a 1 (cond b 2 0) ≡ 1 → a ≡ true
    go true b e = refl
    go false true e = absurd (omega arith)
    go false false e = absurd (omega arith)

neg_from : (v : ℕ) (c : List ℕ) → digit v c ≡ 2 → list_any (nat_eq (2 * v + 1)) c ≡ true
unfolding digit
neg_from v c = go (list_any (nat_eq (2 * v)) c) (list_any (nat_eq (2 * v + 1)) c)
  where
    go : (a b : Bool) → cond {A = ℕ} a 1 (cond b 2 0) ≡ 2 → b ≡ true
    go true b e = absurd (omega arith)
    go false true e = refl
    go false false e = absurd (omega arith)

odd_opposite : (l : ℕ) → l % 2 ≢ 0 → opposite l ≡ 2 * (l / 2)
unfolding opposite
odd_opposite l h = rw (ne_eqb (l % 2) 0 h) (omega arith)

abbrev WithinVars : ℕ → List ℕ → Type 0
WithinVars n c = All (λ l. (1 ≤ l / 2) × (l / 2 ≤ n)) c

-- a clause with no two opposite literals stands in each clause of its number
subset : (n : ℕ) (c d : List ℕ) → WithinVars n c → ((m : ℕ) → Contains c m → ¬ Contains c (opposite m)) → code n c ≡ code n d → All (Contains d) c
subset n c d w plain e k dd lt = go (get_or c k dd) (Contains-get_or c k dd lt) (w k dd lt)
  where
    go : (l : ℕ) → Contains c l → (1 ≤ l / 2) × (l / 2 ≤ n) → Contains d l
    go l h r =
        let same : digit (l / 2) c ≡ digit (l / 2) d = same_digits n c d e (l / 2) r.0 r.1 in
        elim (cases_eq (l % 2) 0) [
          | inl even ↦
              let l_is : l ≡ 2 * (l / 2) = omega arith in
              let known : Contains c (2 * (l / 2)) = subst (Contains c) l_is h in
              subst (Contains d) (sym l_is) (from_has d (2 * (l / 2)) (pos_from (l / 2) d (sym same ∙ digit_pos (l / 2) c (has_from c (2 * (l / 2)) known))))
          | inr odd ↦
              let l_is : l ≡ 2 * (l / 2) + 1 = omega arith in
              let known : Contains c (2 * (l / 2) + 1) = subst (Contains c) l_is h in
              let no : list_any (nat_eq (2 * (l / 2))) c ≡ false = false_from_ne_true _ (λ y. plain l h (subst (Contains c) (sym (odd_opposite l odd)) (from_has c (2 * (l / 2)) y))) in
              subst (Contains d) (sym l_is) (from_has d (2 * (l / 2) + 1) (neg_from (l / 2) d (sym same ∙ digit_neg (l / 2) c no (has_from c (2 * (l / 2) + 1) known))))
        ]

later_apart : (p : Problem) (known news : List (List ℕ)) (n : ℕ) (c : List ℕ) → Contains known c → WithinVars n c → ((m : ℕ) → Contains c m → ¬ Contains c (opposite m)) → AreFresh p known news → AllByRecursion (λ y. nat_eq (code n c) y ≡ false) (map (code n) news)
later_apart p known [] n c k w q h = tt
later_apart p known (d ∷ ds) n c k w q h = (ne_eqb (code n c) (code n d) (λ e. h.0.no_subset c (Contains-append_right (full p) known c k) (subset n c d w q e)), later_apart p (known ++ d ∷ []) ds n c (Contains-append_left known (d ∷ []) c k) w q h.2)

distinct : (p : Problem) (known news : List (List ℕ)) (n : ℕ) → AreFresh p known news → All (WithinVars n) news → IsDistinct nat_eq (map (code n) news)
unfolding IsDistinct
distinct p known [] n h w = tt
distinct p known (d ∷ ds) n h w = (later_apart p (known ++ d ∷ []) ds n d (Contains-push known d) (All-head (WithinVars n) d ds w) h.0.plain h.2, distinct p (known ++ d ∷ []) ds n h.2 (All-tail (WithinVars n) d ds w))

below : (n : ℕ) (news : List (List ℕ)) (q : ℕ) → list_any (nat_eq q) (map (code n) news) ≡ true → q < 3 ^ n
below n news q h = All-contains (λ q. q < 3 ^ n) (map (code n) news) q (All-map (λ q. q < 3 ^ n) (code n) news (λ k d lt. code_small n (get_or news k d))) (from_has (map (code n) news) q h)

used_within : (p : Problem) → IsWellFormed p → (v : ℕ) → IsProblemVar p v ⊎ Contains p.active v → (1 ≤ v) × (v ≤ p.vars)
used_within p k v (inl a) = let f = var_facts p v a in (f.low, f.high)
used_within p k v (inr b) = let m = Contains-append_right p.freed p.active v b in (All-contains (λ g. 1 ≤ g) (p.freed ++ p.active) v k.low m, All-contains (λ g. g ≤ p.vars) (p.freed ++ p.active) v k.high m)

news_within : (p : Problem) (known news : List (List ℕ)) → IsWellFormed p → AreFresh p known news → All (WithinVars p.vars) news
news_within p known [] k h = All-nil (WithinVars p.vars)
news_within p known (c ∷ cs) k h = All-cons (WithinVars p.vars) c cs (λ i d lt. used_within p k (get_or c i d / 2) (h.0.within i d lt)) (news_within p (known ++ c ∷ []) cs k h.2)

pub few_news : FreshClausesAreFew
few_news p known news k h = rw length-map at (length-le_from_distinct_below (map (code p.vars) news) (3 ^ p.vars) (distinct p known news p.vars h (news_within p known news k h)) (below p.vars news))
