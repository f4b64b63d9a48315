-- From one root.
use Rattle.std.proofs.Common.{◌≡◌, ◌≢◌, ℕ, ◌+◌, ◌<◌, List, [], length, get_or, Bool, inl, inr, arith, ap, zero, suc, refl, sym, ◌∙◌, false, true, replicate, below_more, if◌then◌else◌}
use Rattle.std.proofs.lemmas.List.{length-replicate}
use Rattle.std.proofs.lemmas.List.Folds.{sum_by-replicate}
use Rattle.gi_levels.specs.declared.levels.Node.{Node}
use Rattle.gi_levels.specs.Levels.{Searching, Rooted, Keeps, Advances, Visited, AreLevels, unseen}

pub record Visiting (nodes : List Node) (root : ℕ) (start : List ℕ) (seen : List Bool) (levels stack : List ℕ) (fresh : ℕ) : Type 0 where
  pub sound : Searching nodes seen levels stack fresh
  pub rooted : Rooted root stack levels
  pub keeps : Keeps start levels

pub goes_on : (nodes : List Node) (root : ℕ) (start : List ℕ) (seen : List Bool) (levels stack : List ℕ) (fresh : ℕ) (seen' : List Bool) (levels' stack' : List ℕ) (fresh' : ℕ)
    → Visiting nodes root start seen levels stack fresh → Advances nodes levels stack fresh seen' levels' stack' fresh' → Visiting nodes root start seen' levels' stack' fresh'
goes_on nodes root start seen levels stack fresh seen' levels' stack' fresh' v a = record { sound = a.sound; rooted = a.rooted root v.rooted; keeps = λ k h. a.keeps k (v.keeps k h) }

pub ends : (nodes : List Node) (root : ℕ) (start : List ℕ) (seen : List Bool) (levels stack : List ℕ) (fresh : ℕ) → Visiting nodes root start seen levels stack fresh → stack ≡ [] → get_or levels root 0 ≢ 0
ends nodes root start seen levels stack fresh v none = by_root v.rooted none where
  by_root : Rooted root stack levels → stack ≡ [] → get_or levels root 0 ≢ 0
  by_root (inl h) none = let len = ap length none in absurd (omega arith)
  by_root (inr h) none = h

-- all roots so far
pub record Roots (nodes : List Node) (count : ℕ) (seen : List Bool) (levels stack : List ℕ) (fresh : ℕ) : Type 0 where
  pub sound : Searching nodes seen levels stack fresh
  pub none : stack ≡ []
  pub known : (k : ℕ) → k < count → get_or levels k 0 ≢ 0

pub more_roots : (nodes : List Node) (count : ℕ) (seen : List Bool) (levels stack : List ℕ) (fresh : ℕ) (seen' : List Bool) (levels' stack' : List ℕ) (fresh' : ℕ)
    → Roots nodes count seen levels stack fresh → Visited nodes count levels seen' levels' stack' fresh' → Roots nodes (count + 1) seen' levels' stack' fresh'
more_roots nodes count seen levels stack fresh seen' levels' stack' fresh' r v = record { sound = v.sound; none = v.none; known = below_more (λ (k : ℕ). get_or levels' k 0 ≢ 0) count (λ k lt. v.keeps k (r.known k lt)) v.known }

pub all_roots : (nodes : List Node) (seen : List Bool) (levels stack : List ℕ) (fresh : ℕ) → Roots nodes (length nodes) seen levels stack fresh → AreLevels nodes levels
all_roots nodes seen levels stack fresh r = record { len = r.sound.levels_len; each = λ k lt. (r.sound.exact k lt (r.known k lt)).value }

zeros : (n k : ℕ) → get_or (replicate {A = ℕ} n 0) k 0 ≡ 0
zeros zero k = refl
zeros (suc n) zero = refl
zeros (suc n) (suc k) = zeros n k

pub falses : (n k : ℕ) → get_or (replicate n false) k false ≡ false
falses zero k = refl
falses (suc n) zero = refl
falses (suc n) (suc k) = falses n k

pub all_unseen : (n : ℕ) → unseen (replicate n false) ≡ n
all_unseen n = omega (arith, sum_by-replicate (λ b. if b then 0 else 1) n false)

pub none_yet : (nodes : List Node) (seen : List Bool) (levels stack : List ℕ) (fresh : ℕ) → seen ≡ replicate (length nodes) false → levels ≡ replicate (length nodes) 0 → stack ≡ [] → fresh ≡ length nodes → Roots nodes 0 seen levels stack fresh
none_yet nodes seen levels stack fresh es el et ef = record {
  sound = record {
    seen_len = ap length es ∙ length-replicate (length nodes) false;
    levels_len = ap length el ∙ length-replicate (length nodes) 0;
    within = λ j lt. absurd (omega (arith, len));
    path = λ j lt. absurd (omega (arith, len));
    on_stack = λ k lt was none. absurd (unseen_at k was);
    exact = λ k lt some. absurd (some (zero_at k));
    fits = λ k. omega (arith, zero_at k, len, ef);
    count = ef ∙ sym (all_unseen (length nodes)) ∙ ap unseen (sym es);
  };
  none = et;
  known = λ k lt. absurd (omega arith);
} where
  len : length stack ≡ 0
  len = ap length et

  zero_at : (k : ℕ) → get_or levels k 0 ≡ 0
  zero_at k = ap (λ (xs : List ℕ). get_or xs k 0) el ∙ zeros (length nodes) k

  unseen_at : (k : ℕ) → get_or seen k false ≡ true → ⊥
  unseen_at k was = let f : get_or seen k false ≡ false = ap (λ (xs : List Bool). get_or xs k false) es ∙ falses (length nodes) k in cc
