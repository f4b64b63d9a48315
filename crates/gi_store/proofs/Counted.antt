-- All that a store keeps, with its count of literals, after each edit.
use Rattle.std.proofs.Common.{◌≡◌, ℕ, ◌+◌, ◌-◌, ◌/◌, ◌<◌, ◌≤◌, true, Some, None, List, [], ◌∷◌, ◌++◌, length, take, drop, map, set, replicate, refl, sym, ap, ◌∙◌, arith}
use Rattle.std.specs.List.{All, Contains, filter, sum_by}
use Rattle.std.proofs.lemmas.List.Elements.{All-contains}
use Rattle.slab.specs.Slab.{Slab, get, Updates}
use Rattle.gi_lit.specs.Literals.{max_var}
use Rattle.gi_lit.specs.Problem.{IsPlain, IsGroup, lit_count, names, negatives, without}
use Rattle.gi_store.specs.StoreView.{StoreView, problem_of, IsWithin, with_learnt, with_new_guard, without_guard_of, trimmed}
use Rattle.gi_store.specs.declared.group_key.GroupKey.{GroupKey}
use Rattle.gi_store.specs.Stored.{clause_at, group_at, group_length, held_of, StoreInvariant, IsCounted}
use Rattle.gi_store.specs.declared.kind.VarKind.{VarKind}
use Rattle.gi_store.specs.declared.kind.VarKind.TheVariants as kind
use Rattle.gi_store.proofs.Lists.{Contains-filter, Contains-map}
use Rattle.gi_store.proofs.Edits.{group_in}
use Rattle.gi_store.proofs.Forgetting.{keeps, spares, IsOther}
use Rattle.gi_store.proofs.Views.{held_same, held_plain, held_learnt, held_group, placed}
use Rattle.gi_store.proofs.Removing.{groups_left, held_trimmed}
use Rattle.gi_store.proofs.Kept.{kept_same, kept_plain, kept_learnt, kept_group, kept_trimmed, kept_grown, grown_held, kept_next, next_held, kept_again, again_held, kept_without, without_held}
use Rattle.gi_store.proofs.Counting.{HaveGuards, count_parts, count_plain, count_under, count_same}

abbrev size_of : StoreView → ℕ
size_of h = lit_count (problem_of h)

module _ (kinds : List VarKind) (s t : Slab (List ℕ)) (p : List ℕ) (q : List GroupKey) (l a f : List ℕ) (room n : ℕ) (i : IsCounted kinds s p q l a f room n) where
  abbrev was : StoreView
  was = held_of (length kinds) s p q l a f

  pub counted_same : ((k : ℕ) → get t k ≡ get s k) → IsCounted kinds t p q l a f room n
  counted_same same = record { kept = kept_same kinds s t p q l a f room i.kept same; count = ap size_of (held_same s t p q l (λ k c. same k) (length kinds) a f) ∙ i.count }

  module _ (k : ℕ) (c : List ℕ) (vacant : get s k ≡ None) (u : Updates s t k (Some c)) where
    pub counted_plain : IsPlain (problem_of was) c → (m : ℕ) → m ≡ n + length c → IsCounted kinds t (p ++ k ∷ []) q l a f room m
    counted_plain plain m e = record {
      kept = kept_plain kinds s t p q l a f room i.kept k c vacant u plain;
      count = ap size_of (held_plain s t k c vacant u p q l i.kept.stored (length kinds) a f) ∙ count_plain k c was ∙ ap (λ x. x + length c) i.count ∙ sym e;
    }

    pub counted_learnt : IsWithin (length kinds) c → IsCounted kinds t p q (l ++ k ∷ []) a f room n
    counted_learnt within = record {
      kept = kept_learnt kinds s t p q l a f room i.kept k c vacant u within;
      count = ap size_of (held_learnt s t k c vacant u p q l i.kept.stored (length kinds) a f) ∙ count_same was (with_learnt k c was) refl refl ∙ i.count;
    }

    pub counted_group : (gs d : List ℕ) → c ≡ d ++ negatives gs → 0 < length gs → All (Contains a) gs → IsPlain (problem_of was) d → (m : ℕ) → m ≡ n + (length d + (length gs - 1))
        → IsCounted kinds t p (q ++ placed k gs ∷ []) l a f room m
    counted_group gs d ends some act plain m e = record {
      kept = kept_group kinds s t p q l a f room i.kept k c vacant u gs d ends some act plain;
      count = ap size_of (held_group s t k c vacant u p q l i.kept.stored gs d ends (length kinds) a f) ∙ count_under k gs d was ∙ ap (λ x. x + (length d + (length gs - 1))) i.count ∙ sym e;
    }

  pub counted_trimmed : (j : ℕ) → j ≡ length l / 2 → ((k : ℕ) → ¬ Contains (take j l) k → get t k ≡ get s k) → IsCounted kinds t p q (drop j l) a f room n
  counted_trimmed j half others = record {
    kept = kept_trimmed kinds s t p q l a f room i.kept j half others;
    count = ap size_of (held_trimmed s t p q l j i.kept.stored others (length kinds) a f half) ∙ count_same was (trimmed was) refl refl ∙ i.count;
  }

module _ (kinds : List VarKind) (s : Slab (List ℕ)) (p : List ℕ) (q : List GroupKey) (l a f : List ℕ) (room n : ℕ) (i : IsCounted kinds s p q l a f room n) where
  abbrev before : StoreView
  before = held_of (length kinds) s p q l a f

  pub counted_grown : (m : ℕ) → m ≤ max_var → IsCounted (kinds ++ replicate (m - length kinds) kind.Problem) s p q l a f room n
  counted_grown m limit = record {
    kept = kept_grown kinds s p q l a f room i.kept m limit;
    count = ap size_of (grown_held kinds s p q l a f room i.kept m) ∙ count_same before (record before { vars = _ }) refl refl ∙ i.count;
  }

  pub counted_next : f ≡ [] → (more : ℕ) → length kinds < max_var → 1 + length a ≤ more → IsCounted (kinds ++ kind.Active ∷ []) s p q l (a ++ (length kinds + 1) ∷ []) [] more n
  counted_next e more limit rooms = record {
    kept = kept_next kinds s p q l a f room i.kept e more limit rooms;
    count = ap size_of (next_held kinds s p q l a f room i.kept e) ∙ count_same before (with_new_guard before) refl refl ∙ i.count;
  }

  pub counted_again : (g : ℕ) (rest : List ℕ) → f ≡ rest ++ g ∷ [] → (more : ℕ) → length rest + 1 + length a ≤ more → IsCounted (set kinds (g - 1) kind.Active) s p q l (a ++ g ∷ []) rest more n
  counted_again g rest e more rooms = record {
    kept = kept_again kinds s p q l a f room i.kept g rest e more rooms;
    count = ap size_of (again_held kinds s p q l a f room i.kept g rest e) ∙ count_same before (with_new_guard before) refl refl ∙ i.count;
  }

-- each group has a guard
guarded_all : (kinds : List VarKind) (s : Slab (List ℕ)) (p : List ℕ) (q : List GroupKey) (l a f : List ℕ) (room : ℕ) → StoreInvariant kinds s p q l a f room → HaveGuards s q
guarded_all kinds s p q l a f room i g c =
    let x : IsGroup (problem_of (held_of (length kinds) s p q l a f)) (group_in (group_at s g)) =
    All-contains (IsGroup (problem_of (held_of (length kinds) s p q l a f))) (map group_in (map (group_at s) q)) (group_in (group_at s g)) i.whole.well_formed.groups
    (Contains-map group_in (map (group_at s) q) (group_at s g) (Contains-map (group_at s) q g c)) in
    x.2

-- the groups have no more literals than the problem
pub groups_within : (kinds : List VarKind) (s : Slab (List ℕ)) (p : List ℕ) (q : List GroupKey) (l a f : List ℕ) (room n : ℕ) → IsCounted kinds s p q l a f room n → sum_by (group_length s) q ≤ n
groups_within kinds s p q l a f room n i =
    let old = sym (count_parts s p q l (length kinds) a f (guarded_all kinds s p q l a f room i.kept)) ∙ i.count in omega (arith, old)

module _ (kinds : List VarKind) (s m t : Slab (List ℕ)) (p : List ℕ) (q : List GroupKey) (l a f : List ℕ) (room n : ℕ) (i : IsCounted kinds s p q l a f room n) (g : ℕ) (act : Contains a g)
    (first : (k : ℕ) → IsOther g s q k → get m k ≡ get s k)
    (second : (k : ℕ) → ¬ (Contains l k × (names g (clause_at m k) ≡ true)) → get t k ≡ get m k) where
  abbrev kept_groups : List GroupKey
  kept_groups = filter (spares g s) q

  abbrev kept_learnt' : List ℕ
  kept_learnt' = filter (keeps g m) l

  abbrev left_held : StoreView
  left_held = held_of (length kinds) s p kept_groups l a f

  abbrev was_held : StoreView
  was_held = held_of (length kinds) s p q l a f

  pub counted_without : (more j gone : ℕ) → length f + 1 + length (without g a) ≤ more → gone + sum_by (group_length s) kept_groups ≡ sum_by (group_length s) q → j ≡ n - gone
      → IsCounted (set kinds (g - 1) kind.Freed) t p kept_groups kept_learnt' (without g a) (f ++ g ∷ []) more j
  counted_without more j gone rooms e ej = record {
    kept = kept_without kinds s m t p q l a f room i.kept g act first second more rooms;
    count =
        let some = guarded_all kinds s p q l a f room i.kept in
        let old = sym (count_parts s p q l (length kinds) a f some) ∙ i.count in
        let new = count_parts s p kept_groups l (length kinds) a f (λ u c. some u (let x = Contains-filter (spares g s) q u c in x.0)) in
        let here = ap size_of (without_held kinds s m t p q l a f room i.kept g act first second)
        ∙ count_same left_held (without_guard_of g was_held) refl (sym (groups_left s m t p q l g i.kept.stored first second)) in
        here ∙ omega (arith, old, new, e, ej);
  }
