-- The loop that takes clauses away.
use Rattle.std.proofs.Common.{◌≡◌, ◌≢◌, ℕ, zero, suc, ◌+◌, ◌-◌, ◌<◌, ◌≤◌, Bool, true, false, not, cond, Option, None, List, [], ◌∷◌, ◌++◌, length, take, get_or, set, refl, sym, ap, ◌∙◌, subst, arith, ◌⊎◌, inl, inr, add-zero}
use Rattle.std.specs.List.{Contains, filter, sum_by}
use Rattle.std.specs.Option.{unwrap_or}
use Rattle.std.proofs.lemmas.List.{take_all, take_more, get_or-drop, append-nil}
use Rattle.std.proofs.lemmas.List.Elements.{Contains-append_left, Contains-push, Contains-get_or, filter_more}
use Rattle.std.proofs.lemmas.List.Filters.{FiltersInPlace, FiltersInPlace-all, FiltersInPlace-more_no, FiltersInPlace-more_set}
use Rattle.std.proofs.lemmas.List.Sums.{sum_by_push, sum_by-take-le}
use Rattle.slab.specs.Slab.{Slab, get, Updates}
use Rattle.slab.proofs.SlabLemmas.{Contains-cons_cases}
use Rattle.gi_lit.specs.Problem.{names}
use Rattle.gi_lit.specs.Lists.{IsDistinct}
use Rattle.gi_store.specs.declared.group_key.GroupKey.{GroupKey}
use Rattle.gi_store.specs.Stored.{clause_at, keys_in, guard_part, is_under, group_length}
use Rattle.gi_store.proofs.Lists.{distinct_before, Contains-nil, Contains-map}

abbrev pub keeps : ℕ → Slab (List ℕ) → ℕ → Bool
keeps v slab k = not (names v (clause_at slab k))

-- the first i keys were looked at: of them those that name the variable are gone
pub record Forgetting (v : ℕ) (old new : Slab (List ℕ)) (xs ys : List ℕ) (kept i : ℕ) : Type 0 where
  pub distinct : IsDistinct xs
  pub filtered : FiltersInPlace (keeps v old) xs ys kept i
  pub others : (k : ℕ) → ¬ (Contains (take i xs) k × (names v (clause_at old k) ≡ true)) → get new k ≡ get old k

pub forgetting_start : (v : ℕ) (old : Slab (List ℕ)) (xs : List ℕ) → IsDistinct xs → Forgetting v old old xs xs 0 0
forgetting_start v old xs a = record { distinct = a; filtered = record { front = refl; rest = refl; behind = omega arith; within = omega arith; long = refl }; others = λ k n. refl }

module _ (v : ℕ) (old new : Slab (List ℕ)) (xs ys : List ℕ) (kept i x : ℕ) (h : Forgetting v old new xs ys kept i) (lt : i < length ys) (item : x ≡ get_or ys i x) where
  here : get_or xs i x ≡ x
  here = sym (item ∙ same)
    where
      same : get_or ys i x ≡ get_or xs i x
      same = subst (λ n. get_or ys n x ≡ get_or xs n x) (add-zero i) (sym (get_or-drop i ys 0 x) ∙ ap (λ zs. get_or zs 0 x) h.filtered.rest ∙ get_or-drop i xs 0 x)

  in_xs : i < length xs
  in_xs = rw (← h.filtered.long) lt

  first : ¬ Contains (take i xs) x
  first = rw here at (distinct_before xs i x h.distinct in_xs)

  -- its clause is as it was
  pub same_slot : clause_at new x ≡ clause_at old x
  same_slot = ap (λ (o : Option (List ℕ)). unwrap_or o []) (h.others x (λ c. first c.0))

  grown : take (i + 1) xs ≡ take i xs ++ x ∷ []
  grown = take_more xs i x in_xs ∙ ap (λ y. take i xs ++ y ∷ []) here

  pub forgetting_no : (newer : Slab (List ℕ)) → names v (clause_at new x) ≡ true → Updates new newer x None → Forgetting v old newer xs ys kept (i + 1)
  forgetting_no newer t u = record {
    distinct = h.distinct;
    filtered = FiltersInPlace-more_no h.filtered lt (ap not named) item;
    others = λ k n. u.others k (λ e. n (subst (λ zs. Contains zs k) (sym grown) (subst (Contains (take i xs ++ x ∷ [])) (sym e) (Contains-push (take i xs) x)), ap (λ j. names v (clause_at old j)) e ∙ named))
        ∙ h.others k (λ c. n (subst (λ zs. Contains zs k) (sym grown) (Contains-append_left (take i xs) (x ∷ []) k c.0), c.1));
  }
    where
      named : names v (clause_at old x) ≡ true
      named = ap (names v) (sym same_slot) ∙ t

  pub forgetting_yes : names v (clause_at new x) ≡ false → Forgetting v old new xs (set ys kept x) (kept + 1) (i + 1)
  forgetting_yes t = record {
    distinct = h.distinct;
    filtered = FiltersInPlace-more_set h.filtered lt (ap not (ap (names v) (sym same_slot) ∙ t)) item;
    others = λ k n. h.others k (λ c. n (subst (λ zs. Contains zs k) (sym grown) (Contains-append_left (take i xs) (x ∷ []) k c.0), c.1));
  }

-- the first i keys' clauses are gone
pub record ForgettingFirst (old new : Slab (List ℕ)) (xs : List ℕ) (i : ℕ) : Type 0 where
  pub within : i ≤ length xs
  pub others : (k : ℕ) → ¬ Contains (take i xs) k → get new k ≡ get old k

pub forgetting_first : (old new newer : Slab (List ℕ)) (xs : List ℕ) (i x : ℕ) → ForgettingFirst old new xs i → i < length xs → x ≡ get_or xs i x → Updates new newer x None → ForgettingFirst old newer xs (i + 1)
forgetting_first old new newer xs i x h lt item u = record {
  within = omega arith;
  others = λ k n. u.others k (λ e. n (subst (λ zs. Contains zs k) (sym grown) (subst (Contains (take i xs ++ x ∷ [])) (sym e) (Contains-push (take i xs) x))))
      ∙ h.others k (λ c. n (subst (λ zs. Contains zs k) (sym grown) (Contains-append_left (take i xs) (x ∷ []) k c)));
}
  where
    grown : take (i + 1) xs ≡ take i xs ++ x ∷ []
    grown = take_more xs i x lt ∙ ap (λ y. take i xs ++ y ∷ []) (sym item)

-- keys under which different groups are stored are different
pub same_group : (gs : List GroupKey) → IsDistinct (keys_in gs) → (g h : GroupKey) → Contains gs g → Contains gs h → g.key ≡ h.key → g ≡ h
same_group [] d g h a b e = absurd (Contains-nil g a)
same_group (x ∷ gs) d g h a b e = go (Contains-cons_cases x g gs a) (Contains-cons_cases x h gs b) (same_group gs d.1 g h)
  where
    there : (u : GroupKey) → Contains gs u → Contains (keys_in gs) u.key
    there u c = Contains-map (λ (z : GroupKey). z.key) gs u c

    go : (x ≡ g) ⊎ Contains gs g → (x ≡ h) ⊎ Contains gs h → (Contains gs g → Contains gs h → g.key ≡ h.key → g ≡ h) → g ≡ h
    go (inl p) (inl q) rest = sym p ∙ q
    go (inl p) (inr q) rest = absurd (d.0 (subst (Contains (keys_in gs)) (sym (ap (λ (z : GroupKey). z.key) p ∙ e)) (there h q)))
    go (inr p) (inl q) rest = absurd (d.0 (subst (Contains (keys_in gs)) (e ∙ sym (ap (λ (z : GroupKey). z.key) q)) (there g p)))
    go (inr p) (inr q) rest = rest p q e

-- a group's key stands nowhere before its place
key_before : (gs : List GroupKey) (i : ℕ) (d : GroupKey) → IsDistinct (keys_in gs) → i < length gs → (g : GroupKey) → Contains (take i gs) g → g.key ≢ (get_or gs i d).key
key_before [] i d a lt g c e = omega (arith, lt)
key_before (x ∷ gs) zero d a lt g c e = absurd (Contains-nil g c)
key_before (x ∷ gs) (suc i) d a lt g c e = elim (Contains-cons_cases x g (take i gs) c) [
  | inl q ↦ a.0 (subst (Contains (keys_in gs)) (sym (ap (λ (z : GroupKey). z.key) q ∙ e)) (Contains-map (λ (z : GroupKey). z.key) gs (get_or gs i d) (Contains-get_or gs i d (omega arith))))
  | inr r ↦ key_before gs i d a.1 (omega arith) g r e
]

abbrev pub spares : ℕ → Slab (List ℕ) → GroupKey → Bool
spares v slab g = not (is_under v slab g)

-- no group among these that names the guard has the key
abbrev pub IsOther : ℕ → Slab (List ℕ) → List GroupKey → ℕ → Type 0
IsOther v slab gs k = (g : GroupKey) → Contains gs g → g.key ≡ k → is_under v slab g ≡ true → ⊥

-- the first i groups were looked at: those that name the guard are gone, with so many literals
pub record ForgettingGroups (v : ℕ) (old new : Slab (List ℕ)) (xs ys : List GroupKey) (kept i gone : ℕ) : Type 0 where
  pub distinct : IsDistinct (keys_in xs)
  pub filtered : FiltersInPlace (spares v old) xs ys kept i
  pub others : (k : ℕ) → IsOther v old (take i xs) k → get new k ≡ get old k
  pub count : gone + sum_by (group_length old) (filter (spares v old) (take i xs)) ≡ sum_by (group_length old) (take i xs)

pub groups_start : (v : ℕ) (old : Slab (List ℕ)) (xs : List GroupKey) → IsDistinct (keys_in xs) → ForgettingGroups v old old xs xs 0 0 0
groups_start v old xs a = record { distinct = a; filtered = record { front = refl; rest = refl; behind = omega arith; within = omega arith; long = refl }; others = λ k n. refl; count = refl }

module _ (v : ℕ) (old new : Slab (List ℕ)) (xs ys : List GroupKey) (kept i gone : ℕ) (x : GroupKey) (h : ForgettingGroups v old new xs ys kept i gone) (lt : i < length ys) (item : x ≡ get_or ys i x) where
  group_here : get_or xs i x ≡ x
  group_here = sym (item ∙ same)
    where
      same : get_or ys i x ≡ get_or xs i x
      same = subst (λ n. get_or ys n x ≡ get_or xs n x) (add-zero i) (sym (get_or-drop i ys 0 x) ∙ ap (λ zs. get_or zs 0 x) h.filtered.rest ∙ get_or-drop i xs 0 x)

  in_groups : i < length xs
  in_groups = rw (← h.filtered.long) lt

  first_group : (g : GroupKey) → Contains (take i xs) g → g.key ≢ x.key
  first_group g c e = key_before xs i x h.distinct in_groups g c (e ∙ ap (λ (z : GroupKey). z.key) (sym group_here))

  -- its clause is as it was
  pub same_stored : get new x.key ≡ get old x.key
  same_stored = h.others x.key (λ g c e n. first_group g c e)

  same_under : is_under v new x ≡ is_under v old x
  same_under = ap (λ (o : Option (List ℕ)). names v (guard_part x.guards (unwrap_or o []))) same_stored

  pub same_length : group_length new x ≡ group_length old x
  same_length = ap (λ (o : Option (List ℕ)). length (unwrap_or o []) - 1) same_stored

  groups_grown : take (i + 1) xs ≡ take i xs ++ x ∷ []
  groups_grown = take_more xs i x in_groups ∙ ap (λ y. take i xs ++ y ∷ []) group_here

  sum_grown : sum_by (group_length old) (take (i + 1) xs) ≡ sum_by (group_length old) (take i xs) + group_length old x
  sum_grown = ap (sum_by (group_length old)) groups_grown ∙ sum_by_push (group_length old) (take i xs) x

  filter_grown : (b : Bool) → spares v old x ≡ b → filter (spares v old) (take (i + 1) xs) ≡ filter (spares v old) (take i xs) ++ cond b (x ∷ []) []
  filter_grown b e = filter_more (spares v old) xs i x in_groups ∙ ap (λ (y : GroupKey). filter (spares v old) (take i xs) ++ cond (spares v old y) (y ∷ []) []) group_here ∙ ap (λ c. filter (spares v old) (take i xs) ++ cond c (x ∷ []) []) e

  pub gone_within : gone + group_length new x ≤ sum_by (group_length old) xs
  gone_within = let a = sum_by-take-le (group_length old) xs (i + 1) in omega (arith, a, sum_grown, h.count, same_length)

  pub groups_no : (newer : Slab (List ℕ)) → is_under v new x ≡ true → Updates new newer x.key None → ForgettingGroups v old newer xs ys kept (i + 1) (gone + group_length new x)
  groups_no newer t u = record {
    distinct = h.distinct;
    filtered = FiltersInPlace-more_no h.filtered lt (ap not named) item;
    others = λ k n. u.others k (λ e. n x (subst (λ zs. Contains zs x) (sym groups_grown) (Contains-push (take i xs) x)) (sym e) named)
        ∙ h.others k (λ g c e m. n g (subst (λ zs. Contains zs g) (sym groups_grown) (Contains-append_left (take i xs) (x ∷ []) g c)) e m);
    count = let f = ap (sum_by (group_length old)) (filter_grown false (ap not named) ∙ append-nil (filter (spares v old) (take i xs))) in omega (arith, f, h.count, sum_grown, same_length);
  }
    where
      named : is_under v old x ≡ true
      named = sym same_under ∙ t

  pub groups_yes : is_under v new x ≡ false → ForgettingGroups v old new xs (set ys kept x) (kept + 1) (i + 1) gone
  groups_yes t = record {
    distinct = h.distinct;
    filtered = FiltersInPlace-more_set h.filtered lt staying item;
    others = λ k n. h.others k (λ g c e m. n g (subst (λ zs. Contains zs g) (sym groups_grown) (Contains-append_left (take i xs) (x ∷ []) g c)) e m);
    count = let f = ap (sum_by (group_length old)) (filter_grown true staying) ∙ sum_by_push (group_length old) (filter (spares v old) (take i xs)) x in omega (arith, f, h.count, sum_grown);
  }
    where
      staying : spares v old x ≡ true
      staying = ap not (sym same_under ∙ t)

-- all were looked at
pub groups_end : (v : ℕ) (old new : Slab (List ℕ)) (xs ys : List GroupKey) (kept i gone : ℕ) → ForgettingGroups v old new xs ys kept i gone → length xs ≤ i → (zs : List GroupKey) → zs ≡ take kept ys
    → gone + sum_by (group_length old) zs ≡ sum_by (group_length old) xs
groups_end v old new xs ys kept i gone h le zs e =
    let all : gone + sum_by (group_length old) (filter (spares v old) xs) ≡ sum_by (group_length old) xs =
    subst (λ (ts : List GroupKey). gone + sum_by (group_length old) (filter (spares v old) ts) ≡ sum_by (group_length old) ts) (take_all i xs le) h.count in
    ap (λ (us : List GroupKey). gone + sum_by (group_length old) us) (e ∙ FiltersInPlace-all h.filtered le) ∙ all
