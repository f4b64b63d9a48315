-- Which literals of a trail scopes account for: those that are assumed or listed, and guards.
use Rattle.std.proofs.Common.{◌≡◌, ℕ, ◌+◌, ◌*◌, ◌/◌, ◌<◌, ◌≤◌, Bool, true, false, Option, Some, None, List, [], ◌∷◌, ◌++◌, length, map, take, get_or, refl, sym, ap, ◌∙◌, subst, arith, ◌⊎◌, inl, inr, length-append}
use Rattle.std.specs.List.{All, Contains}
use Rattle.std.proofs.lemmas.Bool.{cases_lt, both_ways}
use Rattle.std.proofs.lemmas.List.{get_or_default, get_or_append_left, get_or_past, get_or_push, take_all, take-append-le}
use Rattle.std.proofs.lemmas.List.Elements.{All-nil, All-append, All-contains, Contains-get_or, Contains-append_left, Contains-append_right, Contains-append_cases}
use Rattle.gi_lit.specs.Problem.{Group, has, full, guarded, negatives, IsPlain, IsGroup, IsWellFormed, IsProblemVar}
use Rattle.gi_lit.proofs.Lists.{Contains-map, Contains-unmap}
use Rattle.gi_lit.proofs.Vars.{var_facts, Contains-from_has, has-from_Contains}
use Rattle.gi_store.specs.StoreView.{StoreView, problem_of}
use Rattle.gi_store.proofs.Edits.{group_in}
use Rattle.gi_prop.specs.TrailView.{TrailView, IsTrail}
use Rattle.gi_model.specs.State.{Scope, listed, listed_in, scope_assumed, scope_listed}
use Rattle.gi_scopes.specs.Under.{base_of, IsReached, AreReached}
use Rattle.gi_scopes.specs.Built.{front, IsOfGuard, IsCovered, CoversLevels, IsHigher, Stays, Rises, kept_lits}
use Rattle.gi_scopes.specs.Listing.{IsPlaceOf, AreBehind, AreKnown, IsListing}
use Rattle.gi_scopes.specs.declared.clash.Clash.{Clash}
use Rattle.gi_scopes.specs.declared.kept.Kept.{Kept}
use Rattle.gi_scopes.specs.declared.kept.Reach.TheVariants.{Closed, Stuck}
use Rattle.gi_scopes.proofs.Base.{same_full, holds_full}
use Rattle.gi_scopes.proofs.Listing.{scope_assumed-push, scope_listed-push, scope_listed-more}

module _ (s : StoreView) (w : IsWellFormed (problem_of s)) where
  -- a guard is no problem variable
  pub guard_other : (m : ℕ) → IsOfGuard (base_of s) m → ¬ IsProblemVar (problem_of s) (m / 2)
  guard_other m g v = (var_facts (problem_of s) (m / 2) v).inactive (subst (Contains s.active) half (All-contains (Contains s.active) g.group.guards q.0 inside.1 q.1))
    where
      q : (x : ℕ) × Contains g.group.guards x × (2 * x + 1 ≡ m)
      q = Contains-unmap (λ x. 2 * x + 1) g.group.guards m g.names

      half : q.0 ≡ m / 2
      half = let e = q.2 in omega (arith, e)

      inside : IsGroup (problem_of s) (group_in g.group)
      inside = All-contains (IsGroup (problem_of s)) (problem_of s).groups (group_in g.group) w.groups (Contains-map group_in s.groups g.group g.stands)

  -- a literal of a full clause is of a problem variable or a guard's
  pub of_full : (c : List ℕ) (m : ℕ) → Contains (full (problem_of s)) c → Contains c m → IsProblemVar (problem_of s) (m / 2) ⊎ IsOfGuard (base_of s) m
  unfolding full
  of_full c m a b = elim (Contains-append_cases (problem_of s).plain (map guarded (problem_of s).groups) c a) [
    | inl x ↦ inl (All-contains (λ l. IsProblemVar (problem_of s) (l / 2)) c m (All-contains (IsPlain (problem_of s)) (problem_of s).plain c w.plain x) b)
    | inr y ↦ let u = Contains-unmap guarded (problem_of s).groups c y in of_group u.0 u.1 (subst (λ xs. Contains xs m) (sym u.2) b)
  ]
    where
      of_group : (q : Group) → Contains (problem_of s).groups q → Contains (guarded q) m → IsProblemVar (problem_of s) (m / 2) ⊎ IsOfGuard (base_of s) m
      of_group q c x = elim (Contains-append_cases q.clause (negatives q.guards) m x) [
        | inl own ↦ inl (All-contains (λ l. IsProblemVar (problem_of s) (l / 2)) q.clause m (All-contains (IsGroup (problem_of s)) (problem_of s).groups q w.groups c).0 own)
        | inr n ↦
            let u = Contains-unmap group_in s.groups q c in
            inr (record { group = u.0; stands = u.1; names = subst (λ (z : Group). Contains (negatives z.guards) m) (sym u.2) n })
      ]

  module _ (scs : List Scope) where
    -- where a trail is accounted for, each of its problem literals is assumed or listed
    pub covered_known : (lits assumed : List ℕ) → IsCovered (base_of s) scs lits → AreKnown (problem_of s) ((scope_assumed scs ++ assumed) ++ scope_listed scs) lits
    covered_known lits assumed h i d lt v = elim (h.known i d lt) [
      | inr g ↦ absurd (guard_other (get_or lits i d) g v)
      | inl c ↦ elim (Contains-append_cases (scope_assumed scs) (scope_listed scs) (get_or lits i d) c) [
        | inl a ↦ Contains-append_left (scope_assumed scs ++ assumed) (scope_listed scs) (get_or lits i d) (Contains-append_left (scope_assumed scs) assumed (get_or lits i d) a)
        | inr l ↦ Contains-append_right (scope_assumed scs ++ assumed) (scope_listed scs) (get_or lits i d) l
      ]
    ]

    -- behind it only what is assumed now can be known
    pub covered_behind : (old more assumed : List ℕ) (lits : List ℕ) → lits ≡ old ++ more → ((i j : ℕ) → i < length lits → j < length lits → get_or lits i 0 / 2 ≡ get_or lits j 0 / 2 → i ≡ j) → All (Contains old) (scope_assumed scs) → All (Contains old) (scope_listed scs) → AreBehind lits (length old) assumed ((scope_assumed scs ++ assumed) ++ scope_listed scs)
    covered_behind old more assumed lits e apart a l = record { each = λ k le lt. same (has ((scope_assumed scs ++ assumed) ++ scope_listed scs) (get_or lits k 0)) (has assumed (get_or lits k 0)) refl refl (no_old k le lt) }
      where
        no_old : (k : ℕ) → length old ≤ k → k < length lits → ¬ Contains old (get_or lits k 0)
        no_old k le lt c =
            let here : get_or lits c.0 0 ≡ get_or lits k 0 = ap (λ xs. get_or xs c.0 0) e ∙ get_or_append_left old more 0 c.0 c.1 ∙ get_or_default old c.0 0 (get_or lits k 0) c.1 ∙ c.2 in
            let at : c.0 ≡ k = apart c.0 k (let z = c.1 in omega (arith, z, le, lt)) lt (ap (λ n. n / 2) here) in
            let z = c.1 in omega (arith, at, z, le)

        same : {m : ℕ} (x y : Bool) → has ((scope_assumed scs ++ assumed) ++ scope_listed scs) m ≡ x → has assumed m ≡ y → ¬ Contains old m → x ≡ y
        same true true f g n = refl
        same false false f g n = refl
        same {m} true false f g n = absurd (elim (Contains-append_cases (scope_assumed scs ++ assumed) (scope_listed scs) m (Contains-from_has ((scope_assumed scs ++ assumed) ++ scope_listed scs) m f)) [
          | inr c ↦ n (All-contains (Contains old) (scope_listed scs) m l c)
          | inl c ↦ elim (Contains-append_cases (scope_assumed scs) assumed m c) [
            | inl b ↦ n (All-contains (Contains old) (scope_assumed scs) m a b)
            | inr b ↦ both_ways (has assumed m) g (has-from_Contains assumed m b)
          ]
        ])
        same {m} false true f g n = absurd (both_ways (has ((scope_assumed scs ++ assumed) ++ scope_listed scs) m) f (has-from_Contains ((scope_assumed scs ++ assumed) ++ scope_listed scs) m (Contains-append_left (scope_assumed scs ++ assumed) (scope_listed scs) m (Contains-append_right (scope_assumed scs) assumed m (Contains-from_has assumed m g)))))

    -- with one scope more, and what it lists
    module _ (assumed : List ℕ) (t : TrailView) (r : AreReached (base_of s) (scope_assumed scs ++ assumed) t (length t.lits)) (ls : List ℕ) (rss : List (List ℕ)) (h : IsListing (problem_of s) (scope_assumed scs ++ assumed) (scope_listed scs) t.lits ls rss) (there : All (Contains t.lits) (scope_listed scs)) where
      abbrev sc : Scope
      sc = record { assumed = assumed; found = listed ls }

      abbrev Counts : ℕ → Type 0
      Counts m = Contains (scope_assumed (scs ++ sc ∷ []) ++ scope_listed (scs ++ sc ∷ [])) m ⊎ IsOfGuard (base_of s) m

      one : (k : ℕ) → k < length t.lits → IsReached (base_of s) (scope_assumed scs ++ assumed) t k → Counts (get_or t.lits k 0)
      one k lt (inl a) = inl (Contains-append_left (scope_assumed (scs ++ sc ∷ [])) (scope_listed (scs ++ sc ∷ [])) (get_or t.lits k 0) (subst (λ xs. Contains xs (get_or t.lits k 0)) (sym (scope_assumed-push scs sc)) a.1))
      one k lt (inr i) = elim (of_full i.clause (get_or t.lits k 0) (subst (λ (cs : List (List ℕ)). Contains cs i.clause) (same_full s) (holds_full s i.key i.clause i.held)) i.forces.stands) [
        | inr g ↦ inr g
        | inl v ↦ inl (moved (All-contains (λ m. IsProblemVar (problem_of s) (m / 2) → Contains ((scope_assumed scs ++ assumed) ++ (scope_listed scs ++ ls)) m) t.lits (get_or t.lits k 0) h.covers (Contains-get_or t.lits k 0 lt) v))
      ]
        where
          moved : Contains ((scope_assumed scs ++ assumed) ++ (scope_listed scs ++ ls)) (get_or t.lits k 0) → Contains (scope_assumed (scs ++ sc ∷ []) ++ scope_listed (scs ++ sc ∷ [])) (get_or t.lits k 0)
          moved c = subst (λ xs. Contains (xs ++ scope_listed (scs ++ sc ∷ [])) (get_or t.lits k 0)) (sym (scope_assumed-push scs sc)) (subst (λ xs. Contains ((scope_assumed scs ++ assumed) ++ xs) (get_or t.lits k 0)) (sym (scope_listed-push scs sc)) c)

      pub covered_more : IsCovered (base_of s) (scs ++ sc ∷ []) t.lits
      covered_more = record {
        known = λ k d lt. subst Counts (get_or_default t.lits k 0 d lt) (one k lt (r.each k lt));
        there = subst (All (Contains t.lits)) (sym (scope_listed-push scs sc)) (All-append (Contains t.lits) (scope_listed scs) ls there h.inside);
      }

-- the levels of a trail, one of them new, where the lower ones are accounted for and the whole is
pub covers_top : (b : StoreView) (scs : List Scope) (sc : Scope) (k : Kept) → length k.trail.level_starts ≡ length (scs ++ sc ∷ []) → ((j : ℕ) → k.unlisted < j → j ≤ length scs → IsCovered b (take j scs) (take (front k.trail j) k.trail.lits)) → (k.unlisted ≤ length scs → IsCovered b (scs ++ sc ∷ []) k.trail.lits) → CoversLevels k (scs ++ sc ∷ []) b
covers_top b scs sc k count lower top = record {
  levels = λ j above le. elim (cases_lt (length scs) j) [
    | inr low ↦ subst (λ (xs : List Scope). IsCovered b xs (take (front k.trail j) k.trail.lits)) (sym (take-append-le j scs (sc ∷ []) low)) (lower j above low)
    | inl high ↦
        let e : front k.trail j ≡ length k.trail.lits = get_or_past k.trail.level_starts j (length k.trail.lits) (omega (arith, count, high, length-append scs (sc ∷ []))) in
        let all : take j (scs ++ sc ∷ []) ≡ scs ++ sc ∷ [] = take_all j (scs ++ sc ∷ []) (omega (arith, high, length-append scs (sc ∷ []))) in
        rw (e, all, take_all (length k.trail.lits) k.trail.lits (omega arith)) (top (omega (arith, above, le, length-append scs (sc ∷ []))))
  ];
}

-- the lower levels are where they were, in a trail with one level more
pub covers_lower : (b : StoreView) (scs : List Scope) (k : Kept) (n : TrailView) → IsTrail n → length k.trail.level_starts ≡ length scs → IsHigher k.trail n → CoversLevels k scs b → (j : ℕ) → k.unlisted < j → j ≤ length scs → IsCovered b (take j scs) (take (front n j) n.lits)
covers_lower b scs k n whole count h c j above le = subst (λ i. IsCovered b (take j scs) (take i n.lits)) (sym fronts) (subst (IsCovered b (take j scs)) (sym same) (c.levels j above le))
  where
    fronts : front n j ≡ front k.trail j
    fronts = ap (λ ms. get_or ms j (length n.lits)) h.level_starts ∙ elim (cases_lt j (length k.trail.level_starts)) [
      | inl lt ↦ get_or_append_left k.trail.level_starts (length k.trail.lits ∷ []) (length n.lits) j lt ∙ get_or_default k.trail.level_starts j (length n.lits) (length k.trail.lits) lt
      | inr high ↦ get_or_push k.trail.level_starts (length k.trail.lits) (length n.lits) j (omega (arith, high, le, count)) ∙ sym (get_or_past k.trail.level_starts j (length k.trail.lits) high)
    ]

    below : front k.trail j ≤ length k.trail.lits
    below = elim (cases_lt j (length k.trail.level_starts)) [
      | inl lt ↦
          let o : get_or n.level_starts j 0 ≤ get_or n.level_starts (length k.trail.level_starts) 0 = whole.levels.ordered j (length k.trail.level_starts) (omega (arith, lt)) (omega (arith, ap length h.level_starts, length-append k.trail.level_starts (length k.trail.lits ∷ []))) in
          let a : get_or n.level_starts j 0 ≡ front k.trail j = ap (λ ms. get_or ms j 0) h.level_starts ∙ get_or_append_left k.trail.level_starts (length k.trail.lits ∷ []) 0 j lt ∙ get_or_default k.trail.level_starts j 0 (length k.trail.lits) lt in
          let e : get_or n.level_starts (length k.trail.level_starts) 0 ≡ length k.trail.lits = ap (λ ms. get_or ms (length k.trail.level_starts) 0) h.level_starts ∙ get_or_push k.trail.level_starts (length k.trail.lits) 0 (length k.trail.level_starts) refl in
          omega (arith, o, a, e)
      | inr high ↦ omega (arith, get_or_past k.trail.level_starts j (length k.trail.lits) high)
    ]

    same : take (front k.trail j) n.lits ≡ take (front k.trail j) k.trail.lits
    same = ap (take (front k.trail j)) h.lits ∙ take-append-le (front k.trail j) k.trail.lits h.more below

-- the whole of a trail that was kept, where each of its levels is accounted for
pub covered_now : (b : StoreView) (scs : List Scope) (k : Kept) → length k.trail.level_starts ≡ length scs → CoversLevels k scs b → k.unlisted < length scs → IsCovered b scs k.trail.lits
covered_now b scs k count c above =
    let e : front k.trail (length scs) ≡ length k.trail.lits = get_or_past k.trail.level_starts (length scs) (length k.trail.lits) (omega (arith, count)) in
    let h : IsCovered b (take (length scs) scs) (take (front k.trail (length scs)) k.trail.lits) = c.levels (length scs) above (omega arith) in
    subst (IsCovered b scs) (ap (λ n. take n k.trail.lits) e ∙ take_all (length k.trail.lits) k.trail.lits (omega arith)) (subst (λ (xs : List Scope). IsCovered b xs (take (front k.trail (length scs)) k.trail.lits)) (take_all (length scs) scs (omega arith)) h)

pub place_contains : (all : List ℕ) (l place : ℕ) → IsPlaceOf all l place → Contains all l
place_contains all l place h = (place, h.below, get_or_default all place l 0 h.below ∙ h.is)

-- what scopes list is true, scope by scope
pub there_none : (lits : List ℕ) → All (Contains lits) (scope_listed [])
unfolding scope_listed
there_none lits = All-nil (Contains lits)

pub there_more : (lits : List ℕ) (scs : List Scope) (i : ℕ) (sc : Scope) → i < length scs → sc ≡ get_or scs i sc → All (Contains lits) (scope_listed (take i scs)) → All (Contains lits) (listed_in sc.found) → All (Contains lits) (scope_listed (take (i + 1) scs))
there_more lits scs i sc lt item a b = subst (All (Contains lits)) (sym (scope_listed-more scs i sc lt item)) (All-append (Contains lits) (scope_listed (take i scs)) (listed_in sc.found) a b)

-- one level more on a trail that stayed
pub rises_of : (kept : Option Kept) (a n : Kept) → Stays kept (Closed a) → n.trail.level_starts ≡ a.trail.level_starts ++ length a.trail.lits ∷ [] → (more : List ℕ) → n.trail.lits ≡ a.trail.lits ++ more → Rises kept (Closed n)
rises_of None a n h m more l = tt
rises_of (Some old) a n h m more l = record {
  level_starts = m ∙ ap (λ ms. ms ++ length a.trail.lits ∷ []) h.1 ∙ ap (λ (xs : List ℕ). old.trail.level_starts ++ length xs ∷ []) h.0;
  more = more;
  lits = l ∙ ap (λ xs. xs ++ more) h.0;
}

pub rises_stuck : (kept : Option Kept) (k : Kept) (c : Clash) → Rises kept (Stuck k c)
rises_stuck None k c = tt
rises_stuck (Some old) k c = tt

-- a trail that rose begins with the literals that were kept
pub rises_longer : (kept : Option Kept) (k : Kept) → Rises kept (Closed k) → (more : List ℕ) × (k.trail.lits ≡ kept_lits kept ++ more)
rises_longer None k h = (k.trail.lits, refl)
rises_longer (Some old) k h = (h.more, h.lits)
