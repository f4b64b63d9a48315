-- Clauses that go: what is left, and that no key that stays changes its clause.
use Rattle.std.proofs.Common.{◌≡◌, ℕ, ◌+◌, ◌/◌, ◌==◌, ◌||◌, nat_eq, Bool, true, false, not, cond, Option, List, [], ◌∷◌, ◌++◌, length, take, drop, map, reverse, refl, sym, ap, ◌∙◌, subst, arith, ◌⊎◌, inl, inr}
use Rattle.std.specs.List.{Contains, filter}
use Rattle.std.specs.Option.{unwrap_or}
use Rattle.std.proofs.lemmas.Bool.{eqb-true, eq-eqb, ne_eqb, cases_eq, false_from_ne_true, both_ways, not-true}
use Rattle.std.proofs.lemmas.List.{map-append, drop-map, reverse-append, take-append-drop, length-map}
use Rattle.std.proofs.lemmas.List.Folds.{Any-from_list_any, list_any-append}
use Rattle.std.proofs.lemmas.List.Elements.{All-contains, Contains-append_left, Contains-append_right, Contains-append_cases, Contains-push}
use Rattle.slab.specs.Slab.{Slab, get}
use Rattle.slab.proofs.SlabLemmas.{Contains-cons_cases}
use Rattle.gi_lit.specs.Lists.{IsDistinct}
use Rattle.gi_lit.specs.Problem.{Problem, has, negatives, IsProblemVar, IsPlain, names, without}
use Rattle.gi_lit.proofs.Vars.{var_facts}
use Rattle.gi_lit.proofs.Distinct.{IsDistinct-append_left, IsDistinct-apart}
use Rattle.gi_store.specs.StoreView.{Entry, GroupEntry, StoreView, full_entry, entries, keys_of, IsLive, Keeps, without_guard_of, trimmed, with_plain, with_under, with_learnt}
use Rattle.gi_store.specs.declared.group_key.GroupKey.{GroupKey}
use Rattle.gi_store.specs.Stored.{clause_at, entry_at, keys_in, guard_part, group_at, is_under, held_of, IsStored}
use Rattle.gi_store.proofs.Lists.{filter_alike, filter_of_map, Contains-filter, Contains-map, Contains-unmap, Contains-drop, Contains-take, IsDistinct-append_right, IsDistinct-join, IsDistinct-filter, IsDistinct-drop}
use Rattle.gi_store.proofs.Views.{vars_of_negatives, held_same, stored_same}
use Rattle.gi_store.proofs.Forgetting.{keeps, spares, IsOther, same_group}

abbrev key_at : GroupKey → ℕ
key_at g = g.key

-- the keys of the groups that stay
keys_fewer : (p : GroupKey → Bool) (q : List GroupKey) (k : ℕ) → Contains (keys_in (filter p q)) k → Contains (keys_in q) k
keys_fewer p q k c = let u = Contains-unmap key_at (filter p q) k c in let f = Contains-filter p q u.0 u.1 in subst (Contains (keys_in q)) u.2 (Contains-map key_at q u.0 f.0)

distinct_fewer : (p : GroupKey → Bool) (q : List GroupKey) → IsDistinct (keys_in q) → IsDistinct (keys_in (filter p q))
distinct_fewer p [] d = d
distinct_fewer p (g ∷ q) d = go (p g) (distinct_fewer p q d.1)
  where
    go : (b : Bool) → IsDistinct (keys_in (filter p q)) → IsDistinct (keys_in (cond b (g ∷ filter p q) (filter p q)))
    go true r = (λ c. d.0 (keys_fewer p q g.key c), r)
    go false r = r

-- the keys of a part of the lists
fewer : (s : Slab (List ℕ)) (p : List ℕ) (q : List GroupKey) (l : List ℕ) (qs : List GroupKey) (ls : List ℕ) → IsStored s p q l → IsDistinct (keys_in qs) → IsDistinct ls
    → ((g : GroupKey) → Contains qs g → Contains q g) → ((k : ℕ) → Contains ls k → Contains l k) → IsStored s p qs ls
fewer s p q l qs ls h dq dl in_q in_l = record {
  keys = record {
    live = λ k c. h.keys.live k (all k c);
    distinct = IsDistinct-join p (keys_in qs ++ ls) (IsDistinct-append_left p (keys_in q ++ l) h.keys.distinct)
        (IsDistinct-join (keys_in qs) ls dq dl (λ k a b. IsDistinct-apart (keys_in q) l k rest (key_in_q k a) (in_l k b)))
        (λ k a b. IsDistinct-apart p (keys_in q ++ l) k h.keys.distinct a (part k b));
  };
  ends = λ g c. h.ends g (in_q g c);
}
  where
    rest : IsDistinct (keys_in q ++ l)
    rest = IsDistinct-append_right p (keys_in q ++ l) h.keys.distinct

    key_in_q : (k : ℕ) → Contains (keys_in qs) k → Contains (keys_in q) k
    key_in_q k c = let u = Contains-unmap key_at qs k c in subst (Contains (keys_in q)) u.2 (Contains-map key_at q u.0 (in_q u.0 u.1))

    part : (k : ℕ) → Contains (keys_in qs ++ ls) k → Contains (keys_in q ++ l) k
    part k c = elim (Contains-append_cases (keys_in qs) ls k c) [ inl a ↦ Contains-append_left (keys_in q) l k (key_in_q k a) | inr b ↦ Contains-append_right (keys_in q) l k (in_l k b) ]

    all : (k : ℕ) → Contains (p ++ (keys_in qs ++ ls)) k → Contains (p ++ (keys_in q ++ l)) k
    all k c = elim (Contains-append_cases p (keys_in qs ++ ls) k c) [ inl a ↦ Contains-append_left p (keys_in q ++ l) k a | inr b ↦ Contains-append_right p (keys_in q ++ l) k (part k b) ]

-- a clause of problem variables doesn't name an active guard
pub names_none : (p : Problem) (c : List ℕ) (g : ℕ) → IsPlain p c → Contains p.active g → names g c ≡ false
names_none p c g plain act = false_from_ne_true (names g c) (λ e.
    let a = Any-from_list_any (λ l. l / 2 == g) c e in
    let m : Contains c a.1 = (a.0, a.2, a.3) in
    let v : IsProblemVar p (a.1 / 2) = All-contains (λ l. IsProblemVar p (l / 2)) c a.1 plain m in
    let q : a.1 / 2 ≡ g = eqb-true (a.1 / 2) g a.4 in
    (var_facts p (a.1 / 2) v).inactive (subst (Contains p.active) (sym q) act))

same_test : (x g : ℕ) → (x == g) ≡ nat_eq g x
same_test x g = go (cases_eq x g)
  where
    go : (x ≡ g) ⊎ (x ≡ g → ⊥) → (x == g) ≡ nat_eq g x
    go (inl e) = eq-eqb x g e ∙ sym (eq-eqb g x (sym e))
    go (inr n) = ne_eqb x g n ∙ sym (ne_eqb g x (λ e. n (sym e)))

-- the variables of literals are named exactly where they stand in the list of the variables
names_halves : (g : ℕ) (c : List ℕ) → names g c ≡ has (map (λ l. l / 2) c) g
names_halves g [] = refl
names_halves g (l ∷ c) = ap (λ b. b || names g c) (same_test (l / 2) g) ∙ ap (λ b. nat_eq g (l / 2) || b) (names_halves g c)

-- a group's clause names its guards alone among the active ones
pub names_group : (p : Problem) (gs : List ℕ) (g : ℕ) (c : List ℕ) → IsPlain p c → Contains p.active g → names g (c ++ negatives gs) ≡ has gs g
names_group p gs g c plain act =
    list_any-append (λ l. l / 2 == g) c (negatives gs)
    ∙ ap (λ b. b || names g (negatives gs)) (names_none p c g plain act)
    ∙ nothing_or (names g (negatives gs)) ∙ names_halves g (negatives gs) ∙ ap (λ (xs : List ℕ). has xs g) (vars_of_negatives gs)
  where
    nothing_or : (b : Bool) → (false || b) ≡ b
    nothing_or true = refl
    nothing_or false = refl

module _ (s m t : Slab (List ℕ)) (p : List ℕ) (q : List GroupKey) (l : List ℕ) (g : ℕ) (h : IsStored s p q l)
    (first : (k : ℕ) → IsOther g s q k → get m k ≡ get s k)
    (second : (k : ℕ) → ¬ (Contains l k × (names g (clause_at m k) ≡ true)) → get t k ≡ get m k) where
  rest_apart : IsDistinct (keys_in q ++ l)
  rest_apart = IsDistinct-append_right p (keys_in q ++ l) h.keys.distinct

  groups_apart : IsDistinct (keys_in q)
  groups_apart = IsDistinct-append_left (keys_in q) l rest_apart

  key_there : (u : GroupKey) (k : ℕ) → Contains q u → u.key ≡ k → Contains (keys_in q) k
  key_there u k c e = subst (Contains (keys_in q)) e (Contains-map key_at q u c)

  in_l : (k : ℕ) → Contains l k → get m k ≡ get s k
  in_l k c = first k (λ u a e n. IsDistinct-apart (keys_in q) l k rest_apart (key_there u k a e) c)

  same_keeps : (k : ℕ) → Contains l k → keeps g m k ≡ keeps g s k
  same_keeps k c = ap (λ (o : Option (List ℕ)). not (names g (unwrap_or o []))) (in_l k c)

  pub learnt_left : filter (keeps g m) l ≡ filter (keeps g s) l
  learnt_left = filter_alike (keeps g m) (keeps g s) l same_keeps

  -- so it is after the first part, too
  pub left_first : (k : ℕ) → Contains (keys_in (filter (spares g s) q)) k → get m k ≡ get s k
  left_first k c =
      let u = Contains-unmap key_at (filter (spares g s) q) k c in
      let f = Contains-filter (spares g s) q u.0 u.1 in
      first k (λ w a e n. both_ways (is_under g s u.0) (not-true _ f.1) (ap (is_under g s) (same_group q groups_apart u.0 w f.0 a (u.2 ∙ sym e)) ∙ n))

  pub left : (k : ℕ) → Contains (p ++ (keys_in (filter (spares g s) q) ++ filter (keeps g s) l)) k → get t k ≡ get s k
  left k c = elim (Contains-append_cases p (keys_in (filter (spares g s) q) ++ filter (keeps g s) l) k c) [
    | inl a ↦ second k (λ x. IsDistinct-apart p (keys_in q ++ l) k h.keys.distinct a (Contains-append_right (keys_in q) l k x.0))
        ∙ first k (λ u b e n. IsDistinct-apart p (keys_in q ++ l) k h.keys.distinct a (Contains-append_left (keys_in q) l k (key_there u k b e)))
    | inr r ↦ elim (Contains-append_cases (keys_in (filter (spares g s) q)) (filter (keeps g s) l) k r) [
      | inl a ↦ second k (λ x. IsDistinct-apart (keys_in q) l k rest_apart (keys_fewer (spares g s) q k a) x.0) ∙ left_first k a
      | inr b ↦ let f = Contains-filter (keeps g s) l k b in second k (λ x. both_ways (names g (clause_at m k)) (not-true _ (same_keeps k f.0 ∙ f.1)) x.1) ∙ in_l k f.0
    ]
  ]

  was : IsStored s p (filter (spares g s) q) (filter (keeps g s) l)
  was = fewer s p q l (filter (spares g s) q) (filter (keeps g s) l) h
      (distinct_fewer (spares g s) q groups_apart) (IsDistinct-filter (keeps g s) l (IsDistinct-append_right (keys_in q) l rest_apart))
      (λ u c. let f = Contains-filter (spares g s) q u c in f.0) (λ k c. let f = Contains-filter (keeps g s) l k c in f.0)

  pub stored_without : IsStored t p (filter (spares g s) q) (filter (keeps g m) l)
  stored_without = rw learnt_left (stored_same s t p (filter (spares g s) q) (filter (keeps g s) l) left was)

  abbrev remade : ℕ → List ℕ → List ℕ → List GroupEntry → List Entry → StoreView
  remade n a f x y = record { vars = n; plain = map (entry_at s) p; groups = x; active = a; freed = f; learnt = y }

  pub groups_left : map (group_at s) (filter (spares g s) q) ≡ filter (λ (u : GroupEntry). not (has u.guards g)) (map (group_at s) q)
  groups_left = ap (map (group_at s)) (filter_alike (spares g s) (λ u. not (has (group_at s u).guards g)) q (λ u c. ap not (names_halves g (guard_part u.guards (clause_at s u.key)))))
      ∙ sym (filter_of_map (group_at s) (λ (u : GroupEntry). not (has u.guards g)) q)

  pub held_without : (n : ℕ) (a f : List ℕ) → held_of n t p (filter (spares g s) q) (filter (keeps g m) l) (without g a) (f ++ g ∷ []) ≡ without_guard_of g (held_of n s p q l a f)
  held_without n a f =
      ap (λ (ks : List ℕ). held_of n t p (filter (spares g s) q) ks (without g a) (f ++ g ∷ [])) learnt_left
      ∙ held_same s t p (filter (spares g s) q) (filter (keeps g s) l) left n (without g a) (f ++ g ∷ [])
      ∙ ap (λ x. remade n (without g a) x (map (group_at s) (filter (spares g s) q)) (map (entry_at s) (filter (keeps g s) l))) (reverse-append f (g ∷ []))
      ∙ ap (λ x. remade n (without g a) (g ∷ reverse f) x (map (entry_at s) (filter (keeps g s) l))) groups_left
      ∙ ap (λ x. remade n (without g a) (g ∷ reverse f) (filter (λ (u : GroupEntry). not (has u.guards g)) (map (group_at s) q)) x) (sym (filter_of_map (entry_at s) (λ (e : Entry). not (names g e.lits)) l))

-- the first learnt clauses go
module _ (s t : Slab (List ℕ)) (p : List ℕ) (q : List GroupKey) (l : List ℕ) (n : ℕ) (h : IsStored s p q l) (others : (k : ℕ) → ¬ Contains (take n l) k → get t k ≡ get s k) where
  tail_apart : IsDistinct (keys_in q ++ l)
  tail_apart = IsDistinct-append_right p (keys_in q ++ l) h.keys.distinct

  halves : IsDistinct (take n l ++ drop n l)
  halves = subst IsDistinct (sym (take-append-drop n l)) (IsDistinct-append_right (keys_in q) l tail_apart)

  stays : (k : ℕ) → Contains (p ++ (keys_in q ++ drop n l)) k → get t k ≡ get s k
  stays k c = elim (Contains-append_cases p (keys_in q ++ drop n l) k c) [
    | inl a ↦ others k (λ x. IsDistinct-apart p (keys_in q ++ l) k h.keys.distinct a (Contains-append_right (keys_in q) l k (Contains-take n l k x)))
    | inr r ↦ elim (Contains-append_cases (keys_in q) (drop n l) k r) [
      | inl a ↦ others k (λ x. IsDistinct-apart (keys_in q) l k tail_apart a (Contains-take n l k x))
      | inr b ↦ others k (λ x. IsDistinct-apart (take n l) (drop n l) k halves x b)
    ]
  ]

  pub stored_trimmed : IsStored t p q (drop n l)
  stored_trimmed = stored_same s t p q (drop n l) stays (fewer s p q l q (drop n l) h (IsDistinct-append_left (keys_in q) l tail_apart) (IsDistinct-drop n l (IsDistinct-append_right (keys_in q) l tail_apart)) (λ k c. c) (λ k c. Contains-drop n l k c))

  pub held_trimmed : (vars : ℕ) (a f : List ℕ) → n ≡ length l / 2 → held_of vars t p q (drop n l) a f ≡ trimmed (held_of vars s p q l a f)
  held_trimmed vars a f e = held_same s t p q (drop n l) stays vars a f ∙ ap (λ (x : List Entry). make x) (sym (drop-map (entry_at s) n l) ∙ ap (λ i. drop i (map (entry_at s) l)) (e ∙ ap (λ i. i / 2) (sym (length-map l (entry_at s)))))
    where
      make : List Entry → StoreView
      make x = record { vars = vars; plain = map (entry_at s) p; groups = map (group_at s) q; active = a; freed = reverse f; learnt = x }

-- under distinct keys a key has one clause
pub one_clause : (es : List Entry) → IsDistinct (map (λ (e : Entry). e.key) es) → (k : ℕ) (c d : List ℕ) → Contains es (record { key = k; lits = c }) → Contains es (record { key = k; lits = d }) → c ≡ d
one_clause [] u k c d x y = absurd (let b = x.1 in omega arith)
one_clause (e ∷ es) u k c d x y = go (Contains-cons_cases e (record { key = k; lits = c }) es x) (Contains-cons_cases e (record { key = k; lits = d }) es y) (one_clause es u.1 k c d)
  where
    go : (e ≡ record { key = k; lits = c }) ⊎ Contains es (record { key = k; lits = c }) → (e ≡ record { key = k; lits = d }) ⊎ Contains es (record { key = k; lits = d }) → (Contains es (record { key = k; lits = c }) → Contains es (record { key = k; lits = d }) → c ≡ d) → c ≡ d
    go (inl a) (inl b) rest = ap (λ (z : Entry). z.lits) (sym a ∙ b)
    go (inl a) (inr b) rest = absurd (u.0 (subst (Contains (map (λ (z : Entry). z.key) es)) (sym (ap (λ (z : Entry). z.key) a)) (Contains-map (λ (z : Entry). z.key) es (record { key = k; lits = d }) b)))
    go (inr a) (inl b) rest = absurd (u.0 (subst (Contains (map (λ (z : Entry). z.key) es)) (sym (ap (λ (z : Entry). z.key) b)) (Contains-map (λ (z : Entry). z.key) es (record { key = k; lits = c }) a)))
    go (inr a) (inr b) rest = rest a b

pub keeps_fewer : (old new : StoreView) → IsDistinct (keys_of old) → ((e : Entry) → Contains (entries new) e → Contains (entries old) e) → Keeps old new
keeps_fewer old new u part = record {
  each = λ k c holds live.
      let q = Contains-unmap (λ (e : Entry). e.key) (entries new) k live in
      let was : Contains (entries old) (record { key = k; lits = q.0.lits }) = subst (λ i. Contains (entries old) (let z : Entry = record { key = i; lits = q.0.lits } in z)) q.2 (part q.0 q.1) in
      let e : q.0.lits ≡ c = one_clause (entries old) u k q.0.lits c was holds in
      subst (λ d. Contains (entries new) (let z : Entry = record { key = k; lits = d } in z)) e (subst (λ i. Contains (entries new) (let z : Entry = record { key = i; lits = q.0.lits } in z)) q.2 q.1);
}

pub keeps_more : (old new : StoreView) → ((e : Entry) → Contains (entries old) e → Contains (entries new) e) → Keeps old new
keeps_more old new more = record { each = λ k c holds live. more _ holds }

pub keeps_without : (g : ℕ) (h : StoreView) → IsDistinct (keys_of h) → Keeps h (without_guard_of g h)
keeps_without g h u = keeps_fewer h (without_guard_of g h) u (λ e c. elim (Contains-append_cases h.plain _ e c) [
  | inl a ↦ Contains-append_left h.plain (map full_entry h.groups ++ h.learnt) e a
  | inr r ↦ Contains-append_right h.plain (map full_entry h.groups ++ h.learnt) e (elim (Contains-append_cases (map full_entry (without_guard_of g h).groups) (without_guard_of g h).learnt e r) [
    | inl a ↦ let q = Contains-unmap full_entry (without_guard_of g h).groups e a in Contains-append_left (map full_entry h.groups) h.learnt e (subst (Contains (map full_entry h.groups)) q.2 (Contains-map full_entry h.groups q.0 (let f = Contains-filter (λ (u : GroupEntry). not (has u.guards g)) h.groups q.0 q.1 in f.0)))
    | inr b ↦ let f = Contains-filter (λ (e : Entry). not (names g e.lits)) h.learnt e b in Contains-append_right (map full_entry h.groups) h.learnt e f.0
  ])
])

pub keeps_trimmed : (h : StoreView) → IsDistinct (keys_of h) → Keeps h (trimmed h)
keeps_trimmed h u = keeps_fewer h (trimmed h) u (λ e c. elim (Contains-append_cases h.plain (map full_entry h.groups ++ drop (length h.learnt / 2) h.learnt) e c) [
  | inl a ↦ Contains-append_left h.plain (map full_entry h.groups ++ h.learnt) e a
  | inr r ↦ Contains-append_right h.plain (map full_entry h.groups ++ h.learnt) e (elim (Contains-append_cases (map full_entry h.groups) (drop (length h.learnt / 2) h.learnt) e r) [
    | inl a ↦ Contains-append_left (map full_entry h.groups) h.learnt e a
    | inr b ↦ Contains-append_right (map full_entry h.groups) h.learnt e (Contains-drop (length h.learnt / 2) h.learnt e b)
  ])
])

pub keeps_plain : (k : ℕ) (c : List ℕ) (h : StoreView) → Keeps h (with_plain k c h)
keeps_plain k c h = keeps_more h (with_plain k c h) (λ e m. elim (Contains-append_cases h.plain (map full_entry h.groups ++ h.learnt) e m) [
  | inl a ↦ Contains-append_left (h.plain ++ record { key = k; lits = c } ∷ []) (map full_entry h.groups ++ h.learnt) e (Contains-append_left h.plain (record { key = k; lits = c } ∷ []) e a)
  | inr r ↦ Contains-append_right (h.plain ++ record { key = k; lits = c } ∷ []) (map full_entry h.groups ++ h.learnt) e r
])

pub keeps_learnt : (k : ℕ) (c : List ℕ) (h : StoreView) → Keeps h (with_learnt k c h)
keeps_learnt k c h = keeps_more h (with_learnt k c h) (λ e m. elim (Contains-append_cases h.plain (map full_entry h.groups ++ h.learnt) e m) [
  | inl a ↦ Contains-append_left h.plain (map full_entry h.groups ++ (h.learnt ++ record { key = k; lits = c } ∷ [])) e a
  | inr r ↦ Contains-append_right h.plain (map full_entry h.groups ++ (h.learnt ++ record { key = k; lits = c } ∷ [])) e (elim (Contains-append_cases (map full_entry h.groups) h.learnt e r) [
    | inl a ↦ Contains-append_left (map full_entry h.groups) (h.learnt ++ record { key = k; lits = c } ∷ []) e a
    | inr b ↦ Contains-append_right (map full_entry h.groups) (h.learnt ++ record { key = k; lits = c } ∷ []) e (Contains-append_left h.learnt (record { key = k; lits = c } ∷ []) e b)
  ])
])

pub keeps_under : (k : ℕ) (gs c : List ℕ) (h : StoreView) → Keeps h (with_under k gs c h)
keeps_under k gs c h = keeps_more h (with_under k gs c h) (λ e m. elim (Contains-append_cases h.plain (map full_entry h.groups ++ h.learnt) e m) [
  | inl a ↦ Contains-append_left h.plain (map full_entry (h.groups ++ record { key = k; guards = gs; clause = c } ∷ []) ++ h.learnt) e a
  | inr r ↦ Contains-append_right h.plain (map full_entry (h.groups ++ record { key = k; guards = gs; clause = c } ∷ []) ++ h.learnt) e (elim (Contains-append_cases (map full_entry h.groups) h.learnt e r) [
    | inl a ↦ Contains-append_left (map full_entry (h.groups ++ record { key = k; guards = gs; clause = c } ∷ [])) h.learnt e (subst (λ xs. Contains xs e) (sym (map-append full_entry h.groups (record { key = k; guards = gs; clause = c } ∷ []))) (Contains-append_left (map full_entry h.groups) (map full_entry (record { key = k; guards = gs; clause = c } ∷ [])) e a))
    | inr b ↦ Contains-append_right (map full_entry (h.groups ++ record { key = k; guards = gs; clause = c } ∷ [])) h.learnt e b
  ])
])

-- the key of the clause that was added is in use
abbrev key_in : Entry → ℕ
key_in e = e.key

pub live_plain : (k : ℕ) (c : List ℕ) (h : StoreView) → IsLive (with_plain k c h) k
live_plain k c h = let e : Entry = record { key = k; lits = c } in
    Contains-map key_in (entries (with_plain k c h)) e (Contains-append_left (h.plain ++ e ∷ []) (map full_entry h.groups ++ h.learnt) e (Contains-push h.plain e))

pub live_learnt : (k : ℕ) (c : List ℕ) (h : StoreView) → IsLive (with_learnt k c h) k
live_learnt k c h = let e : Entry = record { key = k; lits = c } in
    Contains-map key_in (entries (with_learnt k c h)) e (Contains-append_right h.plain (map full_entry h.groups ++ (h.learnt ++ e ∷ [])) e (Contains-append_right (map full_entry h.groups) (h.learnt ++ e ∷ []) e (Contains-push h.learnt e)))

pub live_under : (k : ℕ) (gs c : List ℕ) (h : StoreView) → IsLive (with_under k gs c h) k
live_under k gs c h = let q : GroupEntry = record { key = k; guards = gs; clause = c } in
    Contains-map key_in (entries (with_under k gs c h)) (full_entry q) (Contains-append_right h.plain (map full_entry (h.groups ++ q ∷ []) ++ h.learnt) (full_entry q)
    (Contains-append_left (map full_entry (h.groups ++ q ∷ [])) h.learnt (full_entry q) (Contains-map full_entry (h.groups ++ q ∷ []) q (Contains-push h.groups q))))
