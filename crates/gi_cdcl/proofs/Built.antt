-- Building the clause of the marked places.
use Rattle.std.proofs.Common.{◌≡◌, ℕ, ◌-◌, ◌/◌, ◌<◌, ◌≤◌, Bool, true, false, Option, Some, None, List, [], ◌∷◌, ◌++◌, length, get_or, refl, sym, ap, ◌∙◌, subst, arith, inl, inr}
use Rattle.std.specs.List.{Contains}
use Rattle.std.proofs.lemmas.Bool.{cases_lt, cases_eq, cases_Bool, false≢true}
use Rattle.std.proofs.lemmas.List.Elements.{Contains-append_left, Contains-push, Contains-push_cases}
use Rattle.gi_lit.specs.Literals.{opposite}
use Rattle.gi_lit.proofs.Literals.{opposite-injective}
use Rattle.gi_store.specs.StoreView.{StoreView}
use Rattle.gi_prop.specs.TrailView.{TrailView, IsLevelAt, IsTrail}
use Rattle.gi_cdcl.specs.Uip.{IsUip, IsJump}
use Rattle.gi_cdcl.specs.Marks.{IsCut, IsBuilt, IsLast, IsLastOf, IsLastIn, IsAmong, IsBuiltOf}
use Rattle.gi_cdcl.specs.Touched.{AreMarked}
use Rattle.gi_cdcl.proofs.Lists.{Contains-nil}

pub built_top : (lits touched : List ℕ) (top n : ℕ) → IsBuiltOf lits [] top n (opposite (get_or lits top 0) ∷ []) None
built_top lits touched top n = record {
  stands = (0, omega arith, refl);
  all = λ k c lt. absurd (Contains-nil k c);
  only = λ m c. elim (Contains-push_cases [] (opposite (get_or lits top 0)) m c) [ inl none ↦ absurd (Contains-nil m none) | inr e ↦ inl (sym e) ];
  last_is = λ k c. absurd (Contains-nil k c);
}

module _ (lits front : List ℕ) (x top n : ℕ) (clause : List ℕ) (last : Option ℕ) (h : IsBuiltOf lits front top n clause last) where
  among_more : (m : ℕ) → IsAmong lits front n m → IsAmong lits (front ++ x ∷ []) n m
  among_more m k = record { place = k.place; inside = Contains-append_left front (x ∷ []) k.place k.inside; before = k.before; is = k.is }

  pub built_skip : n ≤ x → IsBuiltOf lits (front ++ x ∷ []) top n clause last
  built_skip high = record {
    stands = h.stands;
    all = λ k c lt. elim (Contains-push_cases front x k c) [ inl old ↦ h.all k old lt | inr e ↦ absurd (omega (arith, e, high, lt)) ];
    only = λ m c. elim (h.only m c) [ inl e ↦ inl e | inr k ↦ inr (among_more m k) ];
    last_is = go last h.last_is;
  }
    where
      go : (o : Option ℕ) → IsLastIn front n o → IsLastIn (front ++ x ∷ []) n o
      go None q = λ k c. elim (Contains-push_cases front x k c) [ inl old ↦ q k old | inr e ↦ omega (arith, e, high) ]
      go (Some p) q = (q.0, Contains-append_left front (x ∷ []) p q.1, λ k c lt. elim (Contains-push_cases front x k c) [ inl old ↦ q.2 k old lt | inr e ↦ absurd (omega (arith, e, high, lt)) ])

  pub built_push : x < n → (l : ℕ) → IsLastOf last x l → IsBuiltOf lits (front ++ x ∷ []) top n (clause ++ opposite (get_or lits x 0) ∷ []) (Some l)
  built_push low l g = record {
    stands = Contains-append_left clause _ _ h.stands;
    all = λ k c lt. elim (Contains-push_cases front x k c) [ inl old ↦ Contains-append_left clause _ _ (h.all k old lt) | inr e ↦ subst (λ (y : ℕ). Contains (clause ++ opposite (get_or lits x 0) ∷ []) (opposite (get_or lits y 0))) e (Contains-push clause _) ];
    only = λ m c. elim (Contains-push_cases clause (opposite (get_or lits x 0)) m c) [
      | inl old ↦ elim (h.only m old) [ inl e ↦ inl e | inr k ↦ inr (among_more m k) ]
      | inr new ↦ inr (record { place = x; inside = Contains-push front x; before = low; is = sym new })
    ];
    last_is = go last h.last_is g;
  }
    where
      go : (o : Option ℕ) → IsLastIn front n o → IsLastOf o x l → IsLastIn (front ++ x ∷ []) n (Some l)
      go None q e = (
        omega (arith, e, low),
        subst (Contains (front ++ x ∷ [])) (sym e) (Contains-push front x),
        λ k c lt. elim (Contains-push_cases front x k c) [ inl old ↦ absurd (let b = q k old in omega (arith, b, lt)) | inr same ↦ omega (arith, same, e) ],
      )
      go (Some p) q e = (
        elim e.2 [ inl a ↦ let b = q.0 in omega (arith, a, b) | inr a ↦ omega (arith, a, low) ],
        elim e.2 [ inl a ↦ subst (Contains (front ++ x ∷ [])) (sym a) (Contains-append_left front (x ∷ []) p q.1) | inr a ↦ subst (Contains (front ++ x ∷ [])) (sym a) (Contains-push front x) ],
        λ k c lt. elim (Contains-push_cases front x k c) [ inl old ↦ let b = q.2 k old lt in let a = e.0 in omega (arith, a, b) | inr same ↦ let a = e.1 in omega (arith, same, a) ],
      )

-- the touched places are the marked ones
pub built_marked : (lits : List ℕ) (seen : List Bool) (touched : List ℕ) (top n : ℕ) (clause : List ℕ) (last : Option ℕ) → AreMarked seen touched → IsBuiltOf lits touched top n clause last → IsBuilt lits seen top n clause last
built_marked lits seen touched top n clause last a b = record {
  stands = b.stands;
  all = λ k lt e. b.all k (a.all k e) lt;
  only = λ m c. elim (b.only m c) [ inl e ↦ inl e | inr k ↦ inr (record { place = k.place; before = k.before; flag = a.only k.place k.inside; is = k.is }) ];
  last_is = go last b.last_is;
}
  where
    go : (o : Option ℕ) → IsLastIn touched n o → IsLast seen n o
    go None q = λ k lt. elim (cases_Bool (get_or seen k false)) [ inl up ↦ absurd (let b = q k (a.all k up) in omega (arith, b, lt)) | inr down ↦ down ]
    go (Some p) q = (q.0, a.only p q.1, λ k pk lt. elim (cases_Bool (get_or seen k false)) [ inl up ↦ absurd (let b = q.2 k (a.all k up) lt in omega (arith, b, pk)) | inr down ↦ down ])

module _ (h : StoreView) (t : TrailView) (tr : IsTrail t) (conflict : List ℕ) (start : ℕ) (seen : List Bool) (top : ℕ) (clause : List ℕ) (last : Option ℕ) (c : IsCut h t conflict start seen top) (b : IsBuilt t.lits seen top start clause last) where
  start_low : start < length t.lits
  start_low = let l = c.low in let g = c.high in omega arith

  -- the clause has the literals of the one that was resolved
  same_clause : (m : ℕ) → Contains clause m → Contains c.resolved m
  same_clause m k = elim (b.only m k) [
    | inl e ↦ (c.is m).1 (record { place = top; before = omega arith; flag = c.flag; is = e })
    | inr q ↦ (c.is m).1 (record { place = q.place; before = let l = c.low in let y = q.before in omega arith; flag = q.flag; is = q.is })
  ]

  same_resolved : (m : ℕ) → Contains c.resolved m → Contains clause m
  same_resolved m k = let q = (c.is m).0 k in elim (cases_lt q.place start) [
    | inl low ↦ subst (Contains clause) (sym q.is) (b.all q.place low q.flag)
    | inr ge ↦ elim (cases_eq q.place top) [
      | inl same ↦ subst (Contains clause) (sym (q.is ∙ ap (λ n. opposite (get_or t.lits n 0)) same)) b.stands
      | inr other ↦ absurd (false≢true (sym (c.alone q.place ge (let y = q.before in omega arith)) ∙ q.flag))
    ]
  ]

  place_is : (p k : ℕ) → p < length t.lits → k < length t.lits → opposite (get_or t.lits k 0) ≡ opposite (get_or t.lits p 0) → k ≡ p
  place_is p k pl kl e = tr.apart k p kl pl (ap (λ n. n / 2) (opposite-injective _ _ e))

  pub built_uip : IsUip h t conflict start clause
  built_uip = record {
    top = top;
    low = c.low;
    high = c.high;
    resolved = c.resolved;
    comes = c.comes;
    stands = same_clause _ b.stands;
    alone = λ hh.
        let q = (c.is _).0 hh.stands in
        let pl : hh.place < length t.lits = let g = c.high in let y = hh.high in omega arith in
        let kl : q.place < length t.lits = let g = c.high in let y = q.before in omega arith in
        let e : hh.place ≡ q.place = place_is q.place hh.place kl pl q.is in
        false≢true (sym (c.alone hh.place hh.low hh.high) ∙ (ap (λ i. get_or seen i false) e ∙ q.flag));
    same = λ m. (same_clause m, same_resolved m);
  }

  -- a literal of the clause that was false before the last level is at a marked place
  low_marked : (k : ℕ) → k < start → Contains clause (opposite (get_or t.lits k 0)) → get_or seen k false ≡ true
  low_marked k lt i =
      let kl : k < length t.lits = let s = start_low in omega arith in
      elim (b.only _ i) [
        | inl e ↦ absurd (let same : k ≡ top = place_is top k c.high kl e in let l = c.low in omega arith)
        | inr q ↦
            let ql : q.place < length t.lits = let s = start_low in let y = q.before in omega arith in
            let same : k ≡ q.place = place_is q.place k ql kl q.is in
            ap (λ i. get_or seen i false) same ∙ q.flag
      ]

  -- with no such literal the search goes back to level 0
  pub built_bottom : last ≡ None → 0 < length t.level_starts → IsJump t clause start 0
  built_bottom e deep =
      let l : IsLast seen start None = subst (IsLast seen start) e b.last_is in
      record {
        below = deep;
        other = λ high. absurd (omega arith);
        rest = λ k lt i. absurd (false≢true (sym (l k lt) ∙ low_marked k lt i));
      }

  -- else to the level of the last of them
  pub built_jump : (p level : ℕ) → last ≡ Some p → 0 < length t.level_starts → start ≡ get_or t.level_starts (length t.level_starts - 1) 0 → IsLevelAt t.level_starts p level → IsJump t clause start level
  built_jump p level e deep start_is at =
      let l : IsLast seen start (Some p) = subst (IsLast seen start) e b.last_is in
      let below : level < length t.level_starts = elim (cases_lt level (length t.level_starts)) [
        | inl lt ↦ lt
        | inr le ↦ absurd (let low = at.begun (length t.level_starts - 1) (omega arith) in omega (arith, l.0, low, start_is))
      ] in
      record {
        below = below;
        other = λ high. (p, l.0, at.begun (level - 1) (omega arith), b.all p l.0 l.1);
        rest = λ k lt i. elim (cases_lt p k) [
          | inl after ↦ absurd (false≢true (sym (l.2 k after lt) ∙ low_marked k lt i))
          | inr le ↦ let a = at.ahead level (omega arith) below in omega arith
        ];
      }
