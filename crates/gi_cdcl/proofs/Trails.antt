-- What a search knows of its trail is kept by its steps.
use Rattle.std.proofs.Common.{◌≡◌, ℕ, ◌-◌, ◌/◌, ◌<◌, ◌≤◌, Option, Some, None, List, [], ◌∷◌, ◌++◌, length, take, map, get_or, refl, sym, ap, ◌∙◌, subst, arith, inl, inr, length-append, append_assoc}
use Rattle.std.specs.List.{Contains}
use Rattle.std.proofs.lemmas.Bool.{cases_lt, lt-ltb}
use Rattle.std.proofs.lemmas.List.{get_or-take, get_or_default, get_or_append_left, get_or_push, length-take, length-take-le, take-take, take_all, take-append-le, map-append}
use Rattle.std.proofs.lemmas.List.Elements.{Contains-append_left, Contains-push, All-push}
use Rattle.gi_lit.specs.Literals.{opposite}
use Rattle.gi_lit.specs.Closure.{IsSettled, IsClosed}
use Rattle.gi_lit.specs.Closure.IsSettled.{has_two}
use Rattle.gi_lit.proofs.Literals.{opposite-opposite, opposite-injective}
use Rattle.gi_store.specs.StoreView.{Entry, StoreView, Holds, entries, full_entry, with_learnt}
use Rattle.gi_prop.specs.TrailView.{TrailView, IsTrail, with_lit, with_level, cut_at, cancelled}
use Rattle.gi_cdcl.specs.Sound.{stored, IsSupported, IsTrailSound, IsLeveled}
use Rattle.gi_cdcl.specs.Uip.{IsJump}
use Rattle.gi_prop.proofs.Fronts.{place_in_take, front_contains}
use Rattle.gi_cdcl.proofs.Uip.{IsOneHigh}

pub entries_learnt : (key : ℕ) (c : List ℕ) (h : StoreView) → entries (with_learnt key c h) ≡ entries h ++ record { key = key; lits = c } ∷ []
entries_learnt key c h =
    let e : List Entry = record { key = key; lits = c } ∷ [] in
    sym (append_assoc h.plain (map full_entry h.groups ++ h.learnt) e ∙ ap (λ xs. h.plain ++ xs) (append_assoc (map full_entry h.groups) h.learnt e))

-- a learnt clause stands behind the others
pub stored_learnt : (key : ℕ) (c : List ℕ) (h : StoreView) → stored (with_learnt key c h) ≡ stored h ++ c ∷ []
stored_learnt key c h = ap (λ xs. map (λ (e : Entry). e.lits) xs) (entries_learnt key c h) ∙ map-append (λ (e : Entry). e.lits) (entries h) (record { key = key; lits = c } ∷ [])

pub holds_more : (key : ℕ) (c : List ℕ) (h : StoreView) (k : ℕ) (d : List ℕ) → Holds h k d → Holds (with_learnt key c h) k d
holds_more key c h k d held = subst (λ xs. Contains xs (record { key = k; lits = d })) (sym (entries_learnt key c h)) (Contains-append_left (entries h) _ _ held)

pub holds_more_all : (h : StoreView) (es : List Entry) (k : ℕ) (d : List ℕ) → Holds h k d → Holds (record h { learnt = h.learnt ++ es }) k d
holds_more_all h es k d held =
    subst (λ xs. Contains xs (record { key = k; lits = d })) (append_assoc h.plain (map full_entry h.groups ++ h.learnt) es ∙ ap (λ xs. h.plain ++ xs) (append_assoc (map full_entry h.groups) h.learnt es))
    (Contains-append_left (entries h) es _ held)

pub stored_more_all : (h : StoreView) (es : List Entry) (c : List ℕ) → Contains (stored h) c → Contains (stored (record h { learnt = h.learnt ++ es })) c
stored_more_all h es c k =
    subst (λ (xs : List Entry). Contains (map (λ (e : Entry). e.lits) xs) c) (append_assoc h.plain (map full_entry h.groups ++ h.learnt) es ∙ ap (λ xs. h.plain ++ xs) (append_assoc (map full_entry h.groups) h.learnt es))
    (subst (λ (cs : List (List ℕ)). Contains cs c) (sym (map-append (λ (e : Entry). e.lits) (entries h) es)) (Contains-append_left (stored h) (map (λ (e : Entry). e.lits) es) c k))

pub holds_learnt : (key : ℕ) (c : List ℕ) (h : StoreView) → Holds (with_learnt key c h) key c
holds_learnt key c h = subst (λ xs. Contains xs (record { key = key; lits = c })) (sym (entries_learnt key c h)) (Contains-push (entries h) _)

-- the trail with more literals behind, each of which a clause forced
pub record Grows (h : StoreView) (old new : TrailView) : Type 0 where
  pub vars : new.vars ≡ old.vars
  pub level_starts : new.level_starts ≡ old.level_starts
  pub more_lits : List ℕ
  pub lits : new.lits ≡ old.lits ++ more_lits
  pub more_reasons : List (Option ℕ)
  pub reasons : new.reasons ≡ old.reasons ++ more_reasons
  pub forced : (k : ℕ) → length old.lits ≤ k → k < length new.lits → IsSupported h new k (get_or new.reasons k None)

-- what supports a literal goes on to do so when more stands behind it
supported_more : (h : StoreView) (a b : TrailView) (more : List ℕ) → b.lits ≡ a.lits ++ more → ((m : ℕ) → Contains a.level_starts m → Contains b.level_starts m) → (k : ℕ) → k < length a.lits → (o : Option ℕ) → IsSupported h a k o → IsSupported h b k o
supported_more h a b more e level_starts k lt None s = level_starts k s
supported_more h a b more e level_starts k lt (Some r) s = (s.0, s.1, rw (e, get_or_append_left a.lits more 0 k lt, take-append-le k a.lits more (omega arith)) s.2)

-- with a clause learnt
pub IsSound-learnt : (h : StoreView) (t : TrailView) → IsTrailSound h t → (key : ℕ) (c : List ℕ) → IsTrailSound (with_learnt key c h) t
IsSound-learnt h t s key c = record { each = λ k lt. go k (get_or t.reasons k None) (s.each k lt) }
  where
    go : (k : ℕ) (o : Option ℕ) → IsSupported h t k o → IsSupported (with_learnt key c h) t k o
    go k None u = u
    go k (Some r) u = (u.0, holds_more key c h r u.0 u.1, u.2)

-- with room for more variables
pub IsSound-grown : (h : StoreView) (t : TrailView) (n : ℕ) → IsTrailSound h t → IsTrailSound h (record t { vars = n })
IsSound-grown h t n s = record { each = λ k lt. go k (get_or t.reasons k None) (s.each k lt) }
  where
    go : (k : ℕ) (o : Option ℕ) → IsSupported h t k o → IsSupported h (record t { vars = n }) k o
    go k None u = u
    go k (Some r) u = u

module _ (h : StoreView) (t : TrailView) (tr : IsTrail t) (s : IsTrailSound h t) where
  -- with forced literals behind
  pub IsSound-grows : (b : TrailView) → Grows h t b → IsTrailSound h b
  IsSound-grows b g = record {
    each = λ k lt. elim (cases_lt k (length t.lits)) [
      | inl below ↦
          let r : k < length t.reasons = rw tr.reasons below in
          subst (IsSupported h b k) (sym (rw g.reasons (get_or_append_left t.reasons g.more_reasons None k r)))
          (supported_more h t b g.more_lits g.lits (λ m c. rw g.level_starts c) k below (get_or t.reasons k None) (s.each k below))
      | inr le ↦ g.forced k le lt
    ];
  }

  -- with a decision, at a level of its own
  pub IsSound-decide : (l : ℕ) → IsTrailSound h (with_lit l None (with_level t))
  IsSound-decide l = record {
    each = λ k lt. elim (cases_lt k (length t.lits)) [
      | inl below ↦
          let r : k < length t.reasons = rw tr.reasons below in
          subst (IsSupported h (with_lit l None (with_level t)) k) (sym (get_or_append_left t.reasons (None ∷ []) None k r))
          (supported_more h t (with_lit l None (with_level t)) (l ∷ []) refl (λ m c. Contains-append_left t.level_starts (length t.lits ∷ []) m c) k below (get_or t.reasons k None) (s.each k below))
      | inr le ↦
          let e : length t.lits ≡ k = omega (arith, length-append t.lits (l ∷ [])) in
          let g : get_or (t.reasons ++ None ∷ []) k None ≡ None = get_or_push t.reasons None None k (tr.reasons ∙ e) in
          subst (IsSupported h (with_lit l None (with_level t)) k) (sym g) (subst (Contains (t.level_starts ++ length t.lits ∷ [])) e (Contains-push t.level_starts (length t.lits)))
    ];
  }

  module _ (level : ℕ) (lt : level < length t.level_starts) where
    n_within : get_or t.level_starts level 0 ≤ length t.lits
    n_within = tr.levels.within level lt

    lits_len : length (take (get_or t.level_starts level 0) t.lits) ≡ get_or t.level_starts level 0
    lits_len = length-take-le (get_or t.level_starts level 0) t.lits n_within

    supported_in : (k : ℕ) → k < get_or t.level_starts level 0 → (o : Option ℕ) → IsSupported h t k o → IsSupported h (cut_at level t) k o
    supported_in k kl None u =
        let lev : u.0 < length t.level_starts = u.1 in
        let e : get_or t.level_starts u.0 0 ≡ k = get_or_default t.level_starts u.0 0 k lev ∙ u.2 in
        elim (cases_lt u.0 level) [
          | inl below ↦ subst (Contains (take level t.level_starts)) e (front_contains level t.level_starts u.0 below lev)
          | inr high ↦ absurd (omega (arith, tr.levels.ordered level u.0 high lev, e))
        ]
    supported_in k kl (Some r) u = (u.0, u.1, rw (get_or-take (get_or t.level_starts level 0) t.lits k 0 kl, take-take k (get_or t.level_starts level 0) t.lits (omega arith)) u.2)

    pub IsSound-cut : IsTrailSound h (cut_at level t)
    IsSound-cut = record {
      each = λ k kl.
          let a : k < get_or t.level_starts level 0 = rw lits_len at kl in
          subst (IsSupported h (cut_at level t) k) (sym (get_or-take (get_or t.level_starts level 0) t.reasons k None a)) (supported_in k a _ (s.each k (let w = n_within in omega arith)));
    }

module _ (h : StoreView) (t : TrailView) (tr : IsTrail t) (v : IsLeveled h t) where
  pub IsLeveled-grows : (b : TrailView) → Grows h t b → IsLeveled h b
  IsLeveled-grows b g = record {
    closed = λ j lt. let w = tr.levels.within j (rw g.level_starts at lt) in rw (g.level_starts, g.lits, take-append-le (get_or t.level_starts j 0) t.lits g.more_lits w) (v.closed j (rw g.level_starts at lt));
  }

  -- with one more level, where all is closed
  pub IsLeveled-decide : IsClosed (stored h) t.lits → (l : ℕ) → IsLeveled h (with_lit l None (with_level t))
  IsLeveled-decide cl l = record { closed = closed' }
    where
      old : (j : ℕ) → j < length t.level_starts → get_or (t.level_starts ++ length t.lits ∷ []) j 0 ≡ get_or t.level_starts j 0
      old j lt = get_or_append_left t.level_starts (length t.lits ∷ []) 0 j lt

      new : (j : ℕ) → length t.level_starts ≤ j → j < length (t.level_starts ++ length t.lits ∷ []) → get_or (t.level_starts ++ length t.lits ∷ []) j 0 ≡ length t.lits
      new j le lt = get_or_push t.level_starts (length t.lits) 0 j (omega (arith, length-append t.level_starts (length t.lits ∷ [])))

      closed' : (j : ℕ) → j < length (t.level_starts ++ length t.lits ∷ []) → IsClosed (stored h) (take (get_or (t.level_starts ++ length t.lits ∷ []) j 0) (t.lits ++ l ∷ []))
      closed' j lt = elim (cases_lt j (length t.level_starts)) [
        | inl below ↦ let w = tr.levels.within j below in rw (old j below, take-append-le (get_or t.level_starts j 0) t.lits (l ∷ []) w) (v.closed j below)
        | inr le ↦ rw (new j le lt, take-append-le (length t.lits) t.lits (l ∷ []) (omega arith), take_all (length t.lits) t.lits (omega arith)) cl
      ]

  -- after the jump each level that is left is closed, with the learnt clause among the others
  module _ (start : ℕ) (start_is : start ≡ get_or t.level_starts (length t.level_starts - 1) 0) (learnt : List ℕ) (level : ℕ) (o : IsOneHigh t.lits start learnt) (j : IsJump t learnt start level) where
    start_within : start ≤ length t.lits
    start_within = let b = j.below in rw start_is (tr.levels.within (length t.level_starts - 1) (omega arith))

    absent : (k n : ℕ) → k < length t.lits → n ≤ k → ¬ Contains (take n t.lits) (get_or t.lits k 0)
    absent k n within le c =
        let p = place_in_take n t.lits (get_or t.lits k 0) c in
        let same : p.0 ≡ k = tr.apart p.0 k p.2 within (ap (λ n. n / 2) p.3) in
        omega (arith, p.1)

    settled : (i : ℕ) → i < level → IsSettled (take (get_or t.level_starts i 0) t.lits) learnt
    settled i lt =
        let q = j.other (omega arith) in
        let k = q.0 in
        let m : get_or t.level_starts i 0 ≤ get_or t.level_starts (level - 1) 0 = let b = j.below in tr.levels.ordered i (level - 1) (omega arith) (omega arith) in
        let low : get_or t.level_starts i 0 ≤ k = omega (arith, q.2) in
        let kw : k < length t.lits = let w = start_within in omega (arith, q.1) in
        let top : get_or t.level_starts i 0 ≤ o.top = omega (arith, q.1, o.low) in
        has_two (opposite (get_or t.lits o.top 0)) (opposite (get_or t.lits k 0)) o.stands q.3
        (λ e. let same : o.top ≡ k = tr.apart o.top k o.high kw (ap (λ n. n / 2) (opposite-injective _ _ e)) in omega (arith, q.1, o.low))
        (rw opposite-opposite (absent o.top (get_or t.level_starts i 0) o.high top))
        (rw opposite-opposite (absent k (get_or t.level_starts i 0) kw low))

    pub IsLeveled-jump : (key : ℕ) → IsLeveled (with_learnt key learnt h) (cut_at level t)
    IsLeveled-jump key = record {
      closed = λ i il.
          let lt : i < level = omega (arith, length-take level t.level_starts) in
          let low : get_or t.level_starts i 0 ≤ get_or t.level_starts level 0 = tr.levels.ordered i level (omega arith) j.below in
          let old : IsClosed (stored h) (take (get_or t.level_starts i 0) t.lits) = v.closed i (let w = j.below in omega arith) in
          rw (get_or-take level t.level_starts i 0 lt, take-take (get_or t.level_starts i 0) (get_or t.level_starts level 0) t.lits low)
          (subst (λ cs. IsClosed cs (take (get_or t.level_starts i 0) t.lits)) (sym (stored_learnt key learnt h)) (record { each = All-push (λ c. IsSettled (take (get_or t.level_starts i 0) t.lits) c) (stored h) learnt old.each (settled i lt) }));
    }

pub cancelled_is : (level : ℕ) (t : TrailView) → level < length t.level_starts → cancelled level t ≡ cut_at level t
cancelled_is level t lt = rw (lt-ltb level (length t.level_starts) lt) refl
