-- The trail with a level for each scope: one level more, and the last ones taken away.
use Rattle.std.proofs.Common.{◌≡◌, ℕ, ◌+◌, ◌-◌, ◌/◌, ◌<◌, ◌≤◌, Option, None, List, [], ◌∷◌, ◌++◌, length, take, drop, get_or, refl, sym, ap, ◌∙◌, subst, arith, ◌⊎◌, inl, inr, append_assoc, length-append}
use Rattle.std.specs.List.{All, Contains}
use Rattle.std.proofs.lemmas.Bool.{cases_lt}
use Rattle.std.proofs.lemmas.List.{get_or_default, get_or_append_left, get_or-append_right, get_or_past, get_or_push, get_or-take, take-append-le, take-take, take_all, length-take-le, take-append-drop, take_more, append-nil}
use Rattle.std.proofs.lemmas.List.Elements.{All-append, All-contains, All-nil, Contains-get_or, Contains-append_left, Contains-append_right}
use Rattle.gi_lit.specs.Closure.{IsClosed}
use Rattle.gi_lit.specs.Problem.{full}
use Rattle.gi_store.specs.StoreView.{StoreView, IsWithin, problem_of}
use Rattle.gi_prop.specs.TrailView.{TrailView, IsTrail, with_level, cut_at}
use Rattle.gi_prop.specs.Attached.{Goes}
use Rattle.gi_model.specs.State.{Scope, Found, scope_assumed}
use Rattle.gi_scopes.specs.Under.{base_of, AreProblemKeys, IsImpliedAt, IsReached, AreReached, AreClosed, Adds, AddsImplied, IsClash}
use Rattle.gi_scopes.specs.Built.{front, IsBuilt, IsCovered, CoversLevels, IsFresh, IsStuck, Reaches}
use Rattle.gi_scopes.specs.declared.kept.Kept.{Kept}
use Rattle.gi_scopes.specs.declared.clash.Clash.{Clash}
use Rattle.gi_scopes.specs.declared.clash.Clash.TheVariants.{Opposite, Clause}
use Rattle.gi_scopes.proofs.Opening.{scope_is}
use Rattle.gi_scopes.proofs.Listing.{scope_assumed-push, scope_assumed-append, scope_assumed-more}

-- what was reached stays so in a trail that begins with the same literals
pub implied_longer : (s : StoreView) (t u : TrailView) (more : List ℕ) (why : List (Option ℕ)) → u.lits ≡ t.lits ++ more → u.reasons ≡ t.reasons ++ why → length t.reasons ≡ length t.lits → (k : ℕ) → k < length t.lits → IsImpliedAt s t k → IsImpliedAt s u k
implied_longer s t u more why el er len k lt h = record {
  key = h.key;
  reason = ap (λ rs. get_or rs k None) er ∙ get_or_append_left t.reasons why None k (omega (arith, lt, len)) ∙ h.reason;
  clause = h.clause;
  held = h.held;
  forces = rw (el, get_or_append_left t.lits more 0 k lt, take-append-le k t.lits more (omega (arith, lt))) h.forces;
}

pub reached_longer : (s : StoreView) (given wider : List ℕ) (t u : TrailView) (more : List ℕ) (why : List (Option ℕ)) → u.lits ≡ t.lits ++ more → u.reasons ≡ t.reasons ++ why → length t.reasons ≡ length t.lits → ((m : ℕ) → Contains given m → Contains wider m) → (k : ℕ) → k < length t.lits → IsReached s given t k → IsReached s wider u k
reached_longer s given wider t u more why el er len w k lt (inl a) = inl (ap (λ rs. get_or rs k None) er ∙ get_or_append_left t.reasons why None k (omega (arith, lt, len)) ∙ a.0, w (get_or u.lits k 0) (rw (el, get_or_append_left t.lits more 0 k lt) a.1))
reached_longer s given wider t u more why el er len w k lt (inr h) = inr (implied_longer s t u more why el er len k lt h)

-- and in one that is a part of it
pub implied_shorter : (s : StoreView) (t u : TrailView) (n : ℕ) → u.lits ≡ take n t.lits → u.reasons ≡ take n t.reasons → (k : ℕ) → k < n → IsImpliedAt s t k → IsImpliedAt s u k
implied_shorter s t u n el er k lt h = record {
  key = h.key;
  reason = ap (λ rs. get_or rs k None) er ∙ get_or-take n t.reasons k None lt ∙ h.reason;
  clause = h.clause;
  held = h.held;
  forces = rw (el, get_or-take n t.lits k 0 lt, take-take k n t.lits (omega (arith, lt))) h.forces;
}

pub reached_shorter : (s : StoreView) (given : List ℕ) (t u : TrailView) (n : ℕ) → u.lits ≡ take n t.lits → u.reasons ≡ take n t.reasons → (k : ℕ) → k < n → IsReached s given t k → IsReached s given u k
reached_shorter s given t u n el er k lt (inl a) = inl (ap (λ rs. get_or rs k None) er ∙ get_or-take n t.reasons k None lt ∙ a.0, rw (el, get_or-take n t.lits k 0 lt) a.1)
reached_shorter s given t u n el er k lt (inr h) = inr (implied_shorter s t u n el er k lt h)

pub closed_longer : (s : StoreView) (given : List ℕ) (t u : TrailView) (n : ℕ) (more : List ℕ) (why : List (Option ℕ)) → u.lits ≡ t.lits ++ more → u.reasons ≡ t.reasons ++ why → length t.reasons ≡ length t.lits → n ≤ length t.lits → AreClosed s given t n → AreClosed s given u n
closed_longer s given t u n more why el er len le h = record {
  reached = record { each = λ k lt. reached_longer s given given t u more why el er len (λ m c. c) k (omega (arith, lt, le)) (h.reached.each k lt) };
  whole = subst (λ xs. All (Contains xs) given) (sym same) h.whole;
  closed = subst (IsClosed (full (problem_of s))) (sym same) h.closed;
}
  where
    same : take n u.lits ≡ take n t.lits
    same = ap (take n) el ∙ take-append-le n t.lits more le

pub closed_shorter : (s : StoreView) (given : List ℕ) (t u : TrailView) (n m : ℕ) → u.lits ≡ take m t.lits → u.reasons ≡ take m t.reasons → n ≤ m → AreClosed s given t n → AreClosed s given u n
closed_shorter s given t u n m el er le h = record {
  reached = record { each = λ k lt. reached_shorter s given t u m el er k (omega (arith, lt, le)) (h.reached.each k lt) };
  whole = subst (λ xs. All (Contains xs) given) (sym same) h.whole;
  closed = subst (IsClosed (full (problem_of s))) (sym same) h.closed;
}
  where
    same : take n u.lits ≡ take n t.lits
    same = ap (take n) el ∙ take-take n m t.lits le

-- no level ends behind the trail
front_within : (t : TrailView) → IsTrail t → (j : ℕ) → front t j ≤ length t.lits
front_within t h j = elim (cases_lt j (length t.level_starts)) [
  | inl lt ↦ subst (λ n. n ≤ length t.lits) (get_or_default t.level_starts j 0 (length t.lits) lt) (h.levels.within j lt)
  | inr le ↦ subst (λ n. n ≤ length t.lits) (sym (get_or_past t.level_starts j (length t.lits) le)) (omega arith)
]

-- a level more, behind assumptions
pub reaches_assumed : (s : StoreView) (given : List ℕ) (t a : TrailView) → length t.reasons ≡ length t.lits → Adds given (with_level t) a → Reaches s given t a
reaches_assumed s given t a len h = record {
  level_starts = h.level_starts;
  more = h.more;
  lits = h.lits;
  why = h.why;
  reasons = h.reasons;
  each = λ k le lt. inl (
    ap (λ rs. get_or rs k None) h.reasons ∙ get_or-append_right t.reasons h.why (length t.lits) k None len le ∙ h.unforced (k - length t.lits),
    subst (Contains given) (sym (ap (λ xs. get_or xs k 0) h.lits ∙ get_or-append_right t.lits h.more (length t.lits) k 0 refl le)) (All-contains (Contains given) h.more (get_or h.more (k - length t.lits) 0) h.inside (Contains-get_or h.more (k - length t.lits) 0 (omega (arith, lt, le, ap length h.lits, length-append t.lits h.more)))),
  );
}

-- and behind what the clauses force then
pub reaches_more : (s : StoreView) (given : List ℕ) (t a u : TrailView) → length a.reasons ≡ length a.lits → Reaches s given t a → AddsImplied s a u → Reaches s given t u
reaches_more s given t a u len r f = record {
  level_starts = f.level_starts ∙ r.level_starts;
  more = r.more ++ f.more;
  lits = f.lits ∙ ap (λ xs. xs ++ f.more) r.lits ∙ append_assoc t.lits r.more f.more;
  why = r.why ++ f.why;
  reasons = f.reasons ∙ ap (λ xs. xs ++ f.why) r.reasons ∙ append_assoc t.reasons r.why f.why;
  each = λ k le lt. elim (cases_lt k (length a.lits)) [
    | inl below ↦ reached_longer s given given a u f.more f.why f.lits f.reasons len (λ m c. c) k below (r.each k le below)
    | inr high ↦ inr (f.each k high lt)
  ];
}

none_assumed : (j : ℕ) → scope_assumed (take j []) ≡ []
unfolding scope_assumed
none_assumed j = ap scope_assumed (take_all j no_scope (omega arith))
  where
    no_scope : List Scope
    no_scope = []

-- with no scope: what follows from nothing
pub built_start : (s : StoreView) (n m : Kept) → n.trail.lits ≡ [] → n.trail.level_starts ≡ [] → AddsImplied s n.trail m.trail → Goes m.prop s m.trail → AreProblemKeys m.prop s → IsClosed (full (problem_of s)) m.trail.lits → IsBuilt m [] s
built_start s n m el em f goes keys closed = record {
  goes = goes;
  keys = keys;
  count = ap length (f.level_starts ∙ em);
  levels = λ j le. record {
    reached = record { each = λ k lt. inr (f.each k (omega (arith, ap length el)) (omega (arith, lt, end j))) };
    whole = subst (All (Contains (take (front m.trail j) m.trail.lits))) (sym (none_assumed j)) (All-nil (Contains (take (front m.trail j) m.trail.lits)));
    closed = subst (IsClosed (full (problem_of s))) (sym (take_all (front m.trail j) m.trail.lits (omega (arith, end j)))) closed;
  };
}
  where
    end : (j : ℕ) → front m.trail j ≡ length m.trail.lits
    end j = get_or_past m.trail.level_starts j (length m.trail.lits) (omega (arith, ap length (f.level_starts ∙ em)))

module _ (s : StoreView) (scs : List Scope) (k : Kept) (b : IsBuilt k scs s) where
  -- the present end is under all assumptions
  pub built_now : AreClosed s (scope_assumed scs) k.trail (length k.trail.lits)
  built_now =
      let e : front k.trail (length scs) ≡ length k.trail.lits = get_or_past k.trail.level_starts (length scs) (length k.trail.lits) (omega (arith, b.count)) in
      let a : AreClosed s (scope_assumed (take (length scs) scs)) k.trail (front k.trail (length scs)) = b.levels (length scs) (omega arith) in
      subst (AreClosed s (scope_assumed scs) k.trail) e (subst (λ (xs : List Scope). AreClosed s (scope_assumed xs) k.trail (front k.trail (length scs))) (take_all (length scs) scs (omega arith)) a)

  pub built_there : All (Contains k.trail.lits) (scope_assumed scs)
  built_there = subst (λ xs. All (Contains xs) (scope_assumed scs)) (take_all (length k.trail.lits) k.trail.lits (omega arith)) built_now.whole

  pub built_closed : IsClosed (full (problem_of s)) k.trail.lits
  built_closed = subst (IsClosed (full (problem_of s))) (take_all (length k.trail.lits) k.trail.lits (omega arith)) built_now.closed

module _ (s : StoreView) (scs : List Scope) (k : Kept) (b : IsBuilt k scs s) (whole : IsTrail k.trail) where
  module _ (assumed : List ℕ) (n : Kept) (r : Reaches s assumed k.trail n.trail) where
    -- each literal was reached under all assumptions
    pub built_reached : AreReached s (scope_assumed scs ++ assumed) n.trail (length n.trail.lits)
    built_reached = record {
      each = λ i lt. elim (cases_lt i (length k.trail.lits)) [
        | inl below ↦ reached_longer s (scope_assumed scs) (scope_assumed scs ++ assumed) k.trail n.trail r.more r.why r.lits r.reasons whole.reasons (λ m c. Contains-append_left (scope_assumed scs) assumed m c) i below ((built_now s scs k b).reached.each i below)
        | inr high ↦ wider i (r.each i high lt)
      ];
    }
      where
        wider : (i : ℕ) → IsReached s assumed n.trail i → IsReached s (scope_assumed scs ++ assumed) n.trail i
        wider i (inl a) = inl (a.0, Contains-append_right (scope_assumed scs) assumed (get_or n.trail.lits i 0) a.1)
        wider i (inr h) = inr h

    module _ (goes : Goes n.prop s n.trail) (keys : AreProblemKeys n.prop s) (there : All (Contains n.trail.lits) assumed) (closed : IsClosed (full (problem_of s)) n.trail.lits) (f : Found) where
      abbrev sc : Scope
      sc = record { assumed = assumed; found = f }

      all_there : All (Contains n.trail.lits) (scope_assumed scs ++ assumed)
      all_there = All-append (Contains n.trail.lits) (scope_assumed scs) assumed (λ i d lt. subst (λ xs. Contains xs (get_or (scope_assumed scs) i d)) (sym r.lits) (Contains-append_left k.trail.lits r.more (get_or (scope_assumed scs) i d) (built_there s scs k b i d lt))) there

      last : AreClosed s (scope_assumed scs ++ assumed) n.trail (length n.trail.lits)
      last = record {
        reached = built_reached;
        whole = subst (λ xs. All (Contains xs) (scope_assumed scs ++ assumed)) (sym (take_all (length n.trail.lits) n.trail.lits (omega arith))) all_there;
        closed = subst (IsClosed (full (problem_of s))) (sym (take_all (length n.trail.lits) n.trail.lits (omega arith))) closed;
      }

      counts : length n.trail.level_starts ≡ length scs + 1
      counts = ap length r.level_starts ∙ length-append k.trail.level_starts (length k.trail.lits ∷ []) ∙ ap (λ x. x + 1) b.count

      old_front : (j : ℕ) → j ≤ length scs → front n.trail j ≡ front k.trail j
      old_front j le = ap (λ ms. get_or ms j (length n.trail.lits)) r.level_starts ∙ elim (cases_lt j (length k.trail.level_starts)) [
        | inl lt ↦ get_or_append_left k.trail.level_starts (length k.trail.lits ∷ []) (length n.trail.lits) j lt ∙ get_or_default k.trail.level_starts j (length n.trail.lits) (length k.trail.lits) lt
        | inr high ↦ get_or_push k.trail.level_starts (length k.trail.lits) (length n.trail.lits) j (omega (arith, high, le, b.count)) ∙ sym (get_or_past k.trail.level_starts j (length k.trail.lits) high)
      ]

      level : (j : ℕ) → j ≤ length (scs ++ sc ∷ []) → (j ≤ length scs) ⊎ (length scs < j) → AreClosed s (scope_assumed (take j (scs ++ sc ∷ []))) n.trail (front n.trail j)
      level j most (inl le) =
          let a : AreClosed s (scope_assumed (take j scs)) n.trail (front k.trail j) = closed_longer s (scope_assumed (take j scs)) k.trail n.trail (front k.trail j) r.more r.why r.lits r.reasons whole.reasons (front_within k.trail whole j) (b.levels j le) in
          rw (old_front j le, take-append-le j scs (sc ∷ []) le) a
      level j most (inr lt) =
          let e : front n.trail j ≡ length n.trail.lits = get_or_past n.trail.level_starts j (length n.trail.lits) (omega (arith, counts, lt)) in
          let all : take j (scs ++ sc ∷ []) ≡ scs ++ sc ∷ [] = take_all j (scs ++ sc ∷ []) (omega (arith, lt, length-append scs (sc ∷ []))) in
          rw (e, all, scope_assumed-push scs sc) last

      pub built_more : IsBuilt n (scs ++ sc ∷ []) s
      built_more = record {
        goes = goes;
        keys = keys;
        count = counts ∙ sym (length-append scs (sc ∷ []));
        levels = λ j most. level j most (low_or_high j);
      }
        where
          low_or_high : (j : ℕ) → (j ≤ length scs) ⊎ (length scs < j)
          low_or_high j = elim (cases_lt (length scs) j) [ inl lt ↦ inr lt | inr le ↦ inl le ]

  -- the levels above one taken away
  module _ (level : ℕ) (lt : level < length k.trail.level_starts) (u : TrailView) (e : u ≡ cut_at level k.trail) (goes : Goes k.prop s u) where
    lits_cut : u.lits ≡ take (get_or k.trail.level_starts level 0) k.trail.lits
    lits_cut = ap (λ (x : TrailView). x.lits) e

    reasons_cut : u.reasons ≡ take (get_or k.trail.level_starts level 0) k.trail.reasons
    reasons_cut = ap (λ (x : TrailView). x.reasons) e

    marks_cut : u.level_starts ≡ take level k.trail.level_starts
    marks_cut = ap (λ (x : TrailView). x.level_starts) e

    marks_count : length u.level_starts ≡ level
    marks_count = ap length marks_cut ∙ length-take-le level k.trail.level_starts (omega (arith, lt))

    lits_count : length u.lits ≡ get_or k.trail.level_starts level 0
    lits_count = ap length lits_cut ∙ length-take-le (get_or k.trail.level_starts level 0) k.trail.lits (whole.levels.within level lt)

    fronts : (j : ℕ) → j ≤ level → front u j ≡ front k.trail j
    fronts j le = elim (cases_lt j level) [
      | inl below ↦ ap (λ ms. get_or ms j (length u.lits)) marks_cut ∙ get_or-take level k.trail.level_starts j (length u.lits) below ∙ get_or_default k.trail.level_starts j (length u.lits) (length k.trail.lits) (omega (arith, below, lt))
      | inr high ↦
          let same : level ≡ j = omega (arith, high, le) in
          get_or_past u.level_starts j (length u.lits) (omega (arith, marks_count, high)) ∙ lits_count ∙ get_or_default k.trail.level_starts level 0 (length k.trail.lits) lt ∙ ap (λ i. get_or k.trail.level_starts i (length k.trail.lits)) same
    ]

    below_cut : (j : ℕ) → j ≤ level → front k.trail j ≤ get_or k.trail.level_starts level 0
    below_cut j le = subst (λ x. x ≤ get_or k.trail.level_starts level 0) (get_or_default k.trail.level_starts j 0 (length k.trail.lits) (omega (arith, le, lt))) (whole.levels.ordered j level le lt)

    one : (j : ℕ) → j ≤ level → AreClosed s (scope_assumed (take j (take level scs))) u (front u j)
    one j le = rw (fronts j le, take-take j level scs le) (closed_shorter s (scope_assumed (take j scs)) k.trail u (front k.trail j) (get_or k.trail.level_starts level 0) lits_cut reasons_cut (below_cut j le) (b.levels j (omega (arith, le, lt, b.count))))

    pub built_cut : IsBuilt (record k { trail = u }) (take level scs) s
    built_cut = record {
      goes = goes;
      keys = b.keys;
      count = marks_count ∙ sym (length-take-le level scs (omega (arith, lt, b.count)));
      levels = λ j le. one j (omega (arith, le, length-take-le level scs (omega (arith, lt, b.count))));
    }

    pub covers_cut : CoversLevels k scs s → CoversLevels (record k { trail = u }) (take level scs) s
    covers_cut h = record { levels = λ j above le. low j above (omega (arith, le, length-take-le level scs (omega (arith, lt, b.count)))) }
      where
        low : (j : ℕ) → k.unlisted < j → j ≤ level → IsCovered s (take j (take level scs)) (take (front u j) u.lits)
        low j above le =
            let same : take (front k.trail j) u.lits ≡ take (front k.trail j) k.trail.lits = ap (take (front k.trail j)) lits_cut ∙ take-take (front k.trail j) (get_or k.trail.level_starts level 0) k.trail.lits (below_cut j le) in
            rw (fronts j le, take-take j level scs le) (subst (IsCovered s (take j scs)) (sym same) (h.levels j above (omega (arith, le, lt, b.count))))

-- with room for more variables
pub built_grown : (s : StoreView) (scs : List Scope) (k : Kept) → IsBuilt k scs s → IsTrail k.trail → (u : TrailView) → u.lits ≡ k.trail.lits → u.reasons ≡ k.trail.reasons → u.level_starts ≡ k.trail.level_starts → Goes k.prop s u → IsBuilt (record k { trail = u }) scs s
built_grown s scs k b whole u el er em goes = record {
  goes = goes;
  keys = b.keys;
  count = ap length em ∙ b.count;
  levels = λ j le. subst (AreClosed s (scope_assumed (take j scs)) u) (sym (fronts j)) (closed_longer s (scope_assumed (take j scs)) k.trail u (front k.trail j) [] [] (el ∙ sym (append-nil k.trail.lits)) (er ∙ sym (append-nil k.trail.reasons)) whole.reasons (front_within k.trail whole j) (b.levels j le));
}
  where
    fronts : (j : ℕ) → front u j ≡ front k.trail j
    fronts j = ap (λ ms. get_or ms j (length u.lits)) em ∙ ap (λ (xs : List ℕ). get_or k.trail.level_starts j (length xs)) el

-- where the building stands
pub record BuildingTo (s : StoreView) (k : Kept) (scs : List Scope) (i : ℕ) : Type 0 where
  pub built : IsBuilt k (take i scs) (base_of s)
  pub vars : s.vars ≤ k.trail.vars

module _ (s : StoreView) (n m : Kept) (fresh : IsFresh n s) (adds : AddsImplied (base_of s) n.trail m.trail) where
  fresh_vars : s.vars ≤ m.trail.vars
  fresh_vars = omega (arith, adds.vars, ap (λ (t : TrailView). t.vars) fresh.trail)

  no_lits_yet : n.trail.lits ≡ []
  no_lits_yet = ap (λ (t : TrailView). t.lits) fresh.trail

  pub stuck_begun : (given : List ℕ) (c : Clash) → IsClash s given m.trail.lits c → IsStuck s given m.trail c
  stuck_begun given c x = record { vars = fresh_vars; reached = record { each = λ k lt. inr (adds.each k (omega (arith, ap length no_lits_yet)) lt) }; clash = x }

  pub building_begun : (scs : List Scope) → Goes m.prop (base_of s) m.trail → AreProblemKeys m.prop (base_of s) → IsClosed (full (problem_of (base_of s))) m.trail.lits → BuildingTo s m scs 0
  building_begun scs goes keys closed = record { built = built_start (base_of s) n m no_lits_yet (ap (λ (t : TrailView). t.level_starts) fresh.trail) adds goes keys closed; vars = fresh_vars }

pub stuck_start : (s : StoreView) (given : List ℕ) (n m : Kept) (c : Clash) → IsFresh n s → AddsImplied (base_of s) n.trail m.trail → IsClash s given m.trail.lits c → IsStuck s given m.trail c
stuck_start s given n m c fresh adds x = stuck_begun s n m fresh adds given c x

pub building_start : (s : StoreView) (n m : Kept) (scs : List Scope) → IsFresh n s → AddsImplied (base_of s) n.trail m.trail → Goes m.prop (base_of s) m.trail → AreProblemKeys m.prop (base_of s) → IsClosed (full (problem_of (base_of s))) m.trail.lits → BuildingTo s m scs 0
building_start s n m scs fresh adds goes keys closed = building_begun s n m fresh adds scs goes keys closed

-- a clash under some of the assumptions is one under all
pub clash_wider : (s : StoreView) (given wider lits : List ℕ) (c : Clash) → ((m : ℕ) → Contains given m → Contains wider m) → IsClash s given lits c → IsClash s wider lits c
clash_wider s given wider lits (Opposite l) w h = (w l h.0, h.1)
clash_wider s given wider lits (Clause key) w h = h

pub reached_wider : (s : StoreView) (given wider : List ℕ) (t : TrailView) (n : ℕ) → ((m : ℕ) → Contains given m → Contains wider m) → AreReached s given t n → AreReached s wider t n
reached_wider s given wider t n w h = record { each = λ k lt. one k (h.each k lt) }
  where
    one : (k : ℕ) → IsReached s given t k → IsReached s wider t k
    one k (inl a) = inl (a.0, w (get_or t.lits k 0) a.1)
    one k (inr x) = inr x

-- a level more: it is stuck, or closed
module _ (s : StoreView) (scs : List Scope) (k n : Kept) (b : IsBuilt k scs (base_of s)) (whole : IsTrail k.trail) (vars : s.vars ≤ k.trail.vars) (assumed : List ℕ) (r : Reaches (base_of s) assumed k.trail n.trail) (same : n.trail.vars ≡ k.trail.vars) where
  pub stuck_more : (wider : List ℕ) (c : Clash) → ((m : ℕ) → Contains (scope_assumed scs ++ assumed) m → Contains wider m) → IsClash s assumed n.trail.lits c → IsStuck s wider n.trail c
  stuck_more wider c w x = record {
    vars = omega (arith, vars, same);
    reached = reached_wider (base_of s) (scope_assumed scs ++ assumed) wider n.trail (length n.trail.lits) w (built_reached (base_of s) scs k b whole assumed n r);
    clash = clash_wider s assumed wider n.trail.lits c (λ m a. w m (Contains-append_right (scope_assumed scs) assumed m a)) x;
  }

  pub closed_more : (f : Found) → Goes n.prop (base_of s) n.trail → AreProblemKeys n.prop (base_of s) → All (Contains n.trail.lits) assumed → IsClosed (full (problem_of (base_of s))) n.trail.lits → IsBuilt n (scs ++ record { assumed = assumed; found = f } ∷ []) (base_of s) × (s.vars ≤ n.trail.vars)
  closed_more f goes keys there closed = (built_more (base_of s) scs k b whole assumed n r goes keys there closed f, omega (arith, vars, same))

-- the first i scopes' assumptions and those of the next are among all
pub next_inside : (scs : List Scope) (i : ℕ) (sc : Scope) → i < length scs → sc ≡ get_or scs i sc → (m : ℕ) → Contains (scope_assumed (take i scs) ++ sc.assumed) m → Contains (scope_assumed scs) m
next_inside scs i sc lt e m c = subst (λ xs. Contains (scope_assumed xs) m) (take-append-drop (i + 1) scs) (subst (λ xs. Contains xs m) (sym (scope_assumed-append (take (i + 1) scs) (drop (i + 1) scs))) (Contains-append_left (scope_assumed (take (i + 1) scs)) (scope_assumed (drop (i + 1) scs)) m (subst (λ xs. Contains xs m) (sym (scope_assumed-more scs i sc lt e)) c)))

pub stuck_wider : (s : StoreView) (given wider : List ℕ) (t : TrailView) (c : Clash) → ((m : ℕ) → Contains given m → Contains wider m) → IsStuck s given t c → IsStuck s wider t c
stuck_wider s given wider t c w h = record { vars = h.vars; reached = reached_wider (base_of s) given wider t (length t.lits) w h.reached; clash = clash_wider s given wider t.lits c w h.clash }

-- the next scope's assumptions are of variables that are there
pub item_within : (n m : ℕ) (scs : List Scope) (i : ℕ) (sc : Scope) → IsWithin n (scope_assumed scs) → i < length scs → sc ≡ get_or scs i sc → n ≤ m → IsWithin m sc.assumed
item_within n m scs i sc w lt e le k d kl =
    let r : (1 ≤ get_or sc.assumed k d / 2) × (get_or sc.assumed k d / 2 ≤ n) = All-contains (λ l. (1 ≤ l / 2) × (l / 2 ≤ n)) (scope_assumed scs) (get_or sc.assumed k d) w (next_inside scs i sc lt e (get_or sc.assumed k d) (Contains-append_right (scope_assumed (take i scs)) sc.assumed (get_or sc.assumed k d) (Contains-get_or sc.assumed k d kl))) in
    (r.0, omega (arith, r.1, le))

pub building_more : (s : StoreView) (scs : List Scope) (i : ℕ) (sc : Scope) (k n : Kept) (a : List ℕ) → BuildingTo s k scs i → i < length scs → sc ≡ get_or scs i sc → a ≡ sc.assumed → IsTrail k.trail → Reaches (base_of s) a k.trail n.trail → n.trail.vars ≡ k.trail.vars → Goes n.prop (base_of s) n.trail → AreProblemKeys n.prop (base_of s)
    → All (Contains n.trail.lits) a → IsClosed (full (problem_of (base_of s))) n.trail.lits → BuildingTo s n scs (i + 1)
building_more s scs i sc k n a h lt e ea whole r same goes keys there closed = record { built = subst (λ (xs : List Scope). IsBuilt n xs (base_of s)) next q.0; vars = q.1 }
  where
    q : IsBuilt n (take i scs ++ record { assumed = a; found = sc.found } ∷ []) (base_of s) × (s.vars ≤ n.trail.vars)
    q = closed_more s (take i scs) k n h.built whole h.vars a r same sc.found goes keys there closed

    next : take i scs ++ record { assumed = a; found = sc.found } ∷ [] ≡ take (i + 1) scs
    next = ap (λ (x : Scope). take i scs ++ x ∷ []) (sym (scope_is sc a sc.found (sym ea) refl) ∙ e) ∙ sym (take_more scs i sc lt)
