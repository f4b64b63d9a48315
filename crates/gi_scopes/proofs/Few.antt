-- What was listed is in a trail that is closed, and how many literals a test makes true beyond it.
use Rattle.std.proofs.Common.{◌≡◌, ◌≢◌, ℕ, ◌+◌, ◌-◌, ◌*◌, ◌/◌, ◌<◌, ◌≤◌, Bool, true, false, cond, not, eqb, nat_eq, List, [], ◌∷◌, ◌++◌, Option, Some, None, length, take, get_or, zero, suc, refl, sym, ap, ◌∙◌, subst, arith, ◌⊎◌, inl, inr, length-append, add-one}
use Rattle.std.specs.List.{All, Contains, take_while, prefix_len}
use Rattle.std.specs.Cmp.{nat_eq_equiv}
use Rattle.std.specs.Option.{IsSome}
use Rattle.std.proofs.lemmas.Bool.{cases_lt, cases_eq, ne_eqb, eq-eqb, false≢true, not-true}
use Rattle.std.proofs.lemmas.Bool.Decides.{Decides-eqb}
use Rattle.std.proofs.lemmas.List.{get_or_default, get_or_append_left, get_or-append_right, take_all, length-map}
use Rattle.std.proofs.lemmas.List.Sums.{prefix_len_passes}
use Rattle.std.proofs.lemmas.List.Elements.{All-nil, All-contains, All-more, All-append, Contains-get_or, Contains-append_left, Contains-append_right, Contains-append_cases}
use Rattle.std.proofs.lemmas.Map.Keys.{IsDistinct-from_apart}
use Rattle.std.proofs.lemmas.Map.Made.{length-le_from_is_member, is_member-Decides}
use Rattle.gi_lit.specs.Literals.{opposite}
use Rattle.gi_lit.specs.Closure.{IsStep, IsDerivation, IsClosed, IsConsistent, IsSettled, has_true, has_two}
use Rattle.gi_lit.specs.Problem.{Problem, has, full, negatives, IsWellFormed, IsProblemVar}
use Rattle.gi_lit.specs.Guards.{IsGuardedLit}
use Rattle.gi_lit.proofs.Lists.{Contains-map}
use Rattle.gi_lit.proofs.Resting.{problem_or_guard}
use Rattle.gi_lit.proofs.Vars.{lacks_none}
use Rattle.gi_store.specs.StoreView.{StoreView, problem_of}
use Rattle.gi_model.specs.State.{Scope, listed_in, scope_assumed, scope_listed}
use Rattle.gi_model.specs.Tests.{before}
use Rattle.gi_scopes.specs.Open.{AreExplained, IsReasoned}
use Rattle.gi_scopes.specs.Kept.{AreEarlier}
use Rattle.gi_scopes.specs.Under.{base_of}
use Rattle.gi_scopes.specs.Built.{IsFor, kept_lits}
use Rattle.gi_scopes.specs.declared.kept.Kept.{Kept}
use Rattle.gi_scopes.specs.Listing.{IsListing}
use Rattle.gi_scopes.proofs.Base.{same_full}
use Rattle.gi_scopes.proofs.Leveling.{built_there, built_closed}
use Rattle.gi_scopes.proofs.Fronts.{place_in_take, front_contains}
use Rattle.gi_scopes.proofs.Shadowing.{full_lit}

-- what comes before a listed literal is assumed, or is listed at a lower place
pub before_cases : (scs : List Scope) (m x k : ℕ) → k < length (scope_listed scs) → get_or (scope_listed scs) k 0 ≡ m → Contains (before scs m) x → Contains (scope_assumed scs) x ⊎ Contains (take k (scope_listed scs)) x
unfolding before scope_assumed scope_listed
before_cases [] m x k lt e c = absurd (omega (arith, lt))
before_cases (sc ∷ scs) m x k lt e c = elim (Contains-append_cases sc.assumed (front ++ rest (has own m)) x c) [
  | inl a ↦ inl (Contains-append_left sc.assumed (scope_assumed scs) x a)
  | inr b ↦ elim (Contains-append_cases front (rest (has own m)) x b) [
    | inl f ↦ inr (in_front f)
    | inr r ↦ behind (λ j jl je jc. before_cases scs m x j jl je jc) (has own m) refl r
  ]
]
  where
    own : List ℕ
    own = listed_in sc.found

    all : List ℕ
    all = own ++ scope_listed scs

    front : List ℕ
    front = take_while (λ l. not (eqb l m)) own

    rest : Bool → List ℕ
    rest b = cond b [] (before scs m)

    in_front : Contains front x → Contains (take k all) x
    in_front f =
        let q = place_in_take (prefix_len (λ l. not (eqb l m)) own) own x f in
        let here : get_or all q.0 0 ≡ x = get_or_append_left own (scope_listed scs) 0 q.0 q.2 ∙ q.3 in
        elim (cases_lt q.0 k) [
          | inl low ↦ subst (Contains (take k all)) here (front_contains k all q.0 low (omega (arith, q.2, length-append own (scope_listed scs))))
          | inr le ↦
              let kp : k < prefix_len (λ l. not (eqb l m)) own = omega (arith, le, q.1) in
              let p : not (eqb (get_or own k 0) m) ≡ true = prefix_len_passes (λ l. not (eqb l m)) own k 0 kp in
              let at : get_or own k 0 ≡ m = sym (get_or_append_left own (scope_listed scs) 0 k (omega (arith, le, q.2))) ∙ e in
              absurd (false≢true (sym (not-true (eqb (get_or own k 0) m) p) ∙ eq-eqb (get_or own k 0) m at))
        ]

    behind : ((j : ℕ) → j < length (scope_listed scs) → get_or (scope_listed scs) j 0 ≡ m → Contains (before scs m) x → Contains (scope_assumed scs) x ⊎ Contains (take j (scope_listed scs)) x) → (b : Bool) → has own m ≡ b → Contains (rest b) x → Contains (sc.assumed ++ scope_assumed scs) x ⊎ Contains (take k all) x
    behind rec true h r = absurd (omega (arith, r.1))
    behind rec false h r = elim (cases_lt k (length own)) [
      | inl low ↦ absurd (lacks_none own m h (subst (Contains own) (sym (get_or_append_left own (scope_listed scs) 0 k low) ∙ e) (Contains-get_or own k 0 low)))
      | inr le ↦
          let lower : k - length own < length (scope_listed scs) = omega (arith, lt, le, length-append own (scope_listed scs)) in
          let at : get_or (scope_listed scs) (k - length own) 0 ≡ m = sym (get_or-append_right own (scope_listed scs) (length own) k 0 refl le) ∙ e in
          elim (rec (k - length own) lower at r) [
            | inl a ↦ inl (Contains-append_right sc.assumed (scope_assumed scs) x a)
            | inr t ↦
                let q = place_in_take (k - length own) (scope_listed scs) x t in
                let here : get_or all (length own + q.0) 0 ≡ x = get_or-append_right own (scope_listed scs) (length own) (length own + q.0) 0 refl (omega arith) ∙ ap (λ n. get_or (scope_listed scs) n 0) (let z : length own + q.0 - length own ≡ q.0 = omega arith in z) ∙ q.3 in
                inr (subst (Contains (take k all)) here (front_contains k all (length own + q.0) (omega (arith, q.1, le)) (omega (arith, q.2, length-append own (scope_listed scs)))))
          ]
    ]

-- a literal of a clause whose others are false is in a closed trail
settled_has : (lits c : List ℕ) (m : ℕ) → IsConsistent lits → IsSettled lits c → ((l : ℕ) → Contains c l → l ≢ m → Contains lits (opposite l)) → Contains lits m
settled_has lits c m free (has_true l cl h) others = elim (cases_eq l m) [
  | inl same ↦ subst (Contains lits) same h
  | inr ne ↦ absurd (free.each l h (others l cl ne))
]
settled_has lits c m free (has_two a b ca cb ne na nb) others = elim (cases_eq a m) [
  | inl same ↦ absurd (nb (others b cb (λ e. ne (same ∙ sym e))))
  | inr other ↦ absurd (na (others a ca other))
]

-- what scopes list follows from what they assume
module _ (p : Problem) (scs : List Scope) (rss : List (List ℕ)) (a : AreExplained p scs rss) (b : AreEarlier scs rss) (lits : List ℕ) (closed : IsClosed (full p) lits) (free : IsConsistent lits) (assumed : All (Contains lits) (scope_assumed scs)) where
  follows : (k : ℕ) → k < length (scope_listed scs) → All (Contains lits) (take k (scope_listed scs)) → Contains lits (get_or (scope_listed scs) k 0)
  follows k lt lower =
      let m : ℕ = get_or (scope_listed scs) k 0 in
      let r : IsReasoned p (get_or (scope_listed scs) k 0) (get_or rss k []) = a.each k lt in
      settled_has lits r.clause (get_or (scope_listed scs) k 0) free (All-contains (IsSettled lits) (full p) r.clause closed.each r.stands) (λ l c ne. reason (opposite l) (All-contains (Contains (before scs (get_or (scope_listed scs) k 0))) (get_or rss k []) (opposite l) (b.each k lt) ((r.others (opposite l)).1 (l, c, ne, refl))))
    where
      reason : (x : ℕ) → Contains (before scs (get_or (scope_listed scs) k 0)) x → Contains lits x
      reason x c = elim (before_cases scs (get_or (scope_listed scs) k 0) x k lt refl c) [
        | inl g ↦ All-contains (Contains lits) (scope_assumed scs) x assumed g
        | inr l ↦ All-contains (Contains lits) (take k (scope_listed scs)) x lower l
      ]

  listed_to : (k : ℕ) → k ≤ length (scope_listed scs) → All (Contains lits) (take k (scope_listed scs))
  listed_to zero le = All-nil (Contains lits)
  listed_to (suc k) le = rw (← add-one) (All-more (Contains lits) (scope_listed scs) k 0 (omega arith) (listed_to k (omega arith)) (follows k (omega arith) (listed_to k (omega arith))))

  pub listed_there : All (Contains lits) (scope_listed scs)
  listed_there = subst (All (Contains lits)) (take_all (length (scope_listed scs)) (scope_listed scs) (omega arith)) (listed_to (length (scope_listed scs)) (omega arith))

-- different literals that all stand in a list are no more than it has
no_more : (xs ys : List ℕ) → ((i j : ℕ) → i < length xs → j < length xs → get_or xs i 0 ≡ get_or xs j 0 → i ≡ j) → All (Contains ys) xs → length xs ≤ length ys
no_more xs ys apart inside = length-le_from_is_member nat_eq_equiv xs ys (IsDistinct-from_apart nat_eq xs different) (λ q h. (is_member-Decides Decides-eqb ys q).1 (All-contains (Contains ys) xs q inside ((is_member-Decides Decides-eqb xs q).0 h)))
  where
    different : (i j d : ℕ) → i < j → j < length xs → nat_eq (get_or xs i d) (get_or xs j d) ≡ false
    different i j d lt jl = ne_eqb (get_or xs i d) (get_or xs j d) (λ e.
        let il : i < length xs = omega (arith, lt, jl) in
        let same : i ≡ j = apart i j il jl (get_or_default xs i 0 d il ∙ e ∙ get_or_default xs j d 0 jl) in
        omega (arith, lt, same))

-- what a trail has beyond another that has all that was assumed and listed before: each literal is listed, assumed or a guard's
module _ (p : Problem) (w : IsWellFormed p) (given lits : List ℕ) (u : IsDerivation (full p) given lits) (apart : (i j : ℕ) → i < length lits → j < length lits → get_or lits i 0 / 2 ≡ get_or lits j 0 / 2 → i ≡ j) (earlier ls : List ℕ) (rss : List (List ℕ)) (h : IsListing p given earlier lits ls rss)
    (old more outer assumed : List ℕ) (split : lits ≡ old ++ more) (all : given ≡ outer ++ assumed) (there : All (Contains old) (outer ++ earlier)) where
  count : length lits ≡ length old + length more
  count = ap length split ∙ length-append old more

  at_old : (k : ℕ) → k < length old → get_or lits k 0 ≡ get_or old k 0
  at_old k lt = ap (λ xs. get_or xs k 0) split ∙ get_or_append_left old more 0 k lt

  at_more : (k : ℕ) → get_or lits (length old + k) 0 ≡ get_or more k 0
  at_more k = ap (λ xs. get_or xs (length old + k) 0) split ∙ get_or-append_right old more (length old) (length old + k) 0 refl (omega arith) ∙ ap (λ n. get_or more n 0) (let z : length old + k - length old ≡ k = omega arith in z)

  no_old : (k : ℕ) → k < length more → ¬ Contains old (get_or more k 0)
  no_old k lt c =
      let here : get_or old c.0 0 ≡ get_or more k 0 = get_or_default old c.0 0 (get_or more k 0) c.1 ∙ c.2 in
      let same : c.0 ≡ length old + k = apart c.0 (length old + k) (omega (arith, count, c.1)) (omega (arith, count, lt)) (ap (λ n. n / 2) (at_old c.0 c.1 ∙ here ∙ sym (at_more k))) in
      omega (arith, same, c.1)

  abbrev Known : List ℕ
  Known = ls ++ (assumed ++ negatives p.active)

  of_given : (m : ℕ) → ¬ Contains old m → Contains given m → Contains Known m
  of_given m n c = elim (Contains-append_cases outer assumed m (subst (λ xs. Contains xs m) all c)) [
    | inl o ↦ absurd (n (All-contains (Contains old) (outer ++ earlier) m there (Contains-append_left outer earlier m o)))
    | inr a ↦ Contains-append_right ls (assumed ++ negatives p.active) m (Contains-append_left assumed (negatives p.active) m a)
  ]

  of_covered : (m : ℕ) → ¬ Contains old m → Contains (given ++ (earlier ++ ls)) m → Contains Known m
  of_covered m n c = elim (Contains-append_cases given (earlier ++ ls) m c) [
    | inl g ↦ of_given m n g
    | inr r ↦ elim (Contains-append_cases earlier ls m r) [
      | inl e ↦ absurd (n (All-contains (Contains old) (outer ++ earlier) m there (Contains-append_right outer earlier m e)))
      | inr l ↦ Contains-append_left ls (assumed ++ negatives p.active) m l
    ]
  ]

  known : (k : ℕ) → k < length more → Contains Known (get_or more k 0)
  known k lt = subst (Contains Known) (at_more k) (go (u.each (length old + k) (omega (arith, count, lt))))
    where
      m : ℕ
      m = get_or lits (length old + k) 0

      n : ¬ Contains old (get_or lits (length old + k) 0)
      n = subst (λ x. ¬ Contains old x) (sym (at_more k)) (no_old k lt)

      in_lits : Contains lits (get_or lits (length old + k) 0)
      in_lits = Contains-get_or lits (length old + k) 0 (omega (arith, count, lt))

      go : IsStep (full p) given (take (length old + k) lits) (get_or lits (length old + k) 0) → Contains Known (get_or lits (length old + k) 0)
      go (inl g) = of_given (get_or lits (length old + k) 0) n g
      go (inr f) =
          let q : IsGuardedLit p (get_or lits (length old + k) 0) = full_lit p w given lits u f.0 (get_or lits (length old + k) 0) f.1 f.2.stands in
          elim (problem_or_guard p (get_or lits (length old + k) 0) q) [
            | inl v ↦ of_covered (get_or lits (length old + k) 0) n (All-contains (λ m. IsProblemVar p (m / 2) → Contains (given ++ (earlier ++ ls)) m) lits (get_or lits (length old + k) 0) h.covers in_lits v)
            | inr g ↦ Contains-append_right ls (assumed ++ negatives p.active) (get_or lits (length old + k) 0) (Contains-append_right assumed (negatives p.active) (get_or lits (length old + k) 0) (subst (Contains (negatives p.active)) (sym (q.negative g)) (Contains-map (λ g. 2 * g + 1) p.active (get_or lits (length old + k) 0 / 2) g)))
          ]

  different : (i j : ℕ) → i < length more → j < length more → get_or more i 0 ≡ get_or more j 0 → i ≡ j
  different i j il jl e =
      let same : length old + i ≡ length old + j = apart (length old + i) (length old + j) (omega (arith, count, il)) (omega (arith, count, jl)) (ap (λ n. n / 2) (at_more i ∙ e ∙ sym (at_more j))) in
      omega (arith, same)

  pub few_more : length lits ≤ length old + (length ls + length assumed + length p.active)
  few_more =
      let le : length more ≤ length Known = no_more more Known different (λ k d lt. subst (Contains Known) (get_or_default more k 0 d lt) (known k lt)) in
      omega (arith, count, le, length-append ls (assumed ++ negatives p.active), length-append assumed (negatives p.active), length-map p.active (λ g. 2 * g + 1))

nothing : (xs : List ℕ) → All (Contains xs) (scope_assumed [] ++ scope_listed [])
unfolding scope_assumed scope_listed
nothing xs = All-nil (Contains xs)

-- where a trail is kept it has what the scopes assume and list; where no scope is open that is nothing
pub kept_knows : (s : StoreView) (scs : List Scope) (rss : List (List ℕ)) (k : Option Kept) → IsFor k scs (base_of s) → IsSome k ⊎ (scs ≡ []) → AreExplained (problem_of s) scs rss → AreEarlier scs rss → IsConsistent (kept_lits k) → All (Contains (kept_lits k)) (scope_assumed scs ++ scope_listed scs)
kept_knows s scs rss (Some k) h some a e free = All-append (Contains k.trail.lits) (scope_assumed scs) (scope_listed scs) there (listed_there (problem_of s) scs rss a e k.trail.lits closed free there)
  where
    there : All (Contains k.trail.lits) (scope_assumed scs)
    there = built_there (base_of s) scs k h.0

    closed : IsClosed (full (problem_of s)) k.trail.lits
    closed = subst (λ (cs : List (List ℕ)). IsClosed cs k.trail.lits) (same_full s) (built_closed (base_of s) scs k h.0)
kept_knows s scs rss None b (inl some) a e free = absurd (false≢true some)
kept_knows s scs rss None b (inr none) a e free = subst (λ (xs : List Scope). All (Contains []) (scope_assumed xs ++ scope_listed xs)) (sym none) (nothing [])
