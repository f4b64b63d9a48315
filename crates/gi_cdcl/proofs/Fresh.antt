-- A clause that is learnt is fresh.
use Rattle.std.proofs.Common.{◌≡◌, ℕ, ◌+◌, ◌<◌, Bool, true, List, [], ◌∷◌, ◌++◌, length, take, map, get_or, sym, ◌∙◌, subst, arith, inl, inr, Option, Some, None, append_assoc}
use Rattle.std.specs.List.{All, Contains}
use Rattle.std.proofs.lemmas.List.{get_or_default, append-nil}
use Rattle.std.proofs.lemmas.List.Elements.{All-contains, All-append, Contains-append_cases, Contains-get_or}
use Rattle.gi_lit.specs.Literals.{opposite}
use Rattle.gi_lit.specs.Truth.{clause_true, Satisfies}
use Rattle.gi_lit.specs.Closure.{IsFalsified, IsSettled, IsClosed, IsStep, IsDerivation, Conflicts}
use Rattle.gi_lit.specs.Closure.IsSettled.{has_true, has_two}
use Rattle.gi_lit.specs.Problem.{Problem, full, without}
use Rattle.gi_lit.specs.Learnt.{IsImplied, IsFresh, IsDerived, AreFresh}
use Rattle.gi_lit.proofs.Literals.{opposite-opposite}
use Rattle.gi_lit.proofs.Closure.{derived_implied}
use Rattle.gi_store.specs.StoreView.{StoreView, problem_of, known_of}
use Rattle.gi_prop.specs.TrailView.{TrailView, IsTrail}
use Rattle.gi_cdcl.specs.Sound.{stored, IsUsed, IsSupported, IsTrailSound}
use Rattle.gi_cdcl.specs.Uip.{IsResolved, IsUip}
use Rattle.gi_cdcl.specs.Uip.IsResolved.{begins, passes, resolves}
use Rattle.gi_prop.proofs.Fronts.{Contains-take}
use Rattle.gi_cdcl.proofs.Lists.{without_has}
use Rattle.gi_cdcl.proofs.Uip.{IsOneHigh, holds_stored, uip_one_high, uip_conflicts}

-- what is known beside the clauses of the problem is implied
pub satisfies_all : (p : Problem) (known : List (List ℕ)) → All (IsImplied p) known → (values : List Bool) → Satisfies values (full p) → Satisfies values (full p ++ known)
satisfies_all p known i values s = record { each = All-append (λ c. clause_true values c ≡ true) (full p) known s.each (λ k d lt. (i k d lt).each values s) }

-- the literals of a clause that was resolved stand in stored clauses
pub resolved_used : (h : StoreView) (t : TrailView) (conflict : List ℕ) (start : ℕ) → All (All (IsUsed h)) (stored h) → Contains (stored h) conflict → (k : ℕ) (c : List ℕ) → IsResolved h t conflict start k c → (m : ℕ) → Contains c m → IsUsed h m
resolved_used h t conflict start u stands k c begins m inside = All-contains (IsUsed h) conflict m (All-contains (All (IsUsed h)) (stored h) conflict u stands) inside
resolved_used h t conflict start u stands k c (passes k' c' r free) m inside = resolved_used h t conflict start u stands (k + 1) c r m inside
resolved_used h t conflict start u stands k e (resolves k' key c reason r at high why holds g) m inside = elim (Contains-append_cases (without (opposite (get_or t.lits k 0)) c) (without (get_or t.lits k 0) reason) m inside) [
  | inl left ↦ let w = without_has _ c m left in resolved_used h t conflict start u stands (k + 1) c r m w.0
  | inr right ↦ let w = without_has _ reason m right in All-contains (IsUsed h) reason m (All-contains (All (IsUsed h)) (stored h) reason u (holds_stored h key reason holds)) w.0
]

module _ (h : StoreView) (t : TrailView) (tr : IsTrail t) (start : ℕ) (closed : IsClosed (stored h) (take start t.lits)) (learnt : List ℕ) (o : IsOneHigh t.lits start learnt) where
  -- each literal of it is false
  pub is_false : (m : ℕ) → Contains learnt m → Contains t.lits (opposite m)
  is_false m k = elim (o.rest m k) [
    | inl e ↦ rw (e, opposite-opposite) (o.top, o.high, get_or_default t.lits o.top (get_or t.lits o.top 0) 0 o.high)
    | inr low ↦ Contains-take start t.lits (opposite m) low
  ]

  no_subset' : (c : List ℕ) → All (Contains learnt) c → IsSettled (take start t.lits) c → ⊥
  no_subset' c sub (has_true l inside known) = tr.consistent.each l (Contains-take start t.lits l known) (is_false l (All-contains (Contains learnt) c l sub inside))
  no_subset' c sub (has_two l m lc mc ne free free') = ne (high l lc free ∙ sym (high m mc free'))
    where
      high : (m : ℕ) → Contains c m → ¬ Contains (take start t.lits) (opposite m) → m ≡ opposite (get_or t.lits o.top 0)
      high m mc f = elim (o.rest m (All-contains (Contains learnt) c m sub mc)) [ inl e ↦ e | inr low ↦ absurd (f low) ]

  pub not_subset : (c : List ℕ) → Contains (stored h) c → ¬ All (Contains learnt) c
  not_subset c k sub = no_subset' c sub (All-contains (λ c. IsSettled (take start t.lits) c) (stored h) c closed.each k)

  pub no_opposites : (m : ℕ) → Contains learnt m → ¬ Contains learnt (opposite m)
  no_opposites m a b = tr.consistent.each (opposite m) (is_false m a) (is_false (opposite m) b)

-- the clauses as the problem and what is known
module _ (h : StoreView) (are : stored h ≡ full (problem_of h) ++ known_of h) (known : All (IsImplied (problem_of h)) (known_of h)) where
  derived_fresh : (c : List ℕ) → Conflicts (stored h) (map opposite c) → IsImplied (problem_of h) c
  derived_fresh c d = record { each = λ values s. derived_implied (full (problem_of h) ++ known_of h) c (subst (λ cs. Conflicts cs (map opposite c)) are d) values (satisfies_all (problem_of h) (known_of h) known values s) }

  -- what a conflict teaches is fresh and derived
  pub uip_fresh : (t : TrailView) → IsTrail t → (conflict : List ℕ) (start : ℕ) (clause : List ℕ) → IsClosed (stored h) (take start t.lits) → All (All (IsUsed h)) (stored h)
      → Contains (stored h) conflict → IsFalsified t.lits conflict → IsUip h t conflict start clause → IsFresh (problem_of h) (known_of h) clause × IsDerived (problem_of h) (known_of h) clause
  uip_fresh t tr conflict start clause closed used stands f u =
      let o = uip_one_high h t conflict start f clause u in
      let d = uip_conflicts h t conflict start f clause u stands in (
        record {
          implied = derived_fresh clause d;
          within = λ k e lt. resolved_used h t conflict start used stands (u.top + 1) u.resolved u.comes (get_or clause k e) ((u.same _).0 (Contains-get_or clause k e lt));
          plain = no_opposites h t tr start closed clause o;
          no_subset = λ c inside. not_subset h t tr start closed clause o c (subst (λ cs. Contains cs c) (sym are) inside);
        },
        subst (λ cs. Conflicts cs (map opposite clause)) are d,
      )

  -- and so is the empty clause, where no clause is empty
  pub empty_fresh : All (λ c. 0 < length c) (stored h) → Conflicts (stored h) [] → IsFresh (problem_of h) (known_of h) [] × IsDerived (problem_of h) (known_of h) []
  empty_fresh full' d = (
    record {
      implied = derived_fresh [] d;
      within = λ k e lt. absurd (omega arith);
      plain = λ m c. absurd (omega (arith, c.1));
      no_subset = λ c inside sub. absurd (nonempty c (All-contains (λ c. 0 < length c) (stored h) c full' (subst (λ cs. Contains cs c) (sym are) inside)) sub);
    },
    subst (λ cs. Conflicts cs []) are d,
  )
    where
      nonempty : (c : List ℕ) → 0 < length c → All (Contains []) c → ⊥
      nonempty c lt sub = let q = sub 0 0 lt in omega (arith, q.1)

-- with no level, the trail derives from nothing
root_derives : (h : StoreView) (t : TrailView) → IsTrailSound h t → length t.level_starts ≡ 0 → IsDerivation (stored h) [] t.lits
root_derives h t s root = record { each = λ k lt. go k (get_or t.reasons k None) (s.each k lt) }
  where
    go : (k : ℕ) (o : Option ℕ) → IsSupported h t k o → IsStep (stored h) [] (take k t.lits) (get_or t.lits k 0)
    go k None u = absurd (let lt : u.0 < length t.level_starts = u.1 in omega arith)
    go k (Some r) u = inr (u.0, holds_stored h r u.0 u.1, u.2)

-- a conflict with no level
pub root_conflict : (h : StoreView) (t : TrailView) (c : List ℕ) → IsTrailSound h t → length t.level_starts ≡ 0 → Contains (stored h) c → IsFalsified t.lits c → Conflicts (stored h) []
root_conflict h t c s root stands f = record { lits = t.lits; derived = root_derives h t s root; clash = inr (c, stands, f) }

-- one more fresh clause
pub AreFresh-push : (p : Problem) (known news : List (List ℕ)) (c : List ℕ) → AreFresh p known news → IsFresh p (known ++ news) c × IsDerived p (known ++ news) c → AreFresh p known (news ++ c ∷ [])
AreFresh-push p known [] c a n = let e : known ++ [] ≡ known = append-nil known in ((subst (λ ks. IsFresh p ks c) e n.0), (subst (λ ks. IsDerived p ks c) e n.1), tt)
AreFresh-push p known (d ∷ ds) c a n = (a.0, a.1, AreFresh-push p (known ++ d ∷ []) ds c a.2 (subst (λ ks. IsFresh p ks c × IsDerived p ks c) (sym (append_assoc known (d ∷ []) ds)) n))
