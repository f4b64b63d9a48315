-- Marks at places of a trail, from which a conflict follows.
use Rattle.std.proofs.Common.{◌≡◌, ℕ, ◌+◌, ◌/◌, ◌<◌, ◌≤◌, Bool, true, false, List, [], ◌∷◌, ◌++◌, length, take, get_or, set, refl, sym, ap, ◌∙◌, subst, arith, ◌⊎◌, inl, inr, length-set, get_or-set_same, get_or-set_other}
use Rattle.std.specs.List.{Contains}
use Rattle.std.proofs.lemmas.Bool.{cases_lt, cases_eq, false≢true}
use Rattle.std.proofs.lemmas.List.{get_or_default, take_all, take_more}
use Rattle.std.proofs.lemmas.List.Elements.{All-contains, Contains-get_or, Contains-append_left, Contains-push, Contains-push_cases}
use Rattle.gi_lit.specs.Literals.{opposite}
use Rattle.gi_lit.specs.Lists.{IsSublist}
use Rattle.gi_lit.specs.Closure.{IsFalsified, Conflicts}
use Rattle.gi_lit.specs.Problem.{Problem, full}
use Rattle.gi_lit.proofs.Literals.{var-opposite}
use Rattle.gi_lit.proofs.Distinct.{Contains-head}
use Rattle.gi_lit.proofs.Closure.{given_derives, IsDerivation-push}
use Rattle.gi_prop.specs.TrailView.{TrailView, StandsAt, IsUnassigned}
use Rattle.gi_store.specs.StoreView.{StoreView, problem_of}
use Rattle.gi_scopes.specs.Traced.{AreSeen, KeepsMarks, IsResolved, Refutes, LeadsToFalse, IsPicked}
use Rattle.gi_scopes.specs.Under.{IsImpliedAt, IsReached, AreReached}
use Rattle.gi_scopes.proofs.Fronts.{place_in_take, sublist_skip, sublist_push}

-- no place of an unassigned variable
pub unseen : (lits : List ℕ) (v q : ℕ) → IsUnassigned lits v → StandsAt lits v q → ⊥
unseen lits v q u s = u q 0 s.below s.names

pub stands_opposite : (lits : List ℕ) (m q : ℕ) → q < length lits → get_or lits q 0 ≡ opposite m → StandsAt lits (m / 2) q
stands_opposite lits m q lt e = record { below = lt; names = ap (λ n. n / 2) e ∙ var-opposite m }

pub KeepsMarks-refl : (seen : List Bool) → KeepsMarks seen seen
KeepsMarks-refl seen = record { count = refl; kept = λ k h. h }

pub KeepsMarks-trans : (a b c : List Bool) → KeepsMarks a b → KeepsMarks b c → KeepsMarks a c
KeepsMarks-trans a b c e f = record { count = f.count ∙ e.count; kept = λ k h. f.kept k (e.kept k h) }

pub KeepsMarks-set : (seen : List Bool) (q : ℕ) → q < length seen → KeepsMarks seen (set seen q true)
KeepsMarks-set seen q lt = record {
  count = length-set seen q true;
  kept = λ k h. elim (cases_eq k q) [ inl same ↦ rw same (get_or-set_same seen q true false lt) | inr other ↦ get_or-set_other seen q k true false other ∙ h ];
}

-- where the marking of a clause's places stands
pub record MarkedTo (lits clause : List ℕ) (i : ℕ) (old new : List Bool) : Type 0 where
  pub kept : KeepsMarks old new
  pub seen : AreSeen lits (take i clause) new

pub marked_none : (lits clause : List ℕ) (old : List Bool) → MarkedTo lits clause 0 old old
marked_none lits clause old = record { kept = KeepsMarks-refl old; seen = λ m q c. absurd (omega (arith, c.1)) }

pub marked_all : (lits clause : List ℕ) (i : ℕ) (old new : List Bool) → length clause ≤ i → MarkedTo lits clause i old new → AreSeen lits clause new
marked_all lits clause i old new le h = subst (λ c. AreSeen lits c new) (take_all i clause le) h.seen

module _ (lits clause : List ℕ) (i : ℕ) (old new : List Bool) (h : MarkedTo lits clause i old new) (x : ℕ) (lt : i < length clause) (item : x ≡ get_or clause i x) where
  first : take (i + 1) clause ≡ take i clause ++ x ∷ []
  first = take_more clause i x lt ∙ ap (λ y. take i clause ++ y ∷ []) (sym item)

  marked_more : (now : List Bool) → KeepsMarks new now → ((q : ℕ) → StandsAt lits (x / 2) q → get_or now q false ≡ true) → MarkedTo lits clause (i + 1) old now
  marked_more now k here = record {
    kept = KeepsMarks-trans old new now h.kept k;
    seen = λ m q c s. elim (Contains-push_cases (take i clause) x m (subst (λ c. Contains c m) first c)) [
      | inl a ↦ k.kept q (h.seen m q a s)
      | inr e ↦ here q (subst (λ y. StandsAt lits (y / 2) q) (sym e) s)
    ];
  }

  pub marked_skip : IsUnassigned lits (x / 2) → MarkedTo lits clause (i + 1) old new
  marked_skip u = marked_more new (KeepsMarks-refl new) (λ q s. absurd (unseen lits (x / 2) q u s))

  pub marked_set : (place : ℕ) → place < length new → ((q : ℕ) → StandsAt lits (x / 2) q → q ≡ place) → MarkedTo lits clause (i + 1) old (set new place true)
  marked_set place within only = marked_more (set new place true) (KeepsMarks-set new place within) (λ q s. rw (only q s) (get_or-set_same new place true false within))

module _ (p : Problem) (lits given c : List ℕ) where
  pub lead_start : (seen : List Bool) → IsFalsified lits c → AreSeen lits c seen → LeadsToFalse p given lits seen c (length lits)
  lead_start seen f s w d der has marked = (d, der, λ k x lt. other (get_or c k x) (Contains-get_or c k x lt))
    where
      other : (m : ℕ) → Contains c m → Contains d (opposite m)
      other m a =
          let o : Contains lits (opposite m) = All-contains (λ m. Contains lits (opposite m)) c m f a in
          let e : get_or lits o.0 0 ≡ opposite m = get_or_default lits o.0 0 (opposite m) o.1 ∙ o.2 in
          subst (Contains d) e (has o.0 o.1 (s m o.0 a (stands_opposite lits m o.0 o.1 e)))

  pub lead_step : (at : ℕ) (old new : List Bool) → at < length lits → LeadsToFalse p given lits old c (at + 1) → KeepsMarks old new → Contains given (get_or lits at 0) ⊎ (get_or old at false ≡ true → IsResolved p lits at new) → LeadsToFalse p given lits new c at
  lead_step at old new lt lead keeps how w d der has marked = go how (get_or old at false) refl
    where
      still : (k : ℕ) → k < length lits → get_or old k false ≡ true → Contains given (get_or lits k 0) → Contains d (get_or lits k 0)
      still k kl s g = marked k kl (keeps.kept k s) g

      unmarked : get_or old at false ≡ false → (k : ℕ) → k < at + 1 → get_or old k false ≡ true → Contains d (get_or lits k 0)
      unmarked e k kl s = elim (cases_lt k at) [
        | inl below ↦ has k below (keeps.kept k s)
        | inr high ↦ let same : k ≡ at = omega arith in absurd (false≢true (sym e ∙ subst (λ n. get_or old n false ≡ true) same s))
      ]

      assumed : Contains given (get_or lits at 0) → get_or old at false ≡ true → (k : ℕ) → k < at + 1 → get_or old k false ≡ true → Contains d (get_or lits k 0)
      assumed g e k kl s = elim (cases_lt k at) [
        | inl below ↦ has k below (keeps.kept k s)
        | inr high ↦ let same : at ≡ k = omega arith in subst (λ n. Contains d (get_or lits n 0)) same (still at lt e g)
      ]

      forced : (r : IsResolved p lits at new) → Refutes p w c
      forced r = lead w (d ++ get_or lits at 0 ∷ []) (IsDerivation-push (full p) w d (get_or lits at 0) der (inr (r.0, r.1, record { stands = r.2.stands; others = λ k y kl. other (get_or r.0 k y) (Contains-get_or r.0 k y kl) })))
          (λ k kl s. elim (cases_lt k at) [
            | inl below ↦ Contains-append_left d (get_or lits at 0 ∷ []) (get_or lits k 0) (has k below (keeps.kept k s))
            | inr high ↦ let same : at ≡ k = omega arith in subst (λ n. Contains (d ++ get_or lits at 0 ∷ []) (get_or lits n 0)) same (Contains-push d (get_or lits at 0))
          ])
          (λ k kl s g. Contains-append_left d (get_or lits at 0 ∷ []) (get_or lits k 0) (still k kl s g))
        where
          other : (m : ℕ) → Contains r.0 m → (m ≡ get_or lits at 0) ⊎ Contains d (opposite m)
          other m a = elim (All-contains (λ m. (m ≡ get_or lits at 0) ⊎ Contains (take at lits) (opposite m)) r.0 m r.2.others a) [
            | inl same ↦ inl same
            | inr b ↦ let q = place_in_take at lits (opposite m) b in inr (subst (Contains d) q.3 (has q.0 q.1 (r.3 m q.0 a (stands_opposite lits m q.0 q.2 q.3))))
          ]

      go : Contains given (get_or lits at 0) ⊎ (get_or old at false ≡ true → IsResolved p lits at new) → (b : Bool) → get_or old at false ≡ b → Refutes p w c
      go h false e = lead w d der (unmarked e) still
      go (inl g) true e = lead w d der (assumed g e) still
      go (inr r) true e = forced (r e)

  pub lead_end : (seen : List Bool) (w : List ℕ) → LeadsToFalse p given lits seen c 0 → IsPicked lits seen given w → Refutes p w c
  lead_end seen w lead picked = lead w w (given_derives (full p) w) (λ k kl s. absurd (omega (arith, kl))) (λ k kl s g. picked.wanted (get_or lits k 0) k g (record { below = kl; names = refl }) s)

  -- a literal of the clause that is an assumption is picked
  pub picked_own : (seen : List Bool) (w : List ℕ) → IsFalsified lits c → AreSeen lits c seen → IsPicked lits seen given w → (m : ℕ) → Contains c m → Contains given m → Contains w m
  picked_own seen w f s picked m a g =
      let o : Contains lits (opposite m) = All-contains (λ m. Contains lits (opposite m)) c m f a in
      let e : get_or lits o.0 0 ≡ opposite m = get_or_default lits o.0 0 (opposite m) o.1 ∙ o.2 in
      let here : StandsAt lits (m / 2) o.0 = stands_opposite lits m o.0 o.1 e in
      picked.wanted m o.0 g here (s m o.0 a here)

-- a clause that is made false conflicts, and so does an assumption
pub refuted_clause : (p : Problem) (w c : List ℕ) → Contains (full p) c → Refutes p w c → Conflicts (full p) w
refuted_clause p w c a r = record { lits = r.0; derived = r.1; clash = inr (c, a, r.2) }

pub refuted_literal : (p : Problem) (w : List ℕ) (l : ℕ) → Contains w l → Refutes p w (l ∷ []) → Conflicts (full p) w
refuted_literal p w l a r = record {
  lits = r.0 ++ l ∷ [];
  derived = IsDerivation-push (full p) w r.0 l r.1 (inl a);
  clash = inl (l, Contains-push r.0 l, Contains-append_left r.0 (l ∷ []) (opposite l) (All-contains (λ m. Contains r.0 (opposite m)) (l ∷ []) l r.2 (Contains-head l [])));
}

-- where the tracing stands
pub record TracedTo (s : StoreView) (t : TrailView) (clause : List ℕ) (seen : List Bool) (at : ℕ) : Type 0 where
  pub count : length seen ≡ length t.lits
  pub high : at ≤ length t.lits
  pub own : AreSeen t.lits clause seen
  pub leads : (given : List ℕ) → AreReached s given t (length t.lits) → LeadsToFalse (problem_of s) given t.lits seen clause at

pub AreSeen-kept : (lits clause : List ℕ) (old new : List Bool) → AreSeen lits clause old → KeepsMarks old new → AreSeen lits clause new
AreSeen-kept lits clause old new a k m q c s = k.kept q (a m q c s)

-- a place more is traced
pub traced_more : (s : StoreView) (t : TrailView) (clause : List ℕ) (old new : List Bool) (at : ℕ) → at < length t.lits → TracedTo s t clause old (at + 1) → KeepsMarks old new → (get_or old at false ≡ true → IsImpliedAt s t at → IsResolved (problem_of s) t.lits at new) → TracedTo s t clause new at
traced_more s t clause old new at lt h k resolved = record {
  count = k.count ∙ h.count;
  high = omega arith;
  own = AreSeen-kept t.lits clause old new h.own k;
  leads = λ given r. lead_step (problem_of s) t.lits given clause at old new lt (h.leads given r) k (how given (r.each at lt));
}
  where
    how : (given : List ℕ) → IsReached s given t at → Contains given (get_or t.lits at 0) ⊎ (get_or old at false ≡ true → IsResolved (problem_of s) t.lits at new)
    how given (inl a) = inl a.1
    how given (inr i) = inr (λ e. resolved e i)

-- where the choice of assumptions stands
pub record PickedTo (lits : List ℕ) (seen : List Bool) (given : List ℕ) (i : ℕ) (w : List ℕ) : Type 0 where
  pub some : IsSublist w (take i given)
  pub picked : IsPicked lits seen (take i given) w

pub picked_none : (lits : List ℕ) (seen : List Bool) (given : List ℕ) → PickedTo lits seen given 0 []
picked_none lits seen given = record { some = tt; picked = record { wanted = λ l q c. absurd (omega (arith, c.1)) } }

module _ (lits : List ℕ) (seen : List Bool) (given : List ℕ) (i : ℕ) (w : List ℕ) (h : PickedTo lits seen given i w) (x : ℕ) (lt : i < length given) (item : x ≡ get_or given i x) where
  next : take (i + 1) given ≡ take i given ++ x ∷ []
  next = take_more given i x lt ∙ ap (λ y. take i given ++ y ∷ []) (sym item)

  pub picked_push : PickedTo lits seen given (i + 1) (w ++ x ∷ [])
  picked_push = record {
    some = subst (IsSublist (w ++ x ∷ [])) (sym next) (sublist_push w (take i given) x h.some);
    picked = record {
      wanted = λ l q c s e. elim (Contains-push_cases (take i given) x l (subst (λ xs. Contains xs l) next c)) [
        | inl a ↦ Contains-append_left w (x ∷ []) l (h.picked.wanted l q a s e)
        | inr same ↦ subst (Contains (w ++ x ∷ [])) same (Contains-push w x)
      ];
    };
  }

  pub picked_skip : ((q : ℕ) → StandsAt lits (x / 2) q → get_or seen q false ≡ false) → PickedTo lits seen given (i + 1) w
  picked_skip unmarked = record {
    some = subst (IsSublist w) (sym next) (sublist_skip w (take i given) x h.some);
    picked = record {
      wanted = λ l q c s e. elim (Contains-push_cases (take i given) x l (subst (λ xs. Contains xs l) next c)) [
        | inl a ↦ h.picked.wanted l q a s e
        | inr same ↦ absurd (false≢true (sym (unmarked q (subst (λ y. StandsAt lits (y / 2) q) (sym same) s)) ∙ e))
      ];
    };
  }
