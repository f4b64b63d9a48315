-- Which keys of a store are its problem's, and what propagation over them adds.
use Rattle.std.proofs.Common.{◌≡◌, ℕ, ◌+◌, ◌-◌, ◌/◌, ◌<◌, ◌≤◌, cond, Option, Some, None, List, [], ◌∷◌, ◌++◌, length, take, drop, get_or, sym, ap, ◌∙◌, subst, arith, ◌⊎◌, inl, inr}
use Rattle.std.specs.List.{All, Contains, slice_get}
use Rattle.std.proofs.lemmas.Bool.{ne_eqb}
use Rattle.std.proofs.lemmas.Option.{get_or_from_slice_get, slice_get_cases}
use Rattle.std.proofs.lemmas.List.{get_or-map, length-map, take_more, take-append-drop, drop_more, get_or_read}
use Rattle.std.proofs.lemmas.List.Elements.{All-append, All-contains, Contains-get_or, Contains-append_left, Contains-push, Contains-push_cases}
use Rattle.gi_lit.specs.Lists.{IsDistinct}
use Rattle.gi_lit.specs.Closure.{IsStep, IsDerivation, IsClosed}
use Rattle.gi_lit.specs.Problem.{full}
use Rattle.gi_lit.specs.Guards.{IsGuardedLit}
use Rattle.gi_lit.proofs.Resting.{rests}
use Rattle.gi_lit.proofs.Distinct.{Contains-head, IsDistinct-apart}
use Rattle.gi_store.specs.StoreView.{Entry, StoreView, Holds, IsLive, IsWithin, problem_of, known_of, entries, keys_of, at_place}
use Rattle.gi_store.specs.Whole.{IsWhole}
use Rattle.gi_store.proofs.Removing.{one_clause}
use Rattle.gi_store.proofs.Editing.{entries_are}
use Rattle.gi_prop.specs.TrailView.{TrailView, StandsAt}
use Rattle.gi_prop.specs.Attached.{Attached, IsAttached, Goes, HasSameKeys, Attaches, AddsForced, AreSettled, IsConflict}
use Rattle.gi_scopes.specs.Under.{base_of, IsReached, AreReached, AreProblemKeys, AddsImplied, IsImpliedAt, IsFalseKey}
use Rattle.gi_scopes.proofs.Base.{base_holds, holds_full, full_holds, live_clause, clause_live, same_full, keys_base}

-- the key at a place
place_is : (xs : List ℕ) (i : ℕ) → at_place xs (i + 1) ≡ slice_get xs i
place_is xs i = ap (λ b. cond b None (slice_get xs (i + 1 - 1))) (ne_eqb (i + 1) 0 (λ e. omega (arith, e))) ∙ ap (λ n. slice_get xs n) (let b : i + 1 - 1 ≡ i = omega arith in b)

pub key_is : (xs : List ℕ) (i key : ℕ) → Some key ≡ at_place xs (i + 1) → (i < length xs) × (get_or xs i 0 ≡ key)
key_is xs i key e = go (slice_get_cases xs i)
  where
    at : slice_get xs i ≡ Some key
    at = sym (e ∙ place_is xs i)

    go : (slice_get xs i ≡ slice_get xs i) × (((x : ℕ) × (i < length xs) × (slice_get xs i ≡ Some x) × (get_or xs i x ≡ x)) ⊎ ((length xs ≤ i) × (slice_get xs i ≡ None))) → (i < length xs) × (get_or xs i 0 ≡ key)
    go h = elim h.1 [
      | inl a ↦ (a.1, get_or_from_slice_get xs i key 0 at)
      | inr b ↦ absurd (let z : Some key ≡ None = sym at ∙ b.1 in cc)
    ]

pub key_there : (xs : List ℕ) (i : ℕ) → i < length xs → ¬ (None ≡ at_place xs (i + 1))
key_there xs i lt e = go (slice_get_cases xs i)
  where
    at : slice_get xs i ≡ None
    at = sym (e ∙ place_is xs i)

    go : (slice_get xs i ≡ slice_get xs i) × (((x : ℕ) × (i < length xs) × (slice_get xs i ≡ Some x) × (get_or xs i x ≡ x)) ⊎ ((length xs ≤ i) × (slice_get xs i ≡ None))) → ⊥
    go h = elim h.1 [
      | inl a ↦ let z : Some a.0 ≡ None = sym a.2 ∙ at in absurd cc
      | inr b ↦ omega (arith, b.0)
    ]

module _ (s : StoreView) where
  pub keys_count : length (keys_of s) ≡ length (entries s)
  keys_count = length-map (entries s) (λ (e : Entry). e.key)

  -- a key with a clause is in use
  pub held_live : (key : ℕ) (c : List ℕ) → Holds s key c → IsLive s key
  held_live key c h = (h.0, rw length-map h.1, get_or-map (λ (x : Entry). x.key) (entries s) h.0 (record { key = key; lits = c }) key h.1 ∙ ap (λ (x : Entry). x.key) h.2)

  -- each stored clause is of variables of the store
  pub holds_within : IsWhole s → (key : ℕ) (c : List ℕ) → Holds s key c → (n : ℕ) → s.vars ≤ n → IsWithin n c
  holds_within w key c h n le = λ k d lt. let r = inside (All-contains (IsWithin s.vars) (full (problem_of s) ++ known_of s) c all there) k d lt in r
    where
      guarded_within : (x : List ℕ) → All (IsGuardedLit (problem_of s)) x → IsWithin s.vars x
      guarded_within x a i d lt = let g = a i d lt in (g.low, g.high)

      all : All (IsWithin s.vars) (full (problem_of s) ++ known_of s)
      all = All-append (IsWithin s.vars) (full (problem_of s)) (known_of s) (λ i d lt. guarded_within (get_or (full (problem_of s)) i d) ((rests (problem_of s) [] w.well_formed).lits i d lt)) w.known

      there : Contains (full (problem_of s) ++ known_of s) c
      there = subst (λ xs. Contains xs c) (entries_are s) (h.0, rw length-map h.1, get_or-map (λ (e : Entry). e.lits) (entries s) h.0 (record { key = key; lits = c }) c h.1 ∙ ap (λ (e : Entry). e.lits) h.2)

      inside : IsWithin s.vars c → IsWithin n c
      inside a i d lt = let r = a i d lt in (r.0, omega (arith, r.1, le))

  pub live_at : (i : ℕ) → i < length (keys_of s) → IsLive s (get_or (keys_of s) i 0)
  live_at i lt = Contains-get_or (keys_of s) i 0 lt

  -- where the attaching of the keys stands
  pub record IsAttaching (t : TrailView) (a : Attached) (i : ℕ) : Type 0 where
    pub goes : Goes a s t
    pub inside : (k : ℕ) → IsAttached a k → Contains (take i (keys_of s)) k
    pub whole : (k : ℕ) → Contains (take i (keys_of s)) k → IsAttached a k

  pub attaching_none : (t : TrailView) (a : Attached) → Goes a s t → ((k : ℕ) → ¬ IsAttached a k) → IsAttaching t a 0
  attaching_none t a g free = record { goes = g; inside = λ k h. absurd (free k h); whole = λ k c. absurd (omega (arith, c.1)) }

  pub attaching_free : IsDistinct (keys_of s) → (t : TrailView) (a : Attached) (i : ℕ) → IsAttaching t a i → (key : ℕ) → i < length (keys_of s) → get_or (keys_of s) i 0 ≡ key → ¬ IsAttached a key
  attaching_free d t a i h key lt e at = IsDistinct-apart (take i (keys_of s)) (drop i (keys_of s)) key (subst IsDistinct (sym (take-append-drop i (keys_of s))) d) (h.inside key at)
      (subst (λ xs. Contains xs key) (sym (drop_more (keys_of s) i 0 lt)) (subst (λ x. Contains (x ∷ drop (i + 1) (keys_of s)) key) (sym e) (Contains-head key (drop (i + 1) (keys_of s)))))

  pub attaching_more : (t : TrailView) (a b : Attached) (i : ℕ) → IsAttaching t a i → (key : ℕ) → i < length (keys_of s) → get_or (keys_of s) i 0 ≡ key → Attaches key a b → Goes b s t → IsAttaching t b (i + 1)
  attaching_more t a b i h key lt e at g = record {
    goes = g;
    inside = λ k x. subst (λ xs. Contains xs k) (sym next) (elim (at.others k x) [
      | inl same ↦ subst (Contains (take i (keys_of s) ++ key ∷ [])) (sym same) (Contains-push (take i (keys_of s)) key)
      | inr old ↦ Contains-append_left (take i (keys_of s)) (key ∷ []) k (h.inside k old)
    ]);
    whole = λ k c. elim (Contains-push_cases (take i (keys_of s)) key k (subst (λ xs. Contains xs k) next c)) [
      | inl old ↦ at.kept k (h.whole k old)
      | inr same ↦ subst (IsAttached b) same at.there
    ];
  }
    where
      next : take (i + 1) (keys_of s) ≡ take i (keys_of s) ++ key ∷ []
      next = take_more (keys_of s) i 0 lt ∙ ap (λ x. take i (keys_of s) ++ x ∷ []) e

  pub attached_all : (t : TrailView) (a : Attached) (i : ℕ) → i ≡ length s.plain + length s.groups → IsAttaching t a i → AreProblemKeys a (base_of s)
  attached_all t a i e h = record {
    inside = λ key at. live_clause s key (subst (λ (ks : List ℕ). Contains ks key) front (h.inside key at));
    whole = λ key c held. h.whole key (subst (λ (ks : List ℕ). Contains ks key) (sym front) (clause_live s key c held));
  }
    where
      front : take i (keys_of s) ≡ keys_of (base_of s)
      front = ap (λ n. take n (keys_of s)) e ∙ keys_base s

  -- what propagation leaves, where the problem's keys are attached
  module _ (d : IsDistinct (keys_of s)) (a : Attached) (keys : AreProblemKeys a (base_of s)) where
    base_clause : (key : ℕ) (c : List ℕ) → IsAttached a key → Holds s key c → Holds (base_of s) key c
    base_clause key c at h = let q = keys.inside key at in subst (Holds (base_of s) key) (one_clause (entries s) d key q.0 c (base_holds s key q.0 q.1) h) q.1

    pub adds_implied : (old new : TrailView) → AddsForced a s old new → AddsImplied (base_of s) old new
    adds_implied old new f = record {
      vars = f.vars;
      level_starts = f.level_starts;
      more = f.more;
      lits = f.lits;
      why = f.why;
      reasons = f.reasons;
      each = λ k le lt. let x = f.each k le lt in record { key = x.key; reason = x.reason; clause = x.clause; held = base_clause x.key x.clause x.attached x.held; forces = x.forces };
    }

    pub settled_closed : (lits : List ℕ) → AreSettled a s lits → IsClosed (full (problem_of (base_of s))) lits
    settled_closed lits h = record { each = λ k x lt. let c : List ℕ = get_or (full (problem_of (base_of s))) k x in let r = full_holds s c (Contains-get_or (full (problem_of (base_of s))) k x lt) in h.each r.0 c (keys.whole r.0 c r.1) (base_holds s r.0 c r.1) }

    pub conflict_false : (lits : List ℕ) (key : ℕ) → IsConflict a s lits key → IsFalseKey s lits key
    conflict_false lits key h = record {
      clause = h.clause;
      held = h.held;
      stands = subst (λ (cs : List (List ℕ)). Contains cs h.clause) (same_full s) (holds_full s key h.clause (base_clause key h.clause h.attached h.held));
      falsified = h.falsified;
    }

    pub attached_live : (key : ℕ) → IsAttached a key → IsLive s key
    attached_live key at = let q = keys.inside key at in held_live key q.0 (base_holds s key q.0 q.1)

    pub attached_base : (key : ℕ) → IsAttached a key → IsLive (base_of s) key
    attached_base key at = let q = keys.inside key at in clause_live s key q.0 q.1

-- the same keys
pub same_problem : (s : StoreView) (a b : Attached) → AreProblemKeys a s → HasSameKeys a b → AreProblemKeys b s
same_problem s a b k same = record { inside = λ key at. k.inside key (same.others key at); whole = λ key c h. same.kept key (k.whole key c h) }

-- the reason that is looked up is the key
pub reason_key : (s : StoreView) (t : TrailView) (at v : ℕ) (r : Option ℕ) (h : IsImpliedAt s t at) → at < length t.lits → v ≡ get_or t.lits at 0 / 2 → ((q : ℕ) → StandsAt t.lits v q → r ≡ get_or t.reasons q None) → r ≡ Some h.key
reason_key s t at v r h lt e told = told at (record { below = lt; names = sym e }) ∙ h.reason

pub same_some : (a b : ℕ) → Some a ≡ Some b → a ≡ b
same_some a b e = cc

-- an item that was read of a list, by the default 0
pub item_is : (xs ys : List ℕ) (i x : ℕ) → i < length ys → xs ≡ ys → x ≡ get_or xs i x → x ≡ get_or ys i 0
item_is xs ys i x lt e is = get_or_read ys i x lt (subst (λ (zs : List ℕ). x ≡ get_or zs i x) e is) 0

-- a trail that was reached under assumptions is a derivation from them
pub under_of : (s : StoreView) (given : List ℕ) (t : TrailView) → AreReached (base_of s) given t (length t.lits) → IsDerivation (full (problem_of s)) given t.lits
under_of s given t r = record { each = λ k lt. step k (r.each k lt) }
  where
    step : (k : ℕ) → IsReached (base_of s) given t k → IsStep (full (problem_of s)) given (take k t.lits) (get_or t.lits k 0)
    step k (inl a) = inl a.1
    step k (inr h) = inr (h.clause, subst (λ (cs : List (List ℕ)). Contains cs h.clause) (same_full s) (holds_full s h.key h.clause h.held), h.forces)

pub reason_none : (key : ℕ) → ¬ (None ≡ Some key)
reason_none key e = cc

-- what has a reason was forced
pub implied_here : (s : StoreView) (given : List ℕ) (t : TrailView) (at v : ℕ) (r : Option ℕ) (key : ℕ) → r ≡ Some key → at < length t.lits → v ≡ get_or t.lits at 0 / 2 → ((q : ℕ) → StandsAt t.lits v q → r ≡ get_or t.reasons q None) → IsReached s given t at → IsImpliedAt s t at
implied_here s given t at v r key some lt e told (inl a) = absurd (reason_none key (sym (told at (record { below = lt; names = sym e }) ∙ a.0) ∙ some))
implied_here s given t at v r key some lt e told (inr h) = h

-- and what is no assumption was too
pub implied_new : (s : StoreView) (given : List ℕ) (t : TrailView) (at : ℕ) → ¬ Contains given (get_or t.lits at 0) → IsReached s given t at → IsImpliedAt s t at
implied_new s given t at n (inl a) = absurd (n a.1)
implied_new s given t at n (inr h) = h
