-- The reasons of one literal, marks of literals that are listed, and the list with its reasons as it grows.
use Rattle.std.proofs.Common.{◌≡◌, ◌≢◌, ℕ, ◌+◌, ◌-◌, ◌*◌, ◌/◌, ◌<◌, ◌≤◌, Bool, true, false, ◌||◌, nat_eq, List, [], ◌∷◌, ◌++◌, length, take, get_or, set, replicate, refl, sym, ap, ◌∙◌, subst, arith, ◌⊎◌, inl, inr, append_assoc, length-append, length-set, get_or-set_same, get_or-set_other}
use Rattle.std.specs.List.{All, Contains}
use Rattle.std.proofs.lemmas.Bool.{cases_lt, cases_eq, ne_eqb, false≢true}
use Rattle.std.proofs.lemmas.List.{append-nil, take_more, take_at, take-append-le, get_or_append_left, get_or_push, get_or-replicate, length-replicate, get_or_past, take_all}
use Rattle.std.proofs.lemmas.List.Elements.{All-nil, All-push, All-weaker, All-contains, All-contains_itself, All-more, Contains-get_or, Contains-append_left, Contains-push, Contains-push_cases}
use Rattle.std.proofs.lemmas.List.Folds.{list_any-append}
use Rattle.gi_lit.specs.Literals.{opposite}
use Rattle.gi_lit.specs.Closure.{IsDerivation}
use Rattle.gi_lit.specs.Problem.{Problem, full, has, IsWellFormed, IsProblemVar}
use Rattle.gi_lit.proofs.Literals.{var-opposite}
use Rattle.gi_lit.proofs.Agreeing.{opposite-odd}
use Rattle.gi_lit.proofs.Distinct.{IsDistinct-push}
use Rattle.gi_lit.specs.Guards.{IsGuardedLit}
use Rattle.gi_lit.proofs.Resting.{problem_or_guard}
use Rattle.gi_lit.proofs.Vars.{Contains-from_has, has-from_Contains, lacks_none}
use Rattle.gi_store.specs.StoreView.{StoreView, problem_of}
use Rattle.gi_prop.specs.TrailView.{TrailView}
use Rattle.gi_model.specs.State.{Scope, listed_in, scope_listed}
use Rattle.gi_scopes.specs.Open.{IsReasoned}
use Rattle.gi_scopes.specs.Under.{base_of, IsImpliedAt}
use Rattle.gi_scopes.specs.Listing.{AreOthers, AreNoted, Notes, MarksPlaces, ArePlaces, AreBehind, AreKnown, IsListing}
use Rattle.gi_scopes.proofs.Base.{same_full, holds_full}
use Rattle.gi_scopes.proofs.Fronts.{place_in_take, Contains-take}
use Rattle.gi_scopes.proofs.Listing.{scope_listed-more}
use Rattle.gi_scopes.proofs.Shadowing.{full_lit, guard_given}

-- one literal is m itself, or noted already
pub notes_none : (m l : ℕ) (rs : List ℕ) → (l ≢ m → Contains rs (opposite l)) → Notes m l rs rs
notes_none m l rs there = record { kept = All-contains_itself rs; there = there; only = λ k d lt. inl (Contains-get_or rs k d lt); distinct = λ d. d }

pub notes_one : (m l : ℕ) (rs : List ℕ) → l ≢ m → ¬ Contains rs (opposite l) → Notes m l rs (rs ++ opposite l ∷ [])
notes_one m l rs ne free = record {
  kept = λ k d lt. Contains-append_left rs (opposite l ∷ []) (get_or rs k d) (Contains-get_or rs k d lt);
  there = λ _. Contains-push rs (opposite l);
  only = All-push (λ r. Contains rs r ⊎ ((l ≢ m) × (r ≡ opposite l))) rs (opposite l) (λ k d lt. inl (Contains-get_or rs k d lt)) (inr (ne, refl));
  distinct = λ d. IsDistinct-push rs (opposite l) free d;
}

pub others_none : (m : ℕ) → AreOthers [] m []
others_none m = record { others = λ r. (λ c. absurd (omega (arith, c.1)), λ x. absurd (let c = x.1 in omega (arith, c.1))); distinct = tt }

pub others_more : (clause : List ℕ) (m i x : ℕ) (old new : List ℕ) → i < length clause → x ≡ get_or clause i x → AreOthers (take i clause) m old → Notes m x old new → AreOthers (take (i + 1) clause) m new
others_more clause m i x old new lt item h n = record {
  others = λ r. (
    λ c. elim (All-contains (λ r. Contains old r ⊎ ((x ≢ m) × (r ≡ opposite x))) new r n.only c) [
      | inl a ↦ let y = (h.others r).0 a in (y.0, subst (λ c. Contains c y.0) (sym next) (Contains-append_left (take i clause) (x ∷ []) y.0 y.1), y.2, y.3)
      | inr b ↦ (x, subst (λ c. Contains c x) (sym next) (Contains-push (take i clause) x), b.0, b.1)
    ],
    λ y. elim (Contains-push_cases (take i clause) x y.0 (subst (λ c. Contains c y.0) next y.1)) [
      | inl a ↦ All-contains (Contains new) old r n.kept ((h.others r).1 (y.0, a, y.2, y.3))
      | inr same ↦ subst (Contains new) (ap opposite same ∙ sym y.3) (n.there (λ e. y.2 (sym same ∙ e)))
    ],
  );
  distinct = n.distinct h.distinct;
}
  where
    next : take (i + 1) clause ≡ take i clause ++ x ∷ []
    next = take_more clause i x lt ∙ ap (λ y. take i clause ++ y ∷ []) (sym item)

-- the reasons of a literal that a clause forced
pub reasoned_of : (s : StoreView) (t : TrailView) (at : ℕ) (h : IsImpliedAt (base_of s) t at) (rs : List ℕ) → AreOthers h.clause (get_or t.lits at 0) rs → IsReasoned (problem_of s) (get_or t.lits at 0) rs
reasoned_of s t at h rs o = record { clause = h.clause; stands = subst (λ (cs : List (List ℕ)). Contains cs h.clause) (same_full s) (holds_full s h.key h.clause h.held); holds = h.forces.stands; others = o.others; distinct = o.distinct }

pub before_of : (s : StoreView) (t : TrailView) (at : ℕ) (h : IsImpliedAt s t at) (rs : List ℕ) → AreOthers h.clause (get_or t.lits at 0) rs → All (Contains (take at t.lits)) rs
before_of s t at h rs o k d lt =
    let y = (o.others (get_or rs k d)).0 (Contains-get_or rs k d lt) in
    elim (All-contains (λ m. (m ≡ get_or t.lits at 0) ⊎ Contains (take at t.lits) (opposite m)) h.clause y.0 h.forces.others y.1) [
      | inl same ↦ absurd (y.2 same)
      | inr b ↦ subst (Contains (take at t.lits)) (sym y.3) b
    ]

or_false : (b : Bool) → (b || false) ≡ b
or_false true = refl
or_false false = refl

or_comm : (a b : Bool) → (a || b) ≡ (b || a)
or_comm true true = refl
or_comm true false = refl
or_comm false true = refl
or_comm false false = refl

has-push_other : (xs : List ℕ) (y x : ℕ) → x ≢ y → has (xs ++ y ∷ []) x ≡ has xs x
has-push_other xs y x ne = list_any-append (nat_eq x) xs (y ∷ []) ∙ ap (λ b. has xs x || (b || false)) (ne_eqb x y ne) ∙ or_false (has xs x)

-- one code more is marked
pub noted_push : (codes : List ℕ) (marks : List Bool) (y : ℕ) → AreNoted codes marks → y < length marks → AreNoted (codes ++ y ∷ []) (set marks y true)
noted_push codes marks y h within = record {
  each = λ x lt. elim (cases_eq x y) [
    | inl same ↦ rw same (get_or-set_same marks y true false within) ∙ sym (has-from_Contains (codes ++ y ∷ []) x (subst (Contains (codes ++ y ∷ [])) (sym same) (Contains-push codes y)))
    | inr ne ↦ get_or-set_other marks y x true false ne ∙ h.each x (omega (arith, lt, length-set marks y true)) ∙ sym (has-push_other codes y x ne)
  ];
}

pub noted_none : (n : ℕ) (marks : List Bool) → marks ≡ replicate n false → AreNoted [] marks
noted_none n marks e = record { each = λ x lt. ap (λ ms. get_or ms x false) e ∙ get_or-replicate n x false false (omega (arith, lt, ap length e, length-replicate n false)) }

pub noted_nothing : AreNoted [] []
noted_nothing = record { each = λ x lt. absurd (omega (arith, lt)) }

-- the marks that are left once the first codes are unmarked
pub record UnmarkedTo (codes : List ℕ) (i : ℕ) (marks : List Bool) : Type 0 where
  pub rest : (x : ℕ) → get_or marks x false ≡ true → Contains codes x × ¬ Contains (take i codes) x

pub unmarked_none : (codes : List ℕ) (marks : List Bool) → AreNoted codes marks → UnmarkedTo codes 0 marks
unmarked_none codes marks h = record {
  rest = λ x e. elim (cases_lt x (length marks)) [
    | inl lt ↦ (Contains-from_has codes x (sym (h.each x lt) ∙ e), λ c. omega (arith, c.1))
    | inr past ↦ absurd (false≢true (sym (get_or_past marks x false past) ∙ e))
  ];
}

module _ (codes : List ℕ) (i : ℕ) (lt : i < length codes) (marks : List Bool) (h : UnmarkedTo codes i marks) where
  front : take (i + 1) codes ≡ take i codes ++ get_or codes i 0 ∷ []
  front = take_more codes i 0 lt

  other_left : (x : ℕ) → x ≢ get_or codes i 0 → get_or marks x false ≡ true → Contains codes x × ¬ Contains (take (i + 1) codes) x
  other_left x ne e = ((h.rest x e).0, λ c. elim (Contains-push_cases (take i codes) (get_or codes i 0) x (subst (λ xs. Contains xs x) front c)) [ inl a ↦ (h.rest x e).1 a | inr same ↦ ne (sym same) ])

  pub unmarked_skip : length marks ≤ get_or codes i 0 → UnmarkedTo codes (i + 1) marks
  unmarked_skip past = record { rest = λ x e. other_left x (λ same. false≢true (sym (get_or_past marks x false (omega (arith, same, past))) ∙ e)) e }

  pub unmarked_set : get_or codes i 0 < length marks → UnmarkedTo codes (i + 1) (set marks (get_or codes i 0) false)
  unmarked_set within = record {
    rest = λ x e. elim (cases_eq x (get_or codes i 0)) [
      | inl same ↦ absurd (false≢true (sym (rw same (get_or-set_same marks (get_or codes i 0) false false within)) ∙ e))
      | inr ne ↦ other_left x ne (sym (get_or-set_other marks (get_or codes i 0) x false false ne) ∙ e)
    ];
  }

pub unmarked_all : (codes : List ℕ) (i : ℕ) (marks : List Bool) → length codes ≤ i → UnmarkedTo codes i marks → AreNoted [] marks
unmarked_all codes i marks le h = record { each = λ x lt. unmarked (get_or marks x false) (λ e. let r = h.rest x e in r.1 (subst (λ xs. Contains xs x) (sym (take_all i codes le)) r.0)) }
  where
    unmarked : (b : Bool) → ¬ (b ≡ true) → b ≡ false
    unmarked true n = absurd (n refl)
    unmarked false n = refl

-- where the noting of a clause's literals stands
pub record NotingTo (clause : List ℕ) (m i : ℕ) (reasons : List ℕ) (count : ℕ) (marks : List Bool) : Type 0 where
  pub others : AreOthers (take i clause) m reasons
  pub marked : AreNoted reasons marks
  pub same : length marks ≡ count

-- and where the list stands, with no marks between its literals
pub record ListingTo (p : Problem) (given earlier lits ls : List ℕ) (rss : List (List ℕ)) (count : ℕ) (marks : List Bool) : Type 0 where
  pub listing : IsListing p given earlier lits ls rss
  pub marked : AreNoted [] marks
  pub same : length marks ≡ count

pub marks_none : (all : List ℕ) (from : ℕ) (old : List Bool) → MarksPlaces all from [] old old
marks_none all from old = record { count = refl; each = λ k kl. refl }

or_swap : (a b c : Bool) → (b || (a || c)) ≡ ((a || b) || c)
or_swap true true c = refl
or_swap true false c = refl
or_swap false true c = refl
or_swap false false c = refl

-- one list's marks, then another's
pub marks_join : (all : List ℕ) (from : ℕ) (xs ys : List ℕ) (old mid new : List Bool) → MarksPlaces all from xs old mid → MarksPlaces all from ys mid new → MarksPlaces all from (xs ++ ys) old new
marks_join all from xs ys old mid new f g = record {
  count = g.count ∙ f.count;
  each = λ k kl.
      let x : ℕ = get_or all (from + k) 0 in
      g.each k (omega (arith, kl, f.count)) ∙ ap (λ b. has ys (get_or all (from + k) 0) || b) (f.each k kl) ∙ or_swap (has xs (get_or all (from + k) 0)) (has ys (get_or all (from + k) 0)) (get_or old k false) ∙ ap (λ b. b || get_or old k false) (sym (list_any-append (nat_eq (get_or all (from + k) 0)) xs ys));
}

pub marks_more : (all : List ℕ) (from : ℕ) (lits : List ℕ) (i y : ℕ) → i < length lits → y ≡ get_or lits i y → (old mid new : List Bool) → MarksPlaces all from (take i lits) old mid → MarksPlaces all from (y ∷ []) mid new → MarksPlaces all from (take (i + 1) lits) old new
marks_more all from lits i y lt item old mid new f g = subst (λ xs. MarksPlaces all from xs old new) (sym (take_more lits i y lt ∙ ap (λ z. take i lits ++ z ∷ []) (sym item))) (marks_join all from (take i lits) (y ∷ []) old mid new f g)

no_scopes : scope_listed [] ≡ []
unfolding scope_listed
no_scopes = refl

-- a list alone, with no scope
pub places_alone : (all : List ℕ) (from : ℕ) (lits : List ℕ) (marks : List Bool) → ArePlaces all from (lits ++ scope_listed []) marks → ArePlaces all from lits marks
places_alone all from lits marks h = subst (λ xs. ArePlaces all from xs marks) (ap (λ xs. lits ++ xs) no_scopes ∙ append-nil lits) h

-- the mark of a place
pub place_mark : (all : List ℕ) (from : ℕ) (known : List ℕ) (marks : List Bool) → ArePlaces all from known marks → (at : ℕ) → from ≤ at → at < length all → get_or marks (at - from) false ≡ has known (get_or all at 0)
place_mark all from known marks h at le lt = h.each (at - from) (omega (arith, h.count, le, lt)) ∙ ap (λ n. has known (get_or all n 0)) (let z : from + (at - from) ≡ at = omega (arith, le) in z)

-- with no mark yet
pub places_none : (all : List ℕ) (from n : ℕ) (marks : List Bool) → marks ≡ replicate n false → length all ≡ from + n → ArePlaces all from [] marks
places_none all from n marks e count = record {
  count = count ∙ ap (λ m. from + m) (sym (ap length e ∙ length-replicate n false));
  each = λ k kl. ap (λ ms. get_or ms k false) e ∙ get_or-replicate n k false false (omega (arith, kl, ap length e, length-replicate n false));
}

-- with a list's marks too
pub places_more : (all : List ℕ) (from : ℕ) (known xs : List ℕ) (old new : List Bool) → ArePlaces all from known old → MarksPlaces all from xs old new → ArePlaces all from (known ++ xs) new
places_more all from known xs old new h m = record {
  count = h.count ∙ ap (λ n. from + n) (sym m.count);
  each = λ k kl.
      let old_kl : k < length old = omega (arith, kl, m.count) in
      m.each k old_kl ∙ ap (λ b. has xs (get_or all (from + k) 0) || b) (h.each k old_kl) ∙ or_comm (has xs (get_or all (from + k) 0)) (has known (get_or all (from + k) 0)) ∙ sym (list_any-append (nat_eq (get_or all (from + k) 0)) known xs);
}

-- and with those that one scope more lists
pub places_scope : (all : List ℕ) (from : ℕ) (scs : List Scope) (i : ℕ) (sc : Scope) (old new : List Bool) → i < length scs → sc ≡ get_or scs i sc → ArePlaces all from (scope_listed (take i scs)) old → MarksPlaces all from (listed_in sc.found) old new → ArePlaces all from (scope_listed (take (i + 1) scs)) new
places_scope all from scs i sc old new lt item h m =
    subst (λ xs. ArePlaces all from xs new) (sym (scope_listed-more scs i sc lt item))
    (places_more all from (scope_listed (take i scs)) (listed_in sc.found) old new h m)

-- in whatever order
pub places_turned : (all : List ℕ) (from : ℕ) (xs ys : List ℕ) (marks : List Bool) → ArePlaces all from (xs ++ ys) marks → ArePlaces all from (ys ++ xs) marks
places_turned all from xs ys marks h = record {
  count = h.count;
  each = λ k kl.
      let x : ℕ = get_or all (from + k) 0 in
      h.each k kl ∙ list_any-append (nat_eq (get_or all (from + k) 0)) xs ys ∙ or_comm (has xs (get_or all (from + k) 0)) (has ys (get_or all (from + k) 0)) ∙ sym (list_any-append (nat_eq (get_or all (from + k) 0)) ys xs);
}

-- those of another list, where from the place on the same literals stand in both
pub places_behind : (all : List ℕ) (from : ℕ) (lits known : List ℕ) (marks : List Bool) → AreBehind all from lits known → ArePlaces all from lits marks → ArePlaces all from known marks
places_behind all from lits known marks b h = record { count = h.count; each = λ k kl. h.each k kl ∙ sym (b.each (from + k) (omega arith) (omega (arith, h.count, kl))) }

regroup : (a b c d : List ℕ) → a ++ (b ++ (c ++ d)) ≡ (a ++ (b ++ c)) ++ d
regroup a b c d = sym (append_assoc a (b ++ c) d ∙ ap (λ t. a ++ t) (append_assoc b c d))

module _ (p : Problem) (w : IsWellFormed p) (given lits : List ℕ) (u : IsDerivation (full p) given lits) (apart : (i j : ℕ) → i < length lits → j < length lits → get_or lits i 0 / 2 ≡ get_or lits j 0 / 2 → i ≡ j) (earlier : List ℕ) where
  pub listing_from : (from : ℕ) → AreKnown p (given ++ earlier) (take from lits) → IsListing p given earlier (take from lits) [] []
  listing_from from known = record {
    plain = All-nil (λ m. IsProblemVar p (m / 2));
    new = All-nil (λ m. ¬ Contains (given ++ earlier) m);
    distinct = tt;
    inside = All-nil (Contains (take from lits));
    covers = All-weaker (λ m. IsProblemVar p (m / 2) → Contains (given ++ earlier) m) (λ m. IsProblemVar p (m / 2) → Contains (given ++ (earlier ++ [])) m) (λ m f pv. subst (λ xs. Contains (given ++ xs) m) (sym (append-nil earlier)) (f pv)) (take from lits) known;
    listed = record { count = refl; each = λ k lt. absurd (omega arith) };
  }

  module _ (at : ℕ) (lt : at < length lits) (ls : List ℕ) (rss : List (List ℕ)) (h : IsListing p given earlier (take at lits) ls rss) where
    longer : take (at + 1) lits ≡ take at lits ++ get_or lits at 0 ∷ []
    longer = take_more lits at 0 lt

    inside_more : All (Contains (take (at + 1) lits)) ls
    inside_more = All-weaker (Contains (take at lits)) (Contains (take (at + 1) lits)) (λ m c. subst (λ xs. Contains xs m) (sym longer) (Contains-append_left (take at lits) (get_or lits at 0 ∷ []) m c)) ls h.inside

    pub listing_skip : (IsProblemVar p (get_or lits at 0 / 2) → has (given ++ earlier) (get_or lits at 0) ≡ true) → IsListing p given earlier (take (at + 1) lits) ls rss
    listing_skip old = record {
      plain = h.plain;
      new = h.new;
      distinct = h.distinct;
      inside = inside_more;
      covers = All-more (λ m. IsProblemVar p (m / 2) → Contains (given ++ (earlier ++ ls)) m) lits at 0 lt h.covers
          (λ pv. subst (λ xs. Contains xs (get_or lits at 0)) (append_assoc given earlier ls) (Contains-append_left (given ++ earlier) ls (get_or lits at 0) (Contains-from_has (given ++ earlier) (get_or lits at 0) (old pv))));
      listed = h.listed;
    }

    -- what stands before this place is another literal
    not_before : (n : ℕ) → n ≤ at → ¬ Contains (take n lits) (get_or lits at 0)
    not_before n le c = let q = place_in_take n lits (get_or lits at 0) c in let e : q.0 ≡ at = apart q.0 at q.2 lt (ap (λ m. m / 2) q.3) in omega (arith, e, q.1, le)

    pub listing_push : IsProblemVar p (get_or lits at 0 / 2) → has (given ++ earlier) (get_or lits at 0) ≡ false → (rs : List ℕ) → IsReasoned p (get_or lits at 0) rs → All (Contains (take at lits)) rs → IsListing p given earlier (take (at + 1) lits) (ls ++ get_or lits at 0 ∷ []) (rss ++ rs ∷ [])
    listing_push pv unlisted rs r before = record {
      plain = All-push (λ m. IsProblemVar p (m / 2)) ls (get_or lits at 0) h.plain pv;
      new = All-push (λ m. ¬ Contains (given ++ earlier) m) ls (get_or lits at 0) h.new (lacks_none (given ++ earlier) (get_or lits at 0) unlisted);
      distinct = IsDistinct-push ls (get_or lits at 0) (λ c. not_before at (omega arith) (All-contains (Contains (take at lits)) ls (get_or lits at 0) h.inside c)) h.distinct;
      inside = All-push (Contains (take (at + 1) lits)) ls (get_or lits at 0) inside_more (subst (λ xs. Contains xs (get_or lits at 0)) (sym longer) (Contains-push (take at lits) (get_or lits at 0)));
      covers = All-more (λ m. IsProblemVar p (m / 2) → Contains (given ++ (earlier ++ (ls ++ get_or lits at 0 ∷ []))) m) lits at 0 lt
          (All-weaker (λ m. IsProblemVar p (m / 2) → Contains (given ++ (earlier ++ ls)) m) (λ m. IsProblemVar p (m / 2) → Contains (given ++ (earlier ++ (ls ++ get_or lits at 0 ∷ []))) m) (λ m f v. rw regroup (Contains-append_left (given ++ (earlier ++ ls)) (get_or lits at 0 ∷ []) m (f v))) (take at lits) h.covers)
          (λ v. rw regroup (Contains-push (given ++ (earlier ++ ls)) (get_or lits at 0)));
      listed = record {
        count = length-append rss (rs ∷ []) ∙ ap (λ n. n + 1) h.listed.count ∙ sym (length-append ls (get_or lits at 0 ∷ []));
        each = λ k kl. reasons k kl (cases_lt k (length ls));
      };
    }
      where
        lit_of : (l : ℕ) → Contains r.clause l → IsGuardedLit p l
        lit_of l c = full_lit p w given lits u r.clause l r.stands c

        -- a reason is of a problem variable, so it is there, or it is a guard that is given
        reason : (l : ℕ) → Contains r.clause l → Contains (take at lits) (opposite l) → Contains (given ++ (earlier ++ ls)) (opposite l)
        reason l c b = elim (problem_or_guard p l (lit_of l c)) [
          | inl v ↦ All-contains (λ m. IsProblemVar p (m / 2) → Contains (given ++ (earlier ++ ls)) m) (take at lits) (opposite l) h.covers b (subst (IsProblemVar p) (sym (var-opposite l)) v)
          | inr g ↦
              let e : opposite l ≡ 2 * (l / 2) = ap opposite ((lit_of l c).negative g) ∙ opposite-odd (l / 2) in
              Contains-append_left given (earlier ++ ls) (opposite l) (subst (Contains given) (sym e) (guard_given p w given lits u (l / 2) g (subst (Contains lits) e (Contains-take at lits (opposite l) b))))
        ]

        own : All (Contains (given ++ (earlier ++ ls))) rs
        own k d kl =
            let x : ℕ = get_or rs k d in
            let o = (r.others x).0 (Contains-get_or rs k d kl) in
            subst (Contains (given ++ (earlier ++ ls))) (sym o.3) (reason o.0 o.1 (subst (Contains (take at lits)) o.3 (before k d kl)))

        reasons : (k : ℕ) → k < length (ls ++ get_or lits at 0 ∷ []) → (k < length ls) ⊎ (length ls ≤ k) → IsReasoned p (get_or (ls ++ get_or lits at 0 ∷ []) k 0) (get_or (rss ++ rs ∷ []) k []) × All (Contains (given ++ (earlier ++ take k (ls ++ get_or lits at 0 ∷ [])))) (get_or (rss ++ rs ∷ []) k [])
        reasons k kl (inl below) = rw (get_or_append_left ls (get_or lits at 0 ∷ []) 0 k below, get_or_append_left rss (rs ∷ []) [] k (omega (arith, below, h.listed.count)), take-append-le k ls (get_or lits at 0 ∷ []) (omega arith)) (h.listed.each k below)
        reasons k kl (inr high) =
            let e : length ls ≡ k = omega (arith, length-append ls (get_or lits at 0 ∷ []), kl, high) in
            let f : length rss ≡ k = h.listed.count ∙ e in
            rw (get_or_push ls (get_or lits at 0) 0 k e, get_or_push rss rs [] k f, take_at ls (get_or lits at 0 ∷ []) k e) (r, own)
