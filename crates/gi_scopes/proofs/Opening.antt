-- A scope more.
use Rattle.std.proofs.Common.{◌≡◌, ℕ, ◌+◌, ◌<◌, ◌≤◌, Bool, true, false, cond, not, ◌||◌, eqb, nat_eq, List, [], ◌∷◌, ◌++◌, length, take, drop, get_or, ◌-◌, refl, sym, ap, ◌∙◌, subst, arith, ◌⊎◌, inl, inr, append_assoc, length-append}
use Rattle.std.specs.List.{All, Contains, take_while, prefix_len}
use Rattle.std.proofs.lemmas.Bool.{cases_lt, false≢true, eqb-true, not-false}
use Rattle.std.proofs.lemmas.List.{append-nil, get_or_append_left, get_or-append_right, take_all, take-append-drop, drop_more}
use Rattle.std.proofs.lemmas.List.Sums.{prefix_len_stops}
use Rattle.std.proofs.lemmas.List.Elements.{All-weaker, Contains-get_or, Contains-append_left, Contains-append_right, Contains-append_cases}
use Rattle.std.proofs.lemmas.List.Folds.{list_any-append}
use Rattle.gi_lit.specs.Lists.{IsSublist, IsDistinct}
use Rattle.gi_lit.specs.Problem.{Problem, has}
use Rattle.gi_lit.proofs.Vars.{has-from_Contains, lacks}
use Rattle.gi_lit.proofs.Distinct.{IsDistinct-apart, Contains-head}
use Rattle.gi_model.specs.State.{Scope, Found, listed, failing, listed_in, scope_assumed, scope_listed}
use Rattle.gi_model.specs.Tests.{before, Implies}
use Rattle.gi_scopes.specs.Open.{AreExplained, IsReasoned}
use Rattle.gi_scopes.specs.Kept.{IsChosen, AreChosen, IsOpen}
use Rattle.gi_scopes.specs.Listing.{AreListed}
use Rattle.gi_scopes.proofs.Fronts.{place_in_take, front_contains}
use Rattle.gi_scopes.proofs.Listing.{scope_listed-push, before-append}

-- a scope by its parts
pub scope_is : (s : Scope) (a : List ℕ) (f : Found) → s.assumed ≡ a → s.found ≡ f → s ≡ record { assumed = a; found = f }
scope_is s a f e g = ap (λ x. scope_of x s.found) e ∙ ap (λ y. scope_of a y) g
  where
    scope_of : List ℕ → Found → Scope
    scope_of x y = record { assumed = x; found = y }

chosen_push : (given : List ℕ) (scs : List Scope) (sc : Scope) → AreChosen given scs → IsChosen (given ++ (scope_assumed scs ++ sc.assumed)) sc.found → AreChosen given (scs ++ sc ∷ [])
unfolding scope_assumed
chosen_push given [] sc h i = (i, tt)
chosen_push given (x ∷ scs) sc h i =
    let e : given ++ ((x.assumed ++ scope_assumed scs) ++ sc.assumed) ≡ (given ++ x.assumed) ++ (scope_assumed scs ++ sc.assumed) = ap (λ xs. given ++ xs) (append_assoc x.assumed (scope_assumed scs) sc.assumed) ∙ sym (append_assoc given x.assumed (scope_assumed scs ++ sc.assumed)) in
    (h.0, chosen_push (given ++ x.assumed) scs sc h.1 (subst (λ xs. IsChosen xs sc.found) e i))

-- the literals up to m are all of a list without m
whole_front : (ls : List ℕ) (m : ℕ) → has ls m ≡ false → take_while (λ l. not (eqb l m)) ls ≡ ls
whole_front ls m e = elim (cases_lt (prefix_len (λ l. not (eqb l m)) ls) (length ls)) [
  | inr le ↦ take_all (prefix_len (λ l. not (eqb l m)) ls) ls le
  | inl lt ↦
      let s = prefix_len_stops (λ l. not (eqb l m)) ls 0 lt in
      let q : get_or ls (prefix_len (λ l. not (eqb l m)) ls) 0 ≡ m = eqb-true _ m (not-false _ s) in
      absurd (false≢true (sym e ∙ has-from_Contains ls m (subst (Contains ls) q (Contains-get_or ls (prefix_len (λ l. not (eqb l m)) ls) 0 lt))))
]

-- and those before its place, where it stands once, are among them
front_before : (ls : List ℕ) (m k : ℕ) → k ≤ length ls → ¬ Contains (take k ls) m → (x : ℕ) → Contains (take k ls) x → Contains (take_while (λ l. not (eqb l m)) ls) x
front_before ls m k le once x c = elim (cases_lt (prefix_len (λ l. not (eqb l m)) ls) k) [
  | inl lt ↦
      let below : prefix_len (λ l. not (eqb l m)) ls < length ls = omega arith in
      let s = prefix_len_stops (λ l. not (eqb l m)) ls 0 below in
      let q : get_or ls (prefix_len (λ l. not (eqb l m)) ls) 0 ≡ m = eqb-true _ m (not-false _ s) in
      absurd (once (subst (Contains (take k ls)) q (front_contains k ls (prefix_len (λ l. not (eqb l m)) ls) lt below)))
  | inr high ↦
      let p = place_in_take k ls x c in
      subst (Contains (take (prefix_len (λ l. not (eqb l m)) ls) ls)) p.3 (front_contains (prefix_len (λ l. not (eqb l m)) ls) ls p.0 (omega (arith, p.1, high)) p.2)
]

-- what comes before a literal of the last scope, where no other lists it
module _ (sc : Scope) (m x : ℕ) where
  abbrev Own : Type 0
  Own = Contains (take_while (λ l. not (eqb l m)) (listed_in sc.found)) x

  abbrev Rest : List Scope → Type 0
  Rest scs = Contains (scope_assumed scs ++ sc.assumed) x ⊎ (Contains (scope_listed scs) x ⊎ Own)

  pub before_has : (scs : List Scope) → has (scope_listed scs) m ≡ false → Rest scs → Contains (before (scs ++ sc ∷ []) m) x
  unfolding before scope_assumed scope_listed
  before_has [] new (inl a) = Contains-append_left sc.assumed (take_while (λ l. not (eqb l m)) (listed_in sc.found) ++ cond (has (listed_in sc.found) m) [] []) x a
  before_has [] new (inr (inl b)) = absurd (omega (arith, b.1))
  before_has [] new (inr (inr o)) = Contains-append_right sc.assumed (take_while (λ l. not (eqb l m)) (listed_in sc.found) ++ cond (has (listed_in sc.found) m) [] []) x (Contains-append_left (take_while (λ l. not (eqb l m)) (listed_in sc.found)) (cond (has (listed_in sc.found) m) [] []) x o)
  before_has (s ∷ scs) new r = go (has (listed_in s.found) m) refl (sym (list_any-append (nat_eq m) (listed_in s.found) (scope_listed scs)) ∙ new) (before_has scs)
    where
      more : List ℕ
      more = before (scs ++ sc ∷ []) m

      go : (b : Bool) → has (listed_in s.found) m ≡ b → (b || has (scope_listed scs) m) ≡ false → (has (scope_listed scs) m ≡ false → Rest scs → Contains (before (scs ++ sc ∷ []) m) x) → Contains (s.assumed ++ (take_while (λ l. not (eqb l m)) (listed_in s.found) ++ cond b [] (before (scs ++ sc ∷ []) m))) x
      go true e f rest = absurd (false≢true (sym f))
      go false e f rest = where_it_is r
        where
          front : List ℕ
          front = take_while (λ l. not (eqb l m)) (listed_in s.found)

          behind : Rest scs → Contains (s.assumed ++ (take_while (λ l. not (eqb l m)) (listed_in s.found) ++ before (scs ++ sc ∷ []) m)) x
          behind q = Contains-append_right s.assumed (take_while (λ l. not (eqb l m)) (listed_in s.found) ++ before (scs ++ sc ∷ []) m) x (Contains-append_right (take_while (λ l. not (eqb l m)) (listed_in s.found)) (before (scs ++ sc ∷ []) m) x (rest f q))

          where_it_is : Contains ((s.assumed ++ scope_assumed scs) ++ sc.assumed) x ⊎ (Contains (listed_in s.found ++ scope_listed scs) x ⊎ Own) → Contains (s.assumed ++ (take_while (λ l. not (eqb l m)) (listed_in s.found) ++ before (scs ++ sc ∷ []) m)) x
          where_it_is (inl a) = elim (Contains-append_cases s.assumed (scope_assumed scs ++ sc.assumed) x (subst (λ xs. Contains xs x) (append_assoc s.assumed (scope_assumed scs) sc.assumed) a)) [
            | inl first ↦ Contains-append_left s.assumed (take_while (λ l. not (eqb l m)) (listed_in s.found) ++ before (scs ++ sc ∷ []) m) x first
            | inr later ↦ behind (inl later)
          ]
          where_it_is (inr (inl b)) = elim (Contains-append_cases (listed_in s.found) (scope_listed scs) x b) [
            | inl own ↦ Contains-append_right s.assumed (take_while (λ l. not (eqb l m)) (listed_in s.found) ++ before (scs ++ sc ∷ []) m) x (Contains-append_left (take_while (λ l. not (eqb l m)) (listed_in s.found)) (before (scs ++ sc ∷ []) m) x (subst (λ xs. Contains xs x) (sym (whole_front (listed_in s.found) m e)) own))
            | inr later ↦ behind (inr (inl later))
          ]
          where_it_is (inr (inr o)) = behind (inr (inr o))

module _ (scs : List Scope) (rss : List (List ℕ)) (h : IsOpen scs rss) (room : length scs < 4294967295) (assumed : List ℕ) where
  module _ (w : List ℕ) where
    abbrev failed : Scope
    failed = record { assumed = assumed; found = failing w }

    same_listed : scope_listed (scs ++ failed ∷ []) ≡ scope_listed scs
    same_listed = scope_listed-push scs failed ∙ append-nil (scope_listed scs)

    pub open_failing : IsSublist w (scope_assumed scs ++ assumed) → IsOpen (scs ++ failed ∷ []) rss
    open_failing s = record {
      few = omega (arith, length-append scs (failed ∷ []));
      chosen = chosen_push [] scs failed h.chosen s;
      earlier = record {
        count = h.earlier.count ∙ ap length (sym same_listed);
        each = λ k lt.
            let kl : k < length (scope_listed scs) = omega (arith, lt, ap length same_listed) in
            let x : ℕ = get_or (scope_listed scs) k 0 in
            let e : before (scs ++ failed ∷ []) x ≡ before scs x = before-append scs (failed ∷ []) x (has-from_Contains (scope_listed scs) x (Contains-get_or (scope_listed scs) k 0 kl)) in
            subst (λ (ls : List ℕ). All (Contains (before (scs ++ failed ∷ []) (get_or ls k 0))) (get_or rss k [])) (sym same_listed) (subst (λ xs. All (Contains xs) (get_or rss k [])) (sym e) (h.earlier.each k kl));
      };
    }

    pub reasoned_failing : (p : Problem) → AreExplained p scs rss → AreExplained p (scs ++ failed ∷ []) rss
    reasoned_failing p a = record {
      count = a.count ∙ ap length (sym same_listed);
      each = λ k lt. subst (λ (ls : List ℕ). IsReasoned p (get_or ls k 0) (get_or rss k [])) (sym same_listed) (a.each k (omega (arith, lt, ap length same_listed)));
    }

  module _ (p : Problem) (ls : List ℕ) (more : List (List ℕ)) (i : Implies p (scope_assumed scs ++ assumed) (scope_listed scs) ls) (l : AreListed p (scope_assumed scs ++ assumed) (scope_listed scs) ls more) where
    abbrev found : Scope
    found = record { assumed = assumed; found = listed ls }

    all_listed : scope_listed (scs ++ found ∷ []) ≡ scope_listed scs ++ ls
    all_listed = scope_listed-push scs found

    -- what the new scope lists isn't listed yet
    unlisted : (k : ℕ) → k < length ls → has (scope_listed scs) (get_or ls k 0) ≡ false
    unlisted k lt = lacks (scope_listed scs) (get_or ls k 0) (λ c. i.new k 0 lt (Contains-append_right (scope_assumed scs ++ assumed) (scope_listed scs) (get_or ls k 0) c))

    not_twice : (k : ℕ) → k < length ls → ¬ Contains (take k ls) (get_or ls k 0)
    not_twice k lt c = IsDistinct-apart (take k ls) (drop k ls) (get_or ls k 0) (subst IsDistinct (sym (take-append-drop k ls)) i.distinct) c (subst (λ xs. Contains xs (get_or ls k 0)) (sym (drop_more ls k 0 lt)) (Contains-head (get_or ls k 0) (drop (k + 1) ls)))

    new_earlier : (k : ℕ) → k < length ls → All (Contains (before (scs ++ found ∷ []) (get_or ls k 0))) (get_or more k [])
    new_earlier k lt = All-weaker (Contains ((scope_assumed scs ++ assumed) ++ (scope_listed scs ++ take k ls))) (Contains (before (scs ++ found ∷ []) (get_or ls k 0))) (λ x c. before_has found (get_or ls k 0) x scs (unlisted k lt) (elim (Contains-append_cases (scope_assumed scs ++ assumed) (scope_listed scs ++ take k ls) x c) [
      | inl a ↦ inl a
      | inr b ↦ elim (Contains-append_cases (scope_listed scs) (take k ls) x b) [
        | inl old ↦ inr (inl old)
        | inr own ↦ inr (inr (front_before ls (get_or ls k 0) k (omega arith) (not_twice k lt) x own))
      ]
    ])) (get_or more k []) (l.each k lt).1

    -- a place among all that is listed is an old one, or one of the new scope's
    module _ (P : ℕ → List ℕ → Type 0) (old : (k : ℕ) → k < length (scope_listed scs) → P (get_or (scope_listed scs) k 0) (get_or rss k [])) (new : (k : ℕ) → k < length ls → P (get_or ls k 0) (get_or more k [])) where
      by_place : length rss ≡ length (scope_listed scs) → (k : ℕ) → k < length (scope_listed (scs ++ found ∷ [])) → P (get_or (scope_listed (scs ++ found ∷ [])) k 0) (get_or (rss ++ more) k [])
      by_place count k lt = subst (λ (xs : List ℕ). P (get_or xs k 0) (get_or (rss ++ more) k [])) (sym all_listed) (elim (cases_lt k (length (scope_listed scs))) [
        | inl below ↦ rw (get_or_append_left (scope_listed scs) ls 0 k below, get_or_append_left rss more [] k (omega (arith, below, count))) (old k below)
        | inr high ↦
            rw (get_or-append_right (scope_listed scs) ls (length (scope_listed scs)) k 0 refl high, get_or-append_right rss more (length (scope_listed scs)) k [] count high) (new (k - length (scope_listed scs)) (omega (arith, lt, ap length all_listed, length-append (scope_listed scs) ls, high)))
      ])

    all_count : length rss ≡ length (scope_listed scs) → length (rss ++ more) ≡ length (scope_listed (scs ++ found ∷ []))
    all_count e = omega (arith, e, l.count, length-append rss more, ap length all_listed, length-append (scope_listed scs) ls)

    old_earlier : (k : ℕ) → k < length (scope_listed scs) → All (Contains (before (scs ++ found ∷ []) (get_or (scope_listed scs) k 0))) (get_or rss k [])
    old_earlier k lt =
        let x : ℕ = get_or (scope_listed scs) k 0 in
        let e : before (scs ++ found ∷ []) x ≡ before scs x = before-append scs (found ∷ []) x (has-from_Contains (scope_listed scs) x (Contains-get_or (scope_listed scs) k 0 lt)) in
        subst (λ xs. All (Contains xs) (get_or rss k [])) (sym e) (h.earlier.each k lt)

    pub open_listing : IsOpen (scs ++ found ∷ []) (rss ++ more)
    open_listing = record {
      few = omega (arith, length-append scs (found ∷ []));
      chosen = chosen_push [] scs found h.chosen tt;
      earlier = record { count = all_count h.earlier.count; each = by_place (λ x rs. All (Contains (before (scs ++ found ∷ []) x)) rs) old_earlier new_earlier h.earlier.count };
    }

    pub reasoned_listing : AreExplained p scs rss → AreExplained p (scs ++ found ∷ []) (rss ++ more)
    reasoned_listing a = record { count = all_count a.count; each = by_place (IsReasoned p) a.each (λ k lt. (l.each k lt).0) a.count }
