-- Reasons, and what stands before a listed literal.
use Rattle.std.proofs.Common.{◌≡◌, ◌≢◌, ℕ, ◌+◌, ◌<◌, ◌≤◌, ◌↔◌, ◌==◌, Bool, true, false, not, ◌&&◌, cond, IsTrue, List, [], ◌∷◌, ◌++◌, length, take, drop, take_while, get_or, refl, sym, ap, ◌∙◌, subst, arith, ◌⊎◌, inl, inr, append_assoc}
use Rattle.std.specs.List.{All, Contains, list_all, list_any}
use Rattle.std.proofs.lemmas.Bool.{both_ways, and_parts, and_from, not-true, not_from_false, eqb-false, eq-eqb, ne_eqb, cases_eq}
use Rattle.std.proofs.lemmas.List.{take_more, take_all, drop_all, at_drop_more}
use Rattle.std.proofs.lemmas.List.Elements.{All-contains, Contains-get_or}
use Rattle.std.proofs.lemmas.List.Sums.{take_while-cons}
use Rattle.gi_lit.specs.Literals.{opposite}
use Rattle.gi_lit.specs.Lists.{IsDistinct}
use Rattle.gi_lit.specs.Problem.{full, has}
use Rattle.gi_lit.specs.Closure.{Forces}
use Rattle.gi_lit.proofs.Literals.{opposite-opposite}
use Rattle.gi_lit.proofs.Vars.{Contains-from_has, has-from_Contains}
use Rattle.gi_model.specs.State.{State, Scope, listed_in}
use Rattle.gi_model.specs.Tests.{Explains, before}
use Rattle.gi_model.proofs.Keeping.{append-nil}
use Rattle.gi_reference.specs.Search.{forces, explains}
use Rattle.gi_reference.proofs.Deciding.{all_decides, has_all_decides, any_decides}
use Rattle.gi_reference.proofs.Causes.{forces_decides}

module _ (s : State) (m : ℕ) (rs : List ℕ) where
  module _ (c : List ℕ) where
    abbrev IsOther : ℕ → Type 0
    IsOther r = (opposite r ≢ m) × Contains c (opposite r)

    others_decide : IsTrue (list_all (λ r. not (opposite r == m) && has c (opposite r)) rs) ↔ All IsOther rs
    others_decide = all_decides (λ r. not (opposite r == m) && has c (opposite r)) IsOther (λ r. (to r, from r)) rs
      where
        to : (r : ℕ) → IsTrue (not (opposite r == m) && has c (opposite r)) → IsOther r
        to r h = let t = and_parts (not (opposite r == m)) (has c (opposite r)) h in (eqb-false (opposite r) m (not-true _ t.0), Contains-from_has c (opposite r) t.1)

        from : (r : ℕ) → IsOther r → IsTrue (not (opposite r == m) && has c (opposite r))
        from r h = and_from (not (opposite r == m)) (has c (opposite r)) (not_from_false _ (ne_eqb (opposite r) m h.0)) (has-from_Contains c (opposite r) h.1)

    explained : explains c m rs ≡ true → Contains (full s.problem) c → IsDistinct rs → All (Contains (before s.scopes m)) rs → Explains s m rs
    unfolding explains
    explained e h d b = record { clause = c; stands = h; holds = f.stands; others = λ r. (there r, back r); distinct = d; earlier = b }
      where
        t : (forces c m rs ≡ true) × (list_all (λ r. not (opposite r == m) && has c (opposite r)) rs ≡ true)
        t = and_parts (forces c m rs) (list_all (λ r. not (opposite r == m) && has c (opposite r)) rs) e

        f : Forces c m rs
        f = (forces_decides c m rs).0 t.0

        there : (r : ℕ) → Contains rs r → (l : ℕ) × Contains c l × (l ≢ m) × (r ≡ opposite l)
        there r i = let o = All-contains IsOther rs r (others_decide.0 t.1) i in (opposite r, o.1, o.0, sym (opposite-opposite r))

        back : (r : ℕ) → (l : ℕ) × Contains c l × (l ≢ m) × (r ≡ opposite l) → Contains rs r
        back r o = elim (All-contains (λ l. (l ≡ m) ⊎ Contains rs (opposite l)) c o.0 f.others o.1) [ inl same ↦ absurd (o.2 same) | inr i ↦ subst (Contains rs) (sym o.3) i ]

    explaining : Contains c m → ((r : ℕ) → Contains rs r ↔ ((l : ℕ) × Contains c l × (l ≢ m) × (r ≡ opposite l))) → explains c m rs ≡ true
    unfolding explains
    explaining h o = and_from (forces c m rs) (list_all (λ r. not (opposite r == m) && has c (opposite r)) rs)
        ((forces_decides c m rs).1 (record { stands = h; others = λ k d lt. other (get_or c k d) (Contains-get_or c k d lt) }))
        (others_decide.1 (λ k d lt. reason (get_or rs k d) (Contains-get_or rs k d lt)))
      where
        other : (l : ℕ) → Contains c l → (l ≡ m) ⊎ Contains rs (opposite l)
        other l i = elim (cases_eq l m) [ inl e ↦ inl e | inr n ↦ inr ((o (opposite l)).1 (l, i, n, refl)) ]

        reason : (r : ℕ) → Contains rs r → IsOther r
        reason r i =
            let a = (o r).0 i in
            let e : opposite r ≡ a.0 = ap opposite a.3 ∙ opposite-opposite a.0 in
            (λ q. a.2 (sym e ∙ q), subst (Contains c) (sym e) a.1)

  -- some full clause has these reasons, each there before m, and none twice
  pub explains_decides : (whole : List (List ℕ)) (earlier : List ℕ) (r : Bool) → whole ≡ full s.problem → earlier ≡ before s.scopes m → r ≡ list_any (λ c. explains c m rs) whole → IsDistinct rs → true ≡ list_all (has earlier) rs → IsTrue r ↔ Explains s m rs
  explains_decides whole earlier r ew eb er d h = (to, from)
    where
      b : All (Contains (before s.scopes m)) rs
      b = subst (λ e. All (Contains e) rs) eb ((has_all_decides earlier rs).0 (sym h))

      to : IsTrue r → Explains s m rs
      to t = let a = (any_decides (λ c. explains c m rs) whole).0 (sym er ∙ t) in explained a.0 a.2 (subst (λ cs. Contains cs a.0) ew a.1) d b

      from : Explains s m rs → IsTrue r
      from x = er ∙ (any_decides (λ c. explains c m rs) whole).1 (x.clause, subst (λ cs. Contains cs x.clause) (sym ew) x.stands, explaining x.clause x.holds x.others)

  pub not_earlier : (earlier : List ℕ) → earlier ≡ before s.scopes m → false ≡ list_all (has earlier) rs → ¬ Explains s m rs
  not_earlier earlier eb e x = both_ways _ (sym e) ((has_all_decides earlier rs).1 (subst (λ z. All (Contains z) rs) (sym eb) x.earlier))

module _ (p : ℕ → Bool) (ls : List ℕ) (i : ℕ) where
  -- the front is kept as far as each passes
  pub while_more : (l : ℕ) → i < length ls → l ≡ get_or ls i 0 → p l ≡ true → take i ls ++ take_while p (drop i ls) ≡ take_while p ls → take (i + 1) ls ++ take_while p (drop (i + 1) ls) ≡ take_while p ls
  while_more l lt is t h =
      let d : take_while p (drop i ls) ≡ l ∷ take_while p (drop (i + 1) ls) = at_drop_more (take_while p) ls i 0 lt ∙ ap (λ z. take_while p (z ∷ drop (i + 1) ls)) (sym is) ∙ take_while-cons p l (drop (i + 1) ls) ∙ ap (λ b. cond b (l ∷ take_while p (drop (i + 1) ls)) []) t in
      let m : take (i + 1) ls ≡ take i ls ++ l ∷ [] = take_more ls i 0 lt ∙ ap (λ z. take i ls ++ z ∷ []) (sym is) in
      ap (λ xs. xs ++ take_while p (drop (i + 1) ls)) m ∙ append_assoc (take i ls) (l ∷ []) (take_while p (drop (i + 1) ls)) ∙ ap (λ xs. take i ls ++ xs) (sym d) ∙ h

  pub while_stops : (l : ℕ) → i < length ls → l ≡ get_or ls i 0 → p l ≡ false → take i ls ++ take_while p (drop i ls) ≡ take_while p ls → take i ls ≡ take_while p ls
  while_stops l lt is f h =
      let d : take_while p (drop i ls) ≡ [] = at_drop_more (take_while p) ls i 0 lt ∙ ap (λ z. take_while p (z ∷ drop (i + 1) ls)) (sym is) ∙ take_while-cons p l (drop (i + 1) ls) ∙ ap (λ b. cond b (l ∷ take_while p (drop (i + 1) ls)) []) f in
      sym (append-nil (take i ls)) ∙ ap (λ xs. take i ls ++ xs) (sym d) ∙ h

  pub while_ends : length ls ≤ i → take i ls ++ take_while p (drop i ls) ≡ take_while p ls → take i ls ≡ take_while p ls
  while_ends le h = sym (append-nil (take i ls)) ∙ ap (λ xs. take i ls ++ xs) (sym (ap (take_while p) (drop_all i ls le))) ∙ h

module _ (scs : List Scope) (m i : ℕ) (all : List ℕ) (h : all ++ before (drop i scs) m ≡ before scs m) where
  module _ (sc : Scope) (lt : i < length scs) (is : sc ≡ get_or scs i sc) (more : List ℕ) (is_more : more ≡ (all ++ sc.assumed) ++ take_while (λ l. not (l == m)) (listed_in sc.found)) where
    next : (b : Bool) → has (listed_in sc.found) m ≡ b → more ++ cond b [] (before (drop (i + 1) scs) m) ≡ before scs m
    unfolding before
    next b e =
        let d : before (drop i scs) m ≡ before (sc ∷ drop (i + 1) scs) m = at_drop_more (λ zs. before zs m) scs i sc lt ∙ ap (λ (z : Scope). before (z ∷ drop (i + 1) scs) m) (sym is) in
        let t = take_while (λ l. not (l == m)) (listed_in sc.found) in
        let r : before (sc ∷ drop (i + 1) scs) m ≡ sc.assumed ++ (t ++ cond b [] (before (drop (i + 1) scs) m)) = ap (λ x. sc.assumed ++ (t ++ cond x [] (before (drop (i + 1) scs) m))) e in
        ap (λ xs. xs ++ cond b [] (before (drop (i + 1) scs) m)) is_more
        ∙ append_assoc (all ++ sc.assumed) t (cond b [] (before (drop (i + 1) scs) m))
        ∙ append_assoc all sc.assumed (t ++ cond b [] (before (drop (i + 1) scs) m))
        ∙ ap (λ xs. all ++ xs) (sym (d ∙ r)) ∙ h

    pub before_more : has (listed_in sc.found) m ≡ false → more ++ before (drop (i + 1) scs) m ≡ before scs m
    before_more e = next false e

    pub before_stops : has (listed_in sc.found) m ≡ true → more ≡ before scs m
    before_stops e = sym (append-nil more) ∙ next true e

  pub before_ends : length scs ≤ i → all ≡ before scs m
  unfolding before
  before_ends le = sym (append-nil all) ∙ ap (λ xs. all ++ xs) (sym (ap (λ zs. before zs m) (drop_all i scs le))) ∙ h
