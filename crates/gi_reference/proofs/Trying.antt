-- Trying the values one place after the other.
use Rattle.std.proofs.Common.{◌≡◌, ◌≢◌, ℕ, ◌+◌, ◌-◌, ◌/◌, ◌<◌, ◌≤◌, ◌↔◌, Bool, true, false, not, ◌&&◌, IsTrue, List, [], ◌∷◌, ◌++◌, length, get_or, set, replicate, refl, sym, ap, ◌∙◌, subst, arith, ◌⊎◌, inl, inr, get_or-set_other, get_or-set_same, length-set}
use Rattle.std.specs.List.{All, list_all}
use Rattle.std.proofs.lemmas.Bool.{both_ways, false_from_ne_true, not_from_false, cases_eq, cases_Bool, false≢true}
use Rattle.std.proofs.lemmas.List.Elements.{All-head, All-tail, All-append, All-cons, All-nil, All-push, All-weaker, Contains-append_left, Contains-push, Contains-get_or, All-contains}
use Rattle.gi_lit.specs.Literals.{opposite}
use Rattle.gi_lit.specs.Truth.{true_in, clause_true, Satisfies, MakesTrue, Fail, IsConsequence}
use Rattle.gi_lit.proofs.Literals.{true_in-opposite}
use Rattle.gi_lit.proofs.Guarding.{same_truth}
use Rattle.gi_reference.specs.Search.{AgreesFrom, FailsFrom, IsWithin}
use Rattle.gi_reference.proofs.Deciding.{both, negated, satisfies_decides, makes_true_decides, no}

module _ (v w : List Bool) (agrees : AgreesFrom 0 w v) where
  same_lit : (l : ℕ) → l / 2 - 1 < length v → true_in w l ≡ true_in v l
  same_lit l lt = same_truth v w l (agrees (l / 2 - 1) (omega arith) lt)

  same_clause : (c : List ℕ) → IsWithin (length v) c → clause_true w c ≡ clause_true v c
  same_clause [] h = refl
  same_clause (l ∷ c) h = rw (same_lit l (All-head (λ l. l / 2 - 1 < length v) l c h), same_clause c (All-tail (λ l. l / 2 - 1 < length v) l c h)) refl

  satisfies_same : (clauses : List (List ℕ)) → All (IsWithin (length v)) clauses → Satisfies w clauses → Satisfies v clauses
  satisfies_same clauses h s = record { each = λ k d lt. sym (same_clause (get_or clauses k d) (h k d lt)) ∙ s.each k d lt }

  makes_true_same : (lits : List ℕ) → IsWithin (length v) lits → MakesTrue w lits → MakesTrue v lits
  makes_true_same lits h s = record { each = λ k d lt. sym (same_lit (get_or lits k d) (h k d lt)) ∙ s.each k d lt }

module _ (clauses : List (List ℕ)) (lits : List ℕ) where
  pub models_decide : (v : List Bool) (r : Bool) → r ≡ (list_all (clause_true v) clauses && list_all (true_in v) lits) → IsTrue r ↔ (Satisfies v clauses × MakesTrue v lits)
  models_decide v r e = rw e (both (list_all (clause_true v) clauses) (list_all (true_in v) lits) (satisfies_decides v clauses) (makes_true_decides v lits))

  -- with no place left to be tried, the values themselves decide
  pub none_left : (v : List Bool) (r : Bool) → r ≡ (list_all (clause_true v) clauses && list_all (true_in v) lits) → All (IsWithin (length v)) clauses → IsWithin (length v) lits → IsTrue (not r) ↔ FailsFrom clauses lits 0 v
  none_left v r e hc hl = (to, from)
    where
      d : IsTrue r ↔ (Satisfies v clauses × MakesTrue v lits)
      d = models_decide v r e

      to : IsTrue (not r) → FailsFrom clauses lits 0 v
      to h = record { none = λ w a sw mw. (negated r d).0 h (satisfies_same v w a clauses hc sw, makes_true_same v w a lits hl mw) }

      from : FailsFrom clauses lits 0 v → IsTrue (not r)
      from f = (negated r d).1 (λ p. f.none v (λ i le lt. refl) p.0 p.1)

  module _ (old one : List Bool) (place : ℕ) (lt : place < length old) where
    -- what fails with one place more to be tried fails with either value there
    set_fails : (b : Bool) (v : List Bool) → length v ≡ length old → ((i : ℕ) → place + 1 ≤ i → get_or v i false ≡ get_or old i false) → get_or v place false ≡ b → FailsFrom clauses lits (place + 1) old → FailsFrom clauses lits place v
    set_fails b v len same e f = record { none = λ w a. f.none w (λ i le lti. a i (omega arith) (omega arith) ∙ same i le) }

    -- and what fails with both values fails
    join_fails : (v : List Bool) → length v ≡ length old → ((i : ℕ) → place + 1 ≤ i → get_or v i false ≡ get_or old i false) → get_or v place false ≡ true → FailsFrom clauses lits place (set old place false) → FailsFrom clauses lits place v → FailsFrom clauses lits (place + 1) old
    join_fails v len same e f t = record { none = λ w a. go w a (get_or w place false) refl }
      where
        agree : (w : List Bool) → AgreesFrom (place + 1) w old → (u : List Bool) → length u ≡ length old → ((i : ℕ) → place + 1 ≤ i → get_or u i false ≡ get_or old i false) → get_or w place false ≡ get_or u place false → AgreesFrom place w u
        agree w a u lu su eu i le lti = elim (cases_eq i place) [
          | inl q ↦ subst (λ j. get_or w j false ≡ get_or u j false) (sym q) eu
          | inr n ↦ a i (omega arith) (omega arith) ∙ sym (su i (omega arith))
        ]

        go : (w : List Bool) → AgreesFrom (place + 1) w old → (b : Bool) → get_or w place false ≡ b → Satisfies w clauses → MakesTrue w lits → ⊥
        go w a true q = t.none w (agree w a v len same (q ∙ sym e))
        go w a false q = f.none w (agree w a (set old place false) (length-set old place false) (λ i le. get_or-set_other old place i false false (λ h. absurd (omega arith))) (q ∙ sym (get_or-set_same old place false false lt)))

    module _ (len : length one ≡ length old) (rest : (i : ℕ) → place ≤ i → get_or one i false ≡ get_or (set old place false) i false) where
      pub rest_first : (i : ℕ) → place + 1 ≤ i → get_or one i false ≡ get_or old i false
      rest_first i le = rest i (omega arith) ∙ get_or-set_other old place i false false (λ h. absurd (omega arith))

      rest_both : (i : ℕ) → place + 1 ≤ i → get_or (set one place true) i false ≡ get_or old i false
      rest_both i le = get_or-set_other one place i true false (λ h. absurd (omega arith)) ∙ rest_first i le

      pub rest_second : (two : List Bool) → ((i : ℕ) → place ≤ i → get_or two i false ≡ get_or (set one place true) i false) → (i : ℕ) → place + 1 ≤ i → get_or two i false ≡ get_or old i false
      rest_second two r i le = r i (omega arith) ∙ rest_both i le

      pub try_both : (r : Bool) → FailsFrom clauses lits place (set old place false) → IsTrue r ↔ FailsFrom clauses lits place (set one place true) → IsTrue r ↔ FailsFrom clauses lits (place + 1) old
      try_both r f d =
          let l : length (set one place true) ≡ length old = length-set one place true ∙ len in
          let s : get_or (set one place true) place false ≡ true = get_or-set_same one place true false (omega arith) in
          (λ h. join_fails (set one place true) l rest_both s f (d.0 h), λ g. d.1 (set_fails true (set one place true) l rest_both s g))

    pub try_first : (r : Bool) → IsTrue r ↔ FailsFrom clauses lits place (set old place false) → r ≡ false → IsTrue false ↔ FailsFrom clauses lits (place + 1) old
    try_first r d e = no (λ f. both_ways r e (d.1 (set_fails false (set old place false) (length-set old place false) (λ i le. get_or-set_other old place i false false (λ h. absurd (omega arith))) (get_or-set_same old place false false lt) f)))

  -- with all places to be tried, all values are
  pub all_tried : (v : List Bool) (n : ℕ) (r : Bool) → length v ≤ n → IsTrue r ↔ FailsFrom clauses lits n v → IsTrue r ↔ Fail clauses lits
  all_tried v n r le d = (λ h values s m. (d.0 h).none values (λ i lo hi. absurd (omega arith)) s m, λ f. d.1 (record { none = λ w a. f w }))

  module _ (l : ℕ) (all : List ℕ) (e : all ≡ lits ++ opposite l ∷ []) where
    pub to_consequence : Fail clauses all → IsConsequence clauses lits l
    to_consequence f values s m = elim (cases_Bool (true_in values l)) [
      | inl t ↦ t
      | inr u ↦ absurd (f values s (record { each = rw e (All-push (λ l. true_in values l ≡ true) lits (opposite l) m.each (true_in-opposite values l ∙ ap not u)) }))
    ]

    pub from_consequence : IsConsequence clauses lits l → Fail clauses all
    from_consequence c values s m =
        let each : All (λ l. true_in values l ≡ true) (lits ++ opposite l ∷ []) = rw e at m.each in
        let t = c values s (record { each = λ k x lt. All-contains (λ l. true_in values l ≡ true) (lits ++ opposite l ∷ []) (get_or lits k x) each (Contains-append_left lits (opposite l ∷ []) (get_or lits k x) (Contains-get_or lits k x lt)) }) in
        let o = All-contains (λ l. true_in values l ≡ true) (lits ++ opposite l ∷ []) (opposite l) each (Contains-push lits (opposite l)) in
        false≢true (sym (ap not t) ∙ sym (true_in-opposite values l) ∙ o)
