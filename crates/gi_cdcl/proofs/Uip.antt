-- What the first unique implication point gives: it is derived, and one literal of it alone was made false at the last level.
use Rattle.std.proofs.Common.{◌≡◌, ℕ, ◌+◌, ◌<◌, ◌≤◌, List, [], ◌∷◌, ◌++◌, length, take, map, get_or, sym, ap, ◌∙◌, subst, arith, ◌⊎◌, inl, inr}
use Rattle.std.specs.List.{Contains}
use Rattle.std.proofs.lemmas.Bool.{cases_lt, cases_eq}
use Rattle.std.proofs.lemmas.List.{take_all}
use Rattle.std.proofs.lemmas.List.Elements.{Contains-append_left, Contains-append_right, Contains-append_cases, Contains-push, Contains-get_or, All-contains}
use Rattle.gi_lit.specs.Literals.{opposite}
use Rattle.gi_lit.specs.Closure.{IsFalsified, IsDerivation, Conflicts}
use Rattle.gi_lit.specs.Problem.{without}
use Rattle.gi_lit.proofs.Literals.{opposite-opposite}
use Rattle.gi_lit.proofs.Closure.{IsDerivation-push, given_derives}
use Rattle.gi_store.specs.StoreView.{Entry, StoreView, Holds, IsLive, entries}
use Rattle.gi_prop.specs.TrailView.{TrailView}
use Rattle.gi_cdcl.specs.Sound.{stored}
use Rattle.gi_cdcl.specs.Uip.{IsResolved, IsUip}
use Rattle.gi_cdcl.specs.Uip.IsResolved.{begins, passes, resolves}
use Rattle.gi_prop.proofs.Fronts.{place_in_take, front_contains}
use Rattle.gi_cdcl.proofs.Lists.{Contains-map, without_keeps, without_has}

-- what is held is stored
pub holds_stored : (h : StoreView) (key : ℕ) (c : List ℕ) → Holds h key c → Contains (stored h) c
holds_stored h key c k = Contains-map (λ (e : Entry). e.lits) (entries h) (record { key = key; lits = c }) k

-- and its key is in use
pub holds_live : (h : StoreView) (key : ℕ) (c : List ℕ) → Holds h key c → IsLive h key
holds_live h key c k = Contains-map (λ (e : Entry). e.key) (entries h) (record { key = key; lits = c }) k

-- one literal is false from the place `top` of the last level, and the others were false before that level
pub record IsOneHigh (lits : List ℕ) (start : ℕ) (clause : List ℕ) : Type 0 where
  pub top : ℕ
  pub low : start ≤ top
  pub high : top < length lits
  pub stands : Contains clause (opposite (get_or lits top 0))
  pub rest : (m : ℕ) → Contains clause m → (m ≡ opposite (get_or lits top 0)) ⊎ Contains (take start lits) (opposite m)

module _ (h : StoreView) (t : TrailView) (conflict : List ℕ) (start : ℕ) (f : IsFalsified t.lits conflict) where
  -- each literal is false before the place
  pub resolved_false : (k : ℕ) (c : List ℕ) → IsResolved h t conflict start k c → (m : ℕ) → Contains c m → Contains (take k t.lits) (opposite m)
  resolved_false k c begins m inside = subst (λ xs. Contains xs (opposite m)) (sym (take_all (length t.lits) t.lits (omega arith))) (All-contains (λ m. Contains t.lits (opposite m)) conflict m f inside)
  resolved_false k c (passes k' c' r free) m inside = lower k c m inside free (resolved_false (k + 1) c r m inside)
    where
      lower : (k : ℕ) (c : List ℕ) (m : ℕ) → Contains c m → ¬ Contains c (opposite (get_or t.lits k 0)) → Contains (take (k + 1) t.lits) (opposite m) → Contains (take k t.lits) (opposite m)
      lower k c m inside free before =
          let p = place_in_take (k + 1) t.lits (opposite m) before in
          elim (cases_eq p.0 k) [
            | inl same ↦ absurd (free (subst (Contains c) (sym (ap (λ n. opposite (get_or t.lits n 0)) (sym same) ∙ ap opposite p.3 ∙ opposite-opposite m)) inside))
            | inr other ↦ subst (Contains (take k t.lits)) p.3 (front_contains k t.lits p.0 (omega (arith, p.1)) p.2)
          ]
  resolved_false k e (resolves k' key c reason r at high why holds g) m inside = elim (Contains-append_cases (without (opposite (get_or t.lits k 0)) c) (without (get_or t.lits k 0) reason) m inside) [
    | inl left ↦
        let w = without_has _ c m left in
        let p = place_in_take (k + 1) t.lits (opposite m) (resolved_false (k + 1) c r m w.0) in
        elim (cases_eq p.0 k) [
          | inl same ↦ absurd (w.1 (sym (ap (λ n. opposite (get_or t.lits n 0)) (sym same) ∙ ap opposite p.3 ∙ opposite-opposite m)))
          | inr other ↦ subst (Contains (take k t.lits)) p.3 (front_contains k t.lits p.0 (omega (arith, p.1)) p.2)
        ]
    | inr right ↦
        let w = without_has _ reason m right in
        elim (All-contains (λ m. (m ≡ get_or t.lits k 0) ⊎ Contains (take k t.lits) (opposite m)) reason m g.others w.0) [ inl same ↦ absurd (w.1 same) | inr before ↦ before ]
  ]

  -- whoever derives the opposites of its literals comes to a conflict
  pub resolved_conflicts : (stands : Contains (stored h) conflict) (k : ℕ) (c : List ℕ) → IsResolved h t conflict start k c → (given d : List ℕ) → IsDerivation (stored h) given d → ((m : ℕ) → Contains c m → Contains d (opposite m)) → Conflicts (stored h) given
  resolved_conflicts stands k c begins given d dd all = record { lits = d; derived = dd; clash = inr (conflict, stands, λ i e lt. all (get_or conflict i e) (Contains-get_or conflict i e lt)) }
  resolved_conflicts stands k c (passes k' c' r free) given d dd all = resolved_conflicts stands (k + 1) c r given d dd all
  resolved_conflicts stands k e (resolves k' key c reason r at high why holds g) given d dd all =
      resolved_conflicts stands (k + 1) c r given (d ++ get_or t.lits k 0 ∷ [])
      (IsDerivation-push (stored h) given d (get_or t.lits k 0) dd (inr (reason, holds_stored h key reason holds, record { stands = g.stands; others = λ i e lt. others (get_or reason i e) (Contains-get_or reason i e lt) })))
      (λ m inside. elim (cases_eq m (opposite (get_or t.lits k 0))) [
        | inl same ↦ subst (Contains (d ++ get_or t.lits k 0 ∷ [])) (sym (ap opposite same ∙ opposite-opposite (get_or t.lits k 0))) (Contains-push d (get_or t.lits k 0))
        | inr other ↦ Contains-append_left d (get_or t.lits k 0 ∷ []) (opposite m) (all m (Contains-append_left (without (opposite (get_or t.lits k 0)) c) (without (get_or t.lits k 0) reason) m (without_keeps (opposite (get_or t.lits k 0)) c m inside other)))
      ])
    where
      others : (m : ℕ) → Contains reason m → (m ≡ get_or t.lits k 0) ⊎ Contains d (opposite m)
      others m inside = elim (cases_eq m (get_or t.lits k 0)) [
        | inl same ↦ inl same
        | inr other ↦ inr (all m (Contains-append_right (without (opposite (get_or t.lits k 0)) c) (without (get_or t.lits k 0) reason) m (without_keeps (get_or t.lits k 0) reason m inside other)))
      ]

  module _ (clause : List ℕ) (u : IsUip h t conflict start clause) where
    pub uip_one_high : IsOneHigh t.lits start clause
    uip_one_high = record { top = u.top; low = u.low; high = u.high; stands = (u.same _).1 u.stands; rest = rest }
      where
        rest : (m : ℕ) → Contains clause m → (m ≡ opposite (get_or t.lits u.top 0)) ⊎ Contains (take start t.lits) (opposite m)
        rest m inside =
            let c = (u.same m).0 inside in
            let p = place_in_take (u.top + 1) t.lits (opposite m) (resolved_false (u.top + 1) u.resolved u.comes m c) in
            let is : m ≡ opposite (get_or t.lits p.0 0) = sym (ap opposite p.3 ∙ opposite-opposite m) in
            elim (cases_lt p.0 start) [
              | inl low ↦ inr (subst (Contains (take start t.lits)) p.3 (front_contains start t.lits p.0 low p.2))
              | inr ge ↦ elim (cases_eq p.0 u.top) [
                | inl same ↦ inl (is ∙ ap (λ n. opposite (get_or t.lits n 0)) same)
                | inr other ↦ absurd (u.alone (record { place = p.0; low = ge; high = omega (arith, p.1); stands = subst (Contains u.resolved) is c }))
              ]
            ]

    pub uip_conflicts : Contains (stored h) conflict → Conflicts (stored h) (map opposite clause)
    uip_conflicts stands = resolved_conflicts stands (u.top + 1) u.resolved u.comes (map opposite clause) (map opposite clause) (given_derives (stored h) (map opposite clause))
        (λ m inside. Contains-map opposite clause m ((u.same m).1 inside))
