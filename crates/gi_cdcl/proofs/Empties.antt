-- Looking for an empty clause.
use Rattle.std.proofs.Common.{◌≡◌, ◌≢◌, ℕ, ◌+◌, ◌-◌, ◌<◌, false, nat_eq, Some, List, [], length, get_or, sym, ap, ◌∙◌, subst, arith, length-append}
use Rattle.std.specs.List.{All, Contains, slice_get}
use Rattle.std.proofs.lemmas.Bool.{eqb-false, ne_eqb}
use Rattle.std.proofs.lemmas.List.{length-map, get_or-map, get_or_append_left}
use Rattle.std.proofs.lemmas.List.Elements.{All-append, All-from_get_or, Contains-get_or, Contains-append_right}
use Rattle.std.proofs.lemmas.Option.{slice_get_within, get_or_from_slice_get}
use Rattle.gi_lit.specs.Problem.{clause_count, full}
use Rattle.gi_lit.proofs.Resting.{length-full}
use Rattle.gi_store.specs.StoreView.{Entry, StoreView, Holds, entries, keys_of, problem_of, known_of, at_place}
use Rattle.gi_store.proofs.Edits.{group_in}
use Rattle.gi_cdcl.specs.Sound.{stored}
use Rattle.gi_cdcl.proofs.Teaching.{stored_is}

pub not_empty : (n : ℕ) → nat_eq n 0 ≡ false → 0 < n
not_empty n e = let q : n ≢ 0 = eqb-false n 0 e in omega arith

place_next : {X : Type 0} (xs : List X) (i : ℕ) → at_place xs (i + 1) ≡ slice_get xs i
place_next xs i = rw (ne_eqb (i + 1) 0 (λ e. omega (arith, e))) (ap (λ n. slice_get xs n) (let e : i + 1 - 1 ≡ i = omega arith in e))

pub at_some : {X : Type 0} (xs : List X) (i : ℕ) (x d : X) → Some x ≡ at_place xs (i + 1) → (i < length xs) × (get_or xs i d ≡ x)
at_some xs i x d e = let q : slice_get xs i ≡ Some x = sym (e ∙ place_next xs i) in (slice_get_within xs i x q, get_or_from_slice_get xs i x d q)

-- the clause of the key at a place is the stored one there
pub stored_at : (h : StoreView) (i key : ℕ) → Some key ≡ at_place (keys_of h) (i + 1) → (c : List ℕ) × Holds h key c × (get_or (stored h) i [] ≡ c)
stored_at h i key e =
    let r = at_some (keys_of h) i key 0 e in
    let lt : i < length (entries h) = rw length-map at r.0 in
    let none : Entry = record { key = 0; lits = [] } in
    let en = get_or (entries h) i none in
    let key_is : en.key ≡ key = sym (get_or-map (λ (x : Entry). x.key) (entries h) i none 0 lt) ∙ r.1 in (
      en.lits,
      subst (λ (n : ℕ). Contains (entries h) (record { key = n; lits = en.lits })) key_is (Contains-get_or (entries h) i none lt),
      get_or-map (λ (x : Entry). x.lits) (entries h) i none [] lt,
    )

-- how many clauses of the problem are stored
pub count_is : (h : StoreView) → clause_count (problem_of h) ≡ length h.plain + length h.groups
count_is h =
    let a : length (problem_of h).plain ≡ length h.plain = length-map h.plain (λ (e : Entry). e.lits) in
    let b : length (problem_of h).groups ≡ length h.groups = length-map h.groups group_in in
    omega (arith, a, b)

-- where no stored clause of the problem is empty, no full clause is
pub full_nonempty : (h : StoreView) → ((j : ℕ) → j < length h.plain + length h.groups → 0 < length (get_or (stored h) j [])) → All (λ c. 0 < length c) (full (problem_of h))
full_nonempty h problem =
    All-from_get_or (λ c. 0 < length c) (full (problem_of h)) [] (λ j lt. subst (λ (xs : List ℕ). 0 < length xs)
    (ap (λ (cs : List (List ℕ)). get_or cs j []) (stored_is h) ∙ get_or_append_left (full (problem_of h)) (known_of h) [] j lt)
    (problem j (omega (arith, lt, length-full (problem_of h), count_is h))))

pub none_empty : (h : StoreView) → All (λ c. 0 < length c) (full (problem_of h)) → All (λ c. 0 < length c) (known_of h) → All (λ c. 0 < length c) (stored h)
none_empty h problem known = subst (All (λ c. 0 < length c)) (sym (stored_is h)) (All-append (λ c. 0 < length c) (full (problem_of h)) (known_of h) problem known)

pub known_empty : (h : StoreView) → Contains (known_of h) [] → Contains (stored h) []
known_empty h k = subst (λ (cs : List (List ℕ)). Contains cs []) (sym (stored_is h)) (Contains-append_right (full (problem_of h)) (known_of h) [] k)

pub keys_length : (h : StoreView) → length (keys_of h) ≡ length h.plain + length h.groups + length (known_of h)
keys_length h =
    let a : length (keys_of h) ≡ length (stored h) = length-map (entries h) (λ (e : Entry). e.key) ∙ sym (length-map (entries h) (λ (e : Entry). e.lits)) in
    let b : length (stored h) ≡ length (full (problem_of h)) + length (known_of h) = ap (λ (cs : List (List ℕ)). length cs) (stored_is h) ∙ length-append (full (problem_of h)) (known_of h) in
    omega (arith, a, b, length-full (problem_of h), count_is h)
