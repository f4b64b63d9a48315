-- How many clauses a store can have: each key is a place of the slab, and no key stands twice.
use Rattle.std.proofs.Common.{◌≡◌, ℕ, ◌+◌, ◌<◌, ◌≤◌, false, Option, None, List, [], ◌∷◌, ◌++◌, length, map, get_or, eqb, subst, sym, arith, inl, inr, length-append}
use Rattle.std.specs.List.{All, Contains, IsDistinct}
use Rattle.std.specs.Option.{IsSome}
use Rattle.std.proofs.lemmas.Bool.{cases_lt, eqb-true, ne_eqb}
use Rattle.std.proofs.lemmas.List.{get_or_past, length-map}
use Rattle.std.proofs.lemmas.List.Elements.{recursion_from_All, Contains-get_or}
use Rattle.std.proofs.lemmas.Map.Steps.{length-le_from_distinct_below}
use Rattle.std.proofs.lemmas.Map.Views.{Contains-from_any}
use Rattle.slab.specs.Slab.{Slab, get}
use Rattle.gi_lit.specs.Lists.{IsDistinct as HasNoneTwice}
use Rattle.gi_store.specs.StoreView.{Entry, GroupEntry}
use Rattle.gi_store.specs.declared.group_key.GroupKey.{GroupKey}
use Rattle.gi_store.specs.Stored.{entry_at, keys_in, group_at, held_of, AreKeys, IsStored}
use Rattle.gi_store.proofs.Views.{some_not_none}

distinct_from : (xs : List ℕ) → HasNoneTwice xs → IsDistinct eqb xs
unfolding IsDistinct
distinct_from [] h = tt
distinct_from (x ∷ xs) h = (
  recursion_from_All (λ y. eqb x y ≡ false) xs (λ k d lt. ne_eqb x (get_or xs k d) (λ e. h.0 (subst (Contains xs) (sym e) (Contains-get_or xs k d lt)))),
  distinct_from xs h.1,
)

stands : (slots : List (Option (List ℕ))) (k : ℕ) → IsSome (get_or slots k None) → k < length slots
stands slots k h = elim (cases_lt k (length slots)) [
  | inl lt ↦ lt
  | inr ge ↦ absurd (some_not_none (get_or slots k None) h (get_or_past slots k None ge))
]

-- no more keys than places
few_keys : (slab : Slab (List ℕ)) (keys : List ℕ) (n : ℕ) → AreKeys slab keys → length slab.slots ≤ n → length keys ≤ n
few_keys slab keys n a le = length-le_from_distinct_below keys n (distinct_from keys a.distinct) (λ q t. let lt = stands slab.slots q (a.live q (Contains-from_any {eq = eqb} eqb-true q keys t)) in omega arith)

pub few_entries : (slab : Slab (List ℕ)) (plain : List ℕ) (groups : List GroupKey) (learnt : List ℕ) (vars : ℕ) (active freed : List ℕ) → IsStored slab plain groups learnt → (n : ℕ) → length slab.slots ≤ n → n < 18446744073709551616
    → let h = held_of vars slab plain groups learnt active freed in length h.plain + length h.groups + length h.learnt < 18446744073709551616
few_entries slab plain groups learnt vars active freed s n le lt =
    let few = few_keys slab (plain ++ (keys_in groups ++ learnt)) n s.keys le in
    omega (arith, few, length-append plain (keys_in groups ++ learnt), length-append (keys_in groups) learnt, length-map groups (λ (g : GroupKey). g.key), length-map plain (entry_at slab), length-map groups (group_at slab), length-map learnt (entry_at slab))
