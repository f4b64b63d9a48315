-- How many literals a store's problem has.
use Rattle.std.proofs.Common.{◌≡◌, ℕ, ◌+◌, ◌-◌, ◌/◌, ◌<◌, List, [], ◌∷◌, length, map, take, refl, ap, ◌∙◌, arith, length-take-le, length-drop}
use Rattle.std.specs.List.{Contains, sum_by}
use Rattle.std.proofs.lemmas.List.{map_push, length-map}
use Rattle.std.proofs.lemmas.List.Sums.{sum_by-cons, sum_by_push}
use Rattle.slab.specs.Slab.{Slab}
use Rattle.slab.proofs.SlabLemmas.{Contains-cons}
use Rattle.gi_lit.specs.Problem.{as_given, lit_count}
use Rattle.gi_store.specs.StoreView.{Entry, GroupEntry, StoreView, problem_of, with_plain, with_under}
use Rattle.gi_store.specs.declared.group_key.GroupKey.{GroupKey}
use Rattle.gi_store.specs.Stored.{clause_at, entry_at, guard_part, group_at, group_length, held_of}
use Rattle.gi_store.proofs.Lists.{Contains-head}
use Rattle.gi_store.proofs.Edits.{group_in}

abbrev lits_in : Entry → List ℕ
lits_in e = e.lits

-- the literals of the plain clauses
abbrev pub plain_size : Slab (List ℕ) → List ℕ → ℕ
plain_size s p = sum_by length (map lits_in (map (entry_at s) p))

-- each group has a guard
abbrev pub HaveGuards : Slab (List ℕ) → List GroupKey → Type 0
HaveGuards s q = (g : GroupKey) → Contains q g → 0 < length (group_at s g).guards

-- a clause with its last literals taken for guards, one at least, has as many as given as it has literals less one
as_stored : (c : List ℕ) (n : ℕ) → 0 < length (map (λ l. l / 2) (guard_part n c)) → length (take (length c - n) c) + (length (map (λ l. l / 2) (guard_part n c)) - 1) ≡ length c - 1
as_stored c n some = omega (arith, some, length-map (guard_part n c) (λ l. l / 2), length-drop (length c - n) c, length-take-le (length c - n) c (omega arith))

groups_sum : (s : Slab (List ℕ)) (q : List GroupKey) → HaveGuards s q → sum_by as_given (map group_in (map (group_at s) q)) ≡ sum_by (group_length s) q
groups_sum s [] h = refl
groups_sum s (g ∷ q) h =
    let a = sum_by-cons as_given (group_in (group_at s g)) (map group_in (map (group_at s) q)) in
    let b = sum_by-cons (group_length s) g q in
    let e : as_given (group_in (group_at s g)) ≡ group_length s g = as_stored (clause_at s g.key) g.guards (h g (Contains-head g q)) in
    omega (arith, a, b, e, groups_sum s q (λ u c. h u (Contains-cons g u q c)))

pub count_parts : (s : Slab (List ℕ)) (p : List ℕ) (q : List GroupKey) (l : List ℕ) (n : ℕ) (a f : List ℕ) → HaveGuards s q → lit_count (problem_of (held_of n s p q l a f)) ≡ plain_size s p + sum_by (group_length s) q
unfolding lit_count
count_parts s p q l n a f h = ap (λ x. plain_size s p + x) (groups_sum s q h)

pub count_plain : (k : ℕ) (c : List ℕ) (h : StoreView) → lit_count (problem_of (with_plain k c h)) ≡ lit_count (problem_of h) + length c
unfolding lit_count
count_plain k c h =
    let a = ap (sum_by length) (map_push lits_in h.plain (record { key = k; lits = c })) ∙ sum_by_push length (map lits_in h.plain) c in
    omega (arith, a)

pub count_under : (k : ℕ) (gs c : List ℕ) (h : StoreView) → lit_count (problem_of (with_under k gs c h)) ≡ lit_count (problem_of h) + (length c + (length gs - 1))
unfolding lit_count
count_under k gs c h =
    let a = ap (sum_by as_given) (map_push group_in h.groups (record { key = k; guards = gs; clause = c })) ∙ sum_by_push as_given (map group_in h.groups) (record { guards = gs; clause = c }) in
    omega (arith, a)

-- learnt clauses and guards don't count
pub count_same : (h i : StoreView) → i.plain ≡ h.plain → i.groups ≡ h.groups → lit_count (problem_of i) ≡ lit_count (problem_of h)
unfolding lit_count
count_same h i a b = ap (λ (x : List Entry). sum_by length (map lits_in x) + sum_by as_given (map group_in i.groups)) a ∙ ap (λ (x : List GroupEntry). sum_by length (map lits_in h.plain) + sum_by as_given (map group_in x)) b
