-- Which keys are left while a guard's clauses are detached, the last ones first.
use Rattle.std.proofs.Common.{◌≡◌, ℕ, suc, ◌+◌, ◌-◌, ◌*◌, ◌/◌, ◌<◌, ◌≤◌, ◌==◌, Bool, true, false, not, cond, List, [], ◌∷◌, ◌++◌, length, take, drop, map, get_or, refl, sym, ap, ◌∙◌, subst, arith, ◌⊎◌, inl, inr, append_assoc, add-one, drop-cons, length-append}
use Rattle.std.specs.List.{All, Contains, filter, slice_index}
use Rattle.std.proofs.lemmas.Bool.{cases_lt, not_from_false, eq-eqb, ne_eqb}
use Rattle.std.proofs.lemmas.List.{append-nil, drop_all, get_or_append_left, get_or-append_right, length-map, take-append-drop, take-append-le, take_all, take_more}
use Rattle.std.proofs.lemmas.Grind.{get_or_default_zero}
use Rattle.std.proofs.lemmas.List.Elements.{All-contains, All-cons, All-nil, All-head, All-tail, filter-append}
use Rattle.std.proofs.lemmas.List.Folds.{list_any_at, list_any_none}
use Rattle.gi_lit.specs.Lists.{IsDistinct}
use Rattle.gi_lit.specs.Problem.{Problem, IsPlain, IsGroup, IsProblemVar, names, negatives}
use Rattle.gi_lit.proofs.Lists.{Contains-first, Contains-later, Contains-map, Contains-unmap}
use Rattle.gi_lit.proofs.Vars.{var_facts}
use Rattle.gi_store.specs.StoreView.{Entry, GroupEntry, StoreView, problem_of, full_entry, entries, keys_of, without_guard_of}
use Rattle.gi_store.specs.Laws.{EntriesAreLeft}
use Rattle.gi_store.specs.Whole.{IsWhole}
use Rattle.gi_store.proofs.Lists.{Contains-take}
use Rattle.gi_store.proofs.Edits.{group_in}
use Rattle.gi_store.proofs.Removing.{names_none}
use Rattle.gi_prop.specs.Attached.{IsAttached, Detaches}
use Rattle.gi_cdcl.specs.Searching.{Searching, HasAll}
use Rattle.gi_core.specs.Joined.{AreAttached, AreGuardsLast, EndsActive, HasKeys, keys, looked_at}
use Rattle.gi_core.proofs.Keys.{Contains-middle, has_all, has_less, keys_split}

-- the clauses that don't name a guard
abbrev keeps : ℕ → Entry → Bool
keeps g e = not (names g e.lits)

-- the next entry to be looked at
looked_now : (g : ℕ) (es : List Entry) (m i : ℕ) (e : Entry) → m ≡ i + 1 → i < length es → e ≡ get_or es i e → looked_at g es m ≡ take i es ++ e ∷ filter (keeps g) (drop (i + 1) es)
looked_now g es m i e p lt q =
    ap (looked_at g es) p ∙ ap (λ xs. xs ++ filter (keeps g) (drop (i + 1) es)) (take_more es i e lt ∙ ap (λ x. take i es ++ x ∷ []) (sym q))
    ∙ append_assoc (take i es) (e ∷ []) (filter (keeps g) (drop (i + 1) es))

looked_next : (g : ℕ) (es : List Entry) (i : ℕ) (e : Entry) (b : Bool) → i < length es → e ≡ get_or es i e → keeps g e ≡ b → looked_at g es i ≡ take i es ++ cond b (e ∷ filter (keeps g) (drop (i + 1) es)) (filter (keeps g) (drop (i + 1) es))
looked_next g es i e b lt q t =
    let d : drop i es ≡ e ∷ drop (i + 1) es = drop-cons es i e lt ∙ ap (λ x. x ∷ drop (suc i) es) (sym q) ∙ rw add-one refl in
    ap (λ xs. take i es ++ filter (keeps g) xs) d
    ∙ ap (λ (x : Bool). take i es ++ cond x (e ∷ filter (keeps g) (drop (i + 1) es)) (filter (keeps g) (drop (i + 1) es))) t

pub looked_keep : (s : Searching) (g : ℕ) (es : List Entry) (m i : ℕ) (e : Entry) → m ≡ i + 1 → i < length es → e ≡ get_or es i e → names g e.lits ≡ false → HasKeys s (looked_at g es m) → HasKeys s (looked_at g es i)
looked_keep s g es m i e p lt q n h = subst (HasKeys s) (looked_now g es m i e p lt q ∙ sym (looked_next g es i e true lt q (not_from_false _ n))) h

pub looked_drop : (s t : Searching) (g : ℕ) (es : List Entry) (m i : ℕ) (e : Entry) → m ≡ i + 1 → i < length es → e ≡ get_or es i e → names g e.lits ≡ true → HasKeys s (looked_at g es m) → Detaches e.key s.attached t.attached → HasKeys t (looked_at g es i)
looked_drop s t g es m i e p lt q n h d = subst (HasKeys t) (sym (looked_next g es i e false lt q (ap not n))) (has_less s t (take i es) (filter (keeps g) (drop (i + 1) es)) e (subst (HasKeys s) (looked_now g es m i e p lt q) h) d)

-- it is still attached
pub looked_attached : (s : Searching) (g : ℕ) (es : List Entry) (m i : ℕ) (e : Entry) → m ≡ i + 1 → i < length es → e ≡ get_or es i e → HasKeys s (looked_at g es m) → IsAttached s.attached e.key
looked_attached s g es m i e p lt q h =
    let rest = filter (keeps g) (drop (i + 1) es) in
    let a = subst (HasKeys s) (looked_now g es m i e p lt q) h in
    ((subst (AreAttached s) (keys_split (take i es) rest e) a.attached).each e.key).1 (Contains-middle (keys (take i es)) (keys rest) e.key)

pub looked_start : (s : Searching) (g : ℕ) (h : StoreView) (n : ℕ) → HasAll s h → IsDistinct (keys_of h) → length (entries h) ≤ n → HasKeys s (looked_at g (entries h) n)
looked_start s g h n a d le =
    let all : looked_at g (entries h) n ≡ entries h = ap (λ xs. xs ++ filter (keeps g) (drop n (entries h))) (take_all n (entries h) le) ∙ ap (λ xs. entries h ++ filter (keeps g) xs) (drop_all n (entries h) le) ∙ append-nil (entries h) in
    subst (HasKeys s) (sym all) (record { attached = has_all s h a; distinct = d })

filter_every : {X : Type 0} (p : X → Bool) (xs : List X) → ((x : X) → Contains xs x → p x ≡ true) → filter p xs ≡ xs
filter_every p [] h = refl
filter_every {X} p (x ∷ xs) h = go (p x) (h x (Contains-first x xs)) (filter_every p xs (λ y c. h y (Contains-later x xs y c)))
  where
    go : (b : Bool) → b ≡ true → filter p xs ≡ xs → cond b (x ∷ filter p xs) (filter p xs) ≡ x ∷ xs
    go true e r = ap (λ ys. x ∷ ys) r
    go false e r = absurd cc

is_plain : (h : StoreView) (e : Entry) → IsWhole h → Contains h.plain e → IsPlain (problem_of h) e.lits
is_plain h e w c = All-contains (IsPlain (problem_of h)) (map (λ (e : Entry). e.lits) h.plain) e.lits w.well_formed.plain (Contains-map (λ (e : Entry). e.lits) h.plain e c)

-- once plain clauses alone weren't looked at, what is left is what the store has without the guard
pub looked_end : (law : EntriesAreLeft) (s : Searching) (g : ℕ) (h : StoreView) (i : ℕ) → IsWhole h → Contains h.active g → i ≤ length h.plain → HasKeys s (looked_at g (entries h) i) → AreAttached s (keys_of (without_guard_of g h))
looked_end law s g h i w act le k = subst (AreAttached s) (ap keys (ap (λ xs. xs ++ filter (keeps g) (drop i es)) (sym plain) ∙ sym (filter-append (keeps g) (take i es) (drop i es)) ∙ ap (filter (keeps g)) (take-append-drop i es) ∙ sym (law g h w act))) k.attached
  where
    es : List Entry
    es = entries h

    front : take i es ≡ take i h.plain
    front = take-append-le i h.plain (map full_entry h.groups ++ h.learnt) le

    plain : filter (keeps g) (take i es) ≡ take i es
    plain = filter_every (keeps g) (take i es) (λ e c. not_from_false _ (names_none (problem_of h) e.lits g (is_plain h e w (Contains-take i h.plain e (subst (λ xs. Contains xs e) front c))) act))

-- an entry of the problem: a plain clause, or a group
problem_entry : (h : StoreView) (i : ℕ) (e : Entry) → i < length h.plain + length h.groups → e ≡ get_or (entries h) i e → ((i < length h.plain) × Contains h.plain e) ⊎ ((q : GroupEntry) × Contains h.groups q × (full_entry q ≡ e))
problem_entry h i e lt q = elim (cases_lt i (length h.plain)) [
  | inl l ↦ inl (l, (i, l, sym (q ∙ get_or_append_left h.plain rest e i l)))
  | inr r ↦ inr (Contains-unmap full_entry h.groups e (i - length h.plain, within r, sym (q ∙ get_or-append_right h.plain rest (length h.plain) i e refl r ∙ get_or_append_left (map full_entry h.groups) h.learnt e (i - length h.plain) (within r))))
]
  where
    rest : List Entry
    rest = map full_entry h.groups ++ h.learnt

    within : length h.plain ≤ i → i - length h.plain < length (map full_entry h.groups)
    within r = rw length-map (omega arith)

-- the literals of active guards
are_active : (active gs : List ℕ) → All (Contains active) gs → All (λ l. Contains active (l / 2)) (negatives gs)
are_active active [] a = All-nil (λ l. Contains active (l / 2))
are_active active (g ∷ gs) a = All-cons (λ l. Contains active (l / 2)) (2 * g + 1) (negatives gs) (let e : g ≡ (2 * g + 1) / 2 = omega arith in subst (Contains active) e (All-head (Contains active) g gs a)) (are_active active gs (All-tail (Contains active) g gs a))

-- what stands behind the clause of a group is a guard's
guard_at : (active c gs : List ℕ) (k : ℕ) → All (Contains active) gs → length c ≤ k → k < length (c ++ negatives gs) → Contains active (slice_index (c ++ negatives gs) k / 2)
guard_at active c gs k a le lt =
    let n = length-append c (negatives gs) in
    subst (λ l. Contains active (l / 2)) (sym (get_or-append_right c (negatives gs) (length c) k 0 refl le)) (are_active active gs a (k - length c) 0 (omega arith))

split_last : (p : Problem) (c gs : List ℕ) → IsPlain p c → All (Contains p.active) gs → AreGuardsLast p.active (c ++ negatives gs)
split_last p c gs plain a = record { before = λ j k le lt unlike. go j k le lt unlike (cases_lt k (length c)) }
  where
    go : (j k : ℕ) → j ≤ k → k < length (c ++ negatives gs) → ¬ Contains p.active (slice_index (c ++ negatives gs) k / 2) → (k < length c) ⊎ (length c ≤ k) → ¬ Contains p.active (slice_index (c ++ negatives gs) j / 2)
    go j k le lt unlike (inl l) =
        let h : j < length c = omega arith in
        let v : IsProblemVar p (get_or c j 0 / 2) = plain j 0 h in
        subst (λ m. ¬ Contains p.active (m / 2)) (sym (get_or_append_left c (negatives gs) 0 j h)) (var_facts p (get_or c j 0 / 2) v).inactive
    go j k le lt unlike (inr r) = absurd (unlike (guard_at p.active c gs k a r lt))

in_group : (h : StoreView) (q : GroupEntry) → IsWhole h → Contains h.groups q → IsGroup (problem_of h) (group_in q)
in_group h q w c = All-contains (IsGroup (problem_of h)) (map group_in h.groups) (group_in q) w.well_formed.groups (Contains-map group_in h.groups q c)

-- of an entry of the problem the guards' literals stand last
pub guards_last : (h : StoreView) (i : ℕ) (e : Entry) → IsWhole h → i < length h.plain + length h.groups → e ≡ get_or (entries h) i e → AreGuardsLast h.active e.lits
guards_last h i e w lt q = elim (problem_entry h i e lt q) [
  | inl p ↦ subst (AreGuardsLast h.active) (append-nil e.lits) (split_last (problem_of h) e.lits [] (is_plain h e w p.1) (All-nil (Contains h.active)))
  | inr r ↦ subst (λ (x : Entry). AreGuardsLast h.active x.lits) r.2 (let g = in_group h r.0 w r.1 in split_last (problem_of h) r.0.clause r.0.guards g.0 g.1)
]

-- and where its last literal is of none, it is a plain clause
pub plain_place : (h : StoreView) (i : ℕ) (e : Entry) → IsWhole h → i < length h.plain + length h.groups → e ≡ get_or (entries h) i e → ¬ EndsActive h.active e.lits → i < length h.plain
plain_place h i e w lt q unlike = elim (problem_entry h i e lt q) [
  | inl p ↦ p.0
  | inr r ↦ absurd (unlike (subst (λ (x : Entry). EndsActive h.active x.lits) r.2 (ends r.0 (in_group h r.0 w r.1))))
]
  where
    ends : (x : GroupEntry) → IsGroup (problem_of h) (group_in x) → EndsActive h.active (x.clause ++ negatives x.guards)
    ends x g =
        let n = length-append x.clause (negatives x.guards) in
        let m = length-map x.guards (λ (v : ℕ). 2 * v + 1) in
        let some = g.2 in
        (omega arith, guard_at h.active x.clause x.guards (length (x.clause ++ negatives x.guards) - 1) g.1 (omega arith) (omega arith))

-- the literals of the clause from a place on are of other variables
pub record AreOthers (g : ℕ) (c : List ℕ) (n : ℕ) : Type 0 where
  pub each : (k : ℕ) → n ≤ k → k < length c → ¬ (slice_index c k / 2 ≡ g)

pub named_at : (g : ℕ) (c : List ℕ) (i : ℕ) → i < length c → slice_index c i / 2 ≡ g → true ≡ names g c
named_at g c i lt e = sym (list_any_at (λ l. l / 2 == g) c i 0 lt (eq-eqb (get_or c i 0 / 2) g e))

pub none_named : (g : ℕ) (c : List ℕ) → AreOthers g c 0 → false ≡ names g c
none_named g c o = sym (list_any_none (λ l. l / 2 == g) c (λ k d lt. ne_eqb (get_or c k d / 2) g (λ e. o.each k (omega arith) lt (ap (λ (l : ℕ). l / 2) (sym (get_or_default_zero c k d lt)) ∙ e))))

pub others_more : (g : ℕ) (c : List ℕ) (m i : ℕ) → m ≡ i + 1 → AreOthers g c m → ¬ (slice_index c i / 2 ≡ g) → AreOthers g c i
others_more g c m i p o unlike = record { each = λ k le lt. elim (cases_lt i k) [ inl l ↦ o.each k (omega arith) lt | inr r ↦ (let e : i ≡ k = omega arith in λ q. unlike (ap (λ (x : ℕ). slice_index c x / 2) e ∙ q)) ] }

-- once a literal is of no guard, those before it are of none
pub others_all : (active : List ℕ) (g : ℕ) (c : List ℕ) (m i : ℕ) → m ≡ i + 1 → i < length c → Contains active g → AreGuardsLast active c → AreOthers g c m → ¬ Contains active (slice_index c i / 2) → AreOthers g c 0
others_all active g c m i p lt act last o unlike = record { each = λ k le within. elim (cases_lt i k) [ inl l ↦ o.each k (omega arith) within | inr r ↦ (λ q. last.before k i r lt unlike (subst (Contains active) (sym q) act)) ] }
