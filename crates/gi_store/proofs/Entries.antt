-- What is stored after an edit.
use Rattle.std.proofs.Common.{◌≡◌, ℕ, Bool, true, false, not, cond, List, [], ◌∷◌, ◌++◌, map, refl, sym, ap, ◌∙◌, append_assoc}
use Rattle.std.specs.List.{Contains, filter}
use Rattle.std.proofs.lemmas.Bool.{not_from_false}
use Rattle.std.proofs.lemmas.List.{map_push}
use Rattle.std.proofs.lemmas.List.Elements.{All-contains, filter-append}
use Rattle.slab.proofs.SlabLemmas.{Contains-cons}
use Rattle.gi_lit.specs.Problem.{has, names, negatives, IsPlain, IsGroup}
use Rattle.gi_store.specs.StoreView.{Entry, GroupEntry, StoreView, problem_of, full_entry, entries, with_under}
use Rattle.gi_store.specs.Laws.{EntriesAreLeft}
use Rattle.gi_store.proofs.Lists.{Contains-head, Contains-map, filter_alike, filter_of_map}
use Rattle.gi_store.proofs.Edits.{group_in}
use Rattle.gi_store.proofs.Removing.{names_none, names_group}

abbrev leaves : ℕ → Entry → Bool
leaves g e = not (names g e.lits)

filter_every : {X : Type 0} (p : X → Bool) (xs : List X) → ((x : X) → Contains xs x → p x ≡ true) → filter p xs ≡ xs
filter_every p [] h = refl
filter_every {X} p (x ∷ xs) h = go (p x) (h x (Contains-head x xs)) (filter_every p xs (λ y c. h y (Contains-cons x y xs c)))
  where
    go : (b : Bool) → b ≡ true → filter p xs ≡ xs → cond b (x ∷ filter p xs) (filter p xs) ≡ x ∷ xs
    go true e r = ap (λ ys. x ∷ ys) r
    go false e r = absurd cc

-- a clause under guards stands behind the groups that were there
pub under_split : (key : ℕ) (gs c : List ℕ) (h : StoreView) → entries (with_under key gs c h) ≡ (h.plain ++ map full_entry h.groups) ++ record { key = key; lits = c ++ negatives gs } ∷ h.learnt
under_split key gs c h =
    let q : GroupEntry = record { key = key; guards = gs; clause = c } in
    ap (λ qs. h.plain ++ (qs ++ h.learnt)) (map_push full_entry h.groups q)
    ∙ ap (λ es. h.plain ++ es) (append_assoc (map full_entry h.groups) (full_entry q ∷ []) h.learnt)
    ∙ sym (append_assoc h.plain (map full_entry h.groups) (full_entry q ∷ h.learnt))

-- without a guard what names it is gone, and nothing else
pub entries_without : EntriesAreLeft
entries_without g h w act = sym (
    filter-append (leaves g) h.plain (map full_entry h.groups ++ h.learnt)
    ∙ ap (λ es. es ++ filter (leaves g) (map full_entry h.groups ++ h.learnt)) (filter_every (leaves g) h.plain plain)
    ∙ ap (λ es. h.plain ++ es) (filter-append (leaves g) (map full_entry h.groups) h.learnt)
    ∙ ap (λ es. h.plain ++ (es ++ filter (leaves g) h.learnt)) groups)
  where
    plain : (e : Entry) → Contains h.plain e → leaves g e ≡ true
    plain e c = not_from_false _ (names_none (problem_of h) e.lits g (All-contains (IsPlain (problem_of h)) (map (λ (e : Entry). e.lits) h.plain) e.lits w.well_formed.plain (Contains-map (λ (e : Entry). e.lits) h.plain e c)) act)

    named : (q : GroupEntry) → Contains h.groups q → leaves g (full_entry q) ≡ not (has q.guards g)
    named q c = ap not (names_group (problem_of h) q.guards g q.clause (in_group q c).0 act)
      where
        in_group : (q : GroupEntry) → Contains h.groups q → IsGroup (problem_of h) (group_in q)
        in_group q c = All-contains (IsGroup (problem_of h)) (map group_in h.groups) (group_in q) w.well_formed.groups (Contains-map group_in h.groups q c)

    groups : filter (leaves g) (map full_entry h.groups) ≡ map full_entry (filter (λ (q : GroupEntry). not (has q.guards g)) h.groups)
    groups = filter_of_map full_entry (leaves g) h.groups ∙ ap (map full_entry) (filter_alike (λ q. leaves g (full_entry q)) (λ (q : GroupEntry). not (has q.guards g)) h.groups named)
