-- What the edits are to the problem.
use Rattle.std.proofs.Common.{◌≡◌, ℕ, ◌+◌, ◌/◌, List, [], ◌∷◌, ◌++◌, length, map, drop, refl, sym, ap, ◌∙◌}
use Rattle.std.proofs.lemmas.List.{map_push, map-append, drop-map, length-map, append_assoc}
use Rattle.gi_lit.specs.Problem.{Problem, Group, negatives, guarded, full, guard_made}
use Rattle.gi_store.specs.StoreView.{Entry, GroupEntry, StoreView, problem_of, known_of, full_entry}
use Rattle.gi_store.specs.Laws.{PlainIsAdded, GroupIsAdded, LearntIsAdded, GuardIsMade, GuardIsDropped, OldestAreDropped, EntriesAreClauses}
use Rattle.gi_store.proofs.Edits.{group_in, problem_without, known_without}

abbrev built : StoreView → List (List ℕ) → List Group → Problem
built h plain groups = record { vars = h.vars; plain = plain; groups = groups; active = h.active; freed = h.freed }

pub plain_added : PlainIsAdded
plain_added key c h = ap (λ x. built h x (map group_in h.groups)) (map_push (λ (e : Entry). e.lits) h.plain (record { key = key; lits = c }))

pub group_added : GroupIsAdded
group_added key guards c h = ap (λ x. built h (map (λ (e : Entry). e.lits) h.plain) x) (map_push group_in h.groups (record { key = key; guards = guards; clause = c }))

pub learnt_added : LearntIsAdded
learnt_added key c h = map_push (λ (e : Entry). e.lits) h.learnt (record { key = key; lits = c })

pub guard_is_made : GuardIsMade
guard_is_made h = go h.freed
  where
    go : (fs : List ℕ) → (let p = guard_made (problem_of h) fs in let q : Problem = record { vars = p.vars; plain = map (λ (e : Entry). e.lits) h.plain; groups = map group_in h.groups; active = p.active; freed = p.freed } in q) ≡ guard_made (problem_of h) fs
    go [] = refl
    go (g ∷ gs) = refl

pub guard_is_dropped : GuardIsDropped
guard_is_dropped g h = (problem_without g h, known_without g h)

pub oldest_dropped : OldestAreDropped
oldest_dropped h = sym (drop-map (λ (e : Entry). e.lits) (length h.learnt / 2) h.learnt) ∙ ap (λ n. drop (n / 2) (known_of h)) (sym (length-map h.learnt (λ (e : Entry). e.lits)))

full_lits : (qs : List GroupEntry) → map (λ (e : Entry). e.lits) (map full_entry qs) ≡ map guarded (map group_in qs)
full_lits [] = refl
full_lits (q ∷ qs) = ap (λ xs. (q.clause ++ negatives q.guards) ∷ xs) (full_lits qs)

pub entries_are : EntriesAreClauses
unfolding full
entries_are h =
    map-append (λ (e : Entry). e.lits) h.plain (map full_entry h.groups ++ h.learnt)
    ∙ ap (λ xs. map (λ (e : Entry). e.lits) h.plain ++ xs) (map-append (λ (e : Entry). e.lits) (map full_entry h.groups) h.learnt ∙ ap (λ xs. xs ++ known_of h) (full_lits h.groups))
    ∙ sym (append_assoc (map (λ (e : Entry). e.lits) h.plain) (map guarded (map group_in h.groups)) (known_of h))
