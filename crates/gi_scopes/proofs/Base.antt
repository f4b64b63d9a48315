-- The plain clauses and groups of a store, apart from what it has learnt.
use Rattle.std.proofs.Common.{◌≡◌, ℕ, ◌+◌, List, [], ◌++◌, length, map, take, refl, sym, ap, ◌∙◌, subst, append_assoc, length-append}
use Rattle.std.specs.List.{Contains}
use Rattle.std.proofs.lemmas.List.{append-nil, map-append, length-map, take_at}
use Rattle.std.proofs.lemmas.List.Elements.{Contains-append_left}
use Rattle.gi_lit.specs.Lists.{IsDistinct}
use Rattle.gi_lit.specs.Problem.{full}
use Rattle.gi_store.specs.StoreView.{Entry, StoreView, Holds, IsLive, Keeps, problem_of, entries, keys_of, full_entry}
use Rattle.gi_store.proofs.Lists.{Contains-map, Contains-unmap}
use Rattle.gi_store.proofs.Editing.{entries_are}
use Rattle.gi_store.proofs.Removing.{keeps_fewer, keeps_more}
use Rattle.gi_scopes.specs.Under.{base_of}

module _ (s : StoreView) where
  entries_split : entries s ≡ entries (base_of s) ++ s.learnt
  entries_split = ap (λ (xs : List Entry). s.plain ++ (xs ++ s.learnt)) (sym (append-nil (map full_entry s.groups))) ∙ sym (append_assoc s.plain (map full_entry s.groups ++ []) s.learnt)

  inside : (e : Entry) → Contains (entries (base_of s)) e → Contains (entries s) e
  inside e c = subst (λ (es : List Entry). Contains es e) (sym entries_split) (Contains-append_left (entries (base_of s)) s.learnt e c)

  pub base_holds : (key : ℕ) (c : List ℕ) → Holds (base_of s) key c → Holds s key c
  base_holds key c h = inside (record { key = key; lits = c }) h

  -- a clause of the problem keeps its key where only these are looked at, and the other way round
  pub keeps_store : Keeps (base_of s) s
  keeps_store = keeps_more (base_of s) s inside

  pub keeps_base : IsDistinct (keys_of s) → Keeps s (base_of s)
  keeps_base d = keeps_fewer s (base_of s) d inside

  base_lits : map (λ (e : Entry). e.lits) (entries (base_of s)) ≡ full (problem_of (base_of s))
  base_lits = entries_are (base_of s) ∙ append-nil (full (problem_of (base_of s)))

  pub holds_full : (key : ℕ) (c : List ℕ) → Holds (base_of s) key c → Contains (full (problem_of (base_of s))) c
  holds_full key c h = subst (λ (cs : List (List ℕ)). Contains cs c) base_lits (Contains-map (λ (e : Entry). e.lits) (entries (base_of s)) (record { key = key; lits = c }) h)

  pub full_holds : (c : List ℕ) → Contains (full (problem_of (base_of s))) c → (key : ℕ) × Holds (base_of s) key c
  full_holds c a =
      let q = Contains-unmap (λ (e : Entry). e.lits) (entries (base_of s)) c (subst (λ (cs : List (List ℕ)). Contains cs c) (sym base_lits) a) in
      (q.0.key, subst (λ x. Contains (entries (base_of s)) (let z : Entry = record { key = q.0.key; lits = x } in z)) q.2 q.1)

  pub live_clause : (key : ℕ) → IsLive (base_of s) key → (c : List ℕ) × Holds (base_of s) key c
  live_clause key a =
      let q = Contains-unmap (λ (e : Entry). e.key) (entries (base_of s)) key a in
      (q.0.lits, subst (λ i. Contains (entries (base_of s)) (let z : Entry = record { key = i; lits = q.0.lits } in z)) q.2 q.1)

  pub clause_live : (key : ℕ) (c : List ℕ) → Holds (base_of s) key c → IsLive (base_of s) key
  clause_live key c h = Contains-map (λ (e : Entry). e.key) (entries (base_of s)) (record { key = key; lits = c }) h

  pub same_full : full (problem_of (base_of s)) ≡ full (problem_of s)
  unfolding full
  same_full = refl

  base_count : length (keys_of (base_of s)) ≡ length s.plain + length s.groups
  base_count = simp (length-append, length-map, append-nil)

  -- its keys are the first ones of the store
  pub keys_base : take (length s.plain + length s.groups) (keys_of s) ≡ keys_of (base_of s)
  keys_base =
      ap (take (length s.plain + length s.groups)) (ap (map (λ (e : Entry). e.key)) entries_split ∙ map-append (λ (e : Entry). e.key) (entries (base_of s)) s.learnt)
      ∙ take_at (keys_of (base_of s)) (map (λ (e : Entry). e.key) s.learnt) (length s.plain + length s.groups) base_count
