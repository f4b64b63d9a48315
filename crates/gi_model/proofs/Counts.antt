-- How many clauses and literals a problem has.
use Rattle.std.proofs.Common.{◌≡◌, ℕ, ◌+◌, ◌≤◌, ◌<◌, Bool, true, false, not, cond, List, [], ◌∷◌, length, refl, arith, length-append}
use Rattle.std.specs.List.{sum_by, filter}
use Rattle.std.proofs.lemmas.Bool.{or_parts, ltb-false}
use Rattle.std.proofs.lemmas.List.Sums.{sum_by-append}
use Rattle.gi_lit.specs.Problem.{Problem, Group, as_given, top, with_clause, with_group, grown, guard_made, without_guard, without_groups, has, lit_count, clause_count}
use Rattle.gi_model.specs.Limits.{most_clauses, most_lits}
use Rattle.gi_lit.specs.Literals.{max_var}
use Rattle.gi_model.specs.Refusals.{is_full}
use Rattle.gi_model.specs.Kept.{IsProblemWithin}

-- there is room for one clause more
pub record HasRoom (p : Problem) (c : List ℕ) (lits : ℕ) : Type 0 where
  pub vars : top c ≤ max_var
  pub clauses : clause_count p + 1 ≤ most_clauses
  pub few : lit_count p + lits ≤ most_lits

pub room : (p : Problem) (c : List ℕ) (lits : ℕ) → is_full p c lits ≡ false → HasRoom p c lits
room p c lits e =
    let h = or_parts _ _ e in
    let g = or_parts _ _ h.0 in
    record { vars = ltb-false _ _ g.0; clauses = ltb-false _ _ g.1; few = ltb-false _ _ h.1 }

pub within_grown : (n : ℕ) (p : Problem) → n ≤ max_var → IsProblemWithin p → IsProblemWithin (grown n p)
unfolding lit_count
within_grown n p le w = record { vars = let v = w.vars in omega arith; clauses = w.clauses; lits = w.lits }

pub within_clause : (c : List ℕ) (p : Problem) → is_full p c (length c) ≡ false → IsProblemWithin p → IsProblemWithin (with_clause c p)
unfolding lit_count
within_clause c p e w =
    let r = room p c (length c) e in
    record {
      vars = let v = w.vars in let u = r.vars in omega arith;
      clauses = let k = r.clauses in let n = length-append p.plain (c ∷ []) in omega arith;
      lits = let k = r.few in let n = sum_by-append (λ (c : List ℕ). length c) p.plain (c ∷ []) in omega arith;
    }

pub within_group : (gs c : List ℕ) (p : Problem) → is_full p c (as_given (record { guards = gs; clause = c })) ≡ false → IsProblemWithin p → IsProblemWithin (with_group gs c p)
unfolding lit_count
within_group gs c p e w =
    let q : Group = record { guards = gs; clause = c } in
    let r = room p c (as_given q) e in
    record {
      vars = let v = w.vars in let u = r.vars in omega arith;
      clauses = let k = r.clauses in let n = length-append p.groups (q ∷ []) in omega arith;
      lits = let k = r.few in let n = sum_by-append as_given p.groups (q ∷ []) in omega arith;
    }

pub within_guard : (p : Problem) (fs : List ℕ) → (fs ≡ [] → p.vars < max_var) → IsProblemWithin p → IsProblemWithin (guard_made p fs)
unfolding lit_count
within_guard p [] h w = record { vars = let v = h refl in omega arith; clauses = w.clauses; lits = w.lits }
within_guard p (g ∷ gs) h w = record { vars = w.vars; clauses = w.clauses; lits = w.lits }

length-filtered : (f : Group → Bool) (ps : List Group) → length (filter f ps) ≤ length ps
length-filtered f [] = omega arith
length-filtered f (p ∷ ps) = go (f p) (length-filtered f ps)
  where
    go : (b : Bool) → length (filter f ps) ≤ length ps → length (cond b (p ∷ filter f ps) (filter f ps)) ≤ length (p ∷ ps)
    go true h = omega arith
    go false h = omega arith

sum_by-filtered : (f : Group → Bool) (m : Group → ℕ) (ps : List Group) → sum_by m (filter f ps) ≤ sum_by m ps
sum_by-filtered f m [] = omega arith
sum_by-filtered f m (p ∷ ps) = go (f p) (sum_by-filtered f m ps)
  where
    more : (qs : List Group) → sum_by m (p ∷ qs) ≡ sum_by m (p ∷ []) + sum_by m qs
    more qs = sum_by-append m (p ∷ []) qs

    go : (b : Bool) → sum_by m (filter f ps) ≤ sum_by m ps → sum_by m (cond b (p ∷ filter f ps) (filter f ps)) ≤ sum_by m (p ∷ ps)
    go true h = let a = more (filter f ps) in let b = more ps in omega arith
    go false h = let b = more ps in let g : sum_by m (filter f ps) ≤ sum_by m (p ∷ ps) = omega arith in g

pub within_dropped : (g : ℕ) (p : Problem) → IsProblemWithin p → IsProblemWithin (without_guard g p)
unfolding lit_count without_groups
within_dropped g p w = record {
  vars = w.vars;
  clauses = let k = w.clauses in let n = length-filtered (λ (q : Group). not (has q.guards g)) p.groups in omega arith;
  lits = let k = w.lits in let n = sum_by-filtered (λ (q : Group). not (has q.guards g)) as_given p.groups in omega arith;
}
