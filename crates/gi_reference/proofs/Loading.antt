-- Payloads, and the counts of their clauses.
use Rattle.std.proofs.Common.{◌≡◌, ℕ, ◌+◌, ◌<◌, ◌≤◌, max, nat_lt, ◌||◌, Bool, true, false, Ok, Err, List, [], ◌∷◌, ◌++◌, length, take, get_or, refl, sym, ap, ◌∙◌, arith, length-append}
use Rattle.std.specs.List.{sum_by}
use Rattle.std.proofs.lemmas.List.{take_more}
use Rattle.std.proofs.lemmas.List.Sums.{sum_by-append}
use Rattle.gi_lit.specs.Problem.{Problem, grown, top, with_clause, with_clauses, clause_count, lit_count}
use Rattle.gi_dimacs.specs.declared.cnf.Cnf.{Cnf}
use Rattle.gi_dimacs.specs.declared.content.Format.TheVariants as format
use Rattle.gi_dimacs.specs.declared.fault.CnfFault.{CnfFault}
use Rattle.gi_dimacs.specs.Answers.{IsFault}
use Rattle.gi_dimacs.specs.Relation.{IsCnf}
use Rattle.gi_dimacs.specs.Texts.{cnf_file}
use Rattle.gi_dimacs.proofs.Accepting.{file_is_read}
use Rattle.gi_model.specs.Limits.{most_clauses, most_lits}
use Rattle.gi_lit.specs.Literals.{max_var}
use Rattle.gi_model.specs.Loads.{loaded}
use Rattle.gi_model.specs.Refusals.{is_past}
use Rattle.gi_model.proofs.Loading.{past_not}
use Rattle.gi_reference.specs.Loading.{tops}

pub loaded_value : (v : Cnf) (bytes : List ℕ) → IsCnf v bytes → loaded bytes ≡ Ok (cnf_file v)
unfolding loaded
loaded_value v bytes h = file_is_read (cnf_file v) bytes h

pub loaded_fault : (fault : CnfFault) (bytes : List ℕ) → IsFault format.Cnf fault bytes → loaded bytes ≡ Err fault
unfolding loaded
loaded_fault fault bytes h = h.first

with_clauses-append : (cs ds : List (List ℕ)) (p : Problem) → with_clauses (cs ++ ds) p ≡ with_clauses ds (with_clauses cs p)
with_clauses-append [] ds p = refl
with_clauses-append (c ∷ cs) ds p = with_clauses-append cs ds (with_clause c p)

tops-push : (cs : List (List ℕ)) (c : List ℕ) → tops (cs ++ c ∷ []) ≡ max (tops cs) (top c)
tops-push [] c = omega arith
tops-push (x ∷ cs) c = let h = tops-push cs c in omega arith

module _ (cs : List (List ℕ)) (i : ℕ) (c : List ℕ) (lt : i < length cs) (is : c ≡ get_or cs i c) where
  taken : take (i + 1) cs ≡ take i cs ++ c ∷ []
  taken = take_more cs i c lt ∙ ap (λ z. take i cs ++ z ∷ []) (sym is)

  pub clauses_more : (p : Problem) → with_clauses (take (i + 1) cs) p ≡ with_clause c (with_clauses (take i cs) p)
  clauses_more p = ap (λ xs. with_clauses xs p) taken ∙ with_clauses-append (take i cs) (c ∷ []) p

  pub tops_more : tops (take (i + 1) cs) ≡ max (tops (take i cs)) (top c)
  tops_more = ap tops taken ∙ tops-push (take i cs) c

-- the counts of a problem with clauses more
vars_with : (cs : List (List ℕ)) (p : Problem) → (with_clauses cs p).vars ≡ max p.vars (tops cs)
vars_with [] p = omega arith
vars_with (c ∷ cs) p = let h = vars_with cs (with_clause c p) in omega arith

clauses_with : (cs : List (List ℕ)) (p : Problem) → clause_count (with_clauses cs p) ≡ clause_count p + length cs
clauses_with [] p = omega arith
clauses_with (c ∷ cs) p = let h = clauses_with cs (with_clause c p) in let n = length-append p.plain (c ∷ []) in omega arith

lits_with : (cs : List (List ℕ)) (p : Problem) → lit_count (with_clauses cs p) ≡ lit_count p + sum_by length cs
unfolding lit_count
lits_with [] p = omega arith
lits_with (c ∷ cs) p =
    let h = lits_with cs (with_clause c p) in
    let n = sum_by-append (λ (c : List ℕ). length c) p.plain (c ∷ []) in
    let m = sum_by-append (λ (c : List ℕ). length c) (c ∷ []) cs in
    omega arith

pub fits_vars : (cs : List (List ℕ)) (vars : ℕ) (p : Problem) → is_past (with_clauses cs (grown vars p)) ≡ false → vars ≤ max_var
fits_vars cs vars p e = let h = (past_not (with_clauses cs (grown vars p)) e).vars in let v = vars_with cs (grown vars p) in omega arith

pub is_past_by : (cs : List (List ℕ)) (vars : ℕ) (p : Problem) → is_past (with_clauses cs (grown vars p)) ≡ (nat_lt max_var (max (max p.vars vars) (tops cs)) || nat_lt most_clauses (clause_count p + length cs) || nat_lt most_lits (lit_count p + sum_by length cs))
unfolding lit_count
is_past_by cs vars p = rw (vars_with cs (grown vars p), clauses_with cs (grown vars p), lits_with cs (grown vars p)) refl
