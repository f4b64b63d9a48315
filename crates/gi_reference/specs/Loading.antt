-- What the plain machine knows of a payload, and the counts of its clauses.
use Rattle.std.specs.Prelude.{◌≡◌, ℕ, max, if◌then◌else◌, List, [], ◌∷◌, Option, Some, Result}
use Rattle.std.specs.List.{list_any}
use Rattle.gi_lit.specs.Problem.{Problem, top}
use Rattle.gi_dimacs.specs.Content.{File}
use Rattle.gi_dimacs.specs.declared.fault.CnfFault.{CnfFault}
use Rattle.gi_model.specs.Loads.{loaded, with_file, file_vars, file_clauses, file_refused}
use Rattle.gi_model.specs.Refusals.{some_unusable, is_past}
use Rattle.gi_model.specs.declared.refusal.Refusal.{Refusal}
use Rattle.gi_model.specs.declared.refusal.Refusal.TheVariants as refusal
use Rattle.gi_reference.specs.declared.loads.Payload.{Payload}

-- its variables, its clauses and its refusal are those of the file, or of its fault
pub record IsOf (payload : Payload) (file : Result File CnfFault) : Type 0 where
  pub vars : payload.vars ≡ file_vars file
  pub clauses : payload.clauses ≡ file_clauses file
  pub refused : payload.refused ≡ file_refused file

-- the greatest variable of clauses
abbrev pub tops : List (List ℕ) → ℕ
tops [] = 0
tops (c ∷ cs) = max (top c) (tops cs)

-- the refusal of a load for what its payload says
abbrev pub of_payload : Problem → List ℕ → Option Refusal
of_payload p bytes =
    if list_any (some_unusable p) (file_clauses (loaded bytes)) then Some refusal.Lit else
    if is_past (with_file (loaded bytes) p) then Some refusal.Limit else file_refused (loaded bytes)
