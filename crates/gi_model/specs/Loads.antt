-- What a payload says, and the problem with it.
use Rattle.std.specs.Prelude.{ℕ, List, [], Option, Some, None, Result, Ok, Err}
use Rattle.gi_lit.specs.Problem.{Problem, grown, with_clauses}
use Rattle.gi_dimacs.specs.Content.{File}
use Rattle.gi_dimacs.specs.Files.{read_file}
use Rattle.gi_dimacs.specs.declared.content.Content.{Content}
use Rattle.gi_dimacs.specs.declared.content.Content.TheVariants.{Clauses, Items}
use Rattle.gi_dimacs.specs.declared.content.Format.TheVariants as format
use Rattle.gi_dimacs.specs.declared.fault.CnfFault.{CnfFault}
use Rattle.gi_model.specs.declared.calls.Call.{Call}
use Rattle.gi_model.specs.declared.calls.Call.TheVariants.{LoadCnf}
use Rattle.gi_model.specs.declared.refusal.PayloadCode.TheVariants.{Cnf}
use Rattle.gi_model.specs.declared.refusal.Refusal.{Refusal}
use Rattle.gi_model.specs.declared.refusal.Refusal.TheVariants.{Payload}

-- what a payload says as a DIMACS CNF file, or its first fault
unfoldable pub loaded : List ℕ → Result File CnfFault
loaded bytes = read_file format.Cnf bytes

-- clauses alone are no asks
abbrev pub clauses_of : Content → List (List ℕ)
clauses_of (Clauses cs) = cs
clauses_of (Items items) = []

-- the variables of a file
abbrev pub file_vars : Result File CnfFault → ℕ
file_vars (Ok f) = f.vars
file_vars (Err fault) = 0

-- the clauses of a file
abbrev pub file_clauses : Result File CnfFault → List (List ℕ)
file_clauses (Ok f) = clauses_of f.content
file_clauses (Err fault) = []

-- the refusal of a file that has a fault
abbrev pub file_refused : Result File CnfFault → Option Refusal
file_refused (Ok f) = None
file_refused (Err fault) = Some (Payload fault.line 0 (Cnf fault.code))

-- Payload: the payload isn't in its grammar, and its first fault is told
abbrev pub bad_payload : Call → Option Refusal
bad_payload (LoadCnf bytes) = file_refused (loaded bytes)
bad_payload call = None

-- a file's variables more, and then its clauses as plain ones
abbrev pub with_file : Result File CnfFault → Problem → Problem
with_file file p = with_clauses (file_clauses file) (grown (file_vars file) p)
