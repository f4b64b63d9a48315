-- What a client keeps of a session, by the answers to its calls.
use Rattle.std.specs.Prelude.{ℕ, Bool, true, false, ◌-◌, max, if◌then◌else◌, List, [], ◌∷◌, ◌++◌, length, take}
use Rattle.std.specs.List.{flat_map}
use Rattle.gi_lit.specs.Problem.{Group, forced, has, top, without_groups}
use Rattle.gi_model.specs.Loads.{file_clauses, file_vars, loaded}
use Rattle.gi_model.specs.declared.calls.Call.{Call}
use Rattle.gi_model.specs.declared.calls.Call.TheVariants as calls
use Rattle.gi_model.specs.declared.replies.Reply.{Reply}
use Rattle.gi_model.specs.declared.replies.Reply.TheVariants as reply

pub record Kept : Type 0 where
  pub vars : ℕ
  pub guards : List ℕ  -- all that were handed out, the dropped ones too
  pub plain : List (List ℕ)
  pub groups : List Group
  pub pending : List ℕ  -- assumptions for the next test or solve
  pub scopes : List (List ℕ)  -- the assumptions of the open scopes, the oldest first
  pub assumed : List ℕ  -- the assumptions of the solve that was started last

-- before the first answer
abbrev pub nothing_kept : Kept
nothing_kept = record {
  vars = 0;
  guards = [];
  plain = [];
  groups = [];
  pending = [];
  scopes = [];
  assumed = [];
}

-- the number is in the list, and stands in it once more only if it wasn't there
abbrev pub noted : ℕ → List ℕ → List ℕ
noted x xs = if has xs x then xs else xs ++ x ∷ []

-- a guard was handed out
abbrev pub with_guard : Reply → Kept → Kept
with_guard (reply.Guard g) k = record k { vars = max k.vars g; guards = noted g k.guards }
with_guard other k = k

-- the clauses of a payload are plain ones; one with a fault has none
abbrev pub with_load : List ℕ → Kept → Kept
with_load bytes k = record k {
  vars = max k.vars (file_vars (loaded bytes));
  plain = k.plain ++ file_clauses (loaded bytes);
}

-- the last scope goes, if there is one
abbrev pub without_scope : Kept → Kept
without_scope k = record k { scopes = take (length k.scopes - 1) k.scopes }

-- the assumptions of the scopes in order, then the pending ones
abbrev pub all_assumed : Kept → List ℕ
all_assumed k = flat_map (λ ls. ls) k.scopes ++ k.pending

-- what an accepted call changes
abbrev pub accepted : Kept → Call → Reply → Kept
accepted k (calls.Vars n) answer = record k { vars = max k.vars n }
accepted k (calls.Add c) answer = record k { vars = max k.vars (top c); plain = k.plain ++ c ∷ [] }
accepted k calls.NewGuard answer = with_guard answer k
accepted k (calls.Under gs c) answer = record k {
  vars = max k.vars (top c);
  groups = k.groups ++ record { guards = gs; clause = c } ∷ [];
}
accepted k (calls.DropGuard g) answer = record k { groups = without_groups g k.groups }
accepted k (calls.Assume ls) answer = record k {
  vars = max k.vars (top ls);
  pending = k.pending ++ ls;
}
accepted k calls.Test answer = record k { scopes = k.scopes ++ k.pending ∷ []; pending = [] }
accepted k calls.Untest answer = without_scope k
accepted k (calls.Solve budget) answer = record k { pending = []; assumed = all_assumed k }
accepted k (calls.LoadCnf bytes) answer = with_load bytes k
accepted k (calls.Reasons l) answer = k
accepted k calls.Pause answer = k
accepted k calls.Resume answer = k
accepted k calls.Stop answer = k
accepted k calls.Poll answer = k
accepted k calls.Wait answer = k
accepted k calls.Model answer = k
accepted k calls.Known answer = k
accepted k (calls.KnownClause i) answer = k
accepted k calls.Bye answer = k
accepted k calls.Shut answer = k
accepted k (calls.Work mark) answer = k

-- neither a refusal nor want of memory
abbrev pub is_accepted : Reply → Bool
is_accepted (reply.Refused r) = false
is_accepted reply.NoMemory = false
is_accepted other = true

-- what is kept after a call and its answer; a refusal and want of memory change nothing
unfoldable pub kept_after : Kept → Call → Reply → Kept
kept_after k call answer = if is_accepted answer then accepted k call answer else k

-- the clauses in force in the last solve
unfoldable pub in_force : Kept → List (List ℕ)
in_force k = k.plain ++ forced k.assumed k.groups
