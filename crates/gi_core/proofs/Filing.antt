-- How a load moves the machine.
use Rattle.std.proofs.Common.{◌≡◌, ℕ, ◌+◌, ◌≤◌, Bool, true, false, not, ◌||◌, nat_lt, cond, max, Option, Some, None, Result, Ok, Err, List, [], ◌∷◌, ◌++◌, length, map, refl, sym, ap, ◌∙◌, subst, arith, append_assoc, length-append}
use Rattle.std.specs.List.{sum_by, list_any, AllByRecursion}
use Rattle.std.proofs.lemmas.Bool.{le-ltb}
use Rattle.std.proofs.lemmas.List.{append-nil}
use Rattle.std.proofs.lemmas.List.Sums.{sum_by-append}
use Rattle.gi_lit.specs.Problem.{Problem, Group, as_given, top, grown, with_clause, with_clauses, clause_count, lit_count}
use Rattle.gi_lit.proofs.Growing.{grows_grown, IsWellFormed-grown}
use Rattle.gi_dimacs.specs.Content.{File, literals_in}
use Rattle.gi_dimacs.specs.Relation.{IsCnf}
use Rattle.gi_dimacs.specs.Answers.{IsFault}
use Rattle.gi_dimacs.specs.Texts.{cnf_file, IsLiteralOf, IsItemOf, IsGood}
use Rattle.gi_dimacs.specs.declared.cnf.Cnf.{Cnf}
use Rattle.gi_dimacs.specs.declared.items.Item.TheVariants.{Clause}
use Rattle.gi_dimacs.specs.declared.content.Format.TheVariants as format
use Rattle.gi_dimacs.specs.declared.fault.CnfFault.{CnfFault}
use Rattle.gi_dimacs.proofs.Accepting.{file_is_read}
use Rattle.gi_model.specs.Limits.{most_clauses, most_lits}
use Rattle.gi_lit.specs.Literals.{max_var}
use Rattle.gi_model.specs.Loads.{loaded, file_clauses, file_refused, with_file}
use Rattle.gi_model.specs.State.{State, dead_state}
use Rattle.gi_model.specs.Refusals.{refuses, is_over, admits, some_unusable, is_past}
use Rattle.gi_model.specs.Effects.{after, edited, with_problem}
use Rattle.gi_model.specs.Fits.{fits}
use Rattle.gi_model.specs.History.{Step, loaded_reply}
use Rattle.gi_model.specs.Kept.{IsProblemWithin, IsKept}
use Rattle.gi_model.specs.declared.calls.Call.TheVariants as call
use Rattle.gi_model.specs.declared.refusal.PayloadCode.TheVariants as payload
use Rattle.gi_model.specs.declared.refusal.Refusal.{Refusal}
use Rattle.gi_model.specs.declared.refusal.Refusal.TheVariants as refusal
use Rattle.gi_model.specs.declared.replies.Reply.{Reply}
use Rattle.gi_model.specs.declared.replies.Reply.TheVariants as reply
use Rattle.gi_model.proofs.Loading.{clauses_usable, clauses_usable_more, clauses_added}
use Rattle.gi_model.proofs.Stepping.{step_refused, step_unread, step_dead, step_done}
use Rattle.gi_scopes.specs.Open.{AreReasoned, Open}
use Rattle.gi_scopes.specs.Laws.{MoreClausesKeepReasons}
use Rattle.gi_core.specs.Content.{Content}
use Rattle.gi_model.specs.Early.{early}
use Rattle.gi_core.specs.Loads.{TakesFile}
use Rattle.gi_model.specs.Views.{solve_of}
use Rattle.gi_core.specs.View.{state_of, Moves, IsBlank}
use Rattle.gi_model.specs.declared.solve.Solve.{Solve as SolveCode}
use Rattle.gi_core.specs.declared.machine.Machine.{Machine}
use Rattle.gi_core.proofs.Moving.{moves_same, moves_dead, blank_backed, unkept}

-- the table for a load that the machine admits
abbrev file_refusal : State → Result File CnfFault → Option Refusal
file_refusal s file = cond (list_any (some_unusable s.problem) (file_clauses file)) (Some refusal.Lit) (cond (is_past (with_file file s.problem)) (Some refusal.Limit) (file_refused file))

admitted : (over admits : Bool) (x : Option Refusal) → cond over (Some refusal.Dead) (cond (not admits) (Some refusal.Busy) None) ≡ None → cond over (Some refusal.Dead) (cond (not admits) (Some refusal.Busy) x) ≡ x
admitted true admits x e = absurd cc
admitted false false x e = absurd cc
admitted false true x e = refl

load_refuses : (s : State) (bytes : List ℕ) → early s (call.LoadCnf bytes) ≡ None → refuses s (call.LoadCnf bytes) ≡ file_refusal s (loaded bytes)
unfolding refuses
load_refuses s bytes e = admitted (is_over s.life) (admits s.solve (call.LoadCnf bytes)) (file_refusal s (loaded bytes)) e

-- want of memory to read the payload
load_unread : (s : State) (bytes : List ℕ) → fits (call.LoadCnf bytes) ≡ true → early s (call.LoadCnf bytes) ≡ None → Step s (call.LoadCnf bytes) reply.NoMemory dead_state
load_unread s bytes f e = go (list_any (some_unusable s.problem) (file_clauses (loaded bytes))) (is_past (with_file (loaded bytes) s.problem)) (loaded bytes) (load_refuses s bytes e)
  where
    go : (bad past : Bool) (file : Result File CnfFault) → refuses s (call.LoadCnf bytes) ≡ cond bad (Some refusal.Lit) (cond past (Some refusal.Limit) (file_refused file)) → Step s (call.LoadCnf bytes) reply.NoMemory dead_state
    go true past file q = step_unread s (call.LoadCnf bytes) refusal.Lit f q refl refl
    go false true file q = step_unread s (call.LoadCnf bytes) refusal.Limit f q refl refl
    go false false (Err x) q = step_unread s (call.LoadCnf bytes) (refusal.Payload x.line 0 (payload.Cnf x.code)) f q refl refl
    go false false (Ok x) q = step_dead s (call.LoadCnf bytes) f q refl

pub moves_unread : (m n : Machine) (bytes : List ℕ) (answer : Reply) → fits (call.LoadCnf bytes) ≡ true → early (state_of m) (call.LoadCnf bytes) ≡ None → answer ≡ reply.NoMemory → state_of n ≡ dead_state → IsBlank n.scopes → Moves m (call.LoadCnf bytes) answer n
moves_unread m n bytes answer f e ea es all = record { step = rw (ea, es) (load_unread (state_of m) bytes f e); backed = λ b. blank_backed n.solver n.scopes all }

moves_refused : (m : Machine) (bytes : List ℕ) (r : Refusal) → fits (call.LoadCnf bytes) ≡ true → refuses (state_of m) (call.LoadCnf bytes) ≡ Some r → Moves m (call.LoadCnf bytes) (reply.Refused r) m
moves_refused m bytes r f q = moves_same m (call.LoadCnf bytes) (reply.Refused r) (step_refused (state_of m) (call.LoadCnf bytes) r f q)

-- a payload with a fault
not_past : (p : Problem) → IsProblemWithin p → is_past (grown 0 p) ≡ false
unfolding lit_count
not_past p w = rw (le-ltb max_var (max p.vars 0) (let v = w.vars in omega arith), le-ltb most_clauses (clause_count p) w.clauses, le-ltb most_lits (lit_count p) w.lits) refl

pub moves_fault : (m : Machine) (bytes : List ℕ) (x : CnfFault) → IsKept (state_of m) → fits (call.LoadCnf bytes) ≡ true → early (state_of m) (call.LoadCnf bytes) ≡ None → IsFault format.Cnf x bytes → Moves m (call.LoadCnf bytes) (reply.Refused (refusal.Payload x.line 0 (payload.Cnf x.code))) m
unfolding loaded
moves_fault m bytes x k f e h =
    let s = state_of m in
    let r : Option Refusal = Some (refusal.Payload x.line 0 (payload.Cnf x.code)) in
    moves_refused m bytes (refusal.Payload x.line 0 (payload.Cnf x.code)) f (load_refuses s bytes e ∙ ap (file_refusal s) h.first ∙ ap (λ (b : Bool). cond b (Some refusal.Limit) r) (not_past m.solver.problem k.within))

-- a file's literals, as the problem counts them
pub lits_counted : (cs : List (List ℕ)) → literals_in (map Clause cs) ≡ sum_by length cs
lits_counted [] = refl
lits_counted (c ∷ cs) = let h = lits_counted cs in let n = sum_by-append (λ (d : List ℕ). length d) (c ∷ []) cs in omega arith

with_plain : (cs : List (List ℕ)) (p : Problem) → (with_clauses cs p).plain ≡ p.plain ++ cs
with_plain [] p = sym (append-nil p.plain)
with_plain (c ∷ cs) p = with_plain cs (with_clause c p) ∙ append_assoc p.plain (c ∷ []) cs

with_groups : (cs : List (List ℕ)) (p : Problem) → (with_clauses cs p).groups ≡ p.groups
with_groups [] p = refl
with_groups (c ∷ cs) p = with_groups cs (with_clause c p)

top_low : (n : ℕ) (c : List ℕ) → AllByRecursion (IsLiteralOf n) c → top c ≤ n
unfolding top
top_low n [] a = omega arith
top_low n (l ∷ ls) a = let r = top_low n ls a.1 in let h = a.0.1 in omega arith

vars_within : (most n : ℕ) (cs : List (List ℕ)) (p : Problem) → n ≤ most → p.vars ≤ most → AllByRecursion (IsItemOf n) (map Clause cs) → (with_clauses cs p).vars ≤ most
vars_within most n [] p low le a = le
vars_within most n (c ∷ cs) p low le a = vars_within most n cs (with_clause c p) low (let t = top_low n c a.0 in omega arith) a.1

-- what is too much for a problem
abbrev pub is_short : Problem → List (List ℕ) → Bool
is_short p cs = nat_lt most_clauses (clause_count p + length cs) || nat_lt most_lits (lit_count p + sum_by length cs)

count_more : (n : ℕ) (cs : List (List ℕ)) (p : Problem) → clause_count (with_clauses cs (grown n p)) ≡ clause_count p + length cs
count_more n cs p =
    ap (λ (ds : List (List ℕ)). length ds + length (with_clauses cs (grown n p)).groups) (with_plain cs (grown n p)) ∙ ap (λ (qs : List Group). length (p.plain ++ cs) + length qs) (with_groups cs (grown n p))
    ∙ (let h = length-append p.plain cs in let e : length (p.plain ++ cs) + length p.groups ≡ length p.plain + length p.groups + length cs = omega arith in e)

lits_more : (n : ℕ) (cs : List (List ℕ)) (p : Problem) → lit_count (with_clauses cs (grown n p)) ≡ lit_count p + sum_by length cs
unfolding lit_count
lits_more n cs p =
    ap (λ (ds : List (List ℕ)). sum_by length ds + sum_by as_given (with_clauses cs (grown n p)).groups) (with_plain cs (grown n p)) ∙ ap (λ (qs : List Group). sum_by length (p.plain ++ cs) + sum_by as_given qs) (with_groups cs (grown n p))
    ∙ (let h = sum_by-append (λ (d : List ℕ). length d) p.plain cs in let e : sum_by length (p.plain ++ cs) + sum_by as_given p.groups ≡ sum_by length p.plain + sum_by as_given p.groups + sum_by length cs = omega arith in e)

-- a good file never has too many variables
past_short : (p : Problem) (v : Cnf) → IsGood v → p.vars ≤ max_var → is_past (with_clauses v.clauses (grown v.vars p)) ≡ is_short p v.clauses
past_short p v g w =
    let q = with_clauses v.clauses (grown v.vars p) in
    let small = g.vars in
    let low : q.vars ≤ max_var = vars_within max_var v.vars v.clauses (grown v.vars p) small (omega arith) g.items in
    ap (λ (b : Bool). b || nat_lt most_clauses (clause_count q) || nat_lt most_lits (lit_count q)) (le-ltb max_var q.vars low)
    ∙ ap (λ (n : ℕ). nat_lt most_clauses n || nat_lt most_lits (lit_count q)) (count_more v.vars v.clauses p)
    ∙ ap (λ (n : ℕ). nat_lt most_clauses (clause_count p + length v.clauses) || nat_lt most_lits n) (lits_more v.vars v.clauses p)

file_read : (v : Cnf) (bytes : List ℕ) → IsCnf v bytes → loaded bytes ≡ Ok (cnf_file v)
unfolding loaded
file_read v bytes h = file_is_read (cnf_file v) bytes h

file_refuses : (s : State) (v : Cnf) (bytes : List ℕ) → IsProblemWithin s.problem → IsGood v → IsCnf v bytes → early s (call.LoadCnf bytes) ≡ None
    → refuses s (call.LoadCnf bytes) ≡ cond (list_any (some_unusable s.problem) v.clauses) (Some refusal.Lit) (cond (is_short s.problem v.clauses) (Some refusal.Limit) None)
file_refuses s v bytes w g is e =
    load_refuses s bytes e ∙ ap (file_refusal s) (file_read v bytes is)
    ∙ ap (λ (b : Bool). cond (list_any (some_unusable s.problem) v.clauses) (Some refusal.Lit) (cond b (Some refusal.Limit) None)) (past_short s.problem v g w.vars)

file_tested : (m : Machine) (v : Cnf) (bytes : List ℕ) (bad short : Bool) → IsKept (state_of m) → IsGood v → list_any (some_unusable m.solver.problem) v.clauses ≡ bad → is_short m.solver.problem v.clauses ≡ short → IsCnf v bytes → early (state_of m) (call.LoadCnf bytes) ≡ None
    → refuses (state_of m) (call.LoadCnf bytes) ≡ cond bad (Some refusal.Lit) (cond short (Some refusal.Limit) None)
file_tested m v bytes bad short k g b t is e =
    file_refuses (state_of m) v bytes k.within g is e
    ∙ ap (λ (x : Bool). cond x (Some refusal.Lit) (cond (is_short m.solver.problem v.clauses) (Some refusal.Limit) None)) b
    ∙ ap (λ (x : Bool). cond bad (Some refusal.Lit) (cond x (Some refusal.Limit) None)) t

pub take_lit : (m : Machine) (v : Cnf) → IsKept (state_of m) → IsGood v → list_any (some_unusable m.solver.problem) v.clauses ≡ true → TakesFile m v (reply.Refused refusal.Lit) m
take_lit m v k g bad bytes is f e = moves_refused m bytes refusal.Lit f (file_tested m v bytes true (is_short m.solver.problem v.clauses) k g bad refl is e)

pub take_limit : (m : Machine) (v : Cnf) → IsKept (state_of m) → IsGood v → list_any (some_unusable m.solver.problem) v.clauses ≡ false → is_short m.solver.problem v.clauses ≡ true → TakesFile m v (reply.Refused refusal.Limit) m
take_limit m v k g good short bytes is f e = moves_refused m bytes refusal.Limit f (file_tested m v bytes false true k g good short is e)

pub take_dead : (m n : Machine) (v : Cnf) (answer : Reply) → IsKept (state_of m) → IsGood v → list_any (some_unusable m.solver.problem) v.clauses ≡ false → is_short m.solver.problem v.clauses ≡ false → answer ≡ reply.NoMemory → state_of n ≡ dead_state → IsBlank n.scopes → TakesFile m v answer n
take_dead m n v answer k g good room ea es all bytes is f e = moves_dead m n (call.LoadCnf bytes) answer f (file_tested m v bytes false false k g good room is e) refl ea es all

pub take_done : (law : MoreClausesKeepReasons) (m : Machine) (c : Content) (o : Open) (t : SolveCode) (v : Cnf) → IsKept (state_of m) → IsGood v → list_any (some_unusable m.solver.problem) v.clauses ≡ false → is_short m.solver.problem v.clauses ≡ false
    → c ≡ record m.solver { problem = with_clauses v.clauses (grown v.vars m.solver.problem); base = c.base } → o ≡ unkept m.scopes → solve_of t ≡ edited (solve_of m.solve) → TakesFile m v (reply.LoadedCnf v.vars (length v.clauses)) (record m { solver = c; scopes = o; solve = t })
unfolding after
take_done law m c o t v k g good room ec eo et bytes is f e =
    let s = state_of m in
    let answer = reply.LoadedCnf v.vars (length v.clauses) in
    let read = file_read v bytes is in
    let p = grown v.vars m.solver.problem in
    let q = with_clauses v.clauses p in
    let usable = clauses_usable_more v.vars m.solver.problem v.clauses k.clauses (clauses_usable m.solver.problem v.clauses good) in
    let more = (clauses_added v.clauses p (IsWellFormed-grown v.vars m.solver.problem k.clauses) usable).0 in
    let new : state_of (record m { solver = c; scopes = o; solve = t }) ≡ with_problem q s = rw (ec, eo, et) refl in
    record {
      step = step_done s (call.LoadCnf bytes) answer (state_of (record m { solver = c; scopes = o; solve = t })) f (file_tested m v bytes false false k g good room is e) (ap loaded_reply (sym read)) (new ∙ ap (λ (r : Result File CnfFault). with_problem (with_file r m.solver.problem) s) (sym read));
      backed = λ b. rw eo (record { reasoned = subst (λ (p : Problem). AreReasoned p (unkept m.scopes)) (sym (ap (λ (x : Content). x.problem) ec)) (law m.solver.problem q m.scopes (λ d h. more.full d ((grows_grown v.vars m.solver.problem).full d h)) b.reasoned); served = tt });
    }
