-- A machine's state, by what it was told.
use Rattle.std.proofs.Common.{◌≡◌, ℕ, ◌+◌, ◌/◌, ◌<◌, ◌≤◌, Bool, true, false, not, ◌||◌, nat_le, List, [], ◌∷◌, ◌++◌, length, None, refl, arith}
use Rattle.std.specs.List.{AllByRecursion, list_any, sum_by}
use Rattle.std.proofs.lemmas.Bool.{le-leb, le-ltb, lt-leb}
use Rattle.gi_lit.specs.Truth.{Fail, MakesTrue, Satisfies}
use Rattle.gi_lit.specs.Problem.{is_guard_lit, is_usable, lit_count, top}
use Rattle.gi_lit.specs.Learnt.{AreFresh}
use Rattle.gi_model.specs.Limits.{most_clauses, most_lits, most_pending, most_solves}
use Rattle.gi_lit.specs.Literals.{max_var}
use Rattle.gi_model.specs.State.{State, Run, Solve as Solving, no_solve, running, paused, ended, alive}
use Rattle.gi_model.specs.Refusals.{refuses, some_unusable}
use Rattle.gi_model.specs.declared.calls.Call.TheVariants as call
use Rattle.gi_model.specs.declared.replies.Verdict.{Verdict}
use Rattle.gi_model.specs.declared.replies.Verdict.TheVariants.{Sat, Unsat, Unknown}
use Rattle.gi_model.specs.declared.replies.Cause.TheVariants.{Budget, Stopped}
use Rattle.gi_batch.specs.Steps.{BatchStep, Vars, Clause, Assume, Solve}
use Rattle.gi_batch.specs.Told.{Told, problem_of, told_on}
use Rattle.gi_batch.proofs.Order.{Stage, Resting, Going, Showing, step_call}

-- the state of a machine without guards and scopes
abbrev pub state_of : Told → List (List ℕ) → Solving → ℕ → State
state_of t known v n = record { problem = problem_of t; known = known; pending = t.pending; scopes = []; solve = v; serial = n; life = alive }

-- all that the solve has learnt is fresh
pub record HasLearnt (t : Told) (news known : List (List ℕ)) : Type 0 where
  pub start : List (List ℕ)
  pub known_is : known ≡ start ++ news
  pub fresh : AreFresh (problem_of t) start news

pub record IsRunning (b : ℕ) (t : Told) (news known : List (List ℕ)) (r : Run) : Type 0 where
  pub low : 1 ≤ r.serial
  pub assumed : r.assumed ≡ t.assumed
  pub budget : r.budget ≡ b
  pub spent : r.spent ≡ length news
  pub learnt : HasLearnt t news known

pub record IsModel (t : Told) (values : List Bool) : Type 0 where
  pub count : length values ≡ t.vars
  pub clauses : Satisfies values t.clauses
  pub assumed : MakesTrue values t.assumed

pub record IsOut (b : ℕ) (t : Told) (news known : List (List ℕ)) : Type 0 where
  pub count : length news ≡ b
  pub learnt : HasLearnt t news known

abbrev pub EndsSo : ℕ → Told → List (List ℕ) → List (List ℕ) → Verdict → Type 0
EndsSo b t news known (Sat values) = IsModel t values
EndsSo b t news known (Unsat w) = Fail t.clauses t.assumed
EndsSo b t news known (Unknown (Budget k)) = IsOut b t news known
EndsSo b t news known (Unknown (Stopped k)) = ⊥

-- where its solve is
abbrev pub IsAt : ℕ → Stage → Told → List (List ℕ) → List (List ℕ) → Solving → Type 0
IsAt b Resting t news known no_solve = Unit {0}
IsAt b Resting t news known (ended n v) = Unit {0}
IsAt b Going t news known (running r) = IsRunning b t news known r
IsAt b Going t news known (ended n v) = EndsSo b t news known v
IsAt b Showing t news known (ended n (Sat values)) = IsModel t values
IsAt b stage t news known other = ⊥

-- the state, after so many entries at most
pub record Mirror (b : ℕ) (stage : Stage) (t : Told) (news : List (List ℕ)) (most : ℕ) (s : State) : Type 0 where
  pub known : List (List ℕ)
  pub solve : Solving
  pub serial : ℕ
  pub is : s ≡ state_of t known solve serial
  pub at : IsAt b stage t news known solve
  pub few : serial ≤ most

-- literals of variables within the limit
abbrev pub AreLits : List ℕ → Type 0
AreLits ls = AllByRecursion (λ l. (1 ≤ l / 2) × (l / 2 ≤ max_var)) ls

-- what a machine that was told so may be asked
abbrev pub MayBe : Told → BatchStep → Type 0
MayBe t (Vars n) = n ≤ max_var
MayBe t (Clause c) = AreLits c × (length t.clauses + 1 ≤ most_clauses) × (sum_by length t.clauses + length c ≤ most_lits)
MayBe t (Assume ls) = AreLits ls × (length t.pending + length ls ≤ most_pending)
MayBe t Solve = Unit {0}

-- and step by step
unfoldable pub Allowed : ℕ → Told → List BatchStep → Type 0
Allowed b t [] = Unit {0}
Allowed b t (step ∷ steps) = MayBe t step × Allowed b (told_on t (step_call b step)) steps

usable : (t : Told) (l : ℕ) → 1 ≤ l / 2 → is_usable (problem_of t) l ≡ true
usable t l le = go (nat_le (l / 2) t.vars) refl
  where
    go : (x : Bool) → nat_le (l / 2) t.vars ≡ x → is_usable (problem_of t) l ≡ true
    go true e = rw (le-leb 1 (l / 2) le, e) refl
    go false e = rw (le-leb 1 (l / 2) le, e) refl

all_usable : (t : Told) (ls : List ℕ) → AreLits ls → some_unusable (problem_of t) ls ≡ false
all_usable t [] h = refl
all_usable t (l ∷ ls) h = rw (usable t l h.0.0) (all_usable t ls h.1)

top_within : (ls : List ℕ) → AreLits ls → top ls ≤ max_var
unfolding top
top_within [] h = omega arith
top_within (l ∷ ls) h = omega (arith, top_within ls h.1, h.0.1)

-- an edit is refused neither without a solve nor after one
abbrev pub IsQuiet : Solving → Type 0
IsQuiet no_solve = Unit {0}
IsQuiet (ended n v) = Unit {0}
IsQuiet (running r) = ⊥
IsQuiet (paused r) = ⊥

pub quiet : (b : ℕ) (t : Told) (news known : List (List ℕ)) (v : Solving) → IsAt b Resting t news known v → IsQuiet v
quiet b t news known no_solve h = tt
quiet b t news known (ended n v) h = tt
quiet b t news known (running r) h = h
quiet b t news known (paused r) h = h

module _ (t : Told) (known : List (List ℕ)) (n : ℕ) where
  pub vars_pass : (v : Solving) (k : ℕ) → IsQuiet v → k ≤ max_var → refuses (state_of t known v n) (call.Vars k) ≡ None
  unfolding refuses
  vars_pass no_solve k q le = rw (le-ltb max_var k le) refl
  vars_pass (ended m w) k q le = rw (le-ltb max_var k le) refl
  vars_pass (running r) k q le = absurd q
  vars_pass (paused r) k q le = absurd q

  pub add_passes : (v : Solving) (c : List ℕ) → IsQuiet v → MayBe t (Clause c) → refuses (state_of t known v n) (call.Add c) ≡ None
  unfolding refuses lit_count
  add_passes no_solve c q h = rw (all_usable t c h.0, le-ltb max_var (top c) (top_within c h.0), le-ltb most_clauses (length t.clauses + 0 + 1) (omega (arith, h.1)), le-ltb most_lits (sum_by length t.clauses + 0 + length c) (omega (arith, h.2))) refl
  add_passes (ended m w) c q h = rw (all_usable t c h.0, le-ltb max_var (top c) (top_within c h.0), le-ltb most_clauses (length t.clauses + 0 + 1) (omega (arith, h.1)), le-ltb most_lits (sum_by length t.clauses + 0 + length c) (omega (arith, h.2))) refl
  add_passes (running r) c q h = absurd q
  add_passes (paused r) c q h = absurd q

  good_lits : (ls : List ℕ) → AreLits ls → list_any (λ l. not (is_usable (problem_of t) l || is_guard_lit (problem_of t) l)) ls ≡ false
  good_lits [] h = refl
  good_lits (l ∷ ls) h = rw (usable t l h.0.0) (good_lits ls h.1)

  pub assume_passes : (v : Solving) (ls : List ℕ) → IsQuiet v → MayBe t (Assume ls) → refuses (state_of t known v n) (call.Assume ls) ≡ None
  unfolding refuses
  assume_passes no_solve ls q h = rw (good_lits ls h.0, le-ltb max_var (top ls) (top_within ls h.0), le-ltb most_pending (length t.pending + length ls) h.1) refl
  assume_passes (ended m w) ls q h = rw (good_lits ls h.0, le-ltb max_var (top ls) (top_within ls h.0), le-ltb most_pending (length t.pending + length ls) h.1) refl
  assume_passes (running r) ls q h = absurd q
  assume_passes (paused r) ls q h = absurd q

  pub solve_passes : (v : Solving) (b : ℕ) → IsQuiet v → n < most_solves → refuses (state_of t known v n) (call.Solve b) ≡ None
  unfolding refuses
  solve_passes no_solve b q lt = rw (lt-leb most_solves n lt) refl
  solve_passes (ended m w) b q lt = rw (lt-leb most_solves n lt) refl
  solve_passes (running r) b q lt = absurd q
  solve_passes (paused r) b q lt = absurd q

  pub wait_passes : (m : ℕ) (w : Verdict) → refuses (state_of t known (ended m w) n) call.Wait ≡ None
  unfolding refuses
  wait_passes m w = refl

  pub model_passes : (m : ℕ) (values : List Bool) → refuses (state_of t known (ended m (Sat values)) n) call.Model ≡ None
  unfolding refuses
  model_passes m values = refl
