-- Steps as the calls that come next, one at a time.
use Rattle.std.proofs.Common.{◌≡◌, ℕ, Bool, true, false, not, ◌&&◌, ◌==◌, List, [], ◌∷◌, ◌++◌, Option, Some, None, refl, ap, sym, ◌∙◌, subst}
use Rattle.std.specs.List.{filter}
use Rattle.gi_model.specs.History.{Entry}
use Rattle.gi_model.specs.declared.calls.Call.{Call}
use Rattle.gi_model.specs.declared.calls.Call.TheVariants as call
use Rattle.gi_model.specs.declared.replies.Reply.{Reply}
use Rattle.gi_model.specs.declared.replies.Reply.TheVariants as reply
use Rattle.gi_model.specs.declared.replies.Status.TheVariants as status
use Rattle.gi_net.specs.Entries.{all_own_of, is_work, own_of}
use Rattle.gi_batch.specs.Steps.{BatchStep, Vars, Clause, Assume, Solve}
use Rattle.gi_batch.specs.Doing.{AsksModel, Does, DoesStep, IsCalled, IsSolved}

-- where a solve is: none, one that was started, or one whose model is to be told
pub data Stage : Type 0 where
  Resting : Stage
  Going : Stage
  Showing : Stage

abbrev pub step_call : ℕ → BatchStep → Call
step_call b (Vars n) = call.Vars n
step_call b (Clause c) = call.Add c
step_call b (Assume ls) = call.Assume ls
step_call b Solve = call.Solve b

abbrev pub next_call : ℕ → Stage → List BatchStep → Option Call
next_call b Going steps = Some call.Wait
next_call b Showing steps = Some call.Model
next_call b Resting [] = None
next_call b Resting (step ∷ steps) = Some (step_call b step)

abbrev pub after_wait : Reply → Stage
after_wait (reply.Status serial status.Sat) = Showing
after_wait other = Resting

abbrev pub next_stage : Stage → List BatchStep → Reply → Stage
next_stage Resting [] r = Resting
next_stage Resting (Solve ∷ steps) r = Going
next_stage Resting (step ∷ steps) r = Resting
next_stage Going steps r = after_wait r
next_stage Showing steps r = Resting

abbrev pub next_steps : Stage → List BatchStep → List BatchStep
next_steps Resting [] = []
next_steps Resting (step ∷ steps) = steps
next_steps Going steps = steps
next_steps Showing steps = steps

-- each call is the one that comes next
unfoldable pub Follows : ℕ → Stage → List BatchStep → List Entry → Type 0
Follows b stage steps [] = Unit {0}
Follows b stage steps (e ∷ es) = (next_call b stage steps ≡ Some e.call) × Follows b (next_stage stage steps e.reply) (next_steps stage steps) es

follows_front : (b : ℕ) (stage : Stage) (steps : List BatchStep) (es rest : List Entry) → Follows b stage steps (es ++ rest) → Follows b stage steps es
unfolding Follows
follows_front b stage steps [] rest h = tt
follows_front b stage steps (e ∷ es) rest h = (h.0, follows_front b (next_stage stage steps e.reply) (next_steps stage steps) es rest h.1)

-- behind a wait
shown_follows : (b : ℕ) (r : Reply) (steps : List BatchStep) (shown rest : List Entry) → AsksModel r shown → Follows b Resting steps rest → Follows b (after_wait r) steps (shown ++ rest)
unfolding Follows
shown_follows b (reply.Status serial status.Sat) steps shown rest asks h =
    subst (λ (es : List Entry). Follows b Showing steps (es ++ rest)) (sym asks.only) (ap Some (sym asks.is), h)
shown_follows b r steps shown rest asks h = subst (λ (es : List Entry). Follows b Resting steps (es ++ rest)) (sym asks) h

one_follows : (b : ℕ) (step : BatchStep) (steps : List BatchStep) (what : Call) (first rest : List Entry) → step_call b step ≡ what → ((r : Reply) → next_stage Resting (step ∷ steps) r ≡ Resting) → IsCalled what first → Follows b Resting steps rest → Follows b Resting (step ∷ steps) (first ++ rest)
unfolding Follows
one_follows b step steps what first rest is stays called h =
    subst (λ (es : List Entry). Follows b Resting (step ∷ steps) (es ++ rest)) (sym called.only)
    (ap Some (is ∙ sym called.is), subst (λ stage. Follows b stage steps rest) (sym (stays called.entry.reply)) h)

solve_follows : (b : ℕ) (steps : List BatchStep) (first rest : List Entry) → IsSolved b first → Follows b Resting steps rest → Follows b Resting (Solve ∷ steps) (first ++ rest)
unfolding Follows
solve_follows b steps first rest s h =
    subst (λ (es : List Entry). Follows b Resting (Solve ∷ steps) (es ++ rest)) (sym s.are)
    (ap Some (sym s.starts), (ap Some (sym s.waits), shown_follows b s.wait.reply steps s.shown rest s.shows h))

step_follows : (b : ℕ) (step : BatchStep) (steps : List BatchStep) (first rest : List Entry) → DoesStep b step first → Follows b Resting steps rest → Follows b Resting (step ∷ steps) (first ++ rest)
step_follows b (Vars n) steps first rest d h = one_follows b (Vars n) steps (call.Vars n) first rest refl (λ r. refl) d h
step_follows b (Clause c) steps first rest d h = one_follows b (Clause c) steps (call.Add c) first rest refl (λ r. refl) d h
step_follows b (Assume ls) steps first rest d h = one_follows b (Assume ls) steps (call.Assume ls) first rest refl (λ r. refl) d h
step_follows b Solve steps first rest d h = solve_follows b steps first rest d h

all_follow : (b : ℕ) (steps : List BatchStep) (es : List Entry) → Does b steps es → Follows b Resting steps es
unfolding Follows
all_follow b [] es d = subst (λ (xs : List Entry). Follows b Resting [] xs) (sym d) tt
all_follow b (step ∷ steps) es d = subst (λ (xs : List Entry). Follows b Resting (step ∷ steps) xs) (sym d.2) (step_follows b step steps d.0 d.1 d.3 (all_follow b steps d.1 d.4))

-- calls that do steps, or a front of such
pub does_follow : (b : ℕ) (steps : List BatchStep) (es rest : List Entry) → Does b steps (es ++ rest) → Follows b Resting steps es
does_follow b steps es rest d = follows_front b Resting steps es rest (all_follow b steps (es ++ rest) d)

-- the calls of a history, its work left out
abbrev pub calls_of : List Entry → List Entry
calls_of es = filter (λ (e : Entry). not (is_work e.call)) es

filter_both : (p q : Entry → Bool) (es : List Entry) → filter (λ (e : Entry). p e && q e) es ≡ filter q (filter p es)
filter_both p q [] = refl
filter_both p q (e ∷ es) = go (filter_both p q es) (p e) refl (q e) refl
  where
    go : filter (λ (e : Entry). p e && q e) es ≡ filter q (filter p es) → (x : Bool) → p e ≡ x → (y : Bool) → q e ≡ y → filter (λ (e : Entry). p e && q e) (e ∷ es) ≡ filter q (filter p (e ∷ es))
    go ih true a true c = rw (a, c) (ap (λ xs. e ∷ xs) ih)
    go ih true a false c = rw (a, c) ih
    go ih false a y c = rw a ih

-- where one caller alone has called, its calls are all calls
pub alone_calls : (n : ℕ) (es : List Entry) → all_own_of n es ≡ es → own_of n es ≡ calls_of es
alone_calls n es alone = filter_both (λ (e : Entry). e.by == n) (λ (e : Entry). not (is_work e.call)) es ∙ ap (λ xs. calls_of xs) alone
