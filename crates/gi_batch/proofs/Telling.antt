-- The calls of a history tell the steps.
use Rattle.std.proofs.Common.{◌≡◌, ℕ, inl, inr, false, List, [], ◌∷◌, ◌++◌, Some, refl, ap, sym, ◌∙◌, subst, append_assoc}
use Rattle.gi_model.specs.History.{Entry}
use Rattle.gi_model.specs.declared.calls.Call.TheVariants as call
use Rattle.gi_net.specs.Entries.{is_work, own_of}
use Rattle.gi_batch.specs.Laws.{AsksAreWritten}
use Rattle.gi_batch.specs.Steps.{BatchStep, Vars, Clause, Assume, Solve}
use Rattle.gi_batch.specs.Told.{Told, nothing_told, told_by, told_on, told_step, told_steps}
use Rattle.gi_batch.proofs.Order.{Follows, Stage, Resting, Going, Showing, after_wait, alone_calls, calls_of, does_follow, next_call, next_stage, next_steps, step_call}
use Rattle.gi_batch.proofs.Reaching.{calls-own, calls-work, work_or_not}
use Rattle.gi_batch.proofs.Truths.{going_only, showing_only}

-- behind a start the steps end with the solve
abbrev EndsAt : Stage → List BatchStep → Type 0
EndsAt Resting done = Unit {0}
EndsAt Going done = (front : List BatchStep) × (done ≡ front ++ Solve ∷ [])
EndsAt Showing done = (front : List BatchStep) × (done ≡ front ++ Solve ∷ [])

-- how far the steps have been told
record Tells (b : ℕ) (all : List BatchStep) (t : Told) (rest : List Entry) : Type 0 where
  done : List BatchStep
  left : List BatchStep
  stage : Stage
  split : all ≡ done ++ left
  told_is : t ≡ told_steps nothing_told done
  ends : EndsAt stage done
  follows : Follows b stage left (calls_of rest)

steps-push : (t : Told) (steps : List BatchStep) (step : BatchStep) → told_steps t (steps ++ step ∷ []) ≡ told_step (told_steps t steps) step
unfolding told_steps
steps-push t [] step = refl
steps-push t (x ∷ steps) step = steps-push (told_step t x) steps step

step_tells : (b : ℕ) (t : Told) (step : BatchStep) → told_on t (step_call b step) ≡ told_step t step
step_tells b t (Vars n) = refl
step_tells b t (Clause c) = refl
step_tells b t (Assume ls) = refl
step_tells b t Solve = refl

after_wait_ends : (stage : Stage) (done : List BatchStep) → ((front : List BatchStep) × (done ≡ front ++ Solve ∷ [])) → EndsAt stage done
after_wait_ends Resting done h = tt
after_wait_ends Going done h = h
after_wait_ends Showing done h = h

step_ends : (done : List BatchStep) (step : BatchStep) (steps : List BatchStep) (e : Entry) → EndsAt (next_stage Resting (step ∷ steps) e.reply) (done ++ step ∷ [])
step_ends done (Vars n) steps e = tt
step_ends done (Clause c) steps e = tt
step_ends done (Assume ls) steps e = tt
step_ends done Solve steps e = (done, refl)

module _ (b : ℕ) (all : List BatchStep) where
  call_tells : (stage : Stage) (done left : List BatchStep) (t : Told) (e : Entry) (rest : List Entry) → all ≡ done ++ left → t ≡ told_steps nothing_told done → EndsAt stage done → next_call b stage left ≡ Some e.call → Follows b (next_stage stage left e.reply) (next_steps stage left) (calls_of rest) → Tells b all (told_on t e.call) rest
  call_tells Resting done [] t e rest split is ends next follows = absurd cc
  call_tells Resting done (step ∷ left) t e rest split is ends next follows = record {
    done = done ++ step ∷ [];
    left = left;
    stage = next_stage Resting (step ∷ left) e.reply;
    split = split ∙ sym (append_assoc done (step ∷ []) left);
    told_is =
        let same : e.call ≡ step_call b step = cc in
        ap (told_on t) same ∙ step_tells b t step ∙ ap (λ (x : Told). told_step x step) is ∙ sym (steps-push nothing_told done step);
    ends = step_ends done step left e;
    follows = follows;
  }
  call_tells Going done left t e rest split is ends next follows = record {
    done = done;
    left = left;
    stage = after_wait e.reply;
    split = split;
    told_is = (let same : e.call ≡ call.Wait = cc in ap (told_on t) same ∙ is);
    ends = after_wait_ends (after_wait e.reply) done ends;
    follows = follows;
  }
  call_tells Showing done left t e rest split is ends next follows = record {
    done = done;
    left = left;
    stage = Resting;
    split = split;
    told_is = (let same : e.call ≡ call.Model = cc in ap (told_on t) same ∙ is);
    ends = tt;
    follows = follows;
  }

  entry_tells : (t : Told) (e : Entry) (rest : List Entry) → Tells b all t (e ∷ rest) → Tells b all (told_on t e.call) rest
  unfolding Follows
  entry_tells t e rest h = elim (work_or_not e.call) [
    | inl w ↦ record {
      done = h.done;
      left = h.left;
      stage = h.stage;
      split = h.split;
      told_is = ap (told_on t) w.1 ∙ h.told_is;
      ends = h.ends;
      follows = subst (Follows b h.stage h.left) (calls-work e rest (ap is_work w.1)) h.follows;
    }
    | inr own ↦ (let next = subst (Follows b h.stage h.left) (calls-own e rest own) h.follows in call_tells h.stage h.done h.left t e rest h.split h.told_is h.ends next.0 next.1)
  ]

  all_tell : (before rest : List Entry) (t : Told) → Tells b all t (before ++ rest) → Tells b all (told_by t before) rest
  unfolding told_by
  all_tell [] rest t h = h
  all_tell (e ∷ before) rest t h = all_tell before rest (told_on t e.call) (entry_tells t e (before ++ rest) h)

-- at a wait and at a model the machine was told the steps up to that solve
pub asks_written : AsksAreWritten
unfolding Follows told_steps
asks_written b before e stands is =
    let es : List Entry = before ++ e ∷ stands.after in
    let start : Tells b stands.steps nothing_told es = record {
      done = [];
      left = stands.steps;
      stage = Resting;
      split = refl;
      told_is = refl;
      ends = tt;
      follows = subst (Follows b Resting stands.steps) (alone_calls stands.number es stands.history.alone) (does_follow b stands.steps (own_of stands.number es) stands.history.rest stands.history.does);
    } in
    let here = all_tell b stands.steps before (e ∷ stands.after) nothing_told start in
    let own : is_work e.call ≡ false = elim is [ inl w ↦ ap is_work w | inr m ↦ ap is_work m ] in
    let next = subst (Follows b here.stage here.left) (calls-own e stands.after own) here.follows in
    let ends : (front : List BatchStep) × (here.done ≡ front ++ Solve ∷ []) = elim is [
      | inl w ↦ subst (λ (stage : Stage). EndsAt stage here.done) (going_only b here.stage here.left (next.0 ∙ ap Some w)) here.ends
      | inr m ↦ subst (λ (stage : Stage). EndsAt stage here.done) (showing_only b here.stage here.left (next.0 ∙ ap Some m)) here.ends
    ] in (
      ends.0,
      here.left,
      here.split ∙ ap (λ steps. steps ++ here.left) ends.1 ∙ append_assoc ends.0 (Solve ∷ []) here.left,
      here.told_is ∙ ap (told_steps nothing_told) ends.1 ∙ steps-push nothing_told ends.0 Solve,
    )
