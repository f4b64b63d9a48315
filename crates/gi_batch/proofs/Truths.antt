-- What the entries of a history tell.
use Rattle.std.proofs.Common.{◌≡◌, ◌≢◌, ℕ, ◌+◌, ◌*◌, ◌^◌, ◌≤◌, ◌⊎◌, inl, inr, Bool, true, false, ◌||◌, if◌then◌else◌, List, [], ◌∷◌, ◌++◌, length, Option, Some, None, refl, ap, sym, ◌∙◌, subst, arith}
use Rattle.std.proofs.lemmas.Bool.{le-leb}
use Rattle.std.proofs.lemmas.List.Folds.{list_any-append}
use Rattle.gi_lit.specs.Laws.{FreshClausesAreFew}
use Rattle.gi_lit.specs.Problem.{IsWellFormed, is_problem_var}
use Rattle.gi_lit.specs.Truth.{Fail}
use Rattle.gi_model.specs.Effects.{after, worked}
use Rattle.gi_model.specs.History.{Allows, Answers, Entry, IsLegal, IsLegalFrom, IsRefused, Replied, after_all}
use Rattle.gi_model.specs.Laws.{HistoriesAreKept, KnownIsTold}
use Rattle.gi_model.specs.Refusals.{is_over, refuses, is_work as is_machine_work}
use Rattle.gi_model.specs.Replies.{model_from, model_of, waited}
use Rattle.gi_model.specs.State.{Life, State, Run, Solve as Solving, dead, live_run, no_solve, running, paused, ended, opening}
use Rattle.gi_model.specs.Told.{told_known}
use Rattle.gi_model.specs.Work.{AnswersWork}
use Rattle.gi_model.specs.declared.calls.Call.{Call}
use Rattle.gi_model.specs.declared.calls.Call.TheVariants as call
use Rattle.gi_model.specs.declared.refusal.Refusal.{Refusal}
use Rattle.gi_model.specs.declared.refusal.Refusal.TheVariants as refusal
use Rattle.gi_model.specs.declared.replies.Reply.{Reply}
use Rattle.gi_model.specs.declared.replies.Reply.TheVariants as reply
use Rattle.gi_model.specs.declared.replies.Verdict.{Verdict}
use Rattle.gi_model.specs.declared.replies.Verdict.TheVariants.{Sat, Unsat, Unknown}
use Rattle.gi_model.specs.declared.replies.Cause.TheVariants.{Budget, Stopped}
use Rattle.gi_model.specs.declared.replies.Why.TheVariants as why
use Rattle.gi_net.specs.Entries.{is_work}
use Rattle.gi_batch.specs.Laws.{CallsAreAnswered, FailuresAreTrue, IsModelOf, IsSpent, ModelsAreTrue, StandsIn, UnknownIsSpent, has_failed, lacks_memory, literals_from}
use Rattle.gi_batch.specs.Steps.{BatchStep, Vars, Clause, Assume, Solve}
use Rattle.gi_batch.specs.Told.{Told, news_since, nothing_told, problem_of, told, told_by}
use Rattle.gi_batch.proofs.Order.{Follows, Stage, Resting, Going, Showing, next_call}
use Rattle.gi_batch.proofs.Mirror.{EndsSo, IsAt, IsModel, IsOut, Mirror, model_passes, state_of, wait_passes}
use Rattle.gi_batch.proofs.Advance.{ended_at, replied}
use Rattle.gi_batch.proofs.Reaching.{call_answered, next_is, stands_here, work_or_not}

failed_front : (before : List Entry) (e : Entry) → has_failed before ≡ true → has_failed (before ++ e ∷ []) ≡ true
failed_front before e h = list_any-append (λ (x : Entry). lacks_memory x.reply) before (e ∷ []) ∙ rw h refl

or_true : (x : Bool) → (x || true) ≡ true
or_true true = refl
or_true false = refl

failed_last : (before : List Entry) (e : Entry) → e.reply ≡ reply.NoMemory → has_failed (before ++ e ∷ []) ≡ true
failed_last before e is =
    let last : has_failed (e ∷ []) ≡ true = rw is refl in
    list_any-append (λ (x : Entry). lacks_memory x.reply) before (e ∷ []) ∙ ap (λ x. has_failed before || x) last ∙ or_true (has_failed before)

-- calls are answered as they are meant
pub answered : CallsAreAnswered
answered b before e stands own = elim (stands_here b before e stands) [
  | inl failed ↦ inr (failed_front before e failed)
  | inr here ↦ elim (call_answered b (told_by nothing_told before) (news_since [] before) here.0 (after_all opening before) e stands.after here.1 own) [
    | inl none ↦ inr (failed_last before e none)
    | inr proper ↦ inl proper
  ]
]

-- a machine that lacked memory is over
same_work : (c : Call) → is_machine_work c ≡ is_work c
same_work (call.Work mark) = refl
same_work other = refl

over_refuses : (s : State) (c : Call) → is_over s.life ≡ true → is_machine_work c ≡ false → refuses s c ≡ Some refusal.Dead
unfolding refuses
over_refuses s c over own = rw (own, over) refl

refused_dead : (c : Call) (r : Reply) → IsRefused c r refusal.Dead → r ≡ reply.Refused refusal.Dead
refused_dead c r (inl is) = is
refused_dead c r (inr h) = absurd cc

-- its calls are refused
dead_refuses : (s : State) (c : Call) (r : Reply) → s.life ≡ dead → is_work c ≡ false → Allows s c r → r ≡ reply.Refused refusal.Dead
dead_refuses s c r is own a =
    let P : Option Refusal → Type 0 = λ o. Replied s c r o in
    refused_dead c r (subst P (over_refuses s c (ap is_over is) (same_work c ∙ own)) a.replied)

dead_idle : (s : State) → s.life ≡ dead → live_run s ≡ None
dead_idle s is = go s.life s.solve is
  where
    go : (l : Life) (v : Solving) → l ≡ dead → live_run (record s { life = l; solve = v }) ≡ None
    go dead v e = refl
    go other v e = absurd cc

work_unrefused : (s : State) (mark : ℕ) → refuses s (call.Work mark) ≡ None
unfolding refuses
work_unrefused s mark = refl

-- and it stays so
dead_after : (s : State) (c : Call) (r : Reply) → s.life ≡ dead → Allows s c r → (after s c r).life ≡ dead
unfolding after
dead_after s c r is a = elim (work_or_not c) [
  | inr own ↦ (let e = dead_refuses s c r is own a in subst (λ (x : Reply). (after s c x).life ≡ dead) (sym e) is)
  | inl w ↦ (let P : Call → Type 0 = λ x. Allows s x r → (after s x r).life ≡ dead in subst P (sym w.1) (λ b. by_work w.0 (replied s (call.Work w.0) r (work_unrefused s w.0) b))) a
] where
  by_work : (mark : ℕ) → Answers s (call.Work mark) r ⊎ (r ≡ reply.NoMemory) → (after s (call.Work mark) r).life ≡ dead
  by_work mark (inr none) = subst (λ (x : Reply). (after s (call.Work mark) x).life ≡ dead) (sym none) refl
  by_work mark (inl x) =
      let idle : r ≡ reply.Idle = subst (λ (o : Option Run). AnswersWork s o mark r) (dead_idle s is) x in
      subst (λ (y : Reply). (after s (call.Work mark) y).life ≡ dead) (sym idle) (subst (λ (o : Option Run). (worked o reply.Idle s).life ≡ dead) (sym (dead_idle s is)) is)

dead_all : (es rest : List Entry) (s : State) → s.life ≡ dead → IsLegalFrom s (es ++ rest) → (after_all s es).life ≡ dead
unfolding after_all
dead_all [] rest s is h = is
dead_all (e ∷ es) rest s is h = dead_all es rest (after s e.call e.reply) (dead_after s e.call e.reply is h.0) h.1

lacks_is : (r : Reply) → lacks_memory r ≡ true → r ≡ reply.NoMemory
lacks_is reply.NoMemory h = refl
lacks_is other h = absurd cc

failed_is_dead : (es rest : List Entry) (s : State) → IsLegalFrom s (es ++ rest) → has_failed es ≡ true → (after_all s es).life ≡ dead
unfolding after_all after
failed_is_dead [] rest s h failed = absurd cc
failed_is_dead (e ∷ es) rest s h failed = go (λ f. failed_is_dead es rest (after s e.call e.reply) h.1 f) (lacks_memory e.reply) refl
  where
    go : (has_failed es ≡ true → (after_all (after s e.call e.reply) es).life ≡ dead) → (x : Bool) → lacks_memory e.reply ≡ x → (after_all (after s e.call e.reply) es).life ≡ dead
    go ih false q = ih (rw q at failed)
    go ih true q =
        let over : (after s e.call e.reply).life ≡ dead = subst (λ (r : Reply). (after s e.call r).life ≡ dead) (sym (lacks_is e.reply q)) refl in
        dead_all es rest (after s e.call e.reply) over h.1

legal_behind : (es rest : List Entry) (s : State) → IsLegalFrom s (es ++ rest) → IsLegalFrom (after_all s es) rest
unfolding after_all
legal_behind [] rest s h = h
legal_behind (e ∷ es) rest s h = legal_behind es rest (after s e.call e.reply) h.1

legal_front : (es rest : List Entry) (s : State) → IsLegalFrom s (es ++ rest) → IsLegalFrom s es
legal_front [] rest s h = tt
legal_front (e ∷ es) rest s h = (h.0, legal_front es rest (after s e.call e.reply) h.1)

-- behind want of memory a call has no other reply
failed_refuses : (b : ℕ) (before : List Entry) (e : Entry) → StandsIn b before e → is_work e.call ≡ false → has_failed before ≡ true → e.reply ≡ reply.Refused refusal.Dead
failed_refuses b before e stands own failed =
    let legal = legal_behind before (e ∷ stands.after) opening stands.history.legal.each in
    dead_refuses (after_all opening before) e.call e.reply (failed_is_dead before (e ∷ stands.after) opening stands.history.legal.each failed) own legal.0

-- the stage at which a call comes
pub going_only : (b : ℕ) (stage : Stage) (steps : List BatchStep) → next_call b stage steps ≡ Some call.Wait → stage ≡ Going
going_only b Going steps e = refl
going_only b Showing steps e = absurd cc
going_only b Resting [] e = absurd cc
going_only b Resting (Vars n ∷ steps) e = absurd cc
going_only b Resting (Clause c ∷ steps) e = absurd cc
going_only b Resting (Assume ls ∷ steps) e = absurd cc
going_only b Resting (Solve ∷ steps) e = absurd cc

pub showing_only : (b : ℕ) (stage : Stage) (steps : List BatchStep) → next_call b stage steps ≡ Some call.Model → stage ≡ Showing
showing_only b Showing steps e = refl
showing_only b Going steps e = absurd cc
showing_only b Resting [] e = absurd cc
showing_only b Resting (Vars n ∷ steps) e = absurd cc
showing_only b Resting (Clause c ∷ steps) e = absurd cc
showing_only b Resting (Assume ls ∷ steps) e = absurd cc
showing_only b Resting (Solve ∷ steps) e = absurd cc

-- how the solve has ended that a wait tells of
record HasEnded (b : ℕ) (t : Told) (news : List (List ℕ)) (s : State) (r : Reply) : Type 0 where
  known : List (List ℕ)
  solve : Solving
  serial : ℕ
  is : s ≡ state_of t known solve serial
  number : ℕ
  verdict : Verdict
  told : r ≡ waited (ended number verdict)
  ends : EndsSo b t news known verdict

wait_told : (b : ℕ) (t : Told) (news : List (List ℕ)) (most : ℕ) (s : State) (r : Reply) → Mirror b Going t news most s → Allows s call.Wait r → (r ≡ reply.NoMemory) ⊎ HasEnded b t news s r
wait_told b t news most s r m a =
    let P : State → Type 0 = λ x. Allows x call.Wait r in
    let here : Allows (state_of t m.known m.solve m.serial) call.Wait r = subst P m.is a in
    let e = ended_at b t news m.known m.solve m.serial m.at here.may_come in
    let Q : Solving → Type 0 = λ v. Allows (state_of t m.known v m.serial) call.Wait r in
    elim (replied (state_of t m.known (ended e.0 e.1) m.serial) call.Wait r (wait_passes t m.known m.serial e.0 e.1) (subst Q e.2 here)) [
      | inr none ↦ inl none
      | inl is ↦ inr (record { known = m.known; solve = m.solve; serial = m.serial; is = m.is; number = e.0; verdict = e.1; told = is; ends = e.3 })
    ]

-- a wait, at its place
wait_stands : (b : ℕ) (before : List Entry) (e : Entry) → StandsIn b before e → e.call ≡ call.Wait → e.reply ≢ reply.NoMemory → e.reply ≢ reply.Refused refusal.Dead → HasEnded b (told before) (news_since [] before) (after_all opening before) e.reply
unfolding Follows
wait_stands b before e stands is answered alive =
    let own : is_work e.call ≡ false = ap is_work is in
    elim (stands_here b before e stands) [
      | inl failed ↦ absurd (alive (failed_refuses b before e stands own failed))
      | inr here ↦
          (let next = next_is b (told before) (news_since [] before) here.0 (after_all opening before) e stands.after here.1 own in
          let stage : here.1.stage ≡ Going = going_only b here.1.stage here.1.steps (next.0 ∙ ap Some is) in
          let m : Mirror b Going (told before) (news_since [] before) here.0 (after_all opening before) = subst (λ (x : Stage). Mirror b x (told before) (news_since [] before) here.0 (after_all opening before)) stage here.1.mirror in
          let a : Allows (after_all opening before) call.Wait e.reply = subst (λ (c : Call). Allows (after_all opening before) c e.reply) is here.1.legal.0 in
          elim (wait_told b (told before) (news_since [] before) here.0 (after_all opening before) e.reply m a) [ inl none ↦ absurd (answered none) | inr h ↦ h ])
    ]

-- where it is answered that there are no values, there are none
pub failures : FailuresAreTrue
failures b before e serial failed stands is told_is =
    let h = wait_stands b before e stands is (λ q. cc) (λ q. cc) in go h.number h.verdict h.known h.told h.ends
  where
    go : (n : ℕ) (w : Verdict) (known : List (List ℕ)) → e.reply ≡ waited (ended n w) → EndsSo b (told before) (news_since [] before) known w → Fail (told before).clauses (told before).assumed
    go n (Unsat w) known is ends = ends
    go n (Sat values) known is ends = absurd cc
    go n (Unknown c) known is ends = absurd cc

-- where it is answered that it isn't known, the budget was spent
module _ (kept : HistoriesAreKept) (are_told : KnownIsTold) (few : FreshClausesAreFew) where
  spent : (b : ℕ) (before : List Entry) (known : List (List ℕ)) (solve : Solving) (n : ℕ) → IsLegal before → after_all opening before ≡ state_of (told before) known solve n → IsOut b (told before) (news_since [] before) known → IsSpent b before
  spent b before known solve n legal is out =
      let well : IsWellFormed (problem_of (told before)) = subst (λ (s : State). IsWellFormed s.problem) is (kept before legal).clauses in
      let same : known ≡ told_known [] before = sym (ap (λ (s : State). s.known) is) ∙ are_told before legal in
      let most : length (news_since [] before) ≤ 3 ^ (told before).vars = few (problem_of (told before)) out.learnt.start (news_since [] before) well out.learnt.fresh in
      record {
        start = out.learnt.start;
        known = sym same ∙ out.learnt.known_is;
        count = out.count;
        fresh = out.learnt.fresh;
        few = subst (λ m. m ≤ 3 ^ (told before).vars) out.count most;
      }

  pub unknowns : UnknownIsSpent
  unknowns b before e serial because stands is told_is =
      let h = wait_stands b before e stands is (λ q. cc) (λ q. cc) in
      let legal : IsLegal before = record { each = legal_front before (e ∷ stands.after) opening stands.history.legal.each } in
      go h.number h.verdict h.known h.told h.ends (λ out. spent b before h.known h.solve h.serial legal h.is out)
    where
      go : (n : ℕ) (w : Verdict) (known : List (List ℕ)) → e.reply ≡ waited (ended n w) → EndsSo b (told before) (news_since [] before) known w → (IsOut b (told before) (news_since [] before) known → IsSpent b before) → (because ≡ why.Budget) × IsSpent b before
      go n (Unsat w) known q ends conclude = absurd cc
      go n (Sat values) known q ends conclude = absurd cc
      go n (Unknown (Stopped k)) known q ends conclude = absurd ends
      go n (Unknown (Budget k)) known q ends conclude = (cc, conclude ends)

-- the literals of values of all variables
all_vars : (t : Told) (v : ℕ) → 1 ≤ v → v ≤ t.vars → is_problem_var (problem_of t) v ≡ true
all_vars t v low high = rw (le-leb 1 v low, le-leb v t.vars high) refl

literals_are : (t : Told) (values : List Bool) (v : ℕ) → 1 ≤ v → v + length values ≤ t.vars + 1 → model_from (problem_of t) v values ≡ literals_from v values
unfolding model_from literals_from
literals_are t [] v low high = refl
literals_are t (b ∷ bs) v low high = rw (all_vars t v low (omega arith)) (ap (λ ls. (if b then 2 * v else 2 * v + 1) ∷ ls) (literals_are t bs (v + 1) (omega arith) (omega arith)))

-- a model that is told
model_told : (b : ℕ) (t : Told) (news known : List (List ℕ)) (v : Solving) (n : ℕ) (r : Reply) → IsAt b Showing t news known v → Allows (state_of t known v n) call.Model r → (r ≡ reply.NoMemory) ⊎ ((values : List Bool) × IsModel t values × (r ≡ reply.Model (model_of (problem_of t) values)))
model_told b t news known (ended m (Sat values)) n r at a = elim (replied (state_of t known (ended m (Sat values)) n) call.Model r (model_passes t known n m values) a) [ inl is ↦ inr (values, at, is) | inr none ↦ inl none ]
model_told b t news known (ended m (Unsat w)) n r at a = absurd at
model_told b t news known (ended m (Unknown c)) n r at a = absurd at
model_told b t news known no_solve n r at a = absurd at
model_told b t news known (running q) n r at a = absurd at
model_told b t news known (paused q) n r at a = absurd at

model_of_told : (before : List Entry) (values : List Bool) (literals : List ℕ) → IsModel (told before) values → literals ≡ model_of (problem_of (told before)) values → IsModelOf before literals
model_of_told before values literals h is = record {
  values = values;
  count = h.count;
  clauses = h.clauses;
  assumed = h.assumed;
  are = is ∙ literals_are (told before) values 1 (omega arith) (omega (arith, h.count));
}

-- has the true literal of each variable
pub models : ModelsAreTrue
unfolding Follows
models b before e literals stands is told_is =
    let own : is_work e.call ≡ false = ap is_work is in
    elim (stands_here b before e stands) [
      | inl failed ↦ (let q = failed_refuses b before e stands own failed in absurd cc)
      | inr here ↦
          (let next = next_is b (told before) (news_since [] before) here.0 (after_all opening before) e stands.after here.1 own in
          let stage : here.1.stage ≡ Showing = showing_only b here.1.stage here.1.steps (next.0 ∙ ap Some is) in
          let m : Mirror b Showing (told before) (news_since [] before) here.0 (after_all opening before) = subst (λ (x : Stage). Mirror b x (told before) (news_since [] before) here.0 (after_all opening before)) stage here.1.mirror in
          let a : Allows (after_all opening before) call.Model e.reply = subst (λ (c : Call). Allows (after_all opening before) c e.reply) is here.1.legal.0 in
          let P : State → Type 0 = λ x. Allows x call.Model e.reply in
          elim (model_told b (told before) (news_since [] before) m.known m.solve m.serial e.reply m.at (subst P m.is a)) [
            | inl none ↦ absurd cc
            | inr h ↦ model_of_told before h.0 literals h.1 (let q = h.2 in cc)
          ])
    ]
