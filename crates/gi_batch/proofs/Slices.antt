-- One slice of work more.
use Rattle.std.proofs.Common.{◌≡◌, ℕ, ◌+◌, ◌⊎◌, inl, inr, Bool, true, List, [], ◌∷◌, ◌++◌, length, Some, None, refl, ap, sym, ◌∙◌, subst, arith, append_assoc, length-append}
use Rattle.std.specs.List.{All}
use Rattle.std.proofs.lemmas.List.{append-nil}
use Rattle.std.proofs.lemmas.List.Elements.{All-cons, All-head, All-nil, All-tail}
use Rattle.gi_lit.specs.Lists.{IsSublist}
use Rattle.gi_lit.specs.Truth.{Fail, MakesTrue, Satisfies, true_in}
use Rattle.gi_lit.specs.Problem.{Problem, in_force}
use Rattle.gi_lit.specs.Learnt.{AreFresh}
use Rattle.gi_model.specs.Effects.{after, sliced}
use Rattle.gi_model.specs.History.{Allows, Answers}
use Rattle.gi_model.specs.Refusals.{refuses}
use Rattle.gi_model.specs.State.{State, Run, Solve as Solving, no_solve, running, paused, ended}
use Rattle.gi_model.specs.Work.{AnswersWork, EndsWork, Works}
use Rattle.gi_model.specs.declared.calls.Call.TheVariants as call
use Rattle.gi_model.specs.declared.replies.Now.{Now}
use Rattle.gi_model.specs.declared.replies.Now.TheVariants.{Live, Ended}
use Rattle.gi_model.specs.declared.replies.Reply.{Reply}
use Rattle.gi_model.specs.declared.replies.Reply.TheVariants as reply
use Rattle.gi_model.specs.declared.replies.Verdict.TheVariants.{Sat, Unsat, Unknown}
use Rattle.gi_model.specs.declared.replies.Cause.TheVariants.{Budget, Stopped}
use Rattle.gi_batch.specs.Told.{Told, news_on, problem_of}
use Rattle.gi_batch.proofs.Order.{Stage, Resting, Going, Showing}
use Rattle.gi_batch.proofs.Mirror.{HasLearnt, IsAt, IsRunning, Mirror, state_of}
use Rattle.gi_batch.proofs.Advance.{replied}

-- news of several slices
fresh-append : (p : Problem) (known xs ys : List (List ℕ)) → AreFresh p known xs → AreFresh p (known ++ xs) ys → AreFresh p known (xs ++ ys)
fresh-append p known [] ys a b = subst (λ k. AreFresh p k ys) (append-nil known) b
fresh-append p known (x ∷ xs) ys a b = (a.0, a.1, fresh-append p (known ++ x ∷ []) xs ys a.2 (subst (λ k. AreFresh p k ys) (sym (append_assoc known (x ∷ []) xs)) b))

learnt_more : (t : Told) (news known more : List (List ℕ)) → HasLearnt t news known → AreFresh (problem_of t) known more → HasLearnt t (news ++ more) (known ++ more)
learnt_more t news known more h fresh = record {
  start = h.start;
  known_is = ap (λ k. k ++ more) h.known_is ∙ append_assoc h.start news more;
  fresh = fresh-append (problem_of t) h.start news more h.fresh (subst (λ k. AreFresh (problem_of t) k more) h.known_is fresh);
}

-- what makes a list true makes true what is left of it
fewer_true : (values : List Bool) (ws ls : List ℕ) → IsSublist ws ls → All (λ l. true_in values l ≡ true) ls → All (λ l. true_in values l ≡ true) ws
fewer_true values [] ls h a = All-nil (λ l. true_in values l ≡ true)
fewer_true values (w ∷ ws) [] h a = absurd h
fewer_true values (w ∷ ws) (l ∷ ls) (inl h) a =
    All-cons (λ m. true_in values m ≡ true) w ws (ap (true_in values) h.0 ∙ All-head (λ m. true_in values m ≡ true) l ls a) (fewer_true values ws ls h.1 (All-tail (λ m. true_in values m ≡ true) l ls a))
fewer_true values (w ∷ ws) (l ∷ ls) (inr h) a = fewer_true values (w ∷ ws) ls h (All-tail (λ m. true_in values m ≡ true) l ls a)

forced_is : (t : Told) (given : List ℕ) → in_force (problem_of t) given ≡ t.clauses
unfolding in_force
forced_is t given = append-nil t.clauses

fails_all : (t : Told) (assumed w : List ℕ) → assumed ≡ t.assumed → IsSublist w assumed → Fail (in_force (problem_of t) w) w → Fail t.clauses t.assumed
fails_all t assumed w is some fails = λ values clauses lits.
    fails values (subst (Satisfies values) (sym (forced_is t w)) clauses) (record { each = fewer_true values w assumed some (subst (λ ls. All (λ l. true_in values l ≡ true) ls) (sym is) lits.each) })

module _ (b : ℕ) (t : Told) (news known : List (List ℕ)) (n : ℕ) where
  abbrev at_run : Run → State
  at_run q = state_of t known (running q) n

  -- how a slice leaves the solve
  sliced_at : (q : Run) (mark : ℕ) (more : List (List ℕ)) (now : Now) → mark ≡ 0 → IsRunning b t news known q → Works (at_run q) q mark more now → IsAt b Going t (news ++ more) (known ++ more) (sliced q (length more) now)
  sliced_at q mark more now zero run works = go now works.ends
    where
      lengths : length (news ++ more) ≡ length news + length more
      lengths = length-append news more

      go : (now : Now) → EndsWork (at_run q) q mark more now → IsAt b Going t (news ++ more) (known ++ more) (sliced q (length more) now)
      go Live h = record {
        low = run.low;
        assumed = run.assumed;
        budget = run.budget;
        spent = omega (arith, run.spent, lengths);
        learnt = learnt_more t news known more run.learnt works.fresh;
      }
      go (Ended (Sat values)) h = record {
        count = h.2.count;
        clauses = subst (Satisfies values) (forced_is t q.assumed) h.2.clauses;
        assumed = subst (MakesTrue values) run.assumed h.2.lits;
      }
      go (Ended (Unsat w)) h = fails_all t q.assumed w run.assumed h.2.some h.2.fails
      go (Ended (Unknown (Budget k))) h = record { count = omega (arith, run.spent, lengths, h.1.0, run.budget); learnt = learnt_more t news known more run.learnt works.fresh }
      go (Ended (Unknown (Stopped k))) h = omega (arith, h.0, zero, run.low)

  abbrev Works_on : Stage → Solving → ℕ → Reply → Type 0
  Works_on stage v mark r = (r ≡ reply.NoMemory) ⊎ Mirror b stage t (news_on news r) (n + 1) (after (state_of t known v n) (call.Work mark) r)

  unrefused : (v : Solving) (mark : ℕ) → refuses (state_of t known v n) (call.Work mark) ≡ None
  unfolding refuses
  unrefused v mark = refl

  -- without a running solve nothing changes
  idle : (stage : Stage) (v : Solving) (mark : ℕ) (r : Reply) → IsAt b stage t news known v → after (state_of t known v n) (call.Work mark) reply.Idle ≡ state_of t known v n → r ≡ reply.Idle → Works_on stage v mark r
  idle stage v mark r at same is = inr (subst (λ (x : Reply). Mirror b stage t (news_on news x) (n + 1) (after (state_of t known v n) (call.Work mark) x)) (sym is)
      (record { known = known; solve = v; serial = n; is = same; at = at; few = omega arith }))

  run_works : (q : Run) (mark : ℕ) (r : Reply) → mark ≡ 0 → IsRunning b t news known q → AnswersWork (at_run q) (Some q) mark r → Works_on Going (running q) mark r
  unfolding after
  run_works q mark (reply.Worked more now) zero run works = inr (record { known = known ++ more; solve = sliced q (length more) now; serial = n; is = refl; at = sliced_at q mark more now zero run works; few = omega arith })
  run_works q mark other zero run works = elim works [ ]

  work_on : (stage : Stage) (v : Solving) (mark : ℕ) (r : Reply) → mark ≡ 0 → IsAt b stage t news known v → Answers (state_of t known v n) (call.Work mark) r → Works_on stage v mark r
  unfolding after
  work_on Going (running q) mark r zero at a = run_works q mark r zero at a
  work_on Going (ended m w) mark r zero at a = idle Going (ended m w) mark r at refl a
  work_on Going no_solve mark r zero at a = absurd at
  work_on Going (paused q) mark r zero at a = absurd at
  work_on Resting no_solve mark r zero at a = idle Resting no_solve mark r at refl a
  work_on Resting (ended m w) mark r zero at a = idle Resting (ended m w) mark r at refl a
  work_on Resting (running q) mark r zero at a = absurd at
  work_on Resting (paused q) mark r zero at a = absurd at
  work_on Showing (ended m w) mark r zero at a = idle Showing (ended m w) mark r at refl a
  work_on Showing no_solve mark r zero at a = absurd at
  work_on Showing (running q) mark r zero at a = absurd at
  work_on Showing (paused q) mark r zero at a = absurd at

  pub work_at : (stage : Stage) (v : Solving) (mark : ℕ) (r : Reply) → mark ≡ 0 → IsAt b stage t news known v → Allows (state_of t known v n) (call.Work mark) r → Works_on stage v mark r
  work_at stage v mark r zero at a = elim (replied (state_of t known v n) (call.Work mark) r (unrefused v mark) a) [ inl x ↦ work_on stage v mark r zero at x | inr none ↦ inl none ]

-- work that wasn't stopped
pub work_advances : (b : ℕ) (stage : Stage) (t : Told) (news : List (List ℕ)) (most : ℕ) (s : State) (mark : ℕ) (r : Reply) → Mirror b stage t news most s → mark ≡ 0 → Allows s (call.Work mark) r → (r ≡ reply.NoMemory) ⊎ Mirror b stage t (news_on news r) (most + 1) (after s (call.Work mark) r)
work_advances b stage t news most s mark r m zero a =
    let P : State → Type 0 = λ x. Allows x (call.Work mark) r → (r ≡ reply.NoMemory) ⊎ Mirror b stage t (news_on news r) (m.serial + 1) (after x (call.Work mark) r) in
    elim (subst P (sym m.is) (work_at b t news m.known m.serial stage m.solve mark r zero m.at) a) [
      | inl none ↦ inl none
      | inr x ↦ inr (record { known = x.known; solve = x.solve; serial = x.serial; is = x.is; at = x.at; few = omega (arith, x.few, m.few) })
    ]
