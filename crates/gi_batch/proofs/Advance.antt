-- One call more.
use Rattle.std.proofs.Common.{◌≡◌, ℕ, ◌+◌, ◌^◌, ◌<◌, ◌≤◌, ◌⊎◌, inl, inr, true, List, [], ◌∷◌, ◌++◌, Option, Some, None, refl, sym, subst, arith}
use Rattle.std.proofs.lemmas.List.{append-nil}
use Rattle.gi_lit.specs.Literals.{max_var}
use Rattle.gi_model.specs.Effects.{after, edited, trimmed}
use Rattle.gi_model.specs.History.{Allows, Answers, Replied}
use Rattle.gi_model.specs.Refusals.{refuses}
use Rattle.gi_model.specs.Replies.{waited}
use Rattle.gi_model.specs.State.{State, Solve as Solving, no_solve, running, paused, ended, live_run, scope_assumed}
use Rattle.gi_model.specs.declared.calls.Call.{Call}
use Rattle.gi_model.specs.declared.calls.Call.TheVariants as call
use Rattle.gi_model.specs.declared.refusal.Refusal.{Refusal}
use Rattle.gi_model.specs.declared.replies.Reply.{Reply}
use Rattle.gi_model.specs.declared.replies.Reply.TheVariants as reply
use Rattle.gi_model.specs.declared.replies.Verdict.{Verdict}
use Rattle.gi_model.specs.declared.replies.Verdict.TheVariants.{Sat, Unsat, Unknown}
use Rattle.gi_batch.specs.Steps.{BatchStep, Vars, Clause, Assume, Solve}
use Rattle.gi_batch.specs.Done.{is_proper}
use Rattle.gi_batch.specs.Told.{Told, news_on, told_on}
use Rattle.gi_batch.proofs.Order.{Stage, Resting, Going, Showing, after_wait, next_call, next_stage}
use Rattle.gi_batch.proofs.Mirror.{Allowed, EndsSo, IsAt, IsQuiet, MayBe, Mirror, add_passes, assume_passes, model_passes, quiet, solve_passes, state_of, vars_pass, wait_passes}

-- a call that isn't refused is answered, or memory is wanting
pub replied : (s : State) (c : Call) (r : Reply) → refuses s c ≡ None → Allows s c r → Answers s c r ⊎ (r ≡ reply.NoMemory)
replied s c r e a = elim (let P : Option Refusal → Type 0 = λ o. Replied s c r o in subst P e a.replied) [ inl x ↦ inl x | inr x ↦ inr x.0 ]

-- what one more call leads to
abbrev pub Advances : ℕ → Stage → Told → List (List ℕ) → ℕ → State → Call → Reply → Type 0
Advances b stage t news most s c r = (r ≡ reply.NoMemory) ⊎ ((is_proper c r ≡ true) × Mirror b stage (told_on t c) (news_on news r) most (after s c r))

edited_rests : (b : ℕ) (t : Told) (news known : List (List ℕ)) (v : Solving) → IsQuiet v → IsAt b Resting t news known (edited v)
edited_rests b t news known no_solve q = tt
edited_rests b t news known (ended n v) q = tt
edited_rests b t news known (running r) q = absurd q
edited_rests b t news known (paused r) q = absurd q

module _ (b : ℕ) (t : Told) (news known : List (List ℕ)) (v : Solving) (n : ℕ) where
  abbrev s : State
  s = state_of t known v n

  -- a call that isn't refused, and has one answer
  advances_by : (c : Call) (r answer : Reply) (stage : Stage) → refuses s c ≡ None → Allows s c r → (Answers s c r → r ≡ answer) → is_proper c answer ≡ true
      → Mirror b stage (told_on t c) (news_on news answer) (n + 1) (after s c answer) → Advances b stage t news (n + 1) s c r
  advances_by c r answer stage passes a only proper mirrors = elim (replied s c r passes a) [
    | inr none ↦ inl none
    | inl is ↦ inr (subst (λ (x : Reply). (is_proper c x ≡ true) × Mirror b stage (told_on t c) (news_on news x) (n + 1) (after s c x)) (sym (only is)) (proper, mirrors))
  ]

  vars_advance : (k : ℕ) (r : Reply) → IsQuiet v → k ≤ max_var → Allows s (call.Vars k) r → Advances b Resting t news (n + 1) s (call.Vars k) r
  unfolding after
  vars_advance k r q le a = advances_by (call.Vars k) r _ Resting (vars_pass t known n v k q le) a (λ is. is) refl (record { known = known; solve = edited v; serial = n; is = refl; at = edited_rests b (told_on t (call.Vars k)) news known v q; few = omega arith })

  add_advances : (c : List ℕ) (r : Reply) → IsQuiet v → MayBe t (Clause c) → Allows s (call.Add c) r → Advances b Resting t news (n + 1) s (call.Add c) r
  unfolding after
  add_advances c r q may a = advances_by (call.Add c) r _ Resting (add_passes t known n v c q may) a (λ is. is) refl (record { known = known; solve = edited v; serial = n; is = refl; at = edited_rests b (told_on t (call.Add c)) news known v q; few = omega arith })

  assume_advances : (ls : List ℕ) (r : Reply) → IsQuiet v → MayBe t (Assume ls) → Allows s (call.Assume ls) r → Advances b Resting t news (n + 1) s (call.Assume ls) r
  unfolding after
  assume_advances ls r q may a = advances_by (call.Assume ls) r _ Resting (assume_passes t known n v ls q may) a (λ is. is) refl (record { known = known; solve = edited v; serial = n; is = refl; at = edited_rests b (told_on t (call.Assume ls)) news known v q; few = omega arith })

  started_at : IsAt b Going (told_on t (call.Solve b)) [] (trimmed known) (running (record { serial = n + 1; assumed = scope_assumed [] ++ t.pending; budget = b; spent = 0; slices = 0 }))
  unfolding scope_assumed
  started_at = record {
    low = omega arith;
    assumed = refl;
    budget = refl;
    spent = refl;
    learnt = record { start = trimmed known; known_is = sym (append-nil (trimmed known)); fresh = tt };
  }

  solve_advances : (r : Reply) → IsQuiet v → n < 2 ^ 56 → Allows s (call.Solve b) r → Advances b Going t news (n + 1) s (call.Solve b) r
  unfolding after
  solve_advances r q lt a = advances_by (call.Solve b) r _ Going (solve_passes t known n v b q lt) a (λ is. is) refl
      (record { known = trimmed known; solve = running (record { serial = n + 1; assumed = scope_assumed [] ++ t.pending; budget = b; spent = 0; slices = 0 }); serial = n + 1; is = refl; at = started_at; few = omega arith })

-- a wait comes only once the solve has ended
pub ended_at : (b : ℕ) (t : Told) (news known : List (List ℕ)) (v : Solving) (n : ℕ) → IsAt b Going t news known v → live_run (state_of t known v n) ≡ None → (m : ℕ) × (w : Verdict) × (v ≡ ended m w) × EndsSo b t news known w
ended_at b t news known no_solve n at none = absurd at
ended_at b t news known (paused r) n at none = absurd at
ended_at b t news known (running r) n at none = absurd cc
ended_at b t news known (ended m w) n at none = (m, w, refl, at)

module _ (b : ℕ) (t : Told) (news known : List (List ℕ)) (n : ℕ) where
  wait_mirrors : (m : ℕ) (w : Verdict) → EndsSo b t news known w → let s = state_of t known (ended m w) n in (is_proper call.Wait (waited (ended m w)) ≡ true) × Mirror b (after_wait (waited (ended m w))) t (news_on news (waited (ended m w))) (n + 1) (after s call.Wait (waited (ended m w)))
  unfolding after
  wait_mirrors m (Sat values) at = (refl, record { known = known; solve = ended m (Sat values); serial = n; is = refl; at = at; few = omega arith })
  wait_mirrors m (Unsat w) at = (refl, record { known = known; solve = ended m (Unsat w); serial = n; is = refl; at = tt; few = omega arith })
  wait_mirrors m (Unknown c) at = (refl, record { known = known; solve = ended m (Unknown c); serial = n; is = refl; at = tt; few = omega arith })

  wait_advances : (v : Solving) (r : Reply) → IsAt b Going t news known v → Allows (state_of t known v n) call.Wait r → Advances b (after_wait r) t news (n + 1) (state_of t known v n) call.Wait r
  wait_advances v r at a =
      let e = ended_at b t news known v n at a.may_come in
      let P : Solving → Type 0 = λ x. Allows (state_of t known x n) call.Wait r → Advances b (after_wait r) t news (n + 1) (state_of t known x n) call.Wait r in
      subst P (sym e.2) (go e.0 e.1 e.3) a
    where
      go : (m : ℕ) (w : Verdict) → EndsSo b t news known w → Allows (state_of t known (ended m w) n) call.Wait r → Advances b (after_wait r) t news (n + 1) (state_of t known (ended m w) n) call.Wait r
      go m w at a = elim (replied (state_of t known (ended m w) n) call.Wait r (wait_passes t known n m w) a) [
        | inr none ↦ inl none
        | inl is ↦ inr (subst (λ (x : Reply). (is_proper call.Wait x ≡ true) × Mirror b (after_wait x) t (news_on news x) (n + 1) (after (state_of t known (ended m w) n) call.Wait x)) (sym is) (wait_mirrors m w at))
      ]

  model_advances : (v : Solving) (r : Reply) → IsAt b Showing t news known v → Allows (state_of t known v n) call.Model r → Advances b Resting t news (n + 1) (state_of t known v n) call.Model r
  unfolding after
  model_advances (ended m (Sat values)) r at a = elim (replied (state_of t known (ended m (Sat values)) n) call.Model r (model_passes t known n m values) a) [
    | inr none ↦ inl none
    | inl is ↦ inr (subst (λ (x : Reply). (is_proper call.Model x ≡ true) × Mirror b Resting t (news_on news x) (n + 1) (after (state_of t known (ended m (Sat values)) n) call.Model x)) (sym is)
        (refl, record { known = known; solve = ended m (Sat values); serial = n; is = refl; at = tt; few = omega arith }))
  ]
  model_advances (ended m (Unsat w)) r at a = absurd at
  model_advances (ended m (Unknown c)) r at a = absurd at
  model_advances no_solve r at a = absurd at
  model_advances (running q) r at a = absurd at
  model_advances (paused q) r at a = absurd at

at_state : (b : ℕ) (stage : Stage) (steps : List BatchStep) (t : Told) (news known : List (List ℕ)) (v : Solving) (n : ℕ) (c : Call) (r : Reply) → IsAt b stage t news known v → Allowed b t steps → n < 2 ^ 56 → next_call b stage steps ≡ Some c → Allows (state_of t known v n) c r → Advances b (next_stage stage steps r) t news (n + 1) (state_of t known v n) c r
unfolding Allowed
at_state b Resting [] t news known v n c r at allowed few next a = absurd cc
at_state b Resting (Vars k ∷ steps) t news known v n c r at allowed few next a =
    let same : call.Vars k ≡ c = cc in
    subst (λ (x : Call). Allows (state_of t known v n) x r → Advances b Resting t news (n + 1) (state_of t known v n) x r) same (vars_advance b t news known v n k r (quiet b t news known v at) allowed.0) a
at_state b Resting (Clause ls ∷ steps) t news known v n c r at allowed few next a =
    let same : call.Add ls ≡ c = cc in
    subst (λ (x : Call). Allows (state_of t known v n) x r → Advances b Resting t news (n + 1) (state_of t known v n) x r) same (add_advances b t news known v n ls r (quiet b t news known v at) allowed.0) a
at_state b Resting (Assume ls ∷ steps) t news known v n c r at allowed few next a =
    let same : call.Assume ls ≡ c = cc in
    subst (λ (x : Call). Allows (state_of t known v n) x r → Advances b Resting t news (n + 1) (state_of t known v n) x r) same (assume_advances b t news known v n ls r (quiet b t news known v at) allowed.0) a
at_state b Resting (Solve ∷ steps) t news known v n c r at allowed few next a =
    let same : call.Solve b ≡ c = cc in
    subst (λ (x : Call). Allows (state_of t known v n) x r → Advances b Going t news (n + 1) (state_of t known v n) x r) same (solve_advances b t news known v n r (quiet b t news known v at) few) a
at_state b Going steps t news known v n c r at allowed few next a =
    let same : call.Wait ≡ c = cc in
    subst (λ (x : Call). Allows (state_of t known v n) x r → Advances b (after_wait r) t news (n + 1) (state_of t known v n) x r) same (wait_advances b t news known n v r at) a
at_state b Showing steps t news known v n c r at allowed few next a =
    let same : call.Model ≡ c = cc in
    subst (λ (x : Call). Allows (state_of t known v n) x r → Advances b Resting t news (n + 1) (state_of t known v n) x r) same (model_advances b t news known n v r at) a

more_mirrors : (b : ℕ) (stage : Stage) (t : Told) (news : List (List ℕ)) (low high : ℕ) (s : State) → low ≤ high → Mirror b stage t news low s → Mirror b stage t news high s
more_mirrors b stage t news low high s le m = record { known = m.known; solve = m.solve; serial = m.serial; is = m.is; at = m.at; few = omega (arith, m.few) }

-- the call that comes next
pub call_advances : (b : ℕ) (stage : Stage) (steps : List BatchStep) (t : Told) (news : List (List ℕ)) (most : ℕ) (s : State) (c : Call) (r : Reply) → Mirror b stage t news most s → Allowed b t steps → most < 2 ^ 56 → next_call b stage steps ≡ Some c → Allows s c r → Advances b (next_stage stage steps r) t news (most + 1) s c r
call_advances b stage steps t news most s c r m allowed few next a =
    let lt : m.serial < 2 ^ 56 = omega (arith, m.few) in
    let P : State → Type 0 = λ x. Allows x c r → Advances b (next_stage stage steps r) t news (m.serial + 1) x c r in
    elim (subst P (sym m.is) (at_state b stage steps t news m.known m.solve m.serial c r m.at allowed lt next) a) [
      | inl none ↦ inl none
      | inr x ↦ inr (x.0, more_mirrors b (next_stage stage steps r) (told_on t c) (news_on news r) (m.serial + 1) (most + 1) (after s c r) (omega (arith, m.few)) x.1)
    ]
