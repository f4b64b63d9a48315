-- What a slice of work may answer.
use Rattle.std.proofs.Common.{◌≡◌, ℕ, ◌+◌, ◌*◌, ◌<◌, ◌≤◌, ◌↔◌, Bool, true, false, not, ◌&&◌, IsTrue, Result, IfOk, List, ◌++◌, length, refl, sym, ap, ◌∙◌, subst, arith}
use Rattle.std.specs.List.{list_all}
use Rattle.gi_lit.specs.Lists.{IsSublist}
use Rattle.gi_lit.specs.Problem.{in_force, full}
use Rattle.gi_lit.specs.Truth.{true_in, clause_true, Satisfies, MakesTrue, Fail}
use Rattle.gi_lit.specs.Closure.{Conflicts}
use Rattle.gi_model.specs.Luby.{IsLuby}
use Rattle.gi_model.specs.State.{State, Run}
use Rattle.gi_lit.specs.Ends.{EndsNonempty, IsModel, IsFailing}
use Rattle.gi_model.specs.Work.{IsPaced, IsSpent, EndsWork}
use Rattle.gi_model.specs.declared.replies.Now.{Now}
use Rattle.gi_model.specs.declared.replies.Now.TheVariants.{Live, Ended}
use Rattle.gi_model.specs.declared.replies.Verdict.{Verdict}
use Rattle.gi_model.specs.declared.replies.Verdict.TheVariants.{Sat, Unsat, Unknown}
use Rattle.gi_model.specs.declared.replies.Cause.TheVariants.{Stopped, Budget}
use Rattle.gi_model.proofs.Folding.{luby_same}
use Rattle.gi_reference.specs.Ends.{EndsWith}
use Rattle.gi_reference.proofs.Deciding.{like, ok_like}
use Rattle.gi_reference.proofs.Trying.{models_decide}

-- a model, by its count and its truth
pub model_decides : (s : State) (assumed : List ℕ) (values : List Bool) (clauses : List (List ℕ)) (r : Bool) → length values ≡ s.problem.vars → clauses ≡ in_force s.problem assumed → r ≡ (list_all (clause_true values) clauses && list_all (true_in values) assumed) → IsTrue r ↔ IsModel s.problem assumed values
model_decides s assumed values clauses r n e d =
    let m = models_decide clauses assumed values r d in
    like r m (λ h. record { count = n; clauses = subst (Satisfies values) e h.0; lits = h.1 }) (λ h. (subst (Satisfies values) (sym e) h.clauses, h.lits))

-- a failing set
module _ (s : State) (assumed : List ℕ) (known : List (List ℕ)) (w : List ℕ) where
  pub failing_like : {E : Type 0} (r : Result Bool E) (clauses all : List (List ℕ)) → clauses ≡ in_force s.problem w → all ≡ full s.problem ++ known → IsSublist w assumed → Fail clauses w → IfOk r (λ b. IsTrue b ↔ Conflicts all w) → IfOk r (λ b. IsTrue b ↔ IsFailing s.problem assumed known w)
  failing_like r clauses all ec ea sub f d = ok_like r (λ c. record { some = sub; fails = subst (λ cs. Fail cs w) ec f; derived = subst (λ cs. Conflicts cs w) ea c }) (λ h. subst (λ cs. Conflicts cs w) (sym ea) h.derived) d

  pub not_some : ¬ IsSublist w assumed → ¬ IsFailing s.problem assumed known w
  not_some n h = n h.some

  pub not_failing : (clauses : List (List ℕ)) → clauses ≡ in_force s.problem w → ¬ Fail clauses w → ¬ IsFailing s.problem assumed known w
  not_failing clauses e n h = n (subst (λ cs. Fail cs w) (sym e) h.fails)

module _ (s : State) (r : Run) (mark : ℕ) (news : List (List ℕ)) where
  -- where a stop was asked for, the slice ends stopped
  pub stopped_decides : (now : Now) (b : Bool) → r.serial ≤ mark → IsTrue b ↔ (now ≡ Ended (Unknown (Stopped mark))) → IsTrue b ↔ EndsWork s r mark news now
  stopped_decides now b le d = like b d to (from now)
    where
      to : now ≡ Ended (Unknown (Stopped mark)) → EndsWork s r mark news now
      to e = subst (EndsWork s r mark news) (sym e) (le, refl)

      from : (n : Now) → EndsWork s r mark news n → n ≡ Ended (Unknown (Stopped mark))
      from (Ended (Unknown (Stopped k))) h = ap (λ k. Ended (Unknown (Stopped k))) h.1
      from (Ended (Unknown (Budget k))) h = let lt = h.0 in absurd (omega arith)
      from (Ended (Sat values)) h = let lt = h.0 in absurd (omega arith)
      from (Ended (Unsat w)) h = let lt = h.0 in absurd (omega arith)
      from Live h = let lt = h.0 in absurd (omega arith)

  -- else, where the budget is spent, it ends for that
  pub spent_decides : (now : Now) (b : Bool) → mark < r.serial → IsSpent r news → IsTrue b ↔ (now ≡ Ended (Unknown (Budget r.budget))) → IsTrue b ↔ EndsWork s r mark news now
  spent_decides now b lt sp d = like b d to (from now)
    where
      to : now ≡ Ended (Unknown (Budget r.budget)) → EndsWork s r mark news now
      to e = subst (EndsWork s r mark news) (sym e) (lt, sp, refl)

      from : (n : Now) → EndsWork s r mark news n → n ≡ Ended (Unknown (Budget r.budget))
      from (Ended (Unknown (Stopped k))) h = let le = h.0 in absurd (omega arith)
      from (Ended (Unknown (Budget k))) h = ap (λ k. Ended (Unknown (Budget k))) h.2
      from (Ended (Sat values)) h = absurd (h.1 sp)
      from (Ended (Unsat w)) h = absurd (h.1 sp)
      from Live h = absurd (h.1 sp)

  -- else it goes on, or ends with a model or a failing set
  pub live_decides : (b : Bool) → mark < r.serial → ¬ IsSpent r news → IsTrue b ↔ EndsNonempty news → IsTrue b ↔ EndsWork s r mark news Live
  live_decides b lt n d = like b d (λ e. (lt, n, e)) (λ h. h.2)

  pub ended_like : {E : Type 0} (o : Result Bool E) (v : Verdict) → mark < r.serial → ¬ IsSpent r news → IfOk o (λ b. IsTrue b ↔ EndsWith s r news v) → IfOk o (λ b. IsTrue b ↔ EndsWork s r mark news (Ended v))
  ended_like o (Sat values) lt n d = ok_like o (λ m. (lt, n, m)) (λ h. h.2) d
  ended_like o (Unsat w) lt n d = ok_like o (λ m. (lt, n, m)) (λ h. h.2) d
  ended_like o (Unknown (Stopped k)) lt n d = ok_like o (λ m. absurd m) (λ h. let le = h.0 in absurd (omega arith)) d
  ended_like o (Unknown (Budget k)) lt n d = ok_like o (λ m. absurd m) (λ h. absurd (n h.1)) d

-- no more than the Luby number at the place allows
pub paced_decides : (place n : ℕ) (news : List (List ℕ)) (b : Bool) → IsLuby place n → IsTrue b ↔ (length news ≤ 32 * n) → IsTrue b ↔ IsPaced place news
paced_decides place n news b l d = like b d (λ h. (n, l, h)) (λ h. subst (λ (x : ℕ). length news ≤ 32 * x) (luby_same place h.0 n h.1 l) h.2)
