-- What a slice of work may answer.
use Rattle.std.specs.Prelude.{◌≡◌, ℕ, ◌+◌, ◌*◌, ◌<◌, ◌≤◌, Option, Some, None, List, ◌++◌, length}
use Rattle.gi_lit.specs.Ends.{EndsNonempty, IsModel, IsFailing}
use Rattle.gi_lit.specs.Learnt.{AreFresh}
use Rattle.gi_model.specs.Limits.{most_news}
use Rattle.gi_model.specs.Luby.{IsLuby}
use Rattle.gi_model.specs.State.{State, Run}
use Rattle.gi_model.specs.declared.replies.Reply.{Reply}
use Rattle.gi_model.specs.declared.replies.Reply.TheVariants as reply
use Rattle.gi_model.specs.declared.replies.Now.{Now}
use Rattle.gi_model.specs.declared.replies.Now.TheVariants.{Live, Ended}
use Rattle.gi_model.specs.declared.replies.Verdict.TheVariants.{Sat, Unsat, Unknown}
use Rattle.gi_model.specs.declared.replies.Cause.TheVariants.{Stopped, Budget}

-- the budget is spent, and the last clause isn't empty
abbrev pub IsSpent : Run → List (List ℕ) → Type 0
IsSpent r news = (r.spent + length news ≡ r.budget) × EndsNonempty news

-- how a slice may leave its solve: stopped exactly where the mark is at its serial, else out of
-- budget exactly where it is spent
abbrev pub EndsWork : State → Run → ℕ → List (List ℕ) → Now → Type 0
EndsWork s r mark news (Ended (Unknown (Stopped k))) = (r.serial ≤ mark) × (k ≡ mark)
EndsWork s r mark news (Ended (Unknown (Budget b))) = (mark < r.serial) × IsSpent r news
    × (b ≡ r.budget)
EndsWork s r mark news (Ended (Sat values)) = (mark < r.serial) × ¬ IsSpent r news
    × IsModel s.problem r.assumed values
EndsWork s r mark news (Ended (Unsat w)) = (mark < r.serial) × ¬ IsSpent r news
    × IsFailing s.problem r.assumed (s.known ++ news) w
EndsWork s r mark news Live = (mark < r.serial) × ¬ IsSpent r news × EndsNonempty news

-- no more clauses than 32 times the Luby number at that place, from 1
abbrev pub IsPaced : ℕ → List (List ℕ) → Type 0
IsPaced place news = (n : ℕ) × IsLuby place n × (length news ≤ 32 * n)

-- a slice: few new clauses, by the place of the slice among those of its solve, each fresh and
-- derived, within what is left of the budget, and one of the five ends
pub record Works (s : State) (r : Run) (mark : ℕ) (news : List (List ℕ)) (now : Now) : Type 0 where
  pub few : length news ≤ most_news
  pub paced : IsPaced (r.slices + 1) news
  pub within : r.spent + length news ≤ r.budget
  pub fresh : AreFresh s.problem s.known news
  pub ends : EndsWork s r mark news now

-- the answer to work: a slice of the solve, or Idle exactly where there is none to work on
abbrev pub AnswersWork : State → Option Run → ℕ → Reply → Type 0
AnswersWork s (Some r) mark (reply.Worked news now) = Works s r mark news now
AnswersWork s (Some r) mark answer = ⊥
AnswersWork s None mark answer = answer ≡ reply.Idle
