-- What a test and the question for reasons may answer.
use Rattle.std.specs.Prelude.{◌≡◌, ◌≢◌, ℕ, ◌/◌, ◌<◌, ◌⊎◌, ◌↔◌, if◌then◌else◌, not, List, [], ◌∷◌, ◌++◌, length, take, take_while, slice_index, All, Contains, ◌==◌}
use Rattle.gi_lit.specs.Literals.{opposite}
use Rattle.gi_lit.specs.Lists.{IsSublist, IsDistinct}
use Rattle.gi_lit.specs.Truth.{IsConsequence, Fail}
use Rattle.gi_lit.specs.Closure.{Forces, InClosure, Conflicts}
use Rattle.gi_lit.specs.Problem.{Problem, in_force, full, has, IsProblemVar}
use Rattle.gi_model.specs.State.{State, Scope, Found, listed, failing, listed_in, scope_listed, all_assumed}
use Rattle.gi_model.specs.declared.replies.Reply.{Reply}
use Rattle.gi_model.specs.declared.replies.Reply.TheVariants as reply

abbrev pub HasFailed : Found → Type 0
HasFailed (listed ls) = ⊥
HasFailed (failing w) = Unit {0}

-- the test of some scope failed
abbrev pub SomeFailed : List Scope → Type 0
SomeFailed [] = ⊥
SomeFailed (sc ∷ scs) = HasFailed sc.found ⊎ SomeFailed scs

-- a full clause forces the literal, after these
abbrev pub HasCause : Problem → List ℕ → ℕ → Type 0
HasCause p earlier m = (c : List ℕ) × Contains (full p) c × Forces c m earlier

-- with these assumptions, after these listed literals, these may be listed: problem literals, each
-- a consequence and each with a cause
pub record IsListed (p : Problem) (given earlier ls : List ℕ) : Type 0 where
  pub plain : All (λ m. IsProblemVar p (m / 2)) ls
  pub consequences : All (IsConsequence (in_force p given) given) ls
  pub causes : (k : ℕ) → k < length ls
      → HasCause p (given ++ (earlier ++ take k ls)) (slice_index ls k)

-- what a test lists: none twice, none that was there, and all of the unit closure
pub record Implies (p : Problem) (given earlier ls : List ℕ) : Type 0 where
  pub distinct : IsDistinct ls
  pub new : All (λ m. ¬ Contains (given ++ earlier) m) ls
  pub listed : IsListed p given earlier ls
  pub covers : (m : ℕ) → InClosure (in_force p given) given m
      → Contains (given ++ (earlier ++ ls)) m

-- the unit closure conflicts, or a scope's test failed before
abbrev pub MustFail : State → Type 0
MustFail s = Conflicts (in_force s.problem (all_assumed s)) (all_assumed s) ⊎ SomeFailed s.scopes

-- the answer to a test: failing assumptions exactly where it must fail, else what it lists
abbrev pub AnswersTest : State → Reply → Type 0
AnswersTest s (reply.Implied ls) = ¬ MustFail s
    × Implies s.problem (all_assumed s) (scope_listed s.scopes) ls
AnswersTest s (reply.Failed w) = MustFail s × IsSublist w (all_assumed s)
    × Fail (in_force s.problem w) w
AnswersTest s answer = ⊥

-- the assumptions up to the scope that lists m, and what is listed before m
unfoldable pub before : List Scope → ℕ → List ℕ
before [] m = []
before (sc ∷ scs) m = sc.assumed
    ++ (take_while (λ l. not (l == m)) (listed_in sc.found)
    ++ (if has (listed_in sc.found) m then [] else before scs m))

-- reasons for m: the opposites of the other literals of a full clause with m, each once, and each
-- assumed or listed before m
pub record Explains (s : State) (m : ℕ) (rs : List ℕ) : Type 0 where
  pub clause : List ℕ
  pub stands : Contains (full s.problem) clause
  pub holds : Contains clause m
  pub others : (r : ℕ) → Contains rs r ↔ ((l : ℕ) × Contains clause l × (l ≢ m) × (r ≡ opposite l))
  pub distinct : IsDistinct rs
  pub earlier : All (Contains (before s.scopes m)) rs

-- the answer to the question for reasons
abbrev pub AnswersReasons : State → ℕ → Reply → Type 0
AnswersReasons s m (reply.Reasons rs) = Explains s m rs
AnswersReasons s m answer = ⊥
