-- Laws over what contracts see.
use Rattle.std.specs.Prelude.{List, ℕ, take, Contains}
use Rattle.gi_lit.specs.Problem.{Problem, full}
use Rattle.gi_store.specs.StoreView.{IsWithin}
use Rattle.gi_model.specs.State.{Scope, scope_assumed}
use Rattle.gi_scopes.specs.Open.{Open, AreReasoned, StillFail}
use Rattle.gi_scopes.specs.Answers.{TellsTest, Opens}
use Rattle.gi_scopes.specs.declared.answers.Tested.{Tested}

-- where each clause of one problem is one of another, reasons by the one are reasons by the other
abbrev pub MoreClausesKeepReasons : Type 0
MoreClausesKeepReasons = (p q : Problem) (o : Open)
    → ((c : List ℕ) → Contains (full p) c → Contains (full q) c) → AreReasoned p o → AreReasoned q o

-- after a test the conditions of the next one hold
abbrev pub TestsStayReady : Type 0
TestsStayReady = (n : ℕ) (p : Problem) (old new : Open) (assumed : List ℕ) (answer : Tested)
    → TellsTest p old.scopes assumed answer → Opens old assumed answer new → IsWithin n assumed
    → IsWithin n (scope_assumed old.scopes) → StillFail p old.scopes
    → IsWithin n (scope_assumed new.scopes) × StillFail p new.scopes

-- and they hold after scopes are closed
abbrev pub UntestsStayReady : Type 0
UntestsStayReady = (n : ℕ) (p : Problem) (scopes : List Scope) (left : ℕ)
    → IsWithin n (scope_assumed scopes) → StillFail p scopes
    → IsWithin n (scope_assumed (take left scopes)) × StillFail p (take left scopes)
