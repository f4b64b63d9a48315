-- What tests and questions for reasons answer, and what tests leave.
use Rattle.std.specs.Prelude.{◌≡◌, ℕ, ◌+◌, ◌-◌, ◌≤◌, ◌⊎◌, Option, None, IsSome, length, List, [], ◌∷◌, ◌++◌, Contains}
use Rattle.gi_lit.specs.Problem.{Problem}
use Rattle.gi_model.specs.State.{Scope, listed, failing, scope_listed}
use Rattle.gi_model.specs.Tests.{AnswersTest, Explains}
use Rattle.gi_model.specs.declared.replies.Reply.TheVariants as reply
use Rattle.gi_scopes.specs.Open.{Open, asked, AreReasoned}
use Rattle.gi_scopes.specs.Built.{kept_lits}
use Rattle.gi_scopes.specs.declared.kept.Kept.{Kept}
use Rattle.gi_scopes.specs.declared.answers.Tested.{Tested}
use Rattle.gi_scopes.specs.declared.answers.Tested.TheVariants as tested
use Rattle.gi_scopes.specs.declared.answers.Reasoned.{Reasoned}
use Rattle.gi_scopes.specs.declared.answers.Reasoned.TheVariants as reasoned

-- the answer to a test with these assumptions over these scopes; want of memory is free
abbrev pub TellsTest : Problem → List Scope → List ℕ → Tested → Type 0
TellsTest p scopes assumed (tested.Implied ls) =
    AnswersTest (asked p scopes assumed) (reply.Implied ls)
TellsTest p scopes assumed (tested.Failed w) = AnswersTest (asked p scopes assumed) (reply.Failed w)
TellsTest p scopes assumed tested.NoMemory = Unit {0}

-- a test opens a scope with its assumptions and with what it found; want of memory opens none
abbrev pub Opens : Open → List ℕ → Tested → Open → Type 0
Opens old assumed (tested.Implied ls) new = new.scopes
    ≡ old.scopes ++ record { assumed = assumed; found = listed ls } ∷ []
Opens old assumed (tested.Failed w) new = new.scopes
    ≡ old.scopes ++ record { assumed = assumed; found = failing w } ∷ []
Opens old assumed tested.NoMemory new = (new.scopes ≡ old.scopes) × (new.reasons ≡ old.reasons)

-- where literals are implied a trail is kept, and else none
abbrev pub KeepsTrail : Tested → Option Kept → Type 0
KeepsTrail (tested.Implied ls) kept = IsSome kept
KeepsTrail answer kept = kept ≡ None

-- a step for each literal by which the trail grew, where one is kept
abbrev pub Ticks : Tested → Open → Open → ℕ → ℕ → Type 0
Ticks (tested.Implied ls) old new before now = now
    ≡ before + (length (kept_lits new.kept) - length (kept_lits old.kept))
Ticks answer old new before now = Unit {0}

-- where a trail was kept or no scope was open, and what scopes list has its reasons, few: no more
-- than literals are listed, are assumed, and guards are active
abbrev pub TicksFew : Problem → Open → List ℕ → Tested → ℕ → ℕ → Type 0
TicksFew p old assumed (tested.Implied ls) before now = IsSome old.kept ⊎ (old.scopes ≡ [])
    → AreReasoned p old → now ≤ before + (length ls + length assumed + length p.active)
TicksFew p old assumed answer before now = Unit {0}

-- the reasons explain the literal; it isn't implied exactly where no open scope lists it
abbrev pub TellsReasons : Open → ℕ → Reasoned → Type 0
TellsReasons o m (reasoned.Reasons rs) = Contains (scope_listed o.scopes) m
    × ((p : Problem) → AreReasoned p o → Explains (asked p o.scopes []) m rs)
TellsReasons o m reasoned.NotImplied = ¬ Contains (scope_listed o.scopes) m
TellsReasons o m reasoned.NoMemory = Contains (scope_listed o.scopes) m
