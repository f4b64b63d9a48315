-- What a test lists, and the reasons that it notes.
use Rattle.std.specs.Prelude.{◌≡◌, ◌≢◌, ℕ, ◌+◌, ◌/◌, ◌<◌, ◌≤◌, ◌⊎◌, ◌↔◌, Bool, false, ◌||◌, Some, List, [], ◌∷◌, ◌++◌, ◌-◌, length, take, slice_index, slice_index_or, All, Contains}
use Rattle.gi_lit.specs.Literals.{opposite}
use Rattle.gi_lit.specs.Lists.{IsDistinct, IsSublist}
use Rattle.gi_lit.specs.Truth.{Fail}
use Rattle.gi_lit.specs.Closure.{Conflicts, IsConsistent}
use Rattle.gi_lit.specs.Problem.{Problem, in_force, has, IsProblemVar}
use Rattle.gi_prop.specs.TrailView.{TrailView}
use Rattle.gi_model.specs.State.{Scope, Found, listed, scope_assumed, scope_listed}
use Rattle.gi_model.specs.Tests.{Implies, AnswersTest}
use Rattle.gi_model.specs.declared.replies.Reply.TheVariants as reply
use Rattle.gi_store.specs.StoreView.{StoreView, problem_of}
use Rattle.gi_scopes.specs.Under.{base_of}
use Rattle.gi_scopes.specs.Built.{CoversLevels, IsBuilt, IsFor}
use Rattle.gi_scopes.specs.declared.kept.Kept.{Kept}
use Rattle.gi_scopes.specs.Open.{asked, IsReasoned}
use Rattle.gi_scopes.specs.declared.outcome.Outcome.{Outcome}
use Rattle.gi_scopes.specs.declared.outcome.Outcome.TheVariants.{Listed, Failing}

-- the opposites of the clause's literals other than m, each once
pub record AreOthers (clause : List ℕ) (m : ℕ) (rs : List ℕ) : Type 0 where
  pub others : (r : ℕ) → Contains rs r ↔ ((l : ℕ) × Contains clause l × (l ≢ m) × (r ≡ opposite l))
  pub distinct : IsDistinct rs

-- the opposite of l is noted, once, unless l is m
pub record Notes (m l : ℕ) (old new : List ℕ) : Type 0 where
  pub kept : All (Contains new) old
  pub there : l ≢ m → Contains new (opposite l)
  pub only : All (λ r. Contains old r ⊎ ((l ≢ m) × (r ≡ opposite l))) new
  pub distinct : IsDistinct old → IsDistinct new

-- just these codes are marked, as far as there is a place for them
pub record AreNoted (codes : List ℕ) (marks : List Bool) : Type 0 where
  pub each : (x : ℕ) → x < length marks → slice_index_or marks x false ≡ has codes x

-- the literal stands at the place, and nowhere else
pub record IsPlaceOf (all : List ℕ) (l place : ℕ) : Type 0 where
  pub below : place < length all
  pub is : slice_index all place ≡ l
  pub only : (k : ℕ) → k < length all → slice_index all k ≡ l → k ≡ place

-- of the literals from a place on, those in the list are marked too
pub record MarksPlaces (all : List ℕ) (from : ℕ) (lits : List ℕ) (old new : List Bool) : Type
    0 where
  pub count : length new ≡ length old
  pub each : (k : ℕ) → k < length old
      → slice_index_or new k false
      ≡ (has lits (slice_index all (from + k)) || slice_index_or old k false)

-- of the literals from a place on, just those in the list are marked
pub record ArePlaces (all : List ℕ) (from : ℕ) (lits : List ℕ) (marks : List Bool) : Type 0 where
  pub count : length all ≡ from + length marks
  pub each : (k : ℕ) → k < length marks
      → slice_index_or marks k false ≡ has lits (slice_index all (from + k))

-- from a place on, those in one list are those in the other
pub record AreBehind (all : List ℕ) (from : ℕ) (lits known : List ℕ) : Type 0 where
  pub each : (k : ℕ) → from ≤ k → k < length all
      → has known (slice_index all k) ≡ has lits (slice_index all k)

-- each literal of a problem variable is known
abbrev pub AreKnown : Problem → List ℕ → List ℕ → Type 0
AreKnown p known lits = All (λ m. IsProblemVar p (m / 2) → Contains known m) lits

-- beside each literal its reasons, each of them given or listed before it
pub record AreListed (p : Problem) (given earlier ls : List ℕ) (rss : List (List ℕ)) : Type 0 where
  pub count : length rss ≡ length ls
  pub each : (k : ℕ) → k < length ls
      → IsReasoned p (slice_index ls k) (slice_index_or rss k [])
      × All (Contains (given ++ (earlier ++ take k ls))) (slice_index_or rss k [])

-- what is listed of these literals
pub record IsListing (p : Problem) (given earlier lits ls : List ℕ) (rss : List (List ℕ)) : Type
    0 where
  pub plain : All (λ m. IsProblemVar p (m / 2)) ls
  pub new : All (λ m. ¬ Contains (given ++ earlier) m) ls
  pub distinct : IsDistinct ls
  pub inside : All (Contains lits) ls
  pub covers : All (λ m. IsProblemVar p (m / 2) → Contains (given ++ (earlier ++ ls)) m) lits
  pub listed : AreListed p given earlier ls rss

-- what unit closure under assumptions finds, where these are listed already
abbrev pub Closes : Problem → List ℕ → List ℕ → Outcome → Type 0
Closes p given earlier (Listed i k) = ¬ Conflicts (in_force p given) given
    × Implies p given earlier i.lits × AreListed p given earlier i.lits i.reasons.items
Closes p given earlier (Failing w) = Conflicts (in_force p given) given × IsSublist w given
    × Fail (in_force p w) w

-- what a test finds, with the reasons of what it lists
abbrev pub Finds : Problem → List Scope → List ℕ → Outcome → Type 0
Finds p scopes assumed (Listed i k) = AnswersTest (asked p scopes assumed) (reply.Implied i.lits)
    × AreListed p (scope_assumed scopes ++ assumed) (scope_listed scopes) i.lits i.reasons.items
Finds p scopes assumed (Failing w) = AnswersTest (asked p scopes assumed) (reply.Failed w)

-- the trail goes on for one scope more, with these assumptions
abbrev pub Builds : StoreView → List Scope → List ℕ → Outcome → Type 0
Builds s scopes assumed (Listed i k) =
    IsFor (Some k) (scopes ++ record { assumed = assumed; found = listed i.lits } ∷ []) (base_of s)
Builds s scopes assumed (Failing w) = Unit {0}

-- where these literals were true, and what is assumed and listed is among them, few more are: no
-- more than are listed, are assumed, and guards are active
abbrev pub GrowsLittle : Problem → List Scope → List ℕ → List ℕ → Outcome → Type 0
GrowsLittle p scopes assumed old (Listed i k) =
    (IsConsistent old → All (Contains old) (scope_assumed scopes ++ scope_listed scopes))
    → length k.trail.lits ≤ length old + (length i.lits + length assumed + length p.active)
GrowsLittle p scopes assumed old (Failing w) = Unit {0}

-- a step for each literal by which the trail grew, from so many on
abbrev pub Counts : ℕ → ℕ → ℕ → Outcome → Type 0
Counts from before now (Listed i k) = now ≡ before + (length k.trail.lits - from)
Counts from before now (Failing w) = Unit {0}

-- the outcome's trail, where it has one
abbrev pub HasTrail : TrailView → Outcome → Type 0
HasTrail t (Listed i k) = k.trail ≡ t
HasTrail t (Failing w) = Unit {0}

-- built for these scopes and one more with these assumptions, whatever it finds
abbrev pub IsClosedFor : StoreView → List Scope → List ℕ → Kept → Type 0
IsClosedFor s scopes assumed k = (f : Found)
    → IsBuilt k (scopes ++ record { assumed = assumed; found = f } ∷ []) (base_of s)
    × (s.vars ≤ k.trail.vars)

-- a test of the last scope's assumptions may look at the trail from this place on: of the problem's
-- literals before it each is known, and behind it those that are known are assumed last; and with
-- what it lists then, the levels above so many are covered
pub record MayStart (s : StoreView) (scopes : List Scope) (assumed : List ℕ) (k : Kept)
    (from unlisted : ℕ) : Type 0 where
  pub within : from ≤ length k.trail.lits
  pub known : AreKnown (problem_of s) ((scope_assumed scopes ++ assumed) ++ scope_listed scopes)
      (take from k.trail.lits)
  pub behind : 0 < from → AreBehind k.trail.lits from assumed
      ((scope_assumed scopes ++ assumed) ++ scope_listed scopes)
  pub covers : (ls : List ℕ) (rss : List (List ℕ))
      → IsListing (problem_of s) (scope_assumed scopes ++ assumed) (scope_listed scopes)
      k.trail.lits ls rss
      → CoversLevels (record k { unlisted = unlisted })
      (scopes ++ record { assumed = assumed; found = listed ls } ∷ []) (base_of s)
