-- What is read of a store, and what it says of its problem.
use Rattle.std.proofs.Common.{◌≡◌, ◌≢◌, ℕ, ◌==◌, Bool, true, false, not, List, [], ◌∷◌, length, get_or, refl, sym, ap, arith, ◌↔◌, inl, inr}
use Rattle.std.specs.List.{All, Contains}
use Rattle.std.proofs.lemmas.Bool.{cases_Bool, both_ways, ne_eqb}
use Rattle.std.proofs.lemmas.List.Folds.{list_any_at}
use Rattle.gi_lit.specs.Problem.{Problem, has, is_usable, top, grown, IsPlain, IsWellFormed}
use Rattle.gi_lit.proofs.Vars.{has-from_Contains, lacks, usable_facts}
use Rattle.gi_lit.proofs.Growing.{IsUsable, usable_grown}
use Rattle.gi_lit.proofs.Tops.{top_bounds}
use Rattle.gi_store.specs.StoreView.{StoreView}
use Rattle.gi_model.specs.Refusals.{some_unusable}
use Rattle.gi_cdcl.specs.Searching.{AreKnown}
use Rattle.gi_core.specs.Content.{content_of}
use Rattle.gi_core.specs.Slicing.{AreUsable}

pub same_has : (b : Bool) (xs : List ℕ) (x : ℕ) → ((b ≡ true) ↔ Contains xs x) → b ≡ has xs x
same_has true xs x h = sym (has-from_Contains xs x (h.0 refl))
same_has false xs x h = sym (lacks xs x (λ c. absurd (let e = h.1 c in cc)))

all_usable : (p : Problem) (c : List ℕ) → some_unusable p c ≡ false → All (IsUsable p) c
all_usable p c e k d lt = elim (cases_Bool (is_usable p (get_or c k d))) [
  | inl t ↦ usable_facts p (get_or c k d) t
  | inr f ↦ absurd (both_ways _ e (list_any_at (λ l. not (is_usable p l)) c k d lt (rw f refl)))
]

-- usable literals are of problem variables once these are there
pub plain_grown : (p : Problem) (c : List ℕ) → IsWellFormed p → some_unusable p c ≡ false → IsPlain (grown (top c) p) c
plain_grown p c w e k d lt = usable_grown (top c) p (get_or c k d) w (all_usable p c e k d lt) (top_bounds c k d lt)

-- whether there is a freed guard
pub some_freed : (b : Bool) (xs : List ℕ) → ((b ≡ true) ↔ (xs ≢ [])) → b ≡ not (length xs == 0)
some_freed true [] h = absurd (h.0 refl refl)
some_freed true (x ∷ xs) h = sym (ap not (ne_eqb (length (x ∷ xs)) 0 (omega arith)))
some_freed false [] h = refl
some_freed false (x ∷ xs) h = absurd (let e = h.1 (λ q. cc) in cc)

-- what is learnt, as a search wants it
pub known_usable : (h : StoreView) → AreUsable (content_of h) → AreKnown h
known_usable h u = record { implied = u.implied; used = u.used }
