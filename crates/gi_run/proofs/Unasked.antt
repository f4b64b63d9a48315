-- Calls that are no stops ask nothing.
use Rattle.std.proofs.Common.{◌≡◌, ◌≢◌, ℕ, ◌+◌, ◌==◌, ◌&&◌, Bool, true, false, not, cond, Option, List, [], ◌∷◌, ◌++◌, map, append-nil, ◌⊎◌, inl, inr, refl, sym, ap, subst, ◌∙◌}
use Rattle.std.specs.List.{flat_map, range_with_len}
use Rattle.gi_model.specs.History.{Entry}
use Rattle.gi_model.specs.declared.calls.Call.{Call}
use Rattle.gi_model.specs.declared.calls.Call.TheVariants as call
use Rattle.gi_model.specs.declared.replies.Reply.{Reply}
use Rattle.gi_model.specs.declared.replies.Reply.TheVariants as reply
use Rattle.gi_model.specs.declared.replies.Status.TheVariants as status
use Rattle.gi_net.specs.Entries.{is_work, own_of}
use Rattle.gi_batch.specs.Doing.{AsksModel, Does, DoesStep, IsCalled, IsSolved}
use Rattle.gi_batch.specs.Steps.{BatchStep}
use Rattle.gi_batch.specs.Steps as step
use Rattle.gi_drill.specs.Instance.{clauses}
use Rattle.gi_drill.specs.Script.{ending, round, rounds, script, variable_of}
use Rattle.gi_host.specs.Visits.{Asking, after_entries, after_entry, after_own, asks_of}
use Rattle.gi_run.proofs.Having.{Has, has_split}

abbrev pub IsStop : Entry → Type 0
IsStop e = e.call ≡ call.Stop

asks_none : (c : Call) (s : Option ℕ) (k : ℕ) → c ≢ call.Stop → asks_of c s k ≡ []
asks_none call.Stop s k n = absurd (n refl)
asks_none c s k n = refl

asked_once : (n : ℕ) (e : Entry) (es : List Entry) (a : Asking) → ¬ Has IsStop (own_of n (e ∷ es)) → (after_entry n e a).asked ≡ a.asked
asked_once n e es a never = go (e.by == n) refl
  where
    there : (e.by == n) ≡ true → e.call ≡ call.Stop → Has IsStop (own_of n (e ∷ es))
    there is stop =
        let both : ((e.by == n) && not (is_work e.call)) ≡ true = (λ i. is i && not (is_work (stop i))) in
        subst (λ (b : Bool). Has IsStop (cond b (e ∷ own_of n es) (own_of n es))) (sym both) (inl stop)

    go : (b : Bool) → (e.by == n) ≡ b → (cond b (after_own e a) (record a { here = a.here + 1 })).asked ≡ a.asked
    go false is = refl
    go true is = ap (λ xs. a.asked ++ xs) (asks_none e.call a.started a.seen (λ stop. never (there is stop))) ∙ append-nil a.asked

later : (n : ℕ) (e : Entry) (es : List Entry) → Has IsStop (own_of n es) → Has IsStop (own_of n (e ∷ es))
later n e es has = go ((e.by == n) && not (is_work e.call))
  where
    go : (b : Bool) → Has IsStop (cond b (e ∷ own_of n es) (own_of n es))
    go true = inr has
    go false = has

pub unasked : (n : ℕ) (es : List Entry) (a : Asking) → ¬ Has IsStop (own_of n es) → (after_entries n es a).asked ≡ a.asked
unfolding after_entries
unasked n [] a never = refl
unasked n (e ∷ es) a never = unasked n es (after_entry n e a) (λ has. never (later n e es has)) ∙ asked_once n e es a never

-- the calls of a file
one_call : (c : Call) (cs : List Entry) → IsCalled c cs → c ≢ call.Stop → ¬ Has IsStop cs
one_call c cs h n has = elim (subst (Has IsStop) h.only has) [ inl stop ↦ n (sym h.is ∙ stop) | inr none ↦ none ]

model_call : (r : Reply) (cs : List Entry) → AsksModel r cs → ¬ Has IsStop cs
model_call (reply.Status serial status.Sat) cs h has = one_call call.Model cs h (λ e. cc) has
model_call other cs h has = subst (Has IsStop) h has

solve_calls : (budget : ℕ) (cs : List Entry) → IsSolved budget cs → ¬ Has IsStop cs
solve_calls budget cs h has = elim (subst (Has IsStop) h.are has) [
  | inl stop ↦ (let no : call.Solve budget ≡ call.Stop = sym h.starts ∙ stop in absurd cc)
  | inr (inl stop) ↦ (let no : call.Wait ≡ call.Stop = sym h.waits ∙ stop in absurd cc)
  | inr (inr shown) ↦ model_call h.wait.reply h.shown h.shows shown
]

step_calls : (budget : ℕ) (s : BatchStep) (cs : List Entry) → DoesStep budget s cs → ¬ Has IsStop cs
step_calls budget (step.Vars n) cs h = one_call (call.Vars n) cs h (λ e. cc)
step_calls budget (step.Clause c) cs h = one_call (call.Add c) cs h (λ e. cc)
step_calls budget (step.Assume lits) cs h = one_call (call.Assume lits) cs h (λ e. cc)
step_calls budget step.Solve cs h = solve_calls budget cs h

pub file_calls : (budget : ℕ) (steps : List BatchStep) (cs : List Entry) → Does budget steps cs → ¬ Has IsStop cs
file_calls budget [] cs h has = subst (Has IsStop) h has
file_calls budget (s ∷ ss) cs h has = elim (has_split IsStop h.0 h.1 (subst (Has IsStop) h.2 has)) [
  | inl first ↦ step_calls budget s h.0 h.3 first
  | inr rest ↦ file_calls budget ss h.1 h.4 rest
]

-- the calls of a script
abbrev Stops : Call → Type 0
Stops c = c ≡ call.Stop

adds : (xs : List (List ℕ)) → ¬ Has Stops (map call.Add xs)
adds [] has = has
adds (x ∷ xs) (inl stop) = absurd cc
adds (x ∷ xs) (inr rest) = adds xs rest

one_round : (v : ℕ) → ¬ Has Stops (round v)
one_round v (inl stop) = absurd cc
one_round v (inr (inl stop)) = absurd cc
one_round v (inr (inr (inl stop))) = absurd cc
one_round v (inr (inr (inr (inl stop)))) = absurd cc
one_round v (inr (inr (inr (inr (inl stop))))) = absurd cc
one_round v (inr (inr (inr (inr (inr (inl stop)))))) = absurd cc
one_round v (inr (inr (inr (inr (inr (inr (inl stop))))))) = absurd cc
one_round v (inr (inr (inr (inr (inr (inr (inr none))))))) = none

all_rounds : (vs : List ℕ) → ¬ Has Stops (flat_map round vs)
all_rounds [] has = has
all_rounds (v ∷ vs) has = elim (has_split Stops (round v) (flat_map round vs) has) [ inl first ↦ one_round v first | inr rest ↦ all_rounds vs rest ]

at_end : ¬ Has Stops ending
at_end (inl stop) = absurd cc
at_end (inr (inl stop)) = absurd cc
at_end (inr (inr (inl stop))) = absurd cc
at_end (inr (inr (inr (inl stop)))) = absurd cc
at_end (inr (inr (inr (inr none)))) = none

behind_rounds : (n : ℕ) → ¬ Has Stops (rounds n ++ ending)
unfolding rounds
behind_rounds n has = elim (has_split Stops (flat_map round (map variable_of (range_with_len 0 n))) ending has) [
  | inl first ↦ all_rounds (map variable_of (range_with_len 0 n)) first
  | inr rest ↦ at_end rest
]

behind_adds : (n : ℕ) → ¬ Has Stops (call.Solve 4294967295 ∷ call.Wait ∷ (rounds n ++ ending))
behind_adds n (inl stop) = absurd cc
behind_adds n (inr (inl stop)) = absurd cc
behind_adds n (inr (inr rest)) = behind_rounds n rest

pub script_calls : (n : ℕ) → ¬ Has Stops (script n)
unfolding script
script_calls n (inl stop) = absurd cc
script_calls n (inr has) = elim (has_split Stops (map call.Add (clauses n)) (call.Solve 4294967295 ∷ call.Wait ∷ (rounds n ++ ending)) has) [
  | inl first ↦ adds (clauses n) first
  | inr rest ↦ behind_adds n rest
]

pub called_stop : (es : List Entry) → Has IsStop es → Has Stops (map (λ (e : Entry). e.call) es)
called_stop [] has = has
called_stop (e ∷ es) (inl stop) = inl stop
called_stop (e ∷ es) (inr rest) = inr (called_stop es rest)
