-- A load keeps the machine's invariant.
use Rattle.std.proofs.Common.{◌≡◌, ℕ, ◌/◌, ◌<◌, ◌≤◌, true, false, List, [], ◌∷◌, get_or, refl, arith, ◌⊎◌, inl, inr}
use Rattle.std.specs.List.{All, list_any}
use Rattle.std.proofs.lemmas.Bool.{cases_Bool, cases_lt, both_ways, or_parts, ltb-false}
use Rattle.std.proofs.lemmas.List.Elements.{All-head, All-tail, All-weaker}
use Rattle.std.proofs.lemmas.List.Folds.{list_any_at}
use Rattle.gi_lit.specs.Problem.{Problem, grown, top, with_clause, with_clauses, IsWellFormed}
use Rattle.gi_lit.proofs.Growing.{Grows, IsUsable, grows_grown, IsWellFormed-grown, grows_clause, IsWellFormed-clause, usable_grown}
use Rattle.gi_model.specs.Loads.{loaded, file_vars, file_clauses, with_file}
use Rattle.gi_model.specs.State.{State}
use Rattle.gi_model.specs.Refusals.{some_unusable, is_past}
use Rattle.gi_model.specs.Effects.{with_problem}
use Rattle.gi_model.specs.Kept.{IsProblemWithin, IsKept}
use Rattle.gi_model.specs.declared.calls.Call.TheVariants as call
use Rattle.gi_model.proofs.Accepting.{IsAccepted}
use Rattle.gi_model.proofs.Keeping.{all_usable, with_problem_kept}

grows_same : (p : Problem) → Grows p p
grows_same p = record { vars = λ v h. h; live = λ v h. h; active = λ g h. h; full = λ c h. h; in_force = λ given c h. h }

grows_more : (p q r : Problem) → Grows p q → Grows q r → Grows p r
grows_more p q r a b = record {
  vars = λ v h. b.vars v (a.vars v h);
  live = λ v h. b.live v (a.live v h);
  active = λ g h. b.active g (a.active g h);
  full = λ c h. b.full c (a.full c h);
  in_force = λ given c h. b.in_force given c (a.in_force given c h);
}

-- clauses of usable literals
abbrev pub AreUsable : Problem → List (List ℕ) → Type 0
AreUsable p cs = All (λ c. All (IsUsable p) c) cs

-- a usable literal is so with more variables
usable_more : (n : ℕ) (p : Problem) (l : ℕ) → IsWellFormed p → IsUsable p l → IsUsable (grown n p) l
usable_more n p l h u = elim (cases_lt n (l / 2)) [
  | inl lt ↦ go u lt
  | inr le ↦ inl (usable_grown n p l h u le)
]
  where
    go : IsUsable p l → n < l / 2 → IsUsable (grown n p) l
    go (inl a) lt = inl ((grows_grown n p).vars (l / 2) a)
    go (inr b) lt = inr (omega arith)

pub clauses_usable_more : (n : ℕ) (p : Problem) (cs : List (List ℕ)) → IsWellFormed p → AreUsable p cs → AreUsable (grown n p) cs
clauses_usable_more n p cs h u = All-weaker (λ c. All (IsUsable p) c) (λ c. All (IsUsable (grown n p)) c) (λ c a. All-weaker (IsUsable p) (IsUsable (grown n p)) (λ l. usable_more n p l h) c a) cs u

-- clauses more, one after another
pub clauses_added : (cs : List (List ℕ)) (p : Problem) → IsWellFormed p → AreUsable p cs → Grows p (with_clauses cs p) × IsWellFormed (with_clauses cs p)
clauses_added [] p h u = (grows_same p, h)
clauses_added (c ∷ cs) p h u =
    let w = IsWellFormed-clause c p (All-head (λ c. All (IsUsable p) c) c cs u) h in
    let r = clauses_added cs (with_clause c p) w (clauses_usable_more (top c) p cs h (All-tail (λ c. All (IsUsable p) c) c cs u)) in
    (grows_more p (with_clause c p) (with_clauses cs (with_clause c p)) (grows_clause c p) r.0, r.1)

pub clauses_usable : (p : Problem) (cs : List (List ℕ)) → list_any (some_unusable p) cs ≡ false → AreUsable p cs
clauses_usable p cs e k d lt = elim (cases_Bool (some_unusable p (get_or cs k d))) [
  | inl t ↦ absurd (both_ways _ e (list_any_at (some_unusable p) cs k d lt t))
  | inr f ↦ all_usable p (get_or cs k d) f
]

pub past_not : (p : Problem) → is_past p ≡ false → IsProblemWithin p
past_not p e =
    let a = or_parts _ _ e in
    let b = or_parts _ _ a.0 in
    record { vars = ltb-false _ _ b.0; clauses = ltb-false _ _ b.1; lits = ltb-false _ _ a.1 }

pub load_kept : (s : State) (bytes : List ℕ) → IsAccepted s (call.LoadCnf bytes) → IsKept s → IsKept (with_problem (with_file (loaded bytes) s.problem) s)
load_kept s bytes a k =
    let file = loaded bytes in
    let p = grown (file_vars file) s.problem in
    let u = clauses_usable_more (file_vars file) s.problem (file_clauses file) k.clauses (clauses_usable s.problem (file_clauses file) a.good_lits) in
    let r = clauses_added (file_clauses file) p (IsWellFormed-grown (file_vars file) s.problem k.clauses) u in
    with_problem_kept s (with_file file s.problem) (grows_more s.problem p (with_file file s.problem) (grows_grown (file_vars file) s.problem) r.0) r.1 (past_not (with_file file s.problem) a.within) k
