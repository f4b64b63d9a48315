-- Each kind of entry keeps the machine's invariant.
use Rattle.std.proofs.Common.{◌≡◌, ◌≢◌, ℕ, zero, suc, ◌+◌, ◌-◌, ◌*◌, ◌/◌, ◌<◌, ◌≤◌, Bool, true, false, not, ◌||◌, nat_lt, nat_le, List, [], ◌∷◌, ◌++◌, length, take, drop, get_or, refl, sym, ap, ◌∙◌, subst, arith, ◌⊎◌, inl, inr, append_assoc, length-append}
use Rattle.std.specs.List.{All, Contains, list_any}
use Rattle.std.proofs.lemmas.Bool.{cases_Bool, cond_both, both_ways, not-false, or_parts, or_cases, and_from, leb-false, ltb-false}
use Rattle.std.proofs.lemmas.List.Elements.{All-append, All-cons, All-nil, All-contains, All-weaker, All-drop, Contains-get_or, Contains-append_left, Contains-append_right}
use Rattle.std.proofs.lemmas.List.Folds.{list_any_at}
use Rattle.gi_lit.specs.Problem.{Problem, in_force, has, is_usable, is_guard_lit, top, grown, with_clause, with_group, with_guard, without_guard, IsProblemVar, IsAssumable, IsLiveVar, IsWellFormed}
use Rattle.gi_lit.specs.Learnt.{IsImplied, AreFresh}
use Rattle.gi_lit.proofs.Vars.{usable_facts, Contains-from_has, lacks_none, var_facts}
use Rattle.gi_lit.proofs.Growing.{Grows, IsUsable, grows_grown, IsWellFormed-grown, grows_clause, IsWellFormed-clause, grows_group, IsWellFormed-group, grows_guard, IsWellFormed-guard, assumable_grows, implied_grows, fails_more, usable_grown, Satisfies-fewer}
use Rattle.gi_lit.proofs.Tops.{top_bounds}
use Rattle.gi_lit.proofs.Distinct.{IsDistinct-apart}
use Rattle.gi_lit.proofs.Dropping as dropping
use Rattle.gi_model.specs.Limits.{most_pending, most_scopes, most_solves, most_untrimmed}
use Rattle.gi_lit.specs.Literals.{max_var}
use Rattle.gi_model.specs.State.{State, Scope, Found, listed, failing, listed_in, Run, Solve, no_solve, running, paused, ended, scope_assumed, scope_listed, all_assumed}
use Rattle.gi_model.specs.Refusals.{some_unusable, is_scoped, paused_assumed, admits}
use Rattle.gi_model.specs.Effects.{edited, with_problem, assuming, opened, untested, started, trimmed, dropped, sliced}
use Rattle.gi_lit.specs.Ends.{IsModel}
use Rattle.gi_model.specs.Work.{Works, EndsWork}
use Rattle.gi_model.specs.Tests.{IsListed}
use Rattle.gi_model.specs.Kept.{run_assumed, IsFoundSound, AreScopesSound, IsRunSound, IsVerdictSound, IsSolveSound, IsProblemWithin, IsKept}
use Rattle.gi_model.specs.declared.calls.Call.TheVariants as call
use Rattle.gi_model.specs.declared.replies.Now.{Now}
use Rattle.gi_model.specs.declared.replies.Now.TheVariants.{Live, Ended}
use Rattle.gi_model.specs.declared.replies.Verdict.TheVariants.{Sat, Unsat, Unknown}
use Rattle.gi_model.proofs.Accepting.{IsAccepted}
use Rattle.gi_model.proofs.Counts.{within_grown, within_clause, within_group, within_guard, within_dropped}

pub append-nil : {X : Type 0} (xs : List X) → xs ++ [] ≡ xs
append-nil [] = refl
append-nil (x ∷ xs) = ap (λ ys. x ∷ ys) (append-nil xs)

All-left : (P : ℕ → Type 0) (xs ys : List ℕ) → All P (xs ++ ys) → All P xs
All-left P xs ys a k d lt = All-contains P (xs ++ ys) (get_or xs k d) a (Contains-append_left xs ys _ (Contains-get_or xs k d lt))

All-right : (P : ℕ → Type 0) (xs ys : List ℕ) → All P (xs ++ ys) → All P ys
All-right P xs ys a k d lt = All-contains P (xs ++ ys) (get_or ys k d) a (Contains-append_right xs ys _ (Contains-get_or ys k d lt))

pub run_edited : (v : Solve) (P : ℕ → Type 0) → All P (run_assumed v) → All P (run_assumed (edited v))
run_edited no_solve P h = h
run_edited (running r) P h = h
run_edited (paused r) P h = h
run_edited (ended n v) P h = h

-- an ended solve is none after an edit, so the problem may change
pub solve_edited : (p q : Problem) (serial : ℕ) (v : Solve) → IsSolveSound p serial v → IsSolveSound q serial (edited v)
solve_edited p q serial no_solve h = tt
solve_edited p q serial (running r) h = h
solve_edited p q serial (paused r) h = h
solve_edited p q serial (ended n v) h = tt

module _ (p q : Problem) (g : Grows p q) where
  listed_grows : (given earlier ls : List ℕ) → IsListed p given earlier ls → IsListed q given earlier ls
  listed_grows given earlier ls h = record {
    plain = All-weaker (λ m. IsProblemVar p (m / 2)) (λ m. IsProblemVar q (m / 2)) (λ m. g.vars (m / 2)) ls h.plain;
    consequences = λ k d lt values s t. h.consequences k d lt values (Satisfies-fewer (in_force p given) (in_force q given) values (g.in_force given) s) t;
    causes = λ k lt. let c = h.causes k lt in (c.0, g.full c.0 c.1, c.2);
  }

  found_grows : (given earlier : List ℕ) (f : Found) → IsFoundSound p given earlier f → IsFoundSound q given earlier f
  found_grows given earlier (listed ls) h = listed_grows given earlier ls h
  found_grows given earlier (failing w) h = (h.0, fails_more p q g w h.1)

  pub scopes_grow : (given earlier : List ℕ) (scs : List Scope) → AreScopesSound p given earlier scs → AreScopesSound q given earlier scs
  scopes_grow given earlier [] h = tt
  scopes_grow given earlier (sc ∷ scs) h = (found_grows (given ++ sc.assumed) earlier sc.found h.0, scopes_grow (given ++ sc.assumed) (earlier ++ listed_in sc.found) scs h.1)

-- a problem that grows
pub with_problem_kept : (s : State) (q : Problem) → Grows s.problem q → IsWellFormed q → IsProblemWithin q → IsKept s → IsKept (with_problem q s)
with_problem_kept s q g h w k = record {
  clauses = h;
  within = w;
  known_live = All-weaker (λ c. All (λ l. IsLiveVar s.problem (l / 2)) c) (λ c. All (λ l. IsLiveVar q (l / 2)) c) (λ c a. All-weaker (λ l. IsLiveVar s.problem (l / 2)) (λ l. IsLiveVar q (l / 2)) (λ l. g.live (l / 2)) c a) s.known k.known_live;
  known_implied = All-weaker (IsImplied s.problem) (IsImplied q) (implied_grows s.problem q g) s.known k.known_implied;
  pending = All-weaker (IsAssumable s.problem) (IsAssumable q) (assumable_grows s.problem q g) s.pending k.pending;
  assumed = All-weaker (IsAssumable s.problem) (IsAssumable q) (assumable_grows s.problem q g) (scope_assumed s.scopes) k.assumed;
  run = run_edited s.solve (IsAssumable q) (All-weaker (IsAssumable s.problem) (IsAssumable q) (assumable_grows s.problem q g) (run_assumed s.solve) k.run);
  scopes = scopes_grow s.problem q g [] [] s.scopes k.scopes;
  solve = solve_edited s.problem q s.serial s.solve k.solve;
  few_pending = k.few_pending;
  few_scopes = k.few_scopes;
  few_solves = k.few_solves;
}

vars_grown : (s : State) (n : ℕ) → n ≤ max_var → IsKept s → IsKept (with_problem (grown n s.problem) s)
vars_grown s n le k = with_problem_kept s (grown n s.problem) (grows_grown n s.problem) (IsWellFormed-grown n s.problem k.clauses) (within_grown n s.problem le k.within) k

pub vars_kept : (s : State) (n : ℕ) → IsAccepted s (call.Vars n) → IsKept s → IsKept (with_problem (grown n s.problem) s)
vars_kept s n a k = vars_grown s n (ltb-false max_var n a.within) k

pub all_usable : (p : Problem) (c : List ℕ) → some_unusable p c ≡ false → All (IsUsable p) c
all_usable p c e k d lt = elim (cases_Bool (is_usable p (get_or c k d))) [
  | inl t ↦ usable_facts p (get_or c k d) t
  | inr f ↦ absurd (both_ways _ e (list_any_at (λ l. not (is_usable p l)) c k d lt (rw f refl)))
]

pub add_kept : (s : State) (c : List ℕ) → IsAccepted s (call.Add c) → IsKept s → IsKept (with_problem (with_clause c s.problem) s)
add_kept s c a k = with_problem_kept s (with_clause c s.problem) (grows_clause c s.problem) (IsWellFormed-clause c s.problem (all_usable s.problem c a.good_lits) k.clauses) (within_clause c s.problem a.within k.within) k

-- guards that are named are active
pub all_active : (p : Problem) (gs : List ℕ) → list_any (λ g. not (has p.active g)) gs ≡ false → All (Contains p.active) gs
all_active p gs e k d lt = elim (cases_Bool (has p.active (get_or gs k d))) [
  | inl t ↦ Contains-from_has p.active (get_or gs k d) t
  | inr f ↦ absurd (both_ways _ e (list_any_at (λ g. not (has p.active g)) gs k d lt (rw f refl)))
]

pub under_kept : (s : State) (gs c : List ℕ) → 0 < length gs → IsAccepted s (call.Under gs c) → IsKept s → IsKept (with_problem (with_group gs c s.problem) s)
under_kept s gs c lt a k = with_problem_kept s (with_group gs c s.problem) (grows_group gs c s.problem) (IsWellFormed-group gs c s.problem lt (all_active s.problem gs a.guard) (all_usable s.problem c a.good_lits) k.clauses) (within_group gs c s.problem a.within k.within) k

pub new_guard_kept : (s : State) → IsAccepted s call.NewGuard → IsKept s → IsKept (with_problem (with_guard s.problem) s)
new_guard_kept s a k = with_problem_kept s (with_guard s.problem) (grows_guard s.problem s.problem.freed refl k.clauses) (IsWellFormed-guard s.problem s.problem.freed refl k.clauses) (within_guard s.problem s.problem.freed room k.within) k
  where
    room : s.problem.freed ≡ [] → s.problem.vars < max_var
    room e = elim (cases_Bool (nat_le max_var s.problem.vars)) [
      | inl t ↦ absurd (both_ways _ a.within (and_from _ _ (rw e refl) t))
      | inr f ↦ leb-false max_var s.problem.vars f
    ]

no_scopes : (scs : List Scope) (g : ℕ) → is_scoped scs (call.DropGuard g) ≡ false → scs ≡ []
no_scopes [] g e = refl
no_scopes (sc ∷ scs) g e = absurd (let b = ltb-false 0 (length (sc ∷ scs)) e in omega arith)

-- what is assumed by a paused solve doesn't hold the guard, and a running one doesn't admit the call
unheld_run : (v : Solve) (g : ℕ) → admits v (call.DropGuard g) ≡ true → has (paused_assumed v) (2 * g) ≡ false → ¬ Contains (run_assumed (edited v)) (2 * g)
unheld_run no_solve g a e h = let b = h.1 in omega arith
unheld_run (running r) g a e h = cc
unheld_run (paused r) g a e h = lacks_none r.assumed (2 * g) e h
unheld_run (ended n v) g a e h = let b = h.1 in omega arith

pub drop_kept : (s : State) (g : ℕ) → IsAccepted s (call.DropGuard g) → IsKept s → IsKept (dropped g s)
unfolding scope_assumed
drop_kept s g a k =
    let act : Contains s.problem.active g = Contains-from_has s.problem.active g (not-false _ a.guard) in
    let held = or_parts _ _ a.unheld in
    let none = no_scopes s.scopes g a.unscoped in
    record {
      clauses = dropping.IsWellFormed-dropped g s.problem k.clauses act;
      within = within_dropped g s.problem k.within;
      known_live = dropping.known_kept g s.problem k.clauses act s.known k.known_live;
      known_implied = dropping.known_implied g s.problem k.clauses act s.known k.known_live k.known_implied;
      pending = assumed s.pending (lacks_none s.pending (2 * g) held.0) k.pending;
      assumed = let P : List Scope → Type 0 = λ scs. All (IsAssumable (without_guard g s.problem)) (scope_assumed scs) in subst P (sym none) (All-nil (IsAssumable (without_guard g s.problem)));
      run = assumed (run_assumed (edited s.solve)) (unheld_run s.solve g a.admitted held.1) (run_edited s.solve (IsAssumable s.problem) k.run);
      scopes = let P : List Scope → Type 0 = λ scs. AreScopesSound (without_guard g s.problem) [] [] scs in subst P (sym none) tt;
      solve = solve_edited s.problem (without_guard g s.problem) s.serial s.solve k.solve;
      few_pending = k.few_pending;
      few_scopes = k.few_scopes;
      few_solves = k.few_solves;
    }
  where
    assumed : (ls : List ℕ) → ¬ Contains ls (2 * g) → All (IsAssumable s.problem) ls → All (IsAssumable (without_guard g s.problem)) ls
    assumed ls n h i d lt = dropping.assumable_kept g s.problem k.clauses (Contains-from_has s.problem.active g (not-false _ a.guard)) (get_or ls i d) (λ e. n (subst (Contains ls) e (Contains-get_or ls i d lt))) (h i d lt)

pub assume_kept : (s : State) (ls : List ℕ) → IsAccepted s (call.Assume ls) → IsKept s → IsKept (assuming ls s)
assume_kept s ls a k =
    let b = or_parts _ _ a.within in
    let g = vars_grown s (top ls) (ltb-false max_var (top ls) b.0) k in
    record {
      clauses = g.clauses;
      within = g.within;
      known_live = g.known_live;
      known_implied = g.known_implied;
      assumed = g.assumed;
      run = g.run;
      scopes = g.scopes;
      solve = g.solve;
      pending = All-append (IsAssumable (grown (top ls) s.problem)) s.pending ls g.pending (λ i d lt. new (get_or ls i d) (top_bounds ls i d lt) (good (get_or ls i d) (Contains-get_or ls i d lt)));
      few_pending = (let le = ltb-false most_pending (length s.pending + length ls) b.1 in let n = length-append s.pending ls in omega arith);
      few_scopes = g.few_scopes;
      few_solves = g.few_solves;
    }
  where
    good : (l : ℕ) → Contains ls l → (is_usable s.problem l || is_guard_lit s.problem l) ≡ true
    good l h = elim (cases_Bool (is_usable s.problem l || is_guard_lit s.problem l)) [
      | inl t ↦ t
      | inr f ↦ absurd (both_ways _ a.good_lits (list_any_at (λ l. not (is_usable s.problem l || is_guard_lit s.problem l)) ls h.0 l h.1 (rw (h.2, f) refl)))
    ]

    new : (l : ℕ) → l / 2 ≤ top ls → (is_usable s.problem l || is_guard_lit s.problem l) ≡ true → IsAssumable (grown (top ls) s.problem) l
    new l le e = elim (or_cases _ _ e) [
      | inl u ↦ inl (usable_grown (top ls) s.problem l k.clauses (usable_facts s.problem l u) le)
      | inr g ↦ inr g
    ]

trim_all : (P : List ℕ → Type 0) (known : List (List ℕ)) → All P known → All P (trimmed known)
trim_all P known a = cond_both (nat_lt most_untrimmed (length known)) (drop (length known / 2) known) known (All P) (λ _. All-drop P (length known / 2) known a) (λ _. a)

pub solve_kept : (s : State) (b : ℕ) → b ≢ 0 → IsAccepted s (call.Solve b) → IsKept s → IsKept (started b s)
solve_kept s b n a k =
    let lt = leb-false most_solves s.serial a.within in
    record {
      clauses = k.clauses;
      within = k.within;
      known_live = trim_all (λ c. All (λ l. IsLiveVar s.problem (l / 2)) c) s.known k.known_live;
      known_implied = trim_all (IsImplied s.problem) s.known k.known_implied;
      pending = All-nil (IsAssumable s.problem);
      assumed = k.assumed;
      run = All-append (IsAssumable s.problem) (scope_assumed s.scopes) s.pending k.assumed k.pending;
      scopes = k.scopes;
      solve = record { low = omega arith; last = refl; left = omega arith; slices = omega arith };
      few_pending = omega arith;
      few_scopes = k.few_scopes;
      few_solves = omega arith;
    }

-- a scope more
scope_assumed-push : (scs : List Scope) (sc : Scope) → scope_assumed (scs ++ sc ∷ []) ≡ scope_assumed scs ++ sc.assumed
unfolding scope_assumed
scope_assumed-push [] sc = append-nil sc.assumed
scope_assumed-push (x ∷ scs) sc = rw (scope_assumed-push scs sc, append_assoc) refl

abbrev WithScopes : Problem → List ℕ → List ℕ → List Scope → Scope → Type 0
WithScopes p given earlier scs sc = IsFoundSound p (given ++ (scope_assumed scs ++ sc.assumed)) (earlier ++ scope_listed scs) sc.found

scopes_push : (p : Problem) (scs : List Scope) (sc : Scope) (given earlier : List ℕ) → AreScopesSound p given earlier scs → WithScopes p given earlier scs sc → AreScopesSound p given earlier (scs ++ sc ∷ [])
unfolding scope_assumed scope_listed
scopes_push p [] sc given earlier h f = (let P : List ℕ → Type 0 = λ e. IsFoundSound p (given ++ sc.assumed) e sc.found in subst P (append-nil earlier) f, tt)
scopes_push p (x ∷ scs) sc given earlier h f = (
  h.0,
  scopes_push p scs sc (given ++ x.assumed) (earlier ++ listed_in x.found) h.1
      (let P : List ℕ → List ℕ → Type 0 = λ g e. IsFoundSound p g e sc.found in
      subst (λ e. P ((given ++ x.assumed) ++ (scope_assumed scs ++ sc.assumed)) e) (sym (append_assoc earlier (listed_in x.found) (scope_listed scs)))
      (subst (λ g. P g (earlier ++ (listed_in x.found ++ scope_listed scs))) (ap (λ ls. given ++ ls) (append_assoc x.assumed (scope_assumed scs) sc.assumed) ∙ sym (append_assoc given x.assumed (scope_assumed scs ++ sc.assumed))) f)),
)

pub opened_kept : (s : State) (f : Found) → IsAccepted s call.Test → IsFoundSound s.problem (all_assumed s) (scope_listed s.scopes) f → IsKept s → IsKept (opened f s)
opened_kept s f a h k =
    let sc : Scope = record { assumed = s.pending; found = f } in
    let lt = leb-false most_scopes (length s.scopes) a.within in
    record {
      clauses = k.clauses;
      within = k.within;
      known_live = k.known_live;
      known_implied = k.known_implied;
      pending = All-nil (IsAssumable s.problem);
      assumed = rw (scope_assumed-push s.scopes (record { assumed = s.pending; found = f })) (All-append (IsAssumable s.problem) (scope_assumed s.scopes) s.pending k.assumed k.pending);
      run = run_edited s.solve (IsAssumable s.problem) k.run;
      scopes = scopes_push s.problem s.scopes (record { assumed = s.pending; found = f }) [] [] k.scopes h;
      solve = solve_edited s.problem s.problem s.serial s.solve k.solve;
      few_pending = omega arith;
      few_scopes = (let n = length-append s.scopes (sc ∷ []) in omega arith);
      few_solves = k.few_solves;
    }

-- the first scopes alone
scopes_take : (p : Problem) (n : ℕ) (scs : List Scope) (given earlier : List ℕ) → AreScopesSound p given earlier scs → AreScopesSound p given earlier (take n scs)
scopes_take p zero scs given earlier h = tt
scopes_take p (suc n) [] given earlier h = tt
scopes_take p (suc n) (x ∷ scs) given earlier h = (h.0, scopes_take p n scs (given ++ x.assumed) (earlier ++ listed_in x.found) h.1)

assumed_take : (P : ℕ → Type 0) (n : ℕ) (scs : List Scope) → All P (scope_assumed scs) → All P (scope_assumed (take n scs))
unfolding scope_assumed
assumed_take P zero scs a = All-nil P
assumed_take P (suc n) [] a = a
assumed_take P (suc n) (x ∷ scs) a = All-append P x.assumed (scope_assumed (take n scs)) (All-left P x.assumed (scope_assumed scs) a) (assumed_take P n scs (All-right P x.assumed (scope_assumed scs) a))

length_taken : (n : ℕ) (scs : List Scope) → length (take n scs) ≤ length scs
length_taken zero scs = omega arith
length_taken (suc n) [] = omega arith
length_taken (suc n) (x ∷ scs) = let h = length_taken n scs in omega arith

pub untest_kept : (s : State) → IsKept s → IsKept (untested s)
untest_kept s k = record {
  clauses = k.clauses;
  within = k.within;
  known_live = k.known_live;
  known_implied = k.known_implied;
  pending = k.pending;
  assumed = assumed_take (IsAssumable s.problem) (length s.scopes - 1) s.scopes k.assumed;
  run = run_edited s.solve (IsAssumable s.problem) k.run;
  scopes = scopes_take s.problem (length s.scopes - 1) s.scopes [] [] k.scopes;
  solve = solve_edited s.problem s.problem s.serial s.solve k.solve;
  few_pending = k.few_pending;
  few_scopes = (let h = length_taken (length s.scopes - 1) s.scopes in let b = k.few_scopes in omega arith);
  few_solves = k.few_solves;
}

-- a slice
pub fresh_implied : (p : Problem) (known news : List (List ℕ)) → AreFresh p known news → All (IsImplied p) news
fresh_implied p known [] h = All-nil (IsImplied p)
fresh_implied p known (c ∷ cs) h = All-cons (IsImplied p) c cs h.0.implied (fresh_implied p (known ++ c ∷ []) cs h.2)

pub fresh_live : (p : Problem) (known news : List (List ℕ)) → IsWellFormed p → AreFresh p known news → All (λ c. All (λ l. IsLiveVar p (l / 2)) c) news
fresh_live p known [] k h = All-nil (λ c. All (λ l. IsLiveVar p (l / 2)) c)
fresh_live p known (c ∷ cs) k h = All-cons (λ c. All (λ l. IsLiveVar p (l / 2)) c) c cs (λ i d lt. live (get_or c i d / 2) (h.0.within i d lt)) (fresh_live p (known ++ c ∷ []) cs k h.2)
  where
    live : (v : ℕ) → IsProblemVar p v ⊎ Contains p.active v → IsLiveVar p v
    live v (inl a) = let f = var_facts p v a in (f.low, f.high, f.unfreed)
    live v (inr b) = let m = Contains-append_right p.freed p.active v b in (All-contains (λ g. 1 ≤ g) (p.freed ++ p.active) v k.low m, All-contains (λ g. g ≤ p.vars) (p.freed ++ p.active) v k.high m, λ c. IsDistinct-apart p.freed p.active v k.distinct c b)

pub work_kept : (s : State) (r : Run) (mark : ℕ) (news : List (List ℕ)) (now : Now) → s.solve ≡ running r → Works s r mark news now → IsKept s → IsKept (record s { known = s.known ++ news; solve = sliced r (length news) now })
unfolding in_force
work_kept s r mark news now e w k = record {
  clauses = k.clauses;
  within = k.within;
  known_live = All-append (λ c. All (λ l. IsLiveVar s.problem (l / 2)) c) s.known news k.known_live (fresh_live s.problem s.known news k.clauses w.fresh);
  known_implied = All-append (IsImplied s.problem) s.known news k.known_implied (fresh_implied s.problem s.known news w.fresh);
  pending = k.pending;
  assumed = k.assumed;
  run = go now;
  scopes = k.scopes;
  solve = sound now w.ends;
  few_pending = k.few_pending;
  few_scopes = k.few_scopes;
  few_solves = k.few_solves;
}
  where
    was : All (IsAssumable s.problem) r.assumed
    was = let P : Solve → Type 0 = λ v. All (IsAssumable s.problem) (run_assumed v) in subst P e k.run

    before : IsRunSound s.serial r
    before = let P : Solve → Type 0 = λ v. IsSolveSound s.problem s.serial v in subst P e k.solve

    go : (n : Now) → All (IsAssumable s.problem) (run_assumed (sliced r (length news) n))
    go Live = was
    go (Ended v) = All-nil (IsAssumable s.problem)

    model : (values : List Bool) → IsModel s.problem r.assumed values → IsVerdictSound s.problem (Sat values)
    model values m = (m.count, Satisfies-fewer s.problem.plain (in_force s.problem r.assumed) values (λ c h. Contains-append_left s.problem.plain _ c h) m.clauses)

    sound : (n : Now) → EndsWork s r mark news n → IsSolveSound s.problem s.serial (sliced r (length news) n)
    sound Live h = record { low = before.low; last = before.last; slices = (let c = before.slices in let d = h.2.0 in omega arith); left = (let a : r.spent + length news ≢ r.budget = λ q. h.1 (q, h.2) in let b = w.within in omega arith) }
    sound (Ended (Sat values)) h = (before.low, before.last, model values h.2)
    sound (Ended (Unsat f)) h = (before.low, before.last, h.2.fails)
    sound (Ended (Unknown c)) h = (before.low, before.last, tt)
