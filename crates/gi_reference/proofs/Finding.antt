-- What a test may find.
use Rattle.std.proofs.Common.{◌≡◌, ℕ, ◌↔◌, Bool, IsTrue, Result, IfOk, List, refl, sym, ap, ◌∙◌, subst, ◌⊎◌, inl, inr}
use Rattle.gi_lit.specs.Lists.{IsSublist}
use Rattle.gi_lit.specs.Truth.{Fail}
use Rattle.gi_lit.specs.Problem.{Problem, in_force}
use Rattle.gi_lit.specs.Closure.{Conflicts}
use Rattle.gi_model.specs.State.{State, all_assumed, scope_listed}
use Rattle.gi_model.specs.Tests.{Implies, MustFail, SomeFailed}
use Rattle.gi_reference.proofs.Deciding.{ok_like}
use Rattle.gi_reference.proofs.Causes.{MayImply}

module _ (s : State) where
  pub must_like : {E : Type 0} (r : Result Bool E) (clauses : List (List ℕ)) (given : List ℕ) → clauses ≡ in_force s.problem (all_assumed s) → given ≡ all_assumed s → ¬ SomeFailed s.scopes → IfOk r (λ b. IsTrue b ↔ Conflicts clauses given) → IfOk r (λ b. IsTrue b ↔ MustFail s)
  must_like r clauses given ec eg n d = ok_like r (λ c. inl (subst (λ cs. Conflicts cs (all_assumed s)) ec (subst (Conflicts clauses) eg c))) back d
    where
      back : MustFail s → Conflicts clauses given
      back (inl c) = subst (λ cs. Conflicts cs given) (sym ec) (subst (Conflicts (in_force s.problem (all_assumed s))) (sym eg) c)
      back (inr f) = absurd (n f)

  -- a test may list these
  abbrev pub MayFind : List ℕ → Type 0
  MayFind ls = (¬ MustFail s) × Implies s.problem (all_assumed s) (scope_listed s.scopes) ls

  pub find_like : {E : Type 0} (r : Result Bool E) (ls : List ℕ) (p : Problem) (given earlier : List ℕ) → p ≡ s.problem → given ≡ all_assumed s → earlier ≡ scope_listed s.scopes → ¬ SomeFailed s.scopes → IfOk r (λ b. IsTrue b ↔ MayImply p given earlier ls) → IfOk r (λ b. IsTrue b ↔ MayFind ls)
  find_like r ls p given earlier ep eg ee n d = ok_like r to back d
    where
      moved : MayImply p given earlier ls → MayImply s.problem (all_assumed s) (scope_listed s.scopes) ls
      moved h = subst (λ q. MayImply q (all_assumed s) (scope_listed s.scopes) ls) ep (subst (λ g. MayImply p g (scope_listed s.scopes) ls) eg (subst (λ e. MayImply p given e ls) ee h))

      back_moved : MayImply s.problem (all_assumed s) (scope_listed s.scopes) ls → MayImply p given earlier ls
      back_moved h = subst (λ q. MayImply q given earlier ls) (sym ep) (subst (λ g. MayImply s.problem g earlier ls) (sym eg) (subst (λ e. MayImply s.problem (all_assumed s) e ls) (sym ee) h))

      to : MayImply p given earlier ls → MayFind ls
      to h = (none, (moved h).1)
        where
          none : ¬ MustFail s
          none (inl c) = (moved h).0 c
          none (inr f) = n f

      back : MayFind ls → MayImply p given earlier ls
      back h = back_moved (λ c. h.0 (inl c), h.1)

  pub find_failing_like : {E : Type 0} (r : Result Bool E) (w : List ℕ) (clauses : List (List ℕ)) → clauses ≡ in_force s.problem w → MustFail s → IsSublist w (all_assumed s) → IfOk r (λ b. IsTrue b ↔ Fail clauses w) → IfOk r (λ b. IsTrue b ↔ (MustFail s × IsSublist w (all_assumed s) × Fail (in_force s.problem w) w))
  find_failing_like r w clauses e m sub d = ok_like r (λ f. (m, sub, subst (λ cs. Fail cs w) e f)) (λ h. subst (λ cs. Fail cs w) (sym e) h.2) d
