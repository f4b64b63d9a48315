-- The clauses of groups whose guards are given.
use Rattle.std.proofs.Common.{◌≡◌, ℕ, ◌+◌, ◌*◌, ◌<◌, ◌≤◌, Bool, true, false, cond, nat_eq, List, [], ◌∷◌, ◌++◌, length, take, get_or, map, refl, sym, ap, ◌∙◌, subst, arith, append_assoc}
use Rattle.std.proofs.lemmas.List.{take_more, take_all}
use Rattle.gi_lit.specs.Problem.{Problem, Group, are_given, in_force, forced, full, guarded}

forced-append : (given : List ℕ) (ps qs : List Group) → forced given (ps ++ qs) ≡ forced given ps ++ forced given qs
forced-append given [] qs = refl
forced-append given (p ∷ ps) qs = go (forced-append given ps qs) (are_given given p.guards)
  where
    go : forced given (ps ++ qs) ≡ forced given ps ++ forced given qs → (b : Bool) → cond b (p.clause ∷ forced given (ps ++ qs)) (forced given (ps ++ qs)) ≡ cond b (p.clause ∷ forced given ps) (forced given ps) ++ forced given qs
    go h true = ap (λ cs. p.clause ∷ cs) h
    go h false = h

pub forced-more : (plain : List (List ℕ)) (given : List ℕ) (ps : List Group) (i : ℕ) (q : Group) → i < length ps → q ≡ get_or ps i q → (plain ++ forced given (take i ps)) ++ forced given (q ∷ []) ≡ plain ++ forced given (take (i + 1) ps)
forced-more plain given ps i q lt e =
    append_assoc plain (forced given (take i ps)) (forced given (q ∷ []))
    ∙ ap (λ cs. plain ++ cs) (sym (forced-append given (take i ps) (q ∷ [])) ∙ ap (forced given) (sym (take_more ps i q lt ∙ ap (λ (z : Group). take i ps ++ z ∷ []) (sym e))))

pub is_force : (p : Problem) (given : List ℕ) (i : ℕ) (cs : List (List ℕ)) → length p.groups ≤ i → cs ≡ p.plain ++ forced given (take i p.groups) → cs ≡ in_force p given
unfolding in_force
is_force p given i cs le e = e ∙ ap (λ qs. p.plain ++ forced given qs) (take_all i p.groups le)

pub is_full : (p : Problem) (i : ℕ) (cs : List (List ℕ)) → length p.groups ≤ i → cs ≡ p.plain ++ map guarded (take i p.groups) → cs ≡ full p
unfolding full
is_full p i cs le e = e ∙ ap (λ qs. p.plain ++ map guarded qs) (take_all i p.groups le)
