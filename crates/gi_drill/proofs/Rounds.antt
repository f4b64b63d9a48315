-- The rounds of the script, and its end.
use Rattle.std.proofs.Common.{◌≡◌, ℕ, ◌+◌, ◌*◌, ◌≤◌, max, Bool, true, false, not, ◌||◌, List, [], ◌∷◌, ◌++◌, length, refl, ap, sym, ◌∙◌, subst, arith}
use Rattle.std.specs.List.{All, AllByRecursion, flat_map, sum_by}
use Rattle.std.proofs.lemmas.List.{append-nil}
use Rattle.std.proofs.lemmas.List.Elements.{All-head, All-tail, All-nil}
use Rattle.gi_lit.specs.Lists.{IsSublist}
use Rattle.gi_lit.specs.Truth.{true_in, clause_true, Satisfies, Fail}
use Rattle.gi_lit.specs.Problem.{Group, Problem, as_given, in_force, lit_count, top, without, without_groups, without_var}
use Rattle.gi_lit.proofs.Literals.{true_in-opposite}
use Rattle.gi_lit.proofs.Agreeing.{opposite-odd}
use Rattle.gi_model.specs.State.{Solve, no_solve, ended}
use Rattle.gi_model.specs.Effects.{after}
use Rattle.gi_model.specs.History.{Entry}
use Rattle.gi_model.specs.declared.calls.Call.{Call}
use Rattle.gi_model.specs.declared.calls.Call.TheVariants as call
use Rattle.gi_model.specs.declared.replies.Reply.TheVariants as reply
use Rattle.gi_model.specs.declared.replies.Verdict.{Verdict}
use Rattle.gi_model.specs.declared.replies.Verdict.TheVariants.{Sat, Unsat, Unknown}
use Rattle.gi_drill.specs.declared.tally.Tally.{Tally}
use Rattle.gi_drill.specs.Script.{guarding, round}
use Rattle.gi_drill.proofs.Calls.{Ahead, Comes, IsFound, accepts, at, no_more, take}
use Rattle.gi_drill.proofs.Phases.{AreFew, IsResting, IsWithin, admits_all, bye_none, counted, done_none, edit_ends, guard_none, held, plain_problem, raised_low, rests, solved, tally, usable_held, vars_none, within_limits}

-- before the first round the guard's variable isn't there, and after it the guard is freed
abbrev pub vars_of : Bool → ℕ
vars_of false = 150
vars_of true = 151

abbrev pub freed_of : Bool → List ℕ
freed_of false = []
freed_of true = 151 ∷ []

abbrev pub between : Bool → List (List ℕ) → Problem
between again plain = plain_problem (vars_of again) plain (freed_of again)

guard_made : (goal : Tally → Type 0) (again : Bool) (t : Tally) (plain known : List (List ℕ)) (v : Solve) (serial : ℕ) (more : List Call) (es : List Entry) → IsResting v
    → Ahead (at (between again plain) [] known v serial) (call.NewGuard ∷ more) es
    → ((rest : List Entry) → Ahead (at (held plain []) [] known no_solve serial) more rest → Comes goal t rest) → Comes goal t es
unfolding after
guard_made goal false t plain known v serial more es calm h k =
    take goal t (at (between false plain) [] known v serial) call.NewGuard more es (reply.Guard 151) (rests (between false plain) [] known v serial calm)
    (accepts (at (between false plain) [] known v serial) call.NewGuard refl (refl, (admits_all v call.NewGuard calm, (refl, (refl, (refl, (refl, (refl, (refl, (refl, (refl, (refl, (refl, tt)))))))))))) refl)
    (λ x e. e) (guard_none 151) h (λ rest ahead. k rest (subst (λ (w : Solve). Ahead (at (held plain []) [] known w serial) more rest) (edit_ends v calm) ahead))
guard_made goal true t plain known v serial more es calm h k =
    take goal t (at (between true plain) [] known v serial) call.NewGuard more es (reply.Guard 151) (rests (between true plain) [] known v serial calm)
    (accepts (at (between true plain) [] known v serial) call.NewGuard refl (refl, (admits_all v call.NewGuard calm, (refl, (refl, (refl, (refl, (refl, (refl, (refl, (refl, (refl, (refl, tt)))))))))))) refl)
    (λ x e. e) (guard_none 151) h (λ rest ahead. k rest (subst (λ (w : Solve). Ahead (at (held plain []) [] known w serial) more rest) (edit_ends v calm) ahead))

single : (l : ℕ) → IsWithin l → top (l ∷ []) ≤ 150
unfolding top
single l h = omega (arith, h.1)

-- one group more, of which there are few
under_taken : (goal : Tally → Type 0) (t : Tally) (l : ℕ) (plain : List (List ℕ)) (groups : List Group) (known : List (List ℕ)) (serial : ℕ) (more : List Call) (es : List Entry)
    → IsWithin l → AreFew plain 600 → length groups ≤ 2 → sum_by as_given groups ≤ 2
    → Ahead (at (held plain groups) [] known no_solve serial) (call.Under guarding (l ∷ []) ∷ more) es
    → ((rest : List Entry) → Ahead (at (held plain (groups ++ record { guards = guarding; clause = l ∷ [] } ∷ [])) [] known no_solve serial) more rest → Comes goal t rest) → Comes goal t es
unfolding after lit_count
under_taken goal t l plain groups known serial more es good few count lits h k =
    let s = at (held plain groups) [] known no_solve serial in
    let wide : max 151 (top (l ∷ [])) ≡ 151 = omega (arith, single l good) in
    take goal t s (call.Under guarding (l ∷ [])) more es reply.Done refl
    (accepts s (call.Under guarding (l ∷ [])) refl (refl, (refl, (refl, (usable_held plain groups l good, (refl, (refl, (within_limits (held plain groups) (l ∷ []) (single l good) (omega (arith, few.count)) (omega (arith, few.lits)) (omega arith), (refl, (refl, (refl, (refl, (refl, tt)))))))))))) refl)
    (λ x e. e) done_none h
    (λ rest ahead. k rest (subst (λ (m : ℕ). Ahead (at (record { vars = m; plain = plain; groups = groups ++ record { guards = guarding; clause = l ∷ [] } ∷ []; active = 151 ∷ []; freed = [] }) [] known no_solve serial) more rest) wide ahead))

abbrev pub group : ℕ → Group
group l = record { guards = guarding; clause = l ∷ [] }

assumed : (goal : Tally → Type 0) (t : Tally) (plain : List (List ℕ)) (groups : List Group) (known : List (List ℕ)) (serial : ℕ) (more : List Call) (es : List Entry)
    → Ahead (at (held plain groups) [] known no_solve serial) (call.Assume (302 ∷ []) ∷ more) es
    → ((rest : List Entry) → Ahead (at (held plain groups) (302 ∷ []) known no_solve serial) more rest → Comes goal t rest) → Comes goal t es
unfolding after top
assumed goal t plain groups known serial more es h k =
    let s = at (held plain groups) [] known no_solve serial in
    take goal t s (call.Assume (302 ∷ [])) more es reply.Done refl
    (accepts s (call.Assume (302 ∷ [])) refl (refl, (refl, (refl, (refl, (refl, (refl, (refl, (refl, (refl, (refl, (refl, (refl, tt)))))))))))) refl)
    (λ x e. e) done_none h k

guard_dropped : (goal : Tally → Type 0) (t : Tally) (plain : List (List ℕ)) (x y : ℕ) (known : List (List ℕ)) (n serial : ℕ) (verdict : Verdict) (more : List Call) (es : List Entry)
    → Ahead (at (held plain (group x ∷ group y ∷ [])) [] known (ended n verdict) serial) (call.DropGuard 151 ∷ more) es
    → ((rest : List Entry) → Ahead (at (between true plain) [] (without_var 151 known) no_solve serial) more rest → Comes goal t rest) → Comes goal t es
unfolding after without without_groups
guard_dropped goal t plain x y known n serial verdict more es h k =
    let s = at (held plain (group x ∷ group y ∷ [])) [] known (ended n verdict) serial in
    take goal t s (call.DropGuard 151) more es reply.Done refl
    (accepts s (call.DropGuard 151) refl (refl, (refl, (refl, (refl, (refl, (refl, (refl, (refl, (refl, (refl, (refl, (refl, tt)))))))))))) refl)
    (λ x e. e) done_none h k

All_right : (P : List ℕ → Type 0) (xs ys : List (List ℕ)) → All P (xs ++ ys) → All P ys
All_right P [] ys h = h
All_right P (x ∷ xs) ys h = All_right P xs ys (All-tail P x (xs ++ ys) h)

or_false : (b : Bool) → (b || false) ≡ true → b ≡ true
or_false true e = refl
or_false false e = e

-- a variable and its negation aren't both true
not_both : (values : List Bool) (x : ℕ) → true_in values (2 * x) ≡ true → true_in values (2 * x + 1) ≡ true → ⊥
not_both values x a b =
    let other : true_in values (2 * x) ≡ not (true_in values (2 * x + 1)) = ap (true_in values) (sym (opposite-odd x)) ∙ true_in-opposite values (2 * x + 1) in
    let no : true ≡ not true = sym a ∙ other ∙ ap not b in
    absurd cc

-- no values satisfy a round
round_fails : (plain : List (List ℕ)) (x : ℕ) (values : List Bool) → Satisfies values (in_force (held plain (group (2 * x) ∷ group (2 * x + 1) ∷ [])) (302 ∷ [])) → ⊥
unfolding in_force
round_fails plain x values h =
    let P : List ℕ → Type 0 = λ c. clause_true values c ≡ true in
    let both = All_right P plain ((2 * x ∷ []) ∷ ((2 * x + 1) ∷ []) ∷ []) h.each in
    let first : clause_true values (2 * x ∷ []) ≡ true = All-head P (2 * x ∷ []) (((2 * x + 1) ∷ []) ∷ []) both in
    let second : clause_true values ((2 * x + 1) ∷ []) ≡ true = All-head P ((2 * x + 1) ∷ []) [] (All-tail P (2 * x ∷ []) (((2 * x + 1) ∷ []) ∷ []) both) in
    not_both values x (or_false (true_in values (2 * x)) first) (or_false (true_in values (2 * x + 1)) second)

-- a round's solve adds nothing to the count of models
round_counted : (plain : List (List ℕ)) (x v n a b : ℕ) (verdict : Verdict) → b ≤ 100000 → IsFound (held plain (group (2 * x) ∷ group (2 * x + 1) ∷ [])) (302 ∷ []) verdict
    → (c : ℕ) × (c ≤ b + 1) × (counted (tally v n a b) verdict ≡ tally v n a c)
round_counted plain x v n a b (Sat values) low h = absurd (round_fails plain x values h.0)
round_counted plain x v n a b (Unsat w) low h = (b + 1, omega arith, ap (λ (m : ℕ). tally v n a m) (raised_low b low))
round_counted plain x v n a b (Unknown c) low h = (b, omega arith, refl)

positive_within : (x : ℕ) → 1 ≤ x → x ≤ 150 → IsWithin (2 * x)
positive_within x low high = (omega arith, omega arith)

negative_within : (x : ℕ) → 1 ≤ x → x ≤ 150 → IsWithin (2 * x + 1)
negative_within x low high = (omega arith, omega arith)

pub one_round : (goal : Tally → Type 0) (again : Bool) (x v n a b : ℕ) (plain known : List (List ℕ)) (solve : Solve) (serial : ℕ) (more : List Call) (es : List Entry)
    → 1 ≤ x → x ≤ 150 → AreFew plain 600 → IsResting solve → serial ≤ 100000 → b ≤ 100000
    → Ahead (at (between again plain) [] known solve serial) (round x ++ more) es
    → ((c : ℕ) (known' : List (List ℕ)) (rest : List Entry) → c ≤ b + 1 → Ahead (at (between true plain) [] known' no_solve (serial + 1)) more rest → Comes goal (tally v n a c) rest) → Comes goal (tally v n a b) es
one_round goal again x v n a b plain known solve serial more es low high few calm s_low b_low h k =
    let t = tally v n a b in
    guard_made goal again t plain known solve serial (call.Under guarding (2 * x ∷ []) ∷ call.Under guarding ((2 * x + 1) ∷ []) ∷ call.Assume (302 ∷ []) ∷ call.Solve 4294967295 ∷ call.Wait ∷ call.DropGuard 151 ∷ more) es calm h (λ r1 h1.
    under_taken goal t (2 * x) plain [] known serial (call.Under guarding ((2 * x + 1) ∷ []) ∷ call.Assume (302 ∷ []) ∷ call.Solve 4294967295 ∷ call.Wait ∷ call.DropGuard 151 ∷ more) r1 (positive_within x low high) few (omega arith) (omega arith) h1 (λ r2 h2.
    under_taken goal t (2 * x + 1) plain (group (2 * x) ∷ []) known serial (call.Assume (302 ∷ []) ∷ call.Solve 4294967295 ∷ call.Wait ∷ call.DropGuard 151 ∷ more) r2 (negative_within x low high) few (omega arith) (omega arith) h2 (λ r3 h3.
    assumed goal t plain (group (2 * x) ∷ group (2 * x + 1) ∷ []) known serial (call.Solve 4294967295 ∷ call.Wait ∷ call.DropGuard 151 ∷ more) r3 h3 (λ r4 h4.
    solved goal t (held plain (group (2 * x) ∷ group (2 * x + 1) ∷ [])) (302 ∷ []) known no_solve serial (call.DropGuard 151 ∷ more) r4 tt s_low h4 (λ known' verdict r5 f h5.
    let c = round_counted plain x v n a b verdict b_low f in
    subst (λ (u : Tally). Comes goal u r5) (sym c.2)
    (guard_dropped goal (tally v n a c.0) plain (2 * x) (2 * x + 1) known' (serial + 1) (serial + 1) verdict more r5 h5 (λ r6 h6. k c.0 (without_var 151 known') r6 c.1 h6)))))))

-- whether a round has been
abbrev pub ever : Bool → List ℕ → Bool
ever again [] = again
ever again (x ∷ xs) = true

abbrev pub IsVariable : ℕ → Type 0
IsVariable x = (1 ≤ x) × (x ≤ 150)

ever_stays : (xs : List ℕ) → ever true xs ≡ true
ever_stays [] = refl
ever_stays (x ∷ xs) = refl

pub all_rounds : (goal : Tally → Type 0) (xs : List ℕ) (again : Bool) (v n a b : ℕ) (plain known : List (List ℕ)) (solve : Solve) (serial : ℕ) (more : List Call) (es : List Entry)
    → AllByRecursion IsVariable xs → AreFew plain 600 → IsResting solve → serial + length xs ≤ 100000 → b + length xs ≤ 100000
    → Ahead (at (between again plain) [] known solve serial) (flat_map round xs ++ more) es
    → ((c : ℕ) (known' : List (List ℕ)) (solve' : Solve) (rest : List Entry) → c ≤ b + length xs → IsResting solve' → Ahead (at (between (ever again xs) plain) [] known' solve' (serial + length xs)) more rest → Comes goal (tally v n a c) rest) → Comes goal (tally v n a b) es
all_rounds goal [] again v n a b plain known solve serial more es good few calm s_low b_low h k =
    k b known solve es (omega arith) calm (subst (λ (m : ℕ). Ahead (at (between again plain) [] known solve m) more es) (let e : serial ≡ serial + 0 = omega arith in e) h)
all_rounds goal (x ∷ xs) again v n a b plain known solve serial more es good few calm s_low b_low h k =
    let shift : serial + 1 + length xs ≡ serial + length (x ∷ xs) = omega arith in
    one_round goal again x v n a b plain known solve serial (flat_map round xs ++ more) es good.0.0 good.0.1 few calm (omega arith) (omega arith) h (λ c known' r low h1.
    all_rounds goal xs true v n a c plain known' no_solve (serial + 1) more r good.1 few tt (omega arith) (omega (arith, low)) h1 (λ d known'' solve' r2 low2 calm2 h2.
    k d known'' solve' r2 (omega (arith, low, low2)) calm2 (subst (λ (m : ℕ). Ahead (at (between true plain) [] known'' solve' m) more r2) shift (subst (λ (e : Bool). Ahead (at (between e plain) [] known'' solve' (serial + 1 + length xs)) more r2) (ever_stays xs) h2))))

-- values that satisfy the plain clauses
abbrev pub HasModel : List (List ℕ) → Type 0
HasModel plain = (values : List Bool) × Satisfies values plain

never_fails : (again : Bool) (plain : List (List ℕ)) (w : List ℕ) → HasModel plain → IsSublist w [] → Fail (in_force (between again plain) w) w → ⊥
unfolding in_force
never_fails again plain [] model few h = h model.0 (subst (Satisfies model.0) (sym (append-nil plain)) model.1) (record { each = All-nil (λ l. true_in model.0 l ≡ true) })
never_fails again plain (l ∷ w) model few h = absurd few

-- a solve of the plain clauses alone adds nothing to the count of failing sets
plain_counted : (again : Bool) (plain : List (List ℕ)) (v n a b : ℕ) (verdict : Verdict) → HasModel plain → a ≤ 100000 → IsFound (between again plain) [] verdict
    → (c : ℕ) × (c ≤ a + 1) × (counted (tally v n a b) verdict ≡ tally v n c b)
plain_counted again plain v n a b (Sat values) model low h = (a + 1, omega arith, ap (λ (m : ℕ). tally v n m b) (raised_low a low))
plain_counted again plain v n a b (Unsat w) model low h = absurd (never_fails again plain w model h.0 h.1)
plain_counted again plain v n a b (Unknown c) model low h = (a, omega arith, refl)

pub plain_solved : (goal : Tally → Type 0) (again : Bool) (v n a b : ℕ) (plain known : List (List ℕ)) (solve : Solve) (serial : ℕ) (more : List Call) (es : List Entry)
    → HasModel plain → IsResting solve → serial ≤ 100000 → a ≤ 100000
    → Ahead (at (between again plain) [] known solve serial) (call.Solve 4294967295 ∷ call.Wait ∷ more) es
    → ((c : ℕ) (known' : List (List ℕ)) (solve' : Solve) (rest : List Entry) → c ≤ a + 1 → IsResting solve' → Ahead (at (between again plain) [] known' solve' (serial + 1)) more rest → Comes goal (tally v n c b) rest) → Comes goal (tally v n a b) es
plain_solved goal again v n a b plain known solve serial more es model calm s_low a_low h k =
    solved goal (tally v n a b) (between again plain) [] known solve serial more es calm s_low h (λ known' verdict r f h1.
    let c = plain_counted again plain v n a b verdict model a_low f in
    subst (λ (u : Tally). Comes goal u r) (sym c.2) (k c.0 known' (ended (serial + 1) verdict) r c.1 tt h1))

-- the last two calls
vars_told : (goal : Tally → Type 0) (again : Bool) (v n a b : ℕ) (plain known : List (List ℕ)) (solve : Solve) (serial : ℕ) (more : List Call) (es : List Entry) → IsResting solve
    → Ahead (at (between again plain) [] known solve serial) (call.Vars 0 ∷ more) es
    → ((rest : List Entry) → Ahead (at (between again plain) [] known no_solve serial) more rest → Comes goal (tally (vars_of again) n a b) rest) → Comes goal (tally v n a b) es
unfolding after
vars_told goal false v n a b plain known solve serial more es calm h k =
    take goal (tally v n a b) (at (between false plain) [] known solve serial) (call.Vars 0) more es (reply.Vars 150) (rests (between false plain) [] known solve serial calm)
    (accepts (at (between false plain) [] known solve serial) (call.Vars 0) refl (refl, (admits_all solve (call.Vars 0) calm, (refl, (refl, (refl, (refl, (refl, (refl, (refl, (refl, (refl, (refl, tt)))))))))))) refl)
    (λ x e. e) (vars_none 150) h (λ rest ahead. k rest (subst (λ (w : Solve). Ahead (at (between false plain) [] known w serial) more rest) (edit_ends solve calm) ahead))
vars_told goal true v n a b plain known solve serial more es calm h k =
    take goal (tally v n a b) (at (between true plain) [] known solve serial) (call.Vars 0) more es (reply.Vars 151) (rests (between true plain) [] known solve serial calm)
    (accepts (at (between true plain) [] known solve serial) (call.Vars 0) refl (refl, (admits_all solve (call.Vars 0) calm, (refl, (refl, (refl, (refl, (refl, (refl, (refl, (refl, (refl, (refl, tt)))))))))))) refl)
    (λ x e. e) (vars_none 151) h (λ rest ahead. k rest (subst (λ (w : Solve). Ahead (at (between true plain) [] known w serial) more rest) (edit_ends solve calm) ahead))

pub leaves : (goal : Tally → Type 0) (again : Bool) (v n a b : ℕ) (plain known : List (List ℕ)) (solve : Solve) (serial : ℕ) (es : List Entry) → IsResting solve → goal (tally (vars_of again) n a b)
    → Ahead (at (between again plain) [] known solve serial) (call.Vars 0 ∷ call.Bye ∷ []) es → Comes goal (tally v n a b) es
unfolding after
leaves goal again v n a b plain known solve serial es calm g h =
    vars_told goal again v n a b plain known solve serial (call.Bye ∷ []) es calm h (λ r h1.
    take goal (tally (vars_of again) n a b) (at (between again plain) [] known no_solve serial) call.Bye [] r reply.Bye refl
    (accepts (at (between again plain) [] known no_solve serial) call.Bye refl (refl, (refl, (refl, (refl, (refl, (refl, (refl, (refl, (refl, (refl, (refl, (refl, tt)))))))))))) refl)
    (λ x e. e) bye_none h1 (λ r2 h2. no_more goal (tally (vars_of again) n a b) (at (between again plain) [] known no_solve serial) r2 refl g h2))
