-- The script is taken.
use Rattle.std.proofs.Common.{◌≡◌, ℕ, zero, suc, ◌+◌, ◌≤◌, ◌==◌, false, cond, List, [], ◌∷◌, ◌++◌, length, map, refl, ap, sym, ◌∙◌, subst, arith}
use Rattle.std.specs.List.{AllByRecursion, flat_map, range_with_len}
use Rattle.std.proofs.lemmas.Bool.{ne_eqb}
use Rattle.std.proofs.lemmas.List.FromFn.{length-map-range_with_len}
use Rattle.gi_model.specs.State.{State, no_solve, opening}
use Rattle.gi_model.specs.Effects.{after}
use Rattle.gi_model.specs.History.{Entry, IsLegalFrom}
use Rattle.gi_model.specs.declared.calls.Call.{Call}
use Rattle.gi_model.specs.declared.calls.Call.TheVariants as call
use Rattle.gi_drill.specs.declared.tally.Tally.{Tally}
use Rattle.gi_drill.specs.Counting.{new_tally}
use Rattle.gi_drill.specs.Instance.{first_clauses, plan}
use Rattle.gi_drill.specs.Laws.{Plays, NoneIsRefused, VariablesAreTold, ClausesAreTaken, FewAreSat, FewAreUnsat}
use Rattle.gi_drill.specs.Script.{ending, round, script, variable_of}
use Rattle.gi_drill.proofs.Calls.{Ahead, Comes, at}
use Rattle.gi_drill.proofs.Drawing.{rounds_are}
use Rattle.gi_drill.proofs.Instances.{clauses_count, satisfied, triples}
use Rattle.gi_drill.proofs.Phases.{AreFew, IsTriple, adds, begins, plain_problem, tally}
use Rattle.gi_drill.proofs.Rounds.{HasModel, IsVariable, all_rounds, ever, leaves, plain_solved, vars_of}

legal_front : (s : State) (front back : List Entry) → IsLegalFrom s (front ++ back) → IsLegalFrom s front
legal_front s [] back h = tt
legal_front s (e ∷ front) back h = (h.0, legal_front (after s e.call e.reply) front back h.1)

abbrev variables : ℕ → List ℕ
variables n = map variable_of (range_with_len 0 n)

variables_from : (a n : ℕ) → AllByRecursion IsVariable (map variable_of (range_with_len a n))
variables_from a zero = tt
variables_from a (suc n) = ((omega arith, omega arith), variables_from (a + 1) n)

variables_count : (n : ℕ) → length (variables n) ≡ n
variables_count n = length-map-range_with_len variable_of 0 n

script_is : (n : ℕ) → script n ≡ call.Vars 150 ∷ (map call.Add (first_clauses n 600) ++ (call.Solve 4294967295 ∷ call.Wait ∷ (flat_map round (variables n) ++ ending)))
unfolding script
script_is n = ap (λ (rs : List Call). call.Vars 150 ∷ (map call.Add (first_clauses n 600) ++ (call.Solve 4294967295 ∷ call.Wait ∷ (rs ++ ending)))) (rounds_are n)

last_vars : (n : ℕ) → vars_of (ever false (variables n)) ≡ cond (n == 0) 150 151
last_vars zero = refl
last_vars (suc n) = rw (ne_eqb (suc n) 0 (λ e. omega arith)) refl

-- what the count comes to
pub record Comes600 (n : ℕ) (t : Tally) : Type 0 where
  pub vars : t.vars ≡ cond (n == 0) 150 151
  pub clauses : t.clauses ≡ 600
  pub sat : t.sat ≤ 2
  pub unsat : t.unsat ≤ n

few_none : AreFew [] 0
few_none = record { count = omega arith; lits = omega arith }

-- behind the clauses
after_clauses : (n : ℕ) (goal : Tally → Type 0) (xs : List ℕ) (plain : List (List ℕ)) (es : List Entry) → length xs ≤ 10000 → AllByRecursion IsVariable xs → AreFew plain 600 → HasModel plain
    → ((a b : ℕ) → a ≤ 2 → b ≤ length xs → goal (tally (vars_of (ever false xs)) 600 a b))
    → Ahead (at (plain_problem 150 plain []) [] [] no_solve 0) (call.Solve 4294967295 ∷ call.Wait ∷ (flat_map round xs ++ ending)) es → Comes goal (tally 150 600 0 0) es
after_clauses n goal xs plain es many good few model g h =
    plain_solved goal false 150 600 0 0 plain [] no_solve 0 (flat_map round xs ++ ending) es model tt (omega arith) (omega arith) h (λ a k1 s1 r1 la c1 h1.
    all_rounds goal xs false 150 600 a 0 plain k1 s1 1 ending r1 good few c1 (omega arith) (omega arith) h1 (λ b k2 s2 r2 lb c2 h2.
    plain_solved goal (ever false xs) 150 600 a b plain k2 s2 (1 + length xs) (call.Vars 0 ∷ call.Bye ∷ []) r2 model c2 (omega arith) (omega (arith, la)) h2 (λ a2 k3 s3 r3 la2 c3 h3.
    leaves goal (ever false xs) 150 600 a2 b plain k3 s3 (1 + length xs + 1) r3 c3 (g a2 b (omega (arith, la, la2)) (omega (arith, lb))) h3)))

-- all of it
whole : (n : ℕ) (goal : Tally → Type 0) (cs : List (List ℕ)) (es : List Entry) → length cs ≡ 600 → ((r : List Entry) → AreFew cs 600 → Ahead (at (plain_problem 150 cs []) [] [] no_solve 0) (call.Solve 4294967295 ∷ call.Wait ∷ (flat_map round (variables n) ++ ending)) r → Comes goal (tally 150 600 0 0) r)
    → AllByRecursion IsTriple cs
    → Ahead opening (call.Vars 150 ∷ (map call.Add cs ++ (call.Solve 4294967295 ∷ call.Wait ∷ (flat_map round (variables n) ++ ending)))) es → Comes goal new_tally es
whole n goal cs es count k good h =
    begins goal new_tally (map call.Add cs ++ (call.Solve 4294967295 ∷ call.Wait ∷ (flat_map round (variables n) ++ ending))) es h (λ r1 h1.
    adds goal cs [] 150 0 0 0 (call.Solve 4294967295 ∷ call.Wait ∷ (flat_map round (variables n) ++ ending)) r1 good few_none (omega (arith, count)) h1 (λ r2 h2 few.
    subst (λ (m : ℕ). Comes goal (tally 150 m 0 0) r2) (sym (let e : 0 + length cs ≡ 600 = omega (arith, count) in e))
    (k r2 (subst (AreFew cs) (let e : 0 + length cs ≡ 600 = omega (arith, count) in e) few) h2)))

played : (n : ℕ) (front back : List Entry) → Plays n front back → Comes (Comes600 n) new_tally front
played n front back h =
    whole n (Comes600 n) (first_clauses n 600) front (clauses_count n 600)
    (λ r few ahead. after_clauses n (Comes600 n) (variables n) (first_clauses n 600) r (omega (arith, variables_count n, h.few)) (variables_from 0 n) few (plan n, satisfied n)
    (λ a b la lb. record { vars = last_vars n; clauses = refl; sat = la; unsat = omega (arith, lb, variables_count n) }) ahead)
    (triples n 600)
    (record { legal = legal_front opening front back h.legal.each; calls_are = h.calls_are ∙ script_is n; lively = h.lively })

pub none_refused : NoneIsRefused
none_refused n front back h = (played n front back h).taken

pub variables_told : VariablesAreTold
variables_told n front back h = (played n front back h).tally.vars

pub clauses_taken : ClausesAreTaken
clauses_taken n front back h = (played n front back h).tally.clauses

pub few_sat : FewAreSat
few_sat n front back h = (played n front back h).tally.sat

pub few_unsat : FewAreUnsat
few_unsat n front back h = (played n front back h).tally.unsat
