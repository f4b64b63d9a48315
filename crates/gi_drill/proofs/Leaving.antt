-- The script ends with its only bye.
use Rattle.std.proofs.Common.{◌≡◌, ◌≢◌, ℕ, zero, suc, ◌+◌, List, [], ◌∷◌, ◌++◌, map, ap, sym, ◌∙◌, subst, append_assoc}
use Rattle.std.specs.List.{AllByRecursion, flat_map, range_with_len}
use Rattle.gi_model.specs.declared.calls.Call.{Call}
use Rattle.gi_model.specs.declared.calls.Call.TheVariants.{Vars, Add, Solve, Wait, Bye}
use Rattle.gi_drill.specs.Instance.{clauses, first_clauses}
use Rattle.gi_drill.specs.Laws.{ByeIsLast}
use Rattle.gi_drill.specs.Script.{round, rounds, script, variable_of}
use Rattle.gi_drill.proofs.Drawing.{rounds_are}

abbrev IsOther : Call → Type 0
IsOther c = c ≢ Bye

others_append : (a b : List Call) → AllByRecursion IsOther a → AllByRecursion IsOther b → AllByRecursion IsOther (a ++ b)
others_append [] b h k = k
others_append (c ∷ a) b h k = (h.0, others_append a b h.1 k)

others_adds : (cs : List (List ℕ)) → AllByRecursion IsOther (map Add cs)
others_adds [] = tt
others_adds (c ∷ cs) = ((λ e. absurd cc), others_adds cs)

others_rounds : (a n : ℕ) → AllByRecursion IsOther (flat_map round (map variable_of (range_with_len a n)))
others_rounds a zero = tt
others_rounds a (suc n) = others_append (round (variable_of a)) (flat_map round (map variable_of (range_with_len (a + 1) n)))
    ((λ e. absurd cc), ((λ e. absurd cc), ((λ e. absurd cc), ((λ e. absurd cc), ((λ e. absurd cc), ((λ e. absurd cc), ((λ e. absurd cc), tt)))))))
    (others_rounds (a + 1) n)

-- all calls but the last
front : ℕ → List Call
front n = Vars 150 ∷ (map Add (clauses n) ++ (Solve 4294967295 ∷ Wait ∷ (rounds n ++ (Solve 4294967295 ∷ Wait ∷ Vars 0 ∷ []))))

front_is : (n : ℕ) → script n ≡ front n ++ Bye ∷ []
unfolding script front
front_is n =
    ap (λ (t : List Call). Vars 150 ∷ (map Add (first_clauses n 600) ++ (Solve 4294967295 ∷ Wait ∷ t))) (sym (append_assoc (rounds n) (Solve 4294967295 ∷ Wait ∷ Vars 0 ∷ []) (Bye ∷ [])))
    ∙ ap (λ (t : List Call). Vars 150 ∷ t) (sym (append_assoc (map Add (first_clauses n 600)) (Solve 4294967295 ∷ Wait ∷ (rounds n ++ (Solve 4294967295 ∷ Wait ∷ Vars 0 ∷ []))) (Bye ∷ [])))

front_other : (n : ℕ) → AllByRecursion IsOther (front n)
unfolding front
front_other n = (
  (λ e. absurd cc),
  others_append (map Add (first_clauses n 600)) (Solve 4294967295 ∷ Wait ∷ (rounds n ++ (Solve 4294967295 ∷ Wait ∷ Vars 0 ∷ []))) (others_adds (first_clauses n 600)) (
    (λ e. absurd cc),
    (
      (λ e. absurd cc),
      others_append (rounds n) (Solve 4294967295 ∷ Wait ∷ Vars 0 ∷ []) (subst (AllByRecursion IsOther) (sym (rounds_are n)) (others_rounds 0 n))
          ((λ e. absurd cc), ((λ e. absurd cc), ((λ e. absurd cc), tt))),
    ),
  ),
)

pub bye_last : ByeIsLast
bye_last n = (front n, front_is n, front_other n)
