-- What a model tells, one variable after the other.
use Rattle.std.proofs.Common.{◌≡◌, ℕ, ◌+◌, ◌*◌, ◌<◌, Bool, true, false, cond, List, [], ◌∷◌, ◌++◌, length, take, get_or, length-take-le, refl, sym, ap, ◌∙◌, arith}
use Rattle.std.proofs.lemmas.List.{take_more}
use Rattle.gi_lit.specs.Problem.{Problem, is_problem_var}
use Rattle.gi_model.specs.Replies.{model_from}

model_from-push : (p : Problem) (v i : ℕ) (xs : List Bool) (b : Bool) → i ≡ length xs → model_from p v (xs ++ b ∷ []) ≡ model_from p v xs ++ model_from p (v + i) (b ∷ [])
unfolding model_from
model_from-push p v i [] b e = let q : v ≡ v + i = omega (arith, e) in ap (λ k. model_from p k (b ∷ [])) q
model_from-push p v i (x ∷ xs) b e = go (model_from-push p (v + 1) (length xs) xs b refl ∙ ap (λ k. model_from p (v + 1) xs ++ model_from p k (b ∷ [])) (omega (arith, e))) (is_problem_var p v)
  where
    go : model_from p (v + 1) (xs ++ b ∷ []) ≡ model_from p (v + 1) xs ++ model_from p (v + i) (b ∷ []) → (t : Bool) → cond t ((cond x (2 * v) (2 * v + 1)) ∷ model_from p (v + 1) (xs ++ b ∷ [])) (model_from p (v + 1) (xs ++ b ∷ [])) ≡ cond t ((cond x (2 * v) (2 * v + 1)) ∷ model_from p (v + 1) xs) (model_from p (v + 1) xs) ++ model_from p (v + i) (b ∷ [])
    go rest true = ap (λ r. (cond x (2 * v) (2 * v + 1)) ∷ r) rest
    go rest false = rest

pub model_from-more : (p : Problem) (v i : ℕ) (xs : List Bool) (d : Bool) → i < length xs → model_from p v (take (i + 1) xs) ≡ model_from p v (take i xs) ++ model_from p (v + i) (get_or xs i d ∷ [])
model_from-more p v i xs d lt = ap (model_from p v) (take_more xs i d lt) ∙ model_from-push p v i (take i xs) (get_or xs i d) (sym (length-take-le i xs (omega arith)))
