-- The model of a solve, variable by variable.
use Rattle.std.proofs.Common.{◌≡◌, ℕ, ◌+◌, ◌-◌, ◌*◌, ◌<◌, Bool, true, false, cond, List, [], ◌∷◌, ◌++◌, length, take, get_or, refl, sym, ap, ◌∙◌, subst, arith}
use Rattle.std.proofs.lemmas.List.{take_more, length-take-le}
use Rattle.gi_lit.specs.Problem.{Problem, is_problem_var}
use Rattle.gi_model.proofs.Keeping.{append-nil}
use Rattle.gi_model.specs.Replies.{model_from, model_of}

-- what one variable adds
abbrev one : Problem → ℕ → Bool → List ℕ
one p v b = cond (is_problem_var p v) (cond b (2 * v) (2 * v + 1) ∷ []) []

model_push : (p : Problem) (v : ℕ) (bs : List Bool) (b : Bool) → model_from p v (bs ++ b ∷ []) ≡ model_from p v bs ++ one p (v + length bs) b
unfolding model_from
model_push p v [] b = subst (λ (w : ℕ). one p v b ≡ one p w b) (let e : v ≡ v + 0 = omega arith in e) refl
model_push p v (x ∷ bs) b = go (is_problem_var p v) (model_push p (v + 1) bs b ∙ ap (λ (w : ℕ). model_from p (v + 1) bs ++ one p w b) (let e : v + 1 + length bs ≡ v + length (x ∷ bs) = omega arith in e))
  where
    l : ℕ
    l = cond x (2 * v) (2 * v + 1)

    go : (c : Bool) → model_from p (v + 1) (bs ++ b ∷ []) ≡ model_from p (v + 1) bs ++ one p (v + length (x ∷ bs)) b
        → cond c (l ∷ model_from p (v + 1) (bs ++ b ∷ [])) (model_from p (v + 1) (bs ++ b ∷ [])) ≡ cond c (l ∷ model_from p (v + 1) bs) (model_from p (v + 1) bs) ++ one p (v + length (x ∷ bs)) b
    go true e = ap (λ ls. l ∷ ls) e
    go false e = e

model_more : (p : Problem) (i : ℕ) (bs : List Bool) → i < length bs → model_of p (take (i + 1) bs) ≡ model_of p (take i bs) ++ one p (i + 1) (get_or bs i false)
model_more p i bs lt =
    ap (model_of p) (take_more bs i false lt) ∙ model_push p 1 (take i bs) (get_or bs i false)
    ∙ ap (λ (w : ℕ). model_of p (take i bs) ++ one p w (get_or bs i false)) (let n = length-take-le i bs (omega arith) in let e : 1 + length (take i bs) ≡ i + 1 = omega arith in e)

pub model_with : (p : Problem) (i v l : ℕ) (b : Bool) (bs : List Bool) (lits new : List ℕ) → i < length bs → v ≡ i + 1 → lits ≡ model_of p (take i bs) → true ≡ is_problem_var p v → b ≡ get_or bs (v - 1) false → l ≡ cond b (2 * v) (2 * v + 1) → new ≡ lits ++ l ∷ [] → new ≡ model_of p (take (i + 1) bs)
model_with p i v l b bs lits new lt ev e t eb el en =
    let at : get_or bs (v - 1) false ≡ get_or bs i false = ap (λ (k : ℕ). get_or bs k false) (let q : v - 1 ≡ i = omega arith in q) in
    let literal : l ≡ cond (get_or bs i false) (2 * v) (2 * v + 1) = el ∙ ap (λ (x : Bool). cond x (2 * v) (2 * v + 1)) (eb ∙ at) in
    let shown : one p v (get_or bs i false) ≡ l ∷ [] = ap (λ (x : Bool). cond x (cond (get_or bs i false) (2 * v) (2 * v + 1) ∷ []) []) (sym t) ∙ ap (λ (x : ℕ). x ∷ []) (sym literal) in
    en ∙ ap (λ ls. ls ++ l ∷ []) e ∙ ap (λ ls. model_of p (take i bs) ++ ls) (sym shown) ∙ ap (λ (w : ℕ). model_of p (take i bs) ++ one p w (get_or bs i false)) ev ∙ sym (model_more p i bs lt)

pub model_without : (p : Problem) (i v : ℕ) (bs : List Bool) (lits : List ℕ) → i < length bs → v ≡ i + 1 → lits ≡ model_of p (take i bs) → false ≡ is_problem_var p v → lits ≡ model_of p (take (i + 1) bs)
model_without p i v bs lits lt ev e t =
    let shown : one p v (get_or bs i false) ≡ [] = ap (λ (x : Bool). cond x (cond (get_or bs i false) (2 * v) (2 * v + 1) ∷ []) []) (sym t) in
    e ∙ sym (append-nil (model_of p (take i bs))) ∙ ap (λ ls. model_of p (take i bs) ++ ls) (sym shown) ∙ ap (λ (w : ℕ). model_of p (take i bs) ++ one p w (get_or bs i false)) ev ∙ sym (model_more p i bs lt)
