use Rattle.std.proofs.Common.{◌≡◌, ◌≢◌, ℕ, ◌/◌, Bool, not, List, sym, ap, ◌∙◌, arith}
use Rattle.gi_lit.specs.Literals.{opposite}
use Rattle.gi_lit.specs.Truth.{true_in}

pub opposite-opposite : (l : ℕ) → opposite (opposite l) ≡ l
unfolding opposite
opposite-opposite l = grind arith

pub opposite-differs : (l : ℕ) → opposite l ≢ l
unfolding opposite
opposite-differs l = grind arith

pub true_in-opposite : (values : List Bool) (l : ℕ) → true_in values (opposite l) ≡ not (true_in values l)
unfolding opposite true_in
true_in-opposite values l = grind arith

pub opposite-injective : (l m : ℕ) → opposite l ≡ opposite m → l ≡ m
opposite-injective l m e = sym (opposite-opposite l) ∙ ap opposite e ∙ opposite-opposite m

pub var-opposite : (l : ℕ) → opposite l / 2 ≡ l / 2
unfolding opposite
var-opposite l = grind arith

-- two different literals of one variable are opposites
pub opposite_from_var : (l m : ℕ) → m / 2 ≡ l / 2 → m ≢ l → m ≡ opposite l
unfolding opposite
opposite_from_var l m e n = grind arith
