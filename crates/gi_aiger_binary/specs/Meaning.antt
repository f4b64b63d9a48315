-- What gates mean: the values of variables that agree with them.
use Rattle.std.specs.Prelude.{◌≡◌, ◌≢◌, ◌↔◌, ℕ, ◌/◌, ◌%◌, ◌<◌, ◌==◌, Bool, ◌&&◌, not, if◌then◌else◌, All, Contains}
use Rattle.gi_aiger.specs.declared.aig.Aig.{Aig}
use Rattle.gi_aiger.specs.declared.aig.AndGate.{AndGate}
use Rattle.gi_aiger_binary.specs.Renumbering.{literal_by, variables_of}

-- the value of a literal: its variable's, or the opposite where the literal is odd
abbrev pub value_of : (ℕ → Bool) → ℕ → Bool
value_of values l = if l % 2 == 0 then values (l / 2) else not (values (l / 2))

-- what a gate defines is true exactly where both operands are
abbrev pub AgreesWith : (ℕ → Bool) → AndGate → Type 0
AgreesWith values g = value_of values g.lhs ≡ (value_of values g.rhs0 && value_of values g.rhs1)

-- one value is the other with other numbers for its variables: 0 stays 0, each variable that is
-- defined has a number from 1 and no other variable has the same; and where each variable takes the
-- value of its number, each literal has the same value, and the same values agree with all gates
pub record MeansTheSame (number : ℕ → ℕ) (v w : Aig) : Type 0 where
  pub constant : number 0 ≡ 0
  pub numbered : (x : ℕ) → x ≢ 0 → Contains (variables_of v v.gates) x → 0 < number x
  pub apart : (x y : ℕ) → 0 < number x → number x ≡ number y → x ≡ y
  pub literals : (values : ℕ → Bool) (l : ℕ)
      → value_of values (literal_by number l) ≡ value_of (λ x. values (number x)) l
  pub gates : (values : ℕ → Bool) → All (AgreesWith values) w.gates
      ↔ All (AgreesWith (λ x. values (number x))) v.gates
