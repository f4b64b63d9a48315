use Rattle.std.proofs.Common.{ℕ, ◌≡◌, ◌+◌, ◌-◌, ◌*◌, ◌≤◌, Option, Some, None, subst, arith}
use Rattle.std.specs.Option.{SomeIff, MatchOption}
use Rattle.gi_lit.specs.Literals.{max_var, IsLiteral}
use Rattle.gi_chains.specs.Lists.{Lists, IsApart}
use Rattle.gi_prop.specs.Watched.{IsIn}
use Rattle.gi_prop.proofs.Moves.{one_list}
use Rattle.gi_prop.proofs.look.watch_in.Goals as goal

read : (chains : Lists) (list node : ℕ) (r : Option ℕ) → IsApart chains → IsIn chains list node → SomeIff r ((3 ≤ list) × (list ≤ 2 * max_var + 2)) (list - 1) → MatchOption r ((a : ℕ) → IsLiteral a → IsIn chains (a + 1) node → ⊥) (λ a. IsLiteral a × IsIn chains (a + 1) node)
read chains list node None apart here n = λ a lit h. let e : list ≡ a + 1 = one_list chains list (a + 1) node apart here h in n (omega (arith, lit.0), omega (arith, lit.1))
read chains list node (Some x) apart here h = let e : list ≡ x + 1 = omega (arith, h.1, h.0.0) in ((omega (arith, h.0.0), omega (arith, h.0.1)), subst (λ (z : ℕ). IsIn chains z node) e here)

pub returns-in-None : goal.returns-in-None
returns-in-None c = λ a lit h. c.in-None.ensures.value (a + 1) h.place h.stands

pub returns-in-Some : goal.returns-in-Some
returns-in-Some c = read c.args.chains.now c.in-Some.list c.args.node c.watched_lit.result c.list_of.ensures.apart (record { place = c.in-Some.ensures.value.0; stands = c.in-Some.ensures.value.1 }) c.watched_lit.ensures
