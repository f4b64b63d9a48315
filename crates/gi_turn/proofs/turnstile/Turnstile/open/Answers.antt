use Rattle.std.proofs.Common.{◌≡◌, ℕ, List, [], ◌∷◌, Option, Some, subst, sym, rules, arith}
use Rattle.atomic_table.specs.Table.{opening}
use Rattle.gi_turn.specs.Views.{first_view}
use Rattle.gi_turn.specs.Rule.{Rule}
use Rattle.gi_turn.proofs.Steps.{opens}
use Rattle.gi_turn.proofs.turnstile.Turnstile.open.Goals as goal

pub new-requires : goal.new-requires
new-requires g c =
    let first : ℕ = c.from-first.result in
    let is : first ≡ c.args.phase = search rules in
    let items : c.push.new.self.items ≡ Some c.args.value ∷ [] = search rules in
    let word : c.head.result ≡ first = omega arith in
    subst (λ (n : ℕ). Rule g.T.Stands.stands g.T.Stands.may_ask first (opening (0 ∷ n ∷ 0 ∷ []) c.push.new.self.items (first_view first))) (sym word)
    (subst (λ (xs : List (Option g.row.T.Denot)). Rule g.T.Stands.stands g.T.Stands.may_ask first (opening (0 ∷ first ∷ 0 ∷ []) xs (first_view first))) (sym items)
    (opens g.T.Stands.stands g.T.Stands.may_ask first c.args.value (omega arith) c.requires.stands))
