use Rattle.std.proofs.Common.{◌≡◌, ℕ, sym, ap, ◌∙◌, subst}
use Rattle.std.specs.Option.{MatchOption}
use Rattle.gi_chains.specs.Lists.{Lists, StandsAt, IsFree, IsApart}
use Rattle.gi_chains.specs.Links.{node_at}
use Rattle.gi_chains.specs.Seats.{nodes_of}
use Rattle.gi_chains.specs.declared.node.Node.{Node}
use Rattle.gi_chains.proofs.Keeping.{kept_apart}
use Rattle.gi_chains.proofs.Linking.{read_list}
use Rattle.gi_chains.proofs.chains.Chains.list_of.Goals as goal

pub returns-clause-value : goal.returns-clause-value
returns-clause-value c =
    let at : c.node_of.result ≡ node_at (nodes_of c.self.inside.seats.items) c.args.node = c.node_of.ensures ∙ ap (λ z. node_at (nodes_of z) c.args.node) c.as_slice.ensures.value in
    subst (λ (v : Lists). MatchOption c.get.result (IsFree v.lists c.args.node) (λ l. (i : ℕ) × StandsAt v.lists l i c.args.node)) c.self.view_is
    (read_list _ _ _ c.self.invariant.chained c.args.node c.get.result (sym (c.get.ensures ∙ ap (λ (n : Node). n.list) at)))

pub returns-clause-apart : goal.returns-clause-apart
returns-clause-apart c = subst IsApart c.self.view_is (kept_apart _ _ c.self.invariant)
