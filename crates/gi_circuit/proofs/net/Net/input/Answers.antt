use Rattle.std.proofs.Common.{◌≡◌, ◌+◌, ◌++◌, ◌∷◌, [], List, length, sym, ap, ◌∙◌, subst, arith}
use Rattle.gi_circuit.specs.Nodes.{Parts, AreNodesSound, entries_from}
use Rattle.gi_circuit.specs.declared.node.Node.{Node}
use Rattle.gi_circuit.specs.declared.node.Node.TheVariants.{Input}
use Rattle.gi_circuit.proofs.Sound.{IsSound-input, entries-input}
use Rattle.gi_circuit.proofs.net.Net.input.Goals as goal

pub invariant_of-self-2 : goal.invariant_of-self-2
invariant_of-self-2 c =
    let n : length c.self.inside.nodes.items ≡ length c.args.self.now.nodes = ap (λ (v : Parts). length v.nodes) c.self.view_is in
    let items : c.push.new.self.items ≡ c.self.inside.nodes.items ++ Input c.self.inside.inputs ∷ [] = c.in_ok-push.ensures.items in (
      subst (λ (z : List Node). AreNodesSound (record { inputs = c.self.inside.inputs + 1; latches = c.self.inside.latches; nodes = z })) (sym items) (IsSound-input (record { inputs = c.self.inside.inputs; latches = c.self.inside.latches; nodes = c.self.inside.nodes.items }) c.self.invariant.0 (omega (arith, n, c.requires))),
      c.self.invariant.1 ∙ sym (entries-input 1 c.self.inside.nodes.items c.self.inside.inputs) ∙ ap (entries_from 1) (sym items),
    )
