use Rattle.std.proofs.Common.{◌≡◌, ◌+◌, ◌++◌, ◌∷◌, [], List, length, sym, ap, ◌∙◌, subst, arith}
use Rattle.gi_circuit.specs.Nodes.{Parts, AreNodesSound, entries_from}
use Rattle.gi_circuit.specs.declared.node.Node.{Node}
use Rattle.gi_circuit.specs.declared.node.Node.TheVariants.{Latch}
use Rattle.gi_circuit.proofs.Sound.{IsSound-latch, entries-latch}
use Rattle.gi_circuit.proofs.net.Net.latch.Goals as goal

pub invariant_of-self-2 : goal.invariant_of-self-2
invariant_of-self-2 c =
    let n : length c.self.inside.nodes.items ≡ length c.args.self.now.nodes = ap (λ (v : Parts). length v.nodes) c.self.view_is in
    let items : c.push.new.self.items ≡ c.self.inside.nodes.items ++ Latch c.self.inside.latches ∷ [] = c.in_ok-push.ensures.items in (
      subst (λ (z : List Node). AreNodesSound (record { inputs = c.self.inside.inputs; latches = c.self.inside.latches + 1; nodes = z })) (sym items) (IsSound-latch (record { inputs = c.self.inside.inputs; latches = c.self.inside.latches; nodes = c.self.inside.nodes.items }) c.self.invariant.0 (omega (arith, n, c.requires))),
      c.self.invariant.1 ∙ sym (entries-latch 1 c.self.inside.nodes.items c.self.inside.latches) ∙ ap (entries_from 1) (sym items),
    )
