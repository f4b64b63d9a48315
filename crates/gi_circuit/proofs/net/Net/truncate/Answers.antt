use Rattle.std.proofs.Common.{◌≡◌, ◌+◌, ◌-◌, List, length, take, sym, ap, ◌∙◌, subst, arith}
use Rattle.std.specs.List.{count_by}
use Rattle.gi_circuit.specs.Nodes.{Parts, AreNodesSound, is_gate, entries_from}
use Rattle.gi_circuit.specs.declared.node.Node.{Node}
use Rattle.gi_circuit.proofs.Sound.{entries-take}
use Rattle.gi_circuit.proofs.net.Net.truncate.Goals as goal

pub invariant_of-self : goal.invariant_of-self
invariant_of-self c =
    let same : c.args.self.now.nodes ≡ c.self.inside.nodes.items = ap (λ (v : Parts). v.nodes) (sym c.self.view_is) in
    let items : c.truncate.new.self.items ≡ take c.args.size.nodes c.self.inside.nodes.items = c.truncate.ensures.items in
    let sound : AreNodesSound (record { inputs = c.args.size.inputs; latches = c.args.size.latches; nodes = take c.args.size.nodes c.self.inside.nodes.items }) = subst (λ (z : List Node). AreNodesSound (record { inputs = c.args.size.inputs; latches = c.args.size.latches; nodes = take c.args.size.nodes z })) same c.requires in
    let gates : c.len.result - (c.args.size.inputs + c.args.size.latches) ≡ count_by is_gate (take c.args.size.nodes c.self.inside.nodes.items) = (let a = sound.counted in let b = ap length items in let l = c.len.ensures in let v = c.truncate.type_inv in omega arith) in (
      subst (λ (z : List Node). AreNodesSound (record { inputs = c.args.size.inputs; latches = c.args.size.latches; nodes = z })) (sym items) sound,
      c.truncate-2.ensures.entries
          ∙ ap (take (c.len.result - (c.args.size.inputs + c.args.size.latches))) c.self.invariant.1
          ∙ entries-take c.args.size.nodes c.self.inside.nodes.items _ gates
          ∙ ap (entries_from 1) (sym items),
    )
