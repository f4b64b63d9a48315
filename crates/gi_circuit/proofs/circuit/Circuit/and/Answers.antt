use Rattle.gi_circuit.proofs.Wiring.{and_keeps, IsWired-more}
use Rattle.gi_circuit.proofs.circuit.Circuit.and.Goals as goal

pub invariant_of-self : goal.invariant_of-self
invariant_of-self c =
    let k = and_keeps c.self.inside.net c.and.new.self c.args.a c.args.b c.and.result c.and.ensures.ok c.and.ensures.err in
    IsWired-more (record { parts = c.self.inside.net; resets = c.self.inside.resets.items; nexts = c.self.inside.nexts.items; outs = c.self.inside.outs.items; bads = c.self.inside.bads.items; cons = c.self.inside.cons.items }) c.and.new.self k.0 k.1 c.self.invariant
