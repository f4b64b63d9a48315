use Rattle.std.proofs.Common.{◌≡◌, ◌-◌, ◌+◌, ℕ, arith, subst}
use Rattle.gi_cdcl.specs.Queue.{IsLinkedFrom}
use Rattle.gi_cdcl.proofs.Queues.{is_free, linked_one, linked_all}
use Rattle.gi_cdcl.proofs.varlist.link.Goals as goal

pub push_front-requires-clause-free : goal.push_front-requires-clause-free
push_front-requires-clause-free c = is_free c.loop-node.chains c.args.from c.loop-node.node c.args.end c.from.result c.loop-node.invariant.linked (omega (arith, c.from.ensures, c.loop-node-test.true)) (omega (arith, c.from.ensures, c.loop-node-test.true))

pub loop-node-preserved : goal.loop-node-preserved
loop-node-preserved c =
    let up : c.loop-node.node ≡ (c.loop-node.node - 1) + 1 = omega (arith, c.loop-node-test.true) in
    let i = c.loop-node.invariant in
    let h = subst (λ (n : ℕ). IsLinkedFrom c.loop-node.chains c.args.from n c.args.end) up i.linked in
    let after = rw c.from.ensures at c.push_front.ensures.after in
    record {
      linked = linked_one c.loop-node.chains c.push_front.new.self c.args.from (c.loop-node.node - 1) c.args.end h after c.push_front.ensures.apart;
      low = omega (arith, c.loop-node-test.true);
      high = let b = i.high in omega (arith, b);
    }

pub returns : goal.returns
returns c =
    let i = c.loop-node.invariant in
    let same : c.loop-node.node ≡ c.args.from = let b = i.low in omega (arith, b, c.loop-node-test.false) in
    linked_all c.loop-node.chains c.args.from c.args.end (omega (arith, c.ranges.end)) (subst (λ (n : ℕ). IsLinkedFrom c.loop-node.chains c.args.from n c.args.end) same i.linked)
