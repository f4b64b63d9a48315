use Rattle.std.proofs.Common.{◌-◌, ◌≤◌}
use Rattle.gi_cdcl.specs.Queue.{IsLinkedFrom}
use Rattle.gi_cdcl.proofs.varlist.link.Given as goal

abbrev pub invariant-loop-node : goal.invariant-loop-node
invariant-loop-node l = record {
  linked : IsLinkedFrom l.chains l.from l.node l.end;
  low : l.from ≤ l.node;
  high : l.node ≤ l.end;
}

abbrev pub decreases-loop-node : goal.decreases-loop-node
decreases-loop-node l = l.node - l.from
