use Rattle.std.proofs.Common.{◌≡◌, ◌==◌, ◌++◌, not, take, drop, take_while}
use Rattle.gi_reference.proofs.reasons.append_before.Given as goal

abbrev pub invariant-loop-l : goal.invariant-loop-l
invariant-loop-l l = record { put : l.to ≡ l.fn.to ++ take l.l-index l.lits; front : take l.l-index l.lits ++ take_while (λ x. not (x == l.m)) (drop l.l-index l.lits) ≡ take_while (λ x. not (x == l.m)) l.lits }
