use Rattle.std.proofs.Common.{◌≡◌, ◌++◌, drop}
use Rattle.gi_aiger.specs.Files.{shares}
use Rattle.gi_aiger.proofs.judge.shares.Given as goal

abbrev pub invariant-loop-size : goal.invariant-loop-size
invariant-loop-size l = l.lists ++ shares (drop l.size-index l.sizes) l.rest ≡ shares l.fn.sizes l.fn.literals
