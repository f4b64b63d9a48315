use Rattle.std.proofs.Common.{◌≡◌, take}
use Rattle.gi_scopes.proofs.short.Short.copy.Given as goal

abbrev pub invariant-loop-code : goal.invariant-loop-code
invariant-loop-code l = l.lits ≡ take l.code-index l.code-items
