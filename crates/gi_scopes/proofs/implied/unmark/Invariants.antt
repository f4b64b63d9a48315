use Rattle.gi_scopes.proofs.Noting.{UnmarkedTo}
use Rattle.gi_scopes.proofs.implied.unmark.Given as goal

abbrev pub invariant-loop-code : goal.invariant-loop-code
invariant-loop-code l = UnmarkedTo l.codes l.code-index l.noted
