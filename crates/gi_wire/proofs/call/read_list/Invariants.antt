use Rattle.std.proofs.Common.{◌≡◌, ◌++◌, option_map, length}
use Rattle.gi_wire.specs.Grammar.{list_at}
use Rattle.gi_wire.proofs.call.read_list.Given as goal

abbrev pub invariant-words : goal.invariant-words
invariant-words l = list_at l.fn.words ≡ option_map (λ ls. l.list ++ ls) (list_at l.words)

abbrev pub decreases-words : goal.decreases-words
decreases-words l = length l.words
