use Rattle.std.proofs.Common.{◌≡◌, option_map, length}
use Rattle.gi_wire.specs.Grammar.{guards_at}
use Rattle.gi_wire.proofs.Listing.{guards_and}
use Rattle.gi_wire.proofs.call.read_guards.Given as goal

abbrev pub invariant-words : goal.invariant-words
invariant-words l = guards_at l.fn.words ≡ option_map (guards_and l.guards) (guards_at l.words)

abbrev pub decreases-words : goal.decreases-words
decreases-words l = length l.words
