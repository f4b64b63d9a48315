use Rattle.std.proofs.Common.{refl}
use Rattle.std.proofs.lemmas.List.{map-set}
use Rattle.std.proofs.Math.Seq.{map-set_same}
use Rattle.gi_chains.specs.declared.node.Seat.{Seat}
use Rattle.gi_chains.proofs.node.put_word.Goals as goal

pub returns-clause-words : goal.returns-clause-words
returns-clause-words c = map-set (λ (s : Seat). s.word) c.args.seats.now c.args.node _

pub returns-clause-nodes : goal.returns-clause-nodes
returns-clause-nodes c = map-set_same (λ (s : Seat). s.node) c.args.seats.now c.args.node _ c.index-seats-node.result refl
