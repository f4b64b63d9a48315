use Rattle.std.proofs.Common.{sym}
use Rattle.gi_turn.proofs.Kinship.{sole_alone, sole_sees}
use Rattle.gi_turn.proofs.laws.sole_is_alone.Goals as goal

pub returns-clause-alone : goal.returns-clause-alone
returns-clause-alone g c = λ first s i v rule at sole j w n there has. sole_alone rule.log rule.owner s.views i v rule.numbers rule.kinship at sole j w n there has

pub returns-clause-whole : goal.returns-clause-whole
returns-clause-whole g c = λ first s i v rule at sole. sym (sole_sees rule.log rule.owner s.views i v rule.numbers rule.kinship at (rule.turns.each i v at).seen sole)
