use Rattle.std.proofs.Common.{◌≡◌, List, [], ◌∷◌, ◌++◌, refl}
use Rattle.gi_model.specs.History.{Entry}
use Rattle.gi_drill.specs.declared.tally.Tally.{Tally}
use Rattle.gi_drill.specs.Counting.{new_tally, noted, tally_from}
use Rattle.gi_drill.proofs.laws.tallies_grow.Goals as goal

grows : (t : Tally) (es : List Entry) (e : Entry) → tally_from t (es ++ e ∷ []) ≡ noted (tally_from t es) e.call e.reply
unfolding tally_from
grows t [] e = refl
grows t (x ∷ es) e = grows (noted t x.call x.reply) es e

pub returns : goal.returns
returns c es e = grows new_tally es e
