use Rattle.gi_model.specs.State.{opening}
use Rattle.gi_model.specs.History.{after_all}
use Rattle.gi_model.proofs.Histories.{histories_kept}
use Rattle.gi_model.proofs.Reasoning.{answered_reasons}
use Rattle.gi_model.proofs.laws.reasons_show.Goals as goal

pub returns : goal.returns
returns c es m rs h a = answered_reasons (after_all opening es) m rs (histories_kept es h) a
