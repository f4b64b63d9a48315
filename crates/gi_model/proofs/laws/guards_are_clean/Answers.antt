use Rattle.gi_model.specs.State.{opening}
use Rattle.gi_model.specs.History.{after_all}
use Rattle.gi_model.proofs.Histories.{histories_kept}
use Rattle.gi_model.proofs.Clean.{clean_after}
use Rattle.gi_model.proofs.laws.guards_are_clean.Goals as goal

pub returns : goal.returns
returns c es g h a = clean_after (after_all opening es) g (histories_kept es h) a
