use Rattle.gi_drill.proofs.Serving.{own_all, sessions}
use Rattle.gi_drill.proofs.laws.sessions_play.Goals as goal

pub returns : goal.returns
returns c = record { play = sessions; own = own_all }
