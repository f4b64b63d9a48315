use Rattle.gi_lit.proofs.Guarding.{guards_sound}
use Rattle.gi_lit.proofs.laws.guards_are_sound.Goals as goal

pub returns : goal.returns
returns c = guards_sound
