use Rattle.gi_batch.proofs.Telling.{asks_written}
use Rattle.gi_batch.proofs.laws.asks_are_written.Goals as goal

pub returns : goal.returns
returns c = asks_written
