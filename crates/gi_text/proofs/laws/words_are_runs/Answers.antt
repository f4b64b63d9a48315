use Rattle.gi_text.proofs.WordRuns.{runs}
use Rattle.gi_text.proofs.laws.words_are_runs.Goals as goal

pub returns : goal.returns
returns c = runs
