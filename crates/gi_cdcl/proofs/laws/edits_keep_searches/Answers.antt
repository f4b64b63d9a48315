use Rattle.gi_cdcl.proofs.Rooted.{goes_edited}
use Rattle.gi_cdcl.proofs.laws.edits_keep_searches.Goals as goal

pub returns : goal.returns
returns c = goes_edited
