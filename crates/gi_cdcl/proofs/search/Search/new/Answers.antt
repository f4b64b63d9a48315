use Rattle.gi_cdcl.proofs.Rooted.{goes_blank}
use Rattle.gi_cdcl.proofs.search.Search.new.Goals as goal

pub returns-clause-goes : goal.returns-clause-goes
returns-clause-goes c h = goes_blank (record { attached = c.new-2.result; root = c.new.result }) h 0 c.new.ensures (c.new-2.ensures.goes h c.new.result)
