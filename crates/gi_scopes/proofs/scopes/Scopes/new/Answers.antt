use Rattle.gi_scopes.proofs.Listing.{open_none}
use Rattle.gi_scopes.proofs.Noting.{noted_nothing}
use Rattle.gi_scopes.proofs.scopes.Scopes.new.Goals as goal

pub invariant_of-result : goal.invariant_of-result
invariant_of-result c = rw (c.new.ensures.items, c.new-2.ensures.items, c.new-3.ensures.items) (open_none, noted_nothing)
