use Rattle.std.proofs.Common.{◌+◌, ◌*◌, take}
use Rattle.gi_store.specs.StoreView.{problem_of}
use Rattle.gi_model.specs.State.{scope_listed}
use Rattle.gi_scopes.proofs.Noting.{ListingTo}
use Rattle.gi_scopes.proofs.implied.implied.Given as goal

abbrev pub invariant-loop-at : goal.invariant-loop-at
invariant-loop-at l = ListingTo (problem_of l.store) l.given (scope_listed l.levels) (take l.at l.trail.lits) l.listing.lits l.listing.reasons.items (2 * l.store.vars + 2) l.noted.items
