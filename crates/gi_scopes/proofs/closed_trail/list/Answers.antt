use Rattle.std.proofs.Common.{subst}
use Rattle.gi_store.specs.StoreView.{problem_of}
use Rattle.gi_model.specs.State.{listed, scope_listed}
use Rattle.gi_scopes.specs.Listing.{IsListing}
use Rattle.gi_scopes.proofs.Closed.{closed_reached, closed_closes, closed_built, closed_little}
use Rattle.gi_scopes.proofs.closed_trail.list.Goals as goal

pub implied-requires-clause-reached : goal.implied-requires-clause-reached
implied-requires-clause-reached c = rw c.requires.given (closed_reached c.args.store.now c.vars-vars.ensures.whole.well_formed c.args.levels.now c.args.assumed.now c.args.kept c.requires.closed c.lits-lits.ensures.trail)

pub implied-requires-clause-covered : goal.implied-requires-clause-covered
implied-requires-clause-covered c = rw c.requires.given c.requires.start.known

pub implied-requires-clause-behind : goal.implied-requires-clause-behind
implied-requires-clause-behind c = rw c.requires.given c.requires.start.behind

pub returns-clause-closes : goal.returns-clause-closes
returns-clause-closes c =
    let s = c.args.store.now in
    let scs = c.args.levels.now in
    let i = c.in_ok-listing.listing in
    let l = subst (λ given. IsListing (problem_of s) given (scope_listed scs) c.args.kept.trail.lits c.in_ok-listing.listing.lits c.in_ok-listing.listing.reasons.items) c.requires.given c.in_ok-listing.ensures.listing in
    rw c.requires.given (closed_closes s c.vars-vars.ensures.whole.well_formed scs c.args.assumed.now c.args.kept c.requires.closed c.lits-lits.ensures.trail i.lits i.reasons.items l)

pub returns-clause-builds : goal.returns-clause-builds
returns-clause-builds c =
    let s = c.args.store.now in
    let scs = c.args.levels.now in
    let i = c.in_ok-listing.listing in
    let l = subst (λ given. IsListing (problem_of s) given (scope_listed scs) c.args.kept.trail.lits c.in_ok-listing.listing.lits c.in_ok-listing.listing.reasons.items) c.requires.given c.in_ok-listing.ensures.listing in
    (closed_built s c.vars-vars.ensures.whole.well_formed scs c.args.assumed.now c.args.kept c.requires.closed c.lits-lits.ensures.trail c.args.start.unlisted (listed i.lits), c.requires.start.covers i.lits i.reasons.items l)

pub returns-clause-little : goal.returns-clause-little
returns-clause-little c old r known =
    let s = c.args.store.now in
    let scs = c.args.levels.now in
    let i = c.in_ok-listing.listing in
    let l = subst (λ given. IsListing (problem_of s) given (scope_listed scs) c.args.kept.trail.lits c.in_ok-listing.listing.lits c.in_ok-listing.listing.reasons.items) c.requires.given c.in_ok-listing.ensures.listing in
    closed_little s c.vars-vars.ensures.whole.well_formed scs c.args.assumed.now c.args.kept c.requires.closed c.lits-lits.ensures.trail i.lits i.reasons.items l old r known
