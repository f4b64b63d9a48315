use Rattle.std.proofs.Common.{ℕ, Option, IfSome, subst}
use Rattle.gi_scopes.specs.Listing.{MayStart}
use Rattle.gi_scopes.proofs.Closed.{start_anew}
use Rattle.gi_scopes.proofs.closed_trail.start_of.Goals as goal

pub returns-in-Some : goal.returns-in-Some
returns-in-Some c = λ assumed closed may. subst (λ (above : Option ℕ). IfSome above (MayStart c.args.store.now c.args.levels.now assumed c.args.kept.now c.args.from)) c.in-Some.is may

pub returns-in-None : goal.returns-in-None
returns-in-None c = λ assumed closed may.
    start_anew c.args.store.now c.vars-vars.ensures.whole.well_formed c.args.levels.now assumed c.args.kept.now closed c.lits-lits.ensures.trail c.unlisted_after.result c.unlisted_after.ensures.high c.unlisted_after.ensures.listed
