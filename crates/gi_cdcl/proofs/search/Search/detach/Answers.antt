use Rattle.std.proofs.Common.{subst, sym}
use Rattle.gi_cdcl.specs.Searching.{Searching, MatchesStore}
use Rattle.gi_cdcl.proofs.Rooted.{rooted, goes_blank}
use Rattle.gi_cdcl.proofs.search.Search.detach.Goals as goal

pub returns-clause-goes : goal.returns-clause-goes
returns-clause-goes c h g =
    let e = c.self.inside.state in
    let v = subst (λ (s : Searching). MatchesStore s h) (sym c.self.view_is) g in
    goes_blank (record { attached = c.detach.new.self; root = c.forget.new.trail }) h e.trail.vars c.forget.ensures.after (c.detach.ensures.goes h c.forget.new.trail (c.forget.ensures.goes e.prop h (rooted (record { attached = e.prop; root = e.trail }) h v).goes))
