use Rattle.std.proofs.Common.{◌≡◌, ap, subst, sym, arith, max}
use Rattle.gi_prop.specs.TrailView.{TrailView}
use Rattle.gi_cdcl.proofs.Stores.{holds_within}
use Rattle.gi_cdcl.specs.Searching.{Searching, MatchesStore}
use Rattle.gi_cdcl.proofs.Rooted.{rooted, goes_still, attach_keeps, err_both}
use Rattle.gi_cdcl.proofs.search.Search.attach.Goals as goal

pub attach-requires-clause-within : goal.attach-requires-clause-within
attach-requires-clause-within c clause held =
    let e : c.grow.new.self.vars ≡ max c.self.inside.state.trail.vars c.vars.result = ap (λ (t : TrailView). t.vars) c.in_ok-grow.ensures.ok in
    holds_within c.args.store.now c.vars.ensures.whole c.args.key clause held c.grow.new.self.vars (rw (e, c.vars.ensures.value) (omega arith))

pub attach-requires-clause-goes : goal.attach-requires-clause-goes
attach-requires-clause-goes c =
    let e = c.self.inside.state in
    let old : Searching = record { attached = e.prop; root = e.trail } in
    c.grow.ensures.goes e.prop c.args.store.now (rooted old c.args.store.now (subst (λ (s : Searching). MatchesStore s c.args.store.now) (sym c.self.view_is) c.requires.goes)).goes

pub returns-clause-goes : goal.returns-clause-goes
returns-clause-goes c =
    let e = c.self.inside.state in
    let old : Searching = record { attached = e.prop; root = e.trail } in
    let new : Searching = record { attached = c.attach.new.self; root = c.grow.new.self } in
    goes_still old new c.args.store.now (subst (λ (s : Searching). MatchesStore s c.args.store.now) (sym c.self.view_is) c.requires.goes) (attach_keeps c.attach.result e.prop c.attach.new.self c.args.key c.attach.ensures.attached c.attach.ensures.err)
    (ap (λ (t : TrailView). t.lits) c.in_ok-grow.ensures.ok) (ap (λ (t : TrailView). t.reasons) c.in_ok-grow.ensures.ok) c.attach.ensures.goes

pub returns-clause-err_goes : goal.returns-clause-err_goes
returns-clause-err_goes c =
    let e = c.self.inside.state in
    let old : Searching = record { attached = e.prop; root = e.trail } in
    let new : Searching = record { attached = c.attach.new.self; root = c.grow.new.self } in
    err_both c.attach.result (λ same goes h g. let v = subst (λ (s : Searching). MatchesStore s h) (sym c.self.view_is) g in goes_still old new h v same.kept (ap (λ (t : TrailView). t.lits) c.in_ok-grow.ensures.ok) (ap (λ (t : TrailView). t.reasons) c.in_ok-grow.ensures.ok) (goes h c.grow.new.self (c.grow.ensures.goes e.prop h (rooted old h v).goes)))
    c.attach.ensures.err c.attach.ensures.err_goes
