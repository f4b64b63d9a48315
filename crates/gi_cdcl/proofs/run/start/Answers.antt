use Rattle.std.proofs.Common.{◌≡◌, ℕ, max, ap, sym, ◌∙◌, arith}
use Rattle.gi_prop.specs.TrailView.{TrailView}
use Rattle.gi_cdcl.proofs.Going.{going_start}
use Rattle.gi_cdcl.proofs.run.start.Goals as goal

pub run-requires-clause-going : goal.run-requires-clause-going
run-requires-clause-going g c =
    let t = c.args.state.now.trail in
    let p = c.args.state.now.prop in
    let h = c.args.store.now in
    let b = c.grow.new.self in
    let v : b.vars ≡ max t.vars c.vars-vars.result = ap (λ (x : TrailView). x.vars) c.in_ok-grow.ensures.ok in
    let a = c.requires.attached in
    going_start p h t b c.args.assumed.now c.vars-vars.ensures.whole.well_formed c.requires.known a c.requires.sound c.requires.root
    (c.in_ok-grow.ensures.ok ∙ ap (λ (n : ℕ). record t { vars = n }) (sym v)) (c.grow.ensures.goes p h a.goes) (rw (v, c.vars-vars.ensures.value) (omega arith)) c.requires.assumed
