use Rattle.std.proofs.Common.{ℕ, ◌<◌, List, [], length, refl, sym, subst, arith}
use Rattle.std.proofs.lemmas.List.Elements.{All-contains}
use Rattle.gi_cdcl.specs.Sound.{stored}
use Rattle.gi_lit.specs.Learnt.{IsFresh, IsDerived}
use Rattle.gi_store.specs.StoreView.{problem_of, known_of}
use Rattle.gi_cdcl.proofs.Going.{adds_none, empty_conflicts, empty_is_fresh}
use Rattle.gi_cdcl.proofs.Rooted.{sound_learnt}
use Rattle.gi_cdcl.proofs.Ending.{failing_root, failing_learnt}
use Rattle.gi_cdcl.proofs.learn.refute.Goals as goal

pub returns-then-has_empty-clause-leads : goal.returns-then-has_empty-clause-leads
returns-then-has_empty-clause-leads c assumed =
    let h = c.args.store.now in
    let q = c.requires.conflict in
    let d = empty_conflicts h c.requires.known c.args.state.now.trail c.level-level.ensures.trail c.requires.ready.sound c.requires.root c.args.conflict q.clause q.held q.falsified in
    (c.requires.tied, c.requires.ready.sound, failing_root h assumed c.vars-vars.ensures.whole.well_formed c.requires.known d)

pub returns-then-has_empty-clause-adds : goal.returns-then-has_empty-clause-adds
returns-then-has_empty-clause-adds c = adds_none c.args.news.now.items c.args.news.now.items refl

pub returns-clause-root : goal.returns-clause-root
returns-clause-root c e = absurd (let z : 0 < length {A = ℕ} [] = All-contains (λ (xs : List ℕ). 0 < length xs) (stored c.args.store.now) [] (c.if-has_empty.ensures.no refl) e in omega (arith, z))

pub add_clause-requires-clause-fresh : goal.add_clause-requires-clause-fresh
add_clause-requires-clause-fresh c =
    let h = c.args.store.now in
    let q = c.requires.conflict in
    subst (λ (xs : List ℕ). IsFresh (problem_of h) (known_of h) xs × IsDerived (problem_of h) (known_of h) xs) (sym c.new-empty.ensures)
    (empty_is_fresh h c.requires.known c.args.state.now.trail c.level-level.ensures.trail c.requires.ready.sound c.requires.root c.args.conflict q.clause q.held q.falsified (c.if-has_empty.ensures.no refl))

pub returns-clause-leads : goal.returns-clause-leads
returns-clause-leads c assumed =
    let h = c.args.store.now in
    let q = c.requires.conflict in
    let s = c.in_ok-add_clause.ensures.stored in
    let d = empty_conflicts h c.requires.known c.args.state.now.trail c.level-level.ensures.trail c.requires.ready.sound c.requires.root c.args.conflict q.clause q.held q.falsified in
    (c.in_ok-add_clause.ensures.tied, sound_learnt h c.add_clause.new.store c.args.state.now.trail s.0 c.new-empty.result s.1 c.requires.ready.sound, failing_learnt h c.add_clause.new.store assumed s.0 c.new-empty.result s.1 (failing_root h assumed c.vars-vars.ensures.whole.well_formed c.requires.known d))
