use Rattle.std.proofs.Common.{ℕ, sym, subst}
use Rattle.std.specs.List.{All, Contains}
use Rattle.gi_lit.specs.Problem.{IsPlain, grown}
use Rattle.gi_store.specs.StoreView.{StoreView, problem_of}
use Rattle.gi_core.proofs.Keys.{under_goes, under_joined}
use Rattle.gi_core.proofs.Reading.{plain_grown}
use Rattle.gi_core.proofs.attaching.put_under.Goals as goal

pub add_under-requires-clause-guards : goal.add_under-requires-clause-guards
add_under-requires-clause-guards c = subst (λ (x : StoreView). All (Contains x.active) c.args.guards.now) (sym c.in_ok-grow.ensures.ok) c.requires.guards

pub add_under-requires-clause-plain : goal.add_under-requires-clause-plain
add_under-requires-clause-plain c =
    let p = problem_of c.args.store.now in
    subst (λ (x : StoreView). IsPlain (problem_of x) c.args.c.now) (sym c.in_ok-grow.ensures.ok) (subst (λ (n : ℕ). IsPlain (grown n p) c.args.c.now) (sym c.top_variable.ensures.value) (plain_grown p c.args.c.now c.is_whole.ensures.whole.well_formed c.requires.usable))

pub attach-requires-clause-goes : goal.attach-requires-clause-goes
attach-requires-clause-goes c = under_goes c.edits_keep_searches.ensures c.args.search.now c.args.store.now c.grow.new.self c.add_under.new.self _ c.in_ok-key.key c.args.guards.now c.args.c.now c.requires.joined c.in_ok-grow.ensures.ok c.grow.ensures.keeps c.in_ok-key.ensures.ok c.add_under.ensures.keeps

pub returns-clause-joined : goal.returns-clause-joined
returns-clause-joined c = under_joined c.args.search.now c.attach.new.self c.args.store.now c.grow.new.self c.add_under.new.self _ c.in_ok-key.key c.args.guards.now c.args.c.now c.requires.joined c.in_ok-grow.ensures.ok c.in_ok-key.ensures.ok c.in_ok-attach.ensures.ok c.attach.ensures.goes
