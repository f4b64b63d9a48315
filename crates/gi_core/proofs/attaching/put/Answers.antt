use Rattle.std.proofs.Common.{ℕ, sym, subst}
use Rattle.gi_lit.specs.Problem.{IsPlain, grown}
use Rattle.gi_store.specs.StoreView.{StoreView, problem_of}
use Rattle.gi_core.proofs.Keys.{put_goes, put_joined}
use Rattle.gi_core.proofs.Reading.{plain_grown}
use Rattle.gi_core.proofs.attaching.put.Goals as goal

pub add-requires : goal.add-requires
add-requires c =
    let p = problem_of c.args.store.now in
    subst (λ (x : StoreView). IsPlain (problem_of x) c.args.c.now) (sym c.in_ok-grow.ensures.ok) (subst (λ (n : ℕ). IsPlain (grown n p) c.args.c.now) (sym c.top_variable.ensures.value) (plain_grown p c.args.c.now c.is_whole.ensures.whole.well_formed c.requires.usable))

pub attach-requires-clause-goes : goal.attach-requires-clause-goes
attach-requires-clause-goes c = put_goes c.edits_keep_searches.ensures c.args.search.now c.args.store.now c.grow.new.self c.add.new.self _ c.in_ok-key.key c.args.c.now c.requires.joined c.in_ok-grow.ensures.ok c.grow.ensures.keeps c.in_ok-key.ensures.ok c.add.ensures.keeps

pub returns-clause-joined : goal.returns-clause-joined
returns-clause-joined c = put_joined c.args.search.now c.attach.new.self c.args.store.now c.grow.new.self c.add.new.self _ c.in_ok-key.key c.args.c.now c.requires.joined c.in_ok-grow.ensures.ok c.in_ok-key.ensures.ok c.in_ok-attach.ensures.ok c.attach.ensures.goes
