use Rattle.std.proofs.Common.{◌≡◌, ◌/◌, ℕ, length, sym, subst, arith, ◌∙◌}
use Rattle.std.proofs.lemmas.List.{length-map}
use Rattle.gi_store.specs.StoreView.{Entry}
use Rattle.gi_prop.specs.Attached.{IsAttached, Detaches}
use Rattle.gi_core.specs.Joined.{HasKeys}
use Rattle.gi_core.proofs.Keys.{later, later_start, later_attached, later_drop, later_end, got_learnt, learnt_there}
use Rattle.gi_core.proofs.attaching.detach_oldest.Goals as goal

pub detach-requires : goal.detach-requires
detach-requires c =
    let h = c.args.store.now in
    let e = got_learnt h c.problem-first.result c.loop-i.i c.in-Some.key c.problem-first.ensures (sym c.in-Some.is ∙ c.key_at.ensures) in
    subst (IsAttached c.loop-i.search.attached) e.key_is (later_attached c.loop-i.search h c.loop-i.i e.entry e.within e.is c.loop-i.invariant.keys)

pub loop-i-preserved : goal.loop-i-preserved
loop-i-preserved c =
    let h = c.args.store.now in
    let e = got_learnt h c.problem-first.result c.loop-i.i c.in-Some.key c.problem-first.ensures (sym c.in-Some.is ∙ c.key_at.ensures) in
    record {
      keys = later_drop c.loop-i.search c.detach.new.self h c.loop-i.i e.entry e.within e.is c.loop-i.invariant.keys (subst (λ k. Detaches k c.loop-i.search.attached c.detach.new.self.attached) (sym e.key_is) c.detach.ensures.detached);
      goes = λ k g. c.detach.ensures.goes k (c.loop-i.invariant.goes k g);
    }

pub returns-clause-attached : goal.returns-clause-attached
returns-clause-attached c =
    let h = c.args.store.now in
    let half : c.loop-i.i ≡ length h.learnt / 2 = omega (arith, length-map h.learnt (λ (e : Entry). e.lits)) in
    later_end c.loop-i.search h (subst (λ (i : ℕ). HasKeys c.loop-i.search (later h i)) half c.loop-i.invariant.keys)

pub unreachable-requires : goal.unreachable-requires
unreachable-requires c =
    let h = c.args.store.now in
    let past = learnt_there h c.problem-first.result c.loop-i.i c.problem-first.ensures (sym c.in_default.is ∙ c.key_at.ensures) in
    omega (arith, length-map h.learnt (λ (e : Entry). e.lits))

pub loop-i-init : goal.loop-i-init
loop-i-init c = record { keys = later_start c.args.search.now c.args.store.now c.requires.all c.is_whole.ensures.keys; goes = λ k g. g }
