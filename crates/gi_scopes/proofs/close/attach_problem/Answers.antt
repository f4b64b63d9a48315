use Rattle.std.proofs.Common.{arith}
use Rattle.gi_store.specs.StoreView.{keys_of}
use Rattle.gi_scopes.specs.Under.{base_of}
use Rattle.gi_scopes.proofs.Attaching.{key_is, attaching_free, attaching_more, attached_all, attached_base, holds_within}
use Rattle.gi_scopes.proofs.Base.{keeps_base}
use Rattle.gi_scopes.proofs.close.attach_problem.Goals as goal

pub attach-requires-clause-free : goal.attach-requires-clause-free
attach-requires-clause-free c =
    let k = key_is (keys_of c.args.store.now) c.loop-i.i c.in-Some.key c.in-Some.ensures in
    attaching_free c.args.store.now c.vars-vars.ensures.keys c.args.trail.now c.loop-i.prop c.loop-i.i c.loop-i.invariant c.in-Some.key k.0 k.1

pub attach-requires-clause-within : goal.attach-requires-clause-within
attach-requires-clause-within c clause held = holds_within c.args.store.now c.vars-vars.ensures.whole c.in-Some.key clause held c.args.trail.now.vars c.requires.vars

pub loop-i-preserved : goal.loop-i-preserved
loop-i-preserved c =
    let k = key_is (keys_of c.args.store.now) c.loop-i.i c.in-Some.key c.in-Some.ensures in
    attaching_more c.args.store.now c.args.trail.now c.loop-i.prop c.attach.new.self c.loop-i.i c.loop-i.invariant c.in-Some.key k.0 k.1 c.in_ok-attach.ensures.attached c.attach.ensures.goes

pub returns-clause-keys : goal.returns-clause-keys
returns-clause-keys c = attached_all c.args.store.now c.args.trail.now c.loop-i.prop c.loop-i.i (omega arith) c.loop-i.invariant

pub returns-clause-goes : goal.returns-clause-goes
returns-clause-goes c =
    let s = c.args.store.now in
    let keys = attached_all s c.args.trail.now c.loop-i.prop c.loop-i.i (omega arith) c.loop-i.invariant in
    c.edits_keep_goes.ensures.edits c.loop-i.prop s (base_of s) c.args.trail.now c.loop-i.invariant.goes (keeps_base s c.vars-vars.ensures.keys) (attached_base s c.vars-vars.ensures.keys c.loop-i.prop keys)
