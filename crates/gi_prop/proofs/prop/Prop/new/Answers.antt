use Rattle.gi_prop.proofs.Slots.{attached_at}
use Rattle.gi_prop.proofs.Keys.{goes_none}
use Rattle.gi_prop.proofs.Attaching.{kept_none, none_at}
use Rattle.gi_prop.proofs.prop.Prop.new.Goals as goal

pub invariant_of-result : goal.invariant_of-result
invariant_of-result c = kept_none _ _ _ c.new.ensures.items c.new-2.ensures.empty c.new-3.ensures.empty c.new-2.ensures.apart c.new-3.ensures.apart

pub returns-clause-none : goal.returns-clause-none
returns-clause-none c = λ k h. none_at _ k c.new.ensures.items (attached_at _ k h)

pub returns-clause-goes : goal.returns-clause-goes
returns-clause-goes c = λ s t. goes_none _ s t (λ k h. none_at _ k c.new.ensures.items (attached_at _ k h))
