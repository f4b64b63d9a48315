use Rattle.std.proofs.Common.{◌≡◌, arith, ap, length, sym, ◌∙◌, subst}
use Rattle.gi_store.specs.StoreView.{StoreView, problem_of, IsLive, Keeps}
use Rattle.gi_lit.specs.Problem.{IsPlain}
use Rattle.gi_store.proofs.Counted.{counted_plain, counted_same}
use Rattle.gi_store.proofs.Views.{held_plain, was_free}
use Rattle.gi_store.proofs.Removing.{keeps_plain, live_plain}
use Rattle.gi_store.proofs.store.Store.add.Goals as goal

pub invariant_of-self : goal.invariant_of-self
invariant_of-self c = rw c.in_err-key.ensures.err.0 (counted_same c.self.inside.kinds.items c.self.inside.slots c.insert.new.slots _ _ _ _ _ _ _ c.self.invariant c.in_err-key.ensures.err.1)

pub invariant_of-self-2 : goal.invariant_of-self-2
invariant_of-self-2 c =
    let e : c.from_vec-clause.result ≡ c.args.c.now = c.from_vec-clause.ensures ∙ c.in_ok-from_slice.ensures.items in
    let long = ap length e in
    rw c.in_ok-key.ensures.keys (counted_plain c.self.inside.kinds.items c.self.inside.slots c.insert.new.slots _ _ _ _ _ _ _ c.self.invariant c.in_ok-key.key c.from_vec-clause.result c.in_ok-key.ensures.vacant c.in_ok-key.ensures.updates (subst (λ (h : StoreView). IsPlain (problem_of h) c.from_vec-clause.result) (sym c.self.view_is) (subst (λ xs. IsPlain (problem_of c.args.self.now) xs) (sym e) c.requires)) _ (omega (arith, c.in_ok-more.ensures.ok, long)))

pub returns-clause-ok : goal.returns-clause-ok
returns-clause-ok c =
    let e : c.from_vec-clause.result ≡ c.args.c.now = c.from_vec-clause.ensures ∙ c.in_ok-from_slice.ensures.items in
    rw (c.in_ok-key.ensures.keys, ← c.self.view_is, ← e) (held_plain c.self.inside.slots c.insert.new.slots c.in_ok-key.key c.from_vec-clause.result c.in_ok-key.ensures.vacant c.in_ok-key.ensures.updates _ _ _ c.self.invariant.kept.stored (length c.self.inside.kinds.items) c.self.inside.active.items c.self.inside.freed.items)

pub returns-clause-fresh : goal.returns-clause-fresh
returns-clause-fresh c = subst (λ h. ¬ IsLive h c.in_ok-key.key) c.self.view_is (was_free c.self.inside.slots c.insert.new.slots c.in_ok-key.key c.from_vec-clause.result c.in_ok-key.ensures.vacant c.in_ok-key.ensures.updates _ _ _ c.self.invariant.kept.stored (length c.self.inside.kinds.items) c.self.inside.active.items c.self.inside.freed.items)

pub returns-clause-keeps : goal.returns-clause-keeps
returns-clause-keeps c = subst (Keeps c.args.self.now) (sym (returns-clause-ok c)) (keeps_plain c.in_ok-key.key c.args.c.now c.args.self.now)

pub returns-clause-live : goal.returns-clause-live
returns-clause-live c = subst (λ (h : StoreView). IsLive h c.in_ok-key.key) (sym (returns-clause-ok c)) (live_plain c.in_ok-key.key c.args.c.now c.args.self.now)
