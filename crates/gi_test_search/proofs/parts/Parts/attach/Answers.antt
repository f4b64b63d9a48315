use Rattle.std.proofs.Common.{◌≡◌, ℕ, List, [], ◌∷◌, ◌++◌, map, inl, inr, sym, subst, arith}
use Rattle.std.proofs.lemmas.List.Elements.{Contains-append_left, Contains-append_right, Contains-append_cases}
use Rattle.gi_store.specs.StoreView.{Entry, StoreView, Holds, IsLive, IsWithin, Keeps, full_entry, with_plain}
use Rattle.gi_prop.specs.TrailView.{TrailView}
use Rattle.gi_prop.specs.Attached.{Attached, IsAttached, Goes}
use Rattle.gi_prop.proofs.Keys.{goes_edit, goes_clause}
use Rattle.gi_prop.proofs.Adding.{held_live}
use Rattle.gi_test_search.proofs.parts.Parts.attach.Goals as goal

-- a key in use stays so where a clause is added
live_more : (s : StoreView) (key : ℕ) (c : List ℕ) (k : ℕ) (d : List ℕ) → Holds s k d → IsLive (with_plain key c s) k
live_more s key c k d h =
    let rest : List Entry = map full_entry s.groups ++ s.learnt in
    let added : Entry = record { key = key; lits = c } in
    held_live (with_plain key c s) k d (elim (Contains-append_cases s.plain rest (record { key = k; lits = d }) h) [
      | inl a ↦ Contains-append_left (s.plain ++ added ∷ []) rest _ (Contains-append_left s.plain (added ∷ []) _ a)
      | inr b ↦ Contains-append_right (s.plain ++ added ∷ []) rest _ b
    ])

-- so a propagator that goes with a store goes with it then
goes_more : (p : Attached) (old new : StoreView) (t : TrailView) (key : ℕ) (c : List ℕ) → Goes p old t → Keeps old new → new ≡ with_plain key c old → Goes p new t
goes_more p old new t key c g keeps e = goes_edit p old new t g keeps (λ k h.
    let d = goes_clause p old t g k h in
    subst (λ (s : StoreView). IsLive s k) (sym e) (live_more old key c k d.clause d.held))

-- a key that isn't in use isn't attached
free_fresh : (p : Attached) (s : StoreView) (t : TrailView) (key : ℕ) → Goes p s t → (IsLive s key → ⊥) → IsAttached p key → ⊥
free_fresh p s t key g fresh h =
    let d = goes_clause p s t g key h in
    fresh (held_live s key d.clause d.held)

pub invariant_of-self-then-vars : goal.invariant_of-self-then-vars
invariant_of-self-then-vars c = goes_more c.self.inside.prop c.self.inside.store c.add.new.self c.self.inside.trail c.in_ok-key.key c.args.clause.now c.self.invariant c.in_ok-key.ensures.keeps c.in_ok-key.ensures.ok

pub attach-requires-clause-goes : goal.attach-requires-clause-goes
attach-requires-clause-goes c = goes_more c.self.inside.prop c.self.inside.store c.add.new.self c.self.inside.trail c.in_ok-key.key c.args.clause.now c.self.invariant c.in_ok-key.ensures.keeps c.in_ok-key.ensures.ok

pub attach-requires-clause-free : goal.attach-requires-clause-free
attach-requires-clause-free c = free_fresh c.self.inside.prop c.self.inside.store c.self.inside.trail c.in_ok-key.key c.self.invariant c.in_ok-key.ensures.fresh

pub attach-requires-clause-within : goal.attach-requires-clause-within
attach-requires-clause-within c = λ clause held. subst (IsWithin c.self.inside.trail.vars) (c.clause.ensures.only clause held) (λ k d kl.
    let w = c.is_within.ensures.0 c.if-not-is_within.false k d kl in
    (w.0, omega (arith, w.1, c.if-vars.false, c.vars.ensures.value, c.vars-2.ensures)))

pub returns-clause-fresh : goal.returns-clause-fresh
returns-clause-fresh c = λ h. free_fresh c.self.inside.prop c.self.inside.store c.self.inside.trail c.in_ok-key.key c.self.invariant c.in_ok-key.ensures.fresh (subst (λ (p : Attached). IsAttached p c.in_ok-key.key) (sym c.self.view_is) h)
