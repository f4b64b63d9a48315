use Rattle.std.proofs.Common.{◌≡◌, ◌<◌, ◌≤◌, ◌∷◌, [], length, arith, sym, ap, ◌∙◌, rules, length-append}
use Rattle.std.specs.List.{Contains}
use Rattle.std.proofs.lemmas.List.Elements.{All-contains, Contains-append_left}
use Rattle.gi_lit.specs.Literals.{max_var}
use Rattle.gi_store.specs.Taken.Takes.{next, again}
use Rattle.gi_store.proofs.Counted.{counted_next, counted_again}
use Rattle.gi_store.proofs.Lists.{Contains-reverse}
use Rattle.gi_store.proofs.store.Store.new_guard.Goals as goal
use Rattle.gi_store.proofs.store.Store.new_guard.Goals.{else-is_empty-via-then-is_empty+else-len, else-is_empty-via-else-is_empty}

pub take_guard-requires-clause-within : goal.take_guard-requires-clause-within
take_guard-requires-clause-within c = λ v m.
    let n : Contains c.self.inside.freed.items v = rw c.in-Ok.ensures.freed at m in
    rw c.in-Ok.ensures.kinds (All-contains (λ g. g ≤ length c.self.inside.kinds.items) _ v c.self.invariant.kept.whole.well_formed.high (Contains-append_left _ c.self.inside.active.items v (Contains-reverse c.self.inside.freed.items v n)))

pub invariant_of-self : goal.invariant_of-self
invariant_of-self c = elim c.take_guard.ensures.takes [
  | next a b g k ↦
      let none : c.self.inside.freed.items ≡ [] = sym c.in-Ok.ensures.freed ∙ a in
      let limit : length c.self.inside.kinds.items < max_var = elim c.else-is_empty.branch [
        | else-is_empty-via-then-is_empty+else-len w ↦ omega (arith, w.len.ensures, w.if-len.false, c.self.inside.kinds.ok.0)
        | else-is_empty-via-else-is_empty w ↦ absurd (let z = ap length none in let y = w.if-is_empty.false in search rules)
      ] in
      rw (k, c.in-Ok.ensures.kinds, c.take_guard.ensures.active, c.in-Ok.ensures.active, b, g, c.in-Ok.ensures.kinds, c.take_guard.ensures.capacity)
      (counted_next c.self.inside.kinds.items c.self.inside.slots _ _ _ _ _ _ _ c.self.invariant none _ limit (let y = ap length c.in-Ok.ensures.active in omega (arith, y, c.make_room.new.active.ok.0, c.in-Ok.ensures.freed_room)))
  | again e k ↦
      let f = sym c.in-Ok.ensures.freed ∙ e in
      rw (k, c.in-Ok.ensures.kinds, c.take_guard.ensures.active, c.in-Ok.ensures.active, c.take_guard.ensures.capacity)
      (counted_again c.self.inside.kinds.items c.self.inside.slots _ _ _ _ _ _ _ c.self.invariant c.take_guard.result c.take_guard.new.freed.items f _ (let z = ap length e in let y = ap length c.in-Ok.ensures.active in omega (arith, z, y, c.make_room.new.active.ok.0, c.make_room.new.freed.ok.0, length-append c.take_guard.new.freed.items (c.take_guard.result ∷ []), c.in-Ok.ensures.freed_room)))
]
