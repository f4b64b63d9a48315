use Rattle.std.proofs.Common.{◌≡◌, ℕ, ◌-◌, ◌<◌, ◌≤◌, Option, Some, None, List, length, get_or, sym, ◌∙◌, subst, arith}
use Rattle.std.proofs.lemmas.List.{get_or_read}
use Rattle.gi_prop.specs.TrailView.{TrailView, IsUnassigned, StandsAt}
use Rattle.gi_prop.proofs.Indexing.{place_says}
use Rattle.gi_prop.proofs.trail.Trail.place_of.Goals as goal

read_place : (positions : List (Option ℕ)) (v i : ℕ) (r o : Option ℕ) → i ≡ v → i - 1 < length positions → r ≡ get_or positions (i - 1) r → o ≡ r → get_or positions (v - 1) None ≡ o
read_place positions v i r o e lt at is = rw (← e) (sym (get_or_read positions (i - 1) r lt at None) ∙ sym is)

pub returns-in-None : goal.returns-in-None
returns-in-None c =
    let within : c.args.v ≤ length c.self.inside.positions.items = rw (← c.self.view_is) at c.requires in
    let big : 1 ≤ c.args.v = omega (arith, c.index.ensures.low, c.index.ensures.value) in
    let lt : c.index.result - 1 < length c.self.inside.positions.items = omega (arith, c.index.ensures.low, c.index.ensures.value) in
    subst (λ (t : TrailView). IsUnassigned t.lits c.args.v) c.self.view_is (place_says _ _ c.self.invariant.table.indexed c.args.v None big (read_place c.self.inside.positions.items c.args.v _ _ None c.index.ensures.value lt c.index-2.ensures c.in-None.ensures))

pub returns-in-Some : goal.returns-in-Some
returns-in-Some c =
    let within : c.args.v ≤ length c.self.inside.positions.items = rw (← c.self.view_is) at c.requires in
    let big : 1 ≤ c.args.v = omega (arith, c.index.ensures.low, c.index.ensures.value) in
    let lt : c.index.result - 1 < length c.self.inside.positions.items = omega (arith, c.index.ensures.low, c.index.ensures.value) in
    subst (λ (t : TrailView). StandsAt t.lits c.args.v c.in-Some.place) c.self.view_is (place_says _ _ c.self.invariant.table.indexed c.args.v (Some c.in-Some.place) big (read_place c.self.inside.positions.items c.args.v _ _ (Some c.in-Some.place) c.index.ensures.value lt c.index-2.ensures c.in-Some.ensures))
