-- The room that a program opens.
use Rattle.std.proofs.Common.{◌≡◌, ℕ, ◌≤◌, [], ◌∷◌, Contains, Option, Some, None, Result, Ok, Err, option_map, refl, ap, sym, subst, arith}
use Rattle.std.specs.Prelude.{IfOk, IfSome}
use Rattle.std.specs.Result.{result_ok}
use Rattle.gi_room.specs.Seen.{Seen, new_pass}
use Rattle.gi_run.specs.Kept.{IsNew}
use Rattle.gi_turn.specs.Known.{Place}

new_is : (place : Place) → IsNew (new_pass place)
new_is place = record {
  sole = ((0, omega arith, refl), λ n has. absurd (let at = has.1 in omega arith));
  history = refl;
  asked = refl;
  left = omega arith;
}

-- what was opened is a room, with its first pass
pub opened : {E : Type 0} (P : Option Seen → Type 0) (r : Result (Place × Seen) E) → IfOk r (λ (o : Place × Seen). o.1 ≡ new_pass o.0)
    → P (option_map (λ (o : Place × Seen). o.1) (result_ok r)) → (seen : Option Seen) × IfSome seen IsNew × P seen
opened P (Ok o) is starts = (Some o.1, subst IsNew (sym is) (new_is o.0), starts)
opened P (Err e) is starts = (None, tt, starts)

-- the pass is one of the room
pub of_room : {E : Type 0} (r : Result (Place × Seen) E) → IfOk r (λ (o : Place × Seen). o.1 ≡ new_pass o.0) → IfOk r (λ (o : Place × Seen). o.1.place ≡ o.0)
of_room (Ok o) is = ap (λ (p : Seen). p.place) is
of_room (Err e) is = tt
