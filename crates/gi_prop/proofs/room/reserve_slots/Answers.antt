use Rattle.std.proofs.Common.{◌≡◌, ℕ, Option, Some, None, sym, ◌∙◌, arith}
use Rattle.std.specs.Option.{SomeIff}
use Rattle.gi_prop.proofs.room.reserve_slots.Goals as goal

some_value : (o : Option ℕ) (P : Type 0) (v n : ℕ) → SomeIff o P v → o ≡ Some n → n ≡ v
some_value None P v n h e = absurd (let f : None ≡ Some n = e in cc)
some_value (Some x) P v n h e = (let f : x ≡ n = cc in sym f) ∙ h.1

pub returns-clause-long : goal.returns-clause-long
returns-clause-long c =
    let n = some_value _ _ _ _ c.checked_add.ensures c.in_ok-most.ensures.ok_part in
    omega (arith, n, c.saturating_sub-more.ensures, c.len.ensures, c.in_ok-reserve.ensures.len)
