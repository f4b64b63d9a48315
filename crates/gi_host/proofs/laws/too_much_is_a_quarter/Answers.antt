use Rattle.std.proofs.Common.{ℕ, length, ap, arith, inl, inr}
use Rattle.gi_room.specs.Entries.{all_own_of}
use Rattle.gi_host.proofs.laws.too_much_is_a_quarter.Goals as goal

pub returns : goal.returns
returns c = λ old new before after h.
    let s = h.serves.over.session in
    elim s.served.ends.0 [
      | inl many ↦ inl many
      | inr out ↦ inr (let l = s.left in let z = out.1 in let q = h.quarter in let same = ap (λ (n : ℕ). length (all_own_of n s.entries)) h.number in omega arith)
    ]
