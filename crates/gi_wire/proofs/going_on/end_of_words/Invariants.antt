use Rattle.std.proofs.Common.{◌≡◌, ◌≤◌, ◌<◌, ℕ, get_or, length, true}
use Rattle.gi_text.specs.Words.{is_white}
use Rattle.gi_wire.proofs.going_on.end_of_words.Given as goal

abbrev pub invariant-white : goal.invariant-white
invariant-white l = record {
  within : l.end ≤ length l.line;
  behind : (k : ℕ) → l.end ≤ k → k < length l.line → is_white (get_or l.line k 0) ≡ true;
}

abbrev pub decreases-white : goal.decreases-white
decreases-white l = l.end
