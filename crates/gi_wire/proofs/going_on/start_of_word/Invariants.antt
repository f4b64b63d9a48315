use Rattle.std.proofs.Common.{◌≡◌, ◌≤◌, ◌<◌, ℕ, get_or, false}
use Rattle.gi_text.specs.Words.{is_white}
use Rattle.gi_wire.proofs.going_on.start_of_word.Given as goal

abbrev pub invariant-word : goal.invariant-word
invariant-word l = record {
  within : l.start ≤ l.end;
  run : (k : ℕ) → l.start ≤ k → k < l.end → is_white (get_or l.line k 0) ≡ false;
}

abbrev pub decreases-word : goal.decreases-word
decreases-word l = l.start
