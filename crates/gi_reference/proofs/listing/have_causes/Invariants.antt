use Rattle.std.proofs.Common.{◌≡◌, ℕ, ◌<◌, ◌++◌, take}
use Rattle.gi_reference.proofs.Causes.{HasForced}
use Rattle.gi_reference.proofs.listing.have_causes.Given as goal

abbrev pub invariant-loop-l : goal.invariant-loop-l
invariant-loop-l l = record { earlier : l.earlier ≡ l.start ++ take l.l-index l.lits; each : (k : ℕ) → k < l.l-index → HasForced l.clauses l.start l.lits k }
