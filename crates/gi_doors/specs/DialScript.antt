-- What a dial in memory does.
use Rattle.std.specs.Prelude.{◌≡◌, ℕ, Option, Some, None}
use Rattle.gi_outside.specs.Link.{up}
use Rattle.gi_outside.specs.declared.memory.MemoryLink.{MemoryLink}
use Rattle.gi_doors.specs.declared.dial.Dialed.{Dialed}
use Rattle.gi_doors.specs.declared.dial.Dialed.TheVariants as dialed

-- without its link it has given one
abbrev pub count_given : Option MemoryLink → ℕ
count_given (Some link) = 0
count_given None = 1

-- it gives its link where it has it still, and fails exactly where it hasn't
abbrev pub GivesOnce : Dialed MemoryLink → Option MemoryLink → Option MemoryLink → Type 0
GivesOnce (dialed.Link link) old new = (old ≡ Some link) × (new ≡ None)
GivesOnce dialed.Failed old new = (old ≡ None) × (new ≡ None)

-- a count of faults, after a dial
abbrev pub dials_failed : Dialed MemoryLink → ℕ → ℕ
dials_failed (dialed.Link link) before = before
dials_failed dialed.Failed before = up before
