use Rattle.std.proofs.Common.{refl}
use Rattle.gi_run.proofs.starting.start.Goals as goal

pub returns-in-Taken : goal.returns-in-Taken
returns-in-Taken g c = rw (c.in-Taken.is, ← c.as_slice.ensures.value) c.begin.ensures

pub returns-in-NotText : goal.returns-in-NotText
returns-in-NotText g c = rw (c.in-NotText.is, c.end_without.ensures) (refl, record { link = refl; none = refl })

pub returns-in-NoMemory : goal.returns-in-NoMemory
returns-in-NoMemory g c = rw (c.in-NoMemory.is, c.end_without-in-NoMemory.ensures) (refl, record { link = refl; none = refl })
