-- What a word of a body gives.
use Rattle.std.specs.Prelude.{◌≡◌, ◌≢◌, ◌≤◌, ◌<◌, ◌⊎◌, ℤ, pos, length, Option, Some, None, Result, Ok, Err}
use Rattle.gi_text.specs.Numbers.{size_of}
use Rattle.gi_dimacs.specs.declared.fault.CnfCode.{CnfCode}
use Rattle.gi_dimacs.specs.declared.fault.CnfCode.TheVariants.{Limit}
use Rattle.gi_dimacs.specs.declared.words.Taken.{Taken}
use Rattle.gi_dimacs.specs.declared.words.Asking.{Asking}
use Rattle.gi_dimacs.specs.declared.words.Asking.TheVariants.{Goes, Ends, Stops}
use Rattle.gi_dimacs.specs.Files.{asked, with_assumption}
use Rattle.gi_lit.specs.Literals.{max_var}
use Rattle.gi_dimacs.specs.Limits.{most_assumptions}

-- a number, and that it is within the variables
abbrev pub Is : Result ℤ CnfCode → Result ℤ CnfCode → Type 0
Is (Ok z) read = (read ≡ Ok z) × (size_of z ≤ max_var)
Is (Err c) read = read ≡ Err c

-- a word of the clauses
abbrev pub Gives : Option CnfCode → Result Taken CnfCode → Taken → Taken → Type 0
Gives None read old new = read ≡ Ok new
Gives (Some c) read old new = (read ≡ Err c) × (new ≡ old)

-- a word of an ask: a literal, the 0, or a bad word
abbrev pub GivesAsk : Asking → Result ℤ CnfCode → Taken → Taken → Type 0
GivesAsk Goes read old new = (z : ℤ) × (read ≡ Ok z) × (z ≢ pos 0)
    × (length old.begun < most_assumptions) × (new ≡ with_assumption old z)
GivesAsk Ends read old new = (read ≡ Ok (pos 0)) × (new ≡ asked old)
GivesAsk (Stops c) read old new = (new ≡ old)
    × ((read ≡ Err c) ⊎ ((z : ℤ) × (read ≡ Ok z) × (z ≢ pos 0)
    × (most_assumptions ≤ length old.begun) × (c ≡ Limit)))
