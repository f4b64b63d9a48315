-- What the drill prints.
use Rattle.std.specs.Prelude.{ℕ, List, [], ◌∷◌, ◌++◌, codes, decimal}
use Rattle.gi_drill.specs.declared.tally.Tally.{Tally}

-- a line of a label and a number
abbrev pub counted : List ℕ → ℕ → List ℕ
counted label n = label ++ (decimal n ++ 10 ∷ [])

-- the five lines
unfoldable pub tally_text : ℕ → Tally → List ℕ
tally_text rounds t = (((counted (codes "drill ") rounds ++ counted (codes "vars ") t.vars)
    ++ counted (codes "clauses ") t.clauses) ++ counted (codes "sat ") t.sat)
    ++ counted (codes "unsat ") t.unsat
