use Rattle.std.specs.Prelude.{ℕ}

-- how many assumptions an ask of iCNF may have
abbrev pub most_assumptions : ℕ
most_assumptions = 1048576
