-- How much a machine holds.
use Rattle.std.specs.Prelude.{ℕ, ◌^◌}

-- plain clauses and groups together
abbrev pub most_clauses : ℕ
most_clauses = 4194304

-- their literals as given: for a group those of its clause, and one for each guard after the first
abbrev pub most_lits : ℕ
most_lits = 67108864

-- pending assumptions
abbrev pub most_pending : ℕ
most_pending = 1048576

-- open scopes
abbrev pub most_scopes : ℕ
most_scopes = 65536

-- bytes of a payload
abbrev pub most_payload : ℕ
most_payload = 16777216

-- solves
abbrev pub most_solves : ℕ
most_solves = 2 ^ 56

-- learnt clauses in one slice of work
abbrev pub most_news : ℕ
most_news = 1024

-- learnt clauses with which a solve starts without a trim
abbrev pub most_untrimmed : ℕ
most_untrimmed = 20000
