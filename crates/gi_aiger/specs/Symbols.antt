-- A symbol's line.
use Rattle.std.specs.Prelude.{ℕ, ◌==◌, nat_lt, List, length, drop, slice_index, Option, Some, None, if◌then◌else◌}
use Rattle.gi_text.specs.Numbers.{magnitude}
use Rattle.gi_aiger.specs.declared.aig.Symbol.{Symbol}
use Rattle.gi_aiger.specs.declared.head.Head.{Head}
use Rattle.gi_aiger.specs.Fields.{split_space}

-- how many places the section of a kind has: the kinds are `i`, `l`, `o`, `b`, `c`, `j` and `f`
abbrev pub places_of : Head → ℕ → ℕ
places_of h kind = if kind == 105 then h.inputs else if kind == 108 then h.latches else if kind == 111 then h.outs else if kind == 98 then h.bads
    else if kind == 99 then h.cons else if kind == 106 then h.justice else if kind == 102 then h.fair else 0

-- a place of a section
abbrev pub place_in : ℕ → Option ℕ → Option ℕ
place_in places (Some place) = if nat_lt place places then Some place else None
place_in places None = None

-- the name has a byte at least
abbrev pub symbol_named : ℕ → Option ℕ → List ℕ → Option Symbol
symbol_named kind (Some place) name = if length name == 0 then None else Some (record { kind = kind; place = place; name = name })
symbol_named kind None name = None

abbrev pub symbol_parts : ℕ → ℕ → Option (List ℕ × List ℕ) → Option Symbol
symbol_parts places kind (Some parts) = symbol_named kind (place_in places (magnitude parts.0)) parts.1
symbol_parts places kind None = None

-- the symbol that a line is: a kind, a place, one space, and a name up to the line's end
abbrev pub symbol_of : Head → List ℕ → Option Symbol
symbol_of h line = symbol_parts (places_of h (slice_index line 0)) (slice_index line 0) (split_space (drop 1 line))
