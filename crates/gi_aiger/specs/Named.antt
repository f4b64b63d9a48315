-- The symbols of a file, one after another.
use Rattle.std.specs.Prelude.{ℕ, Bool, ◌==◌, ◌&&◌, List, [], ◌∷◌, ◌++◌, Option, Some, None, Result, Ok, Err, if◌then◌else◌}
use Rattle.std.specs.List.{list_any}
use Rattle.gi_aiger.specs.declared.aig.Symbol.{Symbol}
use Rattle.gi_aiger.specs.declared.fault.AigCode.{AigCode}
use Rattle.gi_aiger.specs.declared.fault.AigCode.TheVariants as codes
use Rattle.gi_aiger.specs.declared.head.Head.{Head}
use Rattle.gi_aiger.specs.Symbols.{symbol_of}

-- one of the symbols is of that kind and place
unfoldable pub is_named : List Symbol → ℕ → ℕ → Bool
is_named symbols kind place = list_any (λ s. (s.kind == kind) && (s.place == place)) symbols

-- no kind and place come twice
abbrev pub named_by : Option Symbol → List Symbol → Result (List Symbol) AigCode
named_by None symbols = Err codes.Symbol
named_by (Some s) symbols = if is_named symbols s.kind s.place then Err codes.Symbol else Ok (symbols ++ s ∷ [])

-- a symbol's line, behind the symbols so far
abbrev pub add_symbol : Head → List Symbol → List ℕ → Result (List Symbol) AigCode
add_symbol h symbols line = named_by (symbol_of h line) symbols
