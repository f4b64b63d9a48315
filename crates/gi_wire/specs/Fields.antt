-- The fields of a line: what stands between its spaces.
use Rattle.std.specs.Prelude.{ℕ, ◌==◌, List, [], ◌∷◌, ◌++◌, if◌then◌else◌}

-- the fields of what follows these bytes of one
unfoldable pub fields_from : List ℕ → List ℕ → List (List ℕ)
fields_from begun [] = begun ∷ []
fields_from begun (b ∷ bs) = if b == 32 then begun ∷ fields_from [] bs
    else fields_from (begun ++ b ∷ []) bs

-- the fields, in order; between two spaces is an empty one
abbrev pub fields_of : List ℕ → List (List ℕ)
fields_of line = fields_from [] line
