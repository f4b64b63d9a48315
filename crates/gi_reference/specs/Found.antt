-- How a level is seen as a scope.
use Rattle.std.specs.Prelude.{ℕ, Bool, true, false, List}
use Rattle.gi_model.specs.State.{Found, listed, failing}

abbrev pub found_of : Bool → List ℕ → Found
found_of true ls = failing ls
found_of false ls = listed ls

-- whether a test failed
abbrev pub has_failed : Found → Bool
has_failed (listed ls) = false
has_failed (failing w) = true
