-- How what a test found is seen.
use Rattle.gi_model.specs.State.{Found, listed, failing}
use Rattle.gi_scopes.specs.declared.finding.Finding.{Finding}
use Rattle.gi_scopes.specs.declared.finding.Finding.TheVariants.{Listed, Failing}

abbrev pub found_of : Finding → Found
found_of (Listed ls) = listed ls
found_of (Failing w) = failing w
