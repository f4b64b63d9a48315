use Rattle.std.proofs.Common.{◌≡◌, ◌<◌, List, ℕ, length, sym, subst, rules}
use Rattle.std.specs.List.{All}
use Rattle.gi_aiger.specs.Places.{places_by_level}
use Rattle.gi_aiger.proofs.Resolving.{own_inside}
use Rattle.gi_aiger.proofs.gates.acyclic_places.Goals as goal

pub returns-clause-inside : goal.returns-clause-inside
returns-clause-inside c =
    let order : c.in-Some.places.items ≡ places_by_level c.args.gates.now = search rules in
    subst (λ (ps : List ℕ). All (λ k. k < length c.args.gates.now) ps) (sym order) (own_inside c.args.gates.now c.requires.apart c.requires.acyclic)
