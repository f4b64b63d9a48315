use Rattle.std.proofs.Common.{◌++◌, [], Vec, Global, Bool, List, ℕ, arith}
use Rattle.std.proofs.lemmas.Result.{IfOk-weaker}
use Rattle.gi_model.specs.State.{scope_listed}
use Rattle.gi_scopes.specs.Listing.{ArePlaces}
use Rattle.gi_scopes.proofs.Noting.{places_alone, places_behind}
use Rattle.gi_scopes.proofs.implied.marks_from.Goals as goal

pub returns : goal.returns
returns c =
    let all : List ℕ = c.args.trail.now.lits in
    let known : List ℕ = c.args.given.now ++ scope_listed c.args.levels.now in
    IfOk-weaker c.known_places-2.result (λ (ms : Vec Bool Global). ArePlaces all c.args.from (c.args.assumed.now ++ scope_listed []) ms.items) (λ (ms : Vec Bool Global). ArePlaces all c.args.from known ms.items)
    (λ ms h. places_behind all c.args.from c.args.assumed.now known ms.items (c.requires.behind (omega (arith, c.if-from-eq0.false))) (places_alone all c.args.from c.args.assumed.now ms.items h))
    c.known_places-2.ensures
