use Rattle.std.proofs.Common.{◌≡◌, ℕ, List, [], ◌∷◌, ◌++◌, ap, ◌∙◌}
use Rattle.gi_lit.specs.Literals.{opposite}
use Rattle.gi_reference.proofs.Deciding.{ok_like}
use Rattle.gi_reference.proofs.Trying.{to_consequence, from_consequence}
use Rattle.gi_reference.proofs.truth.is_consequence.Goals as goal

pub returns : goal.returns
returns c =
    let given : c.append.new.to ≡ c.args.given.now = c.in_ok-append.ensures ∙ ap (λ xs. xs ++ c.args.given.now) c.new-lits.ensures in
    let all : c.as_slice.result.now ≡ c.args.given.now ++ opposite c.args.l ∷ [] = c.as_slice.ensures ∙ c.in_ok-push.ensures.ok ∙ ap (λ xs. xs ++ c.not.result ∷ []) given ∙ ap (λ l. c.args.given.now ++ l ∷ []) c.not.ensures in
    ok_like c.fails.result (to_consequence c.args.clauses.now c.args.given.now c.args.l c.as_slice.result.now all) (from_consequence c.args.clauses.now c.args.given.now c.args.l c.as_slice.result.now all) c.fails.ensures
