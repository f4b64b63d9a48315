use Rattle.std.proofs.Common.{ap, ◌∙◌, ◌++◌, ◌∷◌, [], List, ℕ}
use Rattle.gi_aiger.proofs.Owning.{own_keeps}
use Rattle.gi_aiger.proofs.row.with_own.Goals as goal

pub returns-in_ok-extend_from_slice-in-Some : goal.returns-in_ok-extend_from_slice-in-Some
returns-in_ok-extend_from_slice-in-Some c = λ read keeps. own_keeps c.args.own c.in-Some.own c.args.numbers.items c.extend_from_slice.new.self.items read c.in-Some.is
    (c.in_ok-extend_from_slice-in-Some.ensures.items ∙ ap (λ (xs : List ℕ). xs ++ c.as_slice.result.now) (c.in_ok-push-in-Some.ensures.items ∙ ap (λ (xs : List ℕ). xs ++ c.min.result ∷ []) c.new-all.ensures.items) ∙ ap (λ (xs : List ℕ). c.min.result ∷ xs) c.as_slice.ensures.value ∙ ap (λ (n : ℕ). n ∷ c.args.numbers.items) c.min.ensures) keeps
