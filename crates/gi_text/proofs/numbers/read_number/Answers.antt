use Rattle.std.proofs.Common.{subst, sym, ap, ◌∙◌}
use Rattle.std.proofs.lemmas.Bool.{eqb-true, eqb-false}
use Rattle.gi_text.specs.Numbers.{magnitude, negated}
use Rattle.gi_text.specs.Number.{Reads}
use Rattle.gi_text.proofs.Magnitudes.{number_of-nil, number_of-minus, number_of-plain}
use Rattle.gi_text.proofs.numbers.read_number.Goals as goal

pub returns-then-is_empty : goal.returns-then-is_empty
returns-then-is_empty c = number_of-nil c.args.word.now (eqb-true _ 0 (sym c.is_empty.ensures ∙ c.if-is_empty.true))

pub returns-then-word-eq45 : goal.returns-then-word-eq45
returns-then-word-eq45 c = subst (λ o. Reads c.negative.result o) (sym (number_of-minus c.args.word.now c.if-word-eq45.true ∙ ap (λ xs. negated (magnitude xs)) (sym c.skip_first.ensures))) c.negative.ensures

pub returns : goal.returns
returns c = subst (λ o. Reads c.plain.result o) (sym (number_of-plain c.args.word.now (eqb-false _ 0 (sym c.is_empty.ensures ∙ c.if-is_empty.false)) c.if-word-eq45.false)) c.plain.ensures
