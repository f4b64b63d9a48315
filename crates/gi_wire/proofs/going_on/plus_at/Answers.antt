use Rattle.std.proofs.Common.{ℕ, List, codes, bytes_eq, ap, sym, ◌∙◌}
use Rattle.gi_wire.proofs.LastWord.{at_plus, no_plus}
use Rattle.gi_wire.proofs.going_on.plus_at.Goals as goal

pub returns-then-eq : goal.returns-then-eq
returns-then-eq c =
    let last = c.end_of_words-end.ensures in
    let word = c.start_of_word-start.ensures in
    at_plus c.args.line.now c.start_of_word-start.result c.end_of_words-end.result word.within last.within word.run word.first last.behind
    (ap (λ (xs : List ℕ). bytes_eq xs (codes "+")) (sym c.part.ensures) ∙ ap (λ (xs : List ℕ). bytes_eq c.part.result.now xs) (sym c.as_slice.ensures) ∙ sym c.eq.ensures ∙ c.if-eq.true)

pub returns : goal.returns
returns c =
    let last = c.end_of_words-end.ensures in
    let word = c.start_of_word-start.ensures in
    no_plus c.args.line.now c.start_of_word-start.result c.end_of_words-end.result word.within last.within word.run word.first last.last last.behind
    (ap (λ (xs : List ℕ). bytes_eq xs (codes "+")) (sym c.part.ensures) ∙ ap (λ (xs : List ℕ). bytes_eq c.part.result.now xs) (sym c.as_slice.ensures) ∙ sym c.eq.ensures ∙ c.if-eq.false)
