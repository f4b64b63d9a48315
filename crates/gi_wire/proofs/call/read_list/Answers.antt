use Rattle.std.proofs.Common.{◌++◌, ℕ, List, option_map, ap, sym, ◌∙◌}
use Rattle.gi_wire.specs.Grammar.{list_at}
use Rattle.gi_wire.proofs.Listing.{list_goes_on}
use Rattle.gi_wire.proofs.call.read_list.Goals as goal

pub words-preserved : goal.words-preserved
words-preserved c =
    c.words.invariant ∙ ap (λ (ws : List (List ℕ)). option_map (λ ls. c.words.list ++ ls) (list_at ws)) c.in-Some.ensures.steps
    ∙ list_goes_on c.words.list c.in-Some.word.now c.next.new.self c.in-Some-read_literal.literal (sym c.is_end.ensures ∙ c.if-is_end.false) (sym c.in-Some-read_literal.ensures)
    ∙ ap (λ (xs : List ℕ). option_map (λ ls. xs ++ ls) (list_at c.next.new.self)) (sym c.in_ok-push-in-Some-read_literal.ensures.ok)
