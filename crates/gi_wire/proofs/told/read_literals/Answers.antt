use Rattle.std.proofs.Common.{◌++◌, ℕ, List, bytes_eq, option_map, ap, sym, ◌∙◌}
use Rattle.gi_wire.specs.Answers.{literals_of}
use Rattle.gi_wire.proofs.Listing.{literals_go_on}
use Rattle.gi_wire.proofs.told.read_literals.Goals as goal

pub fields-preserved : goal.fields-preserved
fields-preserved c =
    c.fields.invariant ∙ ap (λ (fs : List (List ℕ)). option_map (λ ls. c.fields.list ++ ls) (literals_of fs)) c.in-Some.ensures
    ∙ literals_go_on c.fields.list c.in-Some.field.now c.take.new.self c.in-Some-read_spelled.literal (ap (λ (xs : List ℕ). bytes_eq c.in-Some.field.now xs) (sym c.as_slice.ensures) ∙ sym c.eq.ensures ∙ c.if-eq.false) (sym c.in-Some-read_spelled.ensures)
    ∙ ap (λ (xs : List ℕ). option_map (λ ls. xs ++ ls) (literals_of c.take.new.self)) (sym c.in_ok-push-in-Some-read_spelled.ensures.ok)
