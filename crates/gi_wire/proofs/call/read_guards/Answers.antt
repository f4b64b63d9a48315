use Rattle.std.proofs.Common.{ℕ, List, option_map, ap, sym, ◌∙◌}
use Rattle.gi_wire.specs.Grammar.{guards_at}
use Rattle.gi_wire.proofs.Listing.{guards_and, guards_go_on}
use Rattle.gi_wire.proofs.call.read_guards.Goals as goal

pub words-preserved : goal.words-preserved
words-preserved c =
    c.words.invariant ∙ ap (λ (ws : List (List ℕ)). option_map (guards_and c.words.guards) (guards_at ws)) c.in-Some.ensures.steps
    ∙ guards_go_on c.words.guards c.in-Some.word.now c.next.new.self c.in-Some-read_guard.guard (sym c.is_end.ensures ∙ c.if-is_end.false) (sym c.in-Some-read_guard.ensures)
    ∙ ap (λ (gs : List ℕ). option_map (guards_and gs) (guards_at c.next.new.self)) (sym c.in_ok-push-in-Some-read_guard.ensures.ok)
