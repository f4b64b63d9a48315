use Rattle.std.proofs.Common.{◌<◌, ℕ, List, [], length, sym, ◌∙◌, subst, arith}
use Rattle.std.specs.List.{All}
use Rattle.std.proofs.lemmas.List.{take_all}
use Rattle.std.proofs.lemmas.List.Elements.{All-more}
use Rattle.gi_store.specs.StoreView.{known_of}
use Rattle.gi_cdcl.proofs.Empties.{at_some, not_empty}
use Rattle.gi_cdcl.proofs.empty.has_empty_in_known.Goals as goal

pub loop-i-preserved : goal.loop-i-preserved
loop-i-preserved c =
    let r = at_some (known_of c.args.store.now) c.loop-i.i c.in-Some.clause.now [] c.in-Some.ensures in
    All-more (λ c. 0 < length c) (known_of c.args.store.now) c.loop-i.i [] r.0 c.loop-i.invariant (subst (λ (xs : List ℕ). 0 < length xs) (sym r.1) (not_empty (length c.in-Some.clause.now) (sym c.is_empty.ensures ∙ c.if-is_empty.false)))

pub returns-clause-no : goal.returns-clause-no
returns-clause-no c q = subst (All (λ c. 0 < length c)) (take_all c.loop-i.i (known_of c.args.store.now) (omega (arith, c.loop-i-test.false, c.known-i-end.ensures))) c.loop-i.invariant
