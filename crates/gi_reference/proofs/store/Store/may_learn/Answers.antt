use Rattle.std.proofs.Common.{◌≡◌, ℕ, List, ◌++◌, map, sym, ap, ◌∙◌}
use Rattle.gi_lit.specs.Literals.{opposite}
use Rattle.gi_lit.specs.Problem.{full}
use Rattle.gi_reference.proofs.Deciding.{no, not_so, ok_like}
use Rattle.gi_reference.proofs.Fresh.{not_live, opposed, covered, not_implied, is_new, new_conflicts}
use Rattle.gi_reference.proofs.store.Store.may_learn.Goals as goal

pub returns-then-not-are_live : goal.returns-then-not-are_live
returns-then-not-are_live c = no (not_live c.args.self.now c.args.clause.now c.args.known.now c.if-not-are_live.ensures)

pub returns-then-has_opposites : goal.returns-then-has_opposites
returns-then-has_opposites c = no (opposed c.args.self.now c.args.clause.now c.args.known.now c.if-has_opposites.ensures)

pub returns-then-has_clause : goal.returns-then-has_clause
returns-then-has_clause c =
    let all : c.as_slice-there.result.now ≡ full c.args.self.now ++ c.args.known.now = c.as_slice-there.ensures.value ∙ c.in_ok-all.ensures ∙ ap (λ cs. cs ++ c.args.known.now) (c.as_slice.ensures.value ∙ c.in_ok-whole.ensures) in
    no (covered c.args.self.now c.args.clause.now c.args.known.now c.as_slice-there.result.now all c.if-has_clause.ensures)

pub returns-then-not-implied : goal.returns-then-not-implied
returns-then-not-implied c =
    let all : c.as_slice-there.result.now ≡ full c.args.self.now ++ c.args.known.now = c.as_slice-there.ensures.value ∙ c.in_ok-all.ensures ∙ ap (λ cs. cs ++ c.args.known.now) (c.as_slice.ensures.value ∙ c.in_ok-whole.ensures) in
    let whole : c.as_slice-2.result.now ≡ full c.args.self.now = c.as_slice-2.ensures.value ∙ c.in_ok-whole.ensures in
    let negation : c.as_slice-assumed.result.now ≡ map opposite c.args.clause.now = c.as_slice-assumed.ensures ∙ c.in_ok-negation.ensures in
    no (not_implied c.args.self.now c.args.clause.now c.args.known.now c.as_slice-there.result.now all c.as_slice-2.result.now c.as_slice-assumed.result.now whole negation (not_so c.in_ok-implied.implied c.in_ok-implied.ensures (sym c.if-not-implied.true)))

pub returns : goal.returns
returns c =
    let all : c.as_slice-there.result.now ≡ full c.args.self.now ++ c.args.known.now = c.as_slice-there.ensures.value ∙ c.in_ok-all.ensures ∙ ap (λ cs. cs ++ c.args.known.now) (c.as_slice.ensures.value ∙ c.in_ok-whole.ensures) in
    let whole : c.as_slice-2.result.now ≡ full c.args.self.now = c.as_slice-2.ensures.value ∙ c.in_ok-whole.ensures in
    let negation : c.as_slice-assumed.result.now ≡ map opposite c.args.clause.now = c.as_slice-assumed.ensures ∙ c.in_ok-negation.ensures in
    ok_like c.conflicts.result
    (is_new c.args.self.now c.args.clause.now c.args.known.now c.as_slice-there.result.now all c.as_slice-2.result.now c.as_slice-assumed.result.now whole negation (c.in_ok-implied.ensures.0 c.if-not-implied.false) c.if-not-are_live.ensures c.if-has_opposites.ensures c.if-has_clause.ensures)
    (new_conflicts c.args.self.now c.args.clause.now c.args.known.now c.as_slice-there.result.now all c.as_slice-2.result.now c.as_slice-assumed.result.now whole negation)
    c.conflicts.ensures
