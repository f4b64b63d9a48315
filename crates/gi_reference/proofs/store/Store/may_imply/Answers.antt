use Rattle.std.proofs.Common.{◌≡◌, ℕ, List, ◌++◌, [], ap, ◌∙◌, subst, sym, append_assoc}
use Rattle.gi_lit.specs.Problem.{in_force}
use Rattle.gi_lit.specs.Closure.{Conflicts}
use Rattle.gi_reference.specs.Search.{IsOutcome}
use Rattle.gi_reference.specs.declared.outcome.Outcome.TheVariants as outcome
use Rattle.gi_reference.proofs.Deciding.{no, not_so}
use Rattle.gi_reference.proofs.Causes.{seen, unseen, left_out, implies_like}
use Rattle.gi_reference.proofs.store.Store.may_imply.Goals as goal

pub returns-in-Conflict : goal.returns-in-Conflict
returns-in-Conflict c =
    let forced : c.as_slice.result.now ≡ in_force c.args.self.now c.args.given.now = c.as_slice.ensures.value ∙ c.in_ok-forced.ensures in
    let o = subst (IsOutcome c.as_slice.result.now c.args.given.now) c.in-Conflict.is c.in_ok-outcome.ensures in
    no (λ h. h.0 (subst (λ cs. Conflicts cs c.args.given.now) forced o))

pub returns-then-not-is_distinct : goal.returns-then-not-is_distinct
returns-then-not-is_distinct c = no (λ h. not_so c.is_distinct.result c.is_distinct.ensures (sym c.if-not-is_distinct.true) h.1.distinct)

pub returns-then-has_some : goal.returns-then-has_some
returns-then-has_some c =
    let there : c.as_slice-in-Whole.result.now ≡ c.args.given.now ++ c.args.earlier.now = c.as_slice-in-Whole.ensures ∙ c.in_ok-append-in-Whole-2.ensures ∙ ap (λ xs. xs ++ c.args.earlier.now) (c.in_ok-append-in-Whole.ensures ∙ ap (λ xs. xs ++ c.args.given.now) c.new-there.ensures) in
    no (seen c.args.self.now c.args.given.now c.args.earlier.now c.args.lits.now c.as_slice-in-Whole.result.now there c.if-has_some.ensures)

pub returns-then-not-has_all : goal.returns-then-not-has_all
returns-then-not-has_all c =
    let forced : c.as_slice.result.now ≡ in_force c.args.self.now c.args.given.now = c.as_slice.ensures.value ∙ c.in_ok-forced.ensures in
    let o = subst (IsOutcome c.as_slice.result.now c.args.given.now) c.in-Whole.is c.in_ok-outcome.ensures in
    let p = subst (λ cs. IsOutcome cs c.args.given.now (outcome.Whole c.in-Whole.closed)) forced o in
    let q = subst (λ ls. IsOutcome (in_force c.args.self.now c.args.given.now) c.args.given.now (outcome.Whole ls)) (sym c.as_slice-in-Whole-3.ensures) p in
    let all : c.as_slice-in-Whole-2.result.now ≡ c.args.given.now ++ (c.args.earlier.now ++ c.args.lits.now) = c.as_slice-in-Whole-2.ensures ∙ c.in_ok-append-in-Whole-3.ensures ∙ ap (λ xs. xs ++ c.args.lits.now) (c.in_ok-append-in-Whole-2.ensures ∙ ap (λ xs. xs ++ c.args.earlier.now) (c.in_ok-append-in-Whole.ensures ∙ ap (λ xs. xs ++ c.args.given.now) c.new-there.ensures)) ∙ append_assoc c.args.given.now c.args.earlier.now c.args.lits.now in
    no (left_out c.args.self.now c.args.given.now c.args.earlier.now c.args.lits.now c.as_slice-in-Whole-2.result.now c.as_slice-in-Whole-3.result.now all q.1 c.if-not-has_all.ensures)

pub returns : goal.returns
returns c =
    let forced : c.as_slice.result.now ≡ in_force c.args.self.now c.args.given.now = c.as_slice.ensures.value ∙ c.in_ok-forced.ensures in
    let o = subst (IsOutcome c.as_slice.result.now c.args.given.now) c.in-Whole.is c.in_ok-outcome.ensures in
    let p = subst (λ cs. IsOutcome cs c.args.given.now (outcome.Whole c.in-Whole.closed)) forced o in
    let q = subst (λ ls. IsOutcome (in_force c.args.self.now c.args.given.now) c.args.given.now (outcome.Whole ls)) (sym c.as_slice-in-Whole-3.ensures) p in
    let there : c.as_slice-in-Whole.result.now ≡ c.args.given.now ++ c.args.earlier.now = c.as_slice-in-Whole.ensures ∙ c.in_ok-append-in-Whole-2.ensures ∙ ap (λ xs. xs ++ c.args.earlier.now) (c.in_ok-append-in-Whole.ensures ∙ ap (λ xs. xs ++ c.args.given.now) c.new-there.ensures) in
    let all : c.as_slice-in-Whole-2.result.now ≡ c.args.given.now ++ (c.args.earlier.now ++ c.args.lits.now) = c.as_slice-in-Whole-2.ensures ∙ c.in_ok-append-in-Whole-3.ensures ∙ ap (λ xs. xs ++ c.args.lits.now) (c.in_ok-append-in-Whole-2.ensures ∙ ap (λ xs. xs ++ c.args.earlier.now) (c.in_ok-append-in-Whole.ensures ∙ ap (λ xs. xs ++ c.args.given.now) c.new-there.ensures)) ∙ append_assoc c.args.given.now c.args.earlier.now c.args.lits.now in
    implies_like c.args.self.now c.args.given.now c.args.earlier.now c.args.lits.now c.as_slice-in-Whole-2.result.now c.as_slice-in-Whole-3.result.now all q.1 c.may_list.result q.0
    (c.is_distinct.ensures.0 c.if-not-is_distinct.false) (unseen c.args.self.now c.args.given.now c.args.earlier.now c.args.lits.now c.as_slice-in-Whole.result.now there c.if-has_some.ensures) c.if-not-has_all.ensures c.may_list.ensures
