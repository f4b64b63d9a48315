use Rattle.std.proofs.Common.{◌≡◌, ℕ, List, ◌++◌, [], ap, ◌∙◌, subst, sym}
use Rattle.std.specs.List.{All}
use Rattle.gi_lit.specs.Problem.{in_force, full}
use Rattle.gi_lit.specs.Truth.{IsConsequence}
use Rattle.gi_reference.proofs.Deciding.{no, not_so}
use Rattle.gi_reference.proofs.Causes.{not_plain, listed_like}
use Rattle.gi_reference.proofs.store.Store.may_list.Goals as goal

pub returns-then-not-are_plain : goal.returns-then-not-are_plain
returns-then-not-are_plain c = no (not_plain c.args.self.now c.args.given.now c.args.earlier.now c.args.lits.now c.if-not-are_plain.ensures)

pub returns-then-not-follow : goal.returns-then-not-follow
returns-then-not-follow c =
    let e : c.as_slice.result.now ≡ in_force c.args.self.now c.args.given.now = c.as_slice.ensures.value ∙ c.in_ok-forced.ensures in
    no (λ h. not_so c.in_ok-follow.follow c.in_ok-follow.ensures (sym c.if-not-follow.true) (subst (λ cs. All (IsConsequence cs c.args.given.now) c.args.lits.now) (sym e) h.consequences))

pub returns : goal.returns
returns c =
    let e : c.as_slice.result.now ≡ in_force c.args.self.now c.args.given.now = c.as_slice.ensures.value ∙ c.in_ok-forced.ensures in
    let whole : c.as_slice-2.result.now ≡ full c.args.self.now = c.as_slice-2.ensures.value ∙ c.in_ok-whole.ensures in
    let start : c.as_slice-3.result.now ≡ c.args.given.now ++ c.args.earlier.now = c.as_slice-3.ensures ∙ c.in_ok-append-2.ensures ∙ ap (λ xs. xs ++ c.args.earlier.now) (c.in_ok-append.ensures ∙ ap (λ xs. xs ++ c.args.given.now) c.new-start.ensures) in
    listed_like c.args.self.now c.args.given.now c.args.earlier.now c.args.lits.now c.as_slice-2.result.now c.as_slice-3.result.now whole start c.have_causes.result c.if-not-are_plain.ensures
    (subst (λ cs. All (IsConsequence cs c.args.given.now) c.args.lits.now) e (c.in_ok-follow.ensures.0 c.if-not-follow.false)) c.have_causes.ensures
