use Rattle.std.proofs.Common.{◌≡◌, ℕ, ◌++◌, ◌<◌, List, ap, ◌∙◌, sym, subst}
use Rattle.std.specs.List.{All, Contains}
use Rattle.std.proofs.lemmas.List.Elements.{All-contains_itself}
use Rattle.gi_lit.specs.Closure.{IsDerivation}
use Rattle.gi_lit.proofs.Closure.{given_derives}
use Rattle.gi_reference.specs.Search.{IsNext, IsForced}
use Rattle.gi_reference.specs.declared.outcome.Next.TheVariants as next
use Rattle.gi_reference.proofs.Saturating.{unmet_count, fewer_unmet, whole, pushed, still_given}
use Rattle.gi_reference.proofs.closure.closure.Goals as goal

pub loop-lits-init : goal.loop-lits-init
loop-lits-init c =
    let e : c.append.new.to ≡ c.args.given.now = c.in_ok-append.ensures ∙ ap (λ xs. xs ++ c.args.given.now) c.new-lits.ensures in
    record {
      derived = subst (IsDerivation c.args.clauses.now c.args.given.now) (sym e) (given_derives c.args.clauses.now c.args.given.now);
      whole = subst (λ xs. All (Contains xs) c.args.given.now) (sym e) (All-contains_itself c.args.given.now);
    }

pub returns-in-Closed : goal.returns-in-Closed
returns-in-Closed c =
    let P : List ℕ → Type 0 = λ ls. IsNext c.args.clauses.now ls next.Closed in
    whole c.args.clauses.now c.args.given.now c.loop-lits.lits c.loop-lits.invariant.derived c.loop-lits.invariant.whole (subst P c.as_slice.ensures c.in-Closed.ensures)

pub loop-lits-smaller : goal.loop-lits-smaller
loop-lits-smaller c =
    let f = subst (λ ls. IsForced c.args.clauses.now ls c.in-Forced.l) c.as_slice.ensures c.in-Forced.ensures in
    subst (λ xs. unmet_count xs c.args.clauses.now < unmet_count c.loop-lits.lits c.args.clauses.now) (sym c.in_ok-push-in-Forced.ensures.ok) (fewer_unmet c.args.clauses.now c.loop-lits.lits c.in-Forced.l f)

pub loop-lits-preserved : goal.loop-lits-preserved
loop-lits-preserved c =
    let f = subst (λ ls. IsForced c.args.clauses.now ls c.in-Forced.l) c.as_slice.ensures c.in-Forced.ensures in
    record {
      derived = subst (IsDerivation c.args.clauses.now c.args.given.now) (sym c.in_ok-push-in-Forced.ensures.ok) (pushed c.args.clauses.now c.args.given.now c.loop-lits.lits c.in-Forced.l c.loop-lits.invariant.derived f);
      whole = subst (λ xs. All (Contains xs) c.args.given.now) (sym c.in_ok-push-in-Forced.ensures.ok) (still_given c.args.given.now c.loop-lits.lits c.in-Forced.l c.loop-lits.invariant.whole);
    }
