use Rattle.std.proofs.Common.{◌≡◌, ◌+◌, ◌<◌, ℕ, List, length, refl, sym, ◌∙◌, subst, arith}
use Rattle.std.specs.List.{Contains}
use Rattle.std.proofs.lemmas.List.Elements.{All-contains}
use Rattle.gi_lit.specs.Literals.{IsLiteral}
use Rattle.gi_store.specs.StoreView.{IsWithin}
use Rattle.gi_prop.specs.Watched.{IsGuarded, IsPair}
use Rattle.gi_prop.proofs.Guards.{guarded_own, guarded_late}
use Rattle.gi_prop.proofs.Settling.{moved_as}
use Rattle.gi_prop.proofs.Passing.{at_aside, promoted, promoted_aside}
use Rattle.gi_prop.proofs.unwatched.watch_late.Goals as goal

pub late_in-requires : goal.late_in-requires
late_in-requires c =
    let w = at_aside _ _ _ _ _ _ _ _ _ c.requires.watched c.requires.linked.1 c.requires.linked.2 in
    let r : c.args.clause.now ≡ w.clause = c.requires.only w.clause w.held in
    subst (IsWithin c.args.trail.now.vars) (sym r) w.within

pub move_to-requires-clause-list : goal.move_to-requires-clause-list
move_to-requires-clause-list c =
    let w = at_aside _ _ _ _ _ _ _ _ _ c.requires.watched c.requires.linked.1 c.requires.linked.2 in
    let r : c.args.clause.now ≡ w.clause = c.requires.only w.clause w.held in
    let forced : Contains w.clause c.args.forced = subst (λ (z : List ℕ). Contains z c.args.forced) r c.requires.stands in
    let x = All-contains (λ l. l + 1 < length c.args.first.now.lists) w.clause c.args.forced w.first_lists forced in
    omega (arith, x, c.list_of.ensures.value)

pub move_to-requires-in-Some-clause-linked : goal.move_to-requires-in-Some-clause-linked
move_to-requires-in-Some-clause-linked c =
    let w = at_aside _ _ _ _ _ _ _ _ _ c.requires.watched c.requires.linked.1 c.requires.linked.2 in
    (_, w.there.place, w.there.stands)

pub move_to-requires-in-Some-clause-list : goal.move_to-requires-in-Some-clause-list
move_to-requires-in-Some-clause-list c =
    let w = at_aside _ _ _ _ _ _ _ _ _ c.requires.watched c.requires.linked.1 c.requires.linked.2 in
    let r : c.args.clause.now ≡ w.clause = c.requires.only w.clause w.held in
    let forced : Contains w.clause c.args.forced = subst (λ (z : List ℕ). Contains z c.args.forced) r c.requires.stands in
    let late : Contains w.clause c.in-Some.l = subst (λ (z : List ℕ). Contains z c.in-Some.l) r c.in-Some.ensures.0 in
    let p : IsPair w.clause c.args.forced c.in-Some.l = record { first = forced; second = late; differ = λ e. c.in-Some.ensures.1 (sym e) } in
    let x = All-contains (λ l. l + 1 < length c.args.second.now.lists) w.clause c.in-Some.l w.second_lists late in
    omega (arith, x, c.list_of-in-Some.ensures.value)

pub returns-in-None-clause-step : goal.returns-in-None-clause-step
returns-in-None-clause-step c = (refl, record { clause = c.args.clause.now; held = c.requires.held; only = record { lit = c.args.forced; stands = c.requires.stands; true = c.requires.is_true; others = c.requires.others } })

pub returns-in-Some : goal.returns-in-Some
returns-in-Some c =
    let w = at_aside _ _ _ _ _ _ _ _ _ c.requires.watched c.requires.linked.1 c.requires.linked.2 in
    let r : c.args.clause.now ≡ w.clause = c.requires.only w.clause w.held in
    let forced : Contains w.clause c.args.forced = subst (λ (z : List ℕ). Contains z c.args.forced) r c.requires.stands in
    let late : Contains w.clause c.in-Some.l = subst (λ (z : List ℕ). Contains z c.in-Some.l) r c.in-Some.ensures.0 in
    let p : IsPair w.clause c.args.forced c.in-Some.l = record { first = forced; second = late; differ = λ e. c.in-Some.ensures.1 (sym e) } in
    let tr = c.requires.watched.trail in
    let ga : IsGuarded c.args.trail.now c.args.trail.now.head w.clause c.args.forced = guarded_own c.args.trail.now c.args.trail.now.head w.clause c.args.forced tr c.requires.is_true in
    let gb : IsGuarded c.args.trail.now c.args.trail.now.head w.clause c.in-Some.l = guarded_late c.args.trail.now c.args.trail.now.head w.clause c.in-Some.l c.args.forced tr forced c.requires.is_true c.in-Some.ensures.2 in
    let m = moved_as _ _ _ _ _ c.list_of.ensures.value c.move_to.ensures.moved in
    let n = moved_as _ _ _ _ _ c.list_of-in-Some.ensures.value c.move_to-in-Some.ensures.moved in
    let u = c.move_to.ensures.word ∙ c.code.ensures.value in
    let v = c.move_to-in-Some.ensures.word ∙ c.code-in-Some.ensures.value in
    let x = All-contains (λ l. l + 1 < length c.args.first.now.lists) w.clause c.args.forced w.first_lists forced in
    let b = All-contains IsLiteral w.clause c.args.forced w.literals forced in
    record {
      watched = promoted _ _ _ _ _ _ _ _ _ _ c.requires.watched c.requires.linked.1 c.requires.linked.2 w c.args.forced c.in-Some.l p ga gb m n u v;
      aside = promoted_aside _ _ _ c.move_to.new.chains _ _ _ _ _ _ c.requires.watched c.requires.linked.1 c.requires.linked.2 w c.args.forced c.in-Some.l p ga gb m n u v;
      step = (c.args.forced, b.0, x, m);
    }
