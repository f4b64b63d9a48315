use Rattle.std.proofs.Common.{sym, ap, ◌∙◌}
use Rattle.std.specs.List.{list_all}
use Rattle.gi_kept.specs.Kept.{Kept}
use Rattle.gi_kept.specs.Marks.{has_marked, holds_marked, meets_marked}
use Rattle.gi_kept.proofs.Deciding.{by_assumed, untrue_group, untrue_plain}
use Rattle.gi_kept.proofs.Marking.{marked_is}
use Rattle.gi_kept.proofs.kept.Kept.is_true.Goals as goal

pub returns-then-not-meets_each : goal.returns-then-not-meets_each
returns-then-not-meets_each c =
    let m = c.in_ok-marks.marks in
    untrue_plain c.args.self.now c.args.model.now m c.in_ok-marks.ensures
    (sym (ap (list_all (meets_marked m)) (c.as_slice-2.ensures.value ∙ ap (λ (k : Kept). k.plain) c.self.view_is)) ∙ sym c.meets_each.ensures ∙ c.if-not-meets_each.true)

pub returns-then-not-meets_forced : goal.returns-then-not-meets_forced
returns-then-not-meets_forced c =
    let m = c.in_ok-marks.marks in
    let on = c.in_ok-on.on in
    untrue_group c.args.self.now c.args.model.now m on c.in_ok-marks.ensures
    (marked_is on _ _ (c.as_slice-assumed.ensures.value ∙ ap (λ (k : Kept). k.assumed) c.self.view_is) c.in_ok-on.ensures)
    (sym (ap (list_all (has_marked m on)) (c.as_slice-3.ensures.value ∙ ap (λ (k : Kept). k.groups) c.self.view_is)) ∙ sym c.meets_forced.ensures ∙ c.if-not-meets_forced.true)

pub returns : goal.returns
returns c =
    let m = c.in_ok-marks.marks in
    let on = c.in_ok-on.on in
    let gs = c.in_ok-guards.guards in
    by_assumed c.args.self.now c.args.model.now m on gs c.holds_each.result c.in_ok-marks.ensures
    (marked_is on _ _ (c.as_slice-assumed.ensures.value ∙ ap (λ (k : Kept). k.assumed) c.self.view_is) c.in_ok-on.ensures)
    (marked_is gs _ _ (c.as_slice.ensures.value ∙ ap (λ (k : Kept). k.guards) c.self.view_is) c.in_ok-guards.ensures)
    (sym (ap (list_all (meets_marked m)) (c.as_slice-2.ensures.value ∙ ap (λ (k : Kept). k.plain) c.self.view_is)) ∙ sym c.meets_each.ensures ∙ c.if-not-meets_each.false)
    (sym (ap (list_all (has_marked m on)) (c.as_slice-3.ensures.value ∙ ap (λ (k : Kept). k.groups) c.self.view_is)) ∙ sym c.meets_forced.ensures ∙ c.if-not-meets_forced.false)
    (c.holds_each.ensures ∙ ap (list_all (holds_marked gs m)) (c.as_slice-assumed.ensures.value ∙ ap (λ (k : Kept). k.assumed) c.self.view_is))
