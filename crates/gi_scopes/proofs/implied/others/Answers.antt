use Rattle.std.proofs.Common.{◌<◌, length, refl, sym, ◌∙◌, subst}
use Rattle.std.proofs.lemmas.List.{take_all}
use Rattle.std.proofs.lemmas.List.Elements.{All-contains}
use Rattle.gi_lit.specs.Literals.{opposite}
use Rattle.gi_scopes.specs.Listing.{AreOthers, AreNoted}
use Rattle.gi_scopes.proofs.Noting.{NotingTo, others_none, others_more}
use Rattle.gi_scopes.proofs.implied.others.Goals as goal

pub loop-l-init : goal.loop-l-init
loop-l-init c = subst (λ rs. NotingTo c.args.clause.now c.args.m 0 rs (length c.args.noted.now) c.args.noted.now) (sym c.new-reasons.ensures) (record { others = others_none c.args.m; marked = c.requires.none; same = refl })

pub note-requires-clause-code : goal.note-requires-clause-code
note-requires-clause-code c = subst (λ n. opposite c.l-item.result < n) (sym c.loop-l.invariant.same) (All-contains (λ l. opposite l < length c.args.noted.now) c.args.clause.now c.l-item.result c.requires.codes (c.loop-l.l-index, c.loop-l-test.true, sym c.l-item.is))

pub loop-l-preserved : goal.loop-l-preserved
loop-l-preserved c = record {
  others = others_more c.args.clause.now c.args.m c.loop-l.l-index c.l-item.result c.loop-l.reasons c.note.new.reasons c.loop-l-test.true c.l-item.is c.loop-l.invariant.others c.in_ok-note.ensures.notes;
  marked = c.in_ok-note.ensures.marks;
  same = c.note.ensures.count ∙ c.loop-l.invariant.same;
}

pub unmark-requires : goal.unmark-requires
unmark-requires c = subst (λ xs. AreNoted xs c.loop-l.noted) (sym c.codes.ensures) c.loop-l.invariant.marked

pub returns-clause-others : goal.returns-clause-others
returns-clause-others c = subst (λ xs. AreOthers xs c.args.m c.loop-l.reasons) (take_all c.loop-l.l-index c.args.clause.now c.loop-l-test.false) c.loop-l.invariant.others
