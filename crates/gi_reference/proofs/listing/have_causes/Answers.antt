use Rattle.std.proofs.Common.{◌≡◌, ℕ, List, ◌∷◌, [], ◌++◌, false, true, ap, sym, ◌∙◌, subst, arith}
use Rattle.std.specs.List.{list_any}
use Rattle.std.proofs.lemmas.List.{get_or_read}
use Rattle.gi_model.proofs.Keeping.{append-nil}
use Rattle.gi_reference.specs.Search.{forces}
use Rattle.gi_reference.proofs.Deciding.{no, yes}
use Rattle.gi_reference.proofs.Causes.{started_more, forced_more, forced_stops, all_forced}
use Rattle.gi_reference.proofs.listing.have_causes.Goals as goal

pub loop-l-init : goal.loop-l-init
loop-l-init c = record { earlier = c.in_ok-append.ensures ∙ ap (λ xs. xs ++ c.args.start.now) c.new-earlier.ensures ∙ sym (append-nil c.args.start.now); each = λ k lt. absurd (omega arith) }

pub returns-then-not-has_cause : goal.returns-then-not-has_cause
returns-then-not-has_cause c =
    let is = get_or_read c.args.lits.now c.loop-l.l-index c.l-item.result c.loop-l-test.true c.l-item.is 0 in
    no (forced_stops c.args.clauses.now c.args.start.now c.args.lits.now c.loop-l.l-index c.l-item.result c.loop-l-test.true is
    (subst (λ es. false ≡ list_any (λ d. forces d c.l-item.result es) c.args.clauses.now) (c.as_slice.ensures ∙ c.loop-l.invariant.earlier) c.if-not-has_cause.ensures))

pub loop-l-preserved : goal.loop-l-preserved
loop-l-preserved c =
    let is = get_or_read c.args.lits.now c.loop-l.l-index c.l-item.result c.loop-l-test.true c.l-item.is 0 in
    record {
      earlier = c.in_ok-push.ensures.ok ∙ ap (λ es. es ++ c.l-item.result ∷ []) c.loop-l.invariant.earlier ∙ started_more c.args.clauses.now c.args.start.now c.args.lits.now c.loop-l.l-index c.l-item.result c.loop-l-test.true is;
      each = forced_more c.args.clauses.now c.args.start.now c.args.lits.now c.loop-l.l-index c.l-item.result c.loop-l-test.true is
          (subst (λ es. true ≡ list_any (λ d. forces d c.l-item.result es) c.args.clauses.now) (c.as_slice.ensures ∙ c.loop-l.invariant.earlier) c.if-not-has_cause.ensures) c.loop-l.invariant.each;
    }

pub returns : goal.returns
returns c = yes (all_forced c.args.clauses.now c.args.start.now c.args.lits.now c.loop-l.l-index (omega arith) c.loop-l.invariant.each)
