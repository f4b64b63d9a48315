use Rattle.std.proofs.Common.{◌≡◌, ◌<◌, ◌++◌, ◌∷◌, [], true, false, set, length, get_or, sym, ◌∙◌, subst}
use Rattle.std.specs.List.{Contains}
use Rattle.std.proofs.lemmas.Bool.{eqb-true, eq-eqb, false≢true}
use Rattle.gi_lit.specs.Literals.{opposite}
use Rattle.gi_lit.proofs.Vars.{Contains-from_has, lacks_none}
use Rattle.gi_scopes.specs.Listing.{AreNoted}
use Rattle.gi_scopes.proofs.Noting.{notes_none, notes_one, noted_push}
use Rattle.gi_scopes.proofs.implied.note.Goals as goal
use Rattle.gi_scopes.proofs.implied.note.Goals.{then-eq-via-then-eq, then-eq-via-else-eq+then-noted-code}

pub returns-then-eq-clause-notes : goal.returns-then-eq-clause-notes
returns-then-eq-clause-notes c =
    let code : c.code-code.result ≡ opposite c.args.l = c.code-code.ensures.value ∙ c.not-opposite.ensures in
    elim c.then-eq.branch [
      | then-eq-via-then-eq w ↦ notes_none c.args.m c.args.l c.args.reasons.now (λ ne. absurd (ne (eqb-true c.args.l c.args.m (sym c.eq.ensures ∙ w.if-eq.true))))
      | then-eq-via-else-eq+then-noted-code w ↦
          let marked : get_or c.args.noted.now (opposite c.args.l) false ≡ true = subst (λ x. get_or c.args.noted.now x false ≡ true) code w.if-noted-code.true in
          notes_none c.args.m c.args.l c.args.reasons.now (λ _. Contains-from_has c.args.reasons.now (opposite c.args.l) (sym (c.requires.marks.each (opposite c.args.l) c.requires.code) ∙ marked))
    ]

pub returns-clause-notes : goal.returns-clause-notes
returns-clause-notes c =
    let code : c.code-code.result ≡ opposite c.args.l = c.code-code.ensures.value ∙ c.not-opposite.ensures in
    let unmarked : get_or c.args.noted.now (opposite c.args.l) false ≡ false = subst (λ x. get_or c.args.noted.now x false ≡ false) code c.if-noted-code.false in
    let free : ¬ Contains c.args.reasons.now (opposite c.args.l) = lacks_none c.args.reasons.now (opposite c.args.l) (sym (c.requires.marks.each (opposite c.args.l) c.requires.code) ∙ unmarked) in
    rw (c.in_ok-push.ensures.ok, c.not-opposite.ensures) (notes_one c.args.m c.args.l c.args.reasons.now (λ e. false≢true (sym c.if-eq.false ∙ c.eq.ensures ∙ eq-eqb c.args.l c.args.m e)) free)

pub returns-clause-marks : goal.returns-clause-marks
returns-clause-marks c =
    let code : c.code-code.result ≡ opposite c.args.l = c.code-code.ensures.value ∙ c.not-opposite.ensures in
    let more : AreNoted (c.args.reasons.now ++ c.code-code.result ∷ []) (set c.args.noted.now c.code-code.result true) = noted_push c.args.reasons.now c.args.noted.now c.code-code.result c.requires.marks (subst (λ x. x < length c.args.noted.now) (sym code) c.requires.code) in
    rw c.in_ok-push.ensures.ok (subst (λ y. AreNoted (c.args.reasons.now ++ y ∷ []) (set c.args.noted.now c.code-code.result true)) c.code-code.ensures.value more)
