use Rattle.std.proofs.Common.{◌≡◌, ◌+◌, ℕ, ap, subst, sym, ◌∙◌, List, [], ◌∷◌, ◌++◌, Option, None, take, get_or, Vec, Global}
use Rattle.gi_lit.specs.declared.lit.Lit.{Lit}
use Rattle.std.proofs.lemmas.List.{take_more, take_all}
use Rattle.gi_lit.specs.Literals.{opposite}
use Rattle.gi_cdcl.specs.Marks.{IsBuiltOf}
use Rattle.gi_cdcl.proofs.Built.{built_top, built_skip, built_push}
use Rattle.gi_cdcl.proofs.analyze.build.Goals as goal
use Rattle.gi_cdcl.proofs.analyze.build.Goals.{then-place-start+in_ok-push-2, else-place-start}

pub loop-place-init : goal.loop-place-init
loop-place-init c =
    let e : c.push.new.self.items ≡ opposite (get_or c.args.lits.now c.args.top 0) ∷ [] = c.in_ok-push.ensures.items ∙ ap (λ (xs : List ℕ). xs ++ c.negation.result ∷ []) c.in_ok-clause.ensures.items ∙ ap (λ (x : ℕ). x ∷ []) c.negation.ensures in
    subst (λ (xs : List ℕ). IsBuiltOf c.args.lits.now [] c.args.top c.args.start xs None) (sym e) (built_top c.args.lits.now c.args.touched.now c.args.top c.args.start)

pub loop-place-preserved : goal.loop-place-preserved
loop-place-preserved c =
    let at : ℕ = get_or c.args.touched.now c.loop-place.place-index 0 in
    let front : List ℕ = take c.loop-place.place-index c.args.touched.now in
    let more : take (c.loop-place.place-index + 1) c.args.touched.now ≡ take c.loop-place.place-index c.args.touched.now ++ get_or c.args.touched.now c.loop-place.place-index 0 ∷ [] = take_more c.args.touched.now c.loop-place.place-index 0 c.loop-place-test.true in
    let P : List ℕ → List ℕ → Option ℕ → Type 0 = λ ts xs o. IsBuiltOf c.args.lits.now ts c.args.top c.args.start xs o in
    elim c.if-place-start.branch [
      | then-place-start+in_ok-push-2 w ↦
          let e : c.if-place-start.clause.items ≡ c.loop-place.clause.items ++ opposite (get_or c.args.lits.now (get_or c.args.touched.now c.loop-place.place-index 0) 0) ∷ [] =
          ap (λ (v : Vec Lit Global). v.items) w.clause-is ∙ w.in_ok-push-2.ensures.items ∙ ap (λ (x : ℕ). c.loop-place.clause.items ++ x ∷ []) w.negation-then-place-start.ensures in
          subst (λ (ts : List ℕ). P ts c.if-place-start.clause.items c.if-place-start.last) (sym more) (subst (λ (xs : List ℕ). P (front ++ at ∷ []) xs c.if-place-start.last) (sym e) (subst (P (front ++ at ∷ []) _) (sym w.last-is) (built_push _ _ _ _ _ _ _ c.loop-place.invariant w.if-place-start.true _ w.last_of.ensures)))
      | else-place-start w ↦ subst (λ (ts : List ℕ). P ts c.if-place-start.clause.items c.if-place-start.last) (sym more) (subst (λ (v : Vec Lit Global). P (front ++ at ∷ []) v.items c.if-place-start.last) (sym w.clause-is) (subst (P (front ++ at ∷ []) c.loop-place.clause.items) (sym w.last-is) (built_skip _ _ _ _ _ _ _ c.loop-place.invariant w.if-place-start.false)))
    ]

pub returns : goal.returns
returns c =
    subst (λ (xs : List ℕ). IsBuiltOf c.args.lits.now xs c.args.top c.args.start c.from_vec.result c.loop-place.last) (take_all c.loop-place.place-index c.args.touched.now c.loop-place-test.false)
    (subst (λ (xs : List ℕ). IsBuiltOf c.args.lits.now (take c.loop-place.place-index c.args.touched.now) c.args.top c.args.start xs c.loop-place.last) (sym c.from_vec.ensures) c.loop-place.invariant)
