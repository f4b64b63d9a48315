use Rattle.std.proofs.Common.{◌≡◌, ◌+◌, ◌-◌, ◌*◌, Vec, Global, ◌/◌, ◌<◌, ℕ, Bool, true, false, List, ◌∷◌, [], ◌++◌, length, take, get_or, refl, sym, ap, ◌∙◌, subst, arith}
use Rattle.std.proofs.lemmas.Bool.{false≢true}
use Rattle.std.proofs.lemmas.List.Elements.{Contains-append_left}
use Rattle.std.proofs.lemmas.List.{take_at}
use Rattle.gi_lit.specs.Closure.{IsDerivation}
use Rattle.gi_lit.specs.Problem.{full, has, IsProblemVar}
use Rattle.gi_lit.proofs.Vars.{lacks_none}
use Rattle.gi_store.specs.StoreView.{problem_of}
use Rattle.gi_model.specs.State.{scope_listed}
use Rattle.gi_scopes.specs.Under.{base_of}
use Rattle.gi_scopes.specs.Listing.{IsListing, AreNoted}
use Rattle.gi_scopes.specs.declared.outcome.Implied.{Implied}
use Rattle.gi_scopes.proofs.Attaching.{item_is, under_of, implied_new}
use Rattle.gi_scopes.proofs.Noting.{ListingTo, place_mark, listing_from, listing_skip, listing_push}
use Rattle.gi_scopes.proofs.implied.implied.Goals as goal
use Rattle.gi_scopes.proofs.implied.implied.Goals.{then-is_new+in_ok-reasons+in_ok-push, else-is_new}

pub loop-at-init : goal.loop-at-init
loop-at-init c = record {
  listing = rw (c.new-listing.ensures.lits, c.new-listing.ensures.reasons) (listing_from (problem_of c.args.store.now) c.vars.ensures.whole.well_formed c.args.given.now c.args.trail.now.lits (under_of c.args.store.now c.args.given.now c.args.trail.now c.requires.reached) c.lits-at-end.ensures.trail.apart (scope_listed c.args.levels.now) c.args.from c.requires.covered);
  marked = c.in_ok-fit.ensures.none;
  same = c.in_ok-fit.ensures.count ∙ omega (arith, c.vars.ensures.value);
}

pub reasons_at-requires-clause-count : goal.reasons_at-requires-clause-count
reasons_at-requires-clause-count c = omega (arith, ap length c.as_mut_slice.ensures.value, c.loop-at.invariant.same)

pub reasons_at-requires-clause-none : goal.reasons_at-requires-clause-none
reasons_at-requires-clause-none c = subst (AreNoted []) (sym c.as_mut_slice.ensures.value) c.loop-at.invariant.marked

pub reasons_at-requires-clause-implied : goal.reasons_at-requires-clause-implied
reasons_at-requires-clause-implied c =
    let p = problem_of c.args.store.now in
    let lits : List ℕ = c.args.trail.now.lits in
    let given : List ℕ = c.args.given.now in
    let earlier : List ℕ = scope_listed c.args.levels.now in
    let at : ℕ = c.loop-at.at in
    let lt : at < length lits = omega (arith, c.loop-at-test.true, ap length c.lits-at-end.ensures.value) in
    let x : c.index-lits-at.result ≡ get_or lits at 0 = item_is c.lits.result.now lits at c.index-lits-at.result lt c.lits.ensures.value c.index-lits-at.is in
    let n = c.is_new.ensures.0 c.if-is_new.true in
    let pv : IsProblemVar p (get_or lits at 0 / 2) = subst (λ y. IsProblemVar p (y / 2)) x n.0 in
    let mark : get_or c.as_slice.result.now (at - c.args.from) false ≡ has (given ++ earlier) (get_or lits at 0) = ap (λ ms. get_or ms (at - c.args.from) false) c.as_slice.ensures.value ∙ place_mark lits c.args.from (given ++ earlier) c.in_ok-marks.marks.items c.in_ok-marks.ensures at c.loop-at.auto.at lt in
    let new : has (given ++ earlier) (get_or lits at 0) ≡ false = sym mark ∙ n.1 in
    implied_new (base_of c.args.store.now) given c.args.trail.now at (λ a. lacks_none (given ++ earlier) (get_or lits at 0) new (Contains-append_left given earlier (get_or lits at 0) a)) (c.requires.reached.each at lt)

pub loop-at-preserved : goal.loop-at-preserved
loop-at-preserved c =
    let p = problem_of c.args.store.now in
    let lits : List ℕ = c.args.trail.now.lits in
    let earlier : List ℕ = scope_listed c.args.levels.now in
    let at : ℕ = c.loop-at.at in
    let given : List ℕ = c.args.given.now in
    let u : IsDerivation (full p) given lits = under_of c.args.store.now given c.args.trail.now c.requires.reached in
    let lt : at < length lits = omega (arith, c.loop-at-test.true, ap length c.lits-at-end.ensures.value) in
    let x : c.index-lits-at.result ≡ get_or lits at 0 = item_is c.lits.result.now lits at c.index-lits-at.result lt c.lits.ensures.value c.index-lits-at.is in
    let mark : get_or c.as_slice.result.now (at - c.args.from) false ≡ has (given ++ earlier) (get_or lits at 0) = ap (λ ms. get_or ms (at - c.args.from) false) c.as_slice.ensures.value ∙ place_mark lits c.args.from (given ++ earlier) c.in_ok-marks.marks.items c.in_ok-marks.ensures at c.loop-at.auto.at lt in
    let P : List ℕ → List (List ℕ) → Type 0 = λ ls rss. IsListing p given earlier (take (at + 1) lits) ls rss in
    let Q : Implied → Vec Bool Global → Type 0 = λ i v. ListingTo p given earlier (take (at + 1) lits) i.lits i.reasons.items (2 * c.args.store.now.vars + 2) v.items in
    elim c.if-is_new.branch [
      | then-is_new+in_ok-reasons+in_ok-push w ↦
          let n = c.is_new.ensures.0 w.if-is_new.true in
          let pv : IsProblemVar p (get_or lits at 0 / 2) = subst (λ y. IsProblemVar p (y / 2)) x n.0 in
          let new : has (given ++ earlier) (get_or lits at 0) ≡ false = sym mark ∙ n.1 in
          let more : P (c.loop-at.listing.lits ++ get_or lits at 0 ∷ []) (c.loop-at.listing.reasons.items ++ w.in_ok-reasons.reasons ∷ []) = listing_push p c.vars.ensures.whole.well_formed given lits u c.lits-at-end.ensures.trail.apart earlier at lt c.loop-at.listing.lits c.loop-at.listing.reasons.items c.loop-at.invariant.listing pv new w.in_ok-reasons.reasons w.in_ok-reasons.ensures.reasons w.in_ok-reasons.ensures.before in
          let grown : P w.push.new.self.lits w.push.new.self.reasons.items = rw (w.in_ok-push.ensures.lits, w.in_ok-push.ensures.reasons) (subst (λ y. P (c.loop-at.listing.lits ++ y ∷ []) (c.loop-at.listing.reasons.items ++ w.in_ok-reasons.reasons ∷ [])) (sym x) more) in
          let count : length w.reasons_at.new.noted ≡ c.loop-at.noted.len = omega (arith, w.reasons_at.ensures.count, ap length w.as_mut_slice.ensures.value, c.loop-at.noted.ok.0) in
          subst (λ (i : Implied). Q i c.if-is_new.noted) (sym w.listing-is) (subst (Q w.push.new.self) (sym w.noted-is) (record {
            listing = grown;
            marked = subst (AreNoted []) (sym (take_at w.reasons_at.new.noted _ c.loop-at.noted.len count)) w.in_ok-reasons.ensures.none;
            same = ap length (take_at w.reasons_at.new.noted _ c.loop-at.noted.len count) ∙ omega (arith, count, c.loop-at.noted.ok.0, c.loop-at.invariant.same);
          }))
      | else-is_new w ↦
          let old : IsProblemVar p (get_or lits at 0 / 2) → has (given ++ earlier) (get_or lits at 0) ≡ true = λ pv. not_new (has (given ++ earlier) (get_or lits at 0)) (λ e. false≢true (sym w.if-is_new.false ∙ c.is_new.ensures.1 (subst (λ y. IsProblemVar p (y / 2)) (sym x) pv, mark ∙ e))) in
          let kept : P c.loop-at.listing.lits c.loop-at.listing.reasons.items = listing_skip p c.vars.ensures.whole.well_formed given lits u c.lits-at-end.ensures.trail.apart earlier at lt c.loop-at.listing.lits c.loop-at.listing.reasons.items c.loop-at.invariant.listing old in
          subst (λ (i : Implied). Q i c.if-is_new.noted) (sym w.listing-is) (subst (Q c.loop-at.listing) (sym w.noted-is) (record { listing = kept; marked = c.loop-at.invariant.marked; same = c.loop-at.invariant.same }))
    ]
  where
    not_new : (b : Bool) → ¬ (b ≡ false) → b ≡ true
    not_new true n = refl
    not_new false n = absurd (n refl)
