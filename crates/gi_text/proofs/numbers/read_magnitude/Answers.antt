use Rattle.std.proofs.Common.{arith, sym, ◌∙◌, ◌≢◌, ◌<◌, ℕ}
use Rattle.std.proofs.lemmas.Bool.{eqb-true, eqb-false}
use Rattle.gi_text.proofs.numbers.read_magnitude.Goals.{then-b-lt48-via-then-b-lt48, then-b-lt48-via-else-b-lt48+then-b-gt57}
use Rattle.gi_text.proofs.Magnitudes.{so_far-none, so_far-more, so_far-all, magnitude_nil, none_at, not_low, not_high}
use Rattle.gi_text.proofs.numbers.read_magnitude.Goals as goal

pub returns-then-is_empty : goal.returns-then-is_empty
returns-then-is_empty c = magnitude_nil c.args.digits.now (eqb-true _ 0 (sym c.is_empty.ensures ∙ c.if-is_empty.true))

pub loop-b-init : goal.loop-b-init
loop-b-init c = so_far-none c.args.digits.now

pub returns-then-b-lt48 : goal.returns-then-b-lt48
returns-then-b-lt48 c = elim c.then-b-lt48.branch [
  | then-b-lt48-via-then-b-lt48 w ↦ none_at c.args.digits.now c.loop-b.b-index c.loop-b-test.true (not_low _ w.if-b-lt48.true)
  | then-b-lt48-via-else-b-lt48+then-b-gt57 w ↦ none_at c.args.digits.now c.loop-b.b-index c.loop-b-test.true (not_high _ w.if-b-gt57.true)
]

pub loop-b-preserved : goal.loop-b-preserved
loop-b-preserved c =
    rw (c.min-m.ensures, c.from.ensures) (so_far-more c.args.digits.now c.loop-b.b-index c.loop-b.m c.loop-b-test.true c.if-b-lt48.false c.if-b-gt57.false c.loop-b.invariant)

pub returns : goal.returns
returns c = so_far-all c.args.digits.now c.loop-b.b-index c.loop-b.m (not_empty _ (eqb-false _ 0 (sym c.is_empty.ensures ∙ c.if-is_empty.false))) c.loop-b-test.false c.loop-b.invariant where
  not_empty : (n : ℕ) → n ≢ 0 → 0 < n
  not_empty n h = omega arith
