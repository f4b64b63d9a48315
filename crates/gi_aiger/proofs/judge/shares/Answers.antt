use Rattle.std.proofs.Common.{◌++◌, List, ℕ, ap, ◌∙◌, arith}
use Rattle.gi_aiger.specs.Files.{shares}
use Rattle.std.specs.Prelude.{drop, slice_index, ◌+◌}
use Rattle.std.proofs.Common.{refl}
use Rattle.gi_aiger.proofs.Sharing.{share_step, share_ends}
use Rattle.gi_aiger.proofs.judge.shares.Goals as goal

pub loop-size-preserved : goal.loop-size-preserved
loop-size-preserved c =
    ap (λ (xs : List (List ℕ)). xs ++ shares (drop (c.loop-size.size-index + 1) c.args.sizes.now) c.rest_of-rest.result.now) c.in_ok-push.ensures.ok
    ∙ share_step (shares c.args.sizes.now c.args.literals.now) c.loop-size.lists c.args.sizes.now c.loop-size.rest.now c.in_ok-of.field-0 c.rest_of-rest.result.now c.loop-size.size-index (slice_index c.args.sizes.now c.loop-size.size-index)
    (omega (arith, c.loop-size-test.true, c.loop-size.auto.size-index-end)) refl (c.in_ok-of.ensures ∙ c.first_of.ensures) c.rest_of-rest.ensures c.loop-size.invariant

pub returns : goal.returns
returns c = share_ends (shares c.args.sizes.now c.args.literals.now) c.loop-size.lists c.args.sizes.now c.loop-size.rest.now c.loop-size.size-index (omega (arith, c.loop-size-test.false, c.loop-size.auto.size-index-end)) c.loop-size.invariant
