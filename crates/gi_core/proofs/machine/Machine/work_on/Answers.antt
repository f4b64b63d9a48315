use Rattle.std.proofs.Common.{◌≢◌, ◌+◌, ◌*◌, ◌≤◌, refl, arith}
use Rattle.std.proofs.lemmas.Bool.{both_ways}
use Rattle.gi_cdcl.specs.declared.slice.Slice.TheVariants.{NoMemory}
use Rattle.gi_core.specs.View.{state_of}
use Rattle.gi_model.specs.declared.solve.Solve.TheVariants.{Running}
use Rattle.gi_core.proofs.Moving.{assumed_within}
use Rattle.gi_core.proofs.Slices.{kept_usable, settled, work_dead, advances_learns, learned_full}
use Rattle.gi_core.proofs.machine.Machine.work_on.Goals as goal

pub slice-news-requires-clause-assumed : goal.slice-news-requires-clause-assumed
slice-news-requires-clause-assumed g c = rw c.as_slice.ensures (assumed_within c.args.self.now.solver.problem c.args.run.assumed c.requires.whole.kept.clauses c.requires.whole.kept.run)

pub slice-news-requires-clause-known : goal.slice-news-requires-clause-known
slice-news-requires-clause-known g c = kept_usable (state_of (record c.args.self.now { solve = Running c.args.run })) c.args.self.now.solver.base c.requires.whole.kept

pub returns-then-is_lost-clause-moves : goal.returns-then-is_lost-clause-moves
returns-then-is_lost-clause-moves g c = work_dead c.args.self.now c.die.new.self c.args.run c.slice-news.result.mark c.die.result c.requires.alive c.die.ensures.value c.die.ensures.state c.die.ensures.blank

pub returns-clause-moves : goal.returns-clause-moves
returns-clause-moves g c =
    let m = c.args.self.now in
    let run = c.args.run in
    let r = c.slice-news.result in
    let some : r.end ≢ NoMemory = λ e. both_ways c.is_lost.result c.if-is_lost.false (c.is_lost.ensures.1 e) in
    let left = c.requires.whole.kept.solve.left in
    let pace = c.slice_limit-limit.ensures.pace in
    let paced : c.slice_limit-limit.result ≤ 32 * pace.0 = omega (arith, pace.2) in
    let within : run.spent + c.slice_limit-limit.result ≤ run.budget = omega (arith, c.slice_limit-limit.ensures.within) in
    settled m (record m { solver = c.slice-news.new.self }) c.settle.new.self run c.slice_limit-limit.result r.mark pace.0 r.news r.end c.settle.result c.requires.alive some c.slice_limit-limit.ensures.high pace.1 paced within
    (advances_learns m.solver c.slice-news.new.self run.assumed c.slice_limit-limit.result run.serial r.mark r.news r.end some (rw c.as_slice.ensures at c.slice-news.ensures.advances)) refl c.settle.ensures

pub settle-requires-clause-some : goal.settle-requires-clause-some
settle-requires-clause-some g c = λ e.
    let r = c.slice-news.result in
    let n = learned_full c.args.self.now.solver c.slice-news.new.self c.args.run.assumed c.slice_limit-limit.result c.args.run.serial r.mark r.news r.end e (rw c.as_slice.ensures at c.slice-news.ensures.advances) in
    omega (arith, n, c.slice_limit-limit.ensures.low)

pub settle-requires-clause-found : goal.settle-requires-clause-found
settle-requires-clause-found g c = λ e. both_ways c.is_lost.result c.if-is_lost.false (c.is_lost.ensures.1 e)
