use Rattle.std.proofs.Common.{◌<◌, length, arith}
use Rattle.std.proofs.lemmas.List.{get_or_read}
use Rattle.gi_prop.proofs.Keys.{goes_cut}
use Rattle.gi_prop.proofs.Laying.{laid_cut}
use Rattle.gi_prop.proofs.trail.Trail.cancel_to.Goals as goal

pub invariant_of-self : goal.invariant_of-self
invariant_of-self c =
    let lt : c.args.level < length c.self.inside.level_starts.items = (let x = c.if-level-len.false in omega (arith, x, c.len.ensures, c.self.inside.level_starts.ok.0)) in
    let hlt : c.args.level < length c.self.inside.qheads.items = omega (arith, c.self.invariant.begun.aligned) in
    laid_cut _ _ _ _ _ _ _ _ _ c.self.invariant c.args.level c.index.result.now c.index-2.result.now _ _ _ _ _ _ _ _
    lt
    (get_or_read c.self.inside.level_starts.items c.args.level c.index.result.now lt c.index.ensures 0)
    (get_or_read c.self.inside.qheads.items c.args.level c.index-2.result.now hlt c.index-2.ensures 0)
    c.unwind.ensures.table
    c.unwind.ensures.positions
    c.unwind.ensures.lits
    c.truncate-3.ensures.items
    c.truncate.ensures.items
    c.truncate-2.ensures.items
    (omega (arith, c.unwind.ensures.capacity))
    (omega (arith, c.truncate-3.ensures.capacity))

pub returns-clause-goes : goal.returns-clause-goes
returns-clause-goes c =
    let lt : c.args.level < length c.self.inside.level_starts.items = (let x = c.if-level-len.false in omega (arith, x, c.len.ensures, c.self.inside.level_starts.ok.0)) in
    let hlt : c.args.level < length c.self.inside.qheads.items = omega (arith, c.self.invariant.begun.aligned) in
    goes_cut _ _ _ c.args.level _ c.self.view_is c.self.invariant.begun lt (omega (arith, c.unwind.ensures.positions))
    (get_or_read c.self.inside.level_starts.items c.args.level c.index.result.now lt c.index.ensures 0)
    c.unwind.ensures.lits
    c.truncate.ensures.items
    c.truncate-2.ensures.items
    (get_or_read c.self.inside.qheads.items c.args.level c.index-2.result.now hlt c.index-2.ensures 0)
