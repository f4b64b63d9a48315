use Rattle.std.proofs.Common.{◌≡◌, ◌<◌, ◌+◌, ◌++◌, ◌∷◌, [], arith, length, ap, sym, ◌∙◌, length-set, length-append, take, refl}
use Rattle.std.proofs.lemmas.List.{take-take, take_at}
use Rattle.gi_prop.specs.Laid.{IsTable}
use Rattle.gi_prop.proofs.Values.{IsTable-pop}
use Rattle.gi_prop.proofs.positions.unwind.Goals as goal

pub loop-lits-preserved-in-Some : goal.loop-lits-preserved-in-Some
loop-lits-preserved-in-Some c =
    let front = c.pop.new.self.items in
    let items : c.loop-lits.lits.items ≡ front ++ c.in-Some.l ∷ [] = c.in-Some.ensures.items in
    let i = c.loop-lits.invariant in
    let old : IsTable c.loop-lits.positions.items (front ++ c.in-Some.l ∷ []) c.loop-lits.values.items = rw items at i.table in
    let long : length c.loop-lits.lits.items ≡ length front + 1 = rw items (length-append front (c.in-Some.l ∷ [])) in
    let lt : c.args.len < length c.loop-lits.lits.items = omega (arith, c.loop-lits-test.true, c.len.ensures, c.loop-lits.lits.ok.0) in
    let front_is : take (length front) c.args.lits.now.items ≡ front =
    sym (take-take (length front) (length c.loop-lits.lits.items) c.args.lits.now.items (omega arith)) ∙ ap (take (length front)) (i.front ∙ items) ∙ take_at front (c.in-Some.l ∷ []) (length front) refl in
    record {
      table = rw (c.none.ensures, c.unknown.ensures, c.index.ensures.value, c.var.ensures) (IsTable-pop c.loop-lits.positions.items front c.in-Some.l c.loop-lits.values.items old);
      front = front_is;
      long = omega arith;
      capacity = omega (arith, i.capacity, c.in-Some.ensures.capacity);
      positions = length-set _ _ _ ∙ i.positions;
    }
