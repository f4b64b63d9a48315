use Rattle.std.proofs.Common.{◌≡◌, ℕ, ◌+◌, ◌<◌, ◌^◌, map, sym, ap, ◌∙◌, subst, arith}
use Rattle.std.specs.List.{range_with_len}
use Rattle.gi_aiger.specs.declared.mark.Mark.{Mark}
use Rattle.gi_aiger.specs.Marks.{AreMarked, is_used, with_mark}
use Rattle.gi_aiger.specs.Tables.{value_of}
use Rattle.gi_aiger.proofs.Marking.{weight}
use Rattle.gi_aiger.proofs.MarkTables.{some_used, few_used, marks_with, AreMarked-with}
use Rattle.gi_aiger.proofs.marks.Marks.put.Goals as goal

pub recounted-self-inside-requires-clause-some : goal.recounted-self-inside-requires-clause-some
recounted-self-inside-requires-clause-some c = λ e. some_used (value_of c.self.inside.table) c.self.inside.len c.self.inside.count c.args.v c.self.invariant (ap is_used (sym c.get-old.ensures) ∙ e)

pub recounted-self-inside-requires-clause-room : goal.recounted-self-inside-requires-clause-room
recounted-self-inside-requires-clause-room c = let few = few_used (value_of c.self.inside.table) c.self.inside.len c.self.inside.count c.self.invariant in omega (arith, few)

pub invariant_of-self-2 : goal.invariant_of-self-2
invariant_of-self-2 c =
    let small : c.args.v < 2 ^ 32 = omega (arith, c.ranges.v) in
    let counted : c.recounted-self-inside.result + weight (value_of c.self.inside.table c.args.v) ≡ c.self.inside.count + weight c.args.mark =
    subst (λ (m : Mark). c.recounted-self-inside.result + weight m ≡ c.self.inside.count + weight c.args.mark) c.get-old.ensures c.recounted-self-inside.ensures in
    subst (λ (n : ℕ). AreMarked (value_of c.put.new.self) n c.recounted-self-inside.result) (sym c.max-self-inside.ensures)
    (AreMarked-with (value_of c.self.inside.table) (value_of c.put.new.self) c.self.inside.len c.self.inside.count c.args.v c.args.mark c.self.invariant c.in_ok-put.ensures.same c.in_ok-put.ensures.rest c.recounted-self-inside.result counted small)

pub returns-clause-ok : goal.returns-clause-ok
returns-clause-ok c =
    ap (λ (n : ℕ). map (value_of c.put.new.self) (range_with_len 0 n)) c.max-self-inside.ensures
    ∙ marks_with (value_of c.self.inside.table) (value_of c.put.new.self) c.self.inside.len c.self.inside.count c.args.v c.args.mark c.self.invariant c.in_ok-put.ensures.same c.in_ok-put.ensures.rest
    ∙ ap (with_mark c.args.v c.args.mark) c.self.view_is
