use Rattle.std.proofs.Common.{List, sym, ap, ◌∙◌}
use Rattle.gi_aiger.specs.declared.mark.Mark.{Mark}
use Rattle.gi_aiger.specs.Marks.{mark_at}
use Rattle.gi_aiger.specs.Tables.{value_of}
use Rattle.gi_aiger.proofs.MarkTables.{mark_told}
use Rattle.gi_aiger.proofs.marks.Marks.mark_at.Goals as goal

pub returns : goal.returns
returns c =
    c.get.ensures
    ∙ sym (mark_told (value_of c.self.inside.table) c.self.inside.len c.self.inside.count c.args.v c.self.invariant)
    ∙ ap (λ (marks : List Mark). mark_at marks c.args.v) c.self.view_is
