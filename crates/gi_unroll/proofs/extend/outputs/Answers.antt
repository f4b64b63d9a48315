use Rattle.std.proofs.Common.{◌/◌, ◌<◌, length, get_or, sym, ◌∙◌, subst}
use Rattle.std.specs.List.{All}
use Rattle.std.proofs.lemmas.List.Elements.{All-map}
use Rattle.gi_circuit.specs.Frames.{edge_of}
use Rattle.gi_unroll.proofs.Steps.{edge_below}
use Rattle.gi_unroll.proofs.extend.outputs.Goals as goal

pub lits_of-requires : goal.lits_of-requires
lits_of-requires c =
    subst (All (λ e. e / 2 < length c.args.builder.now.lits)) (sym (c.deref.ensures.value ∙ c.in_ok-shared.ensures))
    (All-map (λ e. e / 2 < length c.args.builder.now.lits) (edge_of c.args.builder.now.edges) c.args.edges.now (λ k d lt. edge_below c.args.builder.now.edges (length c.args.builder.now.lits) (get_or c.args.edges.now k d) c.requires.edges (c.requires.within k d lt)))
