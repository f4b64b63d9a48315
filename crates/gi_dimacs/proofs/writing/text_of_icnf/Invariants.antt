use Rattle.std.proofs.Common.{◌≡◌, ◌++◌, ◌∷◌, [], take}
use Rattle.std.specs.List.{flat_map}
use Rattle.gi_dimacs.specs.Texts.{item_text, icnf_header}
use Rattle.gi_dimacs.proofs.writing.text_of_icnf.Given as goal

abbrev pub invariant-loop-item : goal.invariant-loop-item
invariant-loop-item l = l.out ≡ (icnf_header ++ 10 ∷ []) ++ flat_map (λ i. item_text i ++ 10 ∷ []) (take l.item-index l.icnf.items)
