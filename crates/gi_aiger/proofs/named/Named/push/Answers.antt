use Rattle.std.proofs.Common.{◌≡◌, List, [], ◌∷◌, ◌++◌, sym, ap, ◌∙◌, subst}
use Rattle.gi_aiger.specs.declared.aig.Symbol.{Symbol}
use Rattle.gi_aiger.specs.Tables.{value_of}
use Rattle.gi_aiger.proofs.Naming.{Tell, push_tells}
use Rattle.gi_aiger.proofs.named.Named.push.Goals as goal

pub invariant_of-self-2 : goal.invariant_of-self-2
invariant_of-self-2 c =
    let items : c.push_reserved.new.self.items ≡ c.self.inside.items.items ++ c.args.symbol ∷ [] = c.push_reserved.ensures.items ∙ ap (λ (xs : List Symbol). xs ++ c.args.symbol ∷ []) c.reserve.ensures.items in
    subst (λ (symbols : List Symbol). Tell (value_of c.put.new.self) symbols) (sym items)
    (push_tells (value_of c.self.inside.seen) (value_of c.put.new.self) c.self.inside.items.items c.args.symbol c.flag_of-flag.result c.self.invariant c.in_ok-put.ensures.same c.in_ok-put.ensures.rest c.requires.lower c.requires.upper c.flag_of-flag.ensures)
