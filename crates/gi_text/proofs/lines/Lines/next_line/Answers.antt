use Rattle.std.proofs.Common.{◌≡◌, ◌≢◌, ◌<◌, ℕ, length, ap, sym, ◌∙◌, arith}
use Rattle.std.proofs.lemmas.Bool.{eqb-false}
use Rattle.gi_text.specs.Lines.{Kept}
use Rattle.gi_text.proofs.Fronts.{front_is_line, last_is_line}
use Rattle.gi_text.proofs.lines.Lines.next_line.Goals as goal

pub returns-in-Some : goal.returns-in-Some
returns-in-Some c =
    let found = c.in-Some.ensures.found in
    front_is_line c.give_front.result c.in-Some.n c.args.self.now c.find_end.new.self c.give_front.new.self c.in-Some.ensures.same found.0 found.1 c.give_front.ensures

positive : (n m : ℕ) → m ≢ 0 → n ≡ m → 0 < n
positive n m h e = omega arith

pub returns-in-None-3 : goal.returns-in-None-3
returns-in-None-3 c =
    let some = eqb-false _ 0 (sym c.is_empty.ensures ∙ c.if-is_empty.false) in
    let view = c.self.view_is ∙ c.find_end.ensures.same in
    last_is_line c.give_front-in-None-3.result c.len-n.result c.args.self.now c.find_end.new.self c.give_front-in-None-3.new.self c.find_end.ensures.same c.in-None.ensures.found (sym (ap (λ (k : Kept). k.ended) view) ∙ c.if-not-self.false) (positive _ _ some c.len-n.ensures) (c.len-n.ensures ∙ ap (λ (k : Kept). length k.left) view) c.give_front-in-None-3.ensures
