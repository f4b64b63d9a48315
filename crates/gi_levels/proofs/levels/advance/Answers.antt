use Rattle.std.proofs.Common.{◌≡◌, ℕ, max, ◌+◌, ap, ◌∙◌, arith, get_or, set}
use Rattle.gi_levels.specs.Levels.{node_at}
use Rattle.gi_levels.proofs.Levelling.{settled, advances_to}
use Rattle.gi_levels.proofs.levels.advance.Goals as goal

pub returns : goal.returns
returns c =
    let s = c.requires.sound in
    let lv = c.args.s.now.level.items in
    let node = node_at c.args.nodes.now c.args.top in
    let e = c.settle.ensures in
    let level : c.max.result + 1 ≡ max (get_or lv node.left 0) (get_or lv node.right 0) + 1 = ap (λ (x : ℕ). x + 1) (rw (← c.level_at-left.ensures, ← c.level_at-right.ensures) c.max.ensures) in
    advances_to c.args.nodes.now lv c.args.s.now.stack.items c.args.s.now.fresh _ _ _ c.args.s.now.fresh c.settle.new.s.seen.items c.settle.new.s.level.items c.settle.new.s.stack.items c.settle.new.s.fresh
    e.0 (e.1 ∙ ap (λ (x : ℕ). set lv c.args.top x) level) e.4 e.3
    (settled c.args.nodes.now c.args.s.now.seen.items lv c.args.s.now.stack.items c.args.s.now.fresh c.args.top s c.requires.last
    (λ lt. c.if-is_open.ensures (omega (arith, lt, s.levels_len))) (λ lt. c.if-is_open-2.ensures (omega (arith, lt, s.levels_len))))
