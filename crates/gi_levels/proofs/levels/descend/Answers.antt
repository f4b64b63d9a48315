use Rattle.std.proofs.Common.{refl, arith, true, false}
use Rattle.gi_levels.proofs.Levelling.{cyclic, pushed, flag_is, advances_to}
use Rattle.gi_levels.proofs.levels.descend.Goals as goal

pub returns-then-index : goal.returns-then-index
returns-then-index c = λ levels.
    let s = c.requires.sound in
    cyclic c.args.nodes.now c.args.s.now.seen.items c.args.s.now.level.items c.args.s.now.stack.items c.args.s.now.fresh c.args.top c.args.place s c.requires.last c.requires.operand c.requires.open
    (flag_is c.args.s.now.seen.items c.args.place true c.index.result.now (omega (arith, c.requires.operand.1, s.seen_len)) c.index.ensures c.if-index.true) levels

pub returns : goal.returns
returns c =
    let s = c.requires.sound in
    let p = c.in_ok-push.ensures in
    advances_to c.args.nodes.now c.args.s.now.level.items c.args.s.now.stack.items c.args.s.now.fresh _ _ _ c.push.new.s.fresh c.push.new.s.seen.items c.push.new.s.level.items c.push.new.s.stack.items c.push.new.s.fresh
    p.0 p.1 p.2 refl
    (pushed c.args.nodes.now c.args.s.now.seen.items c.args.s.now.level.items c.args.s.now.stack.items c.args.s.now.fresh c.push.new.s.fresh c.args.top c.args.place s c.requires.last c.requires.operand c.requires.open
    (flag_is c.args.s.now.seen.items c.args.place false c.index.result.now (omega (arith, c.requires.operand.1, s.seen_len)) c.index.ensures c.if-index.false) p.3)
