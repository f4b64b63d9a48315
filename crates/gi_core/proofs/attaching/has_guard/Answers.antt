use Rattle.std.proofs.Common.{◌≡◌, ◌-◌, ◌/◌, ℕ, length, sym, ap, ◌∙◌, subst, arith}
use Rattle.std.specs.List.{Contains, slice_index}
use Rattle.std.proofs.lemmas.Grind.{get_or_default_zero}
use Rattle.gi_core.proofs.Leaving.{AreOthers, none_named, others_all}
use Rattle.gi_core.proofs.attaching.has_guard.Goals as goal

pub returns-then-not-is_active : goal.returns-then-not-is_active
returns-then-not-is_active c =
    let clause = c.args.clause.now in
    let active = c.args.store.now.active in
    let i = length clause - 1 - c.loop-i.i in
    let read : c.var-v.result ≡ slice_index clause i / 2 = c.var-v.ensures ∙ ap (λ (l : ℕ). l / 2) (c.index-clause-clause.is ∙ get_or_default_zero clause i c.index-clause-clause.result (omega arith)) in
    none_named c.args.g clause (others_all active c.args.g clause (length clause - c.loop-i.i) i (omega arith) (omega arith) c.requires.guard c.requires.last c.loop-i.invariant
    (λ x. absurd (let e = c.if-not-is_active.ensures.1 (subst (Contains active) (sym read) x) in cc)))

pub returns : goal.returns
returns c =
    let clause = c.args.clause.now in
    let all : length clause - c.loop-i.i ≡ 0 = omega arith in
    none_named c.args.g clause (subst (AreOthers c.args.g clause) all c.loop-i.invariant)
