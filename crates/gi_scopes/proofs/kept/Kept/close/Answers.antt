use Rattle.std.proofs.Common.{ℕ, Option, Some, None, IfSome, IfNone, sym, subst}
use Rattle.std.specs.Option.{option_map}
use Rattle.gi_lit.specs.Problem.{full}
use Rattle.gi_lit.specs.Closure.{IsClosed}
use Rattle.gi_store.specs.StoreView.{problem_of}
use Rattle.gi_scopes.specs.Under.{base_of, IsClash}
use Rattle.gi_scopes.specs.declared.clash.Clash.{Clash}
use Rattle.gi_scopes.specs.declared.clash.Clash.TheVariants.{Clause}
use Rattle.gi_scopes.proofs.Attaching.{adds_implied, settled_closed, conflict_false, attached_live, attached_base, same_problem}
use Rattle.gi_scopes.proofs.Base.{keeps_store, keeps_base}
use Rattle.gi_scopes.proofs.kept.Kept.close.Goals as goal

none_of : (o : Option ℕ) (P Q : Type 0) → (P → Q) → IfNone o P → IfNone (option_map Clause o) Q
none_of None P Q f h = f h
none_of (Some key) P Q f h = tt

some_of : (o : Option ℕ) (P : ℕ → Type 0) (Q : Clash → Type 0) → ((key : ℕ) → P key → Q (Clause key)) → IfSome o P → IfSome (option_map Clause o) Q
some_of None P Q f h = tt
some_of (Some key) P Q f h = f key h

pub propagate-conflict-requires : goal.propagate-conflict-requires
propagate-conflict-requires c =
    let s = c.args.store.now in
    let k = c.args.self.now in
    c.edits_keep_goes.ensures.edits k.prop (base_of s) s k.trail c.requires.goes (keeps_store s) (attached_live s c.vars-vars.ensures.keys k.prop c.requires.keys)

pub returns-clause-keys : goal.returns-clause-keys
returns-clause-keys c = same_problem (base_of c.args.store.now) c.args.self.now.prop c.propagate-conflict.new.self c.requires.keys c.propagate-conflict.ensures.keys

pub returns-clause-adds : goal.returns-clause-adds
returns-clause-adds c = adds_implied c.args.store.now c.vars-vars.ensures.keys c.propagate-conflict.new.self (returns-clause-keys c) c.args.self.now.trail c.propagate-conflict.new.trail c.propagate-conflict.ensures.adds

pub returns-clause-goes : goal.returns-clause-goes
returns-clause-goes c =
    let s = c.args.store.now in
    c.edits_keep_goes.ensures.edits c.propagate-conflict.new.self s (base_of s) c.propagate-conflict.new.trail c.propagate-conflict.ensures.goes (keeps_base s c.vars-vars.ensures.keys) (attached_base s c.vars-vars.ensures.keys c.propagate-conflict.new.self (returns-clause-keys c))

pub returns-clause-closed : goal.returns-clause-closed
returns-clause-closed c =
    let s = c.args.store.now in
    let lits = c.propagate-conflict.new.trail.lits in
    subst (λ o. IfNone o (IsClosed (full (problem_of (base_of s))) lits)) (sym c.clash_of.ensures)
    (none_of c.propagate-conflict.result _ _ (settled_closed s c.vars-vars.ensures.keys c.propagate-conflict.new.self (returns-clause-keys c) lits) c.propagate-conflict.ensures.closed)

pub returns-clause-clash : goal.returns-clause-clash
returns-clause-clash c given =
    let s = c.args.store.now in
    let lits = c.propagate-conflict.new.trail.lits in
    subst (λ o. IfSome o (IsClash s given lits)) (sym c.clash_of.ensures)
    (some_of c.propagate-conflict.result _ (IsClash s given lits) (conflict_false s c.vars-vars.ensures.keys c.propagate-conflict.new.self (returns-clause-keys c) lits) c.propagate-conflict.ensures.conflict)
