use Rattle.std.proofs.Common.{Option, Some, None, sym, subst}
use Rattle.std.specs.List.{All, Contains}
use Rattle.std.specs.Option.{IfNone}
use Rattle.std.proofs.lemmas.List.Elements.{All-weaker, Contains-append_left}
use Rattle.gi_scopes.specs.declared.clash.Clash.{Clash}
use Rattle.gi_store.specs.StoreView.{IsWithin}
use Rattle.gi_prop.specs.TrailView.{TrailView}
use Rattle.gi_scopes.specs.Under.{base_of, Adds}
use Rattle.gi_scopes.proofs.Leveling.{reaches_assumed, reaches_more}
use Rattle.gi_scopes.proofs.kept.Kept.raise.Goals as goal

pub assume-clashing-requires : goal.assume-clashing-requires
assume-clashing-requires c = subst (λ (t : TrailView). IsWithin t.vars c.args.assumed.now) (sym c.in_ok-push_level.ensures.ok) c.requires.within

pub close-requires-clause-goes : goal.close-requires-clause-goes
close-requires-clause-goes c = c.assume-clashing.ensures.goes c.args.self.now.prop (base_of c.args.store.now) (c.push_level.ensures.goes c.args.self.now.prop (base_of c.args.store.now) c.requires.goes)

pub returns-in-Some-clause-reaches : goal.returns-in-Some-clause-reaches
returns-in-Some-clause-reaches c = reaches_assumed (base_of c.args.store.now) c.args.assumed.now c.args.self.now.trail c.assume-clashing.new.trail c.level-level.ensures.trail.reasons (subst (λ (t : TrailView). Adds c.args.assumed.now t c.assume-clashing.new.trail) c.in_ok-push_level.ensures.ok c.assume-clashing.ensures.adds)

pub returns-in-None-clause-reaches : goal.returns-in-None-clause-reaches
returns-in-None-clause-reaches c = reaches_more (base_of c.args.store.now) c.args.assumed.now c.args.self.now.trail c.assume-clashing.new.trail c.close.new.self.trail c.level-assumed.ensures.trail.reasons (reaches_assumed (base_of c.args.store.now) c.args.assumed.now c.args.self.now.trail c.assume-clashing.new.trail c.level-level.ensures.trail.reasons (subst (λ (t : TrailView). Adds c.args.assumed.now t c.assume-clashing.new.trail) c.in_ok-push_level.ensures.ok c.assume-clashing.ensures.adds)) c.close.ensures.adds

some_clash : (o : Option Clash) (P : Type 0) → P → IfNone o P
some_clash None P h = h
some_clash (Some x) P h = tt

pub returns-in-None-clause-whole : goal.returns-in-None-clause-whole
returns-in-None-clause-whole c = some_clash c.close.result (All (Contains c.close.new.self.trail.lits) c.args.assumed.now) (All-weaker (Contains c.assume-clashing.new.trail.lits) (Contains c.close.new.self.trail.lits) (λ m a. subst (λ xs. Contains xs m) (sym c.close.ensures.adds.lits) (Contains-append_left c.assume-clashing.new.trail.lits c.close.ensures.adds.more m a)) c.args.assumed.now c.in-None.ensures.whole)

pub returns-in-None-clause-clash : goal.returns-in-None-clause-clash
returns-in-None-clause-clash c = c.close.ensures.clash c.args.assumed.now
