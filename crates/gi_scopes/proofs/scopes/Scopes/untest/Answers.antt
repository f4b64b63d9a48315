use Rattle.std.proofs.Common.{◌≡◌, ℕ, ◌+◌, ◌-◌, ◌≤◌, List, Option, length, take, get_or, sym, ap, subst, arith}
use Rattle.gi_model.specs.State.{Scope, listed_in, scope_listed}
use Rattle.gi_scopes.specs.Open.{Open, AreExplained, AreReasoned}
use Rattle.gi_scopes.specs.Built.{IsFor}
use Rattle.gi_scopes.specs.Kept.{IsOpen}
use Rattle.gi_scopes.specs.declared.kept.Kept.{Kept}
use Rattle.gi_scopes.proofs.Listing.{listed_last, open_less, reasoned_less}
use Rattle.gi_scopes.proofs.scopes.Scopes.untest.Goals as goal

lists_last : (o : Open) (scs : List Scope) (count : ℕ) (sc : Scope) → 1 ≤ length o.scopes → scs ≡ o.scopes → count ≡ length scs → sc ≡ get_or scs (count - 1) sc → length (scope_listed scs) ≡ length (scope_listed (take (count - 1) scs)) + length (listed_in sc.found)
lists_last o scs count sc some same is at = listed_last scs (count - 1) sc (omega (arith, some, ap length same, is)) at

pub overflow_sub-left : goal.overflow_sub-left
overflow_sub-left c = omega (arith, lists_last c.args.self.now c.self.inside.levels.items c.len-last.result c.index.result.now c.requires (ap (λ (o : Open). o.scopes) c.self.view_is) (omega (arith, c.len-last.ensures, c.self.inside.levels.ok.0)) c.index.ensures, ap length c.listed.ensures, c.len.ensures, c.self.inside.reasons.ok.0, c.self.invariant.0.earlier.count)

pub invariant_of-self : goal.invariant_of-self
invariant_of-self c =
    let n : ℕ = c.len-last.result - 1 in
    let left : c.len.result - length c.listed.result.now ≡ length (scope_listed (take n c.self.inside.levels.items)) = omega (arith, lists_last c.args.self.now c.self.inside.levels.items c.len-last.result c.index.result.now c.requires (ap (λ (o : Open). o.scopes) c.self.view_is) (omega (arith, c.len-last.ensures, c.self.inside.levels.ok.0)) c.index.ensures, ap length c.listed.ensures, c.len.ensures, c.self.inside.reasons.ok.0, c.self.invariant.0.earlier.count) in
    (rw (c.truncate.ensures.items, c.truncate-2.ensures.items) (subst (λ k. IsOpen (take n c.self.inside.levels.items) (take k c.self.inside.reasons.items)) (sym left) (open_less c.self.inside.levels.items c.self.inside.reasons.items n c.self.invariant.0)), c.self.invariant.1)

pub returns-clause-reasons : goal.returns-clause-reasons
returns-clause-reasons c p h =
    let n : ℕ = c.len-last.result - 1 in
    let left : c.len.result - length c.listed.result.now ≡ length (scope_listed (take n c.self.inside.levels.items)) = omega (arith, lists_last c.args.self.now c.self.inside.levels.items c.len-last.result c.index.result.now c.requires (ap (λ (o : Open). o.scopes) c.self.view_is) (omega (arith, c.len-last.ensures, c.self.inside.levels.ok.0)) c.index.ensures, ap length c.listed.ensures, c.len.ensures, c.self.inside.reasons.ok.0, c.self.invariant.0.earlier.count) in
    let old : AreExplained p c.self.inside.levels.items c.self.inside.reasons.items = subst (AreReasoned p) (sym c.self.view_is) h in
    let new : AreExplained p (take n c.self.inside.levels.items) (take (c.len.result - length c.listed.result.now) c.self.inside.reasons.items) = subst (λ k. AreExplained p (take n c.self.inside.levels.items) (take k c.self.inside.reasons.items)) (sym left) (reasoned_less c.self.inside.levels.items c.self.inside.reasons.items n p old) in
    rw (c.truncate.ensures.items, c.truncate-2.ensures.items) new

pub returns-clause-kept : goal.returns-clause-kept
returns-clause-kept c s h =
    let scs : List Scope = c.self.inside.levels.items in
    let old : IsFor c.replace.result scs s = subst (λ (k : Option Kept). IsFor k scs s) (sym c.replace.ensures.value) (subst (λ (o : Open). IsFor o.kept o.scopes s) (sym c.self.view_is) h) in
    rw c.truncate.ensures.items (c.cut.ensures.built scs s (omega (arith, c.len-last.ensures, c.self.inside.levels.ok.0)) old)
