-- The refusal table as nested tests.
use Rattle.std.proofs.Common.{◌≡◌, Bool, not, ◌&&◌, cond, Option, Some, None, true, false, refl, ap}
use Rattle.gi_model.specs.State.{State}
use Rattle.gi_model.specs.Loads.{bad_payload}
use Rattle.gi_model.specs.History.{is_load}
use Rattle.gi_model.specs.Refusals.{refuses, is_work, is_over, admits, is_scoped, has_bad_lit, is_not_guard, is_held, is_beyond, lacks_scope, is_unlisted, needs_solve, is_none_yet, lacks_model, lacks_clause}
use Rattle.gi_model.specs.declared.calls.Call.{Call}
use Rattle.gi_model.specs.declared.calls.Call.TheVariants as call
use Rattle.gi_model.specs.declared.refusal.Refusal.{Refusal}
use Rattle.gi_model.specs.declared.refusal.Refusal.TheVariants as refusal
use Rattle.gi_model.specs.Early.{early}
use Rattle.gi_model.specs.Early.{lacking}

abbrev pub table : Bool → Bool → Bool → Bool → Bool → Bool → Bool → Bool → Bool → Option Refusal → Option Refusal
table work over admitted load scoped lit guard held beyond rest =
    cond work None (cond over (Some refusal.Dead) (cond (not admitted) (Some refusal.Busy) (cond load None (cond scoped (Some refusal.Scoped) (cond lit (Some refusal.Lit) (cond guard (Some refusal.NotGuard) (cond held (Some refusal.Held) (cond beyond (Some refusal.Limit) rest))))))))

-- work has no payload
load_works : (c : Call) → is_load c ≡ true → is_work c ≡ false
load_works (call.LoadCnf bytes) e = refl
load_works other e = absurd cc

without_load : (work load over admitted : Bool) (rest : Option Refusal) → (load ≡ true → work ≡ false)
    → cond load (cond over (Some refusal.Dead) (cond (not admitted) (Some refusal.Busy) None)) (cond work None (cond over (Some refusal.Dead) (cond (not admitted) (Some refusal.Busy) rest)))
    ≡ cond work None (cond over (Some refusal.Dead) (cond (not admitted) (Some refusal.Busy) (cond load None rest)))
without_load true true over admitted rest h = absurd (let e = h refl in cc)
without_load false true over admitted rest h = refl
without_load work false over admitted rest h = refl

pub is_table : (s : State) (c : Call) → early s c ≡ table (is_work c) (is_over s.life) (admits s.solve c) (is_load c) (is_scoped s.scopes c) (has_bad_lit s.problem c) (is_not_guard s.problem c) (is_held s c) (is_beyond s c) (lacking s c)
unfolding refuses lacking
is_table s c = without_load (is_work c) (is_load c) (is_over s.life) (admits s.solve c) (cond (is_scoped s.scopes c) (Some refusal.Scoped) (cond (has_bad_lit s.problem c) (Some refusal.Lit) (cond (is_not_guard s.problem c) (Some refusal.NotGuard) (cond (is_held s c) (Some refusal.Held) (cond (is_beyond s c) (Some refusal.Limit) (lacking s c)))))) (load_works c)

-- without a payload none is wrong
no_payload : (c : Call) → is_load c ≡ false → bad_payload c ≡ None
no_payload (call.LoadCnf bytes) e = absurd cc
no_payload other e = refl

barred : (over admitted : Bool) (x : Option Refusal) (r : Refusal) → cond over (Some refusal.Dead) (cond (not admitted) (Some refusal.Busy) None) ≡ Some r → cond over (Some refusal.Dead) (cond (not admitted) (Some refusal.Busy) x) ≡ Some r
barred true admitted x r e = e
barred false false x r e = e
barred false true x r e = absurd cc

-- what is told before a payload is read is what the table names
pub early_refuses : (s : State) (c : Call) (r : Refusal) → early s c ≡ Some r → refuses s c ≡ Some r
unfolding refuses
early_refuses s (call.LoadCnf bytes) r e = barred (is_over s.life) (admits s.solve (call.LoadCnf bytes)) _ r e
early_refuses s other r e = e

abbrev pub rest : Bool → Bool → Bool → Bool → Bool → Option Refusal
rest scope listed solve model clause = cond scope (Some refusal.NoScope) (cond listed (Some refusal.NotImplied) (cond solve (Some refusal.NoSolve) (cond model (Some refusal.NoModel) (cond clause (Some refusal.NoClause) None))))

pub is_rest : (s : State) (c : Call) → is_load c ≡ false → lacking s c ≡ rest (lacks_scope s.scopes c) (is_unlisted s.scopes c) (needs_solve c && is_none_yet s.solve) (lacks_model s.solve c) (lacks_clause s.known c)
unfolding lacking
is_rest s c e = ap (λ (x : Option Refusal). cond (lacks_scope s.scopes c) (Some refusal.NoScope) (cond (is_unlisted s.scopes c) (Some refusal.NotImplied) (cond (needs_solve c && is_none_yet s.solve) (Some refusal.NoSolve) (cond (lacks_model s.solve c) (Some refusal.NoModel) (cond (lacks_clause s.known c) (Some refusal.NoClause) x))))) (no_payload c e)
