-- What holds where no refusal is named.
use Rattle.std.proofs.Common.{◌≡◌, Bool, true, false, ◌&&◌, cond, Option, Some, None, List, [], ◌∷◌, refl}
use Rattle.std.specs.List.{AllByRecursion}
use Rattle.std.proofs.lemmas.Bool.{not-false}
use Rattle.gi_model.specs.State.{State}
use Rattle.gi_model.specs.Loads.{bad_payload}
use Rattle.gi_model.specs.Refusals.{refuses, tests, first_of, is_work, is_over, admits, is_scoped, has_bad_lit, is_not_guard, is_held, is_beyond, lacks_scope, is_unlisted, needs_solve, is_none_yet, lacks_model, lacks_clause}
use Rattle.gi_model.specs.declared.calls.Call.{Call}
use Rattle.gi_model.specs.declared.refusal.Refusal.{Refusal}

-- no condition of the table holds
pub record IsAccepted (s : State) (call : Call) : Type 0 where
  pub alive : is_over s.life ≡ false
  pub admitted : admits s.solve call ≡ true
  pub unscoped : is_scoped s.scopes call ≡ false
  pub good_lits : has_bad_lit s.problem call ≡ false
  pub guard : is_not_guard s.problem call ≡ false
  pub unheld : is_held s call ≡ false
  pub within : is_beyond s call ≡ false
  pub has_scope : lacks_scope s.scopes call ≡ false
  pub listed : is_unlisted s.scopes call ≡ false
  pub has_solve : (needs_solve call && is_none_yet s.solve) ≡ false
  pub has_model : lacks_model s.solve call ≡ false
  pub has_clause : lacks_clause s.known call ≡ false
  pub good_payload : bad_payload call ≡ None

first_none : (ts : List (Bool × Refusal)) (last : Option Refusal) → first_of ts last ≡ None → AllByRecursion (λ (t : Bool × Refusal). t.0 ≡ false) ts
first_none [] last e = tt
first_none (t ∷ ts) last e = go (first_none ts last) t.0 refl e
  where
    go : (first_of ts last ≡ None → AllByRecursion (λ (t : Bool × Refusal). t.0 ≡ false) ts)
        → (b : Bool) → t.0 ≡ b → cond b (Some t.1) (first_of ts last) ≡ None → (t.0 ≡ false) × AllByRecursion (λ (t : Bool × Refusal). t.0 ≡ false) ts
    go rest true q x = cc
    go rest false q x = (q, rest x)

last_none : (ts : List (Bool × Refusal)) (last : Option Refusal) → first_of ts last ≡ None → last ≡ None
last_none [] last e = e
last_none (t ∷ ts) last e = go (last_none ts last) t.0 e
  where
    go : (first_of ts last ≡ None → last ≡ None) → (b : Bool) → cond b (Some t.1) (first_of ts last) ≡ None → last ≡ None
    go rest true x = absurd cc
    go rest false x = rest x

pub accepted_facts : (s : State) (call : Call) → is_work call ≡ false → refuses s call ≡ None → IsAccepted s call
unfolding refuses
accepted_facts s call w e =
    let t : first_of (tests s call) (bad_payload call) ≡ None = rw w at e in
    let a = first_none (tests s call) (bad_payload call) t in
    record {
      alive = a.0;
      admitted = not-false _ a.1.0;
      unscoped = a.1.1.0;
      good_lits = a.1.1.1.0;
      guard = a.1.1.1.1.0;
      unheld = a.1.1.1.1.1.0;
      within = a.1.1.1.1.1.1.0;
      has_scope = a.1.1.1.1.1.1.1.0;
      listed = a.1.1.1.1.1.1.1.1.0;
      has_solve = a.1.1.1.1.1.1.1.1.1.0;
      has_model = a.1.1.1.1.1.1.1.1.1.1.0;
      has_clause = a.1.1.1.1.1.1.1.1.1.1.1.0;
      good_payload = last_none (tests s call) (bad_payload call) t;
    }
