-- What a call does to a session's pass.
use Rattle.std.proofs.Common.{◌≡◌, ◌≢◌, ℕ, ◌+◌, ◌<◌, ◌==◌, ◌⊎◌, inl, inr, Bool, true, false, cond, List, [], ◌∷◌, ◌++◌, length, length-append, Option, Some, refl, ap, sym, ◌∙◌, subst, arith}
use Rattle.std.specs.Prelude.{All, Contains}
use Rattle.std.proofs.lemmas.Bool.{eq-eqb, eqb-true}
use Rattle.std.proofs.lemmas.List.{append-nil, append_assoc}
use Rattle.std.proofs.lemmas.List.Elements.{All-append, All-cons, All-head, All-nil, All-push, All-tail, All-weaker, filter-append}
use Rattle.gi_model.specs.State.{State, opening}
use Rattle.gi_model.specs.Effects.{after}
use Rattle.gi_model.specs.Fits.{fits}
use Rattle.gi_model.specs.History.{Allows, Entry, IsLegalFrom, after_all}
use Rattle.gi_model.specs.Refusals.{is_work}
use Rattle.gi_model.specs.declared.calls.Call.{Call}
use Rattle.gi_model.specs.declared.calls.Call.TheVariants as call
use Rattle.gi_model.specs.declared.replies.Reply.{Reply}
use Rattle.gi_model.specs.declared.replies.Reply.TheVariants as reply
use Rattle.gi_net.specs.Calls.{BreaksOff, Enters}
use Rattle.gi_net.specs.Laws.{AllowedIsReply}
use Rattle.gi_net.specs.Leads.{Leads, none, more}
use Rattle.gi_room.specs.Entries.{all_own_of}
use Rattle.gi_room.specs.Seen.{Seen}
use Rattle.gi_room.specs.Calls.{Called, Calls, HoldsAsBefore, InCall, IsOwnWork}
use Rattle.gi_host.specs.Visits.{Asking, IsBusy, Visit, Visits, after_entries, after_own, asking, asks_of, has_started, once_asked, standing_of, started_by, visit}
use Rattle.gi_host.proofs.Asking.{after_append, after_last, asks_same, calls_none, here_after, quiet, started_kept, started_now, unseen}

none_length : (es : List Entry) → length es ≡ 0 → es ≡ []
none_length [] e = refl
none_length (x ∷ es) e = absurd (omega arith)

-- the last entry of a legal history was allowed
legal_last : (es : List Entry) (e : Entry) (s : State) → IsLegalFrom s (es ++ e ∷ []) → Allows (after_all s es) e.call e.reply
unfolding after_all
legal_last [] e s h = h.0
legal_last (x ∷ es) e s h = legal_last es e (after s x.call x.reply) h.1

own_push : (n : ℕ) (es : List Entry) (e : Entry) → e.by ≡ n → all_own_of n (es ++ e ∷ []) ≡ all_own_of n es ++ e ∷ []
own_push n es e is = filter-append (λ (x : Entry). x.by == n) es (e ∷ []) ∙ ap (λ b. all_own_of n es ++ cond b (e ∷ []) []) (eq-eqb e.by n is)

-- own work was never idle
own_busy : (p : Seen) (es : List Entry) → Contains p.held p.number → All (λ e. Contains p.held e.by → IsOwnWork p e) es → All IsBusy (all_own_of p.number es)
own_busy p [] own works = All-nil IsBusy
own_busy p (e ∷ es) own works = go (e.by == p.number) refl (own_busy p es own (All-tail (λ (x : Entry). Contains p.held x.by → IsOwnWork p x) e es works))
  where
    go : (b : Bool) → (e.by == p.number) ≡ b → All IsBusy (all_own_of p.number es) → All IsBusy (cond b (e ∷ all_own_of p.number es) (all_own_of p.number es))
    go true is rest = All-cons IsBusy e (all_own_of p.number es)
        (λ work. (All-head (λ (x : Entry). Contains p.held x.by → IsOwnWork p x) e es works (subst (Contains p.held) (sym (eqb-true e.by p.number is)) own)).busy) rest
    go false is rest = rest

-- a call that fits is no work
fits_call : (c : Call) → fits c ≡ true → is_work c ≡ false
fits_call (call.Work mark) h = absurd cc
fits_call c h = refl

no_work : (e : Entry) → is_work e.call ≡ false → IsBusy e
no_work e call work = absurd (let q : true ≡ false = sym work ∙ call in cc)

-- no call
pub visits_none : (v : Visit) → Visits v v
unfolding after_entries
visits_none v = record {
  entries = [];
  history = sym (append-nil v.pass.history);
  own = All-nil (λ (e : Entry). Contains v.pass.held e.by → e.by ≡ v.pass.number);
  busy = All-nil IsBusy;
  left = omega arith;
  place = refl;
  number = refl;
  held = refl;
  kin = refl;
  splits = refl;
  started = refl;
  asked = refl;
  seen = inl refl;
}

-- some calls, and then more
pub visits_both : (a b c : Visit) → Visits a b → Visits b c → Visits a c
visits_both a b c f g =
    let n = a.pass.number in
    let P : Entry → Type 0 = λ e. Contains a.pass.held e.by → e.by ≡ n in
    let left : b.pass.left ≡ c.pass.left + length (all_own_of n g.entries) = subst (λ (m : ℕ). b.pass.left ≡ c.pass.left + length (all_own_of m g.entries)) f.number g.left in
    let s = go f.seen left in record {
      entries = f.entries ++ g.entries;
      history = g.history ∙ ap (λ es. es ++ g.entries) f.history ∙ append_assoc a.pass.history f.entries g.entries;
      own = All-append P f.entries g.entries f.own (All-weaker (λ (e : Entry). Contains b.pass.held e.by → e.by ≡ b.pass.number) P (λ e h has. h (subst (λ (ns : List ℕ). Contains ns e.by) (sym f.held) has) ∙ f.number) g.entries g.own);
      busy = subst (All IsBusy) (sym (filter-append (λ (e : Entry). e.by == n) f.entries g.entries))
          (All-append IsBusy (all_own_of n f.entries) (all_own_of n g.entries) f.busy (subst (λ (m : ℕ). All IsBusy (all_own_of m g.entries)) f.number g.busy));
      left = (let l = f.left in let both = ap length (filter-append (λ (e : Entry). e.by == n) f.entries g.entries) ∙ length-append (all_own_of n f.entries) (all_own_of n g.entries) in omega arith);
      place = g.place ∙ f.place;
      number = g.number ∙ f.number;
      held = g.held ∙ f.held;
      kin = g.kin ∙ f.kin;
      splits = g.splits ∙ f.splits;
      started = s.0;
      asked = s.1;
      seen = s.2;
    }
  where
    x : Asking
    x = after_entries a.pass.number f.entries (asking a)

    whole : after_entries a.pass.number (f.entries ++ g.entries) (asking a) ≡ after_entries a.pass.number g.entries x
    whole = after_append a.pass.number f.entries g.entries (asking a)

    started : (after_entries a.pass.number g.entries (asking b)).started ≡ c.started
    started = subst (λ (m : ℕ). (after_entries m g.entries (asking b)).started ≡ c.started) f.number g.started

    asked : (after_entries a.pass.number g.entries (asking b)).asked ≡ c.pass.asked
    asked = subst (λ (m : ℕ). (after_entries m g.entries (asking b)).asked ≡ c.pass.asked) f.number g.asked

    seen : ((after_entries a.pass.number g.entries (asking b)).seen ≡ length c.pass.history) ⊎ (c.pass.left ≡ 0)
    seen = subst (λ (m : ℕ). ((after_entries m g.entries (asking b)).seen ≡ length c.pass.history) ⊎ (c.pass.left ≡ 0)) f.number g.seen

    here : x.here ≡ length b.pass.history
    here = here_after a.pass.number f.entries (asking a) ∙ sym (ap length f.history ∙ length-append a.pass.history f.entries)

    go : (x.seen ≡ length b.pass.history) ⊎ (b.pass.left ≡ 0) → b.pass.left ≡ c.pass.left + length (all_own_of a.pass.number g.entries)
        → ((after_entries a.pass.number (f.entries ++ g.entries) (asking a)).started ≡ c.started) × ((after_entries a.pass.number (f.entries ++ g.entries) (asking a)).asked ≡ c.pass.asked)
        × (((after_entries a.pass.number (f.entries ++ g.entries) (asking a)).seen ≡ length c.pass.history) ⊎ (c.pass.left ≡ 0))
    go (inl s) left =
        let same : x ≡ asking b = (λ i. record { started = f.started i; seen = s i; here = here i; asked = f.asked i }) in
        let all = whole ∙ ap (after_entries a.pass.number g.entries) same in
        (ap (λ (y : Asking). y.started) all ∙ started, ap (λ (y : Asking). y.asked) all ∙ asked, elim seen [ inl e ↦ inl (ap (λ (y : Asking). y.seen) all ∙ e) | inr z ↦ inr z ])
    go (inr z) left =
        let idle : all_own_of a.pass.number g.entries ≡ [] = none_length (all_own_of a.pass.number g.entries) (omega arith) in
        let q = quiet a.pass.number g.entries x (calls_none a.pass.number g.entries idle) in
        let r = quiet a.pass.number g.entries (asking b) (calls_none a.pass.number g.entries idle) in
        (ap (λ (y : Asking). y.started) whole ∙ q.0 ∙ f.started ∙ sym r.0 ∙ started, ap (λ (y : Asking). y.asked) whole ∙ q.1 ∙ f.asked ∙ sym r.1 ∙ asked, inr (omega arith))

-- so many steps, each of which is a call
pub visits_led : {A : Type 0} {goes : A → A → Type 0} (a b : A) → Leads goes a b → (pass : A → Seen) (started : A → Option ℕ) → ((v w : A) → goes v w → Visits (visit (pass v) (started v)) (visit (pass w) (started w)))
    → Visits (visit (pass a) (started a)) (visit (pass b) (started b))
visits_led a b none pass started step = visits_none (visit (pass a) (started a))
visits_led a b (more mid c f g) pass started step = visits_both (visit (pass a) (started a)) (visit (pass mid) (started mid)) (visit (pass c) (started c)) (visits_led a mid f pass started step) (step mid c g)

-- a call that was answered
pub visits_called : (what : Call) (answer : Reply) (started : Option ℕ) (old new : Seen) → Contains old.held old.number → fits what ≡ true → Called what answer (once_asked what started old) new → HoldsAsBefore (once_asked what started old) new
    → Visits (visit old started) (visit new (started_by what answer started))
visits_called what answer started old new mine fit c holds = record {
  entries = c.before ++ own ∷ [];
  history = c.history;
  own = All-push P c.before own (All-weaker (λ (e : Entry). Contains old.held e.by → IsOwnWork (once_asked what started old) e) P (λ e w has. (w has).help.by) c.before c.comes.works) (λ has. refl);
  busy = subst (All IsBusy) (sym (own_push old.number c.before own refl))
      (All-push IsBusy (all_own_of old.number c.before) own (own_busy (once_asked what started old) c.before mine c.comes.works) (no_work own (fits_call what fit)));
  left = (let l = c.left in let k = ap length (own_push old.number c.before own refl) ∙ length-append (all_own_of old.number c.before) (own ∷ []) in omega arith);
  place = holds.place;
  number = holds.number;
  held = holds.held;
  kin = holds.kin;
  splits = holds.splits;
  started = ap (λ (y : Asking). y.started) whole ∙ ap (started_by what answer) q.0;
  asked = ap (λ (y : Asking). y.asked) whole ∙ (λ i. q.1 i ++ asks_same what x.started started x.seen (length old.history) q.0 seen i) ∙ sym holds.asked;
  seen = inl (ap (λ (y : Asking). y.seen) whole ∙ (let h = here_after old.number c.before (asking (visit old started)) in let l = ap length c.history ∙ length-append old.history (c.before ++ own ∷ []) in let k = length-append c.before (own ∷ []) in omega arith));
}
  where
    own : Entry
    own = record { by = old.number; call = what; reply = answer }

    P : Entry → Type 0
    P e = Contains old.held e.by → e.by ≡ old.number

    x : Asking
    x = after_entries old.number c.before (asking (visit old started))

    whole : after_entries old.number (c.before ++ own ∷ []) (asking (visit old started)) ≡ after_own own x
    whole = after_last old.number c.before own (asking (visit old started)) refl

    q : (x.started ≡ started) × (x.asked ≡ old.asked)
    q = quiet old.number c.before (asking (visit old started)) c.comes.no_call

    seen : (x.seen ≡ length old.history) ⊎ (what ≡ call.Wait)
    seen = elim c.comes.waits [ inl idle ↦ inl (unseen old.number c.before (asking (visit old started)) idle) | inr wait ↦ inr wait ]

-- a call for which none was left: a wait, whose work used them up
pub visits_spent : (what : Call) (started : Option ℕ) (old new : Seen) → Contains old.held old.number → 0 < old.left → InCall what (once_asked what started old) new → new.left ≡ 0 → Visits (visit old started) (visit new started)
visits_spent what started old new mine some c out = record {
  entries = c.before;
  history = c.history;
  own = All-weaker (λ (e : Entry). Contains old.held e.by → IsOwnWork (once_asked what started old) e) (λ (e : Entry). Contains old.held e.by → e.by ≡ old.number) (λ e w has. (w has).help.by) c.before c.comes.works;
  busy = own_busy (once_asked what started old) c.before mine c.comes.works;
  left = c.left;
  place = c.holds.place;
  number = c.holds.number;
  held = c.holds.held;
  kin = c.holds.kin;
  splits = c.holds.splits;
  started = q.0;
  asked = q.1 ∙ sym (c.holds.asked ∙ ap (λ xs. old.asked ++ xs) (asked c.comes.waits) ∙ append-nil old.asked);
  seen = inr out;
}
  where
    q : ((after_entries old.number c.before (asking (visit old started))).started ≡ started) × ((after_entries old.number c.before (asking (visit old started))).asked ≡ old.asked)
    q = quiet old.number c.before (asking (visit old started)) c.comes.no_call

    asked : (all_own_of old.number c.before ≡ []) ⊎ (what ≡ call.Wait) → asks_of what started (length old.history) ≡ []
    asked (inl gone) = absurd (let l = c.left in let z = ap length gone in omega arith)
    asked (inr wait) = ap (λ (x : Call). asks_of x started (length old.history)) wait

pub called_of : (what : Call) (answer : Reply) (old new : Seen) → answer ≢ reply.Spent → Calls what answer old new → Called what answer old new
called_of what reply.Spent old new never h = absurd (never refl)
called_of what answer old new never h = h

pub spent_of : (what : Call) (answer : Reply) (old new : Seen) → answer ≡ reply.Spent → Calls what answer old new → InCall what old new × (new.left ≡ 0)
spent_of what answer old new is h = let s = subst (λ (r : Reply). Calls what r old new) is h in (s.0, s.1)

-- what a session is told of it
pub enters : AllowedIsReply → (what : Call) (answer : Reply) (started : Option ℕ) (old new : Seen) → fits what ≡ true → Called what answer (once_asked what started old) new → HoldsAsBefore (once_asked what started old) new
    → Enters what (Some answer) (standing_of old) (standing_of new)
enters law what answer started old new fit c holds =
    let own : Entry = record { by = old.number; call = what; reply = answer } in
    let ok = legal_last (old.history ++ c.before) own opening (subst (IsLegalFrom opening) (c.history ∙ sym (append_assoc old.history c.before (own ∷ []))) c.legal.each) in record {
      reply = answer;
      answer_is = refl;
      may_be = law (after_all opening (old.history ++ c.before)) what answer fit ok;
      before = c.before;
      comes_before = record { no_call = c.comes.no_call; waits = c.comes.waits };
      number = holds.number;
      history = c.history;
      left = c.left;
    }

pub breaks : (what : Call) (started : Option ℕ) (old new : Seen) → InCall what (once_asked what started old) new → BreaksOff what (standing_of old) (standing_of new)
breaks what started old new c = record { before = c.before; comes_before = record { no_call = c.comes.no_call; waits = c.comes.waits }; number = c.holds.number; history = c.history; left = c.left }

pub breaks_none : (what : Call) (p : Seen) → BreaksOff what (standing_of p) (standing_of p)
breaks_none what p = record { before = []; comes_before = record { no_call = refl; waits = inl refl }; number = refl; history = sym (append-nil p.history); left = omega arith }

pub still_started : (what : Call) (started : Option ℕ) (old new : Seen) → has_started started old.history ≡ true → InCall what (once_asked what started old) new → has_started started new.history ≡ true
still_started what started old new h c = ap (has_started started) c.history ∙ started_kept started old.history c.before h

pub newly_started : (what : Call) (answer : Reply) (started : Option ℕ) (old new : Seen) → has_started started old.history ≡ true → Called what answer (once_asked what started old) new
    → has_started (started_by what answer started) new.history ≡ true
newly_started what answer started old new h c =
    let own : Entry = record { by = old.number; call = what; reply = answer } in
    ap (has_started (started_by what answer started)) (c.history ∙ sym (append_assoc old.history c.before (own ∷ [])))
    ∙ started_now what answer started (old.history ++ c.before) old.number (started_kept started old.history c.before h)

-- where a call was left, and the ask was made: a call that was answered
module _ (what : Call) (answer : Reply) (started : Option ℕ) (old mid new : Seen) (is : mid ≡ once_asked what started old) (never : answer ≢ reply.Spent) (calls : Calls what answer mid new) (holds : HoldsAsBefore mid new) where
  done : Called what answer (once_asked what started old) new
  done = subst (λ (p : Seen). Called what answer p new) is (called_of what answer mid new never calls)

  kept : HoldsAsBefore (once_asked what started old) new
  kept = subst (λ (p : Seen). HoldsAsBefore p new) is holds

  pub made_answered : AllowedIsReply → fits what ≡ true → Enters what (Some answer) (standing_of old) (standing_of new)
  made_answered law fit = enters law what answer started old new fit done kept

  pub visits_answered : Contains old.held old.number → fits what ≡ true → (last : Option ℕ) → last ≡ started_by what answer started → Visits (visit old started) (visit new last)
  visits_answered mine fit last same = subst (λ (s : Option ℕ). Visits (visit old started) (visit new s)) (sym same) (visits_called what answer started old new mine fit done kept)

  pub begun_answered : (last : Option ℕ) → last ≡ started_by what answer started → has_started started old.history ≡ true → has_started last new.history ≡ true
  begun_answered last same h = subst (λ (s : Option ℕ). has_started s new.history ≡ true) (sym same) (newly_started what answer started old new h done)

-- and one for which none was left
module _ (what : Call) (started : Option ℕ) (old mid new : Seen) (is : mid ≡ once_asked what started old) (calls : Calls what reply.Spent mid new) where
  gone : InCall what (once_asked what started old) new
  gone = subst (λ (p : Seen). InCall what p new) is calls.0

  pub made_spent : BreaksOff what (standing_of old) (standing_of new) × ((standing_of new).left ≡ 0)
  made_spent = (breaks what started old new gone, calls.1)

  pub visited_spent : Contains old.held old.number → 0 < old.left → Visits (visit old started) (visit new started)
  visited_spent mine some = visits_spent what started old new mine some gone calls.1

  pub begun_spent : has_started started old.history ≡ true → has_started started new.history ≡ true
  begun_spent h = still_started what started old new h gone
