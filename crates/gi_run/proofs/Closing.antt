-- A pass behind the shut of its machine.
use Rattle.std.proofs.Common.{◌≡◌, ◌≢◌, ℕ, ◌+◌, ◌<◌, ◌==◌, ◌&&◌, Bool, true, false, not, cond, List, [], ◌∷◌, ◌++◌, length, All, Contains, ◌⊎◌, inl, inr, refl, sym, ap, subst, ◌∙◌, arith, eq-eqb, append-nil}
use Rattle.std.proofs.lemmas.List.Elements.{All-cons, All-nil, All-push, All-weaker, filter-append}
use Rattle.gi_model.specs.History.{Entry, IsLegal}
use Rattle.gi_model.specs.declared.calls.Call.TheVariants as call
use Rattle.gi_model.specs.declared.replies.Reply.{Reply}
use Rattle.gi_model.specs.declared.replies.Reply.TheVariants as reply
use Rattle.gi_net.specs.Entries.{all_own_of, is_work, own_of}
use Rattle.gi_room.specs.Calls.{Calls, HoldsAsBefore, InCall, IsOwnWork}
use Rattle.gi_room.specs.Entries.{own_of as calls_of}
use Rattle.gi_room.specs.Seen.{Seen}
use Rattle.gi_host.specs.Hosts.{IsShutAlone, Shuts}
use Rattle.gi_host.specs.Visits.{IsBusy}
use Rattle.gi_host.proofs.Visiting.{called_of}
use Rattle.gi_run.proofs.Alone.{same_work}

-- two words for a caller's calls
pub same_calls : (n : ℕ) (es : List Entry) → calls_of n es ≡ own_of n es
same_calls n [] = refl
same_calls n (e ∷ es) = (λ i. cond ((e.by == n) && not (sym (same_work e.call) i)) (e ∷ same_calls n es i) (same_calls n es i))

-- what stands behind, and what the pass keeps
pub record Closed (mid after : Seen) : Type 0 where
  pub rest : List Entry
  pub history : after.history ≡ mid.history ++ rest
  pub holds : HoldsAsBefore mid after
  pub only : All (λ (e : Entry). Contains mid.held e.by → e.by ≡ mid.number) rest
  pub busy : All IsBusy (all_own_of mid.number rest)
  pub alone : IsShutAlone mid.number rest
  pub spent : own_of mid.number rest ≡ [] → after.left ≡ 0

never_spent : (answer : Reply) (mid after : Seen) → 0 < mid.left → Calls call.Shut answer mid after → answer ≢ reply.Spent
never_spent answer mid after some h is =
    let s : InCall call.Shut mid after × (after.left ≡ 0) × IsLegal after.history = subst (λ (r : Reply). Calls call.Shut r mid after) is h in
    elim s.0.comes.waits [ inl none ↦ (let l = s.0.left in let z = s.1 in let k = ap length none in omega arith) | inr wait ↦ cc ]

pub closed : (mid after : Seen) → Shuts mid after → Closed mid after
closed mid after (inl h) =
    let is : after ≡ mid = h.1 in record {
      rest = [];
      history = ap (λ (p : Seen). p.history) is ∙ sym (append-nil mid.history);
      holds = record {
        place = ap (λ (p : Seen). p.place) is;
        number = ap (λ (p : Seen). p.number) is;
        held = ap (λ (p : Seen). p.held) is;
        kin = ap (λ (p : Seen). p.kin) is;
        splits = ap (λ (p : Seen). p.splits) is;
        asked = ap (λ (p : Seen). p.asked) is;
      };
      only = All-nil (λ (e : Entry). Contains mid.held e.by → e.by ≡ mid.number);
      busy = All-nil IsBusy;
      alone = inl refl;
      spent = λ none. ap (λ (p : Seen). p.left) is ∙ h.0;
    }
closed mid after (inr h) =
    let answer : Reply = h.1.0 in
    let own : Entry = record { by = mid.number; call = call.Shut; reply = answer } in
    let c = called_of call.Shut answer mid after (never_spent answer mid after h.0 h.1.1) h.1.1 in
    let P : Entry → Type 0 = λ e. Contains mid.held e.by → e.by ≡ mid.number in
    let idle : all_own_of mid.number c.before ≡ [] = elim c.comes.waits [ inl none ↦ none | inr wait ↦ absurd cc ] in
    let one : all_own_of mid.number (c.before ++ own ∷ []) ≡ own ∷ []
    = filter-append (λ (x : Entry). x.by == mid.number) c.before (own ∷ []) ∙ ap (λ es. es ++ all_own_of mid.number (own ∷ [])) idle ∙ ap (λ (b : Bool). cond b (own ∷ []) []) (eq-eqb mid.number mid.number refl) in
    let call_is : calls_of mid.number (c.before ++ own ∷ []) ≡ own ∷ []
    = same_calls mid.number (c.before ++ own ∷ []) ∙ filter-append (λ (x : Entry). (x.by == mid.number) && not (is_work x.call)) c.before (own ∷ [])
    ∙ ap (λ es. es ++ own_of mid.number (own ∷ [])) (sym (same_calls mid.number c.before) ∙ c.comes.no_call) ∙ ap (λ (b : Bool). cond (b && true) (own ∷ []) []) (eq-eqb mid.number mid.number refl) in record {
      rest = c.before ++ own ∷ [];
      history = c.history;
      holds = h.1.2;
      only = All-push P c.before own (All-weaker (λ (e : Entry). Contains mid.held e.by → IsOwnWork mid e) P (λ e w has. (w has).help.by) c.before c.comes.works) (λ has. refl);
      busy = subst (All IsBusy) (sym one) (All-cons IsBusy own [] (λ w. absurd cc) (All-nil IsBusy));
      alone = inr (answer, call_is);
      spent = λ none. absurd (let q : own ∷ [] ≡ [] = sym call_is ∙ same_calls mid.number (c.before ++ own ∷ []) ∙ none in cc);
    }
