-- A pass of a new room that is used alone.
use Rattle.std.proofs.Common.{◌≡◌, ◌≢◌, ℕ, zero, suc, ◌<◌, ◌==◌, Bool, true, false, List, [], ◌∷◌, ◌++◌, length, All, Contains, ◌⊎◌, inl, inr, refl, sym, ap, subst, ◌∙◌, arith, get_or, eq-eqb}
use Rattle.std.proofs.lemmas.Bool.{both_ways, cases_Bool, eqb-true}
use Rattle.std.proofs.lemmas.List.Elements.{All-cons, All-head, All-nil, All-tail}
use Rattle.std.proofs.lemmas.Option.{slice_get-get_or}
use Rattle.gi_model.specs.Effects.{after}
use Rattle.gi_model.specs.Fits.{fits}
use Rattle.gi_model.specs.History.{Allows, Entry, IsLegal, IsLegalFrom, MayCome}
use Rattle.gi_model.specs.State.{State, opening}
use Rattle.gi_model.specs.declared.calls.Call.{Call}
use Rattle.gi_model.specs.declared.calls.Call.TheVariants as call
use Rattle.gi_model.specs.declared.replies.Reply.{Reply}
use Rattle.gi_model.specs.declared.replies.Reply.TheVariants as reply
use Rattle.gi_model.specs.Refusals.{is_work as is_slice}
use Rattle.gi_wire.specs.Text.{is_answer}
use Rattle.gi_net.specs.Entries.{all_own_of, is_work}
use Rattle.gi_net.specs.Laws.{AllowedIsReply}
use Rattle.gi_room.specs.Calls.{HasCauses, HoldsAsBefore, Sole}
use Rattle.gi_room.specs.Histories.{mark_of}
use Rattle.gi_room.specs.Seen.{Seen}
use Rattle.gi_host.specs.Visits.{IsBusy}
use Rattle.gi_run.specs.Kept.{IsHistory, IsNew, IsOwn}

pub cancel : (xs ys zs : List Entry) → xs ++ ys ≡ xs ++ zs → ys ≡ zs
cancel [] ys zs e = e
cancel (x ∷ xs) ys zs e = cancel xs ys zs (let t : xs ++ ys ≡ xs ++ zs = cc in t)

pub all_front : (P : Entry → Type 0) (xs ys : List Entry) → All P (xs ++ ys) → All P xs
all_front P [] ys h = All-nil P
all_front P (x ∷ xs) ys h = All-cons P x xs (All-head P x (xs ++ ys) h) (all_front P xs ys (All-tail P x (xs ++ ys) h))

-- two words for work
pub same_work : (c : Call) → is_work c ≡ is_slice c
same_work (call.Work mark) = refl
same_work other = refl

fit : (s : State) (c : Call) → MayCome s c → is_work c ≡ false → fits c ≡ true
fit s (call.Work mark) may call = absurd cc
fit s call.Wait may call = refl
fit s c may call = may

-- a call's answer isn't that of work
call_busy : AllowedIsReply → (s : State) (c : Call) (r : Reply) → Allows s c r → is_work c ≡ false → r ≢ reply.Idle
call_busy law s c r a call idle = let no : true ≡ false = sym (law s c r (fit s c a.may_come call) a).told ∙ ap is_answer idle in absurd cc

-- so none of a legal history's
calls_busy : AllowedIsReply → (es : List Entry) (s : State) → IsLegalFrom s es → All (λ (e : Entry). is_work e.call ≡ false → e.reply ≢ reply.Idle) es
calls_busy law [] s legal = All-nil (λ (e : Entry). is_work e.call ≡ false → e.reply ≢ reply.Idle)
calls_busy law (e ∷ es) s legal = All-cons (λ (e : Entry). is_work e.call ≡ false → e.reply ≢ reply.Idle) e es (call_busy law s e.call e.reply legal.0) (calls_busy law es (after s e.call e.reply) legal.1)

-- all are the caller's
pub all_own : (n : ℕ) (es : List Entry) → All (λ (e : Entry). e.by ≡ n) es → all_own_of n es ≡ es
all_own n [] h = refl
all_own n (e ∷ es) h = rw (eq-eqb e.by n (All-head (λ (e : Entry). e.by ≡ n) e es h)) (ap (λ xs. e ∷ xs) (all_own n es (All-tail (λ (e : Entry). e.by ≡ n) e es h)))

has_asked : {X : Type 0} (x : X) → ¬ Contains [] x
has_asked x has = let l = has.1 in omega arith

-- what such a pass knows after calls that asked nothing
module _ (p q : Seen) (entries : List Entry) (new : IsNew p) (history : q.history ≡ p.history ++ entries) (own : All (λ (e : Entry). Contains p.held e.by → e.by ≡ p.number) entries)
    (holds : HoldsAsBefore p q) (causes : HasCauses q) where
  pub entered : q.history ≡ entries
  entered = history ∙ ap (λ es. es ++ entries) new.history

  pub sole : Sole q
  sole = (
    subst (λ ns. Contains ns 0) (sym holds.held) new.sole.0,
    λ n has. subst (λ ns. Contains ns n) (sym holds.held) (new.sole.1 n (subst (λ ns. Contains ns n) holds.kin has)),
  )

  held : All (λ (e : Entry). Contains p.held e.by) q.history
  held = subst (λ ns. All (λ (e : Entry). Contains ns e.by) q.history) holds.held (causes.whole sole)

  pub own_all : All (λ (e : Entry). e.by ≡ p.number) q.history
  own_all = λ k d lt. (subst (λ es. All (λ (e : Entry). Contains p.held e.by → e.by ≡ p.number) es) (sym entered) own) k d lt (held k d lt)

  unmarked : (k : ℕ) (d : Entry) → k < length q.history → (mark : ℕ) → (get_or q.history k d).call ≡ call.Work mark → mark ≡ 0
  unmarked k d lt zero is = refl
  unmarked k d lt (suc m) is =
      let marked : mark_of (get_or q.history k d).call ≢ 0 = λ z. (let y : suc m ≡ 0 = sym (ap mark_of is) ∙ z in absurd (omega (arith, y))) in
      let asked = causes.sole sole k (get_or q.history k d) (slice_get-get_or q.history k d lt) marked in
      absurd (has_asked _ (subst (λ asks. Contains asks (mark_of (get_or q.history k d).call, asked.0)) (holds.asked ∙ new.asked) asked.2))

  pub kept : AllowedIsReply → IsLegal q.history → All IsBusy (all_own_of p.number entries) → IsHistory q.number q.history
  kept law legal busy = record {
    legal = legal;
    own = λ k d lt. record {
      by = own_all k d lt ∙ sym holds.number;
      unmarked = unmarked k d lt;
      busy = go k d lt (cases_Bool (is_work (get_or q.history k d).call));
    };
  }
    where
      all_busy : All IsBusy q.history
      all_busy = subst (All IsBusy) (ap (all_own_of p.number) (sym entered) ∙ all_own p.number q.history own_all) busy

      go : (k : ℕ) (d : Entry) → k < length q.history → (is_work (get_or q.history k d).call ≡ true) ⊎ (is_work (get_or q.history k d).call ≡ false) → (get_or q.history k d).reply ≢ reply.Idle
      go k d lt (inl work) = all_busy k d lt (sym (same_work (get_or q.history k d).call) ∙ work)
      go k d lt (inr call) = (calls_busy law q.history opening legal.each) k d lt call
