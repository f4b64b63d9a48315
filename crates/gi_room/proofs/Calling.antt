-- Calls of a pass, turn by turn.
use Rattle.std.proofs.Common.{◌≡◌, ◌≢◌, ℕ, ◌+◌, ◌==◌, ◌&&◌, not, Bool, true, false, cond, List, [], ◌∷◌, ◌++◌, length, length-append, refl, ap, sym, ◌∙◌, subst, arith, inl, inr, ⊎_elim}
use Rattle.std.specs.Prelude.{All, Contains}
use Rattle.std.proofs.lemmas.Bool.{eq-eqb}
use Rattle.std.proofs.lemmas.List.{append-nil, append_assoc}
use Rattle.std.proofs.lemmas.List.Sums.{sum_by_push}
use Rattle.std.proofs.lemmas.List.Elements.{All-nil, All-append, All-push, All-weaker, filter-append}
use Rattle.gi_model.specs.State.{State, opening}
use Rattle.gi_model.specs.Effects.{after}
use Rattle.gi_model.specs.History.{Entry, Allows, IsLegalFrom, after_all}
use Rattle.gi_model.specs.declared.calls.Call.{Call}
use Rattle.gi_model.specs.declared.calls.Call.TheVariants as call
use Rattle.gi_model.specs.declared.replies.Reply.{Reply}
use Rattle.gi_model.specs.declared.replies.Reply.TheVariants as reply
use Rattle.gi_model.proofs.Entering.{never_spent}
use Rattle.gi_model.specs.Refusals.{is_work}
use Rattle.gi_room.specs.Entries.{all_own_of, own_of}
use Rattle.gi_room.specs.Seen.{Seen}
use Rattle.gi_room.specs.Calls.{HoldsAsBefore, Adds, Heeds, looks_of, all_looks, Waits, IsOwnWork, InCall, Called, Calls}

-- the last entry of a legal history was allowed
pub legal_last : (es : List Entry) (e : Entry) (s : State) → IsLegalFrom s (es ++ e ∷ []) → Allows (after_all s es) e.call e.reply
unfolding after_all
legal_last [] e s h = h.0
legal_last (x ∷ es) e s h = legal_last es e (after s x.call x.reply) h.1

pub holds_none : (p : Seen) → HoldsAsBefore p p
holds_none p = record { place = refl; number = refl; held = refl; kin = refl; splits = refl; asked = refl }

pub holds_both : (a b c : Seen) → HoldsAsBefore a b → HoldsAsBefore b c → HoldsAsBefore a c
holds_both a b c f g = record { place = g.place ∙ f.place; number = g.number ∙ f.number; held = g.held ∙ f.held; kin = g.kin ∙ f.kin; splits = g.splits ∙ f.splits; asked = g.asked ∙ f.asked }

-- an own entry behind others'
pub own_more : (n : ℕ) (before others : List Entry) (e : Entry) → all_own_of n others ≡ [] → e.by ≡ n → all_own_of n (before ++ (others ++ e ∷ [])) ≡ all_own_of n before ++ e ∷ []
own_more n before others e none is =
    filter-append (λ (x : Entry). x.by == n) before (others ++ e ∷ []) ∙ ap (λ es. all_own_of n before ++ es) (filter-append (λ (x : Entry). x.by == n) others (e ∷ [])
    ∙ ap (λ es. es ++ all_own_of n (e ∷ [])) none ∙ ap (λ b. cond b (e ∷ []) []) (eq-eqb e.by n is))

pub own_count : (n : ℕ) (before others : List Entry) (e : Entry) → all_own_of n others ≡ [] → e.by ≡ n → length (all_own_of n (before ++ (others ++ e ∷ []))) ≡ length (all_own_of n before) + 1
own_count n before others e none is = ap length (own_more n before others e none is) ∙ length-append (all_own_of n before) (e ∷ [])

pub own_looks : (n : ℕ) (before others : List Entry) (e : Entry) → all_own_of n others ≡ [] → e.by ≡ n → all_looks (all_own_of n (before ++ (others ++ e ∷ []))) ≡ all_looks (all_own_of n before) + looks_of e.reply
own_looks n before others e none is = ap all_looks (own_more n before others e none is) ∙ sum_by_push (λ (x : Entry). looks_of x.reply) (all_own_of n before) e

calls_none : (n : ℕ) (es : List Entry) → all_own_of n es ≡ [] → own_of n es ≡ []
calls_none n [] none = refl
calls_none n (e ∷ es) none = go (e.by == n) refl (calls_none n es)
  where
    go : (b : Bool) → (e.by == n) ≡ b → (all_own_of n es ≡ [] → own_of n es ≡ []) → own_of n (e ∷ es) ≡ []
    go true is rest = absurd (let bad : e ∷ all_own_of n es ≡ [] = ap (λ b. cond b (e ∷ all_own_of n es) (all_own_of n es)) (sym is) ∙ none in cc)
    go false is rest = ap (λ b. cond (b && not (is_work e.call)) (e ∷ own_of n es) (own_of n es)) is ∙ rest (ap (λ b. cond b (e ∷ all_own_of n es) (all_own_of n es)) (sym is) ∙ none)

work_no_call : (n : ℕ) (e : Entry) → is_work e.call ≡ true → own_of n (e ∷ []) ≡ []
work_no_call n e work = go (e.by == n) refl
  where
    go : (b : Bool) → (e.by == n) ≡ b → own_of n (e ∷ []) ≡ []
    go b is = ap (λ w. cond ((e.by == n) && not w) (e ∷ []) []) work ∙ (λ i. cond (is i && false) (e ∷ []) []) ∙ never b
      where
        never : (b : Bool) → cond (b && false) (e ∷ []) [] ≡ []
        never true = refl
        never false = refl

calls_before : (n : ℕ) (before others : List Entry) → own_of n before ≡ [] → all_own_of n others ≡ [] → own_of n (before ++ others) ≡ []
calls_before n before others a b = filter-append (λ (x : Entry). (x.by == n) && not (is_work x.call)) before others ∙ ap (λ es. es ++ own_of n others) a ∙ calls_none n others b

foreign_work : (old mid : Seen) (others : List Entry) → mid.held ≡ old.held → All (λ e. ¬ Contains mid.held e.by) others → All (λ e. Contains old.held e.by → IsOwnWork old e) others
foreign_work old mid others same foreign = All-weaker (λ (e : Entry). ¬ Contains mid.held e.by) (λ (e : Entry). Contains old.held e.by → IsOwnWork old e) (λ e never has. absurd (never (subst (λ (ns : List ℕ). Contains ns e.by) (sym same) has))) others foreign

pub going_none : (what : Call) (p : Seen) → InCall what p p
going_none what p = record {
  before = [];
  comes = record { works = All-nil (λ (e : Entry). Contains p.held e.by → IsOwnWork p e); no_call = refl; waits = inl refl };
  history = sym (append-nil p.history);
  left = omega arith;
  holds = holds_none p;
  looks = omega arith;
}

pub going_on : (what : Call) (old mid new : Seen) → InCall what old mid → Waits what mid new → InCall what old new
going_on what old mid new g w =
    let a = w.works.adds in
    let own : Entry = record { by = mid.number; call = call.Work w.works.mark; reply = w.answer } in
    let none = subst (λ n. all_own_of n a.others ≡ []) g.holds.number a.no_own in
    let P : Entry → Type 0 = λ e. Contains old.held e.by → IsOwnWork old e in record {
      before = g.before ++ (a.others ++ own ∷ []);
      comes = record {
        works = All-append P g.before (a.others ++ own ∷ []) g.comes.works (All-push P a.others own (foreign_work old mid a.others g.holds.held a.foreign) (λ has. record { help = record { by = g.holds.number; work = refl; heeds = subst (λ (asked : List (ℕ × ℕ)). Heeds w.answer asked w.works.mark) g.holds.asked w.works.heeds }; busy = w.busy }));
        no_call = (ap (own_of old.number) (sym (append_assoc g.before a.others (own ∷ []))) ∙ filter-append (λ (x : Entry). (x.by == old.number) && not (is_work x.call)) (g.before ++ a.others) (own ∷ [])
            ∙ ap (λ es. es ++ own_of old.number (own ∷ [])) (calls_before old.number g.before a.others g.comes.no_call none) ∙ work_no_call old.number own refl);
        waits = inr w.wait;
      };
      history = a.history ∙ ap (λ es. es ++ (a.others ++ own ∷ [])) g.history ∙ append_assoc old.history g.before (a.others ++ own ∷ []);
      left = (let l = g.left in let k = a.left in let c = own_count old.number g.before a.others own none g.holds.number in omega arith);
      holds = holds_both old mid new g.holds a.holds;
      looks = (let l = g.looks in let k = w.works.looks in let c = own_looks old.number g.before a.others own none g.holds.number in omega arith);
    }

pub called : (what : Call) (answer : Reply) (old mid new : Seen) → InCall what old mid → Adds what answer mid new → Called what answer old new
called what answer old mid new g a =
    let own : ℕ → Entry = λ n. record { by = n; call = what; reply = answer } in
    let P : Entry → Type 0 = λ e. Contains old.held e.by → IsOwnWork old e in
    let none = subst (λ n. all_own_of n a.others ≡ []) g.holds.number a.no_own in
    let all : all_own_of old.number (g.before ++ a.others) ≡ all_own_of old.number g.before = filter-append (λ (x : Entry). x.by == old.number) g.before a.others ∙ ap (λ es. all_own_of old.number g.before ++ es) none ∙ append-nil (all_own_of old.number g.before) in record {
      before = g.before ++ a.others;
      comes = record {
        works = All-append P g.before a.others g.comes.works (foreign_work old mid a.others g.holds.held a.foreign);
        no_call = calls_before old.number g.before a.others g.comes.no_call none;
        waits = ⊎_elim (λ e. inl (all ∙ e)) inr g.comes.waits;
      };
      history = a.history ∙ ap (λ es. es ++ (a.others ++ own mid.number ∷ [])) g.history ∙ ap (λ n. (old.history ++ g.before) ++ (a.others ++ own n ∷ [])) g.holds.number
          ∙ append_assoc old.history g.before (a.others ++ own old.number ∷ []) ∙ ap (λ es. old.history ++ es) (sym (append_assoc g.before a.others (own old.number ∷ [])));
      legal = a.legal;
      left = (let l = g.left in let k = a.left in let c = ap length all in omega arith);
      looks = (let l = g.looks in let k = a.sees in let c = ap all_looks all in omega arith);
      reached = a.reached;
    }

calls_by : (what : Call) (answer : Reply) (old new : Seen) → answer ≢ reply.Spent → Called what answer old new → Calls what answer old new
calls_by what reply.Spent old new never h = absurd (never refl)
calls_by what answer old new never h = h

pub calls : (what : Call) (answer : Reply) (old mid new : Seen) → InCall what old mid → Adds what answer mid new → Calls what answer old new
calls what answer old mid new g a =
    let own : Entry = record { by = mid.number; call = what; reply = answer } in
    let ok = legal_last (mid.history ++ a.others) own opening (subst (IsLegalFrom opening) (a.history ∙ sym (append_assoc mid.history a.others (own ∷ []))) a.legal.each) in
    calls_by what answer old new (λ e. never_spent (after_all opening (mid.history ++ a.others)) what (subst (Allows (after_all opening (mid.history ++ a.others)) what) e ok)) (called what answer old mid new g a)
