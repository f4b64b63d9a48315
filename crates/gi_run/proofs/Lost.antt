-- A machine that a session finds over though nobody shut it.
use Rattle.std.proofs.Common.{◌≡◌, ◌≢◌, ℕ, ◌==◌, Bool, true, false, not, ◌&&◌, cond, List, [], ◌∷◌, ◌++◌, length, map, All, option_to_list, ◌⊎◌, inl, inr, refl, sym, subst, ◌∙◌, arith, eq-eqb}
use Rattle.std.specs.List.{AllByRecursion}
use Rattle.std.proofs.lemmas.Bool.{both_ways}
use Rattle.std.proofs.lemmas.List.Elements.{All-head, All-tail}
use Rattle.gi_model.specs.History.{Entry}
use Rattle.gi_model.specs.declared.calls.Call.{Call}
use Rattle.gi_model.specs.declared.calls.Call.TheVariants as call
use Rattle.gi_model.specs.declared.replies.Reply.{Reply}
use Rattle.gi_model.specs.declared.replies.Reply.TheVariants as reply
use Rattle.gi_model.specs.declared.refusal.Refusal.TheVariants as refusal
use Rattle.gi_wire.specs.Items.{items}
use Rattle.gi_wire.specs.declared.reader.RequestKind.{RequestKind}
use Rattle.gi_wire.specs.declared.reader.RequestKind.TheVariants as asked
use Rattle.gi_wire.specs.declared.reader.Request.{Request}
use Rattle.gi_net.specs.Answers.{Answer, answers, call_in, calls, replies_after, reply_for}
use Rattle.gi_net.specs.Entries.{is_work, own_of, replies}
use Rattle.gi_net.specs.Served.{EndsBy, IsQuiet}
use Rattle.gi_net.proofs.Answering.{replies_fit}
use Rattle.gi_run.specs.Shutting.{EndsSolve, HasEnded, HasLostWork}
use Rattle.gi_run.proofs.Asking.{never_called}
use Rattle.gi_run.proofs.Having.{Has, has_contained, has_split}

-- work that found no memory
abbrev pub IsLost : Entry → Type 0
IsLost e = (is_work e.call ≡ true) × (e.reply ≡ reply.NoMemory)

abbrev IsStarved : Reply → Type 0
IsStarved r = r ≡ reply.NoMemory

-- an entry of the caller with that number, or another's work
abbrev pub IsOurs : ℕ → Entry → Type 0
IsOurs n e = (e.by ≡ n) ⊎ (is_work e.call ≡ true)

by_of : (n : ℕ) (e : Entry) → is_work e.call ≡ false → IsOurs n e → e.by ≡ n
by_of n e call (inl by) = by
by_of n e call (inr work) = absurd (both_ways _ call work)

no_shut : (c : Call) → is_work c ≡ true → c ≢ call.Shut
no_shut (call.Work mark) w e = absurd cc
no_shut c w e = absurd cc

-- an entry of a kind is lost work or a call, where no other work is of that kind
module _ (P : Entry → Type 0) (only_lost : (e : Entry) → is_work e.call ≡ true → P e → e.reply ≡ reply.NoMemory) where
  pub lost_or_called : (n : ℕ) (es : List Entry) → All (IsOurs n) es → Has P es → Has IsLost es ⊎ Has P (own_of n es)
  lost_or_called n [] own h = absurd h
  lost_or_called n (e ∷ es) own (inl here) = go (is_work e.call) refl
    where
      go : (w : Bool) → is_work e.call ≡ w → (IsLost e ⊎ Has IsLost es) ⊎ Has P (cond ((e.by == n) && not (is_work e.call)) (e ∷ own_of n es) (own_of n es))
      go true w = inl (inl (w, only_lost e w here))
      go false w = rw (eq-eqb e.by n (by_of n e w (All-head (IsOurs n) e es own)), w) (inr (inl here))
  lost_or_called n (e ∷ es) own (inr there) = elim (lost_or_called n es (All-tail (IsOurs n) e es own) there) [
    | inl lost ↦ inl (inr lost)
    | inr called ↦ inr (go ((e.by == n) && not (is_work e.call)) called)
  ]
    where
      go : (b : Bool) → Has P (own_of n es) → Has P (cond b (e ∷ own_of n es) (own_of n es))
      go true h = inr h
      go false h = h

-- work is told to end the machine only by want of memory
ends_lost : (e : Entry) → is_work e.call ≡ true → EndsSolve e → e.reply ≡ reply.NoMemory
ends_lost e w (inl shut) = absurd (no_shut e.call w shut.0)
ends_lost e w (inr starved) = starved

shut_or_starved : (es : List Entry) → Has EndsSolve es → Has (λ (c : Call). c ≡ call.Shut) (map (λ (e : Entry). e.call) es) ⊎ Has IsStarved (replies es)
shut_or_starved [] h = absurd h
shut_or_starved (e ∷ es) (inl (inl shut)) = inl (inl shut.0)
shut_or_starved (e ∷ es) (inl (inr starved)) = inr (inl starved)
shut_or_starved (e ∷ es) (inr there) = elim (shut_or_starved es there) [ inl shut ↦ inl (inr shut) | inr starved ↦ inr (inr starved) ]

abbrev TellsStarved : Answer → Type 0
TellsStarved a = a.reply ≡ reply.NoMemory

-- every reply is an answer
told : (is : List Request) (rs : List Reply) → length (calls is) ≡ length rs → Has IsStarved rs → Has TellsStarved (answers is rs)
unfolding answers
told [] [] len h = absurd h
told [] (r ∷ rs) len h = absurd (omega (arith, len))
told (i ∷ is) rs len h = go (told is) i.asked rs len h
  where
    go : ((rs : List Reply) → length (calls is) ≡ length rs → Has IsStarved rs → Has TellsStarved (answers is rs)) → (a : RequestKind) (rs : List Reply)
        → length (option_to_list (call_in a) ++ calls is) ≡ length rs → Has IsStarved rs → (reply_for a rs ≡ reply.NoMemory) ⊎ Has TellsStarved (answers is (replies_after a rs))
    go rest (asked.Call c) [] len h = absurd h
    go rest (asked.Call c) (r ∷ rs) len (inl here) = inl here
    go rest (asked.Call c) (r ∷ rs) len (inr there) = inr (rest rs (omega (arith, len)) there)
    go rest asked.Syntax rs len h = inr (rest rs len h)
    go rest asked.Long rs len h = inr (rest rs len h)

quiet : (given : List Answer) → AllByRecursion IsQuiet given → ¬ Has TellsStarved given
quiet [] q h = h
quiet (a ∷ given) q (inl here) = q.0.memory here
quiet (a ∷ given) q (inr there) = quiet given q.1 there

not_told : (given : List Answer) → EndsBy given (reply.Refused refusal.Dead) → ¬ Has TellsStarved given
not_told given ends h = elim (has_split TellsStarved ends.before (ends.last ∷ []) (subst (Has TellsStarved) ends.split h)) [
  | inl early ↦ quiet ends.before ends.quiet early
  | inr last ↦ elim last [ inl here ↦ (let no : reply.NoMemory ≡ reply.Refused refusal.Dead = sym here ∙ ends.is in absurd cc) | inr there ↦ there ]
]

-- the calls of a session that was ended by a refusal for good are no such entries
not_called : (ended : Bool) (bytes : List ℕ) (front rest : List Request) (own : List Entry) → items ended bytes ≡ front ++ rest → map (λ (e : Entry). e.call) own ≡ calls front
    → EndsBy (answers front (replies own)) (reply.Refused refusal.Dead) → ¬ Has EndsSolve own
not_called ended bytes front rest own split same ends h = elim (shut_or_starved own h) [
  | inl shut ↦ never_called ended bytes front rest split (subst (Has (λ (c : Call). c ≡ call.Shut)) same shut)
  | inr starved ↦ not_told (answers front (replies own)) ends (told front (replies own) (replies_fit front own same) starved)
]

-- so it was lost work
pub lost_work : (n : ℕ) (seen entries : List Entry) (ended : Bool) (bytes : List ℕ) (front rest : List Request) → All (IsOurs n) entries → Has EndsSolve (seen ++ entries) → ¬ HasEnded seen
    → items ended bytes ≡ front ++ rest → map (λ (e : Entry). e.call) (own_of n entries) ≡ calls front
    → EndsBy (answers front (replies (own_of n entries))) (reply.Refused refusal.Dead) → HasLostWork entries
lost_work n seen entries ended bytes front rest own ends fresh split same by = elim (has_split EndsSolve seen entries ends) [
  | inl before ↦ absurd (fresh (has_contained EndsSolve seen before))
  | inr here ↦ elim (lost_or_called EndsSolve ends_lost n entries own here) [
    | inl lost ↦ (let h = has_contained IsLost entries lost in (h.0, h.1, h.2.0, h.2.1))
    | inr called ↦ absurd (not_called ended bytes front rest (own_of n entries) split same by called)
  ]
]
