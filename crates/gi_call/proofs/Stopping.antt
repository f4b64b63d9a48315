-- How a call ends the client.
use Rattle.std.proofs.Common.{◌≡◌, inl, inr, ℕ, ◌+◌, List, [], ◌∷◌, ◌++◌, length, take, Err, ap, sym, ◌∙◌, subst, length-append}
use Rattle.gi_text.specs.Given.{IsLine}
use Rattle.gi_text.specs.Lines.{GivesLine, Kept as Held}
use Rattle.gi_outside.specs.World.{World}
use Rattle.gi_model.specs.declared.calls.Call.{Call}
use Rattle.gi_model.specs.declared.replies.Reply.{Reply}
use Rattle.gi_model.specs.declared.replies.Reply.TheVariants as reply
use Rattle.gi_kept.specs.Exchanges.{AreTrue, Exchange, IsTrueReply, kept_by}
use Rattle.gi_kept.specs.Replies.{may_answer}
use Rattle.gi_kept.specs.Kept.{Kept, kept_after, nothing_kept}
use Rattle.gi_kept.specs.Truth.{IsTrueTo}
use Rattle.gi_kept.proofs.Keeping.{kept_more, true_more}
use Rattle.gi_wire.specs.CallText.{call_text}
use Rattle.gi_wire.specs.Text.{words_text}
use Rattle.gi_call.specs.declared.end.CallEnd.{CallEnd}
use Rattle.gi_call.specs.declared.end.CallEnd.TheVariants as by
use Rattle.gi_call.specs.declared.asking.Asking.{Asking}
use Rattle.gi_call.specs.Exchanged.{CanHave, call_texts}
use Rattle.gi_call.specs.MidCall.{Exchanging, Rejects, Spoken, Stops, TellsAnswer, Unheard, with_exchange}
use Rattle.gi_call.proofs.Fronts.{line_first, line_some, line_whole}
use Rattle.gi_call.proofs.Speaking.{spoke_line}
use Rattle.gi_call.proofs.Telling.{model_asked}

-- no line came
pub unheard_stops : (end : CallEnd) (number : ℕ) (call : Call) (start now : World) (es : List Exchange) → number ≡ length es + 1 → Unheard end number start now es (call_texts es ++ call_text call) → Stops end call start now es
unheard_stops (by.BadReply k) number call start now es e h = (h.0 ∙ e, (h.1.0, inl h.1.1))
unheard_stops by.Early number call start now es e h = h
unheard_stops by.ReadFault number call start now es e h = h
unheard_stops by.NoMemory number call start now es e h = h
unheard_stops by.TooMuch number call start now es e h = h
unheard_stops by.Done number call start now es e h = absurd h
unheard_stops (by.FalseModel k) number call start now es e h = absurd h
unheard_stops by.WriteFault number call start now es e h = absurd h

-- the line that came is no answer
pub untold_stops : (end : CallEnd) (number n : ℕ) (call : Call) (start now : World) (es : List Exchange) (lines : Held) (taken : ℕ) → number ≡ length es + 1 → Spoken start now es (call_texts es ++ call_text call) lines taken → IsLine n lines
    → TellsAnswer (Err end) call number (take n lines.left) → Stops end call start now es
untold_stops (by.BadReply k) number n call start now es lines taken e spoken line h =
    (h.0 ∙ e, (record { lines = lines; taken = taken; spoken = spoken }, inr (line_whole n lines line, rw (h.0, line_first n lines line) h.1)))
untold_stops by.NoMemory number n call start now es lines taken e spoken line h = (record { lines = lines; taken = taken; spoken = spoken }, line_some n lines line)
untold_stops by.Early number n call start now es lines taken e spoken line h = absurd h
untold_stops by.ReadFault number n call start now es lines taken e spoken line h = absurd h
untold_stops by.TooMuch number n call start now es lines taken e spoken line h = absurd h
untold_stops by.Done number n call start now es lines taken e spoken line h = absurd h
untold_stops (by.FalseModel k) number n call start now es lines taken e spoken line h = absurd h
untold_stops by.WriteFault number n call start now es lines taken e spoken line h = absurd h

-- the answer isn't kept
pub unkept_stops : (end : CallEnd) (number n : ℕ) (call : Call) (answer : Reply) (kept : Kept) (start now : World) (es : List Exchange) (lines : Held) (taken : ℕ) → number ≡ length es + 1 → kept ≡ kept_by nothing_kept es
    → Spoken start now es (call_texts es ++ call_text call) lines taken → IsLine n lines → CanHave call answer → words_text number answer ≡ take n lines.left
    → Rejects end answer number kept → Stops end call start now es
unkept_stops (by.FalseModel k) number n call answer kept start now es lines taken e same spoken line can told h = (
  h.0 ∙ e,
  (
    record { lines = lines; taken = taken; spoken = spoken },
    record {
      call_is = model_asked call h.1.0 (ap (may_answer call) (sym h.1.1) ∙ can.may);
      whole = line_whole n lines line;
      model = h.1.0;
      line_is = line_first n lines line ∙ sym told ∙ ap (λ (r : Reply). words_text number r) h.1.1 ∙ ap (λ m. words_text m (reply.Model h.1.0)) (sym h.0);
      untrue = λ t. h.1.2 (subst (λ (x : Kept). IsTrueTo x h.1.0) (sym same) t);
    },
  ),
)
unkept_stops by.NoMemory number n call answer kept start now es lines taken e same spoken line can told h = (record { lines = lines; taken = taken; spoken = spoken }, line_some n lines line)
unkept_stops (by.BadReply k) number n call answer kept start now es lines taken e same spoken line can told h = absurd h
unkept_stops by.Early number n call answer kept start now es lines taken e same spoken line can told h = absurd h
unkept_stops by.ReadFault number n call answer kept start now es lines taken e same spoken line can told h = absurd h
unkept_stops by.TooMuch number n call answer kept start now es lines taken e same spoken line can told h = absurd h
unkept_stops by.Done number n call answer kept start now es lines taken e same spoken line can told h = absurd h
unkept_stops by.WriteFault number n call answer kept start now es lines taken e same spoken line can told h = absurd h

-- the call was answered
pub answered : (number n : ℕ) (call : Call) (answer : Reply) (kept : Kept) (start now : World) (es : List Exchange) (lines : Held) (taken : ℕ) (after : Asking) → number ≡ length es + 1 → kept ≡ kept_by nothing_kept es
    → Spoken start now es (call_texts es ++ call_text call) lines taken → AreTrue nothing_kept es → CanHave call answer → words_text number answer ≡ take n lines.left → IsTrueReply kept answer
    → GivesLine (take n lines.left) lines after.lines → after.taken ≡ taken → after.sent ≡ number → after.kept ≡ kept_after kept call answer
    → Exchanging start now after (with_exchange es call answer)
answered number n call answer kept start now es lines taken after e same spoken models can told true_to gives taken_is sent kept_is = record {
  spoken = subst (λ (k : ℕ). Spoken start now (with_exchange es call answer) (call_texts (with_exchange es call answer)) after.lines k) (sym taken_is)
      (spoke_line after.lines call answer (take n lines.left) spoken gives (ap (λ k. words_text k answer) (sym e) ∙ told));
  sent = sent ∙ e ∙ sym (length-append es (record { call = call; reply = answer } ∷ []));
  kept = kept_is ∙ ap (λ (k : Kept). kept_after k call answer) same ∙ sym (kept_more nothing_kept es call answer);
  models = true_more nothing_kept es call answer models (subst (λ (k : Kept). IsTrueReply k answer) same true_to);
}
