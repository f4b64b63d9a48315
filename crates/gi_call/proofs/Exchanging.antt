-- One exchange more, as text.
use Rattle.std.proofs.Common.{◌≡◌, ℕ, ◌+◌, List, [], ◌∷◌, ◌++◌, length, refl, ap, sym, ◌∙◌, append_assoc, arith}
use Rattle.std.proofs.lemmas.List.{append-nil}
use Rattle.std.proofs.lemmas.Grind.{flat_map-append}
use Rattle.gi_model.specs.declared.calls.Call.{Call}
use Rattle.gi_model.specs.declared.replies.Reply.{Reply}
use Rattle.gi_kept.specs.Exchanges.{Exchange}
use Rattle.gi_wire.specs.CallText.{call_text}
use Rattle.gi_wire.specs.Text.{text, words_text}
use Rattle.gi_net.specs.Answers.{Answer}
use Rattle.gi_call.specs.Exchanged.{answer_texts, call_texts, exchange_of, exchanges}
use Rattle.gi_call.specs.MidCall.{with_exchange}

pub calls_none : call_texts [] ≡ []
unfolding call_texts
calls_none = refl

pub calls_more : (es : List Exchange) (call : Call) (answer : Reply) → call_texts (with_exchange es call answer) ≡ call_texts es ++ call_text call
unfolding call_texts
calls_more es call answer =
    let e : Exchange = record { call = call; reply = answer } in
    flat_map-append (λ (x : Exchange). call_text x.call) es (e ∷ []) ∙ ap (λ xs. call_texts es ++ xs) (append-nil (call_text call))

answers_more_from : (n : ℕ) (es : List Exchange) (call : Call) (answer : Reply) → answer_texts n (with_exchange es call answer) ≡ answer_texts n es ++ text (n + length es + 1) answer
unfolding answer_texts
answers_more_from n [] call answer = append-nil (text (n + 1) answer) ∙ ap (λ k. text k answer) (let e : n + 1 ≡ n + 0 + 1 = omega arith in e)
answers_more_from n (e ∷ es) call answer =
    ap (λ xs. text (n + 1) e.reply ++ xs) (answers_more_from (n + 1) es call answer ∙ ap (λ k. answer_texts (n + 1) es ++ text k answer) (let h : n + 1 + length es + 1 ≡ n + length (e ∷ es) + 1 = omega arith in h))
    ∙ sym (append_assoc (text (n + 1) e.reply) (answer_texts (n + 1) es) (text (n + length (e ∷ es) + 1) answer))

-- the answer's line and its LF
pub answers_more : (es : List Exchange) (call : Call) (answer : Reply) → answer_texts 0 (with_exchange es call answer) ≡ answer_texts 0 es ++ (words_text (length es + 1) answer ++ 10 ∷ [])
unfolding text
answers_more es call answer =
    answers_more_from 0 es call answer ∙ ap (λ k. answer_texts 0 es ++ text k answer) (let h : 0 + length es + 1 ≡ length es + 1 = omega arith in h)

pub exchanges_none : exchanges [] ≡ []
unfolding exchanges
exchanges_none = refl

pub exchanges_more : (given : List Answer) (a : Answer) → exchanges (given ++ a ∷ []) ≡ exchanges given ++ exchange_of a.item.asked a.reply
unfolding exchanges
exchanges_more [] a = append-nil (exchange_of a.item.asked a.reply)
exchanges_more (b ∷ given) a = ap (λ xs. exchange_of b.item.asked b.reply ++ xs) (exchanges_more given a) ∙ sym (append_assoc (exchange_of b.item.asked b.reply) (exchanges given) (exchange_of a.item.asked a.reply))

pub answers_none : answer_texts 0 [] ≡ []
unfolding answer_texts
answers_none = refl
