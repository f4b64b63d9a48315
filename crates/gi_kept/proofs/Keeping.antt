-- One exchange more.
use Rattle.std.proofs.Common.{◌≡◌, List, [], ◌∷◌, ◌++◌, refl}
use Rattle.gi_model.specs.declared.calls.Call.{Call}
use Rattle.gi_model.specs.declared.replies.Reply.{Reply}
use Rattle.gi_kept.specs.Exchanges.{AreTrue, Exchange, IsTrueReply, kept_by}
use Rattle.gi_kept.specs.Kept.{Kept, kept_after}

abbrev pub one : Call → Reply → List Exchange
one call answer = record { call = call; reply = answer } ∷ []

pub kept_more : (k : Kept) (es : List Exchange) (call : Call) (answer : Reply) → kept_by k (es ++ one call answer) ≡ kept_after (kept_by k es) call answer
unfolding kept_by
kept_more k [] call answer = refl
kept_more k (e ∷ es) call answer = kept_more (kept_after k e.call e.reply) es call answer

pub true_more : (k : Kept) (es : List Exchange) (call : Call) (answer : Reply) → AreTrue k es → IsTrueReply (kept_by k es) answer → AreTrue k (es ++ one call answer)
unfolding kept_by
true_more k [] call answer h t = (t, tt)
true_more k (e ∷ es) call answer h t = (h.0, true_more (kept_after k e.call e.reply) es call answer h.1 t)
