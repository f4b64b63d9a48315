-- A session that nothing disturbs is whole.
use Rattle.std.proofs.Common.{◌≢◌, inl, inr, List, [], ◌∷◌, ◌++◌, refl, subst, arith}
use Rattle.std.specs.List.{AllByRecursion}
use Rattle.gi_outside.specs.World.{World}
use Rattle.gi_model.specs.declared.replies.Reply.TheVariants as reply
use Rattle.gi_model.specs.declared.refusal.Refusal.TheVariants as refusal
use Rattle.gi_net.specs.declared.how.How.{How}
use Rattle.gi_net.specs.declared.how.How.TheVariants as how
use Rattle.gi_net.specs.Answers.{Answer}
use Rattle.gi_net.specs.Served.{EndsBy}
use Rattle.gi_net.specs.Session.{IsComplete, Session, Undisturbed, given}
use Rattle.gi_net.specs.Standing.{Standing}

last_of : (P : Answer → Type 0) (xs : List Answer) (x : Answer) → AllByRecursion P (xs ++ x ∷ []) → P x
last_of P [] x h = h.0
last_of P (y ∷ xs) x h = last_of P xs x h.1

not_dead : (xs : List Answer) → AllByRecursion (λ (a : Answer). a.reply ≢ reply.Refused refusal.Dead) xs → EndsBy xs (reply.Refused refusal.Dead) → ⊥
not_dead xs alive ends = last_of (λ (a : Answer). a.reply ≢ reply.Refused refusal.Dead) ends.before ends.last (subst (λ (ys : List Answer). AllByRecursion (λ (a : Answer). a.reply ≢ reply.Refused refusal.Dead) ys) ends.split alive) ends.is

pub whole : (old new : World) (before after : Standing) (by : How) (s : Session old new before after by) → Undisturbed old new before after by s → IsComplete old new before after by s
whole old new before after how.Bye s calm = record { ends = inl refl; answered = inr s.served.ends.0; out = s.served.ends.1 }
whole old new before after how.Eof s calm = record { ends = inr refl; answered = inl s.served.ends.1; out = s.served.ends.3 }
whole old new before after how.Dead s calm = absurd (not_dead (given s) calm.alive s.served.ends.0)
whole old new before after how.ReadFault s calm = absurd (calm.reads s.cause)
whole old new before after how.WriteFault s calm = absurd (calm.writes s.cause)
whole old new before after how.NoMemory s calm = absurd (calm.memory refl)
whole old new before after how.TooMuch s calm = absurd (elim s.served.ends.0 [ inl many ↦ omega (arith, many, calm.bytes) | inr none ↦ omega (arith, none.1, calm.calls) ])
