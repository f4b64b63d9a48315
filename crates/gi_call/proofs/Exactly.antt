-- When a client ends by what was said, and when it is done.
use Rattle.std.proofs.Common.{inl, inr, ℕ, List, [], ◌∷◌, ◌++◌, refl, sym, ◌∙◌, subst, arith}
use Rattle.std.specs.List.{AllByRecursion}
use Rattle.std.proofs.lemmas.Bool.{false≢true}
use Rattle.gi_model.specs.declared.calls.Call.{Call}
use Rattle.gi_net.specs.Answers.{Answer}
use Rattle.gi_call.specs.declared.end.CallEnd.TheVariants as by
use Rattle.gi_call.specs.Called.{EndsByBye, GoesOn, IsAwaiting, IsBetween, IsMidCall, IsOver, Talk}
use Rattle.gi_call.specs.Laws.{DoneIsExact, UndisturbedIsSaid, talk_in}

pub said : UndisturbedIsSaid
said server server' user user' by.Done c u = tt
said server server' user user' (by.BadReply number) c u = tt
said server server' user user' (by.FalseModel number) c u = tt
said server server' user user' by.Early c u = tt
said server server' user user' by.ReadFault c u = elim c.cause [ inl r ↦ u.server_reads r | inr r ↦ u.user_reads r ]
said server server' user user' by.WriteFault c u = elim c.cause [ inl r ↦ u.server_writes r | inr r ↦ u.user_writes r ]
said server server' user user' by.NoMemory c u = u.memory refl
said server server' user user' by.TooMuch c u = elim c.ends [ inl b ↦ (let n = b.1 in let m = u.typed in omega arith) | inr m ↦ (let n = m.1 in let k = u.said in omega arith) ]

last_goes : (before : List Answer) (last : Answer) → AllByRecursion GoesOn (before ++ last ∷ []) → GoesOn last
last_goes [] last h = h.0
last_goes (a ∷ before) last h = last_goes before last h.1

not_bye : (t : Talk) → EndsByBye t.given → AllByRecursion GoesOn t.given → ⊥
not_bye t e goes = last_goes e.before e.last (subst (λ (xs : List Answer). AllByRecursion GoesOn xs) e.split goes) e.is

not_awaiting : (t : Talk) (call : Call) (number : ℕ) (behind : List ℕ) → IsAwaiting t call number behind → IsOver t → ⊥
not_awaiting t call number behind a (inl e) = not_bye t e a.goes_on
not_awaiting t call number behind a (inr h) = let no = sym h.2 ∙ a.next in cc

not_between : (t : Talk) → IsBetween t → IsOver t → ⊥
not_between t b (inl e) = not_bye t e b.goes_on
not_between t b (inr h) = false≢true (sym b.not_ended ∙ h.1)

not_mid : (t : Talk) → IsMidCall t → IsOver t → ⊥
not_mid t m over = not_awaiting t m.call m.number m.behind m.awaits over

pub exact : DoneIsExact
exact server server' user user' by.Done c over write memory = refl
exact server server' user user' (by.BadReply number) c over write memory = absurd (not_awaiting (talk_in c) _ _ _ c.ends.awaits over)
exact server server' user user' (by.FalseModel number) c over write memory = absurd (not_awaiting (talk_in c) _ _ _ c.ends.awaits over)
exact server server' user user' by.Early c over write memory = absurd (not_awaiting (talk_in c) _ _ _ c.ends.awaits over)
exact server server' user user' by.ReadFault c over write memory = absurd (elim c.ends [ inl b ↦ not_between (talk_in c) b over | inr m ↦ not_mid (talk_in c) m over ])
exact server server' user user' by.WriteFault c over write memory = absurd (write refl)
exact server server' user user' by.NoMemory c over write memory = absurd (memory refl)
exact server server' user user' by.TooMuch c over write memory = absurd (elim c.ends [ inl b ↦ not_between (talk_in c) b.0 over | inr m ↦ not_mid (talk_in c) m.0 over ])
