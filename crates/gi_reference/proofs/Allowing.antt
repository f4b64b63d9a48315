-- Which entries are allowed.
use Rattle.std.proofs.Common.{◌≡◌, ◌↔◌, Bool, true, IsTrue, Result, IfOk, Option, Some, None, sym, subst, ◌⊎◌, inl, inr}
use Rattle.gi_model.specs.State.{State}
use Rattle.gi_model.specs.Refusals.{refuses}
use Rattle.gi_model.specs.History.{MayCome, Allows, Replied, Answers, IsRefused, takes_memory}
use Rattle.gi_model.specs.declared.calls.Call.{Call}
use Rattle.gi_model.specs.declared.replies.Reply.{Reply}
use Rattle.gi_model.specs.declared.replies.Reply.TheVariants as reply
use Rattle.gi_model.specs.declared.refusal.Refusal.{Refusal}
use Rattle.gi_reference.proofs.Deciding.{like, ok_like}

module _ (s : State) (k : Call) (answer : Reply) (comes : MayCome s k) where
  -- where the table names a refusal, that one alone
  pub allows_refusal : (r : Refusal) (b : Bool) → Some r ≡ refuses s k → IsTrue b ↔ IsRefused k answer r → IsTrue b ↔ Allows s k answer
  allows_refusal r b e d = like b d (λ q. record { may_come = comes; replied = subst (Replied s k answer) e q }) (λ a. subst (Replied s k answer) (sym e) a.replied)

  module _ (free : None ≡ refuses s k) where
    abbrev WantsMemory : Type 0
    WantsMemory = (answer ≡ reply.NoMemory) × (takes_memory s k ≡ true)

    -- else want of memory where it may come
    pub allows_memory : WantsMemory → Allows s k answer
    allows_memory m = record { may_come = comes; replied = subst (Replied s k answer) free (inr m) }

    -- or an answer
    pub allows_like : {E : Type 0} (r : Result Bool E) → ¬ WantsMemory → IfOk r (λ b. IsTrue b ↔ Answers s k answer) → IfOk r (λ b. IsTrue b ↔ Allows s k answer)
    allows_like r n d = ok_like r (λ q. record { may_come = comes; replied = subst (Replied s k answer) free (inl q) }) back d
      where
        drawn : Answers s k answer ⊎ WantsMemory → Answers s k answer
        drawn (inl q) = q
        drawn (inr m) = absurd (n m)

        back : Allows s k answer → Answers s k answer
        back a = drawn (subst (Replied s k answer) (sym free) a.replied)
