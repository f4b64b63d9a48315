-- What is told in a line is an answer.
use Rattle.std.proofs.Common.{◌≡◌, ℕ, refl}
use Rattle.std.specs.Prelude.{true}
use Rattle.gi_model.specs.declared.replies.Reply.{Reply}
use Rattle.gi_model.specs.declared.replies.Reply.TheVariants as reply
use Rattle.gi_wire.specs.ReplyRead.{IsTold}
use Rattle.gi_wire.specs.Text.{is_answer}

pub told_answers : (line : ℕ) (r : Reply) → IsTold line r → is_answer r ≡ true
told_answers line (reply.Worked news now) t = absurd t
told_answers line reply.Idle t = absurd t
told_answers line reply.Spent t = absurd t
told_answers line reply.Done t = refl
told_answers line (reply.Vars n) t = refl
told_answers line (reply.Guard g) t = refl
told_answers line (reply.Implied ls) t = refl
told_answers line (reply.Failed ls) t = refl
told_answers line (reply.Reasons ls) t = refl
told_answers line (reply.Started serial) t = refl
told_answers line (reply.Status serial status) t = refl
told_answers line (reply.Unsat serial ls) t = refl
told_answers line (reply.Model ls) t = refl
told_answers line (reply.Known n) t = refl
told_answers line (reply.Clause ls) t = refl
told_answers line (reply.LoadedCnf vars clauses) t = refl
told_answers line reply.Bye t = refl
told_answers line (reply.Refused refusal) t = refl
told_answers line reply.NoMemory t = refl
