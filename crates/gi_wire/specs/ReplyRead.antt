-- What `read_reply` answers.
use Rattle.std.specs.Prelude.{◌≡◌, ◌≢◌, ◌≤◌, ℕ, List, All, true}
use Rattle.gi_lit.specs.Literals.{IsLiteral, IsVariable}
use Rattle.gi_model.specs.declared.refusal.Refusal.{Refusal}
use Rattle.gi_model.specs.declared.refusal.Refusal.TheVariants.{Payload}
use Rattle.gi_model.specs.declared.replies.Reply.{Reply}
use Rattle.gi_model.specs.declared.replies.Reply.TheVariants as reply
use Rattle.gi_model.specs.declared.replies.Status.{Status}
use Rattle.gi_model.specs.declared.replies.Status.TheVariants as status
use Rattle.gi_wire.specs.declared.told.ReplyRead.{ReplyRead}
use Rattle.gi_wire.specs.declared.told.ReplyRead.TheVariants as read
use Rattle.gi_wire.specs.Answers.{tells_list}
use Rattle.gi_wire.specs.Fields.{fields_of}
use Rattle.gi_wire.specs.Limits.{most_u32, most_u64}
use Rattle.gi_wire.specs.Text.{words_text}

abbrev pub HasSpent : Status → Type 0
HasSpent (status.Running spent) = spent ≤ most_u32
HasSpent (status.Paused spent) = spent ≤ most_u32
HasSpent other = Unit {0}

abbrev pub HasPlace : Refusal → Type 0
HasPlace (Payload line gate code) = (line ≤ most_u64) × (gate ≤ most_u32)
HasPlace other = Unit {0}

-- an answer that a line tells, with numbers in their ranges; but for a refusal it names the line 0
abbrev pub IsTold : ℕ → Reply → Type 0
IsTold line reply.Done = line ≡ 0
IsTold line (reply.Vars n) = (line ≡ 0) × (n ≤ most_u32)
IsTold line (reply.Guard g) = (line ≡ 0) × IsVariable g
IsTold line (reply.Implied ls) = (line ≡ 0) × All IsLiteral ls
IsTold line (reply.Failed ls) = (line ≡ 0) × All IsLiteral ls
IsTold line (reply.Reasons ls) = (line ≡ 0) × All IsLiteral ls
IsTold line (reply.Started serial) = (line ≡ 0) × (serial ≤ most_u64)
IsTold line (reply.Status serial status) = (line ≡ 0) × (serial ≤ most_u64) × HasSpent status
IsTold line (reply.Unsat serial ls) = (line ≡ 0) × (serial ≤ most_u64) × All IsLiteral ls
IsTold line (reply.Model ls) = (line ≡ 0) × All IsLiteral ls
IsTold line (reply.Known n) = (line ≡ 0) × (n ≤ most_u64)
IsTold line (reply.Clause ls) = (line ≡ 0) × All IsLiteral ls
IsTold line (reply.LoadedCnf vars clauses) = (line ≡ 0) × (vars ≤ most_u32) × (clauses ≤ most_u32)
IsTold line reply.Bye = line ≡ 0
IsTold line (reply.Worked news now) = ⊥
IsTold line reply.Idle = ⊥
IsTold line (reply.Refused refusal) = (line ≤ most_u64) × HasPlace refusal
IsTold line reply.NoMemory = line ≡ 0
IsTold line reply.Spent = ⊥

-- an answer whose text the line is, or there is none; a list of literals alone takes memory
abbrev pub ReadsReply : ReplyRead → List ℕ → Type 0
ReadsReply (read.Told line reply) bytes = IsTold line reply × (words_text line reply ≡ bytes)
ReadsReply read.Bad bytes = (line : ℕ) (reply : Reply) → IsTold line reply
    → words_text line reply ≢ bytes
ReadsReply read.NoMemory bytes = tells_list (fields_of bytes) ≡ true

-- no two answers have the same text
abbrev pub TextsDiffer : Type 0
TextsDiffer = (line other : ℕ) (one two : Reply) → IsTold line one → IsTold other two
    → words_text line one ≡ words_text other two → (line ≡ other) × (one ≡ two)
