-- The texts of answers.
use Rattle.std.specs.Prelude.{ℕ, List, [], ◌∷◌, ◌++◌, ◌==◌, if◌then◌else◌, codes, decimal, Bool, true, false}
use Rattle.gi_dimacs.specs.declared.fault.CnfCode.TheVariants.{Header, Word, Number, Limit, Unterminated}
use Rattle.gi_model.specs.Number.{refusal_number}
use Rattle.gi_model.specs.declared.refusal.PayloadCode.{PayloadCode}
use Rattle.gi_model.specs.declared.refusal.PayloadCode.TheVariants.{Cnf}
use Rattle.gi_model.specs.declared.refusal.Refusal.{Refusal}
use Rattle.gi_model.specs.declared.refusal.Refusal.TheVariants.{Payload}
use Rattle.gi_model.specs.declared.replies.Reply.{Reply}
use Rattle.gi_model.specs.declared.replies.Reply.TheVariants as reply
use Rattle.gi_model.specs.declared.replies.Status.{Status}
use Rattle.gi_model.specs.declared.replies.Status.TheVariants as status
use Rattle.gi_model.specs.declared.replies.Why.{Why}
use Rattle.gi_model.specs.declared.replies.Why.TheVariants as why
use Rattle.gi_wire.specs.Literals.{list_text}

-- the answers that a line may have: all but those to the machine's own work, and the want of a call
abbrev pub is_answer : Reply → Bool
is_answer (reply.Worked news now) = false
is_answer reply.Idle = false
is_answer reply.Spent = false
is_answer other = true

abbrev pub reason_text : Why → List ℕ
reason_text why.Budget = codes " budget"
reason_text why.Stopped = codes " stopped"

-- how the solve of this serial stands
unfoldable pub status_text : ℕ → Status → List ℕ
status_text serial (status.Running spent) = codes "running " ++ decimal serial
    ++ (codes " " ++ decimal spent)
status_text serial (status.Paused spent) = codes "paused " ++ decimal serial
    ++ (codes " " ++ decimal spent)
status_text serial status.Sat = codes "sat " ++ decimal serial
status_text serial status.Unsat = codes "unsat " ++ decimal serial
status_text serial (status.Unknown why) = codes "unknown " ++ decimal serial ++ reason_text why

-- what is wrong with a payload
unfoldable pub code_text : PayloadCode → List ℕ
code_text (Cnf Header) = codes "header"
code_text (Cnf Word) = codes "word"
code_text (Cnf Number) = codes "number"
code_text (Cnf Limit) = codes "limit"
code_text (Cnf Unterminated) = codes "unterminated"

-- a gate that isn't 0
abbrev pub gate_text : ℕ → List ℕ
gate_text gate = if gate == 0 then [] else codes " " ++ decimal gate

-- what a refusal tells besides its number: of a payload the line that is wrong, and how
unfoldable pub details_text : Refusal → List ℕ
details_text (Payload line gate code) = codes " " ++ decimal line ++ (codes " " ++ code_text code)
    ++ gate_text gate
details_text refusal = []

-- the answer to the line of this number, without its LF
unfoldable pub words_text : ℕ → Reply → List ℕ
words_text line reply.Done = codes "ok"
words_text line (reply.Vars n) = codes "vars " ++ decimal n
words_text line (reply.Guard g) = codes "guard " ++ decimal g
words_text line (reply.Implied ls) = codes "implied " ++ list_text ls
words_text line (reply.Failed ls) = codes "failed " ++ list_text ls
words_text line (reply.Reasons ls) = codes "reasons " ++ list_text ls
words_text line (reply.Started serial) = codes "started " ++ decimal serial
words_text line (reply.Status serial status) = status_text serial status
words_text line (reply.Unsat serial failed) = codes "unsat " ++ decimal serial
    ++ (codes " " ++ list_text failed)
words_text line (reply.Model ls) = codes "model " ++ list_text ls
words_text line (reply.Known n) = codes "known " ++ decimal n
words_text line (reply.Clause ls) = codes "clause " ++ list_text ls
words_text line (reply.LoadedCnf vars clauses) = codes "loaded cnf " ++ decimal vars
    ++ (codes " " ++ decimal clauses)
words_text line reply.Bye = codes "bye"
words_text line (reply.Worked news now) = []
words_text line reply.Idle = []
words_text line (reply.Refused refusal) = codes "refused " ++ decimal line
    ++ (codes " " ++ decimal (refusal_number refusal)) ++ details_text refusal
words_text line reply.NoMemory = codes "nomem"
words_text line reply.Spent = []

-- the line that answers the line of this number
unfoldable pub text : ℕ → Reply → List ℕ
text line reply = words_text line reply ++ 10 ∷ []
