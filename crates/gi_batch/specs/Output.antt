-- What is printed of calls and their replies.
use Rattle.std.specs.Prelude.{ℕ, ◌+◌, ◌/◌, List, [], ◌∷◌, ◌++◌, length, map, Option, Some, None, codes}
use Rattle.std.specs.List.{flat_map, range_with_len}
use Rattle.std.specs.Fork.{slice_chunk}
use Rattle.gi_model.specs.History.{Entry}
use Rattle.gi_model.specs.declared.calls.Call.{Call}
use Rattle.gi_model.specs.declared.calls.Call.TheVariants as call
use Rattle.gi_model.specs.declared.replies.Reply.{Reply}
use Rattle.gi_model.specs.declared.replies.Reply.TheVariants as reply
use Rattle.gi_model.specs.declared.replies.Status.TheVariants as status
use Rattle.gi_dimacs.specs.Literals.{literal_text}
use Rattle.gi_batch.specs.declared.answer.Answer.{Answer}
use Rattle.gi_batch.specs.declared.answer.Answer.TheVariants as answers

-- the answer that a wait was given, where it is one
abbrev pub answer_of : Reply → Option Answer
answer_of (reply.Status serial status.Sat) = Some answers.Sat
answer_of (reply.Status serial (status.Unknown why)) = Some answers.Unknown
answer_of (reply.Unsat serial failed) = Some answers.Unsat
answer_of other = None

abbrev pub answer_text : Answer → List ℕ
answer_text answers.Sat = codes "s SATISFIABLE" ++ 10 ∷ []
answer_text answers.Unsat = codes "s UNSATISFIABLE" ++ 10 ∷ []
answer_text answers.Unknown = codes "s UNKNOWN" ++ 10 ∷ []

-- the words of a model: its literals, and 0
abbrev pub words_of : List ℕ → List (List ℕ)
words_of literals = map literal_text literals ++ (48 ∷ []) ∷ []

-- `v`, and each word behind a space
abbrev pub line_text : List (List ℕ) → List ℕ
line_text words = 118 ∷ (flat_map (λ word. 32 ∷ word) words ++ 10 ∷ [])

-- the words in lines of twelve, the last with what is left
unfoldable pub model_text : List ℕ → List ℕ
model_text literals = flat_map (λ i. line_text (slice_chunk (words_of literals) 12 i))
    (range_with_len 0 (length literals / 12 + 1))

abbrev pub wait_text : Option Answer → List ℕ
wait_text (Some answer) = answer_text answer
wait_text None = []

-- a wait prints its answer, and a model its literals
abbrev pub call_text : Call → Reply → List ℕ
call_text call.Wait r = wait_text (answer_of r)
call_text call.Model (reply.Model literals) = model_text literals
call_text other r = []

-- the text of all calls
abbrev pub output : List Entry → List ℕ
output calls = flat_map (λ e. call_text e.call e.reply) calls

abbrev pub given_or : Option Answer → Answer → Answer
given_or (Some answer) before = answer
given_or None before = before

abbrev pub answer_after : Answer → Call → Reply → Answer
answer_after before call.Wait r = given_or (answer_of r) before
answer_after before other r = before

-- the answer of the last wait, or the one before
abbrev pub last_answer : Answer → List Entry → Answer
last_answer before [] = before
last_answer before (e ∷ es) = last_answer (answer_after before e.call e.reply) es
