-- What lines tell, and what answers change.
use Rattle.std.proofs.Common.{◌≡◌, ◌≢◌, ℕ, ◌≤◌, true, false, List, refl, ap, sym, ◌∙◌, arith}
use Rattle.std.proofs.lemmas.Bool.{eq-eqb, eqb-true, false≢true}
use Rattle.gi_model.specs.declared.calls.Call.{Call}
use Rattle.gi_model.specs.declared.calls.Call.TheVariants as calls
use Rattle.gi_model.specs.declared.replies.Reply.{Reply}
use Rattle.gi_model.specs.declared.replies.Reply.TheVariants as reply
use Rattle.gi_kept.specs.Replies.{may_answer}
use Rattle.gi_wire.specs.Limits.{most_u64}
use Rattle.gi_wire.specs.ReplyRead.{IsTold, TextsDiffer}
use Rattle.gi_wire.specs.Text.{is_answer, words_text}
use Rattle.gi_wire.specs.declared.reader.RequestKind.{RequestKind}
use Rattle.gi_wire.specs.declared.reader.RequestKind.TheVariants as asked
use Rattle.gi_call.specs.Called.{IsRight}
use Rattle.gi_call.specs.Exchanged.{CanHave, IsNoAnswer}
use Rattle.gi_call.specs.MidCall.{is_named}

-- the line that an answer names
abbrev pub named : Reply → ℕ → ℕ
named (reply.Refused r) line = line
named other line = 0

pub told_range : (line : ℕ) (answer : Reply) → IsTold line answer → IsTold 0 answer
told_range line reply.Done h = refl
told_range line (reply.Vars n) h = (refl, h.1)
told_range line (reply.Guard g) h = (refl, h.1)
told_range line (reply.Implied ls) h = (refl, h.1)
told_range line (reply.Failed ls) h = (refl, h.1)
told_range line (reply.Reasons ls) h = (refl, h.1)
told_range line (reply.Started serial) h = (refl, h.1)
told_range line (reply.Status serial status) h = (refl, h.1, h.2)
told_range line (reply.Unsat serial failed) h = (refl, h.1, h.2)
told_range line (reply.Model ls) h = (refl, h.1)
told_range line (reply.Known n) h = (refl, h.1)
told_range line (reply.Clause ls) h = (refl, h.1)
told_range line (reply.LoadedCnf vars clauses) h = (refl, h.1, h.2)
told_range line reply.Bye h = refl
told_range line (reply.Worked news now) h = absurd h
told_range line reply.Idle h = absurd h
told_range line (reply.Refused r) h = (omega arith, h.1)
told_range line reply.NoMemory h = refl
told_range line reply.Spent h = absurd h

pub range_told : (line : ℕ) (answer : Reply) → line ≤ most_u64 → IsTold 0 answer → IsTold (named answer line) answer
range_told line reply.Done low h = h
range_told line (reply.Vars n) low h = h
range_told line (reply.Guard g) low h = h
range_told line (reply.Implied ls) low h = h
range_told line (reply.Failed ls) low h = h
range_told line (reply.Reasons ls) low h = h
range_told line (reply.Started serial) low h = h
range_told line (reply.Status serial status) low h = h
range_told line (reply.Unsat serial failed) low h = h
range_told line (reply.Model ls) low h = h
range_told line (reply.Known n) low h = h
range_told line (reply.Clause ls) low h = h
range_told line (reply.LoadedCnf vars clauses) low h = h
range_told line reply.Bye low h = h
range_told line (reply.Worked news now) low h = h
range_told line reply.Idle low h = h
range_told line (reply.Refused r) low h = (low, h.1)
range_told line reply.NoMemory low h = h
range_told line reply.Spent low h = h

-- an answer that names no line has one text
pub named_text : (line : ℕ) (answer : Reply) → words_text (named answer line) answer ≡ words_text line answer
unfolding words_text
named_text line reply.Done = refl
named_text line (reply.Vars n) = refl
named_text line (reply.Guard g) = refl
named_text line (reply.Implied ls) = refl
named_text line (reply.Failed ls) = refl
named_text line (reply.Reasons ls) = refl
named_text line (reply.Started serial) = refl
named_text line (reply.Status serial status) = refl
named_text line (reply.Unsat serial failed) = refl
named_text line (reply.Model ls) = refl
named_text line (reply.Known n) = refl
named_text line (reply.Clause ls) = refl
named_text line (reply.LoadedCnf vars clauses) = refl
named_text line reply.Bye = refl
named_text line (reply.Worked news now) = refl
named_text line reply.Idle = refl
named_text line (reply.Refused r) = refl
named_text line reply.NoMemory = refl
named_text line reply.Spent = refl

-- the line that a told answer names, where it names the call's number if any
pub named_line : (told number : ℕ) (answer : Reply) → IsTold told answer → is_named answer told number ≡ true → told ≡ named answer number
named_line told number (reply.Refused r) h n = eqb-true told number n
named_line told number reply.Done h n = h
named_line told number (reply.Vars k) h n = h.0
named_line told number (reply.Guard g) h n = h.0
named_line told number (reply.Implied ls) h n = h.0
named_line told number (reply.Failed ls) h n = h.0
named_line told number (reply.Reasons ls) h n = h.0
named_line told number (reply.Started serial) h n = h.0
named_line told number (reply.Status serial status) h n = h.0
named_line told number (reply.Unsat serial failed) h n = h.0
named_line told number (reply.Model ls) h n = h.0
named_line told number (reply.Known k) h n = h.0
named_line told number (reply.Clause ls) h n = h.0
named_line told number (reply.LoadedCnf vars clauses) h n = h.0
named_line told number reply.Bye h n = h
named_line told number (reply.Worked news now) h n = absurd h
named_line told number reply.Idle h n = absurd h
named_line told number reply.NoMemory h n = h
named_line told number reply.Spent h n = absurd h

named_self : (answer : Reply) (number : ℕ) → is_named answer (named answer number) number ≡ true
named_self (reply.Refused r) number = eq-eqb number number refl
named_self reply.Done number = refl
named_self (reply.Vars k) number = refl
named_self (reply.Guard g) number = refl
named_self (reply.Implied ls) number = refl
named_self (reply.Failed ls) number = refl
named_self (reply.Reasons ls) number = refl
named_self (reply.Started serial) number = refl
named_self (reply.Status serial status) number = refl
named_self (reply.Unsat serial failed) number = refl
named_self (reply.Model ls) number = refl
named_self (reply.Known k) number = refl
named_self (reply.Clause ls) number = refl
named_self (reply.LoadedCnf vars clauses) number = refl
named_self reply.Bye number = refl
named_self (reply.Worked news now) number = refl
named_self reply.Idle number = refl
named_self reply.NoMemory number = refl
named_self reply.Spent number = refl

-- it is the text of the answer to this call
pub right_text : (told number : ℕ) (answer : Reply) (line : List ℕ) → IsTold told answer → is_named answer told number ≡ true → words_text told answer ≡ line → words_text number answer ≡ line
right_text told number answer line h n e = sym (named_text number answer) ∙ ap (λ k. words_text k answer) (sym (named_line told number answer h n)) ∙ e

pub can_have : (told : ℕ) (call : Call) (answer : Reply) → may_answer call answer ≡ true → IsTold told answer → CanHave call answer
can_have told call answer may h = record { may = may; range = told_range told answer h }

-- a line that tells another answer is none
no_other : (told number : ℕ) (call : Call) (answer : Reply) (line : List ℕ) → TextsDiffer → number ≤ most_u64 → IsTold told answer → words_text told answer ≡ line → (other : Reply) → CanHave call other → words_text number other ≡ line → (told ≡ named other number) × (answer ≡ other)
no_other told number call answer line differ low h e other can f = differ told (named other number) answer other h (range_told number other low can.range) (e ∙ sym f ∙ sym (named_text number other))

-- the call can't have what the line tells
pub none_unfit : (told number : ℕ) (call : Call) (answer : Reply) (line : List ℕ) → TextsDiffer → number ≤ most_u64 → IsTold told answer → words_text told answer ≡ line → may_answer call answer ≡ false → IsNoAnswer call number line
none_unfit told number call answer line differ low h e unfit = record {
  each = λ other can f. false≢true (sym unfit ∙ ap (may_answer call) (no_other told number call answer line differ low h e other can f).1 ∙ can.may);
}

-- the line tells a refusal of another call
pub none_unnamed : (told number : ℕ) (call : Call) (answer : Reply) (line : List ℕ) → TextsDiffer → number ≤ most_u64 → IsTold told answer → words_text told answer ≡ line → is_named answer told number ≡ false → IsNoAnswer call number line
none_unnamed told number call answer line differ low h e unnamed = record {
  each = λ other can f.
      let same = no_other told number call answer line differ low h e other can f in
      false≢true (sym unnamed ∙ ap (λ (r : Reply). is_named r told number) same.1 ∙ ap (λ k. is_named other k number) same.0 ∙ named_self other number);
}

-- the line tells nothing
pub none_told : (number : ℕ) (call : Call) (line : List ℕ) → number ≤ most_u64 → ((k : ℕ) (answer : Reply) → IsTold k answer → words_text k answer ≢ line) → IsNoAnswer call number line
none_told number call line low none = record {
  each = λ other can f. none (named other number) other (range_told number other low can.range) (named_text number other ∙ f);
}

-- what a call can have is an answer
pub is_told_answer : (answer : Reply) → IsTold 0 answer → is_answer answer ≡ true
is_told_answer (reply.Worked news now) h = absurd h
is_told_answer reply.Idle h = absurd h
is_told_answer reply.Spent h = absurd h
is_told_answer other h = refl

-- a model alone is told to a call for it
pub model_asked : (call : Call) (ls : List ℕ) → may_answer call (reply.Model ls) ≡ true → call ≡ calls.Model
unfolding may_answer
model_asked calls.Model ls h = refl
model_asked other ls h = absurd (false≢true h)

-- and bye to a bye
bye_said : (call : Call) → may_answer call reply.Bye ≡ true → call ≡ calls.Bye
unfolding may_answer
bye_said calls.Bye h = refl
bye_said other h = absurd (false≢true h)

pub bye_asked : (a : RequestKind) (answer : Reply) → IsRight a answer → answer ≡ reply.Bye → a ≡ asked.Call calls.Bye
bye_asked (asked.Call what) answer right e = ap asked.Call (bye_said what (ap (may_answer what) (sym e) ∙ right.may))
bye_asked asked.Syntax answer right e = let no = sym right ∙ e in cc
bye_asked asked.Long answer right e = let no = sym right ∙ e in cc
