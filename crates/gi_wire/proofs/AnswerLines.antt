-- Texts of answers are lines.
use Rattle.std.proofs.Common.{◌≡◌, ℕ, ◌≤◌, true, List, [], ◌∷◌, ◌++◌, codes, decimal, inl, inr, refl, ap, ◌∙◌, append_assoc, arith, pos}
use Rattle.std.specs.List.{AllByRecursion}
use Rattle.std.specs.Fmt.{signed_decimal}
use Rattle.std.proofs.lemmas.Bool.Decides.{eqb_tells}
use Rattle.std.proofs.lemmas.List.Elements.{recursion_from_All}
use Rattle.gi_dimacs.specs.declared.fault.CnfCode.TheVariants.{Header, Word, Number, Limit, Unterminated}
use Rattle.gi_lit.specs.Literals.{IsLiteral, number_of}
use Rattle.gi_model.specs.Number.{refusal_number}
use Rattle.gi_model.specs.declared.refusal.PayloadCode.{PayloadCode}
use Rattle.gi_model.specs.declared.refusal.PayloadCode.TheVariants.{Cnf}
use Rattle.gi_model.specs.declared.refusal.Refusal.{Refusal}
use Rattle.gi_model.specs.declared.refusal.Refusal.TheVariants as refusal
use Rattle.gi_model.specs.declared.replies.Reply.{Reply}
use Rattle.gi_model.specs.declared.replies.Reply.TheVariants as reply
use Rattle.gi_model.specs.declared.replies.Status.{Status}
use Rattle.gi_model.specs.declared.replies.Status.TheVariants as status
use Rattle.gi_model.specs.declared.replies.Why.TheVariants as why
use Rattle.gi_text.specs.Lines.{line_at}
use Rattle.gi_wire.specs.Laws.{AnswersAreLines}
use Rattle.gi_wire.specs.Limits.{most_u32, most_u64}
use Rattle.gi_wire.specs.Literals.{list_text}
use Rattle.gi_wire.specs.ReplyRead.{HasPlace, HasSpent, IsTold}
use Rattle.gi_wire.specs.Text.{code_text, details_text, gate_text, status_text, text, words_text}
use Rattle.gi_wire.proofs.Lfs.{line_is, no_lf, no_lf-append}
use Rattle.gi_wire.proofs.Spelled.{number_few, signed_no_lf}
use Rattle.gi_wire.proofs.Telling.{list_first, payload_text}

plain_number : (n : ℕ) → n ≤ most_u64 → no_lf (decimal n) ≡ true
plain_number n few = signed_no_lf (pos n) few

plain_two : (m n : ℕ) → m ≤ most_u64 → n ≤ most_u64 → no_lf (decimal m ++ 32 ∷ decimal n) ≡ true
plain_two m n few small = no_lf-append (decimal m) (32 ∷ decimal n) (plain_number m few) (plain_number n small)

plain_list : (ls : List ℕ) → AllByRecursion IsLiteral ls → no_lf (list_text ls) ≡ true
plain_list [] h = refl
plain_list (l ∷ ls) h = ap no_lf (list_first l ls) ∙ no_lf-append (signed_decimal (number_of l)) (32 ∷ list_text ls) (signed_no_lf (number_of l) (number_few l h.0)) (plain_list ls h.1)

plain_status : (serial : ℕ) (how : Status) → serial ≤ most_u64 → HasSpent how → no_lf (status_text serial how) ≡ true
unfolding status_text
plain_status s (status.Running n) few h = plain_two s n few (omega (arith, h))
plain_status s (status.Paused n) few h = plain_two s n few (omega (arith, h))
plain_status s status.Sat few h = plain_number s few
plain_status s status.Unsat few h = plain_number s few
plain_status s (status.Unknown why.Budget) few h = no_lf-append (decimal s) (codes " budget") (plain_number s few) refl
plain_status s (status.Unknown why.Stopped) few h = no_lf-append (decimal s) (codes " stopped") (plain_number s few) refl

plain_code : (code : PayloadCode) → no_lf (code_text code) ≡ true
unfolding code_text
plain_code (Cnf Header) = refl
plain_code (Cnf Word) = refl
plain_code (Cnf Number) = refl
plain_code (Cnf Limit) = refl
plain_code (Cnf Unterminated) = refl

plain_gate : (gate : ℕ) → gate ≤ most_u32 → no_lf (gate_text gate) ≡ true
plain_gate gate few = elim (eqb_tells gate 0) [
  | inl t ↦ rw t.0 refl
  | inr f ↦ rw f.0 (plain_number gate (omega (arith, few)))
]

plain_details : (r : Refusal) → HasPlace r → no_lf (details_text r) ≡ true
unfolding details_text
plain_details (refusal.Payload spot gate code) h =
    ap no_lf (payload_text spot gate code) ∙ no_lf-append (decimal spot) (32 ∷ (code_text code ++ gate_text gate)) (plain_number spot h.0) (no_lf-append (code_text code) (gate_text gate) (plain_code code) (plain_gate gate h.1))
plain_details other h = refl

small_number : (r : Refusal) → refusal_number r ≤ most_u64
small_number (refusal.Payload spot gate code) = omega arith
small_number other = omega arith

plain : (line named : ℕ) (r : Reply) → line ≤ most_u64 → IsTold named r → no_lf (words_text line r) ≡ true
unfolding words_text
plain line named reply.Done few h = refl
plain line named (reply.Vars n) few h = plain_number n (omega (arith, h.1))
plain line named (reply.Guard g) few h = plain_number g (omega (arith, h.1.1))
plain line named (reply.Implied ls) few h = plain_list ls (recursion_from_All IsLiteral ls h.1)
plain line named (reply.Failed ls) few h = plain_list ls (recursion_from_All IsLiteral ls h.1)
plain line named (reply.Reasons ls) few h = plain_list ls (recursion_from_All IsLiteral ls h.1)
plain line named (reply.Started s) few h = plain_number s h.1
plain line named (reply.Status s how) few h = plain_status s how h.1 h.2
plain line named (reply.Unsat s ls) few h = no_lf-append (decimal s) (32 ∷ list_text ls) (plain_number s h.1) (plain_list ls (recursion_from_All IsLiteral ls h.2))
plain line named (reply.Model ls) few h = plain_list ls (recursion_from_All IsLiteral ls h.1)
plain line named (reply.Known n) few h = plain_number n h.1
plain line named (reply.Clause ls) few h = plain_list ls (recursion_from_All IsLiteral ls h.1)
plain line named (reply.LoadedCnf vars clauses) few h = plain_two vars clauses (omega (arith, h.1)) (omega (arith, h.2))
plain line named reply.Bye few h = refl
plain line named (reply.Worked news now) few h = absurd h
plain line named reply.Idle few h = absurd h
plain line named (reply.Refused r) few h = no_lf-append (decimal line ++ 32 ∷ decimal (refusal_number r)) (details_text r) (plain_two line (refusal_number r) few (small_number r)) (plain_details r h.1)
plain line named reply.NoMemory few h = refl
plain line named reply.Spent few h = absurd h

pub lines : AnswersAreLines
unfolding text
lines line named r more few h = ap line_at (append_assoc (words_text line r) (10 ∷ []) more) ∙ line_is (words_text line r) more (plain line named r few h)
