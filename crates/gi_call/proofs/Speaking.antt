-- The server's side, step by step.
use Rattle.std.proofs.Common.{◌≡◌, ◌⊎◌, inl, inr, ℕ, ◌+◌, ◌<◌, ◌≤◌, Bool, true, false, List, [], ◌∷◌, ◌++◌, length, map, Option, Some, None, option_map, refl, ap, sym, ◌∙◌, subst, append_assoc, arith, length-append}
use Rattle.std.specs.List.{flat_map}
use Rattle.std.proofs.lemmas.Bool.{false≢true}
use Rattle.std.proofs.lemmas.List.{append-nil}
use Rattle.gi_text.specs.Lines.{GivesLine, Kept as Held, line_at}
use Rattle.gi_text.proofs.Splits.{parts_of}
use Rattle.gi_outside.specs.Link.{ins, outs}
use Rattle.gi_outside.specs.Told.{Adds, Takes}
use Rattle.gi_outside.specs.World.{World, Wrote, WroteCut}
use Rattle.gi_outside.specs.declared.link.Piece.{Piece}
use Rattle.gi_outside.specs.declared.link.Piece.TheVariants.{In, Out}
use Rattle.gi_outside.proofs.Tape.{ins-append, ins_nil, outs-append, outs_nil}
use Rattle.gi_outside.proofs.Writing.{adds_more, adds_none, rose_since}
use Rattle.gi_model.specs.declared.calls.Call.{Call}
use Rattle.gi_model.specs.declared.replies.Reply.{Reply}
use Rattle.gi_kept.specs.Exchanges.{Exchange}
use Rattle.gi_wire.specs.CallText.{call_text}
use Rattle.gi_wire.specs.Text.{words_text}
use Rattle.gi_net.specs.Served.{IsShort}
use Rattle.gi_net.proofs.Answering.{All-append}
use Rattle.gi_net.proofs.Prompting.{ins_of_outs, outs_of_outs, short_outs}
use Rattle.gi_call.specs.Exchanged.{Heard, answer_texts, call_texts}
use Rattle.gi_call.specs.MidCall.{CutShort, Spoken, with_exchange}
use Rattle.gi_call.proofs.Exchanging.{answers_more, answers_none, calls_more, calls_none}
use Rattle.gi_call.proofs.Turns.{turns_kept, turns_on, turns_outs}

two_takes : (x y : List ℕ) (c : Option (List ℕ)) → option_map (λ xs. x ++ xs) (option_map (λ xs. y ++ xs) c) ≡ option_map (λ xs. (x ++ y) ++ xs) c
two_takes x y None = refl
two_takes x y (Some xs) = ap Some (sym (append_assoc x y xs))

pub takes_more : (a b c : Option (List ℕ)) (x y : List ℕ) → Takes a b x → Takes b c y → Takes a c (x ++ y)
takes_more a b c x y e f = e ∙ ap (option_map (λ xs. x ++ xs)) f ∙ two_takes x y c

pub takes_none : (a : Option (List ℕ)) → Takes a a []
takes_none None = refl
takes_none (Some xs) = refl

pub one_in : (piece : List ℕ) → ins (In piece ∷ []) ≡ piece
unfolding ins
one_in piece = append-nil piece

pub none_out : (piece : List ℕ) → outs (In piece ∷ []) ≡ []
unfolding outs
none_out piece = refl

-- what came, where pieces were written
pub ins_written : (added : List Piece) (ps : List (List ℕ)) → ins (added ++ map Out ps) ≡ ins added
ins_written added ps = ins-append added (map Out ps) ∙ ap (λ xs. ins added ++ xs) (ins_of_outs ps) ∙ append-nil (ins added)

-- what came, where a piece was read
pub ins_read : (added : List Piece) (piece : List ℕ) → ins (added ++ In piece ∷ []) ≡ ins added ++ piece
ins_read added piece = ins-append added (In piece ∷ []) ∙ ap (λ xs. ins added ++ xs) (one_in piece)

pub outs_read : (added : List Piece) (piece : List ℕ) → outs (added ++ In piece ∷ []) ≡ outs added
outs_read added piece = outs-append added (In piece ∷ []) ∙ ap (λ xs. outs added ++ xs) (none_out piece) ∙ append-nil (outs added)

-- nothing was sent
pub begun : (w : World) (lines : Held) (taken : ℕ) → lines.left ≡ [] → lines.ended ≡ false → taken ≡ 0 → Spoken w w [] (call_texts []) lines taken
begun w lines taken left still_open none = record {
  added = [];
  tape = adds_none w.tape;
  rest = subst (λ (xs : List ℕ). Takes w.rest w.rest xs) (sym ins_nil) (takes_none w.rest);
  reads = omega arith;
  writes = omega arith;
  sent_is = outs_nil ∙ sym calls_none;
  taken_is = ap length ins_nil ∙ sym none;
  heard = inl (ins_nil ∙ sym (ap (λ xs. xs ++ lines.left) answers_none ∙ left));
  closed = λ e. absurd (false≢true (sym still_open ∙ e));
  turns = tt;
  pieces = tt;
}

-- a front of the text of a call was written
pub spoke : {start v : World} {es : List Exchange} {lines : Held} {taken : ℕ} (w : World) (call : Call) (bytes missing : List ℕ)
    → Spoken start v es (call_texts es) lines taken → Wrote v w bytes → bytes ++ missing ≡ call_text call
    → Spoken start w es (call_texts es ++ bytes) lines taken
spoke {start = start} {v = v} {es = es} {lines = lines} w call bytes missing was wrote front =
    let same : ins (was.added ++ map Out wrote.pieces) ≡ ins was.added = ins_written was.added wrote.pieces in
    let put : outs (map Out wrote.pieces) ≡ bytes = outs_of_outs wrote.pieces ∙ wrote.joined in
    record {
      added = was.added ++ map Out wrote.pieces;
      tape = adds_more start.tape v.tape w.tape was.added (map Out wrote.pieces) was.tape wrote.tape;
      rest = subst (λ (r : Option (List ℕ)). Takes start.rest r (ins (was.added ++ map Out wrote.pieces))) (sym wrote.rest) (subst (λ (xs : List ℕ). Takes start.rest v.rest xs) (sym same) was.rest);
      reads = omega (arith, was.reads, wrote.reads);
      writes = omega (arith, was.writes, wrote.writes);
      sent_is = outs-append was.added (map Out wrote.pieces) ∙ ap (λ xs. xs ++ outs (map Out wrote.pieces)) was.sent_is ∙ ap (λ xs. call_texts es ++ xs) put;
      taken_is = ap length same ∙ was.taken_is;
      heard = subst (λ (xs : List ℕ). Heard es lines.left lines.ended xs) (sym same) was.heard;
      closed = λ e. wrote.ended ∙ was.closed e;
      turns = turns_on es [] [] was.added (map Out wrote.pieces) was.turns
          (turns_outs es (ins was.added) lines.left lines.ended call (outs was.added) wrote.pieces missing was.heard
          (ap (λ xs. xs ++ (flat_map (λ p. p) wrote.pieces ++ missing)) was.sent_is ∙ ap (λ xs. call_texts es ++ xs) (ap (λ xs. xs ++ missing) wrote.joined ∙ front)));
      pieces = All-append IsShort was.added (map Out wrote.pieces) was.pieces (short_outs wrote.pieces);
    }

-- it was cut
pub spoke_cut : {start v : World} {es : List Exchange} {lines : Held} {taken : ℕ} (w : World) (call : Call)
    → Spoken start v es (call_texts es) lines taken → WroteCut v w (call_text call) → CutShort call start w es
spoke_cut {start = start} {v = v} {lines = lines} {taken = taken} w call was cut = record {
  cut = cut.sent;
  is_cut = cut.cut;
  stuck = record { lines = lines; taken = taken; spoken = spoke w call cut.sent cut.cut.0 was cut.wrote cut.cut.2 };
  cause = rose_since start.failed_writes v.failed_writes w.failed_writes was.writes cut.cause;
}

open_heard : (es : List Exchange) (left : List ℕ) (ended : Bool) (came : List ℕ) → Heard es left ended came → ended ≡ false → came ≡ answer_texts 0 es ++ left
open_heard es left ended came h still_open = elim h [ inl e ↦ e | inr f ↦ absurd (false≢true (sym still_open ∙ f.0)) ]

-- a piece was read
pub spoke_read : {start v : World} {es : List Exchange} {sent : List ℕ} {lines : Held} {taken : ℕ} (w : World) (after : Held) (piece : List ℕ)
    → Spoken start v es sent lines taken → lines.ended ≡ false → Adds v.tape w.tape (In piece ∷ []) → Takes v.rest w.rest piece → v.failed_reads ≤ w.failed_reads → w.failed_writes ≡ v.failed_writes
    → length piece ≤ 4096 → after.left ≡ lines.left ++ piece → after.ended ≡ lines.ended
    → Spoken start w es sent after (taken + length piece)
spoke_read {start = start} {v = v} {es = es} {lines = lines} w after piece was still_open tape rest reads writes few left ended =
    let read : ins (was.added ++ In piece ∷ []) ≡ ins was.added ++ piece = ins_read was.added piece in
    record {
      added = was.added ++ In piece ∷ [];
      tape = adds_more start.tape v.tape w.tape was.added (In piece ∷ []) was.tape tape;
      rest = subst (λ (xs : List ℕ). Takes start.rest w.rest xs) (sym read) (takes_more start.rest v.rest w.rest (ins was.added) piece was.rest rest);
      reads = omega (arith, was.reads, reads);
      writes = omega (arith, was.writes, writes);
      sent_is = outs_read was.added piece ∙ was.sent_is;
      taken_is = ap length read ∙ length-append (ins was.added) piece ∙ ap (λ k. k + length piece) was.taken_is;
      heard = inl (read ∙ ap (λ xs. xs ++ piece) (open_heard es lines.left lines.ended (ins was.added) was.heard still_open) ∙ append_assoc (answer_texts 0 es) lines.left piece ∙ ap (λ xs. answer_texts 0 es ++ xs) (sym left));
      closed = λ e. absurd (false≢true (sym (ended ∙ still_open) ∙ e));
      turns = turns_on es [] [] was.added (In piece ∷ []) was.turns tt;
      pieces = All-append IsShort was.added (In piece ∷ []) was.pieces (few, tt);
    }

-- a read gave nothing
pub spoke_none : {start v : World} {es : List Exchange} {sent : List ℕ} {lines : Held} {taken : ℕ} (w : World) (after : Held)
    → Spoken start v es sent lines taken → lines.ended ≡ false → Adds v.tape w.tape [] → Takes v.rest w.rest [] → v.failed_reads ≤ w.failed_reads → w.failed_writes ≡ v.failed_writes
    → after.left ≡ lines.left → (after.ended ≡ true → w.ended ≡ true)
    → Spoken start w es sent after taken
spoke_none {start = start} {v = v} {es = es} {lines = lines} w after was still_open tape rest reads writes left closed = record {
  added = was.added;
  tape = adds_more start.tape v.tape w.tape was.added [] was.tape tape ∙ ap (λ (xs : List Piece). option_map (λ ys. ys ++ xs) start.tape) (append-nil was.added);
  rest = subst (λ (xs : List ℕ). Takes start.rest w.rest xs) (append-nil (ins was.added)) (takes_more start.rest v.rest w.rest (ins was.added) [] was.rest rest);
  reads = omega (arith, was.reads, reads);
  writes = omega (arith, was.writes, writes);
  sent_is = was.sent_is;
  taken_is = was.taken_is;
  heard = inl (open_heard es lines.left lines.ended (ins was.added) was.heard still_open ∙ ap (λ xs. answer_texts 0 es ++ xs) (sym left));
  closed = closed;
  turns = was.turns;
  pieces = was.pieces;
}

-- what stands behind a line that was given
heard_line : (es : List Exchange) (call : Call) (answer : Reply) (line came : List ℕ) (old new : Held) → Heard es old.left old.ended came → GivesLine line old new → words_text (length es + 1) answer ≡ line → Heard (with_exchange es call answer) new.left new.ended came
heard_line es call answer line came old new heard gives told = of heard gives.line_is where
  whole : answer_texts 0 (with_exchange es call answer) ≡ answer_texts 0 es ++ (line ++ 10 ∷ [])
  whole = answers_more es call answer ∙ ap (λ xs. answer_texts 0 es ++ (xs ++ 10 ∷ [])) told

  split : line_at old.left ≡ Some (line, new.left) → old.left ≡ (line ++ 10 ∷ []) ++ new.left
  split at = (parts_of old.left (line, new.left) at).0 ∙ sym (append_assoc line (10 ∷ []) new.left)

  nothing : (o : Option (List ℕ × List ℕ)) → o ≡ None → o ≡ Some (line, new.left) → ⊥
  nothing o a b = let e = sym a ∙ b in cc

  of : Heard es old.left old.ended came → (line_at old.left ≡ Some (line, new.left)) ⊎ ((line_at old.left ≡ None) × (old.ended ≡ true) × (0 < length line) × (line ≡ old.left) × (new.left ≡ [])) → Heard (with_exchange es call answer) new.left new.ended came
  of (inl e) (inl at) = inl (e ∙ ap (λ xs. answer_texts 0 es ++ xs) (split at) ∙ sym (append_assoc (answer_texts 0 es) (line ++ 10 ∷ []) new.left) ∙ ap (λ xs. xs ++ new.left) (sym whole))
  of (inl e) (inr at) = inr (gives.ended ∙ at.1, at.4, ap (λ xs. xs ++ 10 ∷ []) (e ∙ ap (λ xs. answer_texts 0 es ++ xs) (sym at.3)) ∙ append_assoc (answer_texts 0 es) line (10 ∷ []) ∙ sym whole)
  of (inr h) (inl at) = absurd (nothing (line_at old.left) (ap line_at h.1) at)
  of (inr h) (inr at) = absurd (omega (arith, at.2, ap length (at.3 ∙ h.1)))

-- the line in front is the answer to the call that was sent
pub spoke_line : {start v : World} {es : List Exchange} {lines : Held} {taken : ℕ} (after : Held) (call : Call) (answer : Reply) (line : List ℕ)
    → Spoken start v es (call_texts es ++ call_text call) lines taken → GivesLine line lines after → words_text (length es + 1) answer ≡ line
    → Spoken start v (with_exchange es call answer) (call_texts (with_exchange es call answer)) after taken
spoke_line {es = es} {lines = lines} after call answer line was gives told = record {
  added = was.added;
  tape = was.tape;
  rest = was.rest;
  reads = was.reads;
  writes = was.writes;
  sent_is = was.sent_is ∙ sym (calls_more es call answer);
  taken_is = was.taken_is;
  heard = heard_line es call answer line (ins was.added) lines after was.heard gives told;
  closed = λ e. was.closed (sym gives.ended ∙ e);
  turns = turns_kept es (record { call = call; reply = answer } ∷ []) [] [] was.added was.turns;
  pieces = was.pieces;
}
