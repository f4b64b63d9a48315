-- The user's side, step by step.
use Rattle.std.proofs.Common.{◌≡◌, ℕ, ◌+◌, ◌≤◌, Bool, false, List, [], ◌∷◌, ◌++◌, length, map, Option, option_map, ap, sym, ◌∙◌, subst, append_assoc, arith, length-append}
use Rattle.std.proofs.lemmas.List.{append-nil}
use Rattle.gi_outside.specs.Link.{ins, outs}
use Rattle.gi_outside.specs.Told.{Adds, Takes}
use Rattle.gi_outside.specs.World.{World, Wrote}
use Rattle.gi_outside.specs.declared.link.Piece.{Piece}
use Rattle.gi_outside.specs.declared.link.Piece.TheVariants.{In, Out}
use Rattle.gi_outside.proofs.Tape.{ins_nil, outs-append, outs_nil}
use Rattle.gi_outside.proofs.Writing.{adds_more, adds_none}
use Rattle.gi_wire.specs.Gives.{GivesItem, SameAhead}
use Rattle.gi_wire.specs.Items.{items}
use Rattle.gi_wire.specs.Source.{Source, ahead}
use Rattle.gi_wire.specs.declared.reader.Request.{Request}
use Rattle.gi_net.specs.Served.{IsShort}
use Rattle.gi_net.proofs.Answering.{All-append}
use Rattle.gi_net.proofs.Prompting.{outs_of_outs, short_outs}
use Rattle.gi_call.specs.MidCall.{Typed}
use Rattle.gi_call.proofs.Speaking.{ins_read, ins_written, outs_read, takes_more, takes_none}

-- nothing was read
pub typed_none : (w : World) (s : Source) → ((ended : Bool) (more : List ℕ) → items ended more ≡ ahead s ended more) → Typed w w s 0 [] []
typed_none w s same = record {
  added = [];
  tape = adds_none w.tape;
  rest = subst (λ (xs : List ℕ). Takes w.rest w.rest xs) (sym ins_nil) (takes_none w.rest);
  reads = omega arith;
  writes = omega arith;
  printed_is = outs_nil;
  taken_is = ap length ins_nil;
  items_are = λ e more comes. ap (λ (xs : List ℕ). items e (xs ++ more)) ins_nil ∙ same e more;
  pieces = tt;
}

-- bytes were printed
pub typed_wrote : {start v : World} {s : Source} {taken : ℕ} {done : List Request} {out : List ℕ} (w : World) (bytes : List ℕ)
    → Typed start v s taken done out → Wrote v w bytes → Typed start w s taken done (out ++ bytes)
typed_wrote {start = start} {v = v} {out = out} w bytes was wrote =
    let same : ins (was.added ++ map Out wrote.pieces) ≡ ins was.added = ins_written was.added wrote.pieces in
    let put : outs (map Out wrote.pieces) ≡ bytes = outs_of_outs wrote.pieces ∙ wrote.joined in
    record {
      added = was.added ++ map Out wrote.pieces;
      tape = adds_more start.tape v.tape w.tape was.added (map Out wrote.pieces) was.tape wrote.tape;
      rest = subst (λ (r : Option (List ℕ)). Takes start.rest r (ins (was.added ++ map Out wrote.pieces))) (sym wrote.rest) (subst (λ (xs : List ℕ). Takes start.rest v.rest xs) (sym same) was.rest);
      reads = omega (arith, was.reads, wrote.reads);
      writes = omega (arith, was.writes, wrote.writes);
      printed_is = outs-append was.added (map Out wrote.pieces) ∙ ap (λ xs. xs ++ outs (map Out wrote.pieces)) was.printed_is ∙ ap (λ xs. out ++ xs) put;
      taken_is = ap length same ∙ was.taken_is;
      items_are = λ e more comes. ap (λ xs. items e (xs ++ more)) same ∙ was.items_are e more comes;
      pieces = All-append IsShort was.added (map Out wrote.pieces) was.pieces (short_outs wrote.pieces);
    }

-- an item was given
pub typed_item : {start v : World} {s : Source} {taken : ℕ} {done : List Request} {out : List ℕ} (t : Source) (i : Request)
    → Typed start v s taken done out → GivesItem i s t → Typed start v t taken (done ++ i ∷ []) out
typed_item {done = done} t i was gives = record {
  added = was.added;
  tape = was.tape;
  rest = was.rest;
  reads = was.reads;
  writes = was.writes;
  printed_is = was.printed_is;
  taken_is = was.taken_is;
  items_are = λ e more comes. was.items_are e more (λ x. comes (gives.ended ∙ x)) ∙ ap (λ xs. done ++ xs) (gives.ahead_is e more (λ x. comes (gives.ended ∙ x))) ∙ sym (append_assoc done (i ∷ []) (ahead t e more));
  pieces = was.pieces;
}

-- a piece was read
pub typed_read : {start v : World} {s : Source} {taken : ℕ} {done : List Request} {out : List ℕ} (w : World) (t : Source) (piece : List ℕ)
    → Typed start v s taken done out → s.lines.ended ≡ false
    → Adds v.tape w.tape (In piece ∷ []) → Takes v.rest w.rest piece → v.failed_reads ≤ w.failed_reads → w.failed_writes ≡ v.failed_writes
    → ((ended : Bool) (more : List ℕ) → ahead t ended more ≡ ahead s ended (piece ++ more)) → length piece ≤ 4096
    → Typed start w t (taken + length piece) done out
typed_read {start = start} {v = v} {s = s} {done = done} w t piece was going_on tape rest reads writes fed few =
    let read : ins (was.added ++ In piece ∷ []) ≡ ins was.added ++ piece = ins_read was.added piece in
    record {
      added = was.added ++ In piece ∷ [];
      tape = adds_more start.tape v.tape w.tape was.added (In piece ∷ []) was.tape tape;
      rest = subst (λ (xs : List ℕ). Takes start.rest w.rest xs) (sym read) (takes_more start.rest v.rest w.rest (ins was.added) piece was.rest rest);
      reads = omega (arith, was.reads, reads);
      writes = omega (arith, was.writes, writes);
      printed_is = outs_read was.added piece ∙ was.printed_is;
      taken_is = ap length read ∙ length-append (ins was.added) piece ∙ ap (λ k. k + length piece) was.taken_is;
      items_are = λ e more comes. ap (λ xs. items e (xs ++ more)) read ∙ ap (items e) (append_assoc (ins was.added) piece more)
          ∙ was.items_are e (piece ++ more) (λ x. (let no = sym going_on ∙ x in cc)) ∙ ap (λ xs. done ++ xs) (sym (fed e more));
      pieces = All-append IsShort was.added (In piece ∷ []) was.pieces (few, tt);
    }

-- a read gave nothing
pub typed_ended : {start v : World} {s : Source} {taken : ℕ} {done : List Request} {out : List ℕ} (w : World) (t : Source)
    → Typed start v s taken done out → s.lines.ended ≡ false
    → Adds v.tape w.tape [] → Takes v.rest w.rest [] → v.failed_reads ≤ w.failed_reads → w.failed_writes ≡ v.failed_writes
    → ((ended : Bool) (more : List ℕ) → ahead t ended more ≡ ahead s ended more)
    → Typed start w t taken done out
typed_ended {start = start} {v = v} {done = done} w t was going_on tape rest reads writes same = record {
  added = was.added;
  tape = adds_more start.tape v.tape w.tape was.added [] was.tape tape ∙ ap (λ (xs : List Piece). option_map (λ ys. ys ++ xs) start.tape) (append-nil was.added);
  rest = subst (λ (xs : List ℕ). Takes start.rest w.rest xs) (append-nil (ins was.added)) (takes_more start.rest v.rest w.rest (ins was.added) [] was.rest rest);
  reads = omega (arith, was.reads, reads);
  writes = omega (arith, was.writes, writes);
  printed_is = was.printed_is;
  taken_is = was.taken_is;
  items_are = λ e more comes. was.items_are e more (λ x. (let no = sym going_on ∙ x in cc)) ∙ ap (λ xs. done ++ xs) (sym (same e more));
  pieces = was.pieces;
}

-- the reader has let go of bytes that make no difference
pub typed_same : {start w : World} {s : Source} {taken : ℕ} {done : List Request} {out : List ℕ} (t : Source) → Typed start w s taken done out → SameAhead s t → t.lines.ended ≡ s.lines.ended → Typed start w t taken done out
typed_same {done = done} t was same ended = record {
  added = was.added;
  tape = was.tape;
  rest = was.rest;
  reads = was.reads;
  writes = was.writes;
  printed_is = was.printed_is;
  taken_is = was.taken_is;
  items_are = λ e more comes. was.items_are e more (λ x. comes (ended ∙ x)) ∙ ap (λ xs. done ++ xs) (sym (same.each e more (λ x. comes (ended ∙ x))));
  pieces = was.pieces;
}
