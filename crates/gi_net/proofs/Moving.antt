-- A session that goes on, step by step.
use Rattle.std.proofs.Common.{◌≡◌, ◌⊎◌, ℕ, ◌+◌, ◌≤◌, List, [], ◌∷◌, ◌++◌, length, map, Option, Some, None, option_map, option_to_list, Bool, false, refl, ap, sym, ◌∙◌, subst, append_assoc, arith, length-append}
use Rattle.std.proofs.lemmas.List.{append-nil, map-append, length-map}
use Rattle.std.proofs.lemmas.List.Elements.{filter-append}
use Rattle.gi_outside.specs.Link.{ins, outs}
use Rattle.gi_outside.specs.Told.{Adds, Takes}
use Rattle.gi_outside.specs.World.{World, Wrote}
use Rattle.gi_outside.specs.declared.link.Piece.{Piece}
use Rattle.gi_outside.specs.declared.link.Piece.TheVariants.{In, Out}
use Rattle.gi_outside.proofs.Tape.{ins-append, outs-append, outs_nil, ins_nil}
use Rattle.gi_outside.proofs.Writing.{adds_more, adds_none}
use Rattle.gi_model.specs.History.{Entry}
use Rattle.gi_model.specs.declared.calls.Call.{Call}
use Rattle.gi_model.specs.declared.calls.Call.TheVariants as call
use Rattle.gi_model.specs.declared.replies.Reply.{Reply}
use Rattle.gi_wire.specs.Gives.{GivesItem, SameAhead}
use Rattle.gi_wire.specs.Items.{alone, items, items_from}
use Rattle.gi_wire.specs.Limits.{most_line}
use Rattle.gi_wire.specs.Source.{Source, ahead, goes_on}
use Rattle.gi_wire.specs.declared.reader.Request.{Request}
use Rattle.gi_net.specs.Answers.{answers, call_in, calls, texts}
use Rattle.gi_net.specs.Calls.{BreaksOff}
use Rattle.gi_net.specs.Entries.{WorksForWaits, all_own_of, own_of, replies}
use Rattle.gi_net.specs.MidSession.{MidSession, SoFar}
use Rattle.gi_net.specs.Served.{IsShort}
use Rattle.gi_net.specs.Standing.{Standing}
use Rattle.gi_net.specs.Told.{TookAs, Took, entry_of}
use Rattle.gi_net.proofs.Works.{all_own_entry, own_entry, works_broken, works_taken}
use Rattle.gi_net.proofs.Answering.{All-append, calls-append, calls_of_entry, replies_fit}
use Rattle.gi_net.proofs.Prompting.{ins_of_outs, outs_of_outs, prompt_kept, prompt_on, prompt_outs, short_outs}

two_takes : (x y : List ℕ) (c : Option (List ℕ)) → option_map (λ xs. x ++ xs) (option_map (λ xs. y ++ xs) c) ≡ option_map (λ xs. (x ++ y) ++ xs) c
two_takes x y None = refl
two_takes x y (Some xs) = ap Some (sym (append_assoc x y xs))

takes_more : (a b c : Option (List ℕ)) (x y : List ℕ) → Takes a b x → Takes b c y → Takes a c (x ++ y)
takes_more a b c x y e f = e ∙ ap (option_map (λ xs. x ++ xs)) f ∙ two_takes x y c

takes_none : (a : Option (List ℕ)) → Takes a a []
takes_none None = refl
takes_none (Some xs) = refl

-- nothing has happened
pub begun : (w : World) (first : Standing) (s : Source) → ((ended : Bool) (more : List ℕ) → items ended more ≡ ahead s ended more) → MidSession w w first first s 0
unfolding answers
begun w first s same = record {
  done = [];
  own = [];
  so_far = record {
    added = [];
    entries = [];
    tape = adds_none w.tape;
    rest = subst (λ (xs : List ℕ). Takes w.rest w.rest xs) (sym ins_nil) (takes_none w.rest);
    reads = omega arith;
    writes = omega arith;
    number = refl;
    history = sym (append-nil first.history);
    left = omega arith;
    own_is = refl;
    works = tt;
    out_is = outs_nil;
    taken_is = ap length ins_nil;
    items_are = λ e more comes. ap (λ (xs : List ℕ). items e (xs ++ more)) ins_nil ∙ same e more;
    calls_are = refl;
    prompt = tt;
    pieces = tt;
  };
  quiet = tt;
}

-- bytes were written
pub wrote_on : {last : Type 0} {start v : World} {first h : Standing} {s : Source} {taken : ℕ} {done : List Request} {own : List Entry} {out : List ℕ} (w : World) (bytes : List ℕ)
    → SoFar last start v first h s taken done own out → Wrote v w bytes → SoFar last start w first h s taken done own (out ++ bytes)
wrote_on {start = start} {v = v} {own = own} {out = out} w bytes was wrote =
    let put : outs (map Out wrote.pieces) ≡ bytes = outs_of_outs wrote.pieces ∙ wrote.joined in
    let read : ins (was.added ++ map Out wrote.pieces) ≡ ins was.added = ins-append was.added (map Out wrote.pieces) ∙ ap (λ xs. ins was.added ++ xs) (ins_of_outs wrote.pieces) ∙ append-nil (ins was.added) in
    record {
      added = was.added ++ map Out wrote.pieces;
      entries = was.entries;
      tape = adds_more start.tape v.tape w.tape was.added (map Out wrote.pieces) was.tape wrote.tape;
      rest = subst (λ (r : Option (List ℕ)). Takes start.rest r (ins (was.added ++ map Out wrote.pieces))) (sym wrote.rest) (subst (λ (xs : List ℕ). Takes start.rest v.rest xs) (sym read) was.rest);
      reads = omega (arith, was.reads, wrote.reads);
      writes = omega (arith, was.writes, wrote.writes);
      number = was.number;
      history = was.history;
      left = was.left;
      own_is = was.own_is;
      works = was.works;
      out_is = outs-append was.added (map Out wrote.pieces) ∙ ap (λ xs. xs ++ outs (map Out wrote.pieces)) was.out_is ∙ ap (λ xs. out ++ xs) put;
      taken_is = ap length read ∙ was.taken_is;
      items_are = λ e more comes. ap (λ xs. items e (xs ++ more)) read ∙ was.items_are e more comes;
      calls_are = was.calls_are;
      prompt = prompt_on own [] [] was.added (map Out wrote.pieces) was.prompt (prompt_outs own (ins was.added) (outs was.added) wrote.pieces);
      pieces = All-append IsShort was.added (map Out wrote.pieces) was.pieces (short_outs wrote.pieces);
    }

pub wrote_on_added : {last : Type 0} {start v : World} {first h : Standing} {s : Source} {taken : ℕ} {done : List Request} {own : List Entry} {out : List ℕ} (w : World) (bytes : List ℕ)
    (was : SoFar last start v first h s taken done own out) (wrote : Wrote v w bytes) → (wrote_on w bytes was wrote).added ≡ was.added ++ map Out wrote.pieces
unfolding wrote_on
wrote_on_added w bytes was wrote = refl

-- the same entries, by the number that the caller has had from the first
took_first : {n m : ℕ} {r : Reply} {h k : Standing} (i : Request) → n ≡ m → TookAs n i.asked r h k → TookAs m i.asked r h k
took_first {r = r} {h = h} {k = k} i e took = subst (λ (n : ℕ). TookAs n i.asked r h k) e took

-- an item was answered by an entry, or by none
entered : {start v : World} {first h : Standing} {s : Source} {taken : ℕ} {done : List Request} {own : List Entry} {out : List ℕ} (k : Standing) (t : Source) (i : Request) (r : Reply)
    → SoFar ⊥ start v first h s taken done own out → GivesItem i s t → TookAs first.number i.asked r h k
    → SoFar ⊥ start v first k t taken (done ++ i ∷ []) (own ++ entry_of first.number i.asked r) out
entered {first = first} {h = h} {s = s} {done = done} {own = own} k t i r was gives took =
    let n : ℕ = first.number in
    let entry : List Entry = entry_of n i.asked r in
    let mine : all_own_of n (was.entries ++ (took.before ++ entry)) ≡ all_own_of n was.entries ++ (all_own_of n took.before ++ entry) =
    filter-append _ was.entries (took.before ++ entry) ∙ ap (λ xs. all_own_of n was.entries ++ xs) (filter-append _ took.before entry ∙ ap (λ xs. all_own_of n took.before ++ xs) (all_own_entry n i.asked r)) in
    record {
      added = was.added;
      entries = was.entries ++ (took.before ++ entry);
      tape = was.tape;
      rest = was.rest;
      reads = was.reads;
      writes = was.writes;
      number = took.number ∙ was.number;
      history = took.history ∙ ap (λ xs. xs ++ (took.before ++ entry)) was.history ∙ append_assoc first.history was.entries (took.before ++ entry);
      left = omega (arith, was.left, took.left, ap length mine, length-append (all_own_of n was.entries) (all_own_of n took.before ++ entry), length-append (all_own_of n took.before) entry);
      own_is = filter-append _ was.entries (took.before ++ entry) ∙ ap (λ xs. xs ++ own_of n (took.before ++ entry)) was.own_is
          ∙ ap (λ xs. own ++ xs) (filter-append _ took.before entry ∙ ap (λ xs. xs ++ own_of n entry) took.no_call ∙ own_entry n i.asked r took.may_be);
      works = subst (λ (xs : List Entry). WorksForWaits ⊥ xs) (sym mine) (works_taken n i.asked r (all_own_of n was.entries) took.before was.works took.may_be took.no_call took.waits);
      out_is = was.out_is;
      taken_is = was.taken_is;
      items_are = λ e more comes. was.items_are e more (λ x. comes (gives.ended ∙ x)) ∙ ap (λ xs. done ++ xs) (gives.ahead_is e more (λ x. comes (gives.ended ∙ x))) ∙ sym (append_assoc done (i ∷ []) (ahead t e more));
      calls_are = map-append (λ (e : Entry). e.call) own entry ∙ ap (λ xs. xs ++ map (λ (e : Entry). e.call) entry) was.calls_are
          ∙ ap (λ xs. calls done ++ xs) (calls_of_entry n i.asked r ∙ sym (append-nil (option_to_list (call_in i.asked)))) ∙ sym (calls-append done (i ∷ []));
      prompt = prompt_kept own entry [] [] was.added was.prompt;
      pieces = was.pieces;
    }

-- an item was answered, and these bytes were written
pub answered : {start v : World} {first h : Standing} {s : Source} {taken : ℕ} {done : List Request} {own : List Entry} {out : List ℕ} (w : World) (k : Standing) (t : Source) (i : Request) (r : Reply) (bytes : List ℕ)
    → SoFar ⊥ start v first h s taken done own out → GivesItem i s t → Took i.asked r h k → Wrote v w bytes
    → SoFar ⊥ start w first k t taken (done ++ i ∷ []) (own ++ entry_of first.number i.asked r) (out ++ bytes)
answered w k t i r bytes was gives took wrote = wrote_on w bytes (entered k t i r was gives (took_first i was.number took)) wrote

-- a call has no entry
pub broke_off : {start v : World} {first h : Standing} {s : Source} {taken : ℕ} {done : List Request} {own : List Entry} {out : List ℕ} (k : Standing) (what : Call)
    → SoFar ⊥ start v first h s taken done own out → BreaksOff what h k
    → SoFar (what ≡ call.Wait) start v first k s taken done own out
broke_off {first = first} {own = own} k what was breaks =
    let n : ℕ = first.number in
    let none : own_of n breaks.before ≡ [] = subst (λ (m : ℕ). own_of m breaks.before ≡ []) was.number breaks.comes_before.no_call in
    let waits : (all_own_of n breaks.before ≡ []) ⊎ (what ≡ call.Wait) = subst (λ (m : ℕ). (all_own_of m breaks.before ≡ []) ⊎ (what ≡ call.Wait)) was.number breaks.comes_before.waits in
    let mine : all_own_of n (was.entries ++ breaks.before) ≡ all_own_of n was.entries ++ all_own_of n breaks.before = filter-append _ was.entries breaks.before in
    record {
      added = was.added;
      entries = was.entries ++ breaks.before;
      tape = was.tape;
      rest = was.rest;
      reads = was.reads;
      writes = was.writes;
      number = breaks.number ∙ was.number;
      history = breaks.history ∙ ap (λ xs. xs ++ breaks.before) was.history ∙ append_assoc first.history was.entries breaks.before;
      left = omega (arith, was.left, breaks.left, ap (λ (m : ℕ). length (all_own_of m breaks.before)) was.number, ap length mine, length-append (all_own_of n was.entries) (all_own_of n breaks.before));
      own_is = filter-append _ was.entries breaks.before ∙ ap (λ xs. xs ++ own_of n breaks.before) was.own_is ∙ ap (λ xs. own ++ xs) none ∙ append-nil own;
      works = subst (λ (xs : List Entry). WorksForWaits (what ≡ call.Wait) xs) (sym mine) (works_broken n (what ≡ call.Wait) (all_own_of n was.entries) breaks.before was.works none waits);
      out_is = was.out_is;
      taken_is = was.taken_is;
      items_are = was.items_are;
      calls_are = was.calls_are;
      prompt = was.prompt;
      pieces = was.pieces;
    }

one_in : (piece : List ℕ) → ins (In piece ∷ []) ≡ piece
unfolding ins
one_in piece = append-nil piece

none_out : (piece : List ℕ) → outs (In piece ∷ []) ≡ []
unfolding outs
none_out piece = refl

-- a piece more was read
pub has_read : {start v : World} {first h : Standing} {s : Source} {taken : ℕ} (w : World) (t : Source) (piece : List ℕ)
    → MidSession start v first h s taken → ahead s false [] ≡ [] → s.lines.ended ≡ false
    → Adds v.tape w.tape (In piece ∷ []) → Takes v.rest w.rest piece → v.failed_reads ≤ w.failed_reads → w.failed_writes ≡ v.failed_writes
    → ((ended : Bool) (more : List ℕ) → ahead t ended more ≡ ahead s ended (piece ++ more)) → length piece ≤ 4096
    → MidSession start w first h t (taken + length piece)
has_read {start = start} {v = v} {s = s} {taken = taken} w t piece going none going_on tape rest reads writes fed few =
    let was = going.so_far in
    let read : ins (was.added ++ In piece ∷ []) ≡ ins was.added ++ piece = ins-append was.added (In piece ∷ []) ∙ ap (λ xs. ins was.added ++ xs) (one_in piece) in
    let all_done : items false (ins was.added) ≡ going.done =
    ap (items false) (sym (append-nil (ins was.added))) ∙ was.items_are false [] (λ x. (let no = sym going_on ∙ x in cc)) ∙ ap (λ xs. going.done ++ xs) none ∙ append-nil going.done in
    record {
      done = going.done;
      own = going.own;
      so_far = record {
        added = was.added ++ In piece ∷ [];
        entries = was.entries;
        tape = adds_more start.tape v.tape w.tape was.added (In piece ∷ []) was.tape tape;
        rest = subst (λ (xs : List ℕ). Takes start.rest w.rest xs) (sym read) (takes_more start.rest v.rest w.rest (ins was.added) piece was.rest rest);
        reads = omega (arith, was.reads, reads);
        writes = omega (arith, was.writes, writes);
        number = was.number;
        history = was.history;
        left = was.left;
        own_is = was.own_is;
        works = was.works;
        out_is = outs-append was.added (In piece ∷ []) ∙ ap (λ xs. outs was.added ++ xs) (none_out piece) ∙ append-nil (outs was.added) ∙ was.out_is;
        taken_is = ap length read ∙ length-append (ins was.added) piece ∙ ap (λ k. k + length piece) was.taken_is;
        items_are = λ e more comes. ap (λ xs. items e (xs ++ more)) read ∙ ap (items e) (append_assoc (ins was.added) piece more)
            ∙ was.items_are e (piece ++ more) (λ x. (let no = sym going_on ∙ x in cc)) ∙ ap (λ xs. going.done ++ xs) (sym (fed e more));
        calls_are = was.calls_are;
        prompt = prompt_on going.own [] [] was.added (In piece ∷ []) was.prompt
            ((rw all_done (omega (arith, replies_fit going.done going.own was.calls_are, length-map going.own (λ (e : Entry). e.reply))), was.out_is ∙ ap (λ xs. texts (answers xs (replies going.own))) (sym all_done), rw all_done going.quiet), tt);
        pieces = All-append IsShort was.added (In piece ∷ []) was.pieces (few, tt);
      };
      quiet = going.quiet;
    }

pub has_read_added : {start v : World} {first h : Standing} {s : Source} {taken : ℕ} (w : World) (t : Source) (piece : List ℕ)
    (going : MidSession start v first h s taken) (none : ahead s false [] ≡ []) (going_on : s.lines.ended ≡ false)
    (tape : Adds v.tape w.tape (In piece ∷ [])) (rest : Takes v.rest w.rest piece) (reads : v.failed_reads ≤ w.failed_reads) (writes : w.failed_writes ≡ v.failed_writes)
    (fed : (ended : Bool) (more : List ℕ) → ahead t ended more ≡ ahead s ended (piece ++ more)) (few : length piece ≤ 4096)
    → (has_read w t piece going none going_on tape rest reads writes fed few).so_far.added ≡ going.so_far.added ++ In piece ∷ []
unfolding has_read
has_read_added w t piece going none going_on tape rest reads writes fed few = refl

-- a read gave nothing
pub has_ended : {start v : World} {first h : Standing} {s : Source} {taken : ℕ} (w : World) (t : Source)
    → MidSession start v first h s taken → s.lines.ended ≡ false
    → Adds v.tape w.tape [] → Takes v.rest w.rest [] → v.failed_reads ≤ w.failed_reads → w.failed_writes ≡ v.failed_writes
    → ((ended : Bool) (more : List ℕ) → ahead t ended more ≡ ahead s ended more)
    → MidSession start w first h t taken
has_ended {start = start} {v = v} w t going going_on tape rest reads writes same =
    let was = going.so_far in
    record {
      done = going.done;
      own = going.own;
      so_far = record {
        added = was.added;
        entries = was.entries;
        tape = adds_more start.tape v.tape w.tape was.added [] was.tape tape ∙ ap (λ (xs : List Piece). option_map (λ ys. ys ++ xs) start.tape) (append-nil was.added);
        rest = subst (λ (xs : List ℕ). Takes start.rest w.rest xs) (append-nil (ins was.added)) (takes_more start.rest v.rest w.rest (ins was.added) [] was.rest rest);
        reads = omega (arith, was.reads, reads);
        writes = omega (arith, was.writes, writes);
        number = was.number;
        history = was.history;
        left = was.left;
        own_is = was.own_is;
        works = was.works;
        out_is = was.out_is;
        taken_is = was.taken_is;
        items_are = λ e more comes. was.items_are e more (λ x. (let no = sym going_on ∙ x in cc)) ∙ ap (λ xs. going.done ++ xs) (sym (same e more));
        calls_are = was.calls_are;
        prompt = was.prompt;
        pieces = was.pieces;
      };
      quiet = going.quiet;
    }

-- the reader has let go of bytes that make no difference
pub same_goes : {start w : World} {first h : Standing} {s : Source} {taken : ℕ} (t : Source) → MidSession start w first h s taken → SameAhead s t → t.lines.ended ≡ s.lines.ended → MidSession start w first h t taken
same_goes t going same ended =
    let was = going.so_far in
    record {
      done = going.done;
      own = going.own;
      so_far = record {
        added = was.added;
        entries = was.entries;
        tape = was.tape;
        rest = was.rest;
        reads = was.reads;
        writes = was.writes;
        number = was.number;
        history = was.history;
        left = was.left;
        own_is = was.own_is;
        works = was.works;
        out_is = was.out_is;
        taken_is = was.taken_is;
        items_are = λ e more comes. was.items_are e more (λ x. comes (ended ∙ x)) ∙ ap (λ xs. going.done ++ xs) (sym (same.each e more (λ x. comes (ended ∙ x))));
        calls_are = was.calls_are;
        prompt = was.prompt;
        pieces = was.pieces;
      };
      quiet = going.quiet;
    }

-- nothing was fed yet
abbrev pub opening : Source
opening = record { lines = record { left = []; ended = false; long = false; most = most_line }; line = 1; joined = alone 1; load = None }

pub opening_ahead : (ended : Bool) (more : List ℕ) → items ended more ≡ ahead opening ended more
unfolding ahead
opening_ahead ended more = refl

pub opening_none : ahead opening false [] ≡ []
unfolding ahead items_from
opening_none = refl

-- a piece that could not be fed is ahead of such a reader
abbrev pub with_piece : Source → List ℕ → Source
with_piece s piece = record s { lines = record s.lines { left = s.lines.left ++ piece } }

pub with_piece_ahead : (s : Source) (piece : List ℕ) (ended : Bool) (more : List ℕ) → ahead (with_piece s piece) ended more ≡ ahead s ended (piece ++ more)
unfolding ahead
with_piece_ahead s piece ended more = ap (λ xs. goes_on s.load s.joined s.line (λ j p. items_from ended j p xs)) (append_assoc s.lines.left piece more)
