-- Texts of answers are read back.
use Rattle.std.proofs.Common.{◌≡◌, ◌≢◌, ℕ, zero, suc, ◌≤◌, Option, Some, None, option_map, List, [], ◌∷◌, ◌++◌, codes, decimal, refl, ap, sym, ◌∙◌, append_assoc, arith, pos}
use Rattle.std.specs.List.{All, AllByRecursion}
use Rattle.std.specs.Fmt.{signed_decimal}
use Rattle.std.proofs.lemmas.List.{append-nil}
use Rattle.std.proofs.lemmas.List.Elements.{recursion_from_All}
use Rattle.gi_dimacs.specs.declared.fault.CnfCode.TheVariants.{Header, Word, Number, Limit, Unterminated}
use Rattle.gi_lit.specs.Literals.{IsLiteral, max_var, number_of}
use Rattle.gi_model.specs.Number.{refusal_number}
use Rattle.gi_model.specs.declared.refusal.PayloadCode.{PayloadCode}
use Rattle.gi_model.specs.declared.refusal.PayloadCode.TheVariants.{Cnf}
use Rattle.gi_model.specs.declared.refusal.Refusal.{Refusal}
use Rattle.gi_model.specs.declared.refusal.Refusal.TheVariants as refusal
use Rattle.gi_model.specs.declared.replies.Reply.{Reply}
use Rattle.gi_model.specs.declared.replies.Reply.TheVariants as reply
use Rattle.gi_model.specs.declared.replies.Status.{Status}
use Rattle.gi_model.specs.declared.replies.Status.TheVariants as status
use Rattle.gi_model.specs.declared.replies.Why.TheVariants as why
use Rattle.gi_wire.specs.Answers.{code_of, counts_by, failed_by, literals_of, natural, natural_32, natural_64, payload_at, payload_by, payload_of, plain_by, plain_refusal, refusal_of, refused_by, reply_alone, reply_of, reply_of_two, reply_with, status_by, told_of}
use Rattle.gi_wire.specs.Fields.{fields_from, fields_of}
use Rattle.gi_wire.specs.Grammar.{led_by}
use Rattle.gi_wire.specs.Limits.{most_u32, most_u64}
use Rattle.gi_wire.specs.Literals.{list_text}
use Rattle.gi_wire.specs.ReplyRead.{IsTold, TextsDiffer}
use Rattle.gi_wire.specs.Text.{code_text, details_text, gate_text, status_text, words_text}
use Rattle.gi_wire.proofs.FieldCuts.{field_last, field_space}
use Rattle.gi_wire.proofs.Spelled.{literal_some, natural_some, not_zero, number_few, other_bytes, signed_apart, some_of}
use Rattle.gi_wire.proofs.Telling.{gate_some, list_first, payload_text}

abbrev answer : ℕ → Reply → Option (ℕ × Reply)
answer line r = let p : ℕ × Reply = (line, r) in Some p

abbrev told_by : Option Reply → Option (ℕ × Reply)
told_by o = option_map (λ r. (0, r)) o

at_zero : (line : ℕ) (r : Reply) → line ≡ 0 → answer 0 r ≡ answer line r
at_zero line r first = ap (λ (k : ℕ). answer k r) (sym first)

decimal_last : (n : ℕ) → n ≤ most_u64 → fields_of (decimal n) ≡ decimal n ∷ []
decimal_last n few = field_last (decimal n) (signed_apart (pos n) few)

decimal_space : (n : ℕ) (rest : List ℕ) → n ≤ most_u64 → fields_of (decimal n ++ 32 ∷ rest) ≡ decimal n ∷ fields_of rest
decimal_space n rest few = field_space (decimal n) rest (signed_apart (pos n) few)

-- a name and a number
back_one : (name : List ℕ) (f : ℕ → Reply) (least most n line : ℕ) → line ≡ 0 → least ≤ n → n ≤ most → n ≤ most_u64 → told_of (name ∷ decimal n ∷ []) ≡ told_by (option_map f (natural least most (decimal n)))
    → told_of (name ∷ fields_of (decimal n)) ≡ answer line (f n)
back_one name f least most n line first low high few reads =
    ap (λ (fs : List (List ℕ)). told_of (name ∷ fs)) (decimal_last n few) ∙ reads ∙ ap (λ (o : Option ℕ). told_by (option_map f o)) (natural_some least most n low high few) ∙ at_zero line (f n) first

-- lists of literals
list_fields : List ℕ → List (List ℕ)
list_fields [] = (48 ∷ []) ∷ []
list_fields (l ∷ ls) = signed_decimal (number_of l) ∷ list_fields ls

fields_list : (ls : List ℕ) → AllByRecursion IsLiteral ls → fields_of (list_text ls) ≡ list_fields ls
unfolding list_fields fields_from
fields_list [] h = refl
fields_list (l ∷ ls) h = ap fields_of (list_first l ls) ∙ field_space (signed_decimal (number_of l)) (list_text ls) (signed_apart (number_of l) (number_few l h.0)) ∙ ap (λ (fs : List (List ℕ)). signed_decimal (number_of l) ∷ fs) (fields_list ls h.1)

list_back : (ls : List ℕ) → AllByRecursion IsLiteral ls → literals_of (list_fields ls) ≡ Some ls
unfolding list_fields literals_of
list_back [] h = refl
list_back (l ∷ ls) h = rw (other_bytes (signed_decimal (number_of l)) (codes "0") (not_zero l h.0)) (ap (λ (o : Option ℕ). led_by o (literals_of (list_fields ls))) (literal_some l h.0) ∙ ap (λ (o : Option (List ℕ)). led_by (Some l) o) (list_back ls h.1))

literals_back : (ls : List ℕ) → All IsLiteral ls → literals_of (fields_of (list_text ls)) ≡ Some ls
literals_back ls all = let h = recursion_from_All IsLiteral ls all in ap literals_of (fields_list ls h) ∙ list_back ls h

back_list : (name : List ℕ) (f : List ℕ → Reply) (ls : List ℕ) (line : ℕ) → line ≡ 0 → All IsLiteral ls → told_of (name ∷ fields_of (list_text ls)) ≡ told_by (option_map f (literals_of (fields_of (list_text ls))))
    → told_of (name ∷ fields_of (list_text ls)) ≡ answer line (f ls)
back_list name f ls line first all reads = reads ∙ ap (λ (o : Option (List ℕ)). told_by (option_map f o)) (literals_back ls all) ∙ at_zero line (f ls) first

-- a name, a serial and another number
back_two : (name : List ℕ) (f : ℕ → Status) (s n line : ℕ) → line ≡ 0 → s ≤ most_u64 → n ≤ most_u32 → told_of (name ∷ decimal s ∷ decimal n ∷ []) ≡ told_by (status_by (natural_64 (decimal s)) (option_map f (natural_32 (decimal n))))
    → told_of (name ∷ fields_of (decimal s ++ 32 ∷ decimal n)) ≡ answer line (reply.Status s (f n))
back_two name f s n line first small few reads =
    ap (λ (fs : List (List ℕ)). told_of (name ∷ fs)) (decimal_space s (decimal n) small ∙ ap (λ (fs : List (List ℕ)). decimal s ∷ fs) (decimal_last n (omega arith))) ∙ reads
    ∙ ap (λ (o : Option ℕ). told_by (status_by o (option_map f (natural_32 (decimal n))))) (natural_some 0 most_u64 s (omega arith) small small)
    ∙ ap (λ (o : Option ℕ). told_by (status_by (Some s) (option_map f o))) (natural_some 0 most_u32 n (omega arith) few (omega arith)) ∙ at_zero line (reply.Status s (f n)) first

back_unknown : (word : List ℕ) (how : Status) (s line : ℕ) → line ≡ 0 → s ≤ most_u64 → fields_of word ≡ word ∷ [] → told_of (codes "unknown" ∷ decimal s ∷ word ∷ []) ≡ told_by (status_by (natural_64 (decimal s)) (Some how))
    → told_of (codes "unknown" ∷ fields_of (decimal s ++ 32 ∷ word)) ≡ answer line (reply.Status s how)
back_unknown word how s line first small alone reads =
    ap (λ (fs : List (List ℕ)). told_of (codes "unknown" ∷ fs)) (decimal_space s word small ∙ ap (λ (fs : List (List ℕ)). decimal s ∷ fs) alone) ∙ reads
    ∙ ap (λ (o : Option ℕ). told_by (status_by o (Some how))) (natural_some 0 most_u64 s (omega arith) small small) ∙ at_zero line (reply.Status s how) first

failed_alone : (o : Option ℕ) → told_by (failed_by o []) ≡ told_by (option_map (λ (k : ℕ). reply.Status k status.Unsat) o)
failed_alone None = refl
failed_alone (Some k) = refl

back_status : (line s : ℕ) (how : Status) → IsTold line (reply.Status s how) → told_of (fields_of (words_text line (reply.Status s how))) ≡ answer line (reply.Status s how)
unfolding told_of reply_of reply_with reply_of_two words_text status_text fields_from
back_status line s (status.Running n) h = back_two (codes "running") status.Running s n line h.0 h.1 h.2 refl
back_status line s (status.Paused n) h = back_two (codes "paused") status.Paused s n line h.0 h.1 h.2 refl
back_status line s status.Sat h = back_one (codes "sat") (λ (k : ℕ). reply.Status k status.Sat) 0 most_u64 s line h.0 (omega arith) h.1 h.1 refl
back_status line s status.Unsat h = back_one (codes "unsat") (λ (k : ℕ). reply.Status k status.Unsat) 0 most_u64 s line h.0 (omega arith) h.1 h.1 (failed_alone (natural_64 (decimal s)))
back_status line s (status.Unknown why.Budget) h = back_unknown (codes "budget") (status.Unknown why.Budget) s line h.0 h.1 refl refl
back_status line s (status.Unknown why.Stopped) h = back_unknown (codes "stopped") (status.Unknown why.Stopped) s line h.0 h.1 refl refl

-- a failed solve with its assumptions
some_fields : (ls : List ℕ) → (f : List ℕ) × (fs : List (List ℕ)) × (list_fields ls ≡ f ∷ fs)
unfolding list_fields
some_fields [] = (48 ∷ [], [], refl)
some_fields (l ∷ ls) = (signed_decimal (number_of l), list_fields ls, refl)

failed_more : (s : ℕ) (f : List ℕ) (fs all : List (List ℕ)) → all ≡ f ∷ fs → failed_by (Some s) all ≡ option_map (reply.Unsat s) (literals_of all)
failed_more s f fs all is = ap (failed_by (Some s)) is ∙ ap (λ (gs : List (List ℕ)). option_map (reply.Unsat s) (literals_of gs)) (sym is)

back_unsat : (line s : ℕ) (ls : List ℕ) → line ≡ 0 → s ≤ most_u64 → All IsLiteral ls → told_of (codes "unsat" ∷ fields_of (decimal s ++ 32 ∷ list_text ls)) ≡ answer line (reply.Unsat s ls)
unfolding told_of reply_of
back_unsat line s ls first small all =
    let h = recursion_from_All IsLiteral ls all in
    let some = some_fields ls in
    ap (λ (fs : List (List ℕ)). told_of (codes "unsat" ∷ fs)) (decimal_space s (list_text ls) small ∙ ap (λ (fs : List (List ℕ)). decimal s ∷ fs) (fields_list ls h))
    ∙ ap (λ (o : Option ℕ). told_by (failed_by o (list_fields ls))) (natural_some 0 most_u64 s (omega arith) small small)
    ∙ ap told_by (failed_more s some.0 some.1 (list_fields ls) some.2 ∙ ap (λ (o : Option (List ℕ)). option_map (reply.Unsat s) o) (list_back ls h)) ∙ at_zero line (reply.Unsat s ls) first

back_loaded : (line v c : ℕ) → line ≡ 0 → v ≤ most_u32 → c ≤ most_u32 → told_of (codes "loaded" ∷ codes "cnf" ∷ fields_of (decimal v ++ 32 ∷ decimal c)) ≡ answer line (reply.LoadedCnf v c)
unfolding told_of reply_of
back_loaded line v c first few short =
    ap (λ (fs : List (List ℕ)). told_of (codes "loaded" ∷ codes "cnf" ∷ fs)) (decimal_space v (decimal c) (omega arith) ∙ ap (λ (fs : List (List ℕ)). decimal v ∷ fs) (decimal_last c (omega arith)))
    ∙ ap (λ (o : Option ℕ). told_by (counts_by o (natural_32 (decimal c)))) (natural_some 0 most_u32 v (omega arith) few (omega arith))
    ∙ ap (λ (o : Option ℕ). told_by (counts_by (Some v) o)) (natural_some 0 most_u32 c (omega arith) short (omega arith)) ∙ at_zero line (reply.LoadedCnf v c) first

-- refusals
refused_text : (line : ℕ) (r : Refusal) → words_text line (reply.Refused r) ≡ codes "refused" ++ 32 ∷ (decimal line ++ 32 ∷ (decimal (refusal_number r) ++ details_text r))
unfolding words_text
refused_text line r = ap (λ (t : List ℕ). codes "refused" ++ 32 ∷ t) (append_assoc (decimal line) (32 ∷ decimal (refusal_number r)) (details_text r))

refused_fields : (line : ℕ) (r : Refusal) → line ≤ most_u64 → fields_of (words_text line (reply.Refused r)) ≡ codes "refused" ∷ decimal line ∷ fields_of (decimal (refusal_number r) ++ details_text r)
unfolding fields_from
refused_fields line r small = ap fields_of (refused_text line r) ∙ ap (λ (fs : List (List ℕ)). codes "refused" ∷ fs) (decimal_space line (decimal (refusal_number r) ++ details_text r) small)

back_refused : (line : ℕ) (r : Refusal) (number : List ℕ) (fields : List (List ℕ)) → line ≤ most_u64 → fields_of (decimal (refusal_number r) ++ details_text r) ≡ number ∷ fields → refusal_of number fields ≡ Some r
    → told_of (fields_of (words_text line (reply.Refused r))) ≡ answer line (reply.Refused r)
unfolding told_of
back_refused line r number fields small is reads =
    ap told_of (refused_fields line r small ∙ ap (λ (fs : List (List ℕ)). codes "refused" ∷ decimal line ∷ fs) is)
    ∙ ap (λ (o : Option ℕ). refused_by o (refusal_of number fields)) (natural_some 0 most_u64 line (omega arith) small small)
    ∙ ap (λ (o : Option Refusal). refused_by (Some line) o) reads

back_plain : (line : ℕ) (r : Refusal) → line ≤ most_u64 → 1 ≤ refusal_number r → refusal_number r ≤ 14 → details_text r ≡ [] → plain_refusal (refusal_number r) ≡ Some r
    → told_of (fields_of (words_text line (reply.Refused r))) ≡ answer line (reply.Refused r)
back_plain line r small low high none reads = back_refused line r (decimal (refusal_number r)) [] small
    (ap (λ (d : List ℕ). fields_of (decimal (refusal_number r) ++ d)) none ∙ ap fields_of (append-nil (decimal (refusal_number r))) ∙ decimal_last (refusal_number r) (omega arith))
    (ap plain_by (natural_some 1 14 (refusal_number r) low high (omega arith)) ∙ reads)

-- payloads
code_space : (c : PayloadCode) (rest : List ℕ) → fields_of (code_text c ++ 32 ∷ rest) ≡ code_text c ∷ fields_of rest
unfolding fields_from code_text
code_space (Cnf Header) rest = refl
code_space (Cnf Word) rest = refl
code_space (Cnf Number) rest = refl
code_space (Cnf Limit) rest = refl
code_space (Cnf Unterminated) rest = refl

code_last : (c : PayloadCode) → fields_of (code_text c) ≡ code_text c ∷ []
unfolding fields_from code_text
code_last (Cnf Header) = refl
code_last (Cnf Word) = refl
code_last (Cnf Number) = refl
code_last (Cnf Limit) = refl
code_last (Cnf Unterminated) = refl

code_back : (c : PayloadCode) → code_of (code_text c) ≡ Some c
unfolding code_of code_text
code_back (Cnf Header) = refl
code_back (Cnf Word) = refl
code_back (Cnf Number) = refl
code_back (Cnf Limit) = refl
code_back (Cnf Unterminated) = refl

abbrev gate_fields : ℕ → List (List ℕ)
gate_fields zero = []
gate_fields (suc g) = decimal (suc g) ∷ []

gate_last : (c : PayloadCode) (gate : ℕ) → gate ≤ most_u32 → fields_of (code_text c ++ gate_text gate) ≡ code_text c ∷ gate_fields gate
gate_last c zero few = ap fields_of (append-nil (code_text c)) ∙ code_last c
gate_last c (suc g) few = ap (λ (t : List ℕ). fields_of (code_text c ++ t)) (gate_some (suc g) (omega arith)) ∙ code_space c (decimal (suc g)) ∙ ap (λ (fs : List (List ℕ)). code_text c ∷ fs) (decimal_last (suc g) (omega arith))

payload_fields : (spot gate : ℕ) (c : PayloadCode) → spot ≤ most_u64 → gate ≤ most_u32 → fields_of (decimal 16 ++ details_text (refusal.Payload spot gate c)) ≡ decimal 16 ∷ decimal spot ∷ code_text c ∷ gate_fields gate
payload_fields spot gate c small few =
    ap (λ (d : List ℕ). fields_of (decimal 16 ++ d)) (payload_text spot gate c)
    ∙ decimal_space 16 (decimal spot ++ 32 ∷ (code_text c ++ gate_text gate)) (omega arith)
    ∙ ap (λ (fs : List (List ℕ)). decimal 16 ∷ fs) (decimal_space spot (code_text c ++ gate_text gate) small ∙ ap (λ (fs : List (List ℕ)). decimal spot ∷ fs) (gate_last c gate few))

payload_back : (spot gate : ℕ) (c : PayloadCode) → spot ≤ most_u64 → gate ≤ most_u32 → payload_of (decimal spot) (code_text c ∷ gate_fields gate) ≡ Some (refusal.Payload spot gate c)
payload_back spot zero c small few =
    ap (λ (o : Option ℕ). payload_by o (Some 0) (code_of (code_text c))) (natural_some 0 most_u64 spot (omega arith) small small)
    ∙ ap (λ (o : Option PayloadCode). payload_by (Some spot) (Some 0) o) (code_back c)
payload_back spot (suc g) c small few =
    ap (λ (o : Option ℕ). payload_by o (natural 1 most_u32 (decimal (suc g))) (code_of (code_text c))) (natural_some 0 most_u64 spot (omega arith) small small)
    ∙ ap (λ (o : Option ℕ). payload_by (Some spot) o (code_of (code_text c))) (natural_some 1 most_u32 (suc g) (omega arith) few (omega arith))
    ∙ ap (λ (o : Option PayloadCode). payload_by (Some spot) (Some (suc g)) o) (code_back c)

back_refusal : (line : ℕ) (r : Refusal) → IsTold line (reply.Refused r) → told_of (fields_of (words_text line (reply.Refused r))) ≡ answer line (reply.Refused r)
unfolding plain_refusal details_text
back_refusal line refusal.Syntax h = back_plain line refusal.Syntax h.0 (omega arith) (omega arith) refl refl
back_refusal line refusal.Long h = back_plain line refusal.Long h.0 (omega arith) (omega arith) refl refl
back_refusal line refusal.Dead h = back_plain line refusal.Dead h.0 (omega arith) (omega arith) refl refl
back_refusal line refusal.Busy h = back_plain line refusal.Busy h.0 (omega arith) (omega arith) refl refl
back_refusal line refusal.Scoped h = back_plain line refusal.Scoped h.0 (omega arith) (omega arith) refl refl
back_refusal line refusal.Lit h = back_plain line refusal.Lit h.0 (omega arith) (omega arith) refl refl
back_refusal line refusal.NotGuard h = back_plain line refusal.NotGuard h.0 (omega arith) (omega arith) refl refl
back_refusal line refusal.Held h = back_plain line refusal.Held h.0 (omega arith) (omega arith) refl refl
back_refusal line refusal.Limit h = back_plain line refusal.Limit h.0 (omega arith) (omega arith) refl refl
back_refusal line refusal.NoScope h = back_plain line refusal.NoScope h.0 (omega arith) (omega arith) refl refl
back_refusal line refusal.NotImplied h = back_plain line refusal.NotImplied h.0 (omega arith) (omega arith) refl refl
back_refusal line refusal.NoSolve h = back_plain line refusal.NoSolve h.0 (omega arith) (omega arith) refl refl
back_refusal line refusal.NoModel h = back_plain line refusal.NoModel h.0 (omega arith) (omega arith) refl refl
back_refusal line refusal.NoClause h = back_plain line refusal.NoClause h.0 (omega arith) (omega arith) refl refl
back_refusal line (refusal.Payload spot gate c) h = back_refused line (refusal.Payload spot gate c) (decimal 16) (decimal spot ∷ code_text c ∷ gate_fields gate) h.0 (payload_fields spot gate c h.1.0 h.1.1)
    (ap (λ (o : Option ℕ). payload_at o (payload_of (decimal spot) (code_text c ∷ gate_fields gate))) (natural_some 16 16 16 (omega arith) (omega arith) (omega arith)) ∙ payload_back spot gate c h.1.0 h.1.1)

-- each answer is read back from its text
pub back : (line : ℕ) (r : Reply) → IsTold line r → told_of (fields_of (words_text line r)) ≡ answer line r
unfolding told_of reply_of reply_alone reply_with words_text fields_from
back line reply.Done h = at_zero line reply.Done h
back line (reply.Vars n) h = back_one (codes "vars") reply.Vars 0 most_u32 n line h.0 (omega arith) h.1 (omega (arith, h.1)) refl
back line (reply.Guard g) h = back_one (codes "guard") reply.Guard 1 max_var g line h.0 h.1.0 h.1.1 (omega (arith, h.1.1)) refl
back line (reply.Implied ls) h = back_list (codes "implied") reply.Implied ls line h.0 h.1 refl
back line (reply.Failed ls) h = back_list (codes "failed") reply.Failed ls line h.0 h.1 refl
back line (reply.Reasons ls) h = back_list (codes "reasons") reply.Reasons ls line h.0 h.1 refl
back line (reply.Started s) h = back_one (codes "started") reply.Started 0 most_u64 s line h.0 (omega arith) h.1 h.1 refl
back line (reply.Status s how) h = back_status line s how h
back line (reply.Unsat s ls) h = back_unsat line s ls h.0 h.1 h.2
back line (reply.Model ls) h = back_list (codes "model") reply.Model ls line h.0 h.1 refl
back line (reply.Known n) h = back_one (codes "known") reply.Known 0 most_u64 n line h.0 (omega arith) h.1 h.1 refl
back line (reply.Clause ls) h = back_list (codes "clause") reply.Clause ls line h.0 h.1 refl
back line (reply.LoadedCnf v c) h = back_loaded line v c h.0 h.1 h.2
back line reply.Bye h = at_zero line reply.Bye h
back line (reply.Worked news now) h = absurd h
back line reply.Idle h = absurd h
back line (reply.Refused r) h = back_refusal line r h
back line reply.NoMemory h = at_zero line reply.NoMemory h
back line reply.Spent h = absurd h

-- no two answers have the same text
pub differ : TextsDiffer
differ line other one two h k same = apart (sym (back line one h) ∙ ap (λ (t : List ℕ). told_of (fields_of t)) same ∙ back other two k) where
  apart : answer line one ≡ answer other two → (line ≡ other) × (one ≡ two)
  apart e =
      let p = some_of {X = ℕ × Reply} (line, one) (other, two) e in
      (ap (λ (q : ℕ × Reply). q.0) p, ap (λ (q : ℕ × Reply). q.1) p)

-- a line that is read as none is no answer
pub is_bad : (bytes : List ℕ) → told_of (fields_of bytes) ≡ None → (line : ℕ) (r : Reply) → IsTold line r → words_text line r ≢ bytes
is_bad bytes none line r h same = let not_so : None ≡ answer line r = sym none ∙ ap (λ (t : List ℕ). told_of (fields_of t)) (sym same) ∙ back line r h in cc
