-- What the fields of a line tell is told by no other line.
use Rattle.std.proofs.Common.{◌≡◌, ℕ, ◌<◌, ◌≤◌, ◌==◌, Bool, true, false, cond, Option, Some, None, option_map, List, [], ◌∷◌, ◌++◌, length, bytes_eq, codes, decimal, refl, ap, sym, ◌∙◌, subst, append_assoc, arith}
use Rattle.std.specs.List.{All, AllByRecursion, flat_map}
use Rattle.std.specs.Fmt.{signed_decimal}
use Rattle.std.proofs.lemmas.Bool.{eqb-true, ne_eqb}
use Rattle.std.proofs.lemmas.List.{append-nil}
use Rattle.std.proofs.lemmas.List.Elements.{All-from_recursion}
use Rattle.std.proofs.lemmas.Slice.Eq.{bytes_eq-Decides}
use Rattle.gi_dimacs.specs.declared.fault.CnfCode.TheVariants.{Header, Word, Number, Limit, Unterminated}
use Rattle.gi_lit.specs.Literals.{IsLiteral, max_var, number_of}
use Rattle.gi_model.specs.Number.{refusal_number}
use Rattle.gi_model.specs.declared.refusal.PayloadCode.{PayloadCode}
use Rattle.gi_model.specs.declared.refusal.PayloadCode.TheVariants.{Cnf}
use Rattle.gi_model.specs.declared.refusal.Refusal.{Refusal}
use Rattle.gi_model.specs.declared.refusal.Refusal.TheVariants as refusal
use Rattle.gi_model.specs.declared.replies.Reply.{Reply}
use Rattle.gi_model.specs.declared.replies.Reply.TheVariants as reply
use Rattle.gi_model.specs.declared.replies.Status.{Status}
use Rattle.gi_model.specs.declared.replies.Status.TheVariants as status
use Rattle.gi_model.specs.declared.replies.Why.{Why}
use Rattle.gi_model.specs.declared.replies.Why.TheVariants as why
use Rattle.gi_wire.specs.Answers.{code_of, counts_by, failed_by, literals_of, loaded_of, natural, natural_32, natural_64, payload_at, payload_by, payload_of, plain_by, plain_refusal, refusal_of, refused_by, refused_of, reply_alone, reply_of, reply_of_two, reply_with, short_reply, spelled, status_by, told_of, unsat_of, why_of}
use Rattle.gi_wire.specs.Fields.{fields_of}
use Rattle.gi_wire.specs.Grammar.{ended, led_by, literal_in}
use Rattle.gi_wire.specs.Limits.{most_u32, most_u64}
use Rattle.gi_wire.specs.Literals.{list_text, literal_text}
use Rattle.gi_wire.specs.ReplyRead.{HasPlace, IsTold}
use Rattle.gi_wire.specs.Text.{code_text, details_text, gate_text, reason_text, status_text, words_text}
use Rattle.gi_wire.proofs.FieldCuts.{joined, joined_fields, joined_more}
use Rattle.gi_wire.proofs.Spelled.{literal_is, natural_is, some_of}

-- what an option has, if anything
pub record Yields {X : Type 0} (P : X → Type 0) (o : Option X) : Type 0 where
  pub each : (x : X) → o ≡ Some x → P x

nothing : {X : Type 0} (P : X → Type 0) → Yields P None
nothing P = record { each = λ x e. absurd cc }

just : {X : Type 0} (P : X → Type 0) (x : X) → P x → Yields P (Some x)
just P x h = record { each = λ y e. subst P (some_of x y e) h }

mapped : {X Y : Type 0} (P : Y → Type 0) (f : X → Y) (o : Option X) → ((x : X) → o ≡ Some x → P (f x)) → Yields P (option_map f o)
mapped P f None h = nothing P
mapped P f (Some x) h = just P (f x) (h x refl)

by_name : {X : Type 0} (P : X → Type 0) (name word : List ℕ) (t u : Option X) → (name ≡ word → Yields P t) → Yields P u → Yields P (cond (bytes_eq name word) t u)
by_name {X} P name word t u here later = by_test (bytes_eq name word) (λ e. here ((bytes_eq-Decides name word).0 e)) where
  by_test : (b : Bool) → (b ≡ true → Yields P t) → Yields P (cond b t u)
  by_test true h = h refl
  by_test false h = later

by_number : {X : Type 0} (P : X → Type 0) (n k : ℕ) (t u : Option X) → (n ≡ k → Yields P t) → Yields P u → Yields P (cond (n == k) t u)
by_number {X} P n k t u here later = by_test (n == k) (λ e. here (eqb-true n k e)) where
  by_test : (b : Bool) → (b ≡ true → Yields P t) → Yields P (cond b t u)
  by_test true h = h refl
  by_test false h = later

-- an answer that isn't a refusal, with this text
abbrev Has : List ℕ → Reply → Type 0
Has text r = IsTold 0 r × (words_text 0 r ≡ text)

has_alone : (name : List ℕ) → Yields (Has name) (reply_alone name)
unfolding reply_alone words_text
has_alone name =
    by_name (Has name) name (codes "ok") _ _ (λ e. just (Has name) reply.Done (refl, sym e))
    (by_name (Has name) name (codes "bye") _ _ (λ e. just (Has name) reply.Bye (refl, sym e))
    (by_name (Has name) name (codes "nomem") _ _ (λ e. just (Has name) reply.NoMemory (refl, sym e)) (nothing (Has name))))

one_field : (name word field text : List ℕ) → name ≡ word → field ≡ text → word ++ 32 ∷ text ≡ name ++ 32 ∷ field
one_field name word field text e f = sym (ap (λ (n : List ℕ). n ++ 32 ∷ field) e ∙ ap (λ (t : List ℕ). word ++ 32 ∷ t) f)

has_with : (name field : List ℕ) → Yields (Has (name ++ 32 ∷ field)) (reply_with name field)
unfolding reply_with words_text status_text
has_with name field =
    let P : Reply → Type 0 = Has (name ++ 32 ∷ field) in
    by_name P name (codes "vars") _ _ (λ e. mapped P reply.Vars (natural_32 field) (λ n h. let i = natural_is 0 most_u32 field n h in ((refl, i.2), one_field name (codes "vars") field (decimal n) e i.0)))
    (by_name P name (codes "guard") _ _ (λ e. mapped P reply.Guard (natural 1 max_var field) (λ n h. let i = natural_is 1 max_var field n h in ((refl, (i.1, i.2)), one_field name (codes "guard") field (decimal n) e i.0)))
    (by_name P name (codes "started") _ _ (λ e. mapped P reply.Started (natural_64 field) (λ n h. let i = natural_is 0 most_u64 field n h in ((refl, i.2), one_field name (codes "started") field (decimal n) e i.0)))
    (by_name P name (codes "known") _ _ (λ e. mapped P reply.Known (natural_64 field) (λ n h. let i = natural_is 0 most_u64 field n h in ((refl, i.2), one_field name (codes "known") field (decimal n) e i.0)))
    (by_name P name (codes "sat") _ _ (λ e. mapped P (λ (s : ℕ). reply.Status s status.Sat) (natural_64 field) (λ n h. let i = natural_is 0 most_u64 field n h in ((refl, i.2, tt), one_field name (codes "sat") field (decimal n) e i.0)))
    (nothing P)))))

by_status : {X : Type 0} (P : Reply → Type 0) (f : X → Status) (a : Option ℕ) (b : Option X) → ((s : ℕ) (x : X) → a ≡ Some s → b ≡ Some x → P (reply.Status s (f x))) → Yields P (status_by a (option_map f b))
by_status P f None b h = nothing P
by_status P f (Some s) None h = nothing P
by_status P f (Some s) (Some x) h = just P (reply.Status s (f x)) (h s x refl refl)

two_fields : (name word serial number field text : List ℕ) → name ≡ word → serial ≡ number → field ≡ text → word ++ 32 ∷ (number ++ 32 ∷ text) ≡ name ++ 32 ∷ (serial ++ 32 ∷ field)
two_fields name word serial number field text e f g = one_field name word (serial ++ 32 ∷ field) (number ++ 32 ∷ text) e (sym (one_field serial number field text f g))

abbrev IsWhy : List ℕ → Why → Type 0
IsWhy field w = reason_text w ≡ 32 ∷ field

has_why : (field : List ℕ) → Yields (IsWhy field) (why_of field)
has_why field =
    by_name (IsWhy field) field (codes "budget") _ _ (λ e. just (IsWhy field) why.Budget (ap (λ (t : List ℕ). 32 ∷ t) (sym e)))
    (by_name (IsWhy field) field (codes "stopped") _ _ (λ e. just (IsWhy field) why.Stopped (ap (λ (t : List ℕ). 32 ∷ t) (sym e))) (nothing (IsWhy field)))

by_why : (P : Reply → Type 0) (a : Option ℕ) (b : Option Why) → ((s : ℕ) (w : Why) → a ≡ Some s → b ≡ Some w → P (reply.Status s (status.Unknown w))) → Yields P (status_by a (option_map status.Unknown b))
by_why P a b h = by_status P status.Unknown a b h

has_two : (name serial field : List ℕ) → Yields (Has (name ++ 32 ∷ (serial ++ 32 ∷ field))) (reply_of_two name serial field)
unfolding reply_of_two words_text status_text
has_two name serial field =
    let P : Reply → Type 0 = Has (name ++ 32 ∷ (serial ++ 32 ∷ field)) in
    by_name P name (codes "running") _ _ (λ e. by_status P status.Running (natural_64 serial) (natural_32 field) (λ s n g h.
    let i = natural_is 0 most_u64 serial s g in let j = natural_is 0 most_u32 field n h in
    ((refl, i.2, j.2), two_fields name (codes "running") serial (decimal s) field (decimal n) e i.0 j.0)))
    (by_name P name (codes "paused") _ _ (λ e. by_status P status.Paused (natural_64 serial) (natural_32 field) (λ s n g h.
    let i = natural_is 0 most_u64 serial s g in let j = natural_is 0 most_u32 field n h in
    ((refl, i.2, j.2), two_fields name (codes "paused") serial (decimal s) field (decimal n) e i.0 j.0)))
    (by_name P name (codes "unknown") _ _ (λ e. by_status P status.Unknown (natural_64 serial) (why_of field) (λ s w g h.
    let i = natural_is 0 most_u64 serial s g in
    ((refl, i.2, tt), ap (λ (t : List ℕ). codes "unknown " ++ decimal s ++ t) ((has_why field).each w h) ∙ two_fields name (codes "unknown") serial (decimal s) field field e i.0 refl)))
    (nothing P)))

-- lists of literals
pub list_first : (l : ℕ) (ls : List ℕ) → list_text (l ∷ ls) ≡ signed_decimal (number_of l) ++ 32 ∷ list_text ls
list_first l ls = append_assoc (literal_text l) (flat_map literal_text ls) (48 ∷ []) ∙ append_assoc (signed_decimal (number_of l)) (32 ∷ []) (list_text ls)

record IsList (fields : List (List ℕ)) (ls : List ℕ) : Type 0 where
  some : 0 < length fields
  text : list_text ls ≡ joined fields
  literals : AllByRecursion IsLiteral ls

has_ended : (field : List ℕ) (fields : List (List ℕ)) → field ≡ codes "0" → Yields (IsList (field ∷ fields)) (ended fields)
has_ended field [] e = just (IsList (field ∷ [])) [] (record { some = omega arith; text = sym e; literals = tt })
has_ended field (f ∷ fields) e = nothing (IsList (field ∷ f ∷ fields))

has_led : (field : List ℕ) (fields : List (List ℕ)) (o : Option ℕ) (list : Option (List ℕ)) → ((l : ℕ) → o ≡ Some l → (field ≡ signed_decimal (number_of l)) × IsLiteral l) → Yields (IsList fields) list → Yields (IsList (field ∷ fields)) (led_by o list)
has_led field fields None list h rest = nothing (IsList (field ∷ fields))
has_led field fields (Some l) None h rest = nothing (IsList (field ∷ fields))
has_led field fields (Some l) (Some ls) h rest =
    let word = h l refl in
    let there = rest.each ls refl in
    just (IsList (field ∷ fields)) (l ∷ ls) (record {
      some = omega arith;
      text = list_first l ls ∙ ap (λ (w : List ℕ). w ++ 32 ∷ list_text ls) (sym word.0) ∙ ap (λ (t : List ℕ). field ++ 32 ∷ t) there.text ∙ sym (joined_more field fields there.some);
      literals = (word.1, there.literals);
    })

has_list_of : (fields : List (List ℕ)) → Yields (IsList fields) (literals_of fields)
unfolding literals_of
has_list_of [] = nothing (IsList [])
has_list_of (field ∷ fields) =
    by_name (IsList (field ∷ fields)) field (codes "0") (ended fields) (led_by (literal_in (spelled field)) (literals_of fields)) (has_ended field fields)
    (has_led field fields (literal_in (spelled field)) (literals_of fields) (literal_is field) (has_list_of fields))

-- answers with a list
has_literals : (name word : List ℕ) (f : List ℕ → Reply) (fields : List (List ℕ)) → name ≡ word → ((ls : List ℕ) → All IsLiteral ls → IsTold 0 (f ls)) → ((ls : List ℕ) → words_text 0 (f ls) ≡ word ++ 32 ∷ list_text ls)
    → Yields (Has (joined (name ∷ fields))) (option_map f (literals_of fields))
has_literals name word f fields e may is = mapped (Has (joined (name ∷ fields))) f (literals_of fields) (λ ls h.
    let l = (has_list_of fields).each ls h in
    (may ls (All-from_recursion IsLiteral ls l.literals), is ls ∙ one_field name word (joined fields) (list_text ls) e (sym l.text) ∙ sym (joined_more name fields l.some)))

unsat_text : (name serial : List ℕ) (fields : List (List ℕ)) (s : ℕ) (ls : List ℕ) → name ≡ codes "unsat" → serial ≡ decimal s → IsList fields ls → codes "unsat" ++ 32 ∷ (decimal s ++ 32 ∷ list_text ls) ≡ joined (name ∷ serial ∷ fields)
unsat_text name serial fields s ls e f l =
    two_fields name (codes "unsat") serial (decimal s) (joined fields) (list_text ls) e f (sym l.text) ∙ ap (λ (t : List ℕ). name ++ 32 ∷ t) (sym (joined_more serial fields l.some))

has_failed : (name serial : List ℕ) (fields : List (List ℕ)) (o : Option ℕ) → name ≡ codes "unsat" → ((s : ℕ) → o ≡ Some s → (serial ≡ decimal s) × (0 ≤ s) × (s ≤ most_u64)) → Yields (Has (joined (name ∷ serial ∷ fields))) (failed_by o fields)
unfolding words_text status_text
has_failed name serial fields None e h = nothing (Has (joined (name ∷ serial ∷ fields)))
has_failed name serial [] (Some s) e h = let i = h s refl in just (Has (joined (name ∷ serial ∷ []))) (reply.Status s status.Unsat) ((refl, i.2, tt), one_field name (codes "unsat") serial (decimal s) e i.0)
has_failed name serial (f ∷ fields) (Some s) e h =
    let i = h s refl in
    mapped (Has (joined (name ∷ serial ∷ f ∷ fields))) (reply.Unsat s) (literals_of (f ∷ fields)) (λ ls g.
    let l = (has_list_of (f ∷ fields)).each ls g in
    ((refl, i.2, All-from_recursion IsLiteral ls l.literals), unsat_text name serial (f ∷ fields) s ls e i.0 l))

has_unsat : (name : List ℕ) (fields : List (List ℕ)) → name ≡ codes "unsat" → Yields (Has (joined (name ∷ fields))) (unsat_of fields)
has_unsat name [] e = nothing (Has name)
has_unsat name (serial ∷ fields) e = has_failed name serial fields (natural_64 serial) e (natural_is 0 most_u64 serial)

-- what was loaded
by_counts : (P : Reply → Type 0) (a b : Option ℕ) → ((v c : ℕ) → a ≡ Some v → b ≡ Some c → P (reply.LoadedCnf v c)) → Yields P (counts_by a b)
by_counts P None b h = nothing P
by_counts P (Some v) None h = nothing P
by_counts P (Some v) (Some c) h = just P (reply.LoadedCnf v c) (h v c refl refl)

has_loaded : (name : List ℕ) (fields : List (List ℕ)) → name ≡ codes "loaded" → Yields (Has (joined (name ∷ fields))) (loaded_of fields)
unfolding words_text
has_loaded name [] e = nothing (Has name)
has_loaded name (kind ∷ []) e = nothing (Has (joined (name ∷ kind ∷ [])))
has_loaded name (kind ∷ vars ∷ []) e = nothing (Has (joined (name ∷ kind ∷ vars ∷ [])))
has_loaded name (kind ∷ vars ∷ clauses ∷ []) e =
    let P : Reply → Type 0 = Has (joined (name ∷ kind ∷ vars ∷ clauses ∷ [])) in
    by_name P kind (codes "cnf") _ _ (λ k. by_counts P (natural_32 vars) (natural_32 clauses) (λ v c g h.
    let i = natural_is 0 most_u32 vars v g in let j = natural_is 0 most_u32 clauses c h in
    ((refl, i.2, j.2), one_field name (codes "loaded") (kind ++ 32 ∷ (vars ++ 32 ∷ clauses)) (codes "cnf" ++ 32 ∷ (decimal v ++ 32 ∷ decimal c)) e (sym (two_fields kind (codes "cnf") vars (decimal v) clauses (decimal c) k i.0 j.0)))))
    (nothing P)
has_loaded name (kind ∷ vars ∷ clauses ∷ other ∷ fields) e = nothing (Has (joined (name ∷ kind ∷ vars ∷ clauses ∷ other ∷ fields)))

has_short : (name : List ℕ) (fields : List (List ℕ)) → Yields (Has (joined (name ∷ fields))) (short_reply name fields)
has_short name [] = has_alone name
has_short name (field ∷ []) = has_with name field
has_short name (serial ∷ field ∷ []) = has_two name serial field
has_short name (serial ∷ field ∷ other ∷ fields) = nothing (Has (joined (name ∷ serial ∷ field ∷ other ∷ fields)))

has_reply : (name : List ℕ) (fields : List (List ℕ)) → Yields (Has (joined (name ∷ fields))) (reply_of name fields)
unfolding reply_of words_text
has_reply name fields =
    let P : Reply → Type 0 = Has (joined (name ∷ fields)) in
    by_name P name (codes "implied") _ _ (λ e. has_literals name (codes "implied") reply.Implied fields e (λ ls all. (refl, all)) (λ ls. refl))
    (by_name P name (codes "failed") _ _ (λ e. has_literals name (codes "failed") reply.Failed fields e (λ ls all. (refl, all)) (λ ls. refl))
    (by_name P name (codes "reasons") _ _ (λ e. has_literals name (codes "reasons") reply.Reasons fields e (λ ls all. (refl, all)) (λ ls. refl))
    (by_name P name (codes "model") _ _ (λ e. has_literals name (codes "model") reply.Model fields e (λ ls all. (refl, all)) (λ ls. refl))
    (by_name P name (codes "clause") _ _ (λ e. has_literals name (codes "clause") reply.Clause fields e (λ ls all. (refl, all)) (λ ls. refl))
    (by_name P name (codes "unsat") _ _ (has_unsat name fields)
    (by_name P name (codes "loaded") _ _ (has_loaded name fields) (has_short name fields)))))))

-- refusals
record IsPlain (n : ℕ) (r : Refusal) : Type 0 where
  number : refusal_number r ≡ n
  nothing_else : details_text r ≡ []
  place : HasPlace r

has_plain : (n : ℕ) → Yields (IsPlain n) (plain_refusal n)
unfolding plain_refusal details_text
has_plain n =
    let P : Refusal → Type 0 = IsPlain n in
    by_number P n 1 _ _ (λ e. just P refusal.Syntax (record { number = sym e; nothing_else = refl; place = tt }))
    (by_number P n 2 _ _ (λ e. just P refusal.Long (record { number = sym e; nothing_else = refl; place = tt }))
    (by_number P n 3 _ _ (λ e. just P refusal.Dead (record { number = sym e; nothing_else = refl; place = tt }))
    (by_number P n 4 _ _ (λ e. just P refusal.Busy (record { number = sym e; nothing_else = refl; place = tt }))
    (by_number P n 5 _ _ (λ e. just P refusal.Scoped (record { number = sym e; nothing_else = refl; place = tt }))
    (by_number P n 6 _ _ (λ e. just P refusal.Lit (record { number = sym e; nothing_else = refl; place = tt }))
    (by_number P n 7 _ _ (λ e. just P refusal.NotGuard (record { number = sym e; nothing_else = refl; place = tt }))
    (by_number P n 8 _ _ (λ e. just P refusal.Held (record { number = sym e; nothing_else = refl; place = tt }))
    (by_number P n 9 _ _ (λ e. just P refusal.Limit (record { number = sym e; nothing_else = refl; place = tt }))
    (by_number P n 10 _ _ (λ e. just P refusal.NoScope (record { number = sym e; nothing_else = refl; place = tt }))
    (by_number P n 11 _ _ (λ e. just P refusal.NotImplied (record { number = sym e; nothing_else = refl; place = tt }))
    (by_number P n 12 _ _ (λ e. just P refusal.NoSolve (record { number = sym e; nothing_else = refl; place = tt }))
    (by_number P n 13 _ _ (λ e. just P refusal.NoModel (record { number = sym e; nothing_else = refl; place = tt }))
    (by_number P n 14 _ _ (λ e. just P refusal.NoClause (record { number = sym e; nothing_else = refl; place = tt }))
    (nothing P))))))))))))))

-- the number of a refusal and what else it tells, as text
abbrev Refuses : List ℕ → Refusal → Type 0
Refuses text r = HasPlace r × (decimal (refusal_number r) ++ details_text r ≡ text)

by_plain : (text : List ℕ) (o : Option ℕ) → ((n : ℕ) → o ≡ Some n → text ≡ decimal n) → Yields (Refuses text) (plain_by o)
by_plain text None h = nothing (Refuses text)
by_plain text (Some n) h = record {
  each = λ r e.
      let p = (has_plain n).each r e in
      (p.place, ap (λ (d : List ℕ). decimal (refusal_number r) ++ d) p.nothing_else ∙ append-nil (decimal (refusal_number r)) ∙ ap decimal p.number ∙ sym (h n refl));
}

abbrev IsCode : List ℕ → PayloadCode → Type 0
IsCode field c = code_text c ≡ field

has_code : (field : List ℕ) → Yields (IsCode field) (code_of field)
unfolding code_of code_text
has_code field =
    let P : PayloadCode → Type 0 = IsCode field in
    by_name P field (codes "header") _ _ (λ e. just P (Cnf Header) (sym e))
    (by_name P field (codes "word") _ _ (λ e. just P (Cnf Word) (sym e))
    (by_name P field (codes "number") _ _ (λ e. just P (Cnf Number) (sym e))
    (by_name P field (codes "limit") _ _ (λ e. just P (Cnf Limit) (sym e))
    (by_name P field (codes "unterminated") _ _ (λ e. just P (Cnf Unterminated) (sym e)) (nothing P)))))

by_payload : (P : Refusal → Type 0) (a g : Option ℕ) (c : Option PayloadCode) → ((spot gate : ℕ) (code : PayloadCode) → a ≡ Some spot → g ≡ Some gate → c ≡ Some code → P (refusal.Payload spot gate code)) → Yields P (payload_by a g c)
by_payload P None g c h = nothing P
by_payload P (Some spot) None c h = nothing P
by_payload P (Some spot) (Some gate) None h = nothing P
by_payload P (Some spot) (Some gate) (Some code) h = just P (refusal.Payload spot gate code) (h spot gate code refl refl refl)

pub gate_some : (gate : ℕ) → 1 ≤ gate → gate_text gate ≡ 32 ∷ decimal gate
gate_some gate some = ap (λ (b : Bool). cond b [] (codes " " ++ decimal gate)) (ne_eqb gate 0 (λ e. omega arith))

-- what is told of a payload behind the number 16
pub payload_text : (spot gate : ℕ) (code : PayloadCode) → details_text (refusal.Payload spot gate code) ≡ 32 ∷ (decimal spot ++ 32 ∷ (code_text code ++ gate_text gate))
unfolding details_text
payload_text spot gate code = ap (λ (t : List ℕ). 32 ∷ t) (append_assoc (decimal spot) (32 ∷ code_text code) (gate_text gate))

has_payload : (line : List ℕ) (fields : List (List ℕ)) → Yields (λ (r : Refusal). HasPlace r × (refusal_number r ≡ 16) × (details_text r ≡ 32 ∷ joined (line ∷ fields))) (payload_of line fields)
has_payload line [] = record { each = λ r e. absurd cc }
has_payload line (field ∷ []) = by_payload (λ (r : Refusal). HasPlace r × (refusal_number r ≡ 16) × (details_text r ≡ 32 ∷ joined (line ∷ field ∷ []))) (natural_64 line) (Some 0) (code_of field) (λ spot gate code f g h.
    let i = natural_is 0 most_u64 line spot f in
    let none : 0 ≡ gate = some_of 0 gate g in
    let few : gate ≤ most_u32 = omega arith in
    let told : code_text code ++ gate_text gate ≡ field = ap (λ (k : ℕ). code_text code ++ gate_text k) (sym none) ∙ append-nil (code_text code) ∙ (has_code field).each code h in
    ((i.2, few), refl, payload_text spot gate code ∙ ap (λ (t : List ℕ). 32 ∷ t) (one_field line (decimal spot) field (code_text code ++ gate_text gate) i.0 (sym told))))
has_payload line (field ∷ number ∷ []) = by_payload (λ (r : Refusal). HasPlace r × (refusal_number r ≡ 16) × (details_text r ≡ 32 ∷ joined (line ∷ field ∷ number ∷ []))) (natural_64 line) (natural 1 most_u32 number) (code_of field) (λ spot gate code f g h.
    let i = natural_is 0 most_u64 line spot f in
    let j = natural_is 1 most_u32 number gate g in
    let told : code_text code ++ gate_text gate ≡ field ++ 32 ∷ number = ap (λ (t : List ℕ). code_text code ++ t) (gate_some gate j.1) ∙ one_field field (code_text code) number (decimal gate) (sym ((has_code field).each code h)) j.0 in
    ((i.2, j.2), refl, payload_text spot gate code ∙ ap (λ (t : List ℕ). 32 ∷ t) (one_field line (decimal spot) (field ++ 32 ∷ number) (code_text code ++ gate_text gate) i.0 (sym told))))
has_payload line (field ∷ number ∷ other ∷ fields) = record { each = λ r e. absurd cc }

by_sixteen : (text : List ℕ) (o : Option ℕ) (r : Option Refusal) → Yields (λ (p : Refusal). HasPlace p × (refusal_number p ≡ 16) × (details_text p ≡ text)) r → Yields (λ (p : Refusal). HasPlace p × (refusal_number p ≡ 16) × (details_text p ≡ text)) (payload_at o r)
by_sixteen text None r h = record { each = λ p e. absurd cc }
by_sixteen text (Some n) r h = h

sixteen_is : (o : Option ℕ) (r : Option Refusal) (p : Refusal) → payload_at o r ≡ Some p → (n : ℕ) × (o ≡ Some n)
sixteen_is None r p e = absurd cc
sixteen_is (Some n) r p e = (n, refl)

has_refusal : (number : List ℕ) (fields : List (List ℕ)) → Yields (Refuses (joined (number ∷ fields))) (refusal_of number fields)
has_refusal number [] = by_plain number (natural 1 14 number) (λ n e. (natural_is 1 14 number n e).0)
has_refusal number (line ∷ fields) = record {
  each = λ r e.
      let p = (by_sixteen (32 ∷ joined (line ∷ fields)) (natural 16 16 number) (payload_of line fields) (has_payload line fields)).each r e in
      let n = sixteen_is (natural 16 16 number) (payload_of line fields) r e in
      let i = natural_is 16 16 number n.0 n.1 in
      let sixteen : refusal_number r ≡ n.0 = p.1 ∙ (let s : 16 ≡ n.0 = omega (arith, i.1, i.2) in s) in
      (p.0, ap (λ (k : ℕ). decimal k ++ details_text r) sixteen ∙ ap (λ (w : List ℕ). w ++ details_text r) (sym i.0) ∙ ap (λ (d : List ℕ). number ++ d) p.2);
}

-- an answer that names a line, with this text
abbrev pub Tells : List ℕ → ℕ × Reply → Type 0
Tells text p = IsTold p.0 p.1 × (words_text p.0 p.1 ≡ text)

by_refused : (P : ℕ × Reply → Type 0) (a : Option ℕ) (b : Option Refusal) → ((line : ℕ) (r : Refusal) → a ≡ Some line → b ≡ Some r → P (line, reply.Refused r)) → Yields P (refused_by a b)
by_refused P None b h = nothing P
by_refused P (Some line) None h = nothing P
by_refused P (Some line) (Some r) h = just P (line, reply.Refused r) (h line r refl refl)

has_refused : (name : List ℕ) (fields : List (List ℕ)) → name ≡ codes "refused" → Yields (Tells (joined (name ∷ fields))) (refused_of fields)
unfolding words_text
has_refused name [] e = nothing (Tells name)
has_refused name (line ∷ []) e = nothing (Tells (joined (name ∷ line ∷ [])))
has_refused name (line ∷ number ∷ fields) e = by_refused (Tells (joined (name ∷ line ∷ number ∷ fields))) (natural_64 line) (refusal_of number fields) (λ l r f g.
    let i = natural_is 0 most_u64 line l f in
    let t = (has_refusal number fields).each r g in
    ((i.2, t.0), ap (λ (x : List ℕ). codes "refused" ++ 32 ∷ x) (append_assoc (decimal l) (32 ∷ decimal (refusal_number r)) (details_text r)) ∙ two_fields name (codes "refused") line (decimal l) (joined (number ∷ fields)) (decimal (refusal_number r) ++ details_text r) e i.0 (sym t.1)))

pub has_told : (fields : List (List ℕ)) → Yields (Tells (joined fields)) (told_of fields)
unfolding told_of
has_told [] = nothing (Tells [])
has_told (name ∷ fields) = by_name (Tells (joined (name ∷ fields))) name (codes "refused") _ _ (has_refused name fields)
    (mapped (Tells (joined (name ∷ fields))) (λ (r : Reply). let p : ℕ × Reply = (0, r) in p) (reply_of name fields) (λ r e. (has_reply name fields).each r e))

-- what is read of a line has that line as its text
pub is_told : (bytes : List ℕ) (line : ℕ) (r : Reply) → told_of (fields_of bytes) ≡ (let p : ℕ × Reply = (line, r) in Some p) → IsTold line r × (words_text line r ≡ bytes)
is_told bytes line r e = let t = (has_told (fields_of bytes)).each (line, r) e in (t.0, t.1 ∙ joined_fields bytes)
