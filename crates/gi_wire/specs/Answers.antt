-- The answers that lines tell, by their fields. Every number has its shortest spelling.
use Rattle.std.specs.Prelude.{ℕ, ℤ, ◌==◌, ◌||◌, Bool, false, List, [], ◌∷◌, if◌then◌else◌, Option, Some, None, option_map, codes}
use Rattle.std.specs.Fmt.{signed_decimal}
use Rattle.std.specs.Str.{bytes_eq}
use Rattle.gi_dimacs.specs.declared.fault.CnfCode.TheVariants.{Header, Word, Number, Limit, Unterminated}
use Rattle.gi_lit.specs.Literals.{max_var}
use Rattle.gi_model.specs.declared.refusal.PayloadCode.{PayloadCode}
use Rattle.gi_model.specs.declared.refusal.PayloadCode.TheVariants.{Cnf}
use Rattle.gi_model.specs.declared.refusal.Refusal.{Refusal}
use Rattle.gi_model.specs.declared.refusal.Refusal.TheVariants as refusal
use Rattle.gi_model.specs.declared.replies.Reply.{Reply}
use Rattle.gi_model.specs.declared.replies.Reply.TheVariants as reply
use Rattle.gi_model.specs.declared.replies.Status.{Status}
use Rattle.gi_model.specs.declared.replies.Status.TheVariants as status
use Rattle.gi_model.specs.declared.replies.Why.{Why}
use Rattle.gi_model.specs.declared.replies.Why.TheVariants as why
use Rattle.gi_text.specs.Numbers.{number_of}
use Rattle.gi_wire.specs.Grammar.{ended, led_by, literal_in, within}
use Rattle.gi_wire.specs.Limits.{most_u32, most_u64}

abbrev pub exactly : List ℕ → Option ℤ → Option ℤ
exactly field None = None
exactly field (Some z) = if bytes_eq field (signed_decimal z) then Some z else None

-- the number whose shortest spelling a field is
unfoldable pub spelled : List ℕ → Option ℤ
spelled field = exactly field (number_of field)

abbrev pub natural : ℕ → ℕ → List ℕ → Option ℕ
natural least most field = within least most (spelled field)

abbrev pub natural_32 : List ℕ → Option ℕ
natural_32 field = natural 0 most_u32 field

abbrev pub natural_64 : List ℕ → Option ℕ
natural_64 field = natural 0 most_u64 field

-- literals, and then a 0 as the last field
unfoldable pub literals_of : List (List ℕ) → Option (List ℕ)
literals_of [] = None
literals_of (field ∷ fields) = if bytes_eq field (codes "0") then ended fields
    else led_by (literal_in (spelled field)) (literals_of fields)

-- an answer that is its name alone
unfoldable pub reply_alone : List ℕ → Option Reply
reply_alone name = if bytes_eq name (codes "ok") then Some reply.Done
    else if bytes_eq name (codes "bye") then Some reply.Bye
    else if bytes_eq name (codes "nomem") then Some reply.NoMemory else None

-- an answer with one number
unfoldable pub reply_with : List ℕ → List ℕ → Option Reply
reply_with name field = if bytes_eq name (codes "vars")
    then option_map reply.Vars (natural_32 field)
    else if bytes_eq name (codes "guard") then option_map reply.Guard (natural 1 max_var field)
    else if bytes_eq name (codes "started") then option_map reply.Started (natural_64 field)
    else if bytes_eq name (codes "known") then option_map reply.Known (natural_64 field)
    else if bytes_eq name (codes "sat")
    then option_map (λ s. reply.Status s status.Sat) (natural_64 field) else None

-- the status of a solve, by its serial and what else it tells
abbrev pub status_by : Option ℕ → Option Status → Option Reply
status_by None how = None
status_by (Some serial) how = option_map (reply.Status serial) how

abbrev pub why_of : List ℕ → Option Why
why_of field = if bytes_eq field (codes "budget") then Some why.Budget
    else if bytes_eq field (codes "stopped") then Some why.Stopped else None

-- an answer with a serial and one more field
unfoldable pub reply_of_two : List ℕ → List ℕ → List ℕ → Option Reply
reply_of_two name serial field = if bytes_eq name (codes "running")
    then status_by (natural_64 serial) (option_map status.Running (natural_32 field))
    else if bytes_eq name (codes "paused")
    then status_by (natural_64 serial) (option_map status.Paused (natural_32 field))
    else if bytes_eq name (codes "unknown")
    then status_by (natural_64 serial) (option_map status.Unknown (why_of field)) else None

abbrev pub short_reply : List ℕ → List (List ℕ) → Option Reply
short_reply name [] = reply_alone name
short_reply name (field ∷ []) = reply_with name field
short_reply name (serial ∷ field ∷ []) = reply_of_two name serial field
short_reply name (serial ∷ field ∷ other ∷ fields) = None

-- a failed solve of this serial, with its failing assumptions or without
abbrev pub failed_by : Option ℕ → List (List ℕ) → Option Reply
failed_by None fields = None
failed_by (Some serial) [] = Some (reply.Status serial status.Unsat)
failed_by (Some serial) (field ∷ fields) =
    option_map (reply.Unsat serial) (literals_of (field ∷ fields))

abbrev pub unsat_of : List (List ℕ) → Option Reply
unsat_of [] = None
unsat_of (serial ∷ fields) = failed_by (natural_64 serial) fields

abbrev pub counts_by : Option ℕ → Option ℕ → Option Reply
counts_by None clauses = None
counts_by (Some vars) clauses = option_map (reply.LoadedCnf vars) clauses

-- what was loaded, behind the answer's name
abbrev pub loaded_of : List (List ℕ) → Option Reply
loaded_of [] = None
loaded_of (kind ∷ []) = None
loaded_of (kind ∷ vars ∷ []) = None
loaded_of (kind ∷ vars ∷ clauses ∷ []) = if bytes_eq kind (codes "cnf")
    then counts_by (natural_32 vars) (natural_32 clauses) else None
loaded_of (kind ∷ vars ∷ clauses ∷ other ∷ fields) = None

-- an answer of this name but a refusal
unfoldable pub reply_of : List ℕ → List (List ℕ) → Option Reply
reply_of name fields = if bytes_eq name (codes "implied")
    then option_map reply.Implied (literals_of fields)
    else if bytes_eq name (codes "failed") then option_map reply.Failed (literals_of fields)
    else if bytes_eq name (codes "reasons") then option_map reply.Reasons (literals_of fields)
    else if bytes_eq name (codes "model") then option_map reply.Model (literals_of fields)
    else if bytes_eq name (codes "clause") then option_map reply.Clause (literals_of fields)
    else if bytes_eq name (codes "unsat") then unsat_of fields
    else if bytes_eq name (codes "loaded") then loaded_of fields else short_reply name fields

-- the refusal of this number that tells nothing else
unfoldable pub plain_refusal : ℕ → Option Refusal
plain_refusal n = if n == 1 then Some refusal.Syntax
    else if n == 2 then Some refusal.Long
    else if n == 3 then Some refusal.Dead
    else if n == 4 then Some refusal.Busy
    else if n == 5 then Some refusal.Scoped
    else if n == 6 then Some refusal.Lit
    else if n == 7 then Some refusal.NotGuard
    else if n == 8 then Some refusal.Held
    else if n == 9 then Some refusal.Limit
    else if n == 10 then Some refusal.NoScope
    else if n == 11 then Some refusal.NotImplied
    else if n == 12 then Some refusal.NoSolve
    else if n == 13 then Some refusal.NoModel
    else if n == 14 then Some refusal.NoClause else None

unfoldable pub code_of : List ℕ → Option PayloadCode
code_of field = if bytes_eq field (codes "header") then Some (Cnf Header)
    else if bytes_eq field (codes "word") then Some (Cnf Word)
    else if bytes_eq field (codes "number") then Some (Cnf Number)
    else if bytes_eq field (codes "limit") then Some (Cnf Limit)
    else if bytes_eq field (codes "unterminated") then Some (Cnf Unterminated) else None

abbrev pub payload_by : Option ℕ → Option ℕ → Option PayloadCode → Option Refusal
payload_by None gate code = None
payload_by (Some line) None code = None
payload_by (Some line) (Some gate) code = option_map (refusal.Payload line gate) code

-- what is wrong with a payload, and where; a gate that isn't told is 0
abbrev pub payload_of : List ℕ → List (List ℕ) → Option Refusal
payload_of line [] = None
payload_of line (code ∷ []) = payload_by (natural_64 line) (Some 0) (code_of code)
payload_of line (code ∷ gate ∷ []) =
    payload_by (natural_64 line) (natural 1 most_u32 gate) (code_of code)
payload_of line (code ∷ gate ∷ other ∷ fields) = None

abbrev pub plain_by : Option ℕ → Option Refusal
plain_by None = None
plain_by (Some n) = plain_refusal n

abbrev pub payload_at : Option ℕ → Option Refusal → Option Refusal
payload_at None refusal = None
payload_at (Some n) refusal = refusal

-- a refusal, by its number and what else it tells
abbrev pub refusal_of : List ℕ → List (List ℕ) → Option Refusal
refusal_of number [] = plain_by (natural 1 14 number)
refusal_of number (line ∷ fields) = payload_at (natural 16 16 number) (payload_of line fields)

abbrev pub refused_by : Option ℕ → Option Refusal → Option (ℕ × Reply)
refused_by None refusal = None
refused_by (Some line) refusal = option_map (λ r. (line, reply.Refused r)) refusal

-- a refusal and the line that it names, behind the answer's name
abbrev pub refused_of : List (List ℕ) → Option (ℕ × Reply)
refused_of [] = None
refused_of (line ∷ []) = None
refused_of (line ∷ number ∷ fields) = refused_by (natural_64 line) (refusal_of number fields)

-- the answer that these fields tell, and the line that it names, which is 0 but for a refusal
unfoldable pub told_of : List (List ℕ) → Option (ℕ × Reply)
told_of [] = None
told_of (name ∷ fields) = if bytes_eq name (codes "refused") then refused_of fields
    else option_map (λ r. (0, r)) (reply_of name fields)

-- the first field is the name of an answer that may have a list of literals
unfoldable pub tells_list : List (List ℕ) → Bool
tells_list [] = false
tells_list (name ∷ fields) = bytes_eq name (codes "implied")
    || (bytes_eq name (codes "failed")
    || (bytes_eq name (codes "reasons")
    || (bytes_eq name (codes "model")
    || (bytes_eq name (codes "clause") || bytes_eq name (codes "unsat")))))
