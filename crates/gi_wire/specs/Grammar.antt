-- The grammar of lines, by their words.
use Rattle.std.specs.Prelude.{ℕ, zero, ℤ, pos, negsuc, nat_abs, Bool, true, false, ◌&&◌, ◌||◌, nat_le, List, [], ◌∷◌, if◌then◌else◌, Option, Some, None, option_map, codes}
use Rattle.std.specs.Str.{bytes_eq}
use Rattle.gi_lit.specs.Literals.{literal_of, max_var}
use Rattle.gi_model.specs.Limits.{most_payload}
use Rattle.gi_model.specs.declared.calls.Call.{Call}
use Rattle.gi_model.specs.declared.calls.Call.TheVariants.{Vars, Add, NewGuard, Under, DropGuard, Assume, Test, Untest, Reasons, Solve, Pause, Resume, Stop, Poll, Wait, Model, Known, KnownClause, Bye}
use Rattle.gi_text.specs.Numbers.{number_of}
use Rattle.gi_wire.specs.declared.call.Kind.{Kind}
use Rattle.gi_wire.specs.declared.call.Kind.TheVariants.{Cnf}

-- a number without a sign, within these bounds
abbrev pub within : ℕ → ℕ → Option ℤ → Option ℕ
within least most None = None
within least most (Some (pos n)) = if nat_le least n && nat_le n most then Some n else None
within least most (Some (negsuc n)) = None

abbrev pub count_at : ℕ → ℕ → List ℕ → Option ℕ
count_at least most word = within least most (number_of word)

-- a variable's number, which names a guard
abbrev pub guard_at : List ℕ → Option ℕ
guard_at word = count_at 1 max_var word

-- a variable's number, or its negation
abbrev pub literal_in : Option ℤ → Option ℕ
literal_in None = None
literal_in (Some z) = if nat_le 1 (nat_abs z) && nat_le (nat_abs z) max_var then Some (literal_of z)
    else None

abbrev pub literal_at : List ℕ → Option ℕ
literal_at word = literal_in (number_of word)

abbrev pub is_zero : Option ℤ → Bool
is_zero None = false
is_zero (Some (pos zero)) = true
is_zero (Some z) = false

-- a list ends with the line
abbrev pub ended : List (List ℕ) → Option (List ℕ)
ended [] = Some []
ended (word ∷ words) = None

abbrev pub led_by : Option ℕ → Option (List ℕ) → Option (List ℕ)
led_by None list = None
led_by (Some l) list = option_map (λ ls. l ∷ ls) list

-- literals, and then a 0 as the last word
unfoldable pub list_at : List (List ℕ) → Option (List ℕ)
list_at [] = None
list_at (word ∷ words) = if is_zero (number_of word) then ended words
    else led_by (literal_at word) (list_at words)

-- a call that is its name alone; a solve without a budget has the greatest
unfoldable pub call_alone : List ℕ → Option Call
call_alone name = if bytes_eq name (codes "solve") then Some (Solve 4294967295)
    else if bytes_eq name (codes "wait") then Some Wait
    else if bytes_eq name (codes "model") then Some Model
    else if bytes_eq name (codes "poll") then Some Poll
    else if bytes_eq name (codes "pause") then Some Pause
    else if bytes_eq name (codes "resume") then Some Resume
    else if bytes_eq name (codes "stop") then Some Stop
    else if bytes_eq name (codes "test") then Some Test
    else if bytes_eq name (codes "untest") then Some Untest
    else if bytes_eq name (codes "guard") then Some NewGuard
    else if bytes_eq name (codes "known") then Some Known
    else if bytes_eq name (codes "bye") then Some Bye else None

-- a call with one number
unfoldable pub call_with : List ℕ → List ℕ → Option Call
call_with name word = if bytes_eq name (codes "vars") then option_map Vars (count_at 0 max_var word)
    else if bytes_eq name (codes "drop") then option_map DropGuard (guard_at word)
    else if bytes_eq name (codes "reasons") then option_map Reasons (literal_at word)
    else if bytes_eq name (codes "solve") then option_map Solve (count_at 1 4294967295 word)
    else if bytes_eq name (codes "clause") then option_map KnownClause (count_at 1 4294967295 word)
    else None

-- a clause under one guard
abbrev pub under_by : Option ℕ → Option (List ℕ) → Option Call
under_by None list = None
under_by (Some g) list = option_map (Under (g ∷ [])) list

-- a guard and a list
abbrev pub under_one : List (List ℕ) → Option Call
under_one [] = None
under_one (word ∷ words) = under_by (guard_at word) (list_at words)

abbrev pub guarded_by : Option ℕ → Option (List ℕ × List (List ℕ)) → Option (List ℕ × List (List ℕ))
guarded_by None read = None
guarded_by (Some g) read = option_map (λ p. (g ∷ p.0, p.1)) read

-- the guards before the first word 0, and the words behind it
unfoldable pub guards_at : List (List ℕ) → Option (List ℕ × List (List ℕ))
guards_at [] = None
guards_at (word ∷ words) = if is_zero (number_of word) then Some ([], words)
    else guarded_by (guard_at word) (guards_at words)

-- guards, one at least, and a list
abbrev pub under_guards : Option (List ℕ × List (List ℕ)) → Option Call
under_guards None = None
under_guards (Some ([], words)) = None
under_guards (Some (g ∷ gs, words)) = option_map (Under (g ∷ gs)) (list_at words)

abbrev pub or_else : Option Call → Option Call → Option Call
or_else None other = other
or_else (Some call) other = Some call

-- a guard and a list, or a list of guards and a list: no line is both
abbrev pub under_of : List (List ℕ) → Option Call
under_of words = or_else (under_one words) (under_guards (guards_at words))

-- the words behind the first
abbrev pub behind_name : List (List ℕ) → List (List ℕ)
behind_name [] = []
behind_name (name ∷ words) = words

abbrev pub short_call : List ℕ → List (List ℕ) → Option Call
short_call name [] = call_alone name
short_call name (word ∷ []) = call_with name word
short_call name (word ∷ other ∷ words) = None

-- the call that a line of these words asks for
unfoldable pub call_of : List (List ℕ) → Option Call
call_of [] = None
call_of (name ∷ words) = if bytes_eq name (codes "add") then option_map Add (list_at words)
    else if bytes_eq name (codes "assume") then option_map Assume (list_at words)
    else if bytes_eq name (codes "under") then under_of words else short_call name words

-- the name of a call that has a list of literals
abbrev pub names_list : List ℕ → Bool
names_list name = bytes_eq name (codes "add")
    || (bytes_eq name (codes "assume") || bytes_eq name (codes "under"))

-- the first word is such a name
unfoldable pub has_list : List (List ℕ) → Bool
has_list [] = false
has_list (name ∷ words) = names_list name

-- the last word is `+`
unfoldable pub ends_plus : List (List ℕ) → Bool
ends_plus [] = false
ends_plus (word ∷ []) = bytes_eq word (codes "+")
ends_plus (word ∷ other ∷ words) = ends_plus (other ∷ words)

-- all words but the last
unfoldable pub but_last : List (List ℕ) → List (List ℕ)
but_last [] = []
but_last (word ∷ []) = []
but_last (word ∷ other ∷ words) = word ∷ but_last (other ∷ words)

-- what a line asks for: a call, or a load of so many bytes, which follow the line
pub data Ask : Type 0 where
  Makes : (call : Call) → Ask
  Loads : (kind : Kind) (len : ℕ) → Ask

-- a load, by its kind and its length
unfoldable pub load_with : List ℕ → List ℕ → Option Ask
load_with kind len = if bytes_eq kind (codes "cnf")
    then option_map (Loads Cnf) (count_at 0 most_payload len) else None

abbrev pub load_of : List (List ℕ) → Option Ask
load_of [] = None
load_of (kind ∷ []) = None
load_of (kind ∷ len ∷ []) = load_with kind len
load_of (kind ∷ len ∷ word ∷ words) = None

-- what a line of these words asks for
unfoldable pub ask_of : List (List ℕ) → Option Ask
ask_of [] = None
ask_of (name ∷ words) = if bytes_eq name (codes "load") then load_of words
    else option_map Makes (call_of (name ∷ words))
