-- Every call that an item asks for has a line.
use Rattle.std.proofs.Common.{◌≡◌, ℕ, ◌+◌, ◌-◌, ◌<◌, ◌≤◌, ◌==◌, Bool, true, false, cond, ◌&&◌, leb, ℤ, pos, negsuc, List, [], ◌∷◌, ◌++◌, Option, Some, None, option_map, codes, refl, subst, arith}
use Rattle.std.specs.List.{AllByRecursion}
use Rattle.std.specs.Str.{bytes_eq}
use Rattle.std.proofs.lemmas.Bool.{and_parts, le-leb, leb-true, lt-ltb}
use Rattle.gi_lit.specs.Literals.{max_var}
use Rattle.gi_model.specs.Fits.{fits}
use Rattle.gi_model.specs.declared.calls.Call.{Call}
use Rattle.gi_model.specs.declared.calls.Call.TheVariants as calls
use Rattle.gi_text.specs.Numbers.{number_of}
use Rattle.gi_text.specs.Words.{words_of}
use Rattle.gi_wire.specs.CallText.{has_line}
use Rattle.gi_wire.specs.Gives.{GivesItem, MayBeAsked}
use Rattle.gi_wire.specs.Grammar.{Ask, Loads, Makes, ask_of, call_alone, call_of, call_with, count_at, guard_at, guards_at, list_at, literal_at, load_of, load_with, or_else, short_call, under_by, under_guards, under_one, within}
use Rattle.gi_wire.specs.Items.{InLine, InLoad, Joined, Place, at_end, at_line, at_load, at_start, cut, cut_lines, goes_on_by, is_long, items_from, join, line_at_by, line_by, load_call, then_after}
use Rattle.gi_wire.specs.Source.{Source, ahead, goes_on}
use Rattle.gi_wire.specs.declared.call.Kind.{Kind}
use Rattle.gi_wire.specs.declared.call.Kind.TheVariants.{Cnf}
use Rattle.gi_wire.specs.declared.call.Load.{Load}
use Rattle.gi_wire.specs.declared.reader.RequestKind.{RequestKind}
use Rattle.gi_wire.specs.declared.reader.RequestKind.TheVariants as asked
use Rattle.gi_wire.specs.declared.reader.Request.{Request}
use Rattle.gi_call.specs.Called.{CanSend}

-- what a line needs besides that the call fits
abbrev IsNamed : Call → Type 0
IsNamed (calls.Vars n) = n ≤ max_var
IsNamed (calls.KnownClause i) = 0 < i
IsNamed calls.Shut = ⊥
IsNamed other = Unit {0}

abbrev IsNamedKind : RequestKind → Type 0
IsNamedKind (asked.Call c) = IsNamed c
IsNamedKind asked.Syntax = Unit {0}
IsNamedKind asked.Long = Unit {0}

abbrev AreNamed : List Request → Type 0
AreNamed is = AllByRecursion (λ (i : Request). IsNamedKind i.asked) is

abbrev IfNamed : Option Call → Type 0
IfNamed None = Unit {0}
IfNamed (Some c) = IsNamed c

abbrev IfAsks : Option Ask → Type 0
IfAsks None = Unit {0}
IfAsks (Some (Makes c)) = IsNamed c
IfAsks (Some (Loads kind len)) = Unit {0}

has_a_line : (c : Call) → IsNamed c → fits c ≡ true → has_line c ≡ true
has_a_line (calls.Vars n) h f = le-leb n max_var h
has_a_line (calls.KnownClause i) h f = lt-ltb 0 i h
has_a_line calls.Shut h f = absurd h
has_a_line other h f = f

both : (b : Bool) (x y : Option Call) → IfNamed x → IfNamed y → IfNamed (cond b x y)
both true x y h k = h
both false x y h k = k

mapped : {A : Type 0} (f : A → Call) (o : Option A) → ((x : A) → IsNamed (f x)) → IfNamed (option_map f o)
mapped f None h = tt
mapped f (Some x) h = h x

-- a number within bounds
bounded : (f : ℕ → Call) (least most : ℕ) (z : Option ℤ) → ((n : ℕ) → least ≤ n → n ≤ most → IsNamed (f n)) → IfNamed (option_map f (within least most z))
bounded f least most None h = tt
bounded f least most (Some (negsuc n)) h = tt
bounded f least most (Some (pos n)) h = by (leb least n && leb n most) refl where
  by : (b : Bool) → (leb least n && leb n most) ≡ b → IfNamed (option_map f (cond b (Some n) None))
  by true e = let both_are = and_parts (leb least n) (leb n most) e in h n (leb-true least n both_are.0) (leb-true n most both_are.1)
  by false e = tt

named_alone : (name : List ℕ) → IfNamed (call_alone name)
unfolding call_alone
named_alone name =
    both (bytes_eq name (codes "solve")) _ _ tt
    (both (bytes_eq name (codes "wait")) _ _ tt
    (both (bytes_eq name (codes "model")) _ _ tt
    (both (bytes_eq name (codes "poll")) _ _ tt
    (both (bytes_eq name (codes "pause")) _ _ tt
    (both (bytes_eq name (codes "resume")) _ _ tt
    (both (bytes_eq name (codes "stop")) _ _ tt
    (both (bytes_eq name (codes "test")) _ _ tt
    (both (bytes_eq name (codes "untest")) _ _ tt
    (both (bytes_eq name (codes "guard")) _ _ tt
    (both (bytes_eq name (codes "known")) _ _ tt
    (both (bytes_eq name (codes "bye")) _ _ tt tt)))))))))))

named_with : (name word : List ℕ) → IfNamed (call_with name word)
unfolding call_with
named_with name word =
    both (bytes_eq name (codes "vars")) _ _ (bounded calls.Vars 0 max_var (number_of word) (λ n low high. high))
    (both (bytes_eq name (codes "drop")) _ _ (mapped calls.DropGuard (guard_at word) (λ g. tt))
    (both (bytes_eq name (codes "reasons")) _ _ (mapped calls.Reasons (literal_at word) (λ l. tt))
    (both (bytes_eq name (codes "solve")) _ _ (mapped calls.Solve (count_at 1 4294967295 word) (λ n. tt))
    (both (bytes_eq name (codes "clause")) _ _ (bounded calls.KnownClause 1 4294967295 (number_of word) (λ n low high. omega arith)) tt))))

named_by : (g : Option ℕ) (list : Option (List ℕ)) → IfNamed (under_by g list)
named_by None list = tt
named_by (Some g) list = mapped (calls.Under (g ∷ [])) list (λ ls. tt)

named_one : (words : List (List ℕ)) → IfNamed (under_one words)
named_one [] = tt
named_one (word ∷ words) = named_by (guard_at word) (list_at words)

named_guards : (read : Option (List ℕ × List (List ℕ))) → IfNamed (under_guards read)
named_guards None = tt
named_guards (Some ([], words)) = tt
named_guards (Some (g ∷ gs, words)) = mapped (calls.Under (g ∷ gs)) (list_at words) (λ ls. tt)

either : (one other : Option Call) → IfNamed one → IfNamed other → IfNamed (or_else one other)
either None other h k = k
either (Some c) other h k = h

named_short : (name : List ℕ) (words : List (List ℕ)) → IfNamed (short_call name words)
named_short name [] = named_alone name
named_short name (word ∷ []) = named_with name word
named_short name (word ∷ other ∷ words) = tt

named_call : (words : List (List ℕ)) → IfNamed (call_of words)
unfolding call_of
named_call [] = tt
named_call (name ∷ words) =
    both (bytes_eq name (codes "add")) _ _ (mapped calls.Add (list_at words) (λ ls. tt))
    (both (bytes_eq name (codes "assume")) _ _ (mapped calls.Assume (list_at words) (λ ls. tt))
    (both (bytes_eq name (codes "under")) _ _ (either (under_one words) (under_guards (guards_at words)) (named_one words) (named_guards (guards_at words))) (named_short name words)))

made : (o : Option Call) → IfNamed o → IfAsks (option_map Makes o)
made None h = tt
made (Some c) h = h

loads : (o : Option ℕ) (kind : Kind) → IfAsks (option_map (Loads kind) o)
loads None kind = tt
loads (Some len) kind = tt

load_asks : (kind len : List ℕ) → IfAsks (load_with kind len)
unfolding load_with
load_asks kind len = by (bytes_eq kind (codes "cnf")) where
  by : (b : Bool) → IfAsks (cond b (option_map (Loads Cnf) (count_at 0 16777216 len)) None)
  by true = loads (count_at 0 16777216 len) Cnf
  by false = tt

loads_ask : (words : List (List ℕ)) → IfAsks (load_of words)
loads_ask [] = tt
loads_ask (kind ∷ []) = tt
loads_ask (kind ∷ len ∷ []) = load_asks kind len
loads_ask (kind ∷ len ∷ word ∷ words) = tt

asks : (words : List (List ℕ)) → IfAsks (ask_of words)
unfolding ask_of
asks [] = tt
asks (name ∷ words) = by (bytes_eq name (codes "load")) where
  by : (b : Bool) → IfAsks (cond b (load_of words) (option_map Makes (call_of (name ∷ words))))
  by true = loads_ask words
  by false = made (call_of (name ∷ words)) (named_call (name ∷ words))

-- so it is from every place on
load_named : (line : ℕ) (kind : Kind) (got : List ℕ) (missing : ℕ) (next : ℕ → Place → List Request) → ((k : ℕ) (p : Place) → AreNamed (next k p)) → AreNamed (at_load line kind got missing next)
unfolding at_load
load_named line kind got missing next h = by (missing == 0) where
  loaded : (kind : Kind) → IsNamed (load_call kind got)
  loaded Cnf = tt

  by : (b : Bool) → AreNamed (cond b (then_after line line (asked.Call (load_call kind got)) next) (next line (InLoad kind got missing)))
  by true = (loaded kind, h (line + 1) (at_start (line + 1)))
  by false = h line (InLoad kind got missing)

line_by_named : (first line : ℕ) (ask : Option Ask) (next : ℕ → Place → List Request) → IfAsks ask → ((k : ℕ) (p : Place) → AreNamed (next k p)) → AreNamed (line_by first line ask next)
line_by_named first line None next a h = (tt, h (line + 1) (at_start (line + 1)))
line_by_named first line (Some (Makes c)) next a h = (a, h (line + 1) (at_start (line + 1)))
line_by_named first line (Some (Loads kind len)) next a h = load_named line kind [] len next h

line_named : (line : ℕ) (joined : Joined) (bytes : List ℕ) (next : ℕ → Place → List Request) → ((k : ℕ) (p : Place) → AreNamed (next k p)) → AreNamed (at_line line joined bytes next)
unfolding at_line
line_named line joined bytes next h = by (is_long joined bytes) (goes_on_by joined.words (words_of bytes)) where
  by : (b c : Bool) → AreNamed (cond b (then_after joined.first line asked.Long next) (line_at_by c line joined bytes next))
  by true c = (tt, h (line + 1) (at_start (line + 1)))
  by false true = h (line + 1) (InLine (join joined bytes) [])
  by false false = line_by_named joined.first line (ask_of (joined.words ++ words_of bytes)) next (asks (joined.words ++ words_of bytes)) h

cut_lines_named : (words : List (List ℕ)) (first : ℕ) → AreNamed (cut_lines words first)
cut_lines_named [] first = tt
cut_lines_named (word ∷ words) first = (tt, tt)

cut_named : (line : ℕ) (place : Place) → AreNamed (cut line place)
cut_named line (InLine joined begun) = cut_lines_named joined.words joined.first
cut_named line (InLoad kind got missing) = (tt, tt)

end_named : (line : ℕ) (place : Place) → AreNamed (at_end line place)
end_named line (InLine joined []) = cut_named line (InLine joined [])
end_named line (InLine joined (b ∷ bs)) = line_named line joined (b ∷ bs) cut cut_named
end_named line (InLoad kind got missing) = (tt, tt)

items_named : (ended : Bool) (line : ℕ) (place : Place) (bytes : List ℕ) → AreNamed (items_from ended line place bytes)
unfolding items_from
items_named true line place [] = end_named line place
items_named false line place [] = tt
items_named ended line (InLine joined begun) (b ∷ bs) = by (λ k place. items_named ended k place bs) (b == 10) where
  by : ((k : ℕ) (place : Place) → AreNamed (items_from ended k place bs)) → (c : Bool) → AreNamed (cond c (at_line line joined begun (λ k place. items_from ended k place bs)) (items_from ended line (InLine joined (begun ++ b ∷ [])) bs))
  by ih true = line_named line joined begun (λ k place. items_from ended k place bs) ih
  by ih false = ih line (InLine joined (begun ++ b ∷ []))
items_named ended line (InLoad kind got missing) (b ∷ bs) = load_named line kind (got ++ b ∷ []) (missing - 1) (λ k place. items_from ended k place bs) (λ k place. items_named ended k place bs)

ahead_named : (s : Source) (ended : Bool) (more : List ℕ) → AreNamed (ahead s ended more)
unfolding ahead
ahead_named s ended more = by s.load where
  by : (load : Option Load) → AreNamed (goes_on load s.joined s.line (λ line place. items_from ended line place (s.lines.left ++ more)))
  by None = items_named ended s.line (InLine s.joined []) (s.lines.left ++ more)
  by (Some load) = load_named s.line load.kind [] load.len (λ line place. items_from ended line place (s.lines.left ++ more)) (λ line place. items_named ended line place (s.lines.left ++ more))

kind_sends : (a : RequestKind) → IsNamedKind a → MayBeAsked a → CanSend a
kind_sends (asked.Call c) h f = has_a_line c h f
kind_sends asked.Syntax h f = tt
kind_sends asked.Long h f = tt

-- an item that is given can be sent
pub given_sends : (i : Request) (s t : Source) → GivesItem i s t → CanSend i.asked
given_sends i s t gives =
    let named : AreNamed (i ∷ ahead t s.lines.ended []) = subst AreNamed (gives.ahead_is s.lines.ended [] (λ e. (e, refl))) (ahead_named s s.lines.ended []) in
    kind_sends i.asked named.0 gives.may_be
