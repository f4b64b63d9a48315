-- No line asks that the machine be shut.
use Rattle.std.proofs.Common.{◌≡◌, ◌≢◌, ℕ, ◌+◌, ◌-◌, ◌==◌, Bool, true, false, cond, Option, Some, None, option_map, option_to_list, List, [], ◌∷◌, ◌++◌, codes, ◌⊎◌, inl, inr, sym, ap, subst}
use Rattle.std.specs.Str.{bytes_eq}
use Rattle.gi_model.specs.declared.calls.Call.{Call}
use Rattle.gi_model.specs.declared.calls.Call.TheVariants as call
use Rattle.gi_text.specs.Words.{words_of}
use Rattle.gi_lit.specs.Literals.{max_var}
use Rattle.gi_wire.specs.declared.call.Kind.{Kind}
use Rattle.gi_wire.specs.declared.call.Kind.TheVariants.{Cnf}
use Rattle.gi_wire.specs.Grammar.{Ask, Makes, Loads, ask_of, call_alone, call_of, call_with, count_at, guard_at, guards_at, list_at, literal_at, load_of, load_with, or_else, short_call, under_by, under_guards, under_of, under_one}
use Rattle.gi_wire.specs.Items.{Joined, Place, InLine, InLoad, at_end, at_line, at_load, at_start, cut, cut_lines, goes_on_by, is_long, items, items_from, join, line_at_by, line_by, load_call, then_after, then_next}
use Rattle.gi_wire.specs.declared.reader.RequestKind.{RequestKind}
use Rattle.gi_wire.specs.declared.reader.RequestKind.TheVariants as asked
use Rattle.gi_wire.specs.declared.reader.Request.{Request}
use Rattle.gi_net.specs.Answers.{call_in, calls}
use Rattle.gi_run.proofs.Having.{Has, has_left}

abbrev IsElse : Option Call → Type 0
IsElse o = o ≢ Some call.Shut

either : (b : Bool) (x y : Option Call) → IsElse x → IsElse y → IsElse (cond b x y)
either true x y h k = h
either false x y h k = k

mapped : {X : Type 0} (f : X → Call) (o : Option X) → ((x : X) → f x ≢ call.Shut) → IsElse (option_map f o)
mapped f None n e = absurd cc
mapped f (Some x) n e = n x cc

alone : (name : List ℕ) → IsElse (call_alone name)
unfolding call_alone
alone name = either _ (Some (call.Solve 4294967295)) _ (λ e. cc) (either _ (Some call.Wait) _ (λ e. cc) (either _ (Some call.Model) _ (λ e. cc) (either _ (Some call.Poll) _ (λ e. cc) (either _ (Some call.Pause) _ (λ e. cc) (either _ (Some call.Resume) _ (λ e. cc) (either _ (Some call.Stop) _ (λ e. cc) (either _ (Some call.Test) _ (λ e. cc) (either _ (Some call.Untest) _ (λ e. cc) (either _ (Some call.NewGuard) _ (λ e. cc) (either _ (Some call.Known) _ (λ e. cc) (either _ (Some call.Bye) None (λ e. cc) (λ e. cc))))))))))))

numbered : (name word : List ℕ) → IsElse (call_with name word)
unfolding call_with
numbered name word = either (bytes_eq name (codes "vars")) (option_map call.Vars (count_at 0 max_var word)) _ (mapped call.Vars (count_at 0 max_var word) (λ x e. cc))
    (either (bytes_eq name (codes "drop")) (option_map call.DropGuard (guard_at word)) _ (mapped call.DropGuard (guard_at word) (λ x e. cc))
    (either (bytes_eq name (codes "reasons")) (option_map call.Reasons (literal_at word)) _ (mapped call.Reasons (literal_at word) (λ x e. cc))
    (either (bytes_eq name (codes "solve")) (option_map call.Solve (count_at 1 4294967295 word)) _ (mapped call.Solve (count_at 1 4294967295 word) (λ x e. cc))
    (either (bytes_eq name (codes "clause")) (option_map call.KnownClause (count_at 1 4294967295 word)) None (mapped call.KnownClause (count_at 1 4294967295 word) (λ x e. cc))
    (λ e. cc)))))

short : (name : List ℕ) (words : List (List ℕ)) → IsElse (short_call name words)
short name [] = alone name
short name (word ∷ []) = numbered name word
short name (word ∷ other ∷ words) = λ e. cc

by_guard : (g : Option ℕ) (list : Option (List ℕ)) → IsElse (under_by g list)
by_guard None list = λ e. cc
by_guard (Some g) list = mapped (call.Under (g ∷ [])) list (λ x e. cc)

under_first : (words : List (List ℕ)) → IsElse (under_one words)
under_first [] = λ e. cc
under_first (word ∷ words) = by_guard (guard_at word) (list_at words)

by_guards : (read : Option (List ℕ × List (List ℕ))) → IsElse (under_guards read)
by_guards None = λ e. cc
by_guards (Some ([], words)) = λ e. cc
by_guards (Some (g ∷ gs, words)) = mapped (call.Under (g ∷ gs)) (list_at words) (λ x e. cc)

one_of : (x y : Option Call) → IsElse x → IsElse y → IsElse (or_else x y)
one_of None y h k = k
one_of (Some c) y h k = h

under : (words : List (List ℕ)) → IsElse (under_of words)
under words = one_of (under_one words) (under_guards (guards_at words)) (under_first words) (by_guards (guards_at words))

by_words : (words : List (List ℕ)) → IsElse (call_of words)
unfolding call_of
by_words [] = λ e. cc
by_words (name ∷ words) = either (bytes_eq name (codes "add")) (option_map call.Add (list_at words)) _ (mapped call.Add (list_at words) (λ x e. cc))
    (either (bytes_eq name (codes "assume")) (option_map call.Assume (list_at words)) _ (mapped call.Assume (list_at words) (λ x e. cc))
    (either (bytes_eq name (codes "under")) (under_of words) (short_call name words) (under words) (short name words)))

-- a load is another call
load_other : (kind : Kind) (bytes : List ℕ) → load_call kind bytes ≢ call.Shut
load_other Cnf bytes e = absurd cc

abbrev IsOther : Option Ask → Type 0
IsOther o = o ≢ Some (Makes call.Shut)

made : (o : Option Call) → IsElse o → IsOther (option_map Makes o)
made None n e = absurd cc
made (Some c) n e = n cc

loading : (o : Option ℕ) → IsOther (option_map (Loads Cnf) o)
loading None e = absurd cc
loading (Some len) e = absurd cc

loads_with : (kind len : List ℕ) → IsOther (load_with kind len)
unfolding load_with
loads_with kind len = go (bytes_eq kind (codes "cnf"))
  where
    go : (b : Bool) → IsOther (cond b (option_map (Loads Cnf) (count_at 0 16777216 len)) None)
    go true = loading (count_at 0 16777216 len)
    go false = λ e. cc

loads_of : (words : List (List ℕ)) → IsOther (load_of words)
loads_of [] = λ e. cc
loads_of (kind ∷ []) = λ e. cc
loads_of (kind ∷ len ∷ []) = loads_with kind len
loads_of (kind ∷ len ∷ word ∷ words) = λ e. cc

of_words : (words : List (List ℕ)) → IsOther (ask_of words)
unfolding ask_of
of_words [] = λ e. cc
of_words (name ∷ words) = go (bytes_eq name (codes "load"))
  where
    go : (b : Bool) → IsOther (cond b (load_of words) (option_map Makes (call_of (name ∷ words))))
    go true = loads_of words
    go false = made (call_of (name ∷ words)) (by_words (name ∷ words))

abbrev AsksShut : Request → Type 0
AsksShut i = i.asked ≡ asked.Call call.Shut

-- nothing that comes next is a shut
abbrev Never : (ℕ → Place → List Request) → Type 0
Never next = (line : ℕ) (place : Place) → ¬ Has AsksShut (next line place)

never_after : (first line : ℕ) (what : RequestKind) (next : ℕ → Place → List Request) → what ≢ asked.Call call.Shut → Never next → ¬ Has AsksShut (then_after first line what next)
never_after first line what next other rest (inl here) = other here
never_after first line what next other rest (inr there) = rest (line + 1) (at_start (line + 1)) there

never_load : (line : ℕ) (kind : Kind) (got : List ℕ) (missing : ℕ) (next : ℕ → Place → List Request) → Never next → ¬ Has AsksShut (at_load line kind got missing next)
unfolding at_load
never_load line kind got missing next rest h = go (missing == 0) h
  where
    go : (t : Bool) → Has AsksShut (cond t (then_next line (asked.Call (load_call kind got)) next) (next line (InLoad kind got missing))) → ⊥
    go true h = never_after line line (asked.Call (load_call kind got)) next (λ e. load_other kind got cc) rest h
    go false h = rest line (InLoad kind got missing) h

never_by : (first line : ℕ) (o : Option Ask) (next : ℕ → Place → List Request) → IsOther o → Never next → ¬ Has AsksShut (line_by first line o next)
never_by first line None next n rest h = never_after first line asked.Syntax next (λ e. absurd cc) rest h
never_by first line (Some (Makes c)) next n rest h = never_after first line (asked.Call c) next (λ e. n cc) rest h
never_by first line (Some (Loads kind len)) next n rest h = never_load line kind [] len next rest h

never_line : (line : ℕ) (joined : Joined) (bytes : List ℕ) (next : ℕ → Place → List Request) → Never next → ¬ Has AsksShut (at_line line joined bytes next)
unfolding at_line
never_line line joined bytes next rest h = go (is_long joined bytes) (goes_on_by joined.words (words_of bytes)) h
  where
    go : (long goes : Bool) → Has AsksShut (cond long (then_after joined.first line asked.Long next) (line_at_by goes line joined bytes next)) → ⊥
    go true goes h = never_after joined.first line asked.Long next (λ e. absurd cc) rest h
    go false true h = rest (line + 1) (InLine (join joined bytes) []) h
    go false false h = never_by joined.first line (ask_of (joined.words ++ words_of bytes)) next (of_words (joined.words ++ words_of bytes)) rest h

never_cut_lines : (words : List (List ℕ)) (first : ℕ) → ¬ Has AsksShut (cut_lines words first)
never_cut_lines [] first h = h
never_cut_lines (w ∷ ws) first (inl here) = absurd cc
never_cut_lines (w ∷ ws) first (inr there) = there

never_cut : Never cut
never_cut line (InLine joined begun) h = never_cut_lines joined.words joined.first h
never_cut line (InLoad kind got missing) (inl here) = absurd cc
never_cut line (InLoad kind got missing) (inr there) = there

never_last : Never at_end
never_last line (InLine joined []) h = never_cut line (InLine joined []) h
never_last line (InLine joined (b ∷ bs)) h = never_line line joined (b ∷ bs) cut never_cut h
never_last line (InLoad kind got missing) h = never_cut line (InLoad kind got missing) h

never_from : (bs : List ℕ) (ended : Bool) → Never (λ line place. items_from ended line place bs)
unfolding items_from
never_from [] true line place h = never_last line place h
never_from [] false line place h = h
never_from (b ∷ bs) ended line (InLine joined begun) h = go (never_from bs ended) (b == 10) h
  where
    go : Never (λ k place. items_from ended k place bs) → (t : Bool)
        → Has AsksShut (cond t (at_line line joined begun (λ k place. items_from ended k place bs)) (items_from ended line (InLine joined (begun ++ b ∷ [])) bs)) → ⊥
    go rest true h = never_line line joined begun (λ k place. items_from ended k place bs) rest h
    go rest false h = rest line (InLine joined (begun ++ b ∷ [])) h
never_from (b ∷ bs) ended line (InLoad kind got missing) h = never_load line kind (got ++ b ∷ []) (missing - 1) (λ k place. items_from ended k place bs) (never_from bs ended) h

asked_by_item : (is : List Request) → Has (λ (c : Call). c ≡ call.Shut) (calls is) → Has AsksShut is
asked_by_item [] h = h
asked_by_item (i ∷ is) h = go (asked_by_item is) i.asked h
  where
    go : (Has (λ (c : Call). c ≡ call.Shut) (calls is) → Has AsksShut is) → (a : RequestKind) → Has (λ (c : Call). c ≡ call.Shut) (option_to_list (call_in a) ++ calls is)
        → (a ≡ asked.Call call.Shut) ⊎ Has AsksShut is
    go rest (asked.Call c) (inl here) = inl (ap asked.Call here)
    go rest (asked.Call c) (inr there) = inr (rest there)
    go rest asked.Syntax there = inr (rest there)
    go rest asked.Long there = inr (rest there)

-- so no call of an input's items is a shut
pub never_called : (ended : Bool) (bytes : List ℕ) (front rest : List Request) → items ended bytes ≡ front ++ rest → ¬ Has (λ (c : Call). c ≡ call.Shut) (calls front)
never_called ended bytes front rest split h =
    never_from bytes ended 1 (at_start 1) (subst (Has AsksShut) (sym split) (has_left AsksShut front rest (asked_by_item front h)))
