-- What a reader gives.
use Rattle.std.proofs.Common.{◌≡◌, ℕ, ◌+◌, ◌<◌, ◌≤◌, List, [], ◌∷◌, ◌++◌, length, take, drop, Option, Some, None, option_map, Bool, true, false, cond, ◌&&◌, ◌||◌, inl, inr, codes, bytes_eq, refl, ap, sym, ◌∙◌, subst, arith, append_assoc, length-drop}
use Rattle.std.proofs.lemmas.List.{append-nil, length-take-le, length-take, take-append-drop}
use Rattle.std.proofs.lemmas.Bool.{le-leb}
use Rattle.std.proofs.lemmas.Bool.Decides.{eqb_tells}
use Rattle.std.proofs.lemmas.Slice.Eq.{bytes_eq-Decides}
use Rattle.gi_model.specs.declared.calls.Call.{Call}
use Rattle.gi_model.specs.declared.calls.Call.TheVariants as call
use Rattle.gi_model.specs.Fits.{fits}
use Rattle.gi_model.specs.Limits.{most_payload}
use Rattle.gi_text.specs.Lines.{Kept, fed, GivesLine}
use Rattle.gi_text.specs.Lines.{Waits as WaitsLine, without_front}
use Rattle.gi_text.specs.Words.{words_of}
use Rattle.gi_text.proofs.Dropping.{none_in_front}
use Rattle.gi_wire.specs.declared.call.Kind.{Kind}
use Rattle.gi_wire.specs.declared.call.Kind.TheVariants.{Cnf}
use Rattle.gi_wire.specs.declared.call.Load.{Load}
use Rattle.gi_wire.specs.declared.reader.RequestKind.{RequestKind}
use Rattle.gi_wire.specs.declared.reader.RequestKind.TheVariants as asked
use Rattle.gi_wire.specs.declared.reader.NextRequest.{NextRequest}
use Rattle.gi_wire.specs.declared.reader.NextRequest.TheVariants as given
use Rattle.gi_wire.specs.declared.reader.Request.{Request}
use Rattle.gi_wire.specs.Gives.{AsksMemory, GoesOn, MayBeAsked, GivesItem, GivesLoad, GivesNext, SameAhead, TakesMemory, Waits, takes_memory}
use Rattle.gi_wire.specs.Grammar.{Loads, Makes, ask_of, call_of, ends_plus, guard_at, guards_at, has_list, list_at, or_else, under_by, under_guards, under_one}
use Rattle.gi_wire.specs.Holds.{HoldsLoad, HoldsLong}
use Rattle.gi_wire.specs.Items.{Joined, Place, InLine, alone, at_line, at_load, at_start, cut, cut_lines, goes_on_by, is_long, item, items_from, join, line_at_by, line_by, load_call, then_after}
use Rattle.gi_wire.specs.Limits.{most_joined, most_line}
use Rattle.gi_wire.specs.Source.{Source, ahead, goes_on, is_joined, last_line, most_items, under_way}
use Rattle.gi_wire.proofs.Plus.{list_joined, list_stays}
use Rattle.gi_wire.proofs.Reading.{fed_ahead, fed_length, kept_ahead, last_line_is, line_goes_on, lines_cut, load_short, load_whole, next_is, none_yet, nothing_ahead, nothing_behind, shorter}

-- a source by the fields of a reader
abbrev pub source_of : Kept → ℕ → Joined → Option Load → Source
source_of lines line joined load = record { lines = lines; line = line; joined = joined; load = load }

few_joined : (ws : List (List ℕ)) → is_joined ws ≤ 1
few_joined [] = omega arith
few_joined (w ∷ ws) = omega arith

some_joined : (ws : List (List ℕ)) → 0 < length ws → is_joined ws ≡ 1
some_joined [] some = absurd (omega arith)
some_joined (w ∷ ws) some = refl

-- a line, with those that go on in it, makes an item
pub gives_line : (s t : Source) (new : Kept) (l : List ℕ) (what : RequestKind) → s.load ≡ None → GivesLine l s.lines new → ((next : ℕ → Place → List Request) → at_line s.line s.joined l next ≡ then_after s.joined.first s.line what next) → MayBeAsked what
    → t ≡ record { lines = new; line = s.line + 1; joined = alone (s.line + 1); load = None } → GivesItem (item s.joined.first what) s t
unfolding ahead
gives_line s t new l what none given makes may same =
    subst (λ (r : Source). GivesItem (item s.joined.first what) s r) (sym same) (record {
      ahead_is = λ e more comes. ap (λ (o : Option Load). goes_on o s.joined s.line (λ i p. items_from e i p (s.lines.left ++ more))) none
          ∙ next_is e s.line s.joined s.lines new l more given comes ∙ makes (λ i p. items_from e i p (new.left ++ more));
      may_be = may;
      ended = given.ended;
      fewer = omega (arith, shorter s.lines new l given);
      count = omega (arith, shorter s.lines new l given);
    })

-- a line goes on in the next
pub joins_line : (s t : Source) (new : Kept) (l : List ℕ) → s.load ≡ None → GivesLine l s.lines new → length l ≤ most_line → s.joined.size + length l ≤ most_joined → goes_on_by s.joined.words (words_of l) ≡ true
    → t ≡ record { lines = new; line = s.line + 1; joined = join s.joined l; load = None } → GoesOn s t
unfolding ahead
joins_line s t new l none given short few goes same =
    subst (λ (r : Source). GoesOn s r) (sym same) (record {
      same = record {
        each = λ e more comes. sym (ap (λ (o : Option Load). goes_on o s.joined s.line (λ i p. items_from e i p (s.lines.left ++ more))) none
            ∙ next_is e s.line s.joined s.lines new l more given comes ∙ line_goes_on s.line s.joined l (λ i p. items_from e i p (new.left ++ more)) short few goes);
      };
      ended = given.ended;
      load = refl;
      fewer = omega (arith, shorter s.lines new l given, few_joined (join s.joined l).words);
      count = omega (arith, shorter s.lines new l given);
      less = shorter s.lines new l given;
    })

-- what is ahead where nothing is left
ahead_left : (s : Source) (j : Joined) (e : Bool) → s.load ≡ None → s.lines.left ≡ [] → goes_on s.load j s.line (λ i p. items_from e i p (s.lines.left ++ [])) ≡ items_from e s.line (InLine j []) []
ahead_left s j e none left = ap (λ (o : Option Load). goes_on o j s.line (λ i p. items_from e i p (s.lines.left ++ []))) none ∙ ap (λ (xs : List ℕ). items_from e s.line (InLine j []) (xs ++ [])) left

-- lines that go on are refused at the end
pub cuts_lines : (s t : Source) (j : Joined) → s.load ≡ None → s.lines.left ≡ [] → s.lines.ended ≡ true → 0 < length s.joined.words → j.words ≡ [] → t ≡ record s { joined = j } → GivesItem (item s.joined.first asked.Syntax) s t
unfolding ahead
cuts_lines s t j none left ended some empty same =
    subst (λ (r : Source). GivesItem (item s.joined.first asked.Syntax) s r) (sym same) (record {
      ahead_is = λ e more comes.
          let now = comes ended in
          rw (now.0, now.1) (ahead_left s s.joined true none left ∙ lines_cut s.line s.joined some
          ∙ ap (λ (is : List Request). item s.joined.first asked.Syntax ∷ is) (sym (ahead_left s j true none left ∙ nothing_behind true s.line j empty)));
      may_be = tt;
      ended = refl;
      fewer = omega (arith, some_joined s.joined.words some, ap is_joined empty);
      count = omega arith;
    })

-- a line with a list makes an item that takes memory
list_wants : (first line : ℕ) (words : List (List ℕ)) (next : ℕ → Place → List Request) → has_list words ≡ true → TakesMemory (line_by first line (ask_of words) next)
unfolding has_list ask_of call_of
list_wants first line [] next h = let no : false ≡ true = h in cc
list_wants first line (name ∷ words) next h = by_name (bytes_eq name (codes "add")) (bytes_eq name (codes "assume")) refl refl h where
  named_add : (o : Option (List ℕ)) → TakesMemory (line_by first line (option_map Makes (option_map call.Add o)) next)
  named_add None = refl
  named_add (Some ls) = refl

  named_assume : (o : Option (List ℕ)) → TakesMemory (line_by first line (option_map Makes (option_map call.Assume o)) next)
  named_assume None = refl
  named_assume (Some ls) = refl

  named_group : (gs : List ℕ) (o : Option (List ℕ)) → TakesMemory (line_by first line (option_map Makes (option_map (call.Under gs) o)) next)
  named_group gs None = refl
  named_group gs (Some ls) = refl

  named_guard : (o : Option ℕ) (l : Option (List ℕ)) → TakesMemory (line_by first line (option_map Makes (under_by o l)) next)
  named_guard None l = refl
  named_guard (Some g) l = named_group (g ∷ []) l

  named_one : (ws : List (List ℕ)) → TakesMemory (line_by first line (option_map Makes (under_one ws)) next)
  named_one [] = refl
  named_one (w ∷ ws) = named_guard (guard_at w) (list_at ws)

  named_guards : (o : Option (List ℕ × List (List ℕ))) → TakesMemory (line_by first line (option_map Makes (under_guards o)) next)
  named_guards None = refl
  named_guards (Some ([], ws)) = refl
  named_guards (Some (g ∷ gs, ws)) = named_group (g ∷ gs) (list_at ws)

  either : (a b : Option Call) → TakesMemory (line_by first line (option_map Makes a) next) → TakesMemory (line_by first line (option_map Makes b) next) → TakesMemory (line_by first line (option_map Makes (or_else a b)) next)
  either None b x y = y
  either (Some c) b x y = x

  add : TakesMemory (line_by first line (ask_of (codes "add" ∷ words)) next)
  add = named_add (list_at words)

  assume : TakesMemory (line_by first line (ask_of (codes "assume" ∷ words)) next)
  assume = named_assume (list_at words)

  under : TakesMemory (line_by first line (ask_of (codes "under" ∷ words)) next)
  under = either (under_one words) (under_guards (guards_at words)) (named_one words) (named_guards (guards_at words))

  for_name : (known : List ℕ) → bytes_eq name known ≡ true → TakesMemory (line_by first line (ask_of (known ∷ words)) next) → TakesMemory (line_by first line (ask_of (name ∷ words)) next)
  for_name known e wants = subst (λ (w : List ℕ). TakesMemory (line_by first line (ask_of (w ∷ words)) next)) (sym ((bytes_eq-Decides name known).0 e)) wants

  by_name : (a b : Bool) → bytes_eq name (codes "add") ≡ a → bytes_eq name (codes "assume") ≡ b → (bytes_eq name (codes "add") || (bytes_eq name (codes "assume") || bytes_eq name (codes "under"))) ≡ true → TakesMemory (line_by first line (ask_of (name ∷ words)) next)
  by_name true b x y z = for_name (codes "add") x add
  by_name false true x y z = for_name (codes "assume") y assume
  by_name false false x y z = for_name (codes "under") (rw (x, y) at z) under

and_right : (a b : Bool) → (a && b) ≡ true → b ≡ true
and_right true b h = h
and_right false b h = cc

-- a line of that kind, where those that go on take memory
flag_wants : (goes : Bool) (line : ℕ) (j : Joined) (b : List ℕ) (next : ℕ → Place → List Request) → goes_on_by j.words (words_of b) ≡ goes → has_list (j.words ++ words_of b) ≡ true
    → ((i : ℕ) (k : Joined) → has_list k.words ≡ true → TakesMemory (next i (InLine k []))) → TakesMemory (line_at_by goes line j b next)
flag_wants true line j b next goes list more = more (line + 1) (join j b) (list_joined j.words (words_of b) list (and_right (has_list (j.words ++ words_of b)) (ends_plus (words_of b)) goes))
flag_wants false line j b next goes list more = list_wants j.first line (j.words ++ words_of b) next list

size_wants : (long : Bool) (line : ℕ) (j : Joined) (b : List ℕ) (next : ℕ → Place → List Request) → has_list (j.words ++ words_of b) ≡ true
    → ((i : ℕ) (k : Joined) → has_list k.words ≡ true → TakesMemory (next i (InLine k []))) → TakesMemory (cond long (then_after j.first line asked.Long next) (line_at_by (goes_on_by j.words (words_of b)) line j b next))
size_wants true line j b next list more = refl
size_wants false line j b next list more = flag_wants (goes_on_by j.words (words_of b)) line j b next refl list more

line_takes : (line : ℕ) (j : Joined) (b : List ℕ) (next : ℕ → Place → List Request) → has_list (j.words ++ words_of b) ≡ true
    → ((i : ℕ) (k : Joined) → has_list k.words ≡ true → TakesMemory (next i (InLine k []))) → TakesMemory (at_line line j b next)
unfolding at_line
line_takes line j b next list more = size_wants (is_long j b) line j b next list more

cut_wants : (ws : List (List ℕ)) (first : ℕ) → TakesMemory (cut_lines ws first)
cut_wants [] first = tt
cut_wants (w ∷ ws) first = refl

-- lines that go on take memory, whatever comes
joined_wants : (e : Bool) (bs : List ℕ) (line : ℕ) (j : Joined) (begun : List ℕ) → has_list j.words ≡ true → TakesMemory (items_from e line (InLine j begun) bs)
unfolding items_from
joined_wants true [] line j [] list = cut_wants j.words j.first
joined_wants true [] line j (b ∷ begun) list = line_takes line j (b ∷ begun) cut (list_stays j.words (words_of (b ∷ begun)) list) (λ i k h. cut_wants k.words k.first)
joined_wants false [] line j begun list = tt
joined_wants e (b ∷ bs) line j begun list = elim (eqb_tells b 10) [
  | inl t ↦ rw t.0 (line_takes line j begun (λ i p. items_from e i p bs) (list_stays j.words (words_of begun) list) (λ i k h. joined_wants e bs i k [] h))
  | inr f ↦ rw f.0 (joined_wants e bs line j (begun ++ b ∷ []) list)
]

-- so does a line of that kind that is ahead
pub line_wants : (s : Source) (new : Kept) (l : List ℕ) → s.load ≡ None → GivesLine l s.lines new → has_list (s.joined.words ++ words_of l) ≡ true → AsksMemory s
unfolding ahead
line_wants s new l none given list = record {
  each = λ e more comes. subst (λ (is : List Request). TakesMemory is)
      (sym (ap (λ (o : Option Load). goes_on o s.joined s.line (λ i p. items_from e i p (s.lines.left ++ more))) none
      ∙ next_is e s.line s.joined s.lines new l more given comes))
      (line_takes s.line s.joined l (λ i p. items_from e i p (new.left ++ more)) list (λ i k h. joined_wants e (new.left ++ more) i k [] h));
}

-- no line is whole yet
pub line_waits : (s t : Source) (new : Kept) → s.load ≡ None → s.lines.most ≡ most_line → WaitsLine s.lines new → t ≡ record { lines = new; line = s.line; joined = s.joined; load = s.load } → Waits s t
unfolding ahead
line_waits s t new plain limit waits same =
    let front : new.left ≡ take (most_line + 1) s.lines.left = waits.left ∙ ap (λ (n : ℕ). take (n + 1) s.lines.left) limit in
    subst (λ (r : Source). Waits s r) (sym same) (record {
      none = ap (λ (o : Option Load). goes_on o s.joined s.line (λ i p. items_from false i p (s.lines.left ++ []))) plain
          ∙ ap (items_from false s.line (InLine s.joined [])) (append-nil s.lines.left) ∙ none_yet s.line s.joined [] s.lines.left waits.none;
      not_ended = waits.not_ended;
      same = record {
        each = λ e more comes. ap (λ (o : Option Load). goes_on o s.joined s.line (λ i p. items_from e i p (new.left ++ more))) plain
            ∙ ap (λ (xs : List ℕ). items_from e s.line (InLine s.joined []) (xs ++ more)) front
            ∙ kept_ahead e s.line s.joined s.lines.left more waits.none (none_in_front s.lines.left (most_line + 1) waits.none)
            ∙ sym (ap (λ (o : Option Load). goes_on o s.joined s.line (λ i p. items_from e i p (s.lines.left ++ more))) plain);
      };
      ended = waits.ended ∙ waits.not_ended;
      count = omega (arith, ap length front, length-take (most_line + 1) s.lines.left);
    })

-- a line begins a load
pub begins_load : (s m : Source) (j : Joined) (new : Kept) (l : List ℕ) (kind : Kind) (len : ℕ) → s.load ≡ None → GivesLine l s.lines new → length l ≤ most_line → s.joined.size + length l ≤ most_joined → goes_on_by s.joined.words (words_of l) ≡ false → ask_of (s.joined.words ++ words_of l) ≡ Some (Loads kind len)
    → m ≡ record { lines = new; line = s.line; joined = j; load = Some (record { kind = kind; len = len }) } → SameAhead s m
unfolding ahead
begins_load s m j new l kind len none given short few ends is same =
    subst (λ (r : Source). SameAhead s r) (sym same) (record {
      each = λ e more comes. sym (ap (λ (o : Option Load). goes_on o s.joined s.line (λ i p. items_from e i p (s.lines.left ++ more))) none
          ∙ next_is e s.line s.joined s.lines new l more given comes ∙ last_line_is s.line s.joined l (Some (Loads kind len)) (λ i p. items_from e i p (new.left ++ more)) short few ends is);
    })

pub fewer_behind : (s m : Source) (j : Joined) (new : Kept) (l : List ℕ) (load : Load) → GivesLine l s.lines new → j.words ≡ [] → m ≡ record { lines = new; line = s.line; joined = j; load = Some load } → (most_items m ≤ most_items s) × (last_line m ≤ last_line s)
fewer_behind s m j new l load given empty same =
    (omega (arith, ap (λ (r : Source). most_items r) same, shorter s.lines new l given, ap is_joined empty), omega (arith, ap (λ (r : Source). last_line r) same, shorter s.lines new l given))

may_load : (kind : Kind) (bytes : List ℕ) → length bytes ≤ most_payload → fits (load_call kind bytes) ≡ true
may_load Cnf bytes few = le-leb (length bytes) most_payload few

-- the bytes of a load are there
pub gives_load : (s t : Source) (load : Load) (bytes : List ℕ) (new : Kept) → s.load ≡ Some load → load.len ≤ most_payload → load.len ≤ length s.lines.left → bytes ≡ take load.len s.lines.left → new ≡ without_front load.len s.lines
    → t ≡ record { lines = new; line = s.line + 1; joined = alone (s.line + 1); load = None } → GivesItem (item s.line (asked.Call (load_call load.kind bytes))) s t
unfolding ahead
gives_load s t load bytes new under few there is rest same =
    let left : new.left ≡ drop load.len s.lines.left = ap (λ (k : Kept). k.left) rest in
    subst (λ (r : Source). GivesItem (item s.line (asked.Call (load_call load.kind bytes))) s r) (sym same) (record {
      ahead_is = λ e more comes. ap (λ (o : Option Load). goes_on o s.joined s.line (λ j p. items_from e j p (s.lines.left ++ more))) under
          ∙ ap (λ (xs : List ℕ). at_load s.line load.kind [] load.len (λ j p. items_from e j p (xs ++ more))) (sym (take-append-drop load.len s.lines.left))
          ∙ ap (λ (xs : List ℕ). at_load s.line load.kind [] load.len (λ j p. items_from e j p xs)) (append_assoc (take load.len s.lines.left) (drop load.len s.lines.left) more)
          ∙ load_whole e s.line load.kind (take load.len s.lines.left) (drop load.len s.lines.left ++ more) load.len (sym (length-take-le load.len s.lines.left there))
          ∙ ap (λ (xs : List ℕ). item s.line (asked.Call (load_call load.kind xs)) ∷ items_from e (s.line + 1) (at_start (s.line + 1)) (drop load.len s.lines.left ++ more)) (sym is)
          ∙ ap (λ (xs : List ℕ). item s.line (asked.Call (load_call load.kind bytes)) ∷ items_from e (s.line + 1) (at_start (s.line + 1)) (xs ++ more)) (sym left);
      may_be = may_load load.kind bytes (omega (arith, few, ap length is, length-take-le load.len s.lines.left there));
      ended = ap (λ (k : Kept). k.ended) rest;
      fewer = omega (arith, ap under_way under, ap length left, length-drop load.len s.lines.left);
      count = omega (arith, ap under_way under, ap length left, length-drop load.len s.lines.left);
    })

-- a load whose bytes are there takes memory
pub load_wants : (s : Source) (load : Load) → s.load ≡ Some load → load.len ≤ most_payload → load.len ≤ length s.lines.left → AsksMemory s
load_wants s load under few there =
    let new : Kept = without_front load.len s.lines in
    let bytes : List ℕ = take load.len s.lines.left in
    let t : Source = record { lines = new; line = s.line + 1; joined = alone (s.line + 1); load = None } in
    record {
      each = λ e more comes. subst (λ (is : List Request). TakesMemory is) (sym ((gives_load s t load bytes new under few there refl refl refl).ahead_is e more comes)) (by_kind load.kind bytes);
    } where
      by_kind : (kind : Kind) (bytes : List ℕ) → takes_memory (asked.Call (load_call kind bytes)) ≡ true
      by_kind Cnf bytes = refl

-- they are not
pub load_waits : (s t : Source) (load : Load) → s.load ≡ Some load → length s.lines.left < load.len → s.lines.ended ≡ false → t ≡ s → Waits s t
unfolding ahead
load_waits s t load under less open_is same = subst (λ (r : Source). Waits s r) (sym same) (record {
  none = ap (λ (o : Option Load). goes_on o s.joined s.line (λ j p. items_from false j p (s.lines.left ++ []))) under
      ∙ ap (λ (xs : List ℕ). at_load s.line load.kind [] load.len (λ j p. items_from false j p xs)) (append-nil s.lines.left)
      ∙ load_short false s.line load.kind s.lines.left load.len less;
  not_ended = open_is;
  same = record { each = λ e more comes. refl };
  ended = open_is;
  count = omega arith;
})

-- they never come
pub cuts_load : (s t : Source) (load : Load) (new : Kept) → s.load ≡ Some load → length s.lines.left < load.len → s.lines.ended ≡ true → new ≡ record s.lines { left = [] } → t ≡ record { lines = new; line = s.line + 1; joined = alone (s.line + 1); load = None }
    → GivesItem (item s.line asked.Syntax) s t
unfolding ahead
cuts_load s t load new under less ended rest same =
    let left : new.left ≡ [] = ap (λ (k : Kept). k.left) rest in
    subst (λ (r : Source). GivesItem (item s.line asked.Syntax) s r) (sym same) (record {
      ahead_is = λ e more comes.
          let now = comes ended in
          rw (now.0, now.1) (ap (λ (o : Option Load). goes_on o s.joined s.line (λ j p. items_from true j p (s.lines.left ++ []))) under
          ∙ ap (λ (xs : List ℕ). at_load s.line load.kind [] load.len (λ j p. items_from true j p xs)) (append-nil s.lines.left)
          ∙ load_short true s.line load.kind s.lines.left load.len less
          ∙ ap (λ (xs : List Request). item s.line asked.Syntax ∷ xs) (sym (ap (λ (xs : List ℕ). items_from true (s.line + 1) (at_start (s.line + 1)) (xs ++ [])) left ∙ nothing_ahead true (s.line + 1))));
      may_be = tt;
      ended = ap (λ (k : Kept). k.ended) rest;
      fewer = omega (arith, ap under_way under, ap length left);
      count = omega (arith, ap under_way under, ap length left);
    })

-- a step that changes nothing ahead, and then another
pub after_same : (g : NextRequest) (s m t : Source) → SameAhead s m → m.lines.ended ≡ s.lines.ended → most_items m ≤ most_items s → last_line m ≤ last_line s → GivesNext g m t → GivesNext g s t
after_same (given.Request i) s m t same ended fewer count next = record {
  ahead_is = λ e more comes. sym (same.each e more comes) ∙ next.ahead_is e more (λ h. comes (sym ended ∙ h));
  may_be = next.may_be;
  ended = next.ended ∙ ended;
  fewer = omega (arith, next.fewer, fewer);
  count = omega (arith, next.count, count);
}
after_same given.More s m t same ended fewer count next = record {
  none = sym (same.each false [] (λ h. let no = sym (sym ended ∙ next.not_ended) ∙ h in cc)) ∙ next.none;
  not_ended = sym ended ∙ next.not_ended;
  same = record { each = λ e more comes. next.same.each e more (λ h. comes (sym ended ∙ h)) ∙ same.each e more comes };
  ended = next.ended;
  count = omega (arith, next.count, count);
}
after_same given.Done s m t same ended fewer count next = (
  sym ended ∙ next.0,
  sym (same.each true [] (λ h. (refl, refl))) ∙ next.1,
  record { each = λ e more comes. next.2.each e more (λ h. comes (sym ended ∙ h)) ∙ same.each e more comes },
)
after_same given.NoMemory s m t same ended fewer count next = (
  next.0 ∙ ended,
  record { each = λ e more comes. subst (λ (is : List Request). TakesMemory is) (same.each e more comes) (next.1.each e more (λ h. comes (sym ended ∙ h))) },
)

pub load_next : (g : NextRequest) (s t : Source) → GivesLoad g s t → GivesNext g s t
load_next (given.Request i) s t h = h
load_next given.More s t h = h
load_next given.Done s t h = absurd h
load_next given.NoMemory s t h = h

pub fed_holds : (old new : Kept) (piece : List ℕ) → HoldsLong old → new ≡ record old { left = fed old piece } → HoldsLong new
fed_holds old new piece held same = subst HoldsLong (sym same) (record {
  most = held.most;
  long = λ h. omega (arith, held.long h, (fed_length old piece).0);
})

pub fed_apart : (old new : Kept) (piece : List ℕ) (load : Option Load) → HoldsLoad old load → new ≡ record old { left = fed old piece } → HoldsLoad new load
fed_apart old new piece load held same = record {
  not_long = λ l h. ap (λ (k : Kept). k.long) same ∙ held.not_long l h;
  fits = held.fits;
}

-- the same bytes are left
pub source_same : (s t : Source) → t.lines.left ≡ s.lines.left → t.line ≡ s.line → t.joined ≡ s.joined → t.load ≡ s.load → (e : Bool) (more : List ℕ) → ahead t e more ≡ ahead s e more
unfolding ahead
source_same s t left line joined load e more =
    ap (λ (xs : List ℕ). goes_on t.load t.joined t.line (λ i p. items_from e i p (xs ++ more))) left ∙ ap (λ (n : ℕ). goes_on t.load t.joined n (λ i p. items_from e i p (s.lines.left ++ more))) line
    ∙ ap (λ (j : Joined). goes_on t.load j s.line (λ i p. items_from e i p (s.lines.left ++ more))) joined ∙ ap (λ (o : Option Load). goes_on o s.joined s.line (λ i p. items_from e i p (s.lines.left ++ more))) load

-- a piece was fed
pub source_fed : (s t : Source) (k : Kept) (piece : List ℕ) → k ≡ s.lines → t.lines ≡ record k { left = fed k piece } → t.line ≡ s.line → t.joined ≡ s.joined → t.load ≡ s.load → HoldsLong k → ((l : Load) → s.load ≡ Some l → k.long ≡ false)
    → (e : Bool) (more : List ℕ) → ahead t e more ≡ ahead s e (piece ++ more)
unfolding ahead
source_fed s t k piece is new line joined load held apart e more =
    ap (λ (r : Kept). goes_on t.load t.joined t.line (λ i p. items_from e i p (r.left ++ more))) new ∙ ap (λ (n : ℕ). goes_on t.load t.joined n (λ i p. items_from e i p (fed k piece ++ more))) line
    ∙ ap (λ (j : Joined). goes_on t.load j s.line (λ i p. items_from e i p (fed k piece ++ more))) joined
    ∙ ap (λ (o : Option Load). goes_on o s.joined s.line (λ i p. items_from e i p (fed k piece ++ more))) load
    ∙ fed_ahead e s.load s.joined s.line k piece more held.long apart ∙ ap (λ (r : Kept). goes_on s.load s.joined s.line (λ i p. items_from e i p (r.left ++ (piece ++ more)))) is

pub fed_count : (s t : Source) (k : Kept) (piece : List ℕ) → k ≡ s.lines → t.lines ≡ record k { left = fed k piece } → t.line ≡ s.line → t.load ≡ s.load → last_line t ≤ last_line s + length piece
fed_count s t k piece is new line load = omega (arith, (fed_length k piece).1, ap (λ (r : Kept). length r.left) new, ap (λ (r : Kept). length r.left) is, line, ap under_way load)

-- every line was given
pub all_given : (s : Source) → s.load ≡ None → s.lines.left ≡ [] → s.joined.words ≡ [] → ahead s true [] ≡ []
unfolding ahead
all_given s none left joined = ahead_left s s.joined true none left ∙ nothing_behind true s.line s.joined joined
