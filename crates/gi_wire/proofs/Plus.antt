-- Words that end with `+`.
use Rattle.std.proofs.Common.{◌≡◌, ℕ, ◌<◌, List, [], ◌∷◌, ◌++◌, length, Option, Some, None, option_map, Bool, true, false, cond, ◌&&◌, ◌||◌, codes, bytes_eq, refl, ap, sym, ◌∙◌, subst, arith}
use Rattle.std.proofs.lemmas.Slice.Eq.{bytes_eq-Decides}
use Rattle.gi_model.specs.declared.calls.Call.{Call}
use Rattle.gi_model.specs.declared.calls.Call.TheVariants as call
use Rattle.gi_text.specs.Numbers.{number_of, magnitude}
use Rattle.gi_wire.specs.Grammar.{Ask, Makes, ask_of, but_last, call_of, ended, ends_plus, guard_at, has_list, is_zero, guarded_by, guards_at, led_by, list_at, literal_at, or_else, under_by, under_guards, under_of, under_one}
use Rattle.gi_wire.specs.Items.{goes_on_by}

both : (a b : Bool) → (a && b) ≡ true → (a ≡ true) × (b ≡ true)
both true b h = (refl, h)
both false b h = cc

pub led_by_none : (o : Option ℕ) → led_by o None ≡ None
led_by_none None = refl
led_by_none (Some l) = refl

-- `+` is no number
no_number : number_of (codes "+") ≡ None
unfolding number_of magnitude
no_number = refl

plus_alone : list_at (codes "+" ∷ []) ≡ None
unfolding list_at
plus_alone = rw no_number refl

-- a list doesn't end with `+`
no_list : (words : List (List ℕ)) → ends_plus words ≡ true → list_at words ≡ None
unfolding list_at ends_plus
no_list [] h = refl
no_list (w ∷ []) h = ap (λ (v : List ℕ). list_at (v ∷ [])) ((bytes_eq-Decides w (codes "+")).0 h) ∙ plus_alone
no_list (w ∷ o ∷ words) h = by_end (is_zero (number_of w)) (no_list (o ∷ words) h) where
  by_end : (z : Bool) → list_at (o ∷ words) ≡ None → cond z (ended (o ∷ words)) (led_by (literal_at w) (list_at (o ∷ words))) ≡ None
  by_end true rest = refl
  by_end false rest = ap (led_by (literal_at w)) rest ∙ led_by_none (literal_at w)

-- a name alone is no `+`
not_alone : (name : List ℕ) → has_list (name ∷ []) ≡ true → ends_plus (name ∷ []) ≡ true → ⊥
unfolding has_list ends_plus
not_alone name list plus =
    let is : name ≡ codes "+" = (bytes_eq-Decides name (codes "+")).0 plus in
    let no : false ≡ true = subst (λ (w : List ℕ). (bytes_eq w (codes "add") || (bytes_eq w (codes "assume") || bytes_eq w (codes "under"))) ≡ true) is list in
    cc

pub under_none : (o : Option ℕ) (l : Option (List ℕ)) → l ≡ None → under_by o l ≡ None
under_none None l h = refl
under_none (Some g) l h = ap (option_map (call.Under (g ∷ []))) h

one_ends : (word : List ℕ) (ws : List (List ℕ)) → ends_plus (word ∷ ws) ≡ true → under_one (word ∷ ws) ≡ None
unfolding list_at ends_plus
one_ends word [] h = under_none (guard_at word) (list_at []) refl
one_ends word (w ∷ ws) h = under_none (guard_at word) (list_at (w ∷ ws)) (no_list (w ∷ ws) h)

-- guards alone, or what is behind them ends with `+` too
abbrev EndsOpen : Option (List ℕ × List (List ℕ)) → Type 0
EndsOpen None = Unit {0}
EndsOpen (Some p) = ends_plus p.1 ≡ true

abbrev no_guards : List (List ℕ) → Option (List ℕ × List (List ℕ))
no_guards words = Some ([], words)

guarded_open : (o : Option ℕ) (p : Option (List ℕ × List (List ℕ))) → EndsOpen p → EndsOpen (guarded_by o p)
guarded_open None p h = tt
guarded_open (Some g) None h = tt
guarded_open (Some g) (Some p) h = h

plus_unguarded : guards_at (codes "+" ∷ []) ≡ None
unfolding guards_at
plus_unguarded = rw no_number refl

guards_open : (words : List (List ℕ)) → ends_plus words ≡ true → EndsOpen (guards_at words)
unfolding guards_at ends_plus
guards_open [] h = tt
guards_open (w ∷ []) h = subst EndsOpen (sym (ap (λ (v : List ℕ). guards_at (v ∷ [])) ((bytes_eq-Decides w (codes "+")).0 h) ∙ plus_unguarded)) tt
guards_open (w ∷ o ∷ words) h = by_zero (is_zero (number_of w)) (guards_open (o ∷ words) h) where
  by_zero : (z : Bool) → EndsOpen (guards_at (o ∷ words)) → EndsOpen (cond z (no_guards (o ∷ words)) (guarded_by (guard_at w) (guards_at (o ∷ words))))
  by_zero true rest = h
  by_zero false rest = guarded_open (guard_at w) (guards_at (o ∷ words)) rest

none_guarded : (o : Option (List ℕ × List (List ℕ))) → EndsOpen o → under_guards o ≡ None
none_guarded None h = refl
none_guarded (Some ([], ws)) h = refl
none_guarded (Some (g ∷ gs, ws)) h = ap (option_map (call.Under (g ∷ gs))) (no_list ws h)

neither : (a b : Option Call) → a ≡ None → b ≡ None → or_else a b ≡ None
neither a b x y = rw x y

under_ends : (word : List ℕ) (ws : List (List ℕ)) → ends_plus (word ∷ ws) ≡ true → under_of (word ∷ ws) ≡ None
under_ends word ws h = neither (under_one (word ∷ ws)) (under_guards (guards_at (word ∷ ws))) (one_ends word ws h) (none_guarded (guards_at (word ∷ ws)) (guards_open (word ∷ ws) h))

-- what ends with `+` behind the name of a list asks for nothing
no_ask : (name word : List ℕ) (words : List (List ℕ)) → has_list (name ∷ []) ≡ true → ends_plus (word ∷ words) ≡ true → ask_of (name ∷ word ∷ words) ≡ None
unfolding has_list ask_of call_of
no_ask name word words list plus = by_name (bytes_eq name (codes "add")) (bytes_eq name (codes "assume")) refl refl list where
  none : list_at (word ∷ words) ≡ None
  none = no_list (word ∷ words) plus

  for_name : (known : List ℕ) → bytes_eq name known ≡ true → ask_of (known ∷ word ∷ words) ≡ None → ask_of (name ∷ word ∷ words) ≡ None
  for_name known e h = subst (λ (w : List ℕ). ask_of (w ∷ word ∷ words) ≡ None) (sym ((bytes_eq-Decides name known).0 e)) h

  by_name : (a b : Bool) → bytes_eq name (codes "add") ≡ a → bytes_eq name (codes "assume") ≡ b → (bytes_eq name (codes "add") || (bytes_eq name (codes "assume") || bytes_eq name (codes "under"))) ≡ true → ask_of (name ∷ word ∷ words) ≡ None
  by_name true b x y z = for_name (codes "add") x (ap (λ (o : Option (List ℕ)). option_map Makes (option_map call.Add o)) none)
  by_name false true x y z = for_name (codes "assume") y (ap (λ (o : Option (List ℕ)). option_map Makes (option_map call.Assume o)) none)
  by_name false false x y z = for_name (codes "under") (rw (x, y) at z) (ap (λ (o : Option Call). option_map Makes o) (under_ends word words plus))

none_asked : (ws : List (List ℕ)) → has_list ws ≡ true → ends_plus ws ≡ true → ask_of ws ≡ None
unfolding has_list ask_of ends_plus
none_asked [] list plus = refl
none_asked (name ∷ []) list plus = absurd (not_alone name list plus)
none_asked (name ∷ word ∷ ws) list plus = no_ask name word ws list plus

-- what asks for something doesn't go on
pub asks_end : (words : List (List ℕ)) (a : Ask) → ask_of words ≡ Some a → goes_on_by [] words ≡ false
asks_end words a is = by_flag (goes_on_by [] words) refl where
  by_flag : (t : Bool) → goes_on_by [] words ≡ t → t ≡ false
  by_flag false e = refl
  by_flag true e =
      let b = both (has_list words) (ends_plus words) e in
      let no = sym (none_asked words b.0 b.1) ∙ is in
      cc

-- the name of a list stays in front
pub list_stays : (xs ys : List (List ℕ)) → has_list xs ≡ true → has_list (xs ++ ys) ≡ true
unfolding has_list
list_stays [] ys h = let no : false ≡ true = h in cc
list_stays (x ∷ xs) ys h = h

pub list_joined : (before words : List (List ℕ)) → has_list (before ++ words) ≡ true → ends_plus words ≡ true → has_list (before ++ but_last words) ≡ true
unfolding has_list but_last
list_joined (x ∷ xs) words list plus = list
list_joined [] [] list plus = list
list_joined [] (w ∷ []) list plus = absurd (not_alone w list plus)
list_joined [] (w ∷ o ∷ words) list plus = list

pub list_some : (words : List (List ℕ)) → has_list words ≡ true → 0 < length words
unfolding has_list
list_some [] h = let no : false ≡ true = h in cc
list_some (w ∷ words) h = omega arith
