-- The lines of the script, joined.
use Rattle.std.proofs.Common.{◌≡◌, ℕ, ◌+◌, ◌*◌, List, [], ◌∷◌, ◌++◌, map, refl, ap, sym, ◌∙◌, append_assoc, arith, decimal}
use Rattle.std.specs.Prelude.{codes}
use Rattle.std.specs.List.{flat_map, range_with_len}
use Rattle.std.specs.Fmt.{digits}
use Rattle.std.proofs.lemmas.List.{append-nil}
use Rattle.std.proofs.lemmas.List.Concat.{flat_map-append}
use Rattle.std.proofs.lemmas.List.FromFn.{map-range_with_len_more}
use Rattle.gi_lit.specs.Literals.{number_of}
use Rattle.gi_model.specs.declared.calls.Call.{Call}
use Rattle.gi_model.specs.declared.calls.Call.TheVariants.{Vars, Add, NewGuard, Under, DropGuard, Assume, Solve, Wait}
use Rattle.gi_wire.specs.Literals.{list_text}
use Rattle.gi_drill.specs.Instance.{clauses}
use Rattle.gi_drill.specs.Script.{call_text, guarding, line_text, lines_text, round, rounds, script, script_text, variable_of, ending}

pub decimal_0 : decimal 0 ≡ codes "0"
unfolding digits
decimal_0 = refl

pub decimal_150 : decimal 150 ≡ codes "150"
unfolding digits
decimal_150 = refl

pub decimal_151 : decimal 151 ≡ codes "151"
unfolding digits
decimal_151 = refl

-- the text of a clause under the guard
pub under_text : (front c : List ℕ) → ((front ++ codes "under 151 ") ++ list_text c) ++ 10 ∷ [] ≡ front ++ line_text (Under guarding c)
unfolding call_text
under_text front c = rw decimal_151 (append_assoc (front ++ codes "under 151 ") (list_text c) (10 ∷ []) ∙ append_assoc front (codes "under 151 ") (list_text c ++ 10 ∷ []))

guard_text : line_text NewGuard ≡ codes "guard" ++ 10 ∷ []
unfolding call_text
guard_text = refl

-- what closes a round
pub closing_text : lines_text (Assume (302 ∷ []) ∷ Solve 4294967295 ∷ Wait ∷ DropGuard 151 ∷ []) ≡ codes "assume 151 0" ++ (10 ∷ (codes "solve" ++ (10 ∷ (codes "wait" ++ (10 ∷ (codes "drop 151" ++ 10 ∷ []))))))
unfolding call_text number_of digits
closing_text = refl

four : (front a b c d : List ℕ) → (((front ++ a) ++ b) ++ c) ++ d ≡ front ++ (a ++ (b ++ (c ++ d)))
four front a b c d = append_assoc ((front ++ a) ++ b) c d ∙ append_assoc (front ++ a) b (c ++ d) ∙ append_assoc front a (b ++ (c ++ d))

pub round_text : (front : List ℕ) (x : ℕ) → (((front ++ (codes "guard" ++ 10 ∷ [])) ++ line_text (Under guarding (2 * x ∷ []))) ++ line_text (Under guarding ((2 * x + 1) ∷ []))) ++ (codes "assume 151 0" ++ (10 ∷ (codes "solve" ++ (10 ∷ (codes "wait" ++ (10 ∷ (codes "drop 151" ++ 10 ∷ []))))))) ≡ front ++ lines_text (round x)
round_text front x =
    ap (λ t. (((front ++ t) ++ line_text (Under guarding (2 * x ∷ []))) ++ line_text (Under guarding ((2 * x + 1) ∷ []))) ++ (codes "assume 151 0" ++ (10 ∷ (codes "solve" ++ (10 ∷ (codes "wait" ++ (10 ∷ (codes "drop 151" ++ 10 ∷ [])))))))) (sym guard_text)
    ∙ ap (λ t. (((front ++ line_text NewGuard) ++ line_text (Under guarding (2 * x ∷ []))) ++ line_text (Under guarding ((2 * x + 1) ∷ []))) ++ t) (sym closing_text)
    ∙ four front (line_text NewGuard) (line_text (Under guarding (2 * x ∷ []))) (line_text (Under guarding ((2 * x + 1) ∷ []))) (lines_text (Assume (302 ∷ []) ∷ Solve 4294967295 ∷ Wait ∷ DropGuard 151 ∷ []))

-- one clause more
pub adds_more : (f : ℕ → List ℕ) (i : ℕ) → lines_text (map Add (map f (range_with_len 0 (i + 1)))) ≡ lines_text (map Add (map f (range_with_len 0 i))) ++ line_text (Add (f i))
adds_more f i = ap lines_text (both f i) ∙ flat_map-append line_text (map Add (map f (range_with_len 0 i))) (Add (f i) ∷ []) ∙ ap (λ t. lines_text (map Add (map f (range_with_len 0 i))) ++ t) (last (Add (f i)))
  where
    both : (f : ℕ → List ℕ) (i : ℕ) → map Add (map f (range_with_len 0 (i + 1))) ≡ map Add (map f (range_with_len 0 i)) ++ Add (f i) ∷ []
    both f i = ap (map Add) (map-range_with_len_more f 0 i i (omega arith)) ∙ pushed (map f (range_with_len 0 i)) (f i)
      where
        pushed : (cs : List (List ℕ)) (c : List ℕ) → map Add (cs ++ c ∷ []) ≡ map Add cs ++ Add c ∷ []
        pushed [] c = refl
        pushed (d ∷ cs) c = ap (λ (xs : List Call). Add d ∷ xs) (pushed cs c)

    last : (call : Call) → lines_text (call ∷ []) ≡ line_text call
    last call = append-nil (line_text call)

-- one round more
pub rounds_more : (i : ℕ) → lines_text (flat_map round (map variable_of (range_with_len 0 (i + 1)))) ≡ lines_text (flat_map round (map variable_of (range_with_len 0 i))) ++ lines_text (round (variable_of i))
rounds_more i =
    ap (λ (vs : List ℕ). lines_text (flat_map round vs)) (map-range_with_len_more variable_of 0 i i (omega arith))
    ∙ ap lines_text (flat_map-append round (map variable_of (range_with_len 0 i)) (variable_of i ∷ []))
    ∙ flat_map-append line_text (flat_map round (map variable_of (range_with_len 0 i))) (flat_map round (variable_of i ∷ []))

vars_text : line_text (Vars 150) ≡ codes "vars 150" ++ 10 ∷ []
unfolding call_text digits
vars_text = refl

solve_text : line_text (Solve 4294967295) ++ line_text Wait ≡ codes "solve" ++ (10 ∷ (codes "wait" ++ 10 ∷ []))
unfolding call_text
solve_text = refl

ending_text : lines_text ending ≡ codes "solve" ++ (10 ∷ (codes "wait" ++ (10 ∷ (codes "vars 0" ++ (10 ∷ (codes "bye" ++ 10 ∷ []))))))
unfolding call_text digits
ending_text = refl

glued : (a cs s w rs e : List ℕ) → (((a ++ cs) ++ (s ++ w)) ++ rs) ++ e ≡ a ++ (cs ++ (s ++ (w ++ (rs ++ e))))
glued a cs s w rs e = four a cs (s ++ w) rs e ∙ ap (λ t. a ++ (cs ++ t)) (append_assoc s w (rs ++ e))

-- the whole script
pub script_text_is : (n : ℕ) → ((((codes "vars 150" ++ 10 ∷ []) ++ lines_text (map Add (clauses n))) ++ (codes "solve" ++ (10 ∷ (codes "wait" ++ 10 ∷ [])))) ++ lines_text (rounds n)) ++ (codes "solve" ++ (10 ∷ (codes "wait" ++ (10 ∷ (codes "vars 0" ++ (10 ∷ (codes "bye" ++ 10 ∷ []))))))) ≡ script_text n
unfolding script
script_text_is n =
    ap (λ t. (((t ++ adds) ++ (codes "solve" ++ (10 ∷ (codes "wait" ++ 10 ∷ [])))) ++ lines_text (rounds n)) ++ (codes "solve" ++ (10 ∷ (codes "wait" ++ (10 ∷ (codes "vars 0" ++ (10 ∷ (codes "bye" ++ 10 ∷ [])))))))) (sym vars_text)
    ∙ ap (λ t. (((line_text (Vars 150) ++ adds) ++ t) ++ lines_text (rounds n)) ++ (codes "solve" ++ (10 ∷ (codes "wait" ++ (10 ∷ (codes "vars 0" ++ (10 ∷ (codes "bye" ++ 10 ∷ [])))))))) (sym solve_text)
    ∙ ap (λ t. (((line_text (Vars 150) ++ adds) ++ (line_text (Solve 4294967295) ++ line_text Wait)) ++ lines_text (rounds n)) ++ t) (sym ending_text)
    ∙ glued (line_text (Vars 150)) adds (line_text (Solve 4294967295)) (line_text Wait) (lines_text (rounds n)) (lines_text ending)
    ∙ ap (λ t. line_text (Vars 150) ++ (adds ++ (line_text (Solve 4294967295) ++ (line_text Wait ++ t)))) (sym (flat_map-append line_text (rounds n) ending))
    ∙ ap (λ t. line_text (Vars 150) ++ t) (sym (flat_map-append line_text (map Add (clauses n)) (Solve 4294967295 ∷ Wait ∷ (rounds n ++ ending))))
  where
    adds : List ℕ
    adds = lines_text (map Add (clauses n))

-- the closing lines of a round
abbrev pub closing : List ℕ
closing = codes "assume 151 0" ++ (10 ∷ (codes "solve" ++ (10 ∷ (codes "wait" ++ (10 ∷ (codes "drop 151" ++ 10 ∷ []))))))

-- the lines of a round, one after another
pub round_chain : (o p q r s : List ℕ) (v l m : ℕ) → l ≡ 2 * v → m ≡ 2 * v + 1 → p ≡ o ++ (codes "guard" ++ 10 ∷ []) → q ≡ p ++ line_text (Under guarding (l ∷ [])) → r ≡ q ++ line_text (Under guarding (m ∷ [])) → s ≡ r ++ closing → s ≡ o ++ lines_text (round v)
round_chain o p q r s v l m el em ep eq er es =
    es ∙ ap (λ t. t ++ closing) (er ∙ ap (λ t. t ++ line_text (Under guarding (m ∷ []))) (eq ∙ ap (λ t. t ++ line_text (Under guarding (l ∷ []))) ep))
    ∙ ap (λ (k : ℕ). (((o ++ (codes "guard" ++ 10 ∷ [])) ++ line_text (Under guarding (k ∷ []))) ++ line_text (Under guarding (m ∷ []))) ++ closing) el
    ∙ ap (λ (k : ℕ). (((o ++ (codes "guard" ++ 10 ∷ [])) ++ line_text (Under guarding (2 * v ∷ []))) ++ line_text (Under guarding (k ∷ []))) ++ closing) em
    ∙ round_text o v

pub rounds_step : (o p q : List ℕ) (i v : ℕ) → p ≡ o ++ lines_text (flat_map round (map variable_of (range_with_len 0 i))) → v ≡ variable_of i → q ≡ p ++ lines_text (round v) → q ≡ o ++ lines_text (flat_map round (map variable_of (range_with_len 0 (i + 1))))
rounds_step o p q i v ep ev eq =
    eq ∙ ap (λ t. t ++ lines_text (round v)) ep ∙ ap (λ (k : ℕ). (o ++ lines_text (flat_map round (map variable_of (range_with_len 0 i)))) ++ lines_text (round k)) ev
    ∙ append_assoc o (lines_text (flat_map round (map variable_of (range_with_len 0 i)))) (lines_text (round (variable_of i))) ∙ ap (λ t. o ++ t) (sym (rounds_more i))

pub adds_step : (f : ℕ → List ℕ) (o p q : List ℕ) (i : ℕ) (c : List ℕ) → p ≡ o ++ lines_text (map Add (map f (range_with_len 0 i))) → c ≡ f i → q ≡ p ++ line_text (Add c) → q ≡ o ++ lines_text (map Add (map f (range_with_len 0 (i + 1))))
adds_step f o p q i c ep ec eq =
    eq ∙ ap (λ t. t ++ line_text (Add c)) ep ∙ ap (λ (k : List ℕ). (o ++ lines_text (map Add (map f (range_with_len 0 i)))) ++ line_text (Add k)) ec
    ∙ append_assoc o (lines_text (map Add (map f (range_with_len 0 i)))) (line_text (Add (f i))) ∙ ap (λ t. o ++ t) (sym (adds_more f i))
