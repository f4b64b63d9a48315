-- Lists of literals and of guards, word by word.
use Rattle.std.proofs.Common.{◌≡◌, ℕ, List, [], ◌∷◌, ◌++◌, Option, Some, None, option_map, false, bytes_eq, codes, refl, ap, sym, append_assoc}
use Rattle.gi_text.specs.Numbers.{number_of}
use Rattle.gi_wire.specs.Answers.{literals_of, spelled}
use Rattle.gi_wire.specs.Grammar.{guard_at, guards_at, is_zero, list_at, literal_at, literal_in}

two_maps : (list : List ℕ) (l : ℕ) (o : Option (List ℕ)) → option_map (λ ls. list ++ ls) (option_map (λ ls. l ∷ ls) o) ≡ option_map (λ ls. (list ++ l ∷ []) ++ ls) o
two_maps list l None = refl
two_maps list l (Some ls) = ap Some (sym (append_assoc list (l ∷ []) ls))

-- a literal goes on with the list
pub list_goes_on : (list word : List ℕ) (words : List (List ℕ)) (l : ℕ) → is_zero (number_of word) ≡ false → literal_at word ≡ Some l → option_map (λ ls. list ++ ls) (list_at (word ∷ words)) ≡ option_map (λ ls. (list ++ l ∷ []) ++ ls) (list_at words)
unfolding list_at
list_goes_on list word words l some is = rw (some, is) (two_maps list l (list_at words))

-- so does one with its shortest spelling
pub literals_go_on : (list field : List ℕ) (fields : List (List ℕ)) (l : ℕ) → bytes_eq field (codes "0") ≡ false → literal_in (spelled field) ≡ Some l → option_map (λ ls. list ++ ls) (literals_of (field ∷ fields)) ≡ option_map (λ ls. (list ++ l ∷ []) ++ ls) (literals_of fields)
unfolding literals_of
literals_go_on list field fields l some is = rw (some, is) (two_maps list l (literals_of fields))

-- guards before those that were read
abbrev pub guards_and : List ℕ → List ℕ × List (List ℕ) → List ℕ × List (List ℕ)
guards_and guards p = (guards ++ p.0, p.1)

abbrev guard_and : ℕ → List ℕ × List (List ℕ) → List ℕ × List (List ℕ)
guard_and g p = (g ∷ p.0, p.1)

two_fronts : (guards : List ℕ) (g : ℕ) (o : Option (List ℕ × List (List ℕ))) → option_map (guards_and guards) (option_map (guard_and g) o) ≡ option_map (guards_and (guards ++ g ∷ [])) o
two_fronts guards g None = refl
two_fronts guards g (Some p) = ap (λ (gs : List ℕ). let q : List ℕ × List (List ℕ) = (gs, p.1) in Some q) (sym (append_assoc guards (g ∷ []) p.0))

-- a guard goes on with the list
pub guards_go_on : (guards word : List ℕ) (words : List (List ℕ)) (g : ℕ) → is_zero (number_of word) ≡ false → guard_at word ≡ Some g → option_map (guards_and guards) (guards_at (word ∷ words)) ≡ option_map (guards_and (guards ++ g ∷ [])) (guards_at words)
unfolding guards_at
guards_go_on guards word words g some is = rw (some, is) (two_fronts guards g (guards_at words))
