-- What a tape with one more piece has, and what a read takes.
use Rattle.std.proofs.Common.{◌≡◌, ℕ, ◌+◌, List, [], ◌∷◌, ◌++◌, take, drop, refl, ap, sym, ◌∙◌, append_assoc}
use Rattle.std.proofs.lemmas.List.{take-append-drop, drop-drop, append-nil}
use Rattle.gi_outside.specs.declared.link.Piece.{Piece}
use Rattle.gi_outside.specs.declared.link.Piece.TheVariants.{In, Out}
use Rattle.gi_outside.specs.Link.{ins, outs}

pub outs-append : (t u : List Piece) → outs (t ++ u) ≡ outs t ++ outs u
unfolding outs
outs-append [] u = refl
outs-append (In b ∷ t) u = outs-append t u
outs-append (Out b ∷ t) u = ap (λ xs. b ++ xs) (outs-append t u) ∙ sym (append_assoc b (outs t) (outs u))

pub ins-append : (t u : List Piece) → ins (t ++ u) ≡ ins t ++ ins u
unfolding ins
ins-append [] u = refl
ins-append (Out b ∷ t) u = ins-append t u
ins-append (In b ∷ t) u = ap (λ xs. b ++ xs) (ins-append t u) ∙ sym (append_assoc b (ins t) (ins u))

-- an In piece more
pub outs_more_in : (t : List Piece) (b : List ℕ) → outs (t ++ In b ∷ []) ≡ outs t
unfolding outs
outs_more_in t b = outs-append t (In b ∷ []) ∙ append-nil (outs t)

-- an Out piece more
pub outs_more_out : (t : List Piece) (b : List ℕ) → outs (t ++ Out b ∷ []) ≡ outs t ++ b
unfolding outs
outs_more_out t b = outs-append t (Out b ∷ []) ∙ ap (λ xs. outs t ++ xs) (append-nil b)

-- nothing yet
pub outs_nil : outs [] ≡ []
unfolding outs
outs_nil = refl

pub ins_nil : ins [] ≡ []
unfolding ins
ins_nil = refl

-- what a read took from the front, and what it left
pub read_takes : (input into : List ℕ) (at n : ℕ) → take n into ≡ take n (drop at input) → drop at input ≡ take n into ++ drop (at + n) input
read_takes input into at n e =
    sym (ap (λ xs. xs ++ drop (at + n) input) e ∙ ap (λ xs. take n (drop at input) ++ xs) (sym (drop-drop n at input)) ∙ take-append-drop n (drop at input))
