-- Literals are shared out by sizes.
use Rattle.std.proofs.Common.{◌≡◌, ℕ, zero, suc, ◌+◌, ◌<◌, List, [], ◌∷◌, ◌++◌, length, take, drop, get_or, refl, ap, sym, ◌∙◌, append_assoc, arith}
use Rattle.std.proofs.lemmas.List.{append-nil}
use Rattle.gi_aiger.specs.Files.{shares}

drop_at : (xs : List ℕ) (i : ℕ) → i < length xs → drop i xs ≡ get_or xs i 0 ∷ drop (suc i) xs
drop_at [] i lt = absurd (omega arith)
drop_at (x ∷ xs) zero lt = refl
drop_at (x ∷ xs) (suc i) lt = drop_at xs i (omega arith)

share_one : (n : ℕ) (ns ls : List ℕ) → shares (n ∷ ns) ls ≡ take n ls ∷ shares ns (drop n ls)
unfolding shares
share_one n ns ls = refl

pub share_step : (all lists : List (List ℕ)) (sizes rest first more : List ℕ) (i n : ℕ) → i < length sizes → n ≡ get_or sizes i 0 → first ≡ take n rest → more ≡ drop n rest → lists ++ shares (drop i sizes) rest ≡ all → (lists ++ first ∷ []) ++ shares (drop (i + 1) sizes) more ≡ all
share_step all lists sizes rest first more i n lt is a b h =
    let next : i + 1 ≡ suc i = omega arith in
    append_assoc lists (first ∷ []) (shares (drop (i + 1) sizes) more)
    ∙ ap (λ (xs : List ℕ). lists ++ xs ∷ shares (drop (i + 1) sizes) more) a
    ∙ ap (λ (xs : List ℕ). lists ++ take n rest ∷ shares (drop (i + 1) sizes) xs) b
    ∙ ap (λ (m : ℕ). lists ++ take n rest ∷ shares (drop m sizes) (drop n rest)) next
    ∙ ap (λ (xs : List (List ℕ)). lists ++ xs) (sym (share_one n (drop (suc i) sizes) rest))
    ∙ ap (λ (m : ℕ). lists ++ shares (m ∷ drop (suc i) sizes) rest) is
    ∙ ap (λ (xs : List ℕ). lists ++ shares xs rest) (sym (drop_at sizes i lt)) ∙ h

none_left : (xs : List ℕ) (i : ℕ) → i ≡ length xs → drop i xs ≡ []
none_left [] zero e = refl
none_left [] (suc i) e = absurd (omega arith)
none_left (x ∷ xs) zero e = absurd (omega arith)
none_left (x ∷ xs) (suc i) e = none_left xs i (omega arith)

share_none : (ls : List ℕ) → shares [] ls ≡ []
unfolding shares
share_none ls = refl

pub share_ends : (all lists : List (List ℕ)) (sizes rest : List ℕ) (i : ℕ) → i ≡ length sizes → lists ++ shares (drop i sizes) rest ≡ all → lists ≡ all
share_ends all lists sizes rest i e h = sym (append-nil lists) ∙ ap (λ (xs : List (List ℕ)). lists ++ xs) (sym (share_none rest)) ∙ ap (λ (xs : List ℕ). lists ++ shares xs rest) (sym (none_left sizes i e)) ∙ h
