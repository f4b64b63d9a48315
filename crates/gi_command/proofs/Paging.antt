-- The options among the first words, and the page of the last of them.
use Rattle.std.proofs.Common.{◌≡◌, ◌≢◌, ℕ, ◌+◌, ◌<◌, ◌≤◌, Bool, true, false, List, [], ◌∷◌, ◌++◌, length, get_or, take, map, Option, None, cond, refl, ap, sym, ◌∙◌, arith, append-nil, length-append}
use Rattle.std.specs.Prelude.{filter}
use Rattle.std.proofs.Math.Seq.{take-length}
use Rattle.std.proofs.lemmas.List.Elements.{filter_more}
use Rattle.gi_command.specs.Pages.{is_option, page_asked, page_named, page_of}
use Rattle.gi_command.specs.declared.page.Page.{Page}

-- the options among some words, each with its text
abbrev pub options_of : {X : Type 0} → (X → List ℕ) → List X → List X
options_of f = filter (λ x. is_option (f x))

filter_texts : {X : Type 0} (f : X → List ℕ) (xs : List X) → filter is_option (map f xs) ≡ map f (options_of f xs)
filter_texts f [] = refl
filter_texts f (x ∷ xs) = go (is_option (f x)) refl (filter_texts f xs)
  where
    go : (t : Bool) → is_option (f x) ≡ t → filter is_option (map f xs) ≡ map f (options_of f xs) → filter is_option (map f (x ∷ xs)) ≡ map f (options_of f (x ∷ xs))
    go true t rest = rw t (ap (λ ys. f x ∷ ys) rest)
    go false t rest = rw t rest

-- of the first i words so many are options, and where one is, this is its page
pub record Paged {X : Type 0} (f : X → List ℕ) (xs : List X) (i count : ℕ) (page : Option Page) : Type 0 where
  pub count_is : count ≡ length (options_of f (take i xs))
  pub bound : count ≤ i
  pub page_is : count ≡ 1 → page ≡ page_of (map f (options_of f (take i xs)))

pub paged_start : {X : Type 0} (f : X → List ℕ) (xs : List X) → Paged f xs 0 0 None
paged_start f [] = record { count_is = refl; bound = omega arith; page_is = λ e. absurd (omega (arith, e)) }
paged_start f (x ∷ xs) = record { count_is = refl; bound = omega arith; page_is = λ e. absurd (omega (arith, e)) }

only : {X : Type 0} (f : X → List ℕ) (ys : List X) (x : X) → length ys + 1 ≡ 1 → page_named (f x) ≡ page_of (map f (ys ++ x ∷ []))
only f [] x e = refl
only f (y ∷ ys) x e = absurd (omega (arith, e))

module _ {X : Type 0} (f : X → List ℕ) (xs : List X) (i count : ℕ) (page : Option Page) (x : X) (lt : i < length xs) (at : get_or xs i x ≡ x) (was : Paged f xs i count page) where
  more : options_of f (take (i + 1) xs) ≡ options_of f (take i xs) ++ cond (is_option (f x)) (x ∷ []) []
  more = filter_more (λ y. is_option (f y)) xs i x lt ∙ ap (λ y. options_of f (take i xs) ++ cond (is_option (f y)) (y ∷ []) []) at

  -- one more that is an option
  pub paged_option : is_option (f x) ≡ true → Paged f xs (i + 1) (count + 1) (page_named (f x))
  paged_option is =
      let e : options_of f (take (i + 1) xs) ≡ options_of f (take i xs) ++ x ∷ [] = rw is at more in
      record {
        count_is = rw (e, length-append (options_of f (take i xs)) (x ∷ [])) (ap (λ n. n + 1) was.count_is);
        bound = let b = was.bound in omega arith;
        page_is = λ one. rw e (only f (options_of f (take i xs)) x (rw was.count_is at one));
      }

  -- one more that is none
  pub paged_word : is_option (f x) ≡ false → Paged f xs (i + 1) count page
  paged_word is =
      let e : options_of f (take (i + 1) xs) ≡ options_of f (take i xs) ++ [] = rw is at more in
      let same : options_of f (take (i + 1) xs) ≡ options_of f (take i xs) = e ∙ append-nil (options_of f (take i xs)) in
      record { count_is = rw same was.count_is; bound = let b = was.bound in omega arith; page_is = λ one. rw same (was.page_is one) }

other_page : {X : Type 0} (f : X → List ℕ) (ys : List X) → length ys ≢ 1 → None ≡ page_of (map f ys)
other_page f [] n = refl
other_page f (y ∷ []) n = absurd (n refl)
other_page f (y ∷ z ∷ ys) n = refl

module _ {X : Type 0} (f : X → List ℕ) (xs : List X) (count : ℕ) (page : Option Page) (all : Paged f xs (length xs) count page) where
  -- with one option, its page is what is asked for
  pub paged_one : count ≡ 1 → page ≡ page_asked (map f xs)
  unfolding page_asked
  paged_one one = all.page_is one ∙ ap (λ ys. page_of (map f (options_of f ys))) (take-length xs) ∙ ap page_of (sym (filter_texts f xs))

  -- and with none or several nothing is
  pub paged_other : count ≢ 1 → None ≡ page_asked (map f xs)
  unfolding page_asked
  paged_other other = other_page f (options_of f xs) (λ e. other (all.count_is ∙ ap (λ ys. length (options_of f ys)) (take-length xs) ∙ e)) ∙ ap page_of (sym (filter_texts f xs))
