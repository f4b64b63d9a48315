-- Assumptions that are made true one after the other.
use Rattle.std.proofs.Common.{◌≡◌, ℕ, ◌+◌, ◌-◌, ◌<◌, ◌≤◌, Option, None, List, [], ◌∷◌, ◌++◌, length, take, get_or, refl, sym, ap, ◌∙◌, subst, inl, inr, append_assoc, arith}
use Rattle.std.specs.List.{All, Contains}
use Rattle.std.proofs.lemmas.Bool.{cases_lt}
use Rattle.std.proofs.lemmas.List.{get_or_read, take_all, append-nil, get_or_append_left, get_or-append_right, get_or_past, get_or_push}
use Rattle.std.proofs.lemmas.List.Elements.{All-nil, All-more, All-push, All-append, All-weaker, Contains-append_left}
use Rattle.gi_store.specs.StoreView.{StoreView}
use Rattle.gi_prop.specs.TrailView.{TrailView, with_lit}
use Rattle.gi_prop.specs.Attached.{Attached, Goes}
use Rattle.gi_scopes.specs.Under.{Adds}

none_past : (why : List (Option ℕ)) (k : ℕ) → length why ≤ k → get_or why k None ≡ None
none_past why k le = get_or_past why k None le

unforced_append : (xs ys : List (Option ℕ)) → ((k : ℕ) → get_or xs k None ≡ None) → ((k : ℕ) → get_or ys k None ≡ None) → (k : ℕ) → get_or (xs ++ ys) k None ≡ None
unforced_append xs ys a b k = elim (cases_lt k (length xs)) [
  | inl lt ↦ get_or_append_left xs ys None k lt ∙ a k
  | inr le ↦ get_or-append_right xs ys (length xs) k None refl le ∙ b (k - length xs)
]

pub adds_none : (given : List ℕ) (t : TrailView) → Adds given t t
adds_none given t = record {
  vars = refl;
  level_starts = refl;
  more = [];
  lits = sym (append-nil t.lits);
  why = [];
  reasons = sym (append-nil t.reasons);
  inside = All-nil (Contains given);
  unforced = λ k. none_past [] k (omega arith);
}

abbrev no_reasons : List (Option ℕ)
no_reasons = []

abbrev no_reason : List (Option ℕ)
no_reason = None ∷ []

pub adds_one : (given : List ℕ) (t : TrailView) (l : ℕ) → Contains given l → Adds given t (with_lit l None t)
adds_one given t l c = record {
  vars = refl;
  level_starts = refl;
  more = l ∷ [];
  lits = refl;
  why = no_reason;
  reasons = refl;
  inside = All-push (Contains given) [] l (All-nil (Contains given)) c;
  unforced = one;
}
  where
    one : (k : ℕ) → get_or no_reason k None ≡ None
    one k = elim (cases_lt k 1) [
      | inl lt ↦ get_or_push no_reasons None None k (omega (arith, lt))
      | inr le ↦ none_past no_reason k le
    ]

pub adds_more : (given : List ℕ) (a b c : TrailView) → Adds given a b → Adds given b c → Adds given a c
adds_more given a b c x y = record {
  vars = y.vars ∙ x.vars;
  level_starts = y.level_starts ∙ x.level_starts;
  more = x.more ++ y.more;
  lits = y.lits ∙ ap (λ xs. xs ++ y.more) x.lits ∙ append_assoc a.lits x.more y.more;
  why = x.why ++ y.why;
  reasons = y.reasons ∙ ap (λ xs. xs ++ y.why) x.reasons ∙ append_assoc a.reasons x.why y.why;
  inside = All-append (Contains given) x.more y.more x.inside y.inside;
  unforced = unforced_append x.why y.why x.unforced y.unforced;
}

-- where the assuming stands
pub record AssumingTo (given : List ℕ) (i : ℕ) (old t : TrailView) : Type 0 where
  pub adds : Adds given old t
  pub goes : (p : Attached) (s : StoreView) → Goes p s old → Goes p s t
  pub whole : All (Contains t.lits) (take i given)

pub assuming_none : (given : List ℕ) (t : TrailView) → AssumingTo given 0 t t
assuming_none given t = record { adds = adds_none given t; goes = λ p s g. g; whole = All-nil (Contains t.lits) }

pub assuming_more : (given : List ℕ) (i : ℕ) (old t new : TrailView) (l : ℕ) → AssumingTo given i old t → i < length given → l ≡ get_or given i l → Adds given t new → ((p : Attached) (s : StoreView) → Goes p s t → Goes p s new) → Contains new.lits l → AssumingTo given (i + 1) old new
assuming_more given i old t new l h lt item a g c = record {
  adds = adds_more given old t new h.adds a;
  goes = λ p s x. g p s (h.goes p s x);
  whole = All-more (Contains new.lits) given i 0 lt (All-weaker (Contains t.lits) (Contains new.lits) (λ m b. subst (λ xs. Contains xs m) (sym a.lits) (Contains-append_left t.lits a.more m b)) (take i given) h.whole) (subst (Contains new.lits) (get_or_read given i l lt item 0) c);
}

pub assuming_all : (given : List ℕ) (i : ℕ) (old t : TrailView) → length given ≤ i → AssumingTo given i old t → All (Contains t.lits) given
assuming_all given i old t le h = subst (All (Contains t.lits)) (take_all i given le) h.whole
