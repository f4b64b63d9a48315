-- A caller's own entries, and work among them.
use Rattle.std.proofs.Common.{◌≡◌, ℕ, ◌<◌, List, [], ◌∷◌, ◌++◌, length, Bool, true, false, ◌==◌, ◌⊎◌, inl, inr, refl, ap, arith, eq-eqb}
use Rattle.std.specs.List.{AllByRecursion}
use Rattle.std.proofs.lemmas.Bool.Decides.{eqb_tells}
use Rattle.gi_model.specs.Fits.{fits}
use Rattle.gi_model.specs.History.{Entry}
use Rattle.gi_model.specs.declared.calls.Call.{Call}
use Rattle.gi_model.specs.declared.calls.Call.TheVariants as call
use Rattle.gi_model.specs.declared.replies.Reply.{Reply}
use Rattle.gi_wire.specs.declared.reader.RequestKind.{RequestKind}
use Rattle.gi_wire.specs.declared.reader.RequestKind.TheVariants as asked
use Rattle.gi_net.specs.Entries.{WaitIsNext, WorksForWaits, all_own_of, is_work, own_of}
use Rattle.gi_net.specs.Told.{AnswersRequest, entry_of}

-- one run of own entries after another
works-append : (A B : Type 0) (xs ys : List Entry) → WorksForWaits A xs → (A → WaitIsNext B ys) → WorksForWaits B ys → WorksForWaits B (xs ++ ys)
works-append A B [] ys h k m = m
works-append A B (x ∷ []) ys h k m = (λ w. k (h.0 w), m)
works-append A B (x ∷ y ∷ xs) ys h k m = (h.0, works-append A B (y ∷ xs) ys h.1 k m)

pub works-map : (A B : Type 0) (xs : List Entry) → (A → B) → WorksForWaits A xs → WorksForWaits B xs
works-map A B [] f h = tt
works-map A B (x ∷ []) f h = (λ w. f (h.0 w), tt)
works-map A B (x ∷ y ∷ xs) f h = (h.0, works-map A B (y ∷ xs) f h.1)

abbrev pub AllWork : List Entry → Type 0
AllWork es = AllByRecursion (λ (e : Entry). is_work e.call ≡ true) es

-- what is no call is work
all_work : (n : ℕ) (es : List Entry) → own_of n es ≡ [] → AllWork (all_own_of n es)
all_work n [] h = tt
all_work n (e ∷ es) h = elim (eqb_tells e.by n) [
  | inl t ↦ by_work (all_work n es) (is_work e.call) t.0 refl
  | inr f ↦ rw f.0 (all_work n es (rw f.0 at h))
] where
  by_work : (own_of n es ≡ [] → AllWork (all_own_of n es)) → (w : Bool) → (e.by == n) ≡ true → is_work e.call ≡ w → AllWork (all_own_of n (e ∷ es))
  by_work rest true own work = rw own (work, rest (rw (own, work) at h))
  by_work rest false own work = let none = rw (own, work) at h in cc

works_here : (last : Type 0) (es : List Entry) → AllWork es → (0 < length es → last) → WorksForWaits last es
works_here last [] all some = tt
works_here last (e ∷ []) all some = (λ w. some (omega arith), tt)
works_here last (e ∷ f ∷ es) all some = (λ w. inl all.1.0, works_here last (f ∷ es) all.1 (λ h. some (omega arith)))

none_or : (es : List Entry) (A : Type 0) → (es ≡ []) ⊎ A → 0 < length es → A
none_or es A (inl e) some = absurd (omega (arith, ap length e))
none_or es A (inr a) some = a

-- the work of a call that has no entry
pub works_broken : (n : ℕ) (A : Type 0) (xs before : List Entry) → WorksForWaits ⊥ xs → own_of n before ≡ [] → (all_own_of n before ≡ []) ⊎ A → WorksForWaits A (xs ++ all_own_of n before)
works_broken n A xs before h none waits = works-append ⊥ A xs (all_own_of n before) h (λ x. absurd x) (works_here A (all_own_of n before) (all_work n before none) (none_or (all_own_of n before) A waits))

-- the work of an item and its entry
pub works_taken : (n : ℕ) (item : RequestKind) (r : Reply) (xs before : List Entry) → WorksForWaits ⊥ xs → AnswersRequest item r → own_of n before ≡ [] → (all_own_of n before ≡ []) ⊎ (item ≡ asked.Call call.Wait) → WorksForWaits ⊥ (xs ++ (all_own_of n before ++ entry_of n item r))
works_taken n item r xs before h may none waits = works-append ⊥ ⊥ xs (all_own_of n before ++ entry_of n item r) h (λ x. absurd x)
    (works-append (item ≡ asked.Call call.Wait) ⊥ (all_own_of n before) (entry_of n item r) (works_here (item ≡ asked.Call call.Wait) (all_own_of n before) (all_work n before none) (none_or (all_own_of n before) (item ≡ asked.Call call.Wait) waits)) (next item) (own item may)) where
      next : (a : RequestKind) → a ≡ asked.Call call.Wait → WaitIsNext ⊥ (entry_of n a r)
      next (asked.Call what) e = inr cc
      next asked.Syntax e = cc
      next asked.Long e = cc

      own : (a : RequestKind) → AnswersRequest a r → WorksForWaits ⊥ (entry_of n a r)
      own (asked.Call what) m = (λ w. (let no = m.1 in cc), tt)
      own asked.Syntax m = tt
      own asked.Long m = tt

-- a call that may be made is no work
pub fits_no_work : (what : Call) → fits what ≡ true → is_work what ≡ false
fits_no_work (call.Work mark) h = cc
fits_no_work what h = refl

pub all_own_entry : (n : ℕ) (item : RequestKind) (r : Reply) → all_own_of n (entry_of n item r) ≡ entry_of n item r
all_own_entry n (asked.Call what) r = rw (eq-eqb n n refl) refl
all_own_entry n asked.Syntax r = refl
all_own_entry n asked.Long r = refl

pub own_entry : (n : ℕ) (item : RequestKind) (r : Reply) → AnswersRequest item r → own_of n (entry_of n item r) ≡ entry_of n item r
own_entry n (asked.Call what) r m = rw (eq-eqb n n refl, m.1) refl
own_entry n asked.Syntax r m = refl
own_entry n asked.Long r m = refl
