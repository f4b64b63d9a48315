-- Lists of views, and of entries.
use Rattle.std.proofs.Common.{◌≡◌, ◌≢◌, ℕ, zero, suc, ◌+◌, ◌<◌, ◌≤◌, ◌⊎◌, inl, inr, false, cond, lt-ltb, le-ltb, append-nil, List, [], ◌∷◌, ◌++◌, length, take, slice_index_or, set, sym, refl, ap, ◌∙◌, subst, ⊎_elim, append_assoc, arith, length-append}
use Rattle.std.proofs.lemmas.List.{take-append-le}
use mathlib.Core.Option.{some-injective, some-ne-none}
use Rattle.std.specs.Prelude.{Contains}
use mathlib.Core.Logic.{dite}
use native.Mathlib.Decide.{ℕ_discrete, dec_lt}
use Rattle.atomic_table.proofs.Lists.{at_set, set_else, at_longer}
use Rattle.gi_turn.specs.declared.view.Entry.{Entry}
use Rattle.gi_turn.specs.declared.view.View.{View}
use Rattle.gi_turn.specs.Entries.{At, phase_after, StartsWith, AreGlances, longer_of}
use Rattle.gi_turn.specs.Views.{left_of, calls_left, KnowsPhases, IsLawful}
use Rattle.gi_turn.specs.Numbers.{Held, Origin, Kin}
use Rattle.gi_turn.specs.Marks.{AskedAt, Asked}

pub all_set : (F : ℕ → View → Type 0) (views : List View) (i : ℕ) (w : View) → F i w → ((j : ℕ) (u : View) → j ≢ i → At views j u → F j u) → (j : ℕ) (u : View) → At (set views i w) j u → F j u
all_set F views i w mine others j u e = ⊎_elim (λ (x : (j ≡ i) × (w ≡ u)). subst (λ (y : ℕ × View). F y.0 y.1) (λ i. (sym x.0 i, x.1 i)) mine)
    (λ (x : (j ≢ i) × At views j u). others j u x.0 x.1) (at_set views i j w u e)

pub here : (views : List View) (i : ℕ) (v w : View) → At views i v → At (set views i w) i w
here [] i v w at = absurd (some-ne-none v (sym at))
here (x ∷ xs) zero v w at = refl
here (x ∷ xs) (suc i) v w at = here xs i v w at

pub same_view : (views : List View) (i : ℕ) (v w : View) → At views i v → At views i w → v ≡ w
same_view views i v w a b = some-injective v w (sym a ∙ b)

pub calls_set : (views : List View) (i : ℕ) (v w : View) → At views i v → calls_left (set views i w) + left_of v ≡ calls_left views + left_of w
calls_set [] i v w at = absurd (some-ne-none v (sym at))
calls_set (x ∷ xs) zero v w at = let e : left_of x ≡ left_of v = ap left_of (some-injective x v at) in omega arith
calls_set (x ∷ xs) (suc i) v w at = let h = calls_set xs i v w at in omega arith

pub left_alive : (v : View) → v.spent ≡ false → left_of v ≡ v.left
left_alive v live = ap (λ b. cond b 0 v.left) live

pub left_same : (v w : View) → w.left ≡ v.left → w.spent ≡ v.spent → left_of w ≡ left_of v
left_same v w left live = λ i. cond (live i) 0 (left i)

pub phase_after-append : (p : ℕ) (log : List Entry) (e : Entry) → phase_after p (log ++ e ∷ []) ≡ e.phase
phase_after-append p [] e = refl
phase_after-append p (x ∷ xs) e = phase_after-append x.phase xs e

pub starts_longer : (log more seen : List Entry) → StartsWith log seen → StartsWith (log ++ more) seen
starts_longer log more seen h = (h.0 ++ more, ap (λ l. l ++ more) h.1 ∙ append_assoc seen h.0 more)

pub glances_longer : (first : ℕ) (log more : List Entry) (gs : List (ℕ × ℕ)) → AreGlances first log gs → AreGlances first (log ++ more) gs
glances_longer first log more gs h k d lt =
    let g : ℕ × ℕ = slice_index_or gs k d in
    let is = h k d lt in
    let le : g.0 ≤ length log = is.0 in
    (omega (arith, length-append log more), is.1 ∙ sym (ap (phase_after first) (take-append-le g.0 log more le)))

-- a seat whose glances are right of the whole history knows what it can of them
pub knows_phases : (v : View) (log : List Entry) → StartsWith log v.seen → AreGlances v.opened log v.glances → KnowsPhases v
knows_phases v log starts h k d lt reached =
    let g : ℕ × ℕ = slice_index_or v.glances k d in
    let cut : take g.0 log ≡ take g.0 v.seen = ap (take g.0) starts.1 ∙ take-append-le g.0 v.seen starts.0 reached in
    (h k d lt).1 ∙ ap (phase_after v.opened) cut

pub has_one : {A : Type 0} (x y : A) → Contains (x ∷ []) y → y ≡ x
has_one x y (zero, lt, e) = sym e
has_one x y (suc k, lt, e) = absurd (omega arith)

pub has_first : {A : Type 0} (x : A) (xs : List A) → Contains (x ∷ xs) x
has_first x xs = (0, omega arith, refl)

pub has_rest : {A : Type 0} (x : A) (xs : List A) (y : A) → Contains xs y → Contains (x ∷ xs) y
has_rest x xs y (k, lt, e) = (suc k, omega arith, e)

pub has_cases : {A : Type 0} (x : A) (xs : List A) (y : A) → Contains (x ∷ xs) y → (y ≡ x) ⊎ Contains xs y
has_cases x xs y (zero, lt, e) = inl (sym e)
has_cases x xs y (suc k, lt, e) = inr (k, omega arith, e)

pub has_none : {A : Type 0} (y : A) → Contains [] y → ⊥
has_none y (k, lt, e) = omega arith

-- the last place, or a place before it
pub at_end : {A : Type 0} (l : List A) (a b : A) (j : ℕ) → At (l ++ a ∷ []) j b → At l j b ⊎ ((j ≡ length l) × (a ≡ b))
at_end [] a b zero e = inr (refl, some-injective a b e)
at_end [] a b (suc j) e = absurd (some-ne-none b (sym e))
at_end (x ∷ xs) a b zero e = inl e
at_end (x ∷ xs) a b (suc j) e = ⊎_elim (λ h. inl h) (λ h. inr (ap suc h.0, h.1)) (at_end xs a b j e)

pub at_below : {A : Type 0} (l : List A) (j : ℕ) (b : A) → At l j b → j < length l
at_below [] j b e = absurd (some-ne-none b (sym e))
at_below (x ∷ xs) zero b e = omega arith
at_below (x ∷ xs) (suc j) b e = let h = at_below xs j b e in omega arith

pub prefix_length : (log seen : List Entry) → StartsWith log seen → length seen ≤ length log
prefix_length log seen h = let e : length log ≡ length (seen ++ h.0) = ap length h.1 in let l : length (seen ++ h.0) ≡ length seen + length h.0 = length-append seen h.0 in omega arith

pub prefix_whole : (log seen : List Entry) → StartsWith log seen → length log ≤ length seen → seen ≡ log
prefix_whole log seen ([], e) le = sym (e ∙ append-nil seen)
prefix_whole log seen (x ∷ xs, e) le = let h : length log ≡ length (seen ++ x ∷ xs) = ap length e in let l : length (seen ++ x ∷ xs) ≡ length seen + length (x ∷ xs) = length-append seen (x ∷ xs) in absurd (omega arith)

-- of two beginnings of one list the shorter begins the longer
prefixes : (a b r s : List Entry) → a ++ r ≡ b ++ s → length a ≤ length b → StartsWith b a
prefixes [] b r s e le = (b, refl)
prefixes (x ∷ xs) [] r s e le = absurd (omega arith)
prefixes (x ∷ xs) (y ∷ ys) r s e le = let h : y ≡ x = cc in let t : xs ++ r ≡ ys ++ s = cc in let p = prefixes xs ys r s t (omega arith) in (p.0, λ i. h i ∷ p.1 i)

pub prefix_prefix : (log a b : List Entry) → StartsWith log a → StartsWith log b → length a ≤ length b → StartsWith b a
prefix_prefix log a b p q le = prefixes a b p.0 q.0 (sym p.1 ∙ q.1) le

pub take_prefix : (xs ys : List Entry) → take (length xs) (xs ++ ys) ≡ xs
take_prefix [] ys = refl
take_prefix (x ∷ xs) ys = ap (λ l. x ∷ l) (take_prefix xs ys)

-- what stands in a beginning stands in the whole
pub at_prefix : (log seen : List Entry) (k : ℕ) (e : Entry) → StartsWith log seen → At seen k e → At log k e
at_prefix log seen k e starts there = subst (λ (xs : List Entry). At xs k e) (sym starts.1) (at_longer seen starts.0 k e there)

-- marks that could be asked over the whole history could be asked over a beginning
pub lawful_prefix : (may : List Entry → ℕ → Type 0) (log seen : List Entry) → StartsWith log seen → IsLawful may log → IsLawful may seen
lawful_prefix may log seen starts h k e there ne =
    let x = h k e (at_prefix log seen k e starts there) ne in
    let le = x.1 in
    let lt = at_below seen k e there in
    let cut : take x.0 log ≡ take x.0 seen = ap (take x.0) starts.1 ∙ take-append-le x.0 seen starts.0 (omega arith) in
    (x.0, x.1, subst (λ (xs : List Entry). may xs e.mark) cut x.2)

pub calls_append : (views : List View) (w : View) → calls_left (views ++ w ∷ []) ≡ calls_left views + left_of w
calls_append [] w = omega arith
calls_append (v ∷ vs) w = let h = calls_append vs w in omega arith

-- the longer of two lists
pub longer_is : (xs ys : List Entry) → ((longer_of xs ys ≡ ys) × (length xs < length ys)) ⊎ ((longer_of xs ys ≡ xs) × (length ys ≤ length xs))
longer_is xs ys = dite (dec_lt (length xs) (length ys))
    (λ lt. inl (ap (λ b. cond b ys xs) (lt-ltb (length xs) (length ys) lt), lt))
    (λ ge. inr (ap (λ b. cond b ys xs) (le-ltb (length xs) (length ys) (omega arith)), omega arith))

-- what a view keeps, though it may have more
pub record Grows (u w : View) : Type 0 where
  pub held : (n : ℕ) → Contains u.held n → Contains w.held n
  pub kin : (n : ℕ) → Contains u.kin n → Contains w.kin n
  pub asked : (a : ℕ × ℕ) → Contains u.asked a → Contains w.asked a
  pub seen : length u.seen ≤ length w.seen

pub grows_same : (u : View) → Grows u u
grows_same u = record { held = λ n h. h; kin = λ n h. h; asked = λ a h. h; seen = omega arith }

-- whatever views know is known afterwards, and a seat of a held number has split no less
pub record Change (views after : List View) : Type 0 where
  pub stays : (i : ℕ) (u : View) → At views i u → (j : ℕ) × (w : View) × At after j w × Grows u w
  pub back : (p : ℕ) → Held views p → (j : ℕ) (w : View) → At after j w → w.spent ≡ false → w.number ≡ p → (i : ℕ) × (u : View) × At views i u × (u.spent ≡ false) × (u.number ≡ p) × (u.splits ≤ w.splits)

pub held_stays : (views after : List View) (n : ℕ) → Change views after → Held views n → Held after n
held_stays views after n c h = let s = c.stays h.0 h.1 h.2 in (s.0, s.1, s.2, s.3.held n h.3)

pub origin_stays : (views after : List View) (n : ℕ) → Change views after → Origin views n → Origin after n
origin_stays views after n c o = (o.0, o.1, o.2, held_stays views after o.0 c o.3, λ j w there live is. let b = c.back o.0 o.3 j w there live is in let lt = o.4 b.0 b.1 b.2 b.3 b.4 in let le = b.5 in omega arith)

pub kin_stays : (views after : List View) (n : ℕ) → Change views after → Kin views n → Kin after n
kin_stays views after n c k = let s = c.stays k.0 k.1 k.2 in (s.0, s.1, s.2, s.3.kin n k.3, (k.4.0, s.3.held k.4.0 k.4.1, k.4.2))

pub asked_at_stays : (views after : List View) (mark l : ℕ) → Change views after → AskedAt views mark l → AskedAt after mark l
asked_at_stays views after mark l c a = let s = c.stays a.0 a.1 a.2 in (s.0, s.1, s.2, s.3.asked (mark, l) a.3)

pub asked_stays : (views after : List View) (mark : ℕ) → Change views after → Asked views mark → Asked after mark
asked_stays views after mark c a = (a.0, asked_at_stays views after mark a.0 c a.1)

-- one view changes, and keeps its number
pub change_set : (views : List View) (id : ℕ) (v w : View) → At views id v → Grows v w → w.number ≡ v.number → w.spent ≡ v.spent → v.splits ≤ w.splits → Change views (set views id w)
change_set views id v w at grows number live splits = record {
  stays = λ i u there. dite (ℕ_discrete i id)
      (λ e. let same : v ≡ u = same_view views id v u at (subst (λ (j : ℕ). At views j u) e there) in (id, w, here views id v w at, subst (λ (y : View). Grows y w) same grows))
      (λ ne. (i, u, set_else views id i w ne ∙ there, grows_same u));
  back = λ p held. all_set (λ j x. x.spent ≡ false → x.number ≡ p → (i : ℕ) × (u : View) × At views i u × (u.spent ≡ false) × (u.number ≡ p) × (u.splits ≤ x.splits)) views id w
      (λ alive is. (id, v, at, sym live ∙ alive, sym number ∙ is, splits))
      (λ j u other there alive is. (j, u, there, alive, is, omega arith));
}
