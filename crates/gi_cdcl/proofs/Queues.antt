-- One list that has each of the nodes.
use Rattle.std.proofs.Common.{◌≡◌, ℕ, ◌+◌, ◌-◌, ◌<◌, ◌≤◌, Some, List, [], ◌∷◌, ◌++◌, length, replicate, refl, sym, ap, ◌∙◌, subst, arith, inl, inr, length-set, get_or-set_same}
use Rattle.std.specs.List.{Contains, remove, slice_get}
use Rattle.std.proofs.lemmas.Bool.{cases_eq, cases_lt}
use Rattle.std.proofs.lemmas.List.{get_or_default}
use Rattle.std.proofs.lemmas.List.Sorted.{IsPermutation-remove, Contains-permutation}
use Rattle.std.proofs.lemmas.Option.{slice_get_within, get_or_from_slice_get}
use Rattle.gi_lit.proofs.Distinct.{Contains-tail, Contains-cons_cases}
use Rattle.gi_chains.specs.Lists.{Lists, items_at, StandsAt, IsFree, IsApart, with_list, with_word, grown}
use Rattle.gi_cdcl.specs.Queue.{IsQueue, IsLinkedFrom}
use Rattle.gi_cdcl.proofs.Lists.{Contains-nil, Contains-head}

some_list : (lists : List (List ℕ)) (k : ℕ) → Contains (items_at lists 0) k → 0 < length lists
some_list [] k c = absurd (Contains-nil k c)
some_list (x ∷ xs) k c = omega arith

stands_in : (lists : List (List ℕ)) (l i k : ℕ) → length lists ≤ 1 → StandsAt lists l i k → Contains (items_at lists 0) k
stands_in lists l i k few s =
    let z : l ≡ 0 = let a = s.list in omega arith in
    subst (λ (m : ℕ). Contains (items_at lists m) k) z (i, s.place, get_or_default (items_at lists l) i k 0 s.place ∙ s.item)

stands_at : (lists : List (List ℕ)) (k : ℕ) → (c : Contains (items_at lists 0) k) → StandsAt lists 0 c.0 k
stands_at lists k c = record { list = some_list lists k c; place = c.1; item = get_or_default (items_at lists 0) c.0 0 k c.1 ∙ c.2 }

pub linked_in : (c : Lists) (n k : ℕ) → IsQueue c n → k < n → (l : ℕ) × (i : ℕ) × StandsAt c.lists l i k
linked_in c n k h lt = (0, (h.each k lt).0, stands_at c.lists k (h.each k lt))

pub moved : (c new : Lists) (n k : ℕ) → IsQueue c n → k < n → ((l i : ℕ) → StandsAt c.lists l i k → new ≡ with_list c l (k ∷ remove (items_at c.lists l) i)) → IsApart new → IsQueue new n
moved c new n k h lt after apart =
    let q = h.each k lt in
    let items = items_at c.lists 0 in
    let e : new ≡ with_list c 0 (k ∷ remove (items_at c.lists 0) q.0) = after 0 q.0 (stands_at c.lists k q) in
    let is : items_at new.lists 0 ≡ k ∷ remove (items_at c.lists 0) q.0 = ap (λ (x : Lists). items_at x.lists 0) e ∙ get_or-set_same c.lists 0 (k ∷ remove (items_at c.lists 0) q.0) [] (some_list c.lists k q) in
    record {
      nodes = ap (λ (x : Lists). x.nodes) e ∙ h.nodes;
      small = h.small;
      few = let a : length new.lists ≡ length c.lists = ap (λ (x : Lists). length x.lists) e ∙ length-set c.lists 0 (k ∷ remove (items_at c.lists 0) q.0) in let b = h.few in omega (arith, a, b);
      each = λ j lj. subst (λ (xs : List ℕ). Contains xs j) (sym is) (Contains-permutation (items_at c.lists 0) (k ∷ remove (items_at c.lists 0) q.0) j (IsPermutation-remove (items_at c.lists 0) q.0 k q.1 (sym q.2)) (h.each j lj));
      apart = apart;
    }

-- the word of a node says nothing of the list
pub worded : (c new : Lists) (n k word : ℕ) → IsQueue c n → new ≡ with_word c k word → IsApart new → IsQueue new n
worded c new n k word h e apart =
    let same : new.lists ≡ c.lists = ap (λ (x : Lists). x.lists) e in
    record {
      nodes = ap (λ (x : Lists). x.nodes) e ∙ h.nodes;
      small = h.small;
      few = subst (λ (ls : List (List ℕ)). length ls ≤ 1) (sym same) h.few;
      each = λ j lj. subst (λ (ls : List (List ℕ)). Contains (items_at ls 0) j) (sym same) (h.each j lj);
      apart = apart;
    }

pub next_within : (c : Lists) (n k w : ℕ) → IsQueue c n → k < n → ((l i : ℕ) → StandsAt c.lists l i k → Some w ≡ slice_get (items_at c.lists l) (i + 1)) → w < n
next_within c n k w h lt f =
    let s = linked_in c n k h lt in
    let e : slice_get (items_at c.lists s.0) (s.1 + 1) ≡ Some w = sym (f s.0 s.1 s.2) in
    let st : StandsAt c.lists s.0 (s.1 + 1) w = record { list = s.2.list; place = slice_get_within (items_at c.lists s.0) (s.1 + 1) w e; item = get_or_from_slice_get (items_at c.lists s.0) (s.1 + 1) w 0 e } in
    omega (arith, h.apart.within s.0 (s.1 + 1) w st, h.nodes)

start_lists : (ls : List (List ℕ)) → length ls ≤ 1 → (length (ls ++ replicate (1 - length ls) []) ≡ 1) × (items_at (ls ++ replicate (1 - length ls) []) 0 ≡ items_at ls 0)
start_lists [] le = (refl, refl)
start_lists (x ∷ []) le = (refl, refl)
start_lists (x ∷ y ∷ zs) le = absurd (omega arith)

-- with nodes that stand nowhere yet
pub linked_start : (c new : Lists) (from n : ℕ) → IsQueue c from → from ≤ n → new ≡ grown c 1 n → IsApart new → IsLinkedFrom new from n n
linked_start c new from n h le e apart =
    let s = start_lists c.lists h.few in
    let is : items_at new.lists 0 ≡ items_at c.lists 0 = ap (λ (x : Lists). items_at x.lists 0) e ∙ s.1 in
    record {
      nodes = ap (λ (x : Lists). x.nodes) e ∙ (let m = h.nodes in omega (arith, m, le));
      one = ap (λ (x : Lists). length x.lists) e ∙ s.0;
      low = λ k lt. subst (λ (xs : List ℕ). Contains xs k) (sym is) (h.each k lt);
      high = λ k low lt. absurd (omega (arith, low, lt));
      free = λ k low lt i. let d = subst (λ (xs : List ℕ). Contains xs k) is i in omega (arith, h.apart.within 0 d.0 k (stands_at c.lists k d), h.nodes, low);
      apart = apart;
    }

pub is_free : (c : Lists) (from at n k : ℕ) → IsLinkedFrom c from at n → from ≤ k → k < at → IsFree c.lists k
is_free c from at n k h low lt l i s = h.free k low lt (stands_in c.lists l i k (let o = h.one in omega (arith, o)) s)

-- with the next of them in front
pub linked_one : (c new : Lists) (from at n : ℕ) → IsLinkedFrom c from (at + 1) n → new ≡ with_list c 0 (at ∷ items_at c.lists 0) → IsApart new → IsLinkedFrom new from at n
linked_one c new from at n h e apart =
    let is : items_at new.lists 0 ≡ at ∷ items_at c.lists 0 = ap (λ (x : Lists). items_at x.lists 0) e ∙ get_or-set_same c.lists 0 (at ∷ items_at c.lists 0) [] (let o = h.one in omega (arith, o)) in
    record {
      nodes = ap (λ (x : Lists). x.nodes) e ∙ h.nodes;
      one = ap (λ (x : Lists). length x.lists) e ∙ length-set c.lists 0 (at ∷ items_at c.lists 0) ∙ h.one;
      low = λ k lt. subst (λ (xs : List ℕ). Contains xs k) (sym is) (Contains-tail at (items_at c.lists 0) k (h.low k lt));
      high = λ k low lt. subst (λ (xs : List ℕ). Contains xs k) (sym is) (elim (cases_eq k at) [
        | inl same ↦ subst (Contains (at ∷ items_at c.lists 0)) (sym same) (Contains-head at (items_at c.lists 0))
        | inr other ↦ Contains-tail at (items_at c.lists 0) k (h.high k (omega (arith, low, other)) lt)
      ]);
      free = λ k low lt i. elim (Contains-cons_cases at (items_at c.lists 0) k (subst (λ (xs : List ℕ). Contains xs k) is i)) [
        | inl same ↦ omega (arith, same, lt)
        | inr old ↦ h.free k low (omega (arith, lt)) old
      ];
      apart = apart;
    }

pub linked_all : (c : Lists) (from n : ℕ) → n ≤ 4294967295 → IsLinkedFrom c from from n → IsQueue c n
linked_all c from n small h = record {
  nodes = h.nodes;
  small = small;
  few = let o = h.one in omega (arith, o);
  each = λ k lt. elim (cases_lt k from) [ inl low ↦ h.low k low | inr le ↦ h.high k le lt ];
  apart = h.apart;
}
