use Rattle.std.proofs.Common.{◌≡◌, ◌≢◌, ℕ, ◌+◌, ◌-◌, ◌*◌, ◌/◌, ◌<◌, ◌≤◌, Bool, false, List, [], ◌∷◌, ◌++◌, length, get_or, refl, sym, ap, ◌∙◌, subst, arith, inl, inr, length-append}
use Rattle.std.specs.List.{All}
use Rattle.std.proofs.lemmas.Bool.{cases_lt}
use Rattle.std.proofs.lemmas.List.{get_or_append_left, get_or_push}
use Rattle.std.proofs.lemmas.List.Elements.{All-push, All-weaker}
use Rattle.gi_lit.specs.Truth.{true_in, Satisfies}
use Rattle.gi_circuit.specs.Encoding.{Chooses, Follows, IsSoundDraft}
use Rattle.gi_circuit.specs.Frames.{Draft, with_choice}
use Rattle.gi_circuit.specs.declared.node.Node.{Node}
use Rattle.gi_circuit.specs.declared.node.Node.TheVariants.{Input, Latch}
use Rattle.gi_circuit.proofs.Gates.{IsOrdered-push}
use Rattle.gi_circuit.proofs.Gates.{old_value, new_value}
use Rattle.gi_unroll.proofs.Encoding.{put, put_lit, put_else, list_any_agree}

-- one more choice, which takes a variable
module _ (earlier : List (List ℕ)) (choices : ℕ) (d : Draft) (s : IsSoundDraft earlier choices d) where
  abbrev j : ℕ
  j = d.choices

  abbrev net' : List Node
  net' = d.net ++ Input j ∷ []

  abbrev lits' : List ℕ
  lits' = d.lits ++ 2 * d.next ∷ []

  follows' : (chosen values : List Bool) → Follows d.net d.lits chosen values → true_in values (2 * d.next) ≡ get_or chosen j false → Follows net' lits' chosen values
  follows' chosen values f e k le = elim (cases_lt k (length d.net + 1)) [
    | inl below ↦
        let kl : k ≤ length d.net = omega arith in
        ap (true_in values) (get_or_append_left d.lits (2 * d.next ∷ []) 0 k (omega (arith, s.count))) ∙ f k kl ∙ sym (old_value chosen [] d.net (Input j) k kl)
    | inr ge ↦
        let kl : k ≡ length d.net + 1 = omega (arith, length-append d.net (Input j ∷ [])) in
        ap (true_in values) (get_or_push d.lits (2 * d.next) 0 k (s.count ∙ sym kl)) ∙ e ∙ sym (new_value chosen [] d.net (Input j) k kl)
  ]

  determined' : (chosen values : List Bool) → Satisfies values (earlier ++ d.clauses) → Chooses net' lits' chosen values → Follows net' lits' chosen values
  determined' chosen values sat c =
      follows' chosen values
      (s.encodes.determined chosen values sat (λ k i kl at.
      ap (true_in values) (sym (get_or_append_left d.lits (2 * d.next ∷ []) 0 (k + 1) (omega (arith, s.count))))
      ∙ c k i (omega (arith, length-append d.net (Input j ∷ []))) (get_or_append_left d.net (Input j ∷ []) (Latch 0) k kl ∙ at)))
      (ap (true_in values) (sym (get_or_push d.lits (2 * d.next) 0 (length d.net + 1) s.count)) ∙ c (length d.net) j (omega (arith, length-append d.net (Input j ∷ []))) (get_or_push d.net (Input j) (Latch 0) (length d.net) refl))

  module _ (chosen others : List Bool) where
    old : (values : List Bool) × Satisfies values (earlier ++ d.clauses) × Follows d.net d.lits chosen values × ((v : ℕ) → 1 ≤ v → All (λ l. l / 2 ≢ v) d.lits → true_in values (2 * v) ≡ true_in others (2 * v))
    old = s.encodes.exists chosen others

    abbrev value : Bool
    value = get_or chosen j false

    abbrev values : List Bool
    values = put old.0 (d.next - 1) value

    same : (l : ℕ) → 1 ≤ l / 2 → l / 2 < d.next → true_in values l ≡ true_in old.0 l
    same l big lt = put_else old.0 d.next value l s.some big (omega arith)

    found : (values : List Bool) × Satisfies values (earlier ++ d.clauses) × Follows net' lits' chosen values × ((v : ℕ) → 1 ≤ v → All (λ l. l / 2 ≢ v) lits' → true_in values (2 * v) ≡ true_in others (2 * v))
    found = (
      values,
      record { each = λ k z lt. list_any_agree (true_in values) (true_in old.0) (get_or (earlier ++ d.clauses) k z) (λ i y il. let r = s.clauses_below k z lt i y il in same (get_or (get_or (earlier ++ d.clauses) k z) i y) r.0 r.1) ∙ old.1.each k z lt },
      follows' chosen values (λ k le. let r = s.lits_below k 0 (omega (arith, s.count)) in same (get_or d.lits k 0) r.0 r.1 ∙ old.2 k le) (put_lit old.0 d.next value s.some),
      λ v big none.
          let n : (2 * d.next) / 2 ≢ v = subst (λ (l : ℕ). l / 2 ≢ v) (get_or_push d.lits (2 * d.next) 0 (length d.lits) refl) (none (length d.lits) 0 (omega (arith, length-append d.lits (2 * d.next ∷ [])))) in
          put_else old.0 d.next value (2 * v) s.some (omega arith) (λ e. n (omega arith))
          ∙ old.3 v big (λ k z lt. subst (λ (l : ℕ). l / 2 ≢ v) (get_or_append_left d.lits (2 * d.next ∷ []) z k lt) (none k z (omega (arith, length-append d.lits (2 * d.next ∷ []))))),
    )

  pub IsSoundDraft-choice : d.choices < choices → IsSoundDraft earlier choices (with_choice d)
  IsSoundDraft-choice jl = record {
    some = omega arith;
    count = omega (arith, length-append d.lits (2 * d.next ∷ []), length-append d.net (Input j ∷ []), s.count);
    clauses_below = All-weaker (λ c. All (λ l. (1 ≤ l / 2) × (l / 2 < d.next)) c) (λ c. All (λ l. (1 ≤ l / 2) × (l / 2 < d.next + 1)) c) (λ c h k z lt. let r = h k z lt in (r.0, omega (arith, r.1))) (earlier ++ d.clauses) s.clauses_below;
    lits_below = All-push (λ l. (1 ≤ l / 2) × (l / 2 < d.next + 1)) d.lits (2 * d.next) (All-weaker (λ l. (1 ≤ l / 2) × (l / 2 < d.next)) (λ l. (1 ≤ l / 2) × (l / 2 < d.next + 1)) (λ l r. (r.0, omega (arith, r.1))) d.lits s.lits_below) (let n = s.some in (omega arith, omega arith));
    ordered = IsOrdered-push choices 0 d.net (Input j) s.ordered jl;
    encodes = record { determined = determined'; exists = found };
    edges = All-weaker (λ e. e / 2 ≤ length d.net) (λ e. e / 2 ≤ length (d.net ++ Input j ∷ [])) (λ e h. omega (arith, length-append d.net (Input j ∷ []))) d.edges s.edges;
  }
