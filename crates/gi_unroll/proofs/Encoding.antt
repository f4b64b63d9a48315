use Rattle.std.proofs.Common.{◌≡◌, ◌≢◌, ℕ, zero, suc, ◌+◌, ◌-◌, ◌*◌, ◌/◌, ◌%◌, ◌<◌, ◌≤◌, Bool, true, false, not, cond, List, [], ◌∷◌, ◌++◌, length, get_or, refl, sym, ap, ◌∙◌, subst, arith, inl, inr, length-append}
use Rattle.std.specs.Prelude.{◌&&◌, ◌==◌, ◌||◌}
use Rattle.std.specs.List.{All, list_any}
use Rattle.std.proofs.lemmas.Bool.{cases_lt}
use Rattle.std.proofs.lemmas.List.{get_or_append_left, get_or_push}
use Rattle.std.proofs.lemmas.List.Elements.{All-append, All-cons, All-nil, All-head, All-tail}
use Rattle.gi_lit.specs.Literals.{opposite}
use Rattle.gi_lit.specs.Truth.{true_in, clause_true, Satisfies}
use Rattle.gi_lit.proofs.Literals.{true_in-opposite, var-opposite}
use Rattle.gi_circuit.specs.Values.{value_in}
use Rattle.gi_circuit.specs.Nodes.{node_values}
use Rattle.gi_circuit.specs.Frames.{lit_of, gate_clauses}
use Rattle.gi_circuit.specs.Encoding.{Chooses, Follows, Encodes}
use Rattle.gi_circuit.specs.declared.node.Node.{Node}
use Rattle.gi_circuit.specs.declared.node.Node.TheVariants.{Latch, Gate}
use Rattle.gi_circuit.proofs.Gates.{old_value, new_value}

-- the three clauses of a gate say that x is a and b
gate_bools : (x a b : Bool) → (not x || (a || false)) ≡ true → (not x || (b || false)) ≡ true → (x || (not a || (not b || false))) ≡ true → x ≡ (a && b)
gate_bools true true true p q r = refl
gate_bools true true false p q r = sym q
gate_bools true false b p q r = sym p
gate_bools false true true p q r = r
gate_bools false true false p q r = refl
gate_bools false false b p q r = refl

bools_gate : (a b : Bool) → ((not (a && b) || (a || false)) ≡ true) × ((not (a && b) || (b || false)) ≡ true) × (((a && b) || (not a || (not b || false))) ≡ true)
bools_gate true true = (refl, refl, refl)
bools_gate true false = (refl, refl, refl)
bools_gate false b = (refl, refl, refl)

pub gate_value : (values : List Bool) (x a b : ℕ) → Satisfies values (gate_clauses x a b) → true_in values x ≡ (true_in values a && true_in values b)
gate_value values x a b s =
    let p : (true_in values (opposite x) || (true_in values a || false)) ≡ true = s.each 0 [] (omega arith) in
    let q : (true_in values (opposite x) || (true_in values b || false)) ≡ true = s.each 1 [] (omega arith) in
    let r : (true_in values x || (true_in values (opposite a) || (true_in values (opposite b) || false))) ≡ true = s.each 2 [] (omega arith) in
    gate_bools (true_in values x) (true_in values a) (true_in values b)
    (ap (λ t. t || (true_in values a || false)) (sym (true_in-opposite values x)) ∙ p)
    (ap (λ t. t || (true_in values b || false)) (sym (true_in-opposite values x)) ∙ q)
    (ap (λ t. true_in values x || (t || (not (true_in values b) || false))) (sym (true_in-opposite values a)) ∙ ap (λ t. true_in values x || (true_in values (opposite a) || (t || false))) (sym (true_in-opposite values b)) ∙ r)

pub gate_satisfied : (values : List Bool) (x a b : ℕ) → true_in values x ≡ (true_in values a && true_in values b) → Satisfies values (gate_clauses x a b)
gate_satisfied values x a b e =
    let g = bools_gate (true_in values a) (true_in values b) in
    let nx : true_in values (opposite x) ≡ not (true_in values a && true_in values b) = true_in-opposite values x ∙ ap not e in
    let P : List ℕ → Type 0 = λ c. clause_true values c ≡ true in
    let last : All P ((x ∷ opposite a ∷ opposite b ∷ []) ∷ []) = All-cons P (x ∷ opposite a ∷ opposite b ∷ []) [] (
    ap (λ t. t || (true_in values (opposite a) || (true_in values (opposite b) || false))) e
    ∙ ap (λ t. (true_in values a && true_in values b) || (t || (true_in values (opposite b) || false))) (true_in-opposite values a)
    ∙ ap (λ t. (true_in values a && true_in values b) || (not (true_in values a) || (t || false))) (true_in-opposite values b)
    ∙ g.2) (All-nil P) in
    let second : All P ((opposite x ∷ b ∷ []) ∷ (x ∷ opposite a ∷ opposite b ∷ []) ∷ []) = All-cons P (opposite x ∷ b ∷ []) ((x ∷ opposite a ∷ opposite b ∷ []) ∷ []) (ap (λ t. t || (true_in values b || false)) nx ∙ g.1) last in
    record { each = All-cons P (opposite x ∷ a ∷ []) ((opposite x ∷ b ∷ []) ∷ (x ∷ opposite a ∷ opposite b ∷ []) ∷ []) (ap (λ t. t || (true_in values a || false)) nx ∙ g.0) second }

-- the literal of an edge has the edge's value
pub lit_follows : (net : List Node) (lits : List ℕ) (chosen values : List Bool) (e : ℕ) → Follows net lits chosen values → e / 2 ≤ length net → true_in values (lit_of lits e) ≡ value_in (node_values chosen [] net) e
unfolding value_in
lit_follows net lits chosen values e f le = go (e % 2 == 0) refl
  where
    go : (t : Bool) → (e % 2 == 0) ≡ t → true_in values (cond t (get_or lits (e / 2) 0) (opposite (get_or lits (e / 2) 0))) ≡ cond t (get_or (node_values chosen [] net) (e / 2) false) (not (get_or (node_values chosen [] net) (e / 2) false))
    go true h = f (e / 2) le
    go false h = true_in-opposite values (get_or lits (e / 2) 0) ∙ ap not (f (e / 2) le)

pub satisfies_left : (values : List Bool) (cs ds : List (List ℕ)) → Satisfies values (cs ++ ds) → Satisfies values cs
satisfies_left values cs ds s = record { each = λ k d lt. subst (λ (c : List ℕ). clause_true values c ≡ true) (get_or_append_left cs ds d k lt) (s.each k d (omega (arith, length-append cs ds))) }

satisfies_right : (values : List Bool) (cs ds : List (List ℕ)) → Satisfies values (cs ++ ds) → Satisfies values ds
satisfies_right values [] ds s = s
satisfies_right values (c ∷ cs) ds s = satisfies_right values cs ds (record { each = All-tail (λ c. clause_true values c ≡ true) c (cs ++ ds) s.each })

-- values with another one at a place
unfoldable pub put : List Bool → ℕ → Bool → List Bool
put [] zero b = b ∷ []
put [] (suc p) b = false ∷ put [] p b
put (v ∷ vs) zero b = b ∷ vs
put (v ∷ vs) (suc p) b = v ∷ put vs p b

put_same : (vs : List Bool) (p : ℕ) (b : Bool) → get_or (put vs p b) p false ≡ b
unfolding put
put_same [] zero b = refl
put_same [] (suc p) b = put_same [] p b
put_same (v ∷ vs) zero b = refl
put_same (v ∷ vs) (suc p) b = put_same vs p b

put_other : (vs : List Bool) (p : ℕ) (b : Bool) (q : ℕ) → q ≢ p → get_or (put vs p b) q false ≡ get_or vs q false
unfolding put
put_other [] zero b zero n = absurd (n refl)
put_other [] zero b (suc q) n = refl
put_other [] (suc p) b zero n = refl
put_other [] (suc p) b (suc q) n = put_other [] p b q (λ e. n (ap suc e))
put_other (v ∷ vs) zero b zero n = absurd (n refl)
put_other (v ∷ vs) zero b (suc q) n = refl
put_other (v ∷ vs) (suc p) b zero n = refl
put_other (v ∷ vs) (suc p) b (suc q) n = put_other vs p b q (λ e. n (ap suc e))

pub put_lit : (vs : List Bool) (n : ℕ) (b : Bool) → 1 ≤ n → true_in (put vs (n - 1) b) (2 * n) ≡ b
unfolding true_in
put_lit vs n b le =
    let even : (2 * n) % 2 ≡ 0 = omega arith in
    let half : (2 * n) / 2 - 1 ≡ n - 1 = omega arith in
    rw (even, half) (put_same vs (n - 1) b)

pub put_else : (vs : List Bool) (n : ℕ) (b : Bool) (l : ℕ) → 1 ≤ n → 1 ≤ l / 2 → l / 2 ≢ n → true_in (put vs (n - 1) b) l ≡ true_in vs l
unfolding true_in
put_else vs n b l le big ne =
    let other : l / 2 - 1 ≢ n - 1 = λ e. ne (omega arith) in
    let same = put_other vs (n - 1) b (l / 2 - 1) other in
    ap (λ t. cond (l % 2 == 0) t (not t)) same

pub list_any_agree : (p q : ℕ → Bool) (xs : List ℕ) → All (λ x. p x ≡ q x) xs → list_any p xs ≡ list_any q xs
list_any_agree p q [] h = refl
list_any_agree p q (x ∷ xs) h = ap (λ t. t || list_any p xs) (All-head (λ x. p x ≡ q x) x xs h) ∙ ap (λ t. q x || t) (list_any_agree p q xs (All-tail (λ x. p x ≡ q x) x xs h))

-- what a draft keeps: its clauses and literals are of variables below the next one, and no literal is missing
pub record IsBelow (clauses : List (List ℕ)) (net : List Node) (lits : List ℕ) (next : ℕ) : Type 0 where
  pub some : 1 ≤ next
  pub count : length lits ≡ length net + 1
  pub clauses_below : All (λ c. All (λ l. (1 ≤ l / 2) × (l / 2 < next)) c) clauses
  pub lits_below : All (λ l. (1 ≤ l / 2) × (l / 2 < next)) lits

pub lit_below : (lits : List ℕ) (next e : ℕ) → All (λ l. (1 ≤ l / 2) × (l / 2 < next)) lits → e / 2 < length lits → (1 ≤ lit_of lits e / 2) × (lit_of lits e / 2 < next)
lit_below lits next e h lt = go (e % 2 == 0)
  where
    go : (t : Bool) → (1 ≤ cond t (get_or lits (e / 2) 0) (opposite (get_or lits (e / 2) 0)) / 2) × (cond t (get_or lits (e / 2) 0) (opposite (get_or lits (e / 2) 0)) / 2 < next)
    go true = h (e / 2) 0 lt
    go false = let v = var-opposite (get_or lits (e / 2) 0) in let r = h (e / 2) 0 lt in (omega (arith, v, r.0), omega (arith, v, r.1))

-- one new gate keeps it that every choice has exactly one extension, in which each node has its value
module _ (clauses : List (List ℕ)) (net : List Node) (lits : List ℕ) (next : ℕ) (b : IsBelow clauses net lits next) (h : Encodes clauses net lits) (low high : ℕ) (ll : low / 2 ≤ length net) (hl : high / 2 ≤ length net) where
  abbrev x : ℕ
  x = 2 * next

  abbrev la : ℕ
  la = lit_of lits low

  abbrev lb : ℕ
  lb = lit_of lits high

  abbrev clauses' : List (List ℕ)
  clauses' = clauses ++ gate_clauses (2 * next) (lit_of lits low) (lit_of lits high)

  abbrev net' : List Node
  net' = net ++ Gate low high ∷ []

  abbrev lits' : List ℕ
  lits' = lits ++ 2 * next ∷ []

  -- the values follow the net with the gate where they follow it without, and x is a and b
  follows' : (chosen values : List Bool) → Follows net lits chosen values → true_in values x ≡ (true_in values la && true_in values lb) → Follows net' lits' chosen values
  follows' chosen values f e k le = elim (cases_lt k (length net + 1)) [
    | inl below ↦
        let kl : k ≤ length net = omega arith in
        ap (true_in values) (get_or_append_left lits (2 * next ∷ []) 0 k (omega (arith, b.count)))
        ∙ f k kl
        ∙ sym (old_value chosen [] net (Gate low high) k kl)
    | inr ge ↦
        let kl : k ≡ length net + 1 = omega (arith, length-append net (Gate low high ∷ [])) in
        ap (true_in values) (get_or_push lits (2 * next) 0 k (b.count ∙ sym kl))
        ∙ e
        ∙ ap (λ t. t && true_in values lb) (lit_follows net lits chosen values low f ll)
        ∙ ap (λ t. value_in (node_values chosen [] net) low && t) (lit_follows net lits chosen values high f hl)
        ∙ sym (new_value chosen [] net (Gate low high) k kl)
  ]

  determined' : (chosen values : List Bool) → Satisfies values clauses' → Chooses net' lits' chosen values → Follows net' lits' chosen values
  determined' chosen values s c =
      follows' chosen values
      (h.determined chosen values (satisfies_left values clauses _ s) (λ k j kl at.
      ap (true_in values) (sym (get_or_append_left lits (2 * next ∷ []) 0 (k + 1) (omega (arith, b.count))))
      ∙ c k j (omega (arith, length-append net (Gate low high ∷ []))) (get_or_append_left net (Gate low high ∷ []) (Latch 0) k kl ∙ at)))
      (gate_value values x la lb (satisfies_right values clauses _ s))

  module _ (chosen others : List Bool) where
    old : (values : List Bool) × Satisfies values clauses × Follows net lits chosen values × ((v : ℕ) → 1 ≤ v → All (λ l. l / 2 ≢ v) lits → true_in values (2 * v) ≡ true_in others (2 * v))
    old = h.exists chosen others

    abbrev value : Bool
    value = true_in old.0 la && true_in old.0 lb

    abbrev values : List Bool
    values = put old.0 (next - 1) value

    same : (l : ℕ) → 1 ≤ l / 2 → l / 2 < next → true_in values l ≡ true_in old.0 l
    same l big lt = put_else old.0 next value l b.some big (omega arith)

    follows : Follows net lits chosen values
    follows k le = let r = b.lits_below k 0 (omega (arith, b.count)) in same (get_or lits k 0) r.0 r.1 ∙ old.2 k le

    is : true_in values x ≡ (true_in values la && true_in values lb)
    is =
        let p = lit_below lits next low b.lits_below (omega (arith, b.count)) in
        let q = lit_below lits next high b.lits_below (omega (arith, b.count)) in
        put_lit old.0 next value b.some ∙ ap (λ t. t && true_in old.0 lb) (sym (same la p.0 p.1)) ∙ ap (λ t. true_in values la && t) (sym (same lb q.0 q.1))

    kept : (c : List ℕ) → All (λ l. (1 ≤ l / 2) × (l / 2 < next)) c → clause_true values c ≡ clause_true old.0 c
    kept c below = list_any_agree (true_in values) (true_in old.0) c (λ k d lt. let r = below k d lt in same (get_or c k d) r.0 r.1)

    satisfies : Satisfies values clauses'
    satisfies = record { each = All-append (λ c. clause_true values c ≡ true) clauses _ (λ k d lt. kept (get_or clauses k d) (b.clauses_below k d lt) ∙ old.1.each k d lt) (gate_satisfied values x la lb is).each }

    rest : (v : ℕ) → 1 ≤ v → All (λ l. l / 2 ≢ v) lits' → true_in values (2 * v) ≡ true_in others (2 * v)
    rest v big none =
        let half : (2 * v) / 2 ≡ v = omega arith in
        let n : (2 * next) / 2 ≢ v = subst (λ (l : ℕ). l / 2 ≢ v) (get_or_push lits (2 * next) 0 (length lits) refl) (none (length lits) 0 (omega (arith, length-append lits (2 * next ∷ [])))) in
        put_else old.0 next value (2 * v) b.some (omega arith) (λ e. n (omega arith))
        ∙ old.3 v big (λ k d lt. subst (λ (l : ℕ). l / 2 ≢ v) (get_or_append_left lits (2 * next ∷ []) d k lt) (none k d (omega (arith, length-append lits (2 * next ∷ [])))))

    found : (values : List Bool) × Satisfies values clauses' × Follows net' lits' chosen values × ((v : ℕ) → 1 ≤ v → All (λ l. l / 2 ≢ v) lits' → true_in values (2 * v) ≡ true_in others (2 * v))
    found = (put old.0 (next - 1) value, satisfies, follows' chosen values follows is, rest)

  pub Encodes-gate : Encodes clauses' net' lits'
  Encodes-gate = record { determined = determined'; exists = found }
