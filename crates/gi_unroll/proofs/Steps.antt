use Rattle.std.proofs.Common.{◌≡◌, ℕ, zero, suc, ◌+◌, ◌*◌, ◌/◌, ◌%◌, ◌<◌, ◌≤◌, Bool, true, false, cond, Option, Some, None, List, [], ◌∷◌, ◌++◌, length, get_or, take, drop, refl, sym, ap, ◌∙◌, subst, arith, inl, inr, length-append, append_assoc}
use Rattle.std.specs.Prelude.{◌==◌, nat_lt, Result, Ok, Err, OnErr}
use Rattle.std.specs.List.{All, fold, count_by, sum_by}
use Rattle.std.proofs.lemmas.Bool.{cases_lt, cases_eq, eq-eqb, ne_eqb}
use Rattle.std.proofs.lemmas.List.{append-nil, get_or_append_left, get_or_push, get_or-take, length-take-le, take_more, take-append-drop}
use Rattle.std.proofs.lemmas.List.Elements.{All-append, All-cons, All-from_recursion, All-push, All-nil, All-weaker}
use Rattle.std.proofs.lemmas.List.Sums.{sum_by-append}
use Rattle.gi_lit.specs.Literals.{opposite}
use Rattle.gi_lit.proofs.Literals.{var-opposite}
use Rattle.gi_aiger.specs.declared.aig.Reset.{Reset}
use Rattle.gi_aiger.specs.declared.aig.Reset.TheVariants.{Zero, One, Free}
use Rattle.gi_circuit.specs.Nodes.{IsPlaced, IsOrdered, is_gate, folded, gate_from, gate_in, and_in, pair_of}
use Rattle.gi_circuit.specs.Frames.{edge_of, gate_clauses, lit_of, Draft, with_choice, with_made, with_gate, with_node, Along, choice_along, input_along, reset_along}
use Rattle.gi_circuit.specs.declared.node.Node.{Node}
use Rattle.gi_circuit.specs.declared.node.Node.TheVariants.{Input, Latch, Gate}
use Rattle.gi_circuit.proofs.Gates.{a_pair, and_in-folded, and_in-gate, edge_fits}
use Rattle.gi_circuit.proofs.Meaning.{folded_within}
use Rattle.gi_circuit.proofs.Wiring.{and_in-more, and_in-same}
use Rattle.gi_unroll.specs.Steps.{IsReady, HasEdges, IsLonger, IsSame, HasLiteral, along, defined}

pub IsLonger-refl : (d : Draft) → IsLonger d d
IsLonger-refl d = record { net = ([], sym (append-nil d.net)); lits = ([], sym (append-nil d.lits)) }

pub IsLonger-trans : (d e f : Draft) → IsLonger d e → IsLonger e f → IsLonger d f
IsLonger-trans d e f g h = record {
  net = (g.net.0 ++ h.net.0, h.net.1 ∙ ap (λ z. z ++ h.net.0) g.net.1 ∙ append_assoc d.net g.net.0 h.net.0);
  lits = (g.lits.0 ++ h.lits.0, h.lits.1 ∙ ap (λ z. z ++ h.lits.0) g.lits.1 ∙ append_assoc d.lits g.lits.0 h.lits.0);
}

-- edges that stay within nodes of which there are more
pub All-longer : (n m : ℕ) (es : List ℕ) → n ≤ m → All (λ e. e / 2 ≤ n) es → All (λ e. e / 2 ≤ m) es
All-longer n m es le h = All-weaker (λ e. e / 2 ≤ n) (λ e. e / 2 ≤ m) (λ e q. (let z : e / 2 ≤ m = omega arith in z)) es h

pub length-longer : (d e : Draft) → IsLonger d e → length d.net ≤ length e.net
length-longer d e h = let n = ap length h.net.1 in omega (arith, n, length-append d.net h.net.0)

-- a variable's literal stays where it is
HasLiteral-more : (xs ys : List ℕ) (v : ℕ) → HasLiteral xs v → HasLiteral (xs ++ ys) v
HasLiteral-more xs ys v h =
    let lt = h.1 in
    (h.0, omega (arith, lt, length-append xs ys), ap (λ z. z / 2) (get_or_append_left xs ys 0 h.0 h.1) ∙ h.2)

HasLiteral-last : (xs : List ℕ) (n v : ℕ) → n ≡ v → HasLiteral (xs ++ 2 * n ∷ []) v
HasLiteral-last xs n v e = (length xs, omega (arith, length-append xs (2 * n ∷ [])), ap (λ z. z / 2) (get_or_push xs (2 * n) 0 (length xs) refl) ∙ omega (arith, e))

-- the literal of an edge is of a variable that has one
pub lit_known : (lits : List ℕ) (e : ℕ) → e / 2 < length lits → HasLiteral lits (lit_of lits e / 2)
lit_known lits e lt = go (e % 2 == 0)
  where
    go : (t : Bool) → HasLiteral lits (cond t (get_or lits (e / 2) 0) (opposite (get_or lits (e / 2) 0)) / 2)
    go true = (e / 2, lt, refl)
    go false = (e / 2, lt, sym (var-opposite (get_or lits (e / 2) 0)))

-- clauses that were put behind those there were: of variables that have a literal, and three at most with seven literals for each of so many gates
pub record AddsClauses (d e : Draft) (gates : ℕ) : Type 0 where
  pub more : List (List ℕ)
  pub are : e.clauses ≡ d.clauses ++ more
  pub known : All (All (λ l. HasLiteral e.lits (l / 2))) more
  pub count : length more ≤ 3 * gates
  pub literals : sum_by (λ (c : List ℕ). length c) more ≤ 7 * gates

pub adds_none : (d e : Draft) (gates : ℕ) → e.clauses ≡ d.clauses → AddsClauses d e gates
adds_none d e gates q = record { more = []; are = q ∙ sym (append-nil d.clauses); known = All-nil (All (λ l. HasLiteral e.lits (l / 2))); count = omega arith; literals = omega arith }

adds_trans : (d e f : Draft) (n m : ℕ) → IsLonger e f → AddsClauses d e n → AddsClauses e f m → AddsClauses d f (n + m)
adds_trans d e f n m l x y =
    let stays : (v : ℕ) → HasLiteral e.lits v → HasLiteral f.lits v = λ (v : ℕ) (h : HasLiteral e.lits v). subst (λ (z : List ℕ). HasLiteral z v) (sym l.lits.1) (HasLiteral-more e.lits l.lits.0 v h) in
    record {
      more = x.more ++ y.more;
      are = y.are ∙ ap (λ z. z ++ y.more) x.are ∙ append_assoc d.clauses x.more y.more;
      known = All-append (All (λ l. HasLiteral f.lits (l / 2))) x.more y.more (λ k z lt i w il. stays (get_or (get_or x.more k z) i w / 2) (x.known k z lt i w il)) y.known;
      count = omega (arith, x.count, y.count, length-append x.more y.more);
      literals = omega (arith, x.literals, y.literals, sum_by-append (λ (c : List ℕ). length c) x.more y.more);
    }

-- what grows takes at most so many variables, each for a literal, and makes nothing without one
pub record Grows (d e : Draft) (taken : ℕ) : Type 0 where
  pub longer : IsLonger d e
  pub from : d.next ≤ e.next
  pub next : e.next ≤ d.next + taken
  pub same : e.next ≡ d.next → IsSame d e
  pub covers : (v : ℕ) → d.next ≤ v → v < e.next → HasLiteral e.lits v
  pub fresh : All (λ l. (d.next ≤ l / 2) × (l / 2 < e.next)) longer.lits.0
  pub clauses : AddsClauses d e taken

pub Grows-refl : (d : Draft) (taken : ℕ) → Grows d d taken
unfolding IsLonger-refl
Grows-refl d taken = record {
  longer = IsLonger-refl d;
  from = omega arith;
  next = omega arith;
  same = λ e. record { net = refl; lits = refl; clauses = refl };
  covers = λ v a b. absurd (omega arith);
  fresh = All-nil (λ l. (d.next ≤ l / 2) × (l / 2 < d.next));
  clauses = adds_none d d taken refl;
}

pub Grows-trans : (d e f : Draft) (n m : ℕ) → Grows d e n → Grows e f m → Grows d f (n + m)
unfolding IsLonger-trans
Grows-trans d e f n m g h =
    let a = g.from in
    let b = h.from in
    let c = g.next in
    let z = h.next in
    record {
      longer = IsLonger-trans d e f g.longer h.longer;
      from = omega arith;
      next = omega arith;
      same = λ q. let x = g.same (omega arith) in let y = h.same (omega arith) in record { net = y.net ∙ x.net; lits = y.lits ∙ x.lits; clauses = y.clauses ∙ x.clauses };
      covers = λ v lo hi. elim (cases_lt v e.next) [
        | inl below ↦ subst (λ (z : List ℕ). HasLiteral z v) (sym h.longer.lits.1) (HasLiteral-more e.lits h.longer.lits.0 v (g.covers v lo below))
        | inr ge ↦ h.covers v ge hi
      ];
      fresh = All-append (λ l. (d.next ≤ l / 2) × (l / 2 < f.next)) g.longer.lits.0 h.longer.lits.0
          (λ k y lt. let r = g.fresh k y lt in (r.0, (let w = r.1 in omega arith)))
          (λ k y lt. let r = h.fresh k y lt in ((let w = r.0 in omega arith), r.1));
      clauses = adds_trans d e f n m h.longer g.clauses h.clauses;
    }

pub Grows-more : (d e : Draft) (n m : ℕ) → n ≡ m → Grows d e n → Grows d e m
Grows-more d e n m q g = subst (λ (z : ℕ). Grows d e z) q g

-- the literal of the variable that comes next
last_fresh : (d : Draft) → All (λ l. (d.next ≤ l / 2) × (l / 2 < d.next + 1)) (2 * d.next ∷ [])
last_fresh d = All-cons (λ l. (d.next ≤ l / 2) × (l / 2 < d.next + 1)) (2 * d.next) [] (omega arith, omega arith) (All-nil (λ l. (d.next ≤ l / 2) × (l / 2 < d.next + 1)))

-- a choice
pub Grows-choice : (d : Draft) → Grows d (with_choice d) 1
Grows-choice d = record {
  longer = record { net = (Input d.choices ∷ [], refl); lits = (2 * d.next ∷ [], refl) };
  from = omega arith;
  next = omega arith;
  same = λ e. absurd (omega arith);
  covers = λ v lo hi. HasLiteral-last d.lits d.next v (omega arith);
  fresh = last_fresh d;
  clauses = adds_none d (with_choice d) 1 refl;
}

pub IsReady-choice : (d : Draft) → IsReady d → IsReady (with_choice d)
IsReady-choice d r = record {
  count = omega (arith, r.count, length-append d.lits (2 * d.next ∷ []), length-append d.net (Input d.choices ∷ []));
  fits = omega (arith, r.fits, length-append d.lits (2 * d.next ∷ []));
}

-- what edges that were made along have
pub record AreEdges (first : Draft) (n : ℕ) (a : Along) : Type 0 where
  pub ready : IsReady a.draft
  pub grows : Grows first a.draft n
  pub kept : a.draft.edges ≡ first.edges
  pub quiet : a.draft.clauses ≡ first.clauses
  pub count : length a.edges ≡ n
  pub within : All (λ e. e / 2 ≤ length a.draft.net) a.edges

pub AreEdges-none : (d : Draft) → IsReady d → AreEdges d 0 (along d [])
AreEdges-none d r = record { ready = r; grows = Grows-refl d 0; kept = refl; quiet = refl; count = refl; within = All-nil (λ e. e / 2 ≤ length d.net) }

pub AreEdges-choice : (first : Draft) (n : ℕ) (a : Along) → AreEdges first n a → AreEdges first (n + 1) (choice_along a)
AreEdges-choice first n a h =
    let l = length-append a.draft.net (Input a.draft.choices ∷ []) in
    record {
      ready = IsReady-choice a.draft h.ready;
      grows = Grows-trans first a.draft (with_choice a.draft) n 1 h.grows (Grows-choice a.draft);
      kept = h.kept;
      quiet = h.quiet;
      count = omega (arith, h.count, length-append a.edges (2 * (length a.draft.net + 1) ∷ []));
      within = All-push (λ e. e / 2 ≤ length (a.draft.net ++ Input a.draft.choices ∷ [])) a.edges (2 * (length a.draft.net + 1)) (All-longer (length a.draft.net) (length (a.draft.net ++ Input a.draft.choices ∷ [])) a.edges (omega (arith, l)) h.within) (omega (arith, l));
    }

constant_along : (first : Draft) (n : ℕ) (a : Along) (e : ℕ) → e / 2 ≡ 0 → AreEdges first n a → AreEdges first (n + 1) (record a { edges = a.edges ++ e ∷ [] })
constant_along first n a e z h = record {
  ready = h.ready;
  grows = Grows-trans first a.draft a.draft n 1 h.grows (Grows-refl a.draft 1);
  kept = h.kept;
  quiet = h.quiet;
  count = omega (arith, h.count, length-append a.edges (e ∷ []));
  within = All-push (λ e. e / 2 ≤ length a.draft.net) a.edges e h.within (omega (arith, z));
}

pub AreEdges-reset : (first : Draft) (n : ℕ) (a : Along) (r : Reset) → AreEdges first n a → AreEdges first (n + 1) (reset_along a r)
AreEdges-reset first n a Zero h = constant_along first n a 0 refl h
AreEdges-reset first n a One h = constant_along first n a 1 refl h
AreEdges-reset first n a Free h = AreEdges-choice first n a h

pub AreEdges-inputs : (d : Draft) (n : ℕ) → IsReady d → AreEdges d n (input_along n (along d []))
AreEdges-inputs d zero r = AreEdges-none d r
AreEdges-inputs d (suc n) r = subst (λ (z : ℕ). AreEdges d z (choice_along (input_along n (along d [])))) (let e : n + 1 ≡ suc n = omega arith in e) (AreEdges-choice d n (input_along n (along d [])) (AreEdges-inputs d n r))

pub AreEdges-resets : (first : Draft) (rs : List Reset) (n : ℕ) (a : Along) → AreEdges first n a → AreEdges first (n + length rs) (fold reset_along a rs)
AreEdges-resets first [] n a h = subst (λ (z : ℕ). AreEdges first z a) (let e : n ≡ n + 0 = omega arith in e) h
AreEdges-resets first (r ∷ rs) n a h = subst (λ (z : ℕ). AreEdges first z (fold reset_along (reset_along a r) rs)) (let e : n + 1 + length rs ≡ n + suc (length rs) = omega arith in e) (AreEdges-resets first rs (n + 1) (reset_along a r) (AreEdges-reset first n a r h))

-- an edge of the circuit is within the shared one
pub edge_within : (d : Draft) (n e : ℕ) → HasEdges n d → e / 2 ≤ n → edge_of d.edges e / 2 ≤ length d.net
edge_within d n e h le = go (e % 2 == 0)
  where
    go : (t : Bool) → cond t (get_or d.edges (e / 2) 0) (opposite (get_or d.edges (e / 2) 0)) / 2 ≤ length d.net
    go true = h.within (e / 2) 0 (omega (arith, h.count))
    go false = let v = var-opposite (get_or d.edges (e / 2) 0) in let x = h.within (e / 2) 0 (omega (arith, h.count)) in omega (arith, v, x)

-- what a node more keeps
pub record NodeMore (n : ℕ) (d e : Draft) (taken : ℕ) : Type 0 where
  pub ready : IsReady e
  pub grows : Grows d e taken
  pub edges : HasEdges (n + 1) e

put_more : (n : ℕ) (d : Draft) (e taken : ℕ) → IsReady d → HasEdges n d → e / 2 ≤ length d.net → NodeMore n d (record d { edges = d.edges ++ e ∷ [] }) taken
put_more n d e taken r h le = record {
  ready = record { count = r.count; fits = r.fits };
  grows = record {
    longer = record { net = ([], sym (append-nil d.net)); lits = ([], sym (append-nil d.lits)) };
    from = omega arith;
    next = omega arith;
    same = λ e. record { net = refl; lits = refl; clauses = refl };
    covers = λ v lo hi. absurd (omega arith);
    fresh = All-nil (λ l. (d.next ≤ l / 2) × (l / 2 < d.next));
    clauses = adds_none d (record d { edges = d.edges ++ e ∷ [] }) taken refl;
  };
  edges = record { count = omega (arith, h.count, length-append d.edges (e ∷ [])); within = All-push (λ e. e / 2 ≤ length d.net) d.edges e h.within le };
}

-- an edge that is there
pub gate_there : (d : Draft) (a b e : ℕ) → and_in d.net a b ≡ record { nodes = d.net; edge = e } → with_gate d a b ≡ record d { edges = d.edges ++ e ∷ [] }
gate_there d a b e m = ap (with_made d a b) m ∙ ap (λ t. cond t (record d { edges = d.edges ++ e ∷ [] }) (record d {
  net = d.net;
  lits = d.lits ++ 2 * d.next ∷ [];
  next = d.next + 1;
  clauses = d.clauses ++ gate_clauses (2 * d.next) (lit_of d.lits (pair_of a b).low) (lit_of d.lits (pair_of a b).high);
  edges = d.edges ++ e ∷ [];
})) (eq-eqb (length d.net) (length d.net) refl)

-- a gate that is new
abbrev pub gate_grown : Draft → ℕ → ℕ → Draft
gate_grown d a b = record {
  net = d.net ++ Gate (pair_of a b).low (pair_of a b).high ∷ [];
  choices = d.choices;
  lits = d.lits ++ 2 * d.next ∷ [];
  next = d.next + 1;
  clauses = d.clauses ++ gate_clauses (2 * d.next) (lit_of d.lits (pair_of a b).low) (lit_of d.lits (pair_of a b).high);
  edges = d.edges ++ 2 * (length d.net + 1) ∷ [];
}

pub gate_new : (d : Draft) (a b : ℕ) → and_in d.net a b ≡ record { nodes = d.net ++ Gate (pair_of a b).low (pair_of a b).high ∷ []; edge = 2 * (length d.net + 1) } → with_gate d a b ≡ gate_grown d a b
gate_new d a b m = ap (with_made d a b) m ∙ ap (λ t. cond t (record d { edges = d.edges ++ 2 * (length d.net + 1) ∷ [] }) (gate_grown d a b)) (ne_eqb (length (d.net ++ Gate (pair_of a b).low (pair_of a b).high ∷ [])) (length d.net) (λ e. omega (arith, e, length-append d.net (Gate (pair_of a b).low (pair_of a b).high ∷ []))))

-- the edges of a pair are those of which it was made
pair_fits : (a b n : ℕ) → a / 2 ≤ n → b / 2 ≤ n → ((pair_of a b).low / 2 ≤ n) × ((pair_of a b).high / 2 ≤ n)
pair_fits a b n al bl = go (nat_lt a b)
  where
    go : (t : Bool) → ((cond t (a_pair a b) (a_pair b a)).low / 2 ≤ n) × ((cond t (a_pair a b) (a_pair b a)).high / 2 ≤ n)
    go true = (al, bl)
    go false = (bl, al)

-- the clauses of a new gate
gate_adds : (d : Draft) (a b : ℕ) → IsReady d → a / 2 ≤ length d.net → b / 2 ≤ length d.net → AddsClauses d (gate_grown d a b) 1
gate_adds d a b r al bl =
    let p = pair_fits a b (length d.net) al bl in
    let p0 = p.0 in
    let p1 = p.1 in
    let Has : ℕ → Type 0 = λ (l : ℕ). HasLiteral (d.lits ++ 2 * d.next ∷ []) (l / 2) in
    let hx : Has (2 * d.next) = HasLiteral-last d.lits d.next ((2 * d.next) / 2) (omega arith) in
    let hy : Has (lit_of d.lits (pair_of a b).low) = HasLiteral-more d.lits (2 * d.next ∷ []) (lit_of d.lits (pair_of a b).low / 2) (lit_known d.lits (pair_of a b).low (omega (arith, r.count))) in
    let hz : Has (lit_of d.lits (pair_of a b).high) = HasLiteral-more d.lits (2 * d.next ∷ []) (lit_of d.lits (pair_of a b).high / 2) (lit_known d.lits (pair_of a b).high (omega (arith, r.count))) in
    let other : (l : ℕ) → Has l → Has (opposite l) = λ (l : ℕ) (h : Has l). subst (HasLiteral (d.lits ++ 2 * d.next ∷ [])) (sym (var-opposite l)) h in
    record {
      more = gate_clauses (2 * d.next) (lit_of d.lits (pair_of a b).low) (lit_of d.lits (pair_of a b).high);
      are = refl;
      known = All-from_recursion (All Has) (gate_clauses (2 * d.next) (lit_of d.lits (pair_of a b).low) (lit_of d.lits (pair_of a b).high)) (
        All-from_recursion Has (opposite (2 * d.next) ∷ lit_of d.lits (pair_of a b).low ∷ []) (other (2 * d.next) hx, (hy, tt)),
        (
          All-from_recursion Has (opposite (2 * d.next) ∷ lit_of d.lits (pair_of a b).high ∷ []) (other (2 * d.next) hx, (hz, tt)),
          (All-from_recursion Has (2 * d.next ∷ opposite (lit_of d.lits (pair_of a b).low) ∷ opposite (lit_of d.lits (pair_of a b).high) ∷ []) (hx, (other (lit_of d.lits (pair_of a b).low) hy, (other (lit_of d.lits (pair_of a b).high) hz, tt))), tt),
        ),
      );
      count = omega arith;
      literals = omega arith;
    }

grown_more : (n : ℕ) (d : Draft) (a b : ℕ) → IsReady d → HasEdges n d → a / 2 ≤ length d.net → b / 2 ≤ length d.net → NodeMore n d (gate_grown d a b) 1
grown_more n d a b r h al bl =
    let l = length-append d.net (Gate (pair_of a b).low (pair_of a b).high ∷ []) in
    record {
      ready = record { count = omega (arith, r.count, length-append d.lits (2 * d.next ∷ []), l); fits = omega (arith, r.fits, length-append d.lits (2 * d.next ∷ [])) };
      grows = record {
        longer = record { net = (Gate (pair_of a b).low (pair_of a b).high ∷ [], refl); lits = (2 * d.next ∷ [], refl) };
        from = omega arith;
        next = omega arith;
        same = λ e. absurd (omega arith);
        covers = λ v lo hi. HasLiteral-last d.lits d.next v (omega arith);
        fresh = last_fresh d;
        clauses = gate_adds d a b r al bl;
      };
      edges = record {
        count = omega (arith, h.count, length-append d.edges (2 * (length d.net + 1) ∷ []));
        within = All-push (λ e. e / 2 ≤ length (d.net ++ Gate (pair_of a b).low (pair_of a b).high ∷ [])) d.edges (2 * (length d.net + 1)) (All-longer (length d.net) (length (d.net ++ Gate (pair_of a b).low (pair_of a b).high ∷ [])) d.edges (omega (arith, l)) h.within) (omega (arith, l));
      };
    }

pub gate_more : (n : ℕ) (d : Draft) (a b : ℕ) → IsReady d → HasEdges n d → a / 2 ≤ length d.net → b / 2 ≤ length d.net → NodeMore n d (with_gate d a b) 1
gate_more n d a b r h al bl = go (folded a b) refl
  where
    gate : (g : Option ℕ) → folded a b ≡ None → gate_from 1 d.net (pair_of a b).low (pair_of a b).high ≡ g → NodeMore n d (with_gate d a b) 1
    gate (Some k) f g =
        let m : and_in d.net a b ≡ record { nodes = d.net; edge = 2 * k } = and_in-gate d.net a b f ∙ ap (gate_in d.net (pair_of a b).low (pair_of a b).high) g in
        let k_fits = edge_fits d.net (pair_of a b).low (pair_of a b).high k g in
        subst (λ (e : Draft). NodeMore n d e 1) (sym (gate_there d a b (2 * k) m)) (put_more n d (2 * k) 1 r h (omega (arith, k_fits)))
    gate None f g =
        let m : and_in d.net a b ≡ record { nodes = d.net ++ Gate (pair_of a b).low (pair_of a b).high ∷ []; edge = 2 * (length d.net + 1) } = and_in-gate d.net a b f ∙ ap (gate_in d.net (pair_of a b).low (pair_of a b).high) g in
        subst (λ (e : Draft). NodeMore n d e 1) (sym (gate_new d a b m)) (grown_more n d a b r h al bl)

    go : (o : Option ℕ) → folded a b ≡ o → NodeMore n d (with_gate d a b) 1
    go (Some e) f = subst (λ (z : Draft). NodeMore n d z 1) (sym (gate_there d a b e (and_in-folded d.net a b e f))) (put_more n d e 1 r h (folded_within a b e (length d.net) al bl f))
    go None f = gate (gate_from 1 d.net (pair_of a b).low (pair_of a b).high) f refl

-- what m nodes more keep, behind n
pub record NodesMore (n m : ℕ) (d e : Draft) (taken : ℕ) : Type 0 where
  pub ready : IsReady e
  pub grows : Grows d e taken
  pub edges : HasEdges (n + m) e

-- each node of the circuit
module _ (ins ls : List ℕ) where
  pub node_more : (n : ℕ) (d : Draft) (y : Node) → IsReady d → HasEdges n d → All (λ e. e / 2 ≤ length d.net) ins → All (λ e. e / 2 ≤ length d.net) ls → IsPlaced (length ins) (length ls) n y → NodeMore n d (with_node ins ls d y) (cond (is_gate y) 1 0)
  node_more n d (Input j) r h hi hl p = put_more n d (get_or ins j 0) 0 r h (hi j 0 p)
  node_more n d (Latch j) r h hi hl p = put_more n d (get_or ls j 0) 0 r h (hl j 0 p)
  node_more n d (Gate a b) r h hi hl p =
      let ab : a < b = p.0 in
      let bl : b / 2 ≤ n = p.1 in
      gate_more n d (edge_of d.edges a) (edge_of d.edges b) r h (edge_within d n a h (omega arith)) (edge_within d n b h bl)

  pub nodes_more : (ys : List Node) (n : ℕ) (d : Draft) → IsReady d → HasEdges n d → All (λ e. e / 2 ≤ length d.net) ins → All (λ e. e / 2 ≤ length d.net) ls
      → ((k : ℕ) → k < length ys → IsPlaced (length ins) (length ls) (n + k) (get_or ys k (Input 0))) → NodesMore n (length ys) d (fold (with_node ins ls) d ys) (count_by is_gate ys)
  nodes_more [] n d r h hi hl p = record { ready = r; grows = Grows-refl d 0; edges = subst (λ (z : ℕ). HasEdges z d) (let e : n ≡ n + 0 = omega arith in e) h }
  nodes_more (y ∷ ys) n d r h hi hl p =
      let one = node_more n d y r h hi hl (subst (λ (z : ℕ). IsPlaced (length ins) (length ls) z y) (let e : n + 0 ≡ n = omega arith in e) (p 0 (omega arith))) in
      let l = length-longer d (with_node ins ls d y) one.grows.longer in
      let rest = nodes_more ys (n + 1) (with_node ins ls d y) one.ready one.edges (All-longer (length d.net) (length (with_node ins ls d y).net) ins l hi) (All-longer (length d.net) (length (with_node ins ls d y).net) ls l hl)
      (λ k lt. subst (λ (z : ℕ). IsPlaced (length ins) (length ls) z (get_or ys k (Input 0))) (let e : n + suc k ≡ n + 1 + k = omega arith in e) (p (suc k) (omega arith))) in
      let c = sum_by-append (λ x. cond (is_gate x) 1 0) (y ∷ []) ys in
      record {
        ready = rest.ready;
        grows = Grows-more d (fold (with_node ins ls) (with_node ins ls d y) ys) (cond (is_gate y) 1 0 + count_by is_gate ys) (count_by is_gate (y ∷ ys)) (omega (arith, c)) (Grows-trans d (with_node ins ls d y) (fold (with_node ins ls) (with_node ins ls d y) ys) (cond (is_gate y) 1 0) (count_by is_gate ys) one.grows rest.grows);
        edges = subst (λ (z : ℕ). HasEdges z (fold (with_node ins ls) (with_node ins ls d y) ys)) (let e : n + 1 + length ys ≡ n + suc (length ys) = omega arith in e) rest.edges;
      }

  -- the first nodes of a circuit
  pub nodes_front : (ns : List Node) (i : ℕ) (d : Draft) → i ≤ length ns → IsReady d → HasEdges 0 d → All (λ e. e / 2 ≤ length d.net) ins → All (λ e. e / 2 ≤ length d.net) ls
      → IsOrdered (record { inputs = length ins; latches = length ls; nodes = ns }) → NodesMore 0 i d (fold (with_node ins ls) d (take i ns)) (count_by is_gate (take i ns))
  nodes_front ns i d le r h hi hl o =
      let len : length (take i ns) ≡ i = length-take-le i ns le in
      subst (λ (z : ℕ). NodesMore 0 z d (fold (with_node ins ls) d (take i ns)) (count_by is_gate (take i ns))) len
      (nodes_more (take i ns) 0 d r h hi hl (λ k lt.
      let below : k < i = omega (arith, len) in
      subst (IsPlaced (length ins) (length ls) (0 + k)) (sym (get_or-take i ns k (Input 0) below))
      (subst (λ (z : ℕ). IsPlaced (length ins) (length ls) z (get_or ns k (Input 0))) (let e : k ≡ 0 + k = omega arith in e) (o.each k (omega arith)))))

-- one gate more is within all gates
pub gates_within : (ns : List Node) (i : ℕ) → i < length ns → count_by is_gate (take i ns) + cond (is_gate (get_or ns i (Input 0))) 1 0 ≤ count_by is_gate ns
gates_within ns i lt =
    let f : Node → ℕ = λ x. cond (is_gate x) 1 0 in
    let a = sum_by-append f (take i ns) (get_or ns i (Input 0) ∷ []) in
    let b = ap (λ z. sum_by f z) (take_more ns i (Input 0) lt) in
    let c = sum_by-append f (take (i + 1) ns) (drop (i + 1) ns) in
    let d = ap (λ z. sum_by f z) (take-append-drop (i + 1) ns) in
    omega (arith, a, b, c, d)

-- an edge of the circuit in the shared one is below what all are below
pub edge_below : (es : List ℕ) (m e : ℕ) → All (λ x. x / 2 < m) es → e / 2 < length es → edge_of es e / 2 < m
edge_below es m e h lt = go (e % 2 == 0)
  where
    go : (t : Bool) → cond t (get_or es (e / 2) 0) (opposite (get_or es (e / 2) 0)) / 2 < m
    go true = h (e / 2) 0 lt
    go false = let v = var-opposite (get_or es (e / 2) 0) in let x = h (e / 2) 0 lt in omega (arith, v, x)

-- a conjunction that was made, defined if it is new, and its edge
pub with_gate_is : (d e f g : Draft) (a b edge : ℕ) → e ≡ record d { net = (and_in d.net a b).nodes } → edge ≡ (and_in d.net a b).edge → f ≡ cond (length e.net == length d.net) e (defined e a b) → g ≡ record f { edges = f.edges ++ edge ∷ [] } → g ≡ with_gate d a b
with_gate_is d e f g a b edge p q r s =
    s
    ∙ ap (λ (z : Draft). let w : Draft = record z { edges = z.edges ++ edge ∷ [] } in w) (r ∙ ap (λ (z : Draft). cond (length z.net == length d.net) z (defined z a b)) p)
    ∙ ap (λ k. let z : Draft = cond (length (and_in d.net a b).nodes == length d.net) (record d { net = (and_in d.net a b).nodes }) (defined (record d { net = (and_in d.net a b).nodes }) a b) in let w : Draft = record z { edges = z.edges ++ k ∷ [] } in w) q
    ∙ elim (cases_eq (length (and_in d.net a b).nodes) (length d.net)) [
      | inl same ↦
          ap (λ t. let z : Draft = cond t (record d { net = (and_in d.net a b).nodes }) (defined (record d { net = (and_in d.net a b).nodes }) a b) in let w : Draft = record z { edges = z.edges ++ (and_in d.net a b).edge ∷ [] } in w) (eq-eqb (length (and_in d.net a b).nodes) (length d.net) same)
          ∙ ap (λ ns. let w : Draft = record d { net = ns; edges = d.edges ++ (and_in d.net a b).edge ∷ [] } in w) (and_in-same d.net a b same)
          ∙ sym (ap (λ t. cond t (record d { edges = d.edges ++ (and_in d.net a b).edge ∷ [] }) (record (defined (record d { net = (and_in d.net a b).nodes }) a b) { edges = d.edges ++ (and_in d.net a b).edge ∷ [] })) (eq-eqb (length (and_in d.net a b).nodes) (length d.net) same))
      | inr other ↦
          ap (λ t. let z : Draft = cond t (record d { net = (and_in d.net a b).nodes }) (defined (record d { net = (and_in d.net a b).nodes }) a b) in let w : Draft = record z { edges = z.edges ++ (and_in d.net a b).edge ∷ [] } in w) (ne_eqb (length (and_in d.net a b).nodes) (length d.net) other)
          ∙ sym (ap (λ t. cond t (record d { edges = d.edges ++ (and_in d.net a b).edge ∷ [] }) (record (defined (record d { net = (and_in d.net a b).nodes }) a b) { edges = d.edges ++ (and_in d.net a b).edge ∷ [] })) (ne_eqb (length (and_in d.net a b).nodes) (length d.net) other))
    ]

-- where the making of a gate broke off, there may be more nodes
pub gate_longer : (d e f : Draft) (a b : ℕ) → e ≡ record d { net = (and_in d.net a b).nodes } → f.net ≡ e.net → f.lits ≡ e.lits → IsLonger d f
gate_longer d e f a b p q r =
    let m = and_in-more d.net a b in
    record { net = (m.0, q ∙ ap (λ (z : Draft). z.net) p ∙ m.1); lits = ([], r ∙ ap (λ (z : Draft). z.lits) p ∙ sym (append-nil d.lits)) }

-- inputs and latches in the middle of a loop
pub inputs_so_far : (d : Draft) (n : ℕ) (a : Along) → IsReady d → a ≡ input_along n (along d []) → AreEdges d n a
inputs_so_far d n a r e = subst (AreEdges d n) (sym e) (AreEdges-inputs d n r)

pub resets_so_far : (d : Draft) (rs : List Reset) (i : ℕ) (a : Along) → i ≤ length rs → IsReady d → a ≡ fold reset_along (along d []) (take i rs) → AreEdges d i a
resets_so_far d rs i a le r e =
    let len : 0 + length (take i rs) ≡ i = (let l = length-take-le i rs le in omega arith) in
    subst (AreEdges d i) (sym e) (subst (λ (z : ℕ). AreEdges d z (fold reset_along (along d []) (take i rs))) len (AreEdges-resets d (take i rs) 0 (along d []) (AreEdges-none d r)))

pub nodes_so_far : (ins ls : List ℕ) (ns : List Node) (i : ℕ) (d e : Draft) → i ≤ length ns → IsReady d → HasEdges 0 d → All (λ x. x / 2 ≤ length d.net) ins → All (λ x. x / 2 ≤ length d.net) ls
    → IsOrdered (record { inputs = length ins; latches = length ls; nodes = ns }) → e ≡ fold (with_node ins ls) d (take i ns) → NodesMore 0 i d e (count_by is_gate (take i ns))
nodes_so_far ins ls ns i d e le r h hi hl o q = subst (λ (z : Draft). NodesMore 0 i d z (count_by is_gate (take i ns))) (sym q) (nodes_front ins ls ns i d le r h hi hl o)

-- after the gate may have been defined
pub defined_longer : (d e f : Draft) (a b : ℕ) (t : Bool) → e ≡ record d { net = (and_in d.net a b).nodes } → f ≡ cond t e (defined e a b) → IsLonger d f
defined_longer d e f a b true p q = gate_longer d e f a b p (ap (λ (z : Draft). z.net) q) (ap (λ (z : Draft). z.lits) q)
defined_longer d e f a b false p q =
    let m = and_in-more d.net a b in
    record {
      net = (m.0, ap (λ (z : Draft). z.net) q ∙ ap (λ (z : Draft). z.net) p ∙ m.1);
      lits = (2 * e.next ∷ [], ap (λ (z : Draft). z.lits) q ∙ ap (λ (z : Draft). z.lits ++ 2 * e.next ∷ []) p);
    }

pub on_err_at : {T E : Type 0} (P : Type 0) (r : Result T E) → P → OnErr r P
on_err_at P (Ok x) p = tt
on_err_at P (Err e) p = p
