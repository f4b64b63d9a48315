use Rattle.std.proofs.Common.{◌≡◌, ℕ, zero, suc, ◌+◌, ◌*◌, ◌/◌, ◌<◌, ◌≤◌, Bool, true, false, List, [], ◌∷◌, ◌++◌, length, get_or, drop, refl, sym, ap, ◌∙◌, subst, arith, inl, inr, length-append, append_assoc}
use Rattle.std.specs.List.{fold}
use Rattle.std.proofs.lemmas.Bool.{cases_lt}
use Rattle.std.proofs.lemmas.List.{append-nil, get_or_append_left, get_or_push, get_or-drop, drop-drop}
use Rattle.gi_circuit.specs.Values.{value_in}
use Rattle.gi_circuit.specs.Nodes.{node_values}
use Rattle.gi_circuit.specs.Systems.{reset_values}
use Rattle.gi_aiger.specs.declared.aig.Reset.{Reset}
use Rattle.gi_circuit.specs.Frames.{Draft, Along, choice_along, input_along, reset_along}
use Rattle.gi_circuit.specs.Encoding.{IsSoundDraft, HaveValues, free_count}
use Rattle.gi_aiger.specs.declared.aig.Reset.TheVariants.{Zero, One, Free}
use Rattle.gi_circuit.specs.declared.node.Node.{Node}
use Rattle.gi_circuit.specs.declared.node.Node.TheVariants.{Input}
use Rattle.gi_circuit.proofs.Gates.{new_value}
use Rattle.gi_circuit.proofs.Meaning.{front_edge, value_zero, value_in-zero, value_in-one, edge_value}
use Rattle.gi_unroll.proofs.Choosing.{IsSoundDraft-choice}

pub HaveValues-more : (net more : List Node) (edges : List ℕ) (n : ℕ) (told : List Bool → List Bool) → HaveValues net edges n told → HaveValues (net ++ more) edges n told
HaveValues-more net more edges n told h = record {
  within = λ j jl. let w = h.within j jl in omega (arith, w, length-append net more);
  values = λ chosen j jl. front_edge chosen [] net more (get_or edges j 0) (h.within j jl) ∙ h.values chosen j jl;
}

-- edges that were made along: the first n have the values told
pub record IsAlong (earlier : List (List ℕ)) (choices : ℕ) (first : Draft) (n : ℕ) (told : List Bool → List Bool) (a : Along) : Type 0 where
  pub sound : IsSoundDraft earlier choices a.draft
  pub more : List Node
  pub net : a.draft.net ≡ first.net ++ more
  pub kept : a.draft.edges ≡ first.edges
  pub count : length a.edges ≡ n
  pub have : HaveValues a.draft.net a.edges n told

module _ (earlier : List (List ℕ)) (choices : ℕ) (first : Draft) (n : ℕ) (told : List Bool → List Bool) (a : Along) (h : IsAlong earlier choices first n told a) where
  pub IsAlong-choice : a.draft.choices < choices → ((chosen : List Bool) → get_or (told chosen) n false ≡ get_or chosen a.draft.choices false) → IsAlong earlier choices first (n + 1) told (choice_along a)
  IsAlong-choice lt last = record {
    sound = IsSoundDraft-choice earlier choices a.draft h.sound lt;
    more = h.more ++ Input a.draft.choices ∷ [];
    net = ap (λ z. z ++ Input a.draft.choices ∷ []) h.net ∙ append_assoc first.net h.more (Input a.draft.choices ∷ []);
    kept = h.kept;
    count = omega (arith, length-append a.edges (2 * (length a.draft.net + 1) ∷ []), h.count);
    have = record {
      within = λ j jl. elim (cases_lt j n) [
        | inl below ↦ let w = h.have.within j below in let at : get_or (a.edges ++ 2 * (length a.draft.net + 1) ∷ []) j 0 ≡ get_or a.edges j 0 = get_or_append_left a.edges _ 0 j (omega (arith, h.count)) in rw at (omega (arith, w, length-append a.draft.net (Input a.draft.choices ∷ [])))
        | inr ge ↦ let at : get_or (a.edges ++ 2 * (length a.draft.net + 1) ∷ []) j 0 ≡ 2 * (length a.draft.net + 1) = get_or_push a.edges _ 0 j (omega (arith, h.count)) in rw at (omega (arith, length-append a.draft.net (Input a.draft.choices ∷ [])))
      ];
      values = λ chosen j jl. elim (cases_lt j n) [
        | inl below ↦
            ap (value_in (node_values chosen [] (a.draft.net ++ Input a.draft.choices ∷ []))) (get_or_append_left a.edges (2 * (length a.draft.net + 1) ∷ []) 0 j (omega (arith, h.count)))
            ∙ front_edge chosen [] a.draft.net (Input a.draft.choices ∷ []) (get_or a.edges j 0) (h.have.within j below)
            ∙ h.have.values chosen j below
        | inr ge ↦
            let e : j ≡ n = omega arith in
            ap (value_in (node_values chosen [] (a.draft.net ++ Input a.draft.choices ∷ []))) (get_or_push a.edges (2 * (length a.draft.net + 1)) 0 j (h.count ∙ sym e))
            ∙ edge_value (node_values chosen [] (a.draft.net ++ Input a.draft.choices ∷ [])) (length a.draft.net + 1)
            ∙ new_value chosen [] a.draft.net (Input a.draft.choices) (length a.draft.net + 1) refl
            ∙ sym (last chosen)
            ∙ ap (λ z. get_or (told chosen) z false) (sym e)
      ];
    };
  }

  -- a constant
  pub IsAlong-constant : (e : ℕ) (b : Bool) → e / 2 ≡ 0 → ((vs : List Bool) → get_or vs 0 false ≡ false → value_in vs e ≡ b) → ((chosen : List Bool) → get_or (told chosen) n false ≡ b) → IsAlong earlier choices first (n + 1) told (record a { edges = a.edges ++ e ∷ [] })
  IsAlong-constant e b small is last = record {
    sound = h.sound;
    more = h.more;
    net = h.net;
    kept = h.kept;
    count = omega (arith, length-append a.edges (e ∷ []), h.count);
    have = record {
      within = λ j jl. elim (cases_lt j n) [
        | inl below ↦ subst (λ (z : ℕ). z / 2 ≤ length a.draft.net) (sym (get_or_append_left a.edges (e ∷ []) 0 j (omega (arith, h.count)))) (h.have.within j below)
        | inr ge ↦ subst (λ (z : ℕ). z / 2 ≤ length a.draft.net) (sym (get_or_push a.edges e 0 j (omega (arith, h.count)))) (omega arith)
      ];
      values = λ chosen j jl. elim (cases_lt j n) [
        | inl below ↦ ap (value_in (node_values chosen [] a.draft.net)) (get_or_append_left a.edges (e ∷ []) 0 j (omega (arith, h.count))) ∙ h.have.values chosen j below
        | inr ge ↦
            let same : j ≡ n = omega arith in
            ap (value_in (node_values chosen [] a.draft.net)) (get_or_push a.edges e 0 j (h.count ∙ sym same))
            ∙ is (node_values chosen [] a.draft.net) (value_zero chosen [] a.draft.net)
            ∙ sym (last chosen)
            ∙ ap (λ z. get_or (told chosen) z false) (sym same)
      ];
    };
  }

-- the inputs of a frame
pub inputs-along : (earlier : List (List ℕ)) (choices : ℕ) (first : Draft) (n : ℕ) → IsSoundDraft earlier choices first → first.choices + n ≤ choices → IsAlong earlier choices first n (λ chosen. drop first.choices chosen) (input_along n (record { draft = first; edges = [] })) × ((input_along n (record { draft = first; edges = [] })).draft.choices ≡ first.choices + n)
inputs-along earlier choices first zero s le = (record { sound = s; more = []; net = sym (append-nil first.net); kept = refl; count = refl; have = record { within = λ j jl. absurd (omega arith); values = λ chosen j jl. absurd (omega arith) } }, (let e : first.choices ≡ first.choices + 0 = omega arith in e))
inputs-along earlier choices first (suc n) s le =
    let r = inputs-along earlier choices first n s (omega arith) in
    let at = r.1 in
    let one : n + 1 ≡ suc n = omega arith in (
      subst (λ (z : ℕ). IsAlong earlier choices first z (λ chosen. drop first.choices chosen) (choice_along (input_along n (record { draft = first; edges = [] })))) one
          (IsAlong-choice earlier choices first n (λ chosen. drop first.choices chosen) (input_along n (record { draft = first; edges = [] })) r.0 (omega (arith, at)) (λ chosen. get_or-drop first.choices chosen n false ∙ ap (λ z. get_or chosen z false) (sym at))),
      omega (arith, at),
    )

-- the latches of frame 0
pub resets-along : (earlier : List (List ℕ)) (choices : ℕ) (first : Draft) (told : List Bool → List Bool) (rs : List Reset) (n : ℕ) (a : Along) → IsAlong earlier choices first n told a → a.draft.choices + free_count rs ≤ choices → ((chosen : List Bool) (j : ℕ) → get_or (told chosen) (n + j) false ≡ get_or (reset_values (drop a.draft.choices chosen) rs) j false)
    → IsAlong earlier choices first (n + length rs) told (fold reset_along a rs) × ((fold reset_along a rs).draft.choices ≡ a.draft.choices + free_count rs)
resets-along earlier choices first told [] n a h le t = (subst (λ (z : ℕ). IsAlong earlier choices first z told a) (let e : n ≡ n + 0 = omega arith in e) h, (let e : a.draft.choices ≡ a.draft.choices + 0 = omega arith in e))
resets-along earlier choices first told (Zero ∷ rs) n a h le t =
    let r = resets-along earlier choices first told rs (n + 1) (record a { edges = a.edges ++ 0 ∷ [] }) (IsAlong-constant earlier choices first n told a h 0 false refl value_in-zero (λ chosen. ap (λ z. get_or (told chosen) z false) (let e : n ≡ n + 0 = omega arith in e) ∙ t chosen 0)) le (λ chosen j. ap (λ z. get_or (told chosen) z false) (let e : n + 1 + j ≡ n + suc j = omega arith in e) ∙ t chosen (suc j)) in
    (subst (λ (z : ℕ). IsAlong earlier choices first z told (fold reset_along (record a { edges = a.edges ++ 0 ∷ [] }) rs)) (let e : n + 1 + length rs ≡ n + suc (length rs) = omega arith in e) r.0, r.1)
resets-along earlier choices first told (One ∷ rs) n a h le t =
    let r = resets-along earlier choices first told rs (n + 1) (record a { edges = a.edges ++ 1 ∷ [] }) (IsAlong-constant earlier choices first n told a h 1 true refl value_in-one (λ chosen. ap (λ z. get_or (told chosen) z false) (let e : n ≡ n + 0 = omega arith in e) ∙ t chosen 0)) le (λ chosen j. ap (λ z. get_or (told chosen) z false) (let e : n + 1 + j ≡ n + suc j = omega arith in e) ∙ t chosen (suc j)) in
    (subst (λ (z : ℕ). IsAlong earlier choices first z told (fold reset_along (record a { edges = a.edges ++ 1 ∷ [] }) rs)) (let e : n + 1 + length rs ≡ n + suc (length rs) = omega arith in e) r.0, r.1)
resets-along earlier choices first told (Free ∷ rs) n a h le t =
    let first_is : (chosen : List Bool) → get_or (drop a.draft.choices chosen) 0 false ≡ get_or chosen a.draft.choices false = λ (chosen : List Bool). get_or-drop a.draft.choices chosen 0 false ∙ ap (λ z. get_or chosen z false) (let e : a.draft.choices + 0 ≡ a.draft.choices = omega arith in e) in
    let r = resets-along earlier choices first told rs (n + 1) (choice_along a) (IsAlong-choice earlier choices first n told a h (omega arith) (λ chosen. ap (λ z. get_or (told chosen) z false) (let e : n ≡ n + 0 = omega arith in e) ∙ t chosen 0 ∙ first_is chosen)) (omega arith)
    (λ chosen j. ap (λ z. get_or (told chosen) z false) (let e : n + 1 + j ≡ n + suc j = omega arith in e) ∙ t chosen (suc j) ∙ ap (λ z. get_or (reset_values z rs) j false) (drop-drop 1 a.draft.choices chosen)) in
    (subst (λ (z : ℕ). IsAlong earlier choices first z told (fold reset_along (choice_along a) rs)) (let e : n + 1 + length rs ≡ n + suc (length rs) = omega arith in e) r.0, r.1 ∙ omega arith)
