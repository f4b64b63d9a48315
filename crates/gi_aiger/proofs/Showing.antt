-- The byte that shows a binary gate's fault.
use Rattle.std.proofs.Common.{◌≡◌, ◌≢◌, ℕ, ◌+◌, List, [], ◌∷◌, ◌++◌, ◌⊎◌, inl, inr, Result, Ok, Err, refl, ap, sym, ◌∙◌, subst, append_assoc}
use Rattle.std.specs.Global.{Global}
use Rattle.std.proofs.lemmas.Bool.{cases_eq}
use Rattle.std.proofs.lemmas.List.{append-nil}
use Rattle.gi_aiger.specs.declared.aig.Aig.{Aig}
use Rattle.gi_aiger.specs.declared.fault.AigCode.{AigCode}
use Rattle.gi_aiger.specs.declared.fault.AigCode.TheVariants as codes
use Rattle.gi_aiger.specs.declared.fault.AigFault.{AigFault}
use Rattle.gi_aiger.specs.Answers.{Answer, read_aig}
use Rattle.gi_aiger.specs.Files.{read_file}
use Rattle.gi_aiger.specs.Lines.{lines_of}
use Rattle.gi_aiger.specs.Laws.{IsShown, GateFaultsAreShown}
use Rattle.gi_aiger.proofs.Apart.{gates_apart}
use Rattle.gi_aiger.proofs.Ending.{answer_only, answer_is}
use Rattle.gi_aiger.proofs.Stopping.{gates_last, gates_helpless}

is_end : (c : AigCode) → (c ≡ codes.End) ⊎ (c ≢ codes.End)
is_end codes.Header = inr (λ e. cc)
is_end codes.Limit = inr (λ e. cc)
is_end codes.Count = inr (λ e. cc)
is_end codes.Literal = inr (λ e. cc)
is_end codes.Defined = inr (λ e. cc)
is_end codes.Undefined = inr (λ e. cc)
is_end codes.Order = inr (λ e. cc)
is_end codes.Cycle = inr (λ e. cc)
is_end codes.Symbol = inr (λ e. cc)
is_end codes.End = inl refl

fault_of : Result Aig AigFault → AigFault → AigFault
fault_of (Ok v) f = f
fault_of (Err g) f = g

same_fault : (g f : AigFault) → ◌≡◌ {A = Result Aig AigFault} (Err g) (Err f) → g ≡ f
unfolding fault_of
same_fault g f e = ap (λ r. fault_of r f) e

-- whether the first bytes of some show its fault
decide : Global → (front rest : List ℕ) (f : AigFault) → Answer (read_file (front ++ rest)) (Err f) → f.code ≢ codes.End → f.gate ≢ 0 → (r : Result Aig AigFault) → Answer (read_file front) r → Answer (read_file front) (Err f) ⊎ (Answer (read_file front) (Err f) → ⊥)
decide alloc front rest f answer late gate (Ok v) has = inr (λ a. let e : ◌≡◌ {A = Result Aig AigFault} (Ok v) (Err f) = answer_only (read_file front) (Ok v) (Err f) has a in cc)
decide alloc front rest f answer late gate (Err g) has = elim (cases_eq g.gate 0) [
  | inl none ↦ inr (λ a. gate (sym (ap (λ (x : AigFault). x.gate) (same_fault g f (answer_only (read_file front) (Err g) (Err f) has a))) ∙ none))
  | inr some ↦ elim (is_end g.code) [
    | inl e ↦ inr (λ a. late (sym (ap (λ (x : AigFault). x.code) (same_fault g f (answer_only (read_file front) (Err g) (Err f) has a))) ∙ e))
    | inr ne ↦
        let later = gates_last alloc front rest g has ne some in
        let same : g ≡ f = same_fault g f (answer_only (read_file (front ++ rest)) (Err g) (Err f) later answer) in
        inl (subst (λ (x : AigFault). Answer (read_file front) (Err x)) same has)
  ]
]

decided : Global → (front rest : List ℕ) (f : AigFault) → Answer (read_file (front ++ rest)) (Err f) → f.code ≢ codes.End → f.gate ≢ 0 → Answer (read_file front) (Err f) ⊎ (Answer (read_file front) (Err f) → ⊥)
unfolding read_aig
decided alloc front rest f answer late gate = decide alloc front rest f answer late gate (read_aig front) (answer_is (read_file front) (gates_apart front))

-- the first such bytes
walk : Global → (bytes front rest : List ℕ) (f : AigFault) → Answer (read_file bytes) (Err f) → f.code ≢ codes.End → f.gate ≢ 0 → bytes ≡ front ++ rest → (Answer (read_file front) (Err f) → ⊥) → IsShown bytes f
walk alloc bytes front [] f answer late gate are not_yet = absurd (not_yet (subst (λ (bs : List ℕ). Answer (read_file bs) (Err f)) (are ∙ append-nil front) answer))
walk alloc bytes front (b ∷ rest) f answer late gate are not_yet =
    let now : bytes ≡ (front ++ b ∷ []) ++ rest = are ∙ sym (append_assoc front (b ∷ []) rest) in
    elim (decided alloc (front ++ b ∷ []) rest f (subst (λ (bs : List ℕ). Answer (read_file bs) (Err f)) now answer) late gate) [
      | inl shown ↦ record { before = front; last = b; rest = rest; are = now; not_yet = not_yet; answer = shown; helpless = gates_helpless alloc (front ++ b ∷ []) f shown late gate }
      | inr not_now ↦ walk alloc bytes (front ++ b ∷ []) rest f answer late gate now not_now
    ]

-- no bytes show no fault of a gate
empty_early : (f : AigFault) → f.gate ≢ 0 → Answer (read_file []) (Err f) → ⊥
unfolding read_file lines_of
empty_early f gate (inl t) = gate (ap (λ (x : AigFault). x.gate) (same_fault f (record { line = 1; gate = 0; code = codes.End }) t.1))
empty_early f gate (inr t) = gate (ap (λ (x : AigFault). x.gate) (same_fault f (record { line = 2 + t.0; gate = 0; code = codes.Cycle }) t.2))

pub gate_faults_are_shown : Global → GateFaultsAreShown
gate_faults_are_shown alloc bytes f answer late gate = walk alloc bytes [] bytes f answer late gate refl (λ a. empty_early f gate a)
