-- What the next frame keeps, as laws, and that earlier frames keep their values.
use Rattle.std.proofs.Common.{◌≡◌, ℕ, ◌+◌, Bool, List, ◌++◌, length, get_or, sym, ap, ◌∙◌, arith, length-append}
use Rattle.std.proofs.lemmas.List.{get_or_append_left}
use Rattle.gi_lit.specs.Truth.{true_in}
use Rattle.gi_circuit.specs.Systems.{System, latch_values}
use Rattle.gi_circuit.specs.Frames.{Frames}
use Rattle.gi_circuit.specs.Encoding.{Chooses, TellValues, inputs_at, free_at}
use Rattle.gi_circuit.specs.declared.node.Node.{Node}
use Rattle.gi_circuit.specs.declared.node.Node.TheVariants.{Latch}
use Rattle.gi_unroll.specs.Frames.{TellList}
use Rattle.gi_unroll.specs.Laws.{FramesKeep, IsContinued, EarlierFramesStay, FramesContinue}
use Rattle.gi_unroll.proofs.Encoding.{satisfies_left}
use Rattle.gi_unroll.proofs.Adding.{IsKept-frame, literals_kept, encoding_kept, variables_named, few_clauses, fresh_of, made_of}

pub frames_keep : FramesKeep
frames_keep u n c kept above = record {
  kept = IsKept-frame u.system c u.frames u.top n kept above;
  encoding = encoding_kept u.system c u.frames u.top n kept above;
  literals = literals_kept u.system c u.frames u.top n kept above;
  names = variables_named u.system c u.frames u.top n kept above;
  short = few_clauses u.system c u.frames u.top n kept above;
  fresh = fresh_of u.system c u.frames u.top n kept above;
  made = made_of u.system c u.frames u.top n kept above;
}

pub frames_continue : FramesContinue
frames_continue u n c kept some above =
    let l = literals_kept u.system c u.frames u.top n kept above in
    record { count = kept.count some; net = l.nodes; lits = l.stay }

-- a choice for more nodes is one for those before
front_chooses : (old new : Frames) (chosen values : List Bool) → IsContinued old new → Chooses new.net new.lits chosen values → Chooses old.net old.lits chosen values
front_chooses old new chosen values h choose k j lt is =
    let count = h.count in
    let net_len : length (old.net ++ h.net.0) ≡ length new.net = ap length (sym h.net.1) in
    let node = ap (λ (ns : List Node). get_or ns k (Latch 0)) h.net.1 ∙ get_or_append_left old.net h.net.0 (Latch 0) k lt ∙ is in
    let lit = ap (λ (ls : List ℕ). get_or ls (k + 1) 0) h.lits.1 ∙ get_or_append_left old.lits h.lits.0 0 (k + 1) (omega (arith, lt, count)) in
    ap (true_in values) (sym lit) ∙ choose k j (omega (arith, lt, net_len, length-append old.net h.net.0)) node

list_stays : (clauses more : List (List ℕ)) (old new : Frames) (lits : List ℕ) (told : List Bool → List Bool) → IsContinued old new → TellList clauses old lits told → TellList (clauses ++ more) new lits told
list_stays clauses more old new lits told h tells chosen values holds choose = tells chosen values (satisfies_left values clauses more holds) (front_chooses old new chosen values h choose)

values_stay : (s : System) (clauses more : List (List ℕ)) (old new : Frames) (t : ℕ) (lits edges : List ℕ) → IsContinued old new → TellValues s clauses old t lits edges → TellValues s (clauses ++ more) new t lits edges
values_stay s clauses more old new t lits edges h tells chosen values holds choose = tells chosen values (satisfies_left values clauses more holds) (front_chooses old new chosen values h choose)

pub earlier_stay : EarlierFramesStay
earlier_stay s clauses more old new t g h tells = record {
  inputs = list_stays clauses more old new g.inputs (λ chosen. inputs_at s chosen t) h tells.inputs;
  latches = list_stays clauses more old new g.latches (λ chosen. latch_values s (inputs_at s chosen) (free_at s chosen) t) h tells.latches;
  outs = values_stay s clauses more old new t g.outs s.outs h tells.outs;
  bads = values_stay s clauses more old new t g.bads s.bads h tells.bads;
  cons = values_stay s clauses more old new t g.cons s.cons h tells.cons;
}
