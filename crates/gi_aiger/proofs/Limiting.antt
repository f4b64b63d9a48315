-- The limits of a header, one by one.
use Rattle.std.proofs.Common.{◌≡◌, ℕ, ◌≤◌, nat_le, Bool, true, false, ◌&&◌, cond, refl, arith}
use Rattle.std.specs.Prelude.{◌==◌}
use Rattle.std.proofs.lemmas.Bool.Decides.{nat_tests}
use Rattle.gi_aiger.specs.declared.head.Head.{Head}
use Rattle.gi_aiger.specs.Header.{is_within}
use Rattle.gi_aiger.specs.Symbols.{places_of}
use Rattle.gi_aiger.specs.Limits.{most_items}

-- each number is within the limit
pub record AreWithin (h : Head) : Type 0 where
  pub max : h.max ≤ most_items
  pub inputs : h.inputs ≤ most_items
  pub latches : h.latches ≤ most_items
  pub outs : h.outs ≤ most_items
  pub gates : h.gates ≤ most_items
  pub bads : h.bads ≤ most_items
  pub cons : h.cons ≤ most_items
  pub justice : h.justice ≤ most_items
  pub fair : h.fair ≤ most_items

pub both : (a b : Bool) → (a && b) ≡ true → (a ≡ true) × (b ≡ true)
both true b h = (refl, h)
both false b h = absurd cc

pub at_most : (n k : ℕ) → nat_le n k ≡ true → n ≤ k
at_most n k t = grind (arith, nat_tests, t)

low : (n : ℕ) → nat_le n most_items ≡ true → n ≤ most_items
low n t = at_most n most_items t

pub are_within : (h : Head) → is_within h ≡ true → AreWithin h
are_within h t =
    let a = both (nat_le h.max most_items && nat_le h.inputs most_items && nat_le h.latches most_items && nat_le h.outs most_items && nat_le h.gates most_items && nat_le h.bads most_items && nat_le h.cons most_items && nat_le h.justice most_items) (nat_le h.fair most_items) t in
    let b = both (nat_le h.max most_items && nat_le h.inputs most_items && nat_le h.latches most_items && nat_le h.outs most_items && nat_le h.gates most_items && nat_le h.bads most_items && nat_le h.cons most_items) (nat_le h.justice most_items) a.0 in
    let c = both (nat_le h.max most_items && nat_le h.inputs most_items && nat_le h.latches most_items && nat_le h.outs most_items && nat_le h.gates most_items && nat_le h.bads most_items) (nat_le h.cons most_items) b.0 in
    let d = both (nat_le h.max most_items && nat_le h.inputs most_items && nat_le h.latches most_items && nat_le h.outs most_items && nat_le h.gates most_items) (nat_le h.bads most_items) c.0 in
    let e = both (nat_le h.max most_items && nat_le h.inputs most_items && nat_le h.latches most_items && nat_le h.outs most_items) (nat_le h.gates most_items) d.0 in
    let f = both (nat_le h.max most_items && nat_le h.inputs most_items && nat_le h.latches most_items) (nat_le h.outs most_items) e.0 in
    let g = both (nat_le h.max most_items && nat_le h.inputs most_items) (nat_le h.latches most_items) f.0 in
    let i = both (nat_le h.max most_items) (nat_le h.inputs most_items) g.0 in
    record {
      max = low h.max i.0;
      inputs = low h.inputs i.1;
      latches = low h.latches g.1;
      outs = low h.outs f.1;
      gates = low h.gates e.1;
      bads = low h.bads d.1;
      cons = low h.cons c.1;
      justice = low h.justice b.1;
      fair = low h.fair a.1;
    }

-- so are the places of symbols
cond_low : (b : Bool) (x y : ℕ) → x ≤ most_items → y ≤ most_items → cond b x y ≤ most_items
cond_low true x y p q = p
cond_low false x y p q = q

abbrev choose : Bool → ℕ → ℕ → ℕ
choose b x y = cond b x y

pub places_low : (h : Head) (kind : ℕ) → AreWithin h → places_of h kind ≤ most_items
places_low h kind w =
    let f = cond_low (kind == 102) h.fair 0 w.fair (omega arith) in
    let j = cond_low (kind == 106) h.justice (choose (kind == 102) h.fair 0) w.justice f in
    let c = cond_low (kind == 99) h.cons (choose (kind == 106) h.justice (choose (kind == 102) h.fair 0)) w.cons j in
    let b = cond_low (kind == 98) h.bads (choose (kind == 99) h.cons (choose (kind == 106) h.justice (choose (kind == 102) h.fair 0))) w.bads c in
    let o = cond_low (kind == 111) h.outs (choose (kind == 98) h.bads (choose (kind == 99) h.cons (choose (kind == 106) h.justice (choose (kind == 102) h.fair 0)))) w.outs b in
    let l = cond_low (kind == 108) h.latches (choose (kind == 111) h.outs (choose (kind == 98) h.bads (choose (kind == 99) h.cons (choose (kind == 106) h.justice (choose (kind == 102) h.fair 0))))) w.latches o in
    cond_low (kind == 105) h.inputs (choose (kind == 108) h.latches (choose (kind == 111) h.outs (choose (kind == 98) h.bads (choose (kind == 99) h.cons (choose (kind == 106) h.justice (choose (kind == 102) h.fair 0)))))) w.inputs l
