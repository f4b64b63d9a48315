use Rattle.std.proofs.Common.{◌≡◌, ℕ, ◌+◌, ◌-◌, ◌/◌, ◌%◌, ◌==◌, ◌<◌, ◌≤◌, Bool, Option, Some, None, List, [], ◌∷◌, ◌++◌, length, take, get_or, set, replicate, sym, ◌∙◌, subst, arith, length-append, length-set}
use Rattle.std.proofs.lemmas.List.{length-take-le, length-replicate}
use Rattle.gi_prop.specs.TrailView.{TrailView, HasValue, IsTrail}
use Rattle.gi_prop.specs.Laid.{IsTable, IsLaid}
use Rattle.gi_prop.proofs.Indexing.{IsIndexed-within, one_place, room_left, consistent}
use Rattle.gi_prop.proofs.Values.{IsTable-push, IsTable-grow}
use Rattle.gi_prop.proofs.Levels.{AreLevels-push, AreLevels-mark, AreLevels-cut}

module _ (positions : List (Option ℕ)) (values : List (Option Bool)) (lits : List ℕ) (reasons : List (Option ℕ)) (level_starts : List ℕ) (head : ℕ) (qheads : List ℕ) (room reason_room : ℕ) (h : IsLaid positions values lits reasons level_starts head qheads room reason_room) where
  -- what a trail is to its callers
  pub laid_trail : IsTrail (record { vars = length positions; lits = lits; reasons = reasons; level_starts = level_starts; head = head; qheads = qheads })
  laid_trail = record {
    few = let f = h.few in omega arith;
    within = IsIndexed-within positions lits h.table.indexed;
    room = omega (arith, h.table.indexed.count);
    apart = one_place positions lits h.table.indexed;
    consistent = consistent positions lits h.table.indexed;
    reasons = h.aligned;
    levels = h.begun;
  }

  -- where a literal is free, there is room for it
  pub laid_room : (t : TrailView) → record { vars = length positions; lits = lits; reasons = reasons; level_starts = level_starts; head = head; qheads = qheads } ≡ t
      → (l : ℕ) → 1 ≤ l / 2 → l / 2 ≤ t.vars → HasValue t.lits l None → length lits < length positions
  laid_room t e l big within free =
      room_left positions lits h.table.indexed l big (subst (λ (x : TrailView). l / 2 ≤ x.vars) (sym e) within) (subst (λ (x : TrailView). HasValue x.lits l None) (sym e) free)

  -- a literal more
  pub laid_push : (l i n : ℕ) (b : Bool) (place : Option ℕ) (value : Option Bool) (why : Option ℕ) (new_lits : List ℕ) (new_reasons : List (Option ℕ)) (new_room new_reason_room : ℕ)
      → place ≡ Some n → value ≡ Some b → i ≡ l / 2 - 1 → n ≡ length lits → b ≡ (l % 2 == 0) → 1 ≤ l / 2 → l / 2 ≤ length positions → HasValue lits l None
      → new_lits ≡ lits ++ l ∷ [] → new_reasons ≡ reasons ++ why ∷ [] → room ≤ new_room → reason_room ≤ new_reason_room
      → IsLaid (set positions i place) (set values i value) new_lits new_reasons level_starts head qheads new_room new_reason_room
  laid_push l i n b place value why new_lits new_reasons r rr ep ev ei en eb big within free enl enr ra rb = rw (ep, ev, ei, enl, enr) (record {
    table = IsTable-push positions lits values h.table l n b en eb big within free;
    few = rw length-set h.few;
    aligned = omega (arith, h.aligned, length-append lits (l ∷ []), length-append reasons (why ∷ []));
    begun = AreLevels-push lits level_starts head qheads h.begun l;
    lits_fit = rw length-set (omega (arith, h.lits_fit));
    reasons_fit = rw length-set (omega (arith, h.reasons_fit));
  })

  -- variables more
  pub laid_grow : (m : ℕ) (new_places : List (Option ℕ)) (new_values : List (Option Bool)) (new_lits : List ℕ) (new_reasons : List (Option ℕ)) (new_room new_reason_room : ℕ)
      → new_places ≡ positions ++ replicate m None → new_values ≡ values ++ replicate m None → new_lits ≡ lits → new_reasons ≡ reasons
      → length positions + m < 4294967296 → length positions + m ≤ new_room → length positions + m ≤ new_reason_room
      → IsLaid new_places new_values new_lits new_reasons level_starts head qheads new_room new_reason_room
  laid_grow m new_places new_values new_lits new_reasons r rr ep ev el er few ra rb = rw (ep, ev, el, er) (record {
    table = IsTable-grow positions lits values h.table m;
    few = omega (arith, length-append positions (replicate m None), length-replicate m (let o : Option ℕ = None in o));
    aligned = h.aligned;
    begun = h.begun;
    lits_fit = omega (arith, length-append positions (replicate m None), length-replicate m (let o : Option ℕ = None in o));
    reasons_fit = omega (arith, length-append positions (replicate m None), length-replicate m (let o : Option ℕ = None in o));
  })

  -- a level more
  pub laid_mark : (n : ℕ) (new_marks new_heads : List ℕ) → n ≡ length lits → length level_starts < 4294967295 → new_marks ≡ level_starts ++ n ∷ [] → new_heads ≡ qheads ++ head ∷ []
      → IsLaid positions values lits reasons new_marks head new_heads room reason_room
  laid_mark n new_marks new_heads en below em eh = rw (em, eh, en) (record {
    table = h.table;
    few = h.few;
    aligned = h.aligned;
    begun = AreLevels-mark lits level_starts head qheads h.begun below;
    lits_fit = h.lits_fit;
    reasons_fit = h.reasons_fit;
  })

  -- what was there before a level began
  pub laid_cut : (level len new_head : ℕ) (new_places : List (Option ℕ)) (new_values : List (Option Bool)) (new_lits : List ℕ) (new_reasons : List (Option ℕ)) (new_marks new_heads : List ℕ) (new_room new_reason_room : ℕ)
      → level < length level_starts → len ≡ get_or level_starts level 0 → new_head ≡ get_or qheads level 0 → IsTable new_places new_lits new_values → length new_places ≡ length positions
      → new_lits ≡ take len lits → new_reasons ≡ take len reasons → new_marks ≡ take level level_starts → new_heads ≡ take level qheads
      → room ≤ new_room → reason_room ≤ new_reason_room
      → IsLaid new_places new_values new_lits new_reasons new_marks new_head new_heads new_room new_reason_room
  laid_cut level len new_head new_places new_values new_lits new_reasons new_marks new_heads r rr lt elen ehead table count el er em eh ra rb = record {
    table = table;
    few = omega (arith, h.few);
    aligned = rw (er, el, elen) (length-take-le (get_or level_starts level 0) reasons (rw h.aligned (h.begun.within level lt)) ∙ sym (length-take-le (get_or level_starts level 0) lits (h.begun.within level lt)));
    begun = rw (el, em, eh, elen, ehead) (AreLevels-cut lits level_starts head qheads h.begun level lt);
    lits_fit = omega (arith, h.lits_fit);
    reasons_fit = omega (arith, h.reasons_fit);
  }
