-- Turns, one behind the other.
use Rattle.std.proofs.Common.{◌≡◌, ◌≢◌, ◌⊎◌, inl, inr, ℕ, ◌+◌, ◌≤◌, ◌<◌, Bool, List, [], ◌∷◌, ◌++◌, length, map, Some, None, refl, sym, ap, subst, ◌∙◌, append_assoc, length-append, arith}
use Rattle.std.proofs.lemmas.List.{append-nil, length-map, map-append}
use Rattle.gi_outside.specs.Link.{Rose}
use Rattle.gi_outside.specs.World.{World, IsCutFrom, Wrote}
use Rattle.gi_outside.proofs.Writing.{rose_since, wrote_is, wrote_more, wrote_none}
use Rattle.gi_doors.specs.DoorState.{DoorState}
use Rattle.gi_net.specs.declared.how.How.{How}
use Rattle.gi_serve.specs.Accounts.{Accounts}
use Rattle.gi_serve.specs.ClosedLines.{closed_line, closed_lines}
use Rattle.gi_serve.specs.Connection.{Connection}
use Rattle.gi_serve.specs.HasServed.{Ends, HasServed, WroteLines, closed_by}
use Rattle.gi_serve.specs.ShelfState.{ShelfState}
use Rattle.gi_serve.specs.Turns.{HasTurned, Tells}
use Rattle.gi_serve.specs.declared.serve_end.ServeEnd.{ServeEnd}
use Rattle.gi_serve.specs.declared.serve_end.ServeEnd.TheVariants as end
use Rattle.gi_serve.proofs.Accounting.{accounts_more, accounts_none}

-- one line more
lines_more : (n : ℕ) (ends : List How) (by : How) → closed_lines n (ends ++ by ∷ []) ≡ closed_lines n ends ++ closed_line (n + length ends) by
unfolding closed_lines
lines_more n [] by =
    let e : n ≡ n + 0 = omega arith in
    append-nil (closed_line n by) ∙ ap (λ m. closed_line m by) e
lines_more n (e ∷ ends) by =
    let same : n + 1 + length ends ≡ n + length (e ∷ ends) = omega arith in
    ap (λ xs. closed_line n e ++ xs) (lines_more (n + 1) ends by) ∙ sym (append_assoc (closed_line n e) (closed_lines (n + 1) ends) (closed_line (n + 1 + length ends) by))
    ∙ ap (λ m. (closed_line n e ++ closed_lines (n + 1) ends) ++ closed_line m by) same

-- an end that isn't meant has a cause
fine_of : {L : Type 0} (by : ServeEnd) (most : ℕ) (ends : List How) (unserved : List L) (before now : ℕ) (old new : World) → Ends by most ends unserved before now old new
    → ¬ Rose before now → ¬ Rose old.failed_writes new.failed_writes → by ≢ end.NoMemory → (by ≡ end.Done) ⊎ (by ≡ end.Closed)
fine_of end.Done most ends unserved before now old new e door user memory = inl refl
fine_of end.Closed most ends unserved before now old new e door user memory = inr refl
fine_of end.DoorFault most ends unserved before now old new e door user memory = absurd (door e.3)
fine_of end.WriteFault most ends unserved before now old new e door user memory = absurd (user e.2.cause)
fine_of end.NoMemory most ends unserved before now old new e door user memory = absurd (memory refl)

-- after so many turns the server goes on
pub record SoFar {L : Type 0} (world : L → World) (quiet : Bool) (count : ℕ) (door now : DoorState L) (user written : World) (shelf after : ShelfState) : Type 0 where
  pub served : List (Connection L)
  pub accounts : Accounts world quiet served [] door now shelf after
  pub closed : now.ended ≡ door.ended
  pub many : length served ≡ count
  pub wrote : WroteLines (map (λ c. c.how) served) user written

pub starts : {L : Type 0} (world : L → World) (quiet : Bool) (door : DoorState L) (user : World) (shelf : ShelfState) → SoFar world quiet 0 door door user user shelf shelf
unfolding closed_lines
starts world quiet door user shelf = record {
  served = [];
  accounts = accounts_none world quiet door shelf;
  closed = refl;
  many = refl;
  wrote = wrote_none user;
}

module _ {L : Type 0} (world : L → World) (quiet : Bool) (count : ℕ) (door mid new : DoorState L) (user midway written : World) (shelf halfway after : ShelfState) (s : SoFar world quiet count door mid user midway shelf halfway) where
  abbrev so_far : List How
  so_far = map (λ c. c.how) s.served

  count_is : length so_far ≡ count
  count_is = length-map s.served (λ c. c.how) ∙ s.many

  module _ (more : List (Connection L)) where
    none_more : map (λ c. c.how) more ≡ [] → map (λ c. c.how) (s.served ++ more) ≡ so_far
    none_more none = map-append (λ c. c.how) s.served more ∙ ap (λ es. so_far ++ es) none ∙ append-nil so_far

    one_more : (by : How) → map (λ c. c.how) more ≡ by ∷ [] → map (λ c. c.how) (s.served ++ more) ≡ so_far ++ by ∷ []
    one_more by one = map-append (λ c. c.how) s.served more ∙ ap (λ es. so_far ++ es) one

    -- where no more was served, the lines are whole
    same_lines : map (λ c. c.how) more ≡ [] → written ≡ midway → (length (map (λ c. c.how) (s.served ++ more)) ≡ count) × WroteLines (map (λ c. c.how) (s.served ++ more)) user written
    same_lines none same = (
      ap length (none_more none) ∙ count_is,
      subst (λ es. WroteLines es user written) (sym (none_more none)) (subst (λ (w : World). WroteLines so_far user w) (sym same) s.wrote),
    )

    -- where one more was, there is a line more
    one_line : (by : How) → map (λ c. c.how) more ≡ by ∷ [] → Wrote midway written (closed_line (count + 1) by) → WroteLines (map (λ c. c.how) (s.served ++ more)) user written
    one_line by one wrote =
        let number : count + 1 ≡ 1 + length so_far = let e = count_is in omega arith in
        subst (λ es. WroteLines es user written) (sym (one_more by one))
        (wrote_is user written _ _ (ap (λ n. closed_lines 1 so_far ++ closed_line n by) number ∙ sym (lines_more 1 so_far by)) (wrote_more user midway written (closed_lines 1 so_far) (closed_line (count + 1) by) s.wrote wrote))

    many_more : (by : How) → map (λ c. c.how) more ≡ by ∷ [] → length (s.served ++ more) ≡ count + 1
    many_more by one =
        let one_is : length more ≡ 1 = sym (length-map more (λ c. c.how)) ∙ ap length one in
        let l = length-append s.served more in
        let m = s.many in
        omega arith

  pub goes_on : HasTurned world quiet (count + 1) None mid new midway written halfway after → SoFar world quiet (count + 1) door new user written shelf after
  goes_on t = record {
    served = s.served ++ t.served;
    accounts = subst (λ u. Accounts world quiet (s.served ++ t.served) u door new shelf after) t.tells.0 (accounts_more world quiet s.served t.served t.unserved door mid new shelf halfway after s.accounts t.accounts);
    closed = t.closed ∙ s.closed;
    many = many_more t.served t.tells.1.0 t.tells.1.1;
    wrote = one_line t.served t.tells.1.0 t.tells.1.1 t.tells.1.2;
  }

  -- the end of each kind
  module _ (most : ℕ) (more : List (Connection L)) (unserved : List L) (less : count < most) where
    ends_by : (by : ServeEnd) → Tells (count + 1) (Some by) (map (λ c. c.how) more) unserved mid.faults new.faults midway written
        → door.faults ≤ mid.faults → Ends by most (map (λ c. c.how) (s.served ++ more)) unserved door.faults new.faults user written
    ends_by end.Done tells le = absurd tells
    ends_by end.Closed tells le = let l = same_lines more tells.0 tells.2 in (let e = l.0 in omega arith, tells.1, l.1)
    ends_by end.DoorFault tells le = let l = same_lines more tells.0 tells.2 in (let e = l.0 in omega arith, tells.1, l.1, rose_since door.faults mid.faults new.faults le tells.3)
    ends_by end.WriteFault tells le =
        let by = tells.1.0 in
        let cut = tells.1.2 in
        let number : count + 1 ≡ length so_far + 1 = let e = count_is in omega arith in
        let many : length (map (λ c. c.how) (s.served ++ more)) ≡ count + 1 = length-map (s.served ++ more) (λ c. c.how) ∙ many_more more by tells.1.1 in (
          omega arith,
          tells.0,
          record {
            before = so_far;
            last = by;
            split = one_more more by tells.1.1;
            cut = cut.sent;
            is_cut = subst (λ n. IsCutFrom cut.sent (closed_line n by)) number cut.cut;
            wrote = wrote_more user midway written (closed_lines 1 so_far) cut.sent s.wrote cut.wrote;
            cause = rose_since user.failed_writes midway.failed_writes written.failed_writes s.wrote.writes cut.cause;
          },
        )
    ends_by end.NoMemory tells le = let l = same_lines more tells.0 tells.2 in (let e = l.0 in omega arith, tells.1, l.1)

  -- the server ends in the next turn
  pub ends_at : (most : ℕ) → count < most → (by : ServeEnd) → HasTurned world quiet (count + 1) (Some by) mid new midway written halfway after → HasServed world quiet most by door new user written shelf after
  ends_at most less by t = record {
    served = s.served ++ t.served;
    unserved = t.unserved;
    accounts = accounts_more world quiet s.served t.served t.unserved door mid new shelf halfway after s.accounts t.accounts;
    closed = t.closed ∙ ap (closed_by by) s.closed;
    ends = ends_by most t.served t.unserved less by t.tells s.accounts.faults;
    fine = fine_of by most (map (λ c. c.how) (s.served ++ t.served)) t.unserved door.faults new.faults user written (ends_by most t.served t.unserved less by t.tells s.accounts.faults);
  }

-- all turns were done
pub has_done : {L : Type 0} (world : L → World) (quiet : Bool) (count most : ℕ) (door new : DoorState L) (user written : World) (shelf after : ShelfState) → SoFar world quiet count door new user written shelf after → count ≡ most
    → HasServed world quiet most end.Done door new user written shelf after
has_done world quiet count most door new user written shelf after s all = record {
  served = s.served;
  unserved = [];
  accounts = s.accounts;
  closed = s.closed;
  ends = (length-map s.served (λ c. c.how) ∙ s.many ∙ all, refl, s.wrote);
  fine = λ door user memory. inl refl;
}
