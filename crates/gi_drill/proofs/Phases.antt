-- The script, phase after phase.
use Rattle.std.proofs.Common.{◌≡◌, ℕ, ◌+◌, ◌*◌, ◌/◌, ◌≤◌, max, false, not, None, List, [], ◌∷◌, ◌++◌, length, map, refl, sym, subst, arith, append_assoc}
use Rattle.std.specs.List.{AllByRecursion, sum_by}
use Rattle.std.proofs.lemmas.Bool.{le-leb, lt-leb, le-ltb, ne_eqb}
use Rattle.std.proofs.lemmas.List.{append-nil}
use Rattle.std.proofs.lemmas.List.Sums.{sum_by_push}
use Rattle.gi_lit.specs.Problem.{Group, Problem, lit_count, clause_count, top}
use Rattle.gi_lit.specs.Literals.{max_var}
use Rattle.gi_model.specs.Limits.{most_clauses, most_lits}
use Rattle.gi_model.specs.State.{Solve, no_solve, running, paused, ended, live_run, opening, scope_assumed}
use Rattle.gi_model.specs.Refusals.{admits, refuses, some_unusable, is_full}
use Rattle.gi_model.specs.Effects.{after, edited, trimmed}
use Rattle.gi_model.specs.History.{Entry}
use Rattle.gi_model.specs.Replies.{waited}
use Rattle.gi_model.specs.declared.calls.Call.{Call}
use Rattle.gi_model.specs.declared.calls.Call.TheVariants as call
use Rattle.gi_model.specs.declared.replies.Reply.{Reply}
use Rattle.gi_model.specs.declared.replies.Reply.TheVariants as reply
use Rattle.gi_model.specs.declared.replies.Verdict.{Verdict}
use Rattle.gi_model.specs.declared.replies.Verdict.TheVariants.{Sat, Unsat, Unknown}
use Rattle.gi_drill.specs.declared.tally.Tally.{Tally}
use Rattle.gi_drill.specs.Counting.{noted, raised}
use Rattle.gi_drill.proofs.Calls.{Ahead, Comes, IsFound, IsNone, accepts, answered, at, next_wait, take}

-- no solve is running or paused
abbrev pub IsResting : Solve → Type 0
IsResting no_solve = Unit {0}
IsResting (ended n v) = Unit {0}
IsResting (running r) = ⊥
IsResting (paused r) = ⊥

pub admits_all : (v : Solve) (c : Call) → IsResting v → not (admits v c) ≡ false
admits_all no_solve c h = refl
admits_all (ended n v) c h = refl
admits_all (running r) c h = absurd h
admits_all (paused r) c h = absurd h

pub rests : (p : Problem) (pending : List ℕ) (known : List (List ℕ)) (v : Solve) (serial : ℕ) → IsResting v → live_run (at p pending known v serial) ≡ None
rests p pending known no_solve serial h = refl
rests p pending known (ended n v) serial h = refl
rests p pending known (running r) serial h = absurd h
rests p pending known (paused r) serial h = absurd h

pub edit_ends : (v : Solve) → IsResting v → edited v ≡ no_solve
edit_ends no_solve h = refl
edit_ends (ended n v) h = refl
edit_ends (running r) h = absurd h
edit_ends (paused r) h = absurd h

abbrev pub tally : (vars clauses sat unsat : ℕ) → Tally
tally vars clauses sat unsat = record { vars = vars; clauses = clauses; sat = sat; unsat = unsat }

pub raised_low : (n : ℕ) → n ≤ 100000 → raised n ≡ n + 1
unfolding raised
raised_low n h = omega arith

-- no answer of these is a refusal
pub done_none : IsNone reply.Done
done_none r q = absurd cc

pub guard_none : (g : ℕ) → IsNone (reply.Guard g)
guard_none g r q = absurd cc

pub vars_none : (n : ℕ) → IsNone (reply.Vars n)
vars_none n r q = absurd cc

pub started_none : (n : ℕ) → IsNone (reply.Started n)
started_none n r q = absurd cc

pub bye_none : IsNone reply.Bye
bye_none r q = absurd cc

-- a problem with no groups and no active guard
abbrev pub plain_problem : (vars : ℕ) (plain : List (List ℕ)) (freed : List ℕ) → Problem
plain_problem vars plain freed = record { vars = vars; plain = plain; groups = []; active = []; freed = freed }

-- the guard is active
abbrev pub held : (plain : List (List ℕ)) (groups : List Group) → Problem
held plain groups = record { vars = 151; plain = plain; groups = groups; active = 151 ∷ []; freed = [] }

-- literals of the first 150 variables
abbrev pub IsWithin : ℕ → Type 0
IsWithin l = (1 ≤ l / 2) × (l / 2 ≤ 150)

abbrev pub AreWithin : List ℕ → Type 0
AreWithin c = AllByRecursion IsWithin c

-- a clause of three such literals
pub record IsTriple (c : List ℕ) : Type 0 where
  pub within : AreWithin c
  pub three : length c ≡ 3

top_low : (c : List ℕ) → AreWithin c → top c ≤ 150
unfolding top
top_low [] h = omega arith
top_low (l ∷ c) h = omega (arith, h.0.1, top_low c h.1)

-- their variables are no guards
usable_plain : (plain : List (List ℕ)) (c : List ℕ) → AreWithin c → some_unusable (plain_problem 150 plain []) c ≡ false
usable_plain plain [] h = refl
usable_plain plain (l ∷ c) h = rw (le-leb 1 (l / 2) h.0.0, le-leb (l / 2) 150 h.0.1) (usable_plain plain c h.1)

pub usable_held : (plain : List (List ℕ)) (groups : List Group) (l : ℕ) → IsWithin l → some_unusable (held plain groups) (l ∷ []) ≡ false
usable_held plain groups l h = rw (le-leb 1 (l / 2) h.0, le-leb (l / 2) 151 (omega (arith, h.1)), ne_eqb (l / 2) 151 (λ e. omega (arith, h.1))) refl

-- the plain clauses are few and short
pub record AreFew (plain : List (List ℕ)) (n : ℕ) : Type 0 where
  pub count : length plain ≤ n
  pub lits : sum_by length plain ≤ 3 * n

pub within_limits : (p : Problem) (c : List ℕ) → top c ≤ 150 → clause_count p ≤ 1000 → lit_count p ≤ 10000 → length c ≤ 3 → is_full p c (length c) ≡ false
within_limits p c t n m l = rw (le-ltb max_var (top c) (omega arith), le-ltb most_clauses (clause_count p + 1) (omega arith), le-ltb most_lits (lit_count p + length c) (omega arith)) refl

plain_full : (plain : List (List ℕ)) (n : ℕ) (c : List ℕ) → AreFew plain n → n ≤ 600 → IsTriple c → is_full (plain_problem 150 plain []) c (length c) ≡ false
unfolding lit_count
plain_full plain n c few low h = within_limits (plain_problem 150 plain []) c (top_low c h.within) (omega (arith, few.count)) (omega (arith, few.lits)) (omega (arith, h.three))

-- the first call
pub begins : (goal : Tally → Type 0) (t : Tally) (more : List Call) (es : List Entry) → Ahead opening (call.Vars 150 ∷ more) es
    → ((rest : List Entry) → Ahead (at (plain_problem 150 [] []) [] [] no_solve 0) more rest → Comes goal (record t { vars = 150 }) rest) → Comes goal t es
unfolding refuses after
begins goal t more es h k = take goal t opening (call.Vars 150) more es (reply.Vars 150) refl refl (λ x e. e) (vars_none 150) h k

-- the clauses
add_one : (goal : Tally → Type 0) (c : List ℕ) (pre : List (List ℕ)) (v n a b : ℕ) (more : List Call) (es : List Entry) → IsTriple c → AreFew pre n → n ≤ 600
    → Ahead (at (plain_problem 150 pre []) [] [] no_solve 0) (call.Add c ∷ more) es
    → ((rest : List Entry) → Ahead (at (plain_problem 150 (pre ++ c ∷ []) []) [] [] no_solve 0) more rest → Comes goal (tally v (n + 1) a b) rest) → Comes goal (tally v n a b) es
unfolding after
add_one goal c pre v n a b more es good few low h k =
    let s = at (plain_problem 150 pre []) [] [] no_solve 0 in
    let wide : max 150 (top c) ≡ 150 = omega (arith, top_low c good.within) in
    take goal (tally v n a b) s (call.Add c) more es reply.Done refl
    (accepts s (call.Add c) refl (refl, (refl, (refl, (usable_plain pre c good.within, (refl, (refl, (plain_full pre n c few low good, (refl, (refl, (refl, (refl, (refl, tt)))))))))))) refl)
    (λ x e. e) done_none h
    (λ rest ahead. subst (λ (m : ℕ). Comes goal (tally v m a b) rest) (sym (raised_low n (omega arith)))
    (k rest (subst (λ (m : ℕ). Ahead (at (plain_problem m (pre ++ c ∷ []) []) [] [] no_solve 0) more rest) wide ahead)))

few_more : (pre : List (List ℕ)) (c : List ℕ) (n : ℕ) → length c ≡ 3 → AreFew pre n → AreFew (pre ++ c ∷ []) (n + 1)
few_more pre c n three few = record { count = omega (arith, few.count, counted pre c); lits = omega (arith, few.lits, summed pre c, three) }
  where
    counted : (xs : List (List ℕ)) (x : List ℕ) → length (xs ++ x ∷ []) ≡ length xs + 1
    counted [] x = refl
    counted (y ∷ xs) x = omega (arith, counted xs x)

    summed : (xs : List (List ℕ)) (x : List ℕ) → sum_by length (xs ++ x ∷ []) ≡ sum_by length xs + length x
    summed xs x = sum_by_push length xs x

pub adds : (goal : Tally → Type 0) (cs pre : List (List ℕ)) (v n a b : ℕ) (more : List Call) (es : List Entry) → AllByRecursion IsTriple cs → AreFew pre n → n + length cs ≤ 600
    → Ahead (at (plain_problem 150 pre []) [] [] no_solve 0) (map call.Add cs ++ more) es
    → ((rest : List Entry) → Ahead (at (plain_problem 150 (pre ++ cs) []) [] [] no_solve 0) more rest → AreFew (pre ++ cs) (n + length cs) → Comes goal (tally v (n + length cs) a b) rest) → Comes goal (tally v n a b) es
adds goal [] pre v n a b more es good few low h k =
    let same : n + 0 ≡ n = omega arith in
    subst (λ (m : ℕ). Comes goal (tally v m a b) es) same
    (k es (subst (λ (p : List (List ℕ)). Ahead (at (plain_problem 150 p []) [] [] no_solve 0) more es) (sym (append-nil pre)) h) (subst (λ (p : List (List ℕ)). AreFew p (n + 0)) (sym (append-nil pre)) (subst (AreFew pre) (sym same) few)))
adds goal (c ∷ cs) pre v n a b more es good few low h k =
    let shift : n + 1 + length cs ≡ n + length (c ∷ cs) = omega arith in
    add_one goal c pre v n a b (map call.Add cs ++ more) es good.0 few (omega arith) h
    (λ rest ahead. adds goal cs (pre ++ c ∷ []) v (n + 1) a b more rest good.1 (few_more pre c n good.0.three few) (omega arith) ahead
    (λ last there f. subst (λ (m : ℕ). Comes goal (tally v m a b) last) (sym shift)
    (k last (subst (λ (p : List (List ℕ)). Ahead (at (plain_problem 150 p []) [] [] no_solve 0) more last) (append_assoc pre (c ∷ []) cs) there)
    (subst (AreFew (pre ++ (c ∷ cs))) shift (subst (λ (p : List (List ℕ)). AreFew p (n + 1 + length cs)) (append_assoc pre (c ∷ []) cs) f)))))

-- what the count makes of a solve's end
abbrev pub counted : Tally → Verdict → Tally
counted t (Sat values) = record t { sat = raised t.sat }
counted t (Unsat w) = record t { unsat = raised t.unsat }
counted t (Unknown c) = t

-- the answer of the wait for it
wait_ends : (goal : Tally → Type 0) (t : Tally) (p : Problem) (known : List (List ℕ)) (n serial : ℕ) (v : Verdict) (answer : Reply) (more : List Call) (rest : List Entry)
    → answer ≡ waited (ended n v) → Ahead (after (at p [] known (ended n v) serial) call.Wait answer) more rest
    → (Ahead (at p [] known (ended n v) serial) more rest → Comes goal (counted t v) rest) → IsNone answer × Comes goal (noted t call.Wait answer) rest
unfolding after
wait_ends goal t p known n serial (Sat values) answer more rest e h k = subst (λ (x : Reply). Ahead (after (at p [] known (ended n (Sat values)) serial) call.Wait x) more rest → IsNone x × Comes goal (noted t call.Wait x) rest) (sym e) (λ ahead. ((λ r q. absurd cc), k ahead)) h
wait_ends goal t p known n serial (Unsat w) answer more rest e h k = subst (λ (x : Reply). Ahead (after (at p [] known (ended n (Unsat w)) serial) call.Wait x) more rest → IsNone x × Comes goal (noted t call.Wait x) rest) (sym e) (λ ahead. ((λ r q. absurd cc), k ahead)) h
wait_ends goal t p known n serial (Unknown c) answer more rest e h k = subst (λ (x : Reply). Ahead (after (at p [] known (ended n (Unknown c)) serial) call.Wait x) more rest → IsNone x × Comes goal (noted t call.Wait x) rest) (sym e) (λ ahead. ((λ r q. absurd cc), k ahead)) h

wait_taken : (p : Problem) (known : List (List ℕ)) (n serial : ℕ) (v : Verdict) → refuses (at p [] known (ended n v) serial) call.Wait ≡ None
wait_taken p known n serial v = accepts (at p [] known (ended n v) serial) call.Wait refl (refl, (refl, (refl, (refl, (refl, (refl, (refl, (refl, (refl, (refl, (refl, (refl, tt)))))))))))) refl

-- a solve and the wait for it
pub solved : (goal : Tally → Type 0) (t : Tally) (p : Problem) (pending : List ℕ) (known : List (List ℕ)) (v : Solve) (serial : ℕ) (more : List Call) (es : List Entry) → IsResting v → serial ≤ 100000
    → Ahead (at p pending known v serial) (call.Solve 4294967295 ∷ call.Wait ∷ more) es
    → ((known' : List (List ℕ)) (verdict : Verdict) (rest : List Entry) → IsFound p pending verdict → Ahead (at p [] known' (ended (serial + 1) verdict) (serial + 1)) more rest → Comes goal (counted t verdict) rest) → Comes goal t es
unfolding after scope_assumed
solved goal t p pending known v serial more es calm low h k =
    let s = at p pending known v serial in
    take goal t s (call.Solve 4294967295) (call.Wait ∷ more) es (reply.Started (serial + 1)) (rests p pending known v serial calm)
    (accepts s (call.Solve 4294967295) refl (refl, (admits_all v (call.Solve 4294967295) calm, (refl, (refl, (refl, (refl, (lt-leb 72057594037927936 serial (omega arith), (refl, (refl, (refl, (refl, (refl, tt)))))))))))) refl)
    (λ x e. e) (started_none (serial + 1)) h
    (λ rest ahead. next_wait goal t p [] (trimmed known) (serial + 1) (record { serial = serial + 1; assumed = pending; budget = 4294967295; spent = 0; slices = 0 }) (serial + 1) pending more rest refl refl ahead
    (λ known' verdict answer last f a l there. wait_ends goal t p known' (serial + 1) (serial + 1) verdict answer more last
    (answered (at p [] known' (ended (serial + 1) verdict) (serial + 1)) call.Wait answer (wait_taken p known' (serial + 1) (serial + 1) verdict) l a) there
    (λ aheads. k known' verdict last f aheads)))
