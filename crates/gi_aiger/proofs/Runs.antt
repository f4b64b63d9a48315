-- The machine in lines.
use Rattle.std.proofs.Common.{◌≡◌, ℕ, List, [], ◌∷◌, ◌++◌, length, Bool, true, false, ◌&&◌, not, cond, inl, inr, Some, Result, Ok, Err, refl, ap, sym, ◌∙◌, append_assoc, arith}
use Rattle.std.specs.Prelude.{◌==◌}
use Rattle.std.specs.Char.{is_ascii_digit}
use Rattle.std.specs.Global.{Global}
use Rattle.std.proofs.lemmas.Bool.{ne_eqb}
use Rattle.std.proofs.lemmas.Bool.Decides.{eqb_tells}
use Rattle.std.proofs.lemmas.List.{append-nil}
use Rattle.std.proofs.lemmas.List.Sums.{fold-append}
use Rattle.gi_aiger.specs.declared.aig.Symbol.{Symbol}
use Rattle.gi_aiger.specs.declared.fault.AigCode.{AigCode}
use Rattle.gi_aiger.specs.declared.head.Head.{Head}
use Rattle.gi_aiger.specs.declared.row.Section.{Section}
use Rattle.gi_aiger.specs.declared.taken.Taken.{Taken}
use Rattle.gi_aiger.specs.declared.phase.Phase.{Phase}
use Rattle.gi_aiger.specs.declared.phase.Phase.TheVariants.{Heading, Rows, Gates, Naming, Comment, Failed}
use Rattle.gi_aiger.specs.declared.machine.Machine.{Machine}
use Rattle.gi_aiger.specs.Header.{header_of}
use Rattle.gi_aiger.specs.Lines.{bare, joined}
use Rattle.gi_aiger.specs.Taking.{add_line}
use Rattle.gi_aiger.specs.Named.{add_symbol}
use Rattle.gi_aiger.specs.Files.{stopped, whole, begins_comment, comment_of}
use Rattle.gi_aiger.specs.Machine.{head_ends, row_ends, symbol_ends, comment_begins, is_c, is_lenient, line_ends, byte_in_line, take_byte, answer_now, answer, run}
use Rattle.gi_aiger.proofs.Lining.{IsPlain, AreLines, plain_head, bare_whole, bare_plain}

abbrev pub at : Global → ℕ → Phase → Head → List ℕ → Taken → List Symbol → List ℕ → Machine
at a k p h w t y c = record { alloc = a; line = k; phase = p; head = h; word = w; taken = t; symbols = y; comment = c }

pub run-append : (s : Machine) (xs ys : List ℕ) → run s (xs ++ ys) ≡ run (run s xs) ys
unfolding run
run-append s xs ys = fold-append take_byte s xs ys

pub run-cons : (s : Machine) (x : ℕ) (xs : List ℕ) → run s (x ∷ xs) ≡ run (take_byte s x) xs
unfolding run
run-cons s x xs = refl

pub run-nil : (s : Machine) → run s [] ≡ s
unfolding run
run-nil s = refl

-- the answer where no line is begun
pub last_is : (s : Machine) → s.word ≡ [] → answer s ≡ answer_now s
unfolding answer
last_is s e = ap (λ (b : Bool). answer_now (cond b s (line_ends s))) (ap (λ (w : List ℕ). length w == 0) e)

-- the answer where one is
pub last_begun : (s : Machine) (b : ℕ) (w : List ℕ) → s.word ≡ b ∷ w → answer s ≡ answer_now (line_ends s)
unfolding answer
last_begun s b w e = ap (λ (t : Bool). answer_now (cond t s (line_ends s))) (ap (λ (w : List ℕ). length w == 0) e ∙ ne_eqb (length (b ∷ w)) 0 (λ z. omega arith))

-- behind a fault
failed_stays : (a : Global) (k g : ℕ) (c : AigCode) (h : Head) (t : Taken) (y : List Symbol) (cm more : List ℕ) → run (at a k (Failed g c) h [] t y cm) more ≡ at a k (Failed g c) h [] t y cm
unfolding run take_byte
failed_stays a k g c h t y cm [] = refl
failed_stays a k g c h t y cm (x ∷ more) = failed_stays a k g c h t y cm more

pub failed_answer : (a : Global) (k g : ℕ) (c : AigCode) (h : Head) (t : Taken) (y : List Symbol) (cm more : List ℕ) → answer (run (at a k (Failed g c) h [] t y cm) more) ≡ stopped t k g c
failed_answer a k g c h t y cm more = ap answer (failed_stays a k g c h t y cm more) ∙ last_is (at a k (Failed g c) h [] t y cm) refl

-- in the comment
comment_grows : (a : Global) (k : ℕ) (h : Head) (t : Taken) (y : List Symbol) (cm more : List ℕ) → run (at a k Comment h [] t y cm) more ≡ at a k Comment h [] t y (cm ++ more)
unfolding run take_byte
comment_grows a k h t y cm [] = ap (at a k Comment h [] t y) (sym (append-nil cm))
comment_grows a k h t y cm (x ∷ more) = comment_grows a k h t y (cm ++ x ∷ []) more ∙ ap (at a k Comment h [] t y) (append_assoc cm (x ∷ []) more)

comment_answer : (a : Global) (k : ℕ) (h : Head) (t : Taken) (y : List Symbol) (cm more : List ℕ) → answer (run (at a k Comment h [] t y cm) more) ≡ whole h t y (Some (cm ++ more))
comment_answer a k h t y cm more = ap answer (comment_grows a k h t y cm more) ∙ last_is (at a k Comment h [] t y (cm ++ more)) refl

-- the header's line and those of sections
abbrev pub is_text : Phase → Bool
is_text Heading = true
is_text (Rows s) = true
is_text (Gates g) = false
is_text Naming = false
is_text Comment = false
is_text (Failed g c) = false

text_byte : (a : Global) (k : ℕ) (p : Phase) (h : Head) (w : List ℕ) (t : Taken) (y : List Symbol) (c : List ℕ) (b : ℕ) → is_text p ≡ true → (b == 10) ≡ false → take_byte (at a k p h w t y c) b ≡ at a k p h (w ++ b ∷ []) t y c
unfolding take_byte
text_byte a k Heading h w t y c b is f = rw f refl
text_byte a k (Rows s) h w t y c b is f = rw f refl
text_byte a k (Gates g) h w t y c b is f = absurd cc
text_byte a k Naming h w t y c b is f = absurd cc
text_byte a k Comment h w t y c b is f = absurd cc
text_byte a k (Failed g d) h w t y c b is f = absurd cc

text_lf : (a : Global) (k : ℕ) (p : Phase) (h : Head) (w : List ℕ) (t : Taken) (y : List Symbol) (c : List ℕ) → is_text p ≡ true → take_byte (at a k p h w t y c) 10 ≡ line_ends (at a k p h w t y c)
unfolding take_byte
text_lf a k Heading h w t y c is = refl
text_lf a k (Rows s) h w t y c is = refl
text_lf a k (Gates g) h w t y c is = absurd cc
text_lf a k Naming h w t y c is = absurd cc
text_lf a k Comment h w t y c is = absurd cc
text_lf a k (Failed g d) h w t y c is = absurd cc

gathers : (a : Global) (k : ℕ) (p : Phase) (h : Head) (w : List ℕ) (t : Taken) (y : List Symbol) (c x : List ℕ) → is_text p ≡ true → IsPlain x → run (at a k p h w t y c) x ≡ at a k p h (w ++ x) t y c
gathers a k p h w t y c [] is plain = run-nil (at a k p h w t y c) ∙ ap (λ (v : List ℕ). at a k p h v t y c) (sym (append-nil w))
gathers a k p h w t y c (b ∷ x) is plain =
    let f = plain_head b x plain in
    run-cons (at a k p h w t y c) b x ∙ ap (λ (s : Machine). run s x) (text_byte a k p h w t y c b is f.0) ∙ gathers a k p h (w ++ b ∷ []) t y c x is f.1 ∙ ap (λ (v : List ℕ). at a k p h v t y c) (append_assoc w (b ∷ []) x)

headed : (r : Result Head AigCode) (s : Machine) → (head_ends r s).word ≡ []
headed (Ok h) s = refl
headed (Err c) s = refl

rowed : (section : Section) (r : Result Taken AigCode) (s : Machine) → (row_ends section r s).word ≡ []
rowed section (Ok t) s = refl
rowed section (Err c) s = refl

cleared : (a : Global) (k : ℕ) (p : Phase) (h : Head) (w : List ℕ) (t : Taken) (y : List Symbol) (c : List ℕ) → is_text p ≡ true → (line_ends (at a k p h w t y c)).word ≡ []
unfolding line_ends
cleared a k Heading h w t y c is = headed (header_of w) (at a k Heading h w t y c)
cleared a k (Rows s) h w t y c is = rowed s (add_line h t s w) (at a k (Rows s) h w t y c)
cleared a k (Gates g) h w t y c is = absurd cc
cleared a k Naming h w t y c is = absurd cc
cleared a k Comment h w t y c is = absurd cc
cleared a k (Failed g d) h w t y c is = absurd cc

-- a line ends, by its LF or with the input
pub line_is : (a : Global) (k : ℕ) (p : Phase) (h : Head) (t : Taken) (y : List Symbol) (c l : List ℕ) (ls : List (List ℕ)) → is_text p ≡ true → AreLines (l ∷ ls)
    → answer (run (at a k p h [] t y c) (joined (l ∷ ls))) ≡ answer (run (line_ends (at a k p h (bare l) t y c)) (joined ls))
line_is a k p h t y c l ls is (inl q) =
    let m = at a k p h [] t y c in
    let end : run m l ≡ line_ends (at a k p h q.0 t y c) =
    ap (run m) q.1 ∙ run-append m q.0 (10 ∷ []) ∙ ap (λ (s : Machine). run s (10 ∷ [])) (gathers a k p h [] t y c q.0 is q.2)
    ∙ run-cons (at a k p h q.0 t y c) 10 [] ∙ run-nil (take_byte (at a k p h q.0 t y c) 10) ∙ text_lf a k p h q.0 t y c is in
    let word : bare l ≡ q.0 = ap bare q.1 ∙ bare_whole q.0 [] q.2 in
    ap answer (run-append m l (joined ls) ∙ ap (λ (s : Machine). run s (joined ls)) (end ∙ ap (λ (v : List ℕ). line_ends (at a k p h v t y c)) (sym word)))
line_is a k p h t y c l ls is (inr q) =
    let m = at a k p h [] t y c in
    let bytes : joined (l ∷ ls) ≡ q.0 ∷ q.1 = ap (λ (ms : List (List ℕ)). joined (l ∷ ms)) q.4 ∙ append-nil l ∙ q.2 in
    let word : bare l ≡ q.0 ∷ q.1 = ap bare q.2 ∙ bare_plain (q.0 ∷ q.1) q.3 in
    let u = line_ends (at a k p h (q.0 ∷ q.1) t y c) in
    ap (λ (bs : List ℕ). answer (run m bs)) bytes ∙ ap answer (gathers a k p h [] t y c (q.0 ∷ q.1) is q.3)
    ∙ last_begun (at a k p h (q.0 ∷ q.1) t y c) q.0 q.1 refl ∙ sym (last_is u (cleared a k p h (q.0 ∷ q.1) t y c is))
    ∙ ap answer (sym (run-nil u)) ∙ ap (λ (ms : List (List ℕ)). answer (run u (joined ms))) (sym q.4) ∙ ap (λ (v : List ℕ). answer (run (line_ends (at a k p h v t y c)) (joined ls))) (sym word)

-- a line behind the gates
and_false : (b : Bool) → (b && false) ≡ false
and_false true = refl
and_false false = refl

long_no_c : (b d : ℕ) (w : List ℕ) → is_c (b ∷ d ∷ w) ≡ false
long_no_c b d w = and_false (b == 99)

and_true : (b : Bool) → (b && true) ≡ b
and_true true = refl
and_true false = refl

one_no_c : (b : ℕ) → (b == 99) ≡ false → is_c (b ∷ []) ≡ false
one_no_c b f = rw f refl

not_lenient : (w : List ℕ) (b : ℕ) → is_c w ≡ false → is_lenient w b ≡ false
not_lenient w b f = rw f refl

name_byte : (a : Global) (k : ℕ) (h : Head) (w : List ℕ) (t : Taken) (y : List Symbol) (c : List ℕ) (b : ℕ) → is_lenient w b ≡ false → (b == 10) ≡ false → take_byte (at a k Naming h w t y c) b ≡ at a k Naming h (w ++ b ∷ []) t y c
unfolding take_byte
name_byte a k h w t y c b nc f =
    ap (λ (e : Bool). cond e (comment_begins (at a k Naming h w t y c) (b ∷ [])) (byte_in_line (at a k Naming h w t y c) b)) nc
    ∙ ap (λ (e : Bool). cond e (line_ends (at a k Naming h w t y c)) (at a k Naming h (w ++ b ∷ []) t y c)) f

name_lf : (a : Global) (k : ℕ) (h : Head) (w : List ℕ) (t : Taken) (y : List Symbol) (c : List ℕ) → take_byte (at a k Naming h w t y c) 10 ≡ line_ends (at a k Naming h w t y c)
unfolding take_byte
name_lf a k h w t y c = ap (λ (e : Bool). cond e (comment_begins (at a k Naming h w t y c) (10 ∷ [])) (line_ends (at a k Naming h w t y c))) (and_false (is_c w && not (is_ascii_digit 10)))

name_gathers : (a : Global) (k : ℕ) (h : Head) (b d : ℕ) (w : List ℕ) (t : Taken) (y : List Symbol) (c x : List ℕ) → IsPlain x → run (at a k Naming h (b ∷ d ∷ w) t y c) x ≡ at a k Naming h (b ∷ d ∷ (w ++ x)) t y c
name_gathers a k h b d w t y c [] plain = run-nil (at a k Naming h (b ∷ d ∷ w) t y c) ∙ ap (λ (v : List ℕ). at a k Naming h (b ∷ d ∷ v) t y c) (sym (append-nil w))
name_gathers a k h b d w t y c (e ∷ x) plain =
    let f = plain_head e x plain in
    run-cons (at a k Naming h (b ∷ d ∷ w) t y c) e x ∙ ap (λ (s : Machine). run s x) (name_byte a k h (b ∷ d ∷ w) t y c e (not_lenient (b ∷ d ∷ w) e (long_no_c b d w)) f.0)
    ∙ name_gathers a k h b d (w ++ e ∷ []) t y c x f.1 ∙ ap (λ (v : List ℕ). at a k Naming h (b ∷ d ∷ v) t y c) (append_assoc w (e ∷ []) x)

-- the second byte begins no comment
second_no : (b d : ℕ) → ((b == 99) && not (is_ascii_digit d)) ≡ false → is_lenient (b ∷ []) d ≡ false
second_no b d nc = by_test (b == 99) (not (is_ascii_digit d)) (not (d == 10)) nc where
  by_test : (p q r : Bool) → (p && q) ≡ false → (((p && true) && q) && r) ≡ false
  by_test true q r h = rw h refl
  by_test false q r h = refl

name_run : (a : Global) (k : ℕ) (h : Head) (t : Taken) (y : List Symbol) (c x : List ℕ) → begins_comment (x ++ 10 ∷ []) ≡ false → IsPlain x → run (at a k Naming h [] t y c) x ≡ at a k Naming h x t y c
name_run a k h t y c [] nc plain = run-nil (at a k Naming h [] t y c)
name_run a k h t y c (b ∷ []) nc plain =
    run-cons (at a k Naming h [] t y c) b [] ∙ run-nil (take_byte (at a k Naming h [] t y c) b) ∙ name_byte a k h [] t y c b refl (plain_head b [] plain).0
name_run a k h t y c (b ∷ d ∷ x) nc plain =
    let f = plain_head b (d ∷ x) plain in
    let g = plain_head d x f.1 in
    run-cons (at a k Naming h [] t y c) b (d ∷ x) ∙ ap (λ (s : Machine). run s (d ∷ x)) (name_byte a k h [] t y c b refl f.0) ∙ run-cons (at a k Naming h (b ∷ []) t y c) d x
    ∙ ap (λ (s : Machine). run s x) (name_byte a k h (b ∷ []) t y c d (second_no b d nc) g.0) ∙ name_gathers a k h b d [] t y c x g.1

no_c : (x : List ℕ) → begins_comment (x ++ 10 ∷ []) ≡ false → is_c x ≡ false
no_c [] nc = refl
no_c (b ∷ []) nc = one_no_c b (sym (and_true (b == 99)) ∙ nc)
no_c (b ∷ d ∷ x) nc = long_no_c b d x

named : (r : Result (List Symbol) AigCode) (s : Machine) → (symbol_ends r s).word ≡ []
named (Ok more) s = refl
named (Err c) s = refl

name_ends : (a : Global) (k : ℕ) (h : Head) (t : Taken) (y : List Symbol) (c x : List ℕ) → is_c x ≡ false → line_ends (at a k Naming h x t y c) ≡ symbol_ends (add_symbol h y x) (at a k Naming h x t y c)
unfolding line_ends
name_ends a k h t y c x nc = ap (λ (e : Bool). cond e (comment_begins (at a k Naming h x t y c) []) (symbol_ends (add_symbol h y x) (at a k Naming h x t y c))) nc

-- a cut line is no comment as a whole one isn't
pub cut_no : (b : ℕ) (x : List ℕ) → begins_comment (b ∷ x) ≡ false → begins_comment ((b ∷ x) ++ 10 ∷ []) ≡ false
cut_no b [] nc = rw nc refl
cut_no b (d ∷ x) nc = nc

pub name_line : (a : Global) (k : ℕ) (h : Head) (t : Taken) (y : List Symbol) (c l : List ℕ) (ls : List (List ℕ)) → begins_comment l ≡ false → AreLines (l ∷ ls)
    → answer (run (at a k Naming h [] t y c) (joined (l ∷ ls))) ≡ answer (run (symbol_ends (add_symbol h y (bare l)) (at a k Naming h (bare l) t y c)) (joined ls))
name_line a k h t y c l ls nc (inl q) =
    let m = at a k Naming h [] t y c in
    let none : begins_comment (q.0 ++ 10 ∷ []) ≡ false = ap begins_comment (sym q.1) ∙ nc in
    let end : run m l ≡ symbol_ends (add_symbol h y q.0) (at a k Naming h q.0 t y c) =
    ap (run m) q.1 ∙ run-append m q.0 (10 ∷ []) ∙ ap (λ (s : Machine). run s (10 ∷ [])) (name_run a k h t y c q.0 none q.2)
    ∙ run-cons (at a k Naming h q.0 t y c) 10 [] ∙ run-nil (take_byte (at a k Naming h q.0 t y c) 10) ∙ name_lf a k h q.0 t y c ∙ name_ends a k h t y c q.0 (no_c q.0 none) in
    let word : bare l ≡ q.0 = ap bare q.1 ∙ bare_whole q.0 [] q.2 in
    ap answer (run-append m l (joined ls) ∙ ap (λ (s : Machine). run s (joined ls)) (end ∙ ap (λ (v : List ℕ). symbol_ends (add_symbol h y v) (at a k Naming h v t y c)) (sym word)))
name_line a k h t y c l ls nc (inr q) =
    let m = at a k Naming h [] t y c in
    let none : begins_comment ((q.0 ∷ q.1) ++ 10 ∷ []) ≡ false = cut_no q.0 q.1 (ap begins_comment (sym q.2) ∙ nc) in
    let bytes : joined (l ∷ ls) ≡ q.0 ∷ q.1 = ap (λ (ms : List (List ℕ)). joined (l ∷ ms)) q.4 ∙ append-nil l ∙ q.2 in
    let word : bare l ≡ q.0 ∷ q.1 = ap bare q.2 ∙ bare_plain (q.0 ∷ q.1) q.3 in
    let u = symbol_ends (add_symbol h y (q.0 ∷ q.1)) (at a k Naming h (q.0 ∷ q.1) t y c) in
    ap (λ (bs : List ℕ). answer (run m bs)) bytes ∙ ap answer (name_run a k h t y c (q.0 ∷ q.1) none q.3) ∙ last_begun (at a k Naming h (q.0 ∷ q.1) t y c) q.0 q.1 refl
    ∙ ap answer_now (name_ends a k h t y c (q.0 ∷ q.1) (no_c (q.0 ∷ q.1) none)) ∙ sym (last_is u (named (add_symbol h y (q.0 ∷ q.1)) (at a k Naming h (q.0 ∷ q.1) t y c)))
    ∙ ap answer (sym (run-nil u)) ∙ ap (λ (ms : List (List ℕ)). answer (run u (joined ms))) (sym q.4)
    ∙ ap (λ (v : List ℕ). answer (run (symbol_ends (add_symbol h y v) (at a k Naming h v t y c)) (joined ls))) (sym word)

-- bytes
is_byte : (d n : ℕ) → (d == n) ≡ true → d ≡ n
is_byte d n e = elim (eqb_tells d n) [ inl t ↦ t.1 | inr f ↦ absurd cc ]

is_lf : (d : ℕ) → (d == 10) ≡ true → d ≡ 10
is_lf d e = is_byte d 10 e

is_c_byte : (d : ℕ) → (d == 99) ≡ true → d ≡ 99
is_c_byte d e = is_byte d 99 e

parts : (p q : Bool) → (p && q) ≡ true → (p ≡ true) × (q ≡ true)
parts true q h = (refl, h)
parts false q h = absurd cc

abbrev head_byte : List ℕ → ℕ
head_byte [] = 0
head_byte (b ∷ bs) = b

-- a line of one byte is an LF
no_line : (b : ℕ) (x : List ℕ) → (b == 99) ≡ true → b ∷ [] ≡ x ++ 10 ∷ [] → ⊥
no_line b [] is e = let lf : b ≡ 10 = ap head_byte e in let c = is_c_byte b is in absurd (omega (arith, lf, c))
no_line b (d ∷ []) is e = let n = ap (λ (xs : List ℕ). length xs) e in absurd (omega arith)
no_line b (d ∷ f ∷ x) is e = let n = ap (λ (xs : List ℕ). length xs) e in absurd (omega arith)

-- the comment begins
c_ends : (a : Global) (k : ℕ) (h : Head) (t : Taken) (y : List Symbol) (c : List ℕ) → line_ends (at a k Naming h (99 ∷ []) t y c) ≡ at a k Comment h [] t y []
unfolding line_ends
c_ends a k h t y c = refl

first_c : (a : Global) (k : ℕ) (h : Head) (t : Taken) (y : List Symbol) (c more : List ℕ) → run (at a k Naming h [] t y c) (99 ∷ more) ≡ run (at a k Naming h (99 ∷ []) t y c) more
first_c a k h t y c more = run-cons (at a k Naming h [] t y c) 99 more ∙ ap (λ (s : Machine). run s more) (name_byte a k h [] t y c 99 refl refl)

lenient_byte : (a : Global) (k : ℕ) (h : Head) (t : Taken) (y : List Symbol) (c : List ℕ) (b : ℕ) → is_lenient (99 ∷ []) b ≡ true → take_byte (at a k Naming h (99 ∷ []) t y c) b ≡ at a k Comment h [] t y (b ∷ [])
unfolding take_byte
lenient_byte a k h t y c b is = ap (λ (e : Bool). cond e (at a k Comment h [] t y (b ∷ [])) (byte_in_line (at a k Naming h (99 ∷ []) t y c) b)) is

behind_c : (a : Global) (k : ℕ) (h : Head) (t : Taken) (y : List Symbol) (c : List ℕ) (d : ℕ) (more : List ℕ) → not (is_ascii_digit d) ≡ true
    → answer (run (at a k Naming h (99 ∷ []) t y c) (d ∷ more)) ≡ whole h t y (Some (cond (d == 10) more (d ∷ more)))
behind_c a k h t y c d more digit = by_test (d == 10) refl where
  lf : (d : ℕ) → d ≡ 10 → answer (run (at a k Naming h (99 ∷ []) t y c) (d ∷ more)) ≡ whole h t y (Some more)
  lf d e =
      ap (λ (n : ℕ). answer (run (at a k Naming h (99 ∷ []) t y c) (n ∷ more))) e ∙ ap answer (run-cons (at a k Naming h (99 ∷ []) t y c) 10 more)
      ∙ ap (λ (s : Machine). answer (run s more)) (name_lf a k h (99 ∷ []) t y c ∙ c_ends a k h t y c) ∙ comment_answer a k h t y [] more

  by_test : (b : Bool) → (d == 10) ≡ b → answer (run (at a k Naming h (99 ∷ []) t y c) (d ∷ more)) ≡ whole h t y (Some (cond b more (d ∷ more)))
  by_test true e = lf d (is_lf d e)
  by_test false e =
      ap answer (run-cons (at a k Naming h (99 ∷ []) t y c) d more) ∙ ap (λ (s : Machine). answer (run s more)) (lenient_byte a k h t y c d (rw (digit, e) refl)) ∙ comment_answer a k h t y (d ∷ []) more

pub comment_line : (a : Global) (k : ℕ) (h : Head) (t : Taken) (y : List Symbol) (c l : List ℕ) (ls : List (List ℕ)) → begins_comment l ≡ true → AreLines (l ∷ ls)
    → answer (run (at a k Naming h [] t y c) (joined (l ∷ ls))) ≡ whole h t y (Some (comment_of (joined (l ∷ ls))))
comment_line a k h t y c [] ls is lines = absurd cc
comment_line a k h t y c (b ∷ []) ls is lines = alone lines where
  alone : AreLines ((b ∷ []) ∷ ls) → answer (run (at a k Naming h [] t y c) (b ∷ joined ls)) ≡ whole h t y (Some (comment_of (b ∷ joined ls)))
  alone (inl q) = absurd (no_line b q.0 is q.1)
  alone (inr q) =
      let b_is : b ≡ 99 = is_c_byte b is in
      ap (λ (ms : List (List ℕ)). answer (run (at a k Naming h [] t y c) (b ∷ joined ms))) q.4 ∙ ap (λ (n : ℕ). answer (run (at a k Naming h [] t y c) (n ∷ []))) b_is
      ∙ ap answer (first_c a k h t y c [] ∙ run-nil (at a k Naming h (99 ∷ []) t y c)) ∙ last_begun (at a k Naming h (99 ∷ []) t y c) 99 [] refl ∙ ap answer_now (c_ends a k h t y c)
      ∙ ap (λ (ms : List (List ℕ)). whole h t y (Some (comment_of (b ∷ joined ms)))) (sym q.4)
comment_line a k h t y c (b ∷ d ∷ bs) ls is lines =
    let both = parts (b == 99) (not (is_ascii_digit d)) is in
    let b_is : b ≡ 99 = is_c_byte b both.0 in
    ap (λ (n : ℕ). answer (run (at a k Naming h [] t y c) (n ∷ d ∷ (bs ++ joined ls)))) b_is ∙ ap answer (first_c a k h t y c (d ∷ (bs ++ joined ls))) ∙ behind_c a k h t y c d (bs ++ joined ls) both.1
