-- The machine reads what the lines say.
use Rattle.std.proofs.Common.{◌≡◌, ℕ, ◌+◌, List, [], ◌∷◌, ◌++◌, length, Bool, true, false, ◌&&◌, cond, Result, Ok, Err, refl, ap, sym, ◌∙◌, append_assoc}
use Rattle.std.specs.Prelude.{◌==◌}
use Rattle.std.specs.List.{fold, AllByRecursion}
use Rattle.std.specs.Global.{Global}
use Rattle.std.proofs.lemmas.List.Sums.{fold-append}
use Rattle.gi_text.specs.Words.{is_white, words_from, words_of}
use Rattle.gi_dimacs.specs.Lines.{text_of}
use Rattle.gi_dimacs.specs.declared.fault.CnfCode.{CnfCode}
use Rattle.gi_dimacs.specs.declared.fault.CnfCode.TheVariants.{Header, Unterminated}
use Rattle.gi_dimacs.specs.declared.fault.CnfFault.{CnfFault}
use Rattle.gi_dimacs.specs.declared.words.Taken.{Taken}
use Rattle.gi_dimacs.specs.declared.content.Format.{Format}
use Rattle.gi_dimacs.specs.declared.content.Format.TheVariants as formats
use Rattle.gi_dimacs.specs.declared.head.Head.TheVariants as heads
use Rattle.gi_dimacs.specs.declared.machine.Phase.{Phase}
use Rattle.gi_dimacs.specs.declared.machine.Phase.TheVariants.{Before, Body, Ask, Asked, Ended, Failed}
use Rattle.gi_dimacs.specs.declared.machine.Spot.{Spot}
use Rattle.gi_dimacs.specs.declared.machine.Spot.TheVariants.{Start, Comment, First, Later}
use Rattle.gi_dimacs.specs.declared.machine.Machine.{Machine}
use Rattle.gi_dimacs.specs.Content.{File, format_of, nothing}
use Rattle.gi_dimacs.specs.Files.{begin, is_comment, Move, Goes, Ends, Stops, body_line, whole, after_move, read_body, begin_body, head_words, header_words, read_lines, read_file}
use Rattle.gi_dimacs.specs.Machine.{start, end_phase, word_ends, after_head, line_ends, go_inside, inside, is_over, is_start, in_comment, byte_in_line, take_byte, answer_of, answer_now, answer, run}
use Rattle.gi_dimacs.proofs.Splitting.{IsPlain, line_of, split}
use Rattle.gi_dimacs.proofs.InLines.{at, eats, plain_head, over_stays, first_spot, line_from_start}
use Rattle.gi_dimacs.proofs.Runs.{MoveDone, body_done, head_of, head_ends, end_over}

pub run-append : (s : Machine) (xs ys : List ℕ) → run s (xs ++ ys) ≡ run (run s xs) ys
unfolding run
run-append s xs ys = fold-append take_byte s xs ys

same_cond : {A : Type 0} (b : Bool) (x : A) → cond b x x ≡ x
same_cond true x = refl
same_cond false x = refl

-- an LF ends the word and the line
lf_ends : (a : Global) (k : ℕ) (p : Phase) (sp : Spot) (w : List ℕ) (t : Taken) → take_byte (at a k p sp w t) 10 ≡ line_ends (word_ends (at a k p sp w t))
unfolding take_byte line_ends word_ends
lf_ends a k (Before h) sp w t = refl
lf_ends a k Body sp w t = refl
lf_ends a k Ask sp w t = refl
lf_ends a k Asked sp w t = refl
lf_ends a k Ended sp w t = sym (ap line_ends (same_cond (length w == 0) (at a k Ended sp w t)))
lf_ends a k (Failed c) sp w t = sym (ap line_ends (same_cond (length w == 0) (at a k (Failed c) sp w t)))

run_lf : (s : Machine) (more : List ℕ) → run s (10 ∷ more) ≡ run (line_ends (word_ends s)) more
unfolding run
run_lf s more = ap (λ (u : Machine). fold take_byte u more) (lf_ends s.alloc s.line s.phase s.spot s.word s.taken)

-- a line and its LF
run_line : (s : Machine) (l more : List ℕ) → run s ((l ++ 10 ∷ []) ++ more) ≡ run (line_ends (word_ends (run s l))) more
run_line s l more = ap (run s) (append_assoc l (10 ∷ []) more) ∙ run-append s l (10 ∷ more) ∙ run_lf (run s l) more

-- behind the first byte of a line the spot is no start
by_in_line : (s : Machine) (x : ℕ) → is_start (byte_in_line s x).spot ≡ false
by_in_line s x = first (in_comment s.spot) refl where
  comment : (sp : Spot) → in_comment sp ≡ true → is_start sp ≡ false
  comment Start e = absurd cc
  comment Comment e = refl
  comment First e = refl
  comment Later e = refl

  went : (sp : Spot) → is_start (go_inside sp) ≡ false
  went Start = refl
  went Comment = refl
  went First = refl
  went Later = refl

  third : (b : Bool) → is_start (cond b (at s.alloc s.line s.phase Comment s.word s.taken) (inside (record s { word = s.word ++ x ∷ [] }))).spot ≡ false
  third true = refl
  third false = went s.spot

  second : (b : Bool) → is_start (cond b (inside (word_ends s)) (cond (is_start s.spot && x == 99) (at s.alloc s.line s.phase Comment s.word s.taken) (inside (record s { word = s.word ++ x ∷ [] })))).spot ≡ false
  second true = went (word_ends s).spot
  second false = third (is_start s.spot && x == 99)

  first : (b : Bool) → in_comment s.spot ≡ b → is_start (cond b s (cond (is_white x) (inside (word_ends s)) (cond (is_start s.spot && x == 99) (at s.alloc s.line s.phase Comment s.word s.taken) (inside (record s { word = s.word ++ x ∷ [] }))))).spot ≡ false
  first true e = comment s.spot e
  first false e = second (is_white x)

keeps_inner : (s : Machine) (x : ℕ) → (x == 10) ≡ false → is_start s.spot ≡ false → is_start (take_byte s x).spot ≡ false
unfolding take_byte
keeps_inner s x n e = by_over (is_over s.phase) where
  by_over : (b : Bool) → is_start (cond b s (cond (x == 10) (line_ends (word_ends s)) (byte_in_line s x))).spot ≡ false
  by_over true = e
  by_over false = rw n (by_in_line s x)

runs_inner : (s : Machine) (l : List ℕ) → IsPlain l → is_start s.spot ≡ false → is_start (run s l).spot ≡ false
unfolding run
runs_inner s [] plain e = e
runs_inner s (x ∷ l) plain e =
    let h = plain_head x l plain in
    runs_inner (take_byte s x) l h.1 (keeps_inner s x h.0 e)

leaves_start : (s : Machine) (x : ℕ) (l : List ℕ) → is_over s.phase ≡ false → IsPlain (x ∷ l) → is_start (run s (x ∷ l)).spot ≡ false
unfolding run take_byte
leaves_start s x l o plain =
    let h = plain_head x l plain in
    runs_inner (take_byte s x) l h.1 (rw (o, h.0) (by_in_line s x))

-- the answer where the input ends in a line
pub last_answer : (s : Machine) (x : ℕ) (l : List ℕ) → is_over s.phase ≡ false → IsPlain (x ∷ l) → answer (run s (x ∷ l)) ≡ answer_now (line_ends (word_ends (run s (x ∷ l))))
unfolding answer
last_answer s x l o plain = rw (leaves_start s x l o plain) refl

over_answer : (a : Global) (k : ℕ) (p : Phase) (t : Taken) (more : List ℕ) → is_over p ≡ true → answer (run (at a k p Later [] t) more) ≡ answer_of p k t
unfolding answer line_ends word_ends
over_answer a k (Before h) t more o = absurd cc
over_answer a k Body t more o = absurd cc
over_answer a k Ask t more o = absurd cc
over_answer a k Asked t more o = absurd cc
over_answer a k Ended t more o = ap answer (over_stays (at a k Ended Later [] t) more refl)
over_answer a k (Failed c) t more o = ap answer (over_stays (at a k (Failed c) Later [] t) more refl)

ended_answer : (k : ℕ) (t : Taken) → answer_of (end_phase t.begun) k t ≡ whole t k
ended_answer k t = by_test (length t.begun == 0) where
  by_test : (b : Bool) → answer_of (cond b Ended (Failed Unterminated)) k t ≡ cond b (Ok (record { vars = t.vars; content = t.content })) (Err (record { line = k; code = Unterminated }))
  by_test true = refl
  by_test false = refl

-- one line of the body, and what comes behind it
by_move : (a : Global) (k : ℕ) (t : Taken) (m : Move) (s : Machine) (more : List ℕ) (next : Taken → Result File CnfFault) → MoveDone a k t m s
    → ((u : Taken) → answer (run (at a (k + 1) Body Start [] u) more) ≡ next u) → answer (run (line_ends s) more) ≡ after_move m t k next
by_move a k t (Goes u) s more next d ih = ap (λ x. answer (run x more)) d ∙ ih u
by_move a k t Ends s more next d ih = ap (λ x. answer (run x more)) d ∙ over_answer a k (end_phase t.begun) t more (end_over t.begun) ∙ ended_answer k t
by_move a k t (Stops c) s more next d ih = ap (λ x. answer (run x more)) d.1 ∙ over_answer a k (Failed c) d.0 more refl

body_now : (a : Global) (k : ℕ) (t : Taken) → answer (run (at a k Body Start [] t) []) ≡ whole t k
unfolding answer run
body_now a k t = refl

now_is : (a : Global) (k : ℕ) (p : Phase) (t : Taken) → answer (at a k p Start [] t) ≡ answer_of p k t
unfolding answer
now_is a k p t = refl

-- the last line of a body, which lacks its LF
last_move : (a : Global) (k : ℕ) (t : Taken) (m : Move) (s : Machine) → MoveDone a k t m s → answer_now (line_ends s) ≡ after_move m t k (λ u. whole u (k + 1))
last_move a k t (Goes u) s d = ap answer_now d
last_move a k t Ends s d = ap answer_now d ∙ ended_answer k t
last_move a k t (Stops c) s d = ap answer_now d.1

pub reads_body : (a : Global) (k : ℕ) (t : Taken) (ls : List (List ℕ)) (last : List ℕ) → AllByRecursion IsPlain ls → IsPlain last
    → answer (run (at a k Body Start [] t) (text_of ls ++ last)) ≡ read_body k t (ls ++ line_of last)
unfolding read_body
reads_body a k t [] [] plain plain_last = body_now a k t
reads_body a k t [] (x ∷ l) plain plain_last =
    last_answer (at a k Body Start [] t) x l refl plain_last
    ∙ ap (λ s. answer_now (line_ends s)) (line_from_start a k Body t (x ∷ l) refl plain_last)
    ∙ last_move a k t (body_line t (x ∷ l)) _ (body_done a k t (x ∷ l))
reads_body a k t (l ∷ ls) last plain plain_last =
    ap (λ xs. answer (run (at a k Body Start [] t) xs)) (append_assoc (l ++ 10 ∷ []) (text_of ls) last)
    ∙ ap answer (run_line (at a k Body Start [] t) l (text_of ls ++ last))
    ∙ ap (λ s. answer (run (line_ends s) (text_of ls ++ last))) (line_from_start a k Body t l refl plain.0)
    ∙ by_move a k t (body_line t l) _ (text_of ls ++ last) (λ u. read_body (k + 1) u (ls ++ line_of last)) (body_done a k t l) (λ u. reads_body a (k + 1) u ls last plain.1 plain_last)

-- the header
silent_end : (a : Global) (k : ℕ) (sp : Spot) (t : Taken) → line_ends (at a k (Before heads.Nothing) sp [] t) ≡ at a (k + 1) (Before heads.Nothing) Start [] t
unfolding line_ends
silent_end a k sp t = refl

by_head : (a : Global) (k : ℕ) (p : Phase) (t : Taken) (r : Result ℕ CnfCode) (more : List ℕ) (next : Taken → Result File CnfFault)
    → ((v : ℕ) → answer (run (at a (k + 1) Body Start [] (begin (format_of t.content) v)) more) ≡ next (begin (format_of t.content) v)) → answer (run (after_head r (at a k p Later [] t)) more) ≡ begin_body (format_of t.content) r k next
by_head a k p t (Ok v) more next ih = ih v
by_head a k p t (Err c) more next ih = over_answer a k (Failed c) t more refl

head_now : (a : Global) (k : ℕ) (p : Phase) (t : Taken) (r : Result ℕ CnfCode) → answer_now (after_head r (at a k p Later [] t)) ≡ begin_body (format_of t.content) r k (λ u. whole u (k + 1))
head_now a k p t (Ok v) = refl
head_now a k p t (Err c) = refl

-- a line before the header, or the header's, as something looks at what comes behind it
looks : (a : Global) (k : ℕ) (t : Taken) (l : List ℕ) (look : Machine → Result File CnfFault) (silent : Result File CnfFault) (next : Taken → Result File CnfFault)
    → ((sp : Spot) → look (line_ends (at a k (Before heads.Nothing) sp [] t)) ≡ silent)
    → ((p : Phase) (r : Result ℕ CnfCode) → look (after_head r (at a k p Later [] t)) ≡ begin_body (format_of t.content) r k next)
    → look (line_ends (cond (is_comment l) (at a k (Before heads.Nothing) Comment [] t) (eats (at a k (Before heads.Nothing) (first_spot l) [] t) (words_of l)))) ≡ cond (is_comment l) silent (head_words (format_of t.content) (words_of l) k silent next)
unfolding first_spot words_from
looks a k t [] look silent next on_silent on_head = on_silent Start
looks a k t (x ∷ l) look silent next on_silent on_head = by_test (x == 99) where
  by_words : (ws : List (List ℕ)) → look (line_ends (eats (at a k (Before heads.Nothing) First [] t) ws)) ≡ head_words (format_of t.content) ws k silent next
  by_words [] = on_silent First
  by_words (w ∷ ws) = ap look (head_ends a k t w ws) ∙ on_head (Before (head_of (format_of t.content) heads.Nothing (w ∷ ws))) (header_words (format_of t.content) (w ∷ ws))

  by_test : (b : Bool) → look (line_ends (cond b (at a k (Before heads.Nothing) Comment [] t) (eats (at a k (Before heads.Nothing) First [] t) (words_of (x ∷ l))))) ≡ cond b silent (head_words (format_of t.content) (words_of (x ∷ l)) k silent next)
  by_test true = on_silent Comment
  by_test false = by_words (words_of (x ∷ l))

none_now : (a : Global) (k : ℕ) (t : Taken) → answer (run (at a k (Before heads.Nothing) Start [] t) []) ≡ Err (record { line = k; code = Header })
unfolding answer run
none_now a k t = refl

pub reads_lines : (a : Global) (k : ℕ) (t : Taken) (ls : List (List ℕ)) (last : List ℕ) → AllByRecursion IsPlain ls → IsPlain last
    → answer (run (at a k (Before heads.Nothing) Start [] t) (text_of ls ++ last)) ≡ read_lines (format_of t.content) k (ls ++ line_of last)
unfolding read_lines read_body
reads_lines a k t [] [] plain plain_last = none_now a k t
reads_lines a k t [] (x ∷ l) plain plain_last =
    last_answer (at a k (Before heads.Nothing) Start [] t) x l refl plain_last
    ∙ ap (λ s. answer_now (line_ends s)) (line_from_start a k (Before heads.Nothing) t (x ∷ l) refl plain_last)
    ∙ looks a k t (x ∷ l) answer_now (Err (record { line = k + 1; code = Header })) (λ u. whole u (k + 1)) (λ sp. ap answer_now (silent_end a k sp t)) (λ p r. head_now a k p t r)
reads_lines a k t (l ∷ ls) last plain plain_last =
    ap (λ xs. answer (run (at a k (Before heads.Nothing) Start [] t) xs)) (append_assoc (l ++ 10 ∷ []) (text_of ls) last)
    ∙ ap answer (run_line (at a k (Before heads.Nothing) Start [] t) l (text_of ls ++ last))
    ∙ ap (λ s. answer (run (line_ends s) (text_of ls ++ last))) (line_from_start a k (Before heads.Nothing) t l refl plain.0)
    ∙ looks a k t l (λ s. answer (run s (text_of ls ++ last))) (read_lines (format_of t.content) (k + 1) (ls ++ line_of last)) (λ u. read_body (k + 1) u (ls ++ line_of last))
    (λ sp. ap (λ s. answer (run s (text_of ls ++ last))) (silent_end a k sp t) ∙ reads_lines a (k + 1) t ls last plain.1 plain_last)
    (λ p r. by_head a k p t r (text_of ls ++ last) (λ u. read_body (k + 1) u (ls ++ line_of last)) (λ v. reads_body a (k + 1) (begin (format_of t.content) v) ls last plain.1 plain_last))

pub format_of-nothing : (f : Format) → format_of (nothing f) ≡ f
format_of-nothing formats.Cnf = refl
format_of-nothing formats.Icnf = refl

pub reads_all : (a : Global) (f : Format) (bytes : List ℕ) → answer (run (start a f) bytes) ≡ read_file f bytes
unfolding read_file
reads_all a f bytes =
    let s = split bytes in
    ap (λ xs. answer (run (start a f) xs)) s.text ∙ reads_lines a 1 (begin f 0) s.whole s.last s.plain s.plain_last
    ∙ ap (λ g. read_lines g 1 (s.whole ++ line_of s.last)) (format_of-nothing f) ∙ ap (read_lines f 1) (sym s.lines)
