-- Sections are read where their lines say rows, and only there.
use Rattle.std.proofs.Common.{◌≡◌, ℕ, zero, suc, ◌+◌, List, [], ◌∷◌, ◌++◌, length, Result, Ok, Err, refl, ap, sym, ◌∙◌, subst, append_assoc}
use Rattle.std.specs.Prelude.{map}
use Rattle.std.proofs.lemmas.List.{length-map}
use Rattle.gi_aiger.specs.declared.aig.Aig.{Aig}
use Rattle.gi_aiger.specs.declared.fault.AigCode.{AigCode}
use Rattle.gi_aiger.specs.declared.head.Head.{Head}
use Rattle.gi_aiger.specs.declared.row.Section.{Section}
use Rattle.gi_aiger.specs.declared.row.Section.TheVariants as sections
use Rattle.gi_aiger.specs.declared.row.Row.{Row}
use Rattle.gi_aiger.specs.declared.row.Row.TheVariants as rows
use Rattle.gi_aiger.specs.declared.taken.Taken.{Taken}
use Rattle.gi_aiger.specs.Lines.{bare}
use Rattle.gi_aiger.specs.Rows.{section_of}
use Rattle.gi_aiger.specs.Sections.{left_in}
use Rattle.gi_aiger.specs.Taking.{add_line}
use Rattle.gi_aiger.specs.Files.{Told, after_sections, then_line, read_section, read_sections}
use Rattle.gi_aiger.proofs.Saying.{step, Right, IsRight, right_reads, line_right}
use Rattle.gi_aiger.proofs.Putting.{Item, row_at, takes, after, section_takes, Lists, rows_by, state_by, News, Counts, marks_all}

-- lines are right and say these rows, one each
abbrev pub AllRight : Head → Taken → List (List ℕ) → List Row → Type 0
AllRight h t [] [] = Unit {0}
AllRight h t [] (r ∷ rs) = ⊥
AllRight h t (l ∷ ls) [] = ⊥
AllRight h t (l ∷ ls) (r ∷ rs) = Right h t l r × AllRight h (step h.form t r) ls rs

-- each row is of the section
abbrev Of : Section → List Row → Type 0
Of s [] = Unit {0}
Of s (r ∷ rs) = (section_of r ≡ s) × Of s rs

row_of : (s : Section) (a : Item s) → section_of (row_at s a) ≡ s
row_of sections.Input a = refl
row_of sections.Latch a = refl
row_of sections.Out a = refl
row_of sections.Bad a = refl
row_of sections.Con a = refl
row_of sections.Size a = refl
row_of sections.Justice a = refl
row_of sections.Fair a = refl
row_of sections.Gate a = refl

all_of : (s : Section) (xs : List (Item s)) → Of s (map (row_at s) xs)
all_of s [] = tt
all_of s (x ∷ xs) = (row_of s x, all_of s xs)

item : (r : Row) → (a : Item (section_of r)) × (r ≡ row_at (section_of r) a)
item (rows.Input l) = (l, refl)
item (rows.Latch l) = (l, refl)
item (rows.Out l) = (l, refl)
item (rows.Bad l) = (l, refl)
item (rows.Con l) = (l, refl)
item (rows.Size n) = (n, refl)
item (rows.Justice l) = (l, refl)
item (rows.Fair l) = (l, refl)
item (rows.Gate g) = (g, refl)

item_of : (s : Section) (r : Row) → section_of r ≡ s → (a : Item s) × (r ≡ row_at s a)
item_of s r e = subst (λ (z : Section). (a : Item z) × (r ≡ row_at z a)) e (item r)

items_of : (s : Section) (rs : List Row) → Of s rs → (xs : List (Item s)) × (rs ≡ map (row_at s) xs)
items_of s [] of = ([], refl)
items_of s (r ∷ rs) of =
    let a = item_of s r of.0 in
    let more = items_of s rs of.1 in
    (a.0 ∷ more.0, ap (λ (x : Row). x ∷ rs) a.1 ∙ ap (λ (xs : List Row). row_at s a.0 ∷ xs) more.1)

-- a section
section_there : (h : Head) (s : Section) (next : ℕ → Taken → List (List ℕ) → Told) (P : Told → Type 0) (more : List (List ℕ)) (k : ℕ) (t : Taken) (ls : List (List ℕ)) (rs : List Row) → Of s rs → AllRight h t ls rs → ((k : ℕ) → P (next k (takes h.form t rs) more)) → P (read_section h s (length rs) k t (ls ++ more) next)
unfolding read_section
section_there h s next P more k t [] [] of right p = p k
section_there h s next P more k t [] (r ∷ rs) of right p = absurd right
section_there h s next P more k t (l ∷ ls) [] of right p = absurd right
section_there h s next P more k t (l ∷ ls) (r ∷ rs) of right p =
    let e : add_line h t s (bare l) ≡ Ok (step h.form t r) = ap (λ (z : Section). add_line h t z (bare l)) (sym of.0) ∙ right_reads h t l r right.0 in
    subst (λ (o : Result Taken AigCode). P (then_line o t k (λ u. read_section h s (length rs) (k + 1) u (ls ++ more) next))) (sym e) (section_there h s next P more (k + 1) (step h.form t r) ls rs of.1 right.1 p)

record Went (h : Head) (s : Section) (next : ℕ → Taken → List (List ℕ) → Told) (v : Aig) (n : ℕ) (t : Taken) (ls : List (List ℕ)) : Type 0 where
  said : List (List ℕ)
  more : List (List ℕ)
  rows : List Row
  line : ℕ
  split : said ++ more ≡ ls
  right : AllRight h t said rows
  of : Of s rows
  count : length rows ≡ n
  read : (next line (takes h.form t rows) more).read ≡ Ok v

section_back : (h : Head) (s : Section) (next : ℕ → Taken → List (List ℕ) → Told) (v : Aig) (n k : ℕ) (t : Taken) (ls : List (List ℕ)) → (read_section h s n k t ls next).read ≡ Ok v → Went h s next v n t ls
unfolding read_section
section_back h s next v zero k t ls e = record { said = []; more = ls; rows = []; line = k; split = refl; right = tt; of = tt; count = refl; read = e }
section_back h s next v (suc n) k t [] e = absurd cc
section_back h s next v (suc n) k t (l ∷ ls) e = by_result (add_line h t s (bare l)) refl (λ u q. section_back h s next v n (k + 1) u ls q) e where
  one_more : (u : Taken) → IsRight h t s l u → Went h s next v n u ls → Went h s next v (suc n) t (l ∷ ls)
  one_more u is w =
      let x : Went h s next v n (step h.form t is.0) ls = subst (λ (z : Taken). Went h s next v n z ls) is.3 w in
      record {
        said = l ∷ x.said;
        more = x.more;
        rows = is.0 ∷ x.rows;
        line = x.line;
        split = ap (λ (xs : List (List ℕ)). l ∷ xs) x.split;
        right = (is.1, x.right);
        of = (is.2, x.of);
        count = ap suc x.count;
        read = x.read;
      }

  by_result : (r : Result Taken AigCode) → add_line h t s (bare l) ≡ r → ((u : Taken) → (read_section h s n (k + 1) u ls next).read ≡ Ok v → Went h s next v n u ls) → (then_line r t k (λ u. read_section h s n (k + 1) u ls next)).read ≡ Ok v → Went h s next v (suc n) t (l ∷ ls)
  by_result (Ok u) is ih e = one_more u (line_right h t u s l is) (ih u e)
  by_result (Err c) is ih e = absurd cc

-- rows one after another
abbrev Parted : Head → Taken → List (List ℕ) → List Row → List Row → Type 0
Parted h t ls rs qs = (said : List (List ℕ)) × (more : List (List ℕ)) × (ls ≡ said ++ more) × AllRight h t said rs × AllRight h (takes h.form t rs) more qs

part : (h : Head) (t : Taken) (ls : List (List ℕ)) (rs qs : List Row) → AllRight h t ls (rs ++ qs) → Parted h t ls rs qs
part h t ls [] qs right = ([], ls, refl, tt, right)
part h t [] (r ∷ rs) qs right = absurd right
part h t (l ∷ ls) (r ∷ rs) qs right =
    let p = part h (step h.form t r) ls rs qs right.1 in
    (l ∷ p.0, p.1, ap (λ (xs : List (List ℕ)). l ∷ xs) p.2, (right.0, p.3), p.4)

join : (h : Head) (t : Taken) (said more : List (List ℕ)) (rs qs : List Row) → AllRight h t said rs → AllRight h (takes h.form t rs) more qs → AllRight h t (said ++ more) (rs ++ qs)
join h t [] more [] qs a b = b
join h t [] more (r ∷ rs) qs a b = absurd a
join h t (l ∷ said) more [] qs a b = absurd a
join h t (l ∷ said) more (r ∷ rs) qs a b = (a.0, join h (step h.form t r) said more rs qs a.1 b)

no_rows : (h : Head) (t : Taken) (ls : List (List ℕ)) → AllRight h t ls [] → ls ≡ []
no_rows h t [] right = refl
no_rows h t (l ∷ ls) right = absurd right

-- sections, one after another
pub sections_there : (h : Head) (P : Told → Type 0) (tail : List (List ℕ)) (ss : List Section) (k : ℕ) (t : Taken) (body : List (List ℕ)) (L : Lists ss) → News ss t → Counts h ss t L → AllRight h t body (rows_by ss L)
    → ((k : ℕ) → P (after_sections h.form h k (state_by h.form ss t L) tail)) → P (read_sections h ss k t (body ++ tail))
unfolding read_sections
sections_there h P tail [] k t body L new counts right p = subst (λ (xs : List (List ℕ)). P (after_sections h.form h k t (xs ++ tail))) (sym (no_rows h t body right)) (p k)
sections_there h P tail (s ∷ ss) k t body L new counts right p =
    let q = part h t body (map (row_at s) L.0) (rows_by ss L.1) right in
    let next = λ (k : ℕ) (u : Taken) (more : List (List ℕ)). read_sections h ss k u more in
    let stands : takes h.form t (map (row_at s) L.0) ≡ after h.form s t L.0 = section_takes h.form s t L.0 new.0 in
    let all : body ++ tail ≡ q.0 ++ (q.1 ++ tail) = ap (λ (xs : List (List ℕ)). xs ++ tail) q.2 ∙ append_assoc q.0 q.1 tail in
    let count : length (map (row_at s) L.0) ≡ left_in h t s = length-map L.0 (row_at s) ∙ counts.0 in
    let rest : (k : ℕ) → P (read_sections h ss k (after h.form s t L.0) (q.1 ++ tail)) = λ k.
    sections_there h P tail ss k (after h.form s t L.0) q.1 L.1 (new.1 L.0 (marks_all h.form (map (row_at s) L.0) t.marks)) counts.1 (subst (λ (u : Taken). AllRight h u q.1 (rows_by ss L.1)) stands q.4) p in
    subst (λ (n : ℕ). P (read_section h s n k t (body ++ tail) next)) count (subst (λ (xs : List (List ℕ)). P (read_section h s (length (map (row_at s) L.0)) k t xs next)) (sym all)
    (section_there h s next P (q.1 ++ tail) k t q.0 (map (row_at s) L.0) (all_of s L.0) q.3 (λ k. subst (λ (u : Taken). P (read_sections h ss k u (q.1 ++ tail))) (sym stands) (rest k))))

pub record Gone (h : Head) (ss : List Section) (v : Aig) (t : Taken) (ls : List (List ℕ)) : Type 0 where
  pub lists : Lists ss
  pub body : List (List ℕ)
  pub tail : List (List ℕ)
  pub line : ℕ
  pub split : body ++ tail ≡ ls
  pub right : AllRight h t body (rows_by ss lists)
  pub counts : Counts h ss t lists
  pub read : (after_sections h.form h line (state_by h.form ss t lists) tail).read ≡ Ok v

pub sections_back : (h : Head) (v : Aig) (ss : List Section) (k : ℕ) (t : Taken) (ls : List (List ℕ)) → News ss t → (read_sections h ss k t ls).read ≡ Ok v → Gone h ss v t ls
unfolding read_sections
sections_back h v [] k t ls new e = record { lists = tt; body = []; tail = ls; line = k; split = refl; right = tt; counts = tt; read = e }
sections_back h v (s ∷ ss) k t ls new e =
    let next = λ (k : ℕ) (u : Taken) (more : List (List ℕ)). read_sections h ss k u more in
    let w = section_back h s next v (left_in h t s) k t ls e in
    let xs = items_of s w.rows w.of in
    let stands : takes h.form t w.rows ≡ after h.form s t xs.0 = ap (takes h.form t) xs.1 ∙ section_takes h.form s t xs.0 new.0 in
    let read : (read_sections h ss w.line (after h.form s t xs.0) w.more).read ≡ Ok v = subst (λ (u : Taken). (read_sections h ss w.line u w.more).read ≡ Ok v) stands w.read in
    let g = sections_back h v ss w.line (after h.form s t xs.0) w.more (new.1 xs.0 (marks_all h.form (map (row_at s) xs.0) t.marks)) read in
    let front : AllRight h t w.said (map (row_at s) xs.0) = subst (AllRight h t w.said) xs.1 w.right in
    let behind : AllRight h (takes h.form t (map (row_at s) xs.0)) g.body (rows_by ss g.lists) = subst (λ (u : Taken). AllRight h u g.body (rows_by ss g.lists)) (sym (section_takes h.form s t xs.0 new.0)) g.right in
    record {
      lists = (xs.0, g.lists);
      body = w.said ++ g.body;
      tail = g.tail;
      line = g.line;
      split = append_assoc w.said g.body g.tail ∙ ap (λ (ys : List (List ℕ)). w.said ++ ys) g.split ∙ w.split;
      right = join h t w.said g.body (map (row_at s) xs.0) (rows_by ss g.lists) front behind;
      counts = (sym (length-map xs.0 (row_at s)) ∙ ap length (sym xs.1) ∙ w.count, g.counts);
      read = g.read;
    }
