-- What a reader answers at the end of its input, and the laws of its answers.
use Rattle.std.proofs.Common.{subst, ◌≡◌, ℕ, ◌≤◌, max, List, [], ◌∷◌, Result, Ok, Err, ◌⊎◌, inl, inr, sym, ◌∙◌, refl, ap, arith, ◌/◌}
use Rattle.std.specs.List.{AllByRecursion}
use Rattle.gi_dimacs.specs.declared.fault.CnfFault.{CnfFault}
use Rattle.gi_dimacs.specs.declared.cnf.Cnf.{Cnf}
use Rattle.gi_dimacs.specs.declared.cnf.Icnf.{Icnf}
use Rattle.gi_dimacs.specs.declared.items.Item.{Item}
use Rattle.gi_dimacs.specs.declared.items.Item.TheVariants.{Clause, Ask}
use Rattle.gi_dimacs.specs.declared.content.Format.{Format}
use Rattle.gi_dimacs.specs.declared.content.Format.TheVariants as formats
use Rattle.gi_dimacs.specs.declared.content.Content.{Content}
use Rattle.gi_dimacs.specs.declared.content.Content.TheVariants.{Clauses, Items}
use Rattle.gi_dimacs.specs.Content.{File, format_of, items_of, greatest, greatest_of}
use Rattle.gi_dimacs.specs.Files.{read_file, header_words}
use Rattle.gi_dimacs.specs.Relation.{IsFile, IsCnf, IsIcnf, IsProper, line_words}
use Rattle.gi_dimacs.specs.Answers.{HasNone, IsFault}
use Rattle.gi_dimacs.specs.Texts.{IsGoodFile, IsGood, IsGoodIcnf, IsItemOf, IsLiteralOf, HasVars, cnf_file, icnf_file, cnf_text, icnf_text}
use Rattle.gi_dimacs.specs.Laws.{OneAnswer, HasValue, HasFault, FaultsStand, GoodValues}
use Rattle.gi_dimacs.proofs.Relating.{is_file}
use Rattle.gi_dimacs.proofs.Accepting.{file_is_read, header_small, icnf_declares}
use Rattle.gi_dimacs.proofs.Standing.{fault_stands}
use Rattle.gi_dimacs.proofs.Texts as texts

-- a value of a format is what is read
reads : (g : Format) (bytes : List ℕ) (v : File) → format_of v.content ≡ g → IsFile v bytes → read_file g bytes ≡ Ok v
reads g bytes v of_format is = ap (λ h. read_file h bytes) (sym of_format) ∙ file_is_read v bytes is

has_none : (g : Format) (bytes : List ℕ) (f : CnfFault) → read_file g bytes ≡ Err f → HasNone g bytes
has_none g bytes f e = λ v of_format is. no_both (reads g bytes v of_format is) where
  no_both : {v : File} → read_file g bytes ≡ Ok v → ⊥
  no_both r = cc

-- a fault leaves no value, and stands
pub is_fault : (g : Format) (bytes : List ℕ) (f : CnfFault) → read_file g bytes ≡ Err f → IsFault g f bytes
is_fault g bytes f e = record {
  first = e;
  none = has_none g bytes f e;
  stands = λ within more. has_none g _ f (fault_stands g bytes more f e within);
}

same_value : (g : Format) (bytes : List ℕ) (v w : File) → read_file g bytes ≡ Ok v → read_file g bytes ≡ Ok w → w ≡ v
same_value g bytes v w a b = cc

same_fault : (g : Format) (bytes : List ℕ) (f h : CnfFault) → read_file g bytes ≡ Err f → read_file g bytes ≡ Err h → h ≡ f
same_fault g bytes f h a b = cc

pub one_answer : OneAnswer
one_answer g bytes = by_result (read_file g bytes) refl where
  by_result : (r : Result File CnfFault) → read_file g bytes ≡ r → HasValue g bytes ⊎ HasFault g bytes
  by_result (Ok v) e =
      let r = is_file g bytes v e in
      inl (record { value = v; of_format = r.of_format; stands = r.stands; only = λ w of_format is. same_value g bytes v w e (reads g bytes w of_format is); no_fault = λ f b. b.none v r.of_format r.stands })
  by_result (Err f) e = inr (record { fault = f; stands = is_fault g bytes f e; only = λ h b. same_fault g bytes f h e b.first; no_value = has_none g bytes f e })

pub faults_stand : FaultsStand
faults_stand g bytes more f is within = is_fault g _ f (fault_stands g bytes more f is.first within)

-- what has bytes is good
lits_within : (vars : ℕ) (c : List ℕ) → AllByRecursion (λ l. 1 ≤ l / 2) c → greatest c ≤ vars → AllByRecursion (IsLiteralOf vars) c
lits_within vars [] proper high = tt
lits_within vars (l ∷ c) proper high = ((proper.0, omega arith), lits_within vars c proper.1 (omega arith))

items_within : (vars : ℕ) (is : List Item) → AllByRecursion IsProper is → greatest_of is ≤ vars → AllByRecursion (IsItemOf vars) is
items_within vars [] proper high = tt
items_within vars (Clause c ∷ is) proper high = (lits_within vars c proper.0 (omega arith), items_within vars is proper.1 (omega arith))
items_within vars (Ask c ∷ is) proper high = ((lits_within vars c proper.0.0 (omega arith), proper.0.1), items_within vars is proper.1 (omega arith))

has_vars : (k : Content) (ws : List (List ℕ)) (d n : ℕ) → header_words (format_of k) ws ≡ Ok d → n ≡ max d (greatest_of (items_of k)) → HasVars n k
has_vars (Clauses cs) ws d n header vars = tt
has_vars (Items is) ws d n header vars = let none = icnf_declares ws d header in omega arith

is_good : (v : File) (bytes : List ℕ) → IsFile v bytes → IsGoodFile v
is_good v bytes is = let small = header_small (format_of v.content) (line_words is.head) is.declared is.header in record {
  vars = omega (arith, is.vars, is.small);
  items = items_within v.vars (items_of v.content) is.proper (omega (arith, is.vars));
  used = has_vars v.content (line_words is.head) is.declared v.vars is.header is.vars;
  clauses = is.clauses;
  literals = is.literals;
}

pub good_values : GoodValues
good_values = record { have_text = texts.text_is_cnf; only = λ v bytes is. is_good (cnf_file v) bytes is; have_icnf_text = texts.text_is_icnf; only_icnf = λ v bytes is. is_good (icnf_file v) bytes is }

-- what is read from a text has that text
pub cnf_again : (v w : Cnf) → IsGood v → IsCnf w (cnf_text v) → cnf_text w ≡ cnf_text v
cnf_again v w good is =
    let same : cnf_file w ≡ cnf_file v = same_value formats.Cnf (cnf_text v) (cnf_file v) (cnf_file w) (file_is_read (cnf_file v) (cnf_text v) (texts.text_is_cnf v good)) (file_is_read (cnf_file w) (cnf_text v) is) in
    ap cnf_text (same_cnf v w same) where
      same_cnf : (v w : Cnf) → cnf_file w ≡ cnf_file v → w ≡ v
      same_cnf v w e = let vars : w.vars ≡ v.vars = ap (λ (f : File). f.vars) e in let clauses : w.clauses ≡ v.clauses = clauses_same w.clauses v.clauses (ap (λ (f : File). f.content) e) in rw (vars, clauses) refl where
        clauses_same : (cs ds : List (List ℕ)) → Clauses cs ≡ Clauses ds → cs ≡ ds
        clauses_same cs ds e = cc

pub icnf_again : (v w : Icnf) → IsGoodIcnf v → IsIcnf w (icnf_text v) → icnf_text w ≡ icnf_text v
icnf_again v w good is =
    let same : icnf_file w ≡ icnf_file v = same_value formats.Icnf (icnf_text v) (icnf_file v) (icnf_file w) (file_is_read (icnf_file v) (icnf_text v) (texts.text_is_icnf v good)) (file_is_read (icnf_file w) (icnf_text v) is) in
    ap icnf_text (same_icnf v w same) where
      same_icnf : (v w : Icnf) → icnf_file w ≡ icnf_file v → w ≡ v
      same_icnf v w e = let vars : w.vars ≡ v.vars = ap (λ (f : File). f.vars) e in let items : w.items ≡ v.items = items_same w.items v.items (ap (λ (f : File). f.content) e) in rw (vars, items) refl where
        items_same : (cs ds : List Item) → Items cs ≡ Items ds → cs ≡ ds
        items_same cs ds e = cc

-- what a reader was told, as a value of its format
pub told_value : {V : Type 0} (g : Format) (bytes : List ℕ) (file : V → File) (v : V) (told : File) → file v ≡ told → read_file g bytes ≡ Ok told → IsFile (file v) bytes
told_value g bytes file v told is e = subst (λ f. IsFile f bytes) (sym is) (is_file g bytes told e).stands
