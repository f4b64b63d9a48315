use Rattle.std.proofs.Common.{◌≡◌, Some, None, Ok, Err, Result, sym, ◌∙◌, decimal, ℕ, List, subst}
use Rattle.std.specs.Str.{IsUtf8}
use Rattle.std.proofs.lemmas.Fmt.{parse-decimal, IsAscii-decimal}
use Rattle.std.proofs.lemmas.Str.{IsUtf8-from_ascii}
use Rattle.gi_text.proofs.digits.parse.Goals as goal

some_of : {E : Type 0} (r : Result ℕ E) (m n : ℕ) → r ≡ Ok m → r ≡ Ok n → Some m ≡ Some n
some_of r m n d e = cc

no_error : {E : Type 0} (r : Result ℕ E) (x : E) (n : ℕ) → r ≡ Err x → r ≡ Ok n → None ≡ Some n
no_error r x n d e = cc

pub returns-in-Ok-parse : goal.returns-in-Ok-parse
returns-in-Ok-parse c = λ n small e.
    some_of c.parse.result c.in-Ok-parse.n n c.in-Ok-parse.is (parse-decimal 64 n c.in-Ok.text.now c.parse.result small small (c.in-Ok.ensures.cases.0 ∙ e) c.parse.ensures.value.0)

pub returns-in-Err-parse : goal.returns-in-Err-parse
returns-in-Err-parse c = λ n small e.
    no_error c.parse.result c.in-Err-parse.field-0 n c.in-Err-parse.is (parse-decimal 64 n c.in-Ok.text.now c.parse.result small small (c.in-Ok.ensures.cases.0 ∙ e) c.parse.ensures.value.0)

pub returns-in-Err : goal.returns-in-Err
returns-in-Err c = λ n small e. absurd (c.in-Err.ensures.cases.0 (subst (λ (xs : List ℕ). IsUtf8 xs) (sym e) (IsUtf8-from_ascii (decimal n) (IsAscii-decimal n small))))
