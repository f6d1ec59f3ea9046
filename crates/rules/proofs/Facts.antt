-- Small facts on types and on numbers that may be missing.
use Rattle.std.proofs.Common.{◌≡◌, ℕ, true, Some, None, Option, sym, refl, ap, ◌∙◌}
use Rattle.std.proofs.lemmas.Bool.{false≢true, eqb-true, eq-eqb}
use Rattle.rules.specs.declared.rows.TypeRow.{TypeRow}
use Rattle.rules.specs.declared.rows.TypeRow.TheVariants.{Choice, Measured}
use Rattle.rules.specs.Book.{is_choice}
use Rattle.rules.specs.Garments.{is_some_number}

pub choice≢measured : (s : ℕ) → Some Choice ≡ Some (Measured s) → ⊥
choice≢measured s e = false≢true (ap is_choice (sym e))

pub choice_from_test : (o : Option TypeRow) → is_choice o ≡ true → o ≡ Some Choice
choice_from_test None e = absurd (false≢true e)
choice_from_test (Some Choice) e = refl
choice_from_test (Some (Measured s)) e = absurd (false≢true e)

pub number_from_test : (o : Option ℕ) (n : ℕ) → is_some_number o n ≡ true → o ≡ Some n
number_from_test None n e = absurd (false≢true e)
number_from_test (Some k) n e = ap Some (eqb-true k n e)

pub test_from_number : (o : Option ℕ) (n : ℕ) → o ≡ Some n → is_some_number o n ≡ true
test_from_number o n e = ap (λ x. is_some_number x n) e ∙ eq-eqb n n refl
