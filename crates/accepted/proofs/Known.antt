-- What known numbers name in a list and in the list of the meanings of its rows.
use Rattle.std.proofs.Common.{◌≡◌, ℕ, ◌<◌, false, not, eqb, List, [], ◌∷◌, length, get_or, ℤ, pos, negsuc, is_some, Some, None, Option, sym, ap, ◌∙◌, subst, ⊎_elim, arith}
use Rattle.std.specs.List.{AllByRecursion}
use Rattle.std.proofs.lemmas.Option.{slice_get_past, none-some, same_Some, slice_get-get_or}
use Rattle.std.proofs.lemmas.Bool.{true≢false, cases_lt, eqb-true, not-false}
use Rattle.rules.specs.Tables.{natural, named}
use Rattle.rules.specs.Garments.{last}
use Rattle.rules.specs.Grounds.{unknown, differ}

module _ {A : Type 0} where
  -- a known number is below the length
  pub known_under : (xs : List A) (z : ℤ) → unknown xs z ≡ false → natural z < length xs
  known_under xs (pos n) h =
      ⊎_elim (λ l. l) (λ l. absurd (true≢false (sym (ap (λ (o : Option A). not (is_some o)) (slice_get_past xs n l)) ∙ h))) (cases_lt n (length xs))
  known_under xs (negsuc n) h = absurd (true≢false h)

  pub All-last : (P : A → Type 0) (xs : List A) (x : A) → AllByRecursion P xs → last xs ≡ Some x → P x
  All-last P [] x a h = absurd (none-some x h)
  All-last P (y ∷ []) x a h = subst P (same_Some y x h) a.0
  All-last P (y ∷ (z ∷ xs)) x a h = All-last P (z ∷ xs) x a.1 h

-- the meaning of a row that a known number names
pub named_meaning : {R A : Type 0} (rows : List R) (xs : List A) (z : ℤ) (d : A) → length xs ≡ length rows → unknown rows z ≡ false → named xs z ≡ Some (get_or xs (natural z) d)
named_meaning rows xs (pos n) d e h = let l = known_under rows (pos n) h in slice_get-get_or xs n d (omega arith)
named_meaning rows xs (negsuc n) d e h = absurd (true≢false h)

-- known types that do not differ are the same
pub not_different : (o u : Option ℕ) (a b : ℕ) → o ≡ Some a → u ≡ Some b → differ o u ≡ false → a ≡ b
not_different None u a b e f h = absurd (none-some a e)
not_different (Some x) None a b e f h = absurd (none-some b f)
not_different (Some x) (Some y) a b e f h =
    sym (same_Some x a e) ∙ eqb-true x y (not-false (eqb x y) h) ∙ same_Some y b f
