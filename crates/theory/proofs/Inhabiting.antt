-- The inhabited types are just those that have values.
use Rattle.std.proofs.Common.{◌≡◌, ℕ, zero, suc, Bool, true, false, ◌⊎◌, List, [], ◌∷◌, Some, None, Option, refl, ap, ◌∙◌, subst, inl, inr}
use Rattle.std.specs.List.{slice_get}
use Rattle.std.proofs.lemmas.Bool.{false≢true, and_parts, and_from, or_cases}
use Rattle.measure.specs.Measure.{Measure, Lawful}
use Rattle.rules.specs.declared.rows.TypeRow.{TypeRow}
use Rattle.rules.specs.declared.rows.TypeRow.TheVariants.{Choice, Measured}
use Rattle.rules.specs.Book.{Schema, fields_of, owner_of}
use Rattle.rules.specs.Garments.{Value, Values, built, measured, no_values, with_value, is_some_number, OfType, OfTypes}
use Rattle.theory.specs.Inhabited.{makes, inhabited_by, inhabited_with, all_of, makers, inhabited}
use Rattle.theory.specs.Theorems.{InhabitedExactly}
use Rattle.theory.proofs.Atoms.{any_from, any_to}
use Rattle.theory.proofs.Making.{Made, makers-Made, inhabited_choice}
use Rattle.theory.proofs.Parts.{values_for}
use Rattle.std.proofs.lemmas.Option.{none-some, same_Some}
use Rattle.rules.proofs.Facts.{number_from_test}

-- each type of a list passes that all pass
pub all_at : (passing : ℕ → Bool) (ts : List ℕ) → all_of passing ts ≡ true → (i t : ℕ) → slice_get ts i ≡ Some t → passing t ≡ true
all_at passing [] h i t e = absurd (none-some t e)
all_at passing (u ∷ ts) h zero t e = subst (λ x. passing x ≡ true) (same_Some u t e) (and_parts (passing u) (all_of passing ts) h).0
all_at passing (u ∷ ts) h (suc i) t e = all_at passing ts (and_parts (passing u) (all_of passing ts) h).1 i t e

module _ (m : Measure) (d : Schema) (law : Lawful m) where
  -- ── every type that has a value is found ──

  mutual
    pub type_found : (v : Value) (t : ℕ) → OfType m d t v → inhabited m d t ≡ true
    type_found (built c vs) t w = inhabited_choice m d c t w.1 w.0 (types_found vs (fields_of d c) w.2)
    type_found (measured s a) t w =
        ap (inhabited_by m (makes d (makers m d) t)) w.0 ∙ any_from (m.atom s) a (law.atom_fits s a w.1) w.1

    pub types_found : (vs : Values) (ts : List ℕ) → OfTypes m d ts vs → all_of (inhabited m d) ts ≡ true
    types_found no_values [] w = refl
    types_found no_values (t ∷ ts) w = absurd w
    types_found (with_value v vs) [] w = absurd w
    types_found (with_value v vs) (t ∷ ts) w = and_from (inhabited m d t) (all_of (inhabited m d) ts) (type_found v t w.0) (types_found vs ts w.1)

  -- ── every type that is found has a value ──

  abbrev Filled : ℕ → Type 0
  Filled t = (v : Value) × OfType m d t v

  filled_from : (c t : ℕ) (passing : ℕ → Bool) → slice_get d.types t ≡ Some Choice → owner_of d c ≡ Some t
      → all_of passing (fields_of d c) ≡ true → ((u : ℕ) → passing u ≡ true → Filled u) → Filled t
  filled_from c t passing row owner fields rest =
      let vs = values_for m d (λ i v. Unit {0}) (fields_of d c) (λ i u e. let v = rest u (all_at passing (fields_of d c) fields i u e) in (v.0, (v.1, tt))) in
      (built c vs.0, (row, owner, vs.1.0))

  Filled-with : (cs : List ℕ) → Made m d cs → (t : ℕ) → inhabited_with m d cs t ≡ true → Filled t
  Filled-with [] h t e = go (slice_get d.types t) refl e
    where
      go : (o : Option TypeRow) → slice_get d.types t ≡ o → inhabited_by m false o ≡ true → Filled t
      go None row e = absurd (false≢true e)
      go (Some Choice) row e = absurd (false≢true e)
      go (Some (Measured s)) row e = let a = any_to (m.atom s) e in (measured s a.0, (row, a.1))
  Filled-with (c ∷ cs) h t e = go (slice_get d.types t) refl e (Filled-with cs h.1.1)
    where
      by_maker : slice_get d.types t ≡ Some Choice → ((u : ℕ) → inhabited_with m d cs u ≡ true → Filled u)
          → (is_some_number (owner_of d c) t ≡ true) ⊎ (makes d cs t ≡ true) → Filled t
      by_maker row rest (inl own) = filled_from c t (inhabited_with m d cs) row (number_from_test (owner_of d c) t own) h.1.0 rest
      by_maker row rest (inr other) = rest t (ap (inhabited_by m (makes d cs t)) row ∙ other)

      go : (o : Option TypeRow) → slice_get d.types t ≡ o → inhabited_by m (makes d (c ∷ cs) t) o ≡ true → ((u : ℕ) → inhabited_with m d cs u ≡ true → Filled u) → Filled t
      go None row e rest = absurd (false≢true e)
      go (Some Choice) row e rest = by_maker row rest (or_cases (is_some_number (owner_of d c) t) (makes d cs t) e)
      go (Some (Measured s)) row e rest = let a = any_to (m.atom s) e in (measured s a.0, (row, a.1))

  pub type_filled : (t : ℕ) → inhabited m d t ≡ true → (v : Value) × OfType m d t v
  type_filled t e = Filled-with (makers m d) (makers-Made m d) t e

pub inhabited_exactly : InhabitedExactly
inhabited_exactly = record { found = λ m d t v law w. type_found m d law v t w; filled = λ m d t law e. type_filled m d law t e }
