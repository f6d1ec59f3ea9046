-- At first every garment fits, and every place of an inhabited type has a candidate or an atom.
use Rattle.std.proofs.Common.{◌≡◌, ℕ, true, [], ℤ, Some, sym, refl, ap, ◌∙◌}
use Rattle.std.specs.List.{slice_get}
use Rattle.std.proofs.lemmas.Bool.{and_from}
use Rattle.measure.specs.Measure.{Measure, Lawful}
use Rattle.rules.specs.declared.rows.TypeRow.TheVariants.{Choice, Measured}
use Rattle.rules.specs.Book.{Schema, fields_of}
use Rattle.rules.specs.Garments.{Value, built, measured, Place, place_type, OfType}
use Rattle.theory.specs.Inhabited.{makes, makers, inhabited_by, inhabited}
use Rattle.theory.specs.Knowledge.{candidate, allowed}
use Rattle.theory.specs.Theorems.{StartFitsAll}
use Rattle.theory.proofs.Atoms.{any_to}
use Rattle.theory.proofs.Inhabiting.{types_found, type_filled}
use Rattle.theory.proofs.Candidates.{candidate_from}
use Rattle.rules.proofs.Facts.{choice≢measured}

module _ (m : Measure) (d : Schema) (law : Lawful m) where
  some_candidate : (p : Place) (t : ℕ) → place_type d p ≡ Some t → inhabited m d t ≡ true → slice_get d.types t ≡ Some Choice → (c : ℕ) × (candidate m d [] p c ≡ true)
  some_candidate p t placed h row = let v = type_filled m d law t h in go v.0 v.1
    where
      go : (v : Value) → OfType m d t v → (c : ℕ) × (candidate m d [] p c ≡ true)
      go (built c vs) w =
          (c, candidate_from m d [] p c record { type = t; placed = placed; choice = row; owner = w.1; fields = types_found m d law vs (fields_of d c) w.2; agrees = refl })
      go (measured s a) w = absurd (choice≢measured s (sym row ∙ w.0))

  some_atom : (p : Place) (t s : ℕ) → inhabited m d t ≡ true → slice_get d.types t ≡ Some (Measured s) → (a : ℤ) × (allowed m [] p s a ≡ true)
  some_atom p t s h row =
      let r = any_to (m.atom s) (sym (ap (inhabited_by m (makes d (makers m d) t)) row) ∙ h) in
      (r.0, and_from (m.atom s r.0) true r.1 refl)

pub start_fits_all : StartFitsAll
start_fits_all = record {
  all = λ m d v rule w. record { typed = w; holds = tt };
  good = λ m d law. record { heads = some_candidate m d law; atoms = λ p t s e h row. some_atom m d law p t s h row; asked = tt; heard_all = tt };
}
