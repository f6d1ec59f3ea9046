-- Entries that fit mean values of their types.
use Rattle.std.proofs.Common.{◌≡◌, ℕ, ◌≤◌, Bool, true, ◌&&◌, leb, List, [], length, take, drop, ℤ, Some, sym, refl, ap, ◌∙◌, subst}
use Rattle.std.proofs.lemmas.Bool.{and_from, le-leb}
use Rattle.std.specs.List.{slice_get}
use Rattle.measure.specs.Measure.{Measure}
use Rattle.rules.specs.declared.rows.TypeRow.TheVariants.{Choice, Measured}
use Rattle.rules.specs.declared.rows.GarmentEntry.{GarmentEntry}
use Rattle.rules.specs.Book.{Schema, fields_of, owner_of, sort_of, sort_in, is_choice}
use Rattle.rules.specs.Garments.{built, measured, no_values, OfType, children, measured_by, entry_value, entry_values, is_some_number, all_zero, type_number_in, children_fit, is_atom, entry_fits, entries_fit}
use Rattle.shown.specs.ShownGarment.{four_of, built_entry, measured_entry}
use Rattle.shown.proofs.EntryLists.{four_front, four_rest, value_at}
use Rattle.rules.proofs.Facts.{test_from_number}
use Rattle.rules.proofs.WellTyped.{Fitted-at, entries_typed}

module _ (m : Measure) (d : Schema) where
  pub value_typed : (es : List GarmentEntry) → entries_fit m d [] es ≡ true → (n t : ℕ) → type_number_in (slice_get es n) ≡ Some t → OfType m d t (value_at d es n)
  value_typed es f n t e = Fitted-at m d es (entry_values d es) n t (built 0 no_values) (entries_typed m d [] [] es tt f) e

  -- ── entries that fit ──

  pub built_fits_lem : (es : List GarmentEntry) (t c : ℕ) (ns : List ℕ) → slice_get d.types t ≡ Some Choice → owner_of d c ≡ Some t → children_fit es ns (fields_of d c) ≡ true → length ns ≤ 4 → entry_fits m d es (built_entry t c ns) ≡ true
  built_fits_lem es t c ns row owner kids short =
      let last_two : Bool = leb (length ns) 4 && all_zero (drop (length ns) (four_of ns)) in
      let front : Bool = children_fit es (take (length ns) (four_of ns)) (fields_of d c) in
      and_from (is_choice (slice_get d.types t)) (is_some_number (owner_of d c) t && (front && last_two)) (ap is_choice row)
      (and_from (is_some_number (owner_of d c) t) (front && last_two) (test_from_number (owner_of d c) t owner)
      (and_from front last_two (subst (λ (l : List ℕ). children_fit es l (fields_of d c) ≡ true) (sym (four_front ns short)) kids)
      (and_from (leb (length ns) 4) (all_zero (drop (length ns) (four_of ns))) (le-leb (length ns) 4 short) (four_rest ns short))))

  pub measured_fits_lem : (es : List GarmentEntry) (t s : ℕ) (a : ℤ) → slice_get d.types t ≡ Some (Measured s) → m.atom s a ≡ true → entry_fits m d es (measured_entry t a) ≡ true
  measured_fits_lem es t s a row h = and_from (is_atom m (sort_of d t) a) true (ap (λ o. is_atom m (sort_in o) a) row ∙ h) refl

  pub built_value : (es : List GarmentEntry) (t c : ℕ) (ns : List ℕ) → length ns ≤ 4 → entry_value d (entry_values d es) (built_entry t c ns) ≡ built c (children (entry_values d es) ns)
  built_value es t c ns short = ap (λ (l : List ℕ). built c (children (entry_values d es) l)) (four_front ns short)

  pub measured_value : (es : List GarmentEntry) (t s : ℕ) (a : ℤ) → slice_get d.types t ≡ Some (Measured s) → entry_value d (entry_values d es) (measured_entry t a) ≡ measured s a
  measured_value es t s a row = ap (λ o. measured_by (sort_in o) a) row
