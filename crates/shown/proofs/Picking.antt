-- Good knowledge leaves an atom to pick at every place, and every inhabited sort has an atom.
use Rattle.std.proofs.Common.{◌≡◌, ℕ, Bool, true, false, List, ℤ, pos, Some, None, Option, sym, refl, ap, ◌∙◌, subst, ⊎_elim}
use Rattle.std.proofs.lemmas.Bool.{both_ways}
use Rattle.std.specs.List.{slice_get}
use Rattle.measure.specs.Measure.{Measure}
use Rattle.rules.specs.declared.rows.TypeRow.TheVariants.{Measured}
use Rattle.rules.specs.Book.{Schema, sort_of, sort_in}
use Rattle.rules.specs.Garments.{Place, place_type}
use Rattle.theory.specs.Inhabited.{any_atom, makes, makers, inhabited_by, inhabited}
use Rattle.theory.specs.Knowledge.{Knowledge, allowed, Good}
use Rattle.shown.specs.ShownGarment.{Picks}
use Rattle.shown.proofs.PlaceEntries.{choice_or_sort}
use Rattle.std.proofs.lemmas.Option.{none-some, same_Some}
use Rattle.theory.proofs.Atoms.{any_to}

module _ (m : Measure) (d : Schema) (k : Knowledge) (good : Good m d k) where
  abbrev Chosen : Place → ℕ → Type 0
  Chosen p s = (a : ℤ) × ((t : ℕ) → place_type d p ≡ Some t → inhabited m d t ≡ true → slice_get d.types t ≡ Some (Measured s) → allowed m k p s a ≡ true)

  Chosen-typed : (p : Place) (s t : ℕ) → place_type d p ≡ Some t → Chosen p s
  Chosen-typed p s t r = go (inhabited m d t) refl
    where
      go : (b : Bool) → inhabited m d t ≡ b → Chosen p s
      go false l = (pos 0, λ u q h row. absurd (both_ways (inhabited m d t) l (subst (λ x. inhabited m d x ≡ true) (same_Some u t (sym q ∙ r)) h)))
      go true l = ⊎_elim
          (λ choice. (pos 0, λ u q h row. absurd (none-some s (sym (ap sort_in choice) ∙ ap (sort_of d) (same_Some t u (sym r ∙ q)) ∙ ap sort_in row))))
          (λ x. let a = good.atoms p t x.0 r l x.1 in (
            a.0,
            λ u q h row. subst (λ z. allowed m k p z a.0 ≡ true) (same_Some x.0 s (sym (ap sort_in x.1) ∙ ap (sort_of d) (same_Some t u (sym r ∙ q)) ∙ ap sort_in row)) a.1,
          ))
          (choice_or_sort m d t l)

  chosen : (p : Place) (s : ℕ) → Chosen p s
  chosen p s = go (place_type d p) refl
    where
      go : (o : Option ℕ) → place_type d p ≡ o → Chosen p s
      go None r = (pos 0, λ t q. absurd (none-some t (sym r ∙ q)))
      go (Some t) r = Chosen-typed p s t r

  usually : (s : ℕ) → (a : ℤ) × ((t : ℕ) → inhabited m d t ≡ true → slice_get d.types t ≡ Some (Measured s) → m.atom s a ≡ true)
  usually s = go (any_atom (m.atom s)) refl
    where
      go : (b : Bool) → any_atom (m.atom s) ≡ b → (a : ℤ) × ((t : ℕ) → inhabited m d t ≡ true → slice_get d.types t ≡ Some (Measured s) → m.atom s a ≡ true)
      go true e = let a = any_to (m.atom s) e in (a.0, λ t l row. a.1)
      go false e = (pos 0, λ t l row. absurd (both_ways (any_atom (m.atom s)) e (sym (ap (inhabited_by m (makes d (makers m d) t)) row) ∙ l)))

  pub picks : (ps : List Place) → (pick : Place → ℕ → ℤ) × ((usual : ℕ → ℤ) × Picks m d k ps pick usual)
  picks ps = (λ p s. (chosen p s).0, (λ s. (usually s).0, record { allowed_there = λ p t s listed. (chosen p s).1 t; usual_atom = λ t s. (usually s).1 t }))
