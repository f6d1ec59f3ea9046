-- The makers are complete: a choice is inhabited once a constructor of it has all of its field types inhabited.
use Rattle.std.proofs.Common.{◌≡◌, ℕ, zero, suc, ◌<◌, ◌≤◌, Bool, true, false, not, ◌⊎◌, List, [], ◌∷◌, length, Some, None, Option, sym, refl, ap, ◌∙◌, inl, inr, arith}
use Rattle.std.specs.List.{slice_get}
use Rattle.std.proofs.lemmas.Option.{slice_get_past, none-some}
use Rattle.std.proofs.lemmas.Bool.{cases_lt, and_parts, and_from, and_right, or_left, or_parts, not-true, not_from_true, not_from_false}
use Rattle.measure.specs.Measure.{Measure}
use Rattle.rules.specs.declared.rows.TypeRow.TheVariants.{Choice}
use Rattle.rules.specs.Book.{Schema, fields_of, owner_of, owner_in, is_choice}
use Rattle.rules.specs.Garments.{is_some_number}
use Rattle.theory.specs.Inhabited.{first_below, makes, inhabited_by, inhabited_with, all_of, wanted, fresh, take_in, closing, makers, inhabited}
use Rattle.theory.proofs.Below.{first_passes, first_none, count, count_less, count_most, count_none}
use Rattle.rules.proofs.Facts.{test_from_number}

-- ── readings ──

-- a constructor that builds a type stands in the table
pub owner_below : (d : Schema) (c t : ℕ) → owner_of d c ≡ Some t → c < length d.constructors
owner_below d c t e = go (cases_lt c (length d.constructors))
  where
    go : (c < length d.constructors) ⊎ (length d.constructors ≤ c) → c < length d.constructors
    go (inl l) = l
    go (inr l) = absurd (none-some t (sym (ap owner_in (slice_get_past d.constructors c l)) ∙ e))

module _ (m : Measure) (d : Schema) where
  -- ── how many constructors still could make the first garments of their type ──

  abbrev left : List ℕ → ℕ
  left cs = count (length d.constructors) (λ c. wanted d cs (owner_of d c))

  wanted_less : (c : ℕ) (cs : List ℕ) (o : Option ℕ) → wanted d (c ∷ cs) o ≡ true → wanted d cs o ≡ true
  wanted_less c cs None e = e
  wanted_less c cs (Some t) e =
      let two = and_parts (is_choice (slice_get d.types t)) (not (makes d (c ∷ cs) t)) e in
      let none_made = or_parts (is_some_number (owner_of d c) t) (makes d cs t) (not-true (makes d (c ∷ cs) t) two.1) in
      and_from (is_choice (slice_get d.types t)) (not (makes d cs t)) two.0 (not_from_false (makes d cs t) none_made.1)

  wanted_no_more : (c : ℕ) (cs : List ℕ) → wanted d (c ∷ cs) (owner_of d c) ≡ false
  wanted_no_more c cs = go (owner_of d c) refl
    where
      go : (o : Option ℕ) → owner_of d c ≡ o → wanted d (c ∷ cs) o ≡ false
      go None e = refl
      go (Some t) e =
          and_right (is_choice (slice_get d.types t)) (not (makes d (c ∷ cs) t))
          (not_from_true (makes d (c ∷ cs) t) (or_left (is_some_number (owner_of d c) t) (makes d cs t) (test_from_number (owner_of d c) t e)))

  fresh_parts : (cs : List ℕ) (c : ℕ) → fresh m d cs c ≡ true → (wanted d cs (owner_of d c) ≡ true) × (all_of (inhabited_with m d cs) (fields_of d c) ≡ true)
  fresh_parts cs c e = and_parts (wanted d cs (owner_of d c)) (all_of (inhabited_with m d cs) (fields_of d c)) e

  left_falls : (cs : List ℕ) (c : ℕ) → c < length d.constructors → fresh m d cs c ≡ true → left (c ∷ cs) < left cs
  left_falls cs c l e =
      count_less (length d.constructors) (λ k. wanted d (c ∷ cs) (owner_of d k)) (λ k. wanted d cs (owner_of d k))
      (λ k h. wanted_less c cs (owner_of d k) h) c l (wanted_no_more c cs) (fresh_parts cs c e).0

  -- ── so the makers are closed, and each is made of those behind it ──

  abbrev Closed : List ℕ → Type 0
  Closed cs = (c : ℕ) → c < length d.constructors → fresh m d cs c ≡ true → ⊥

  closing-Closed : (n : ℕ) (cs : List ℕ) → left cs ≤ n → Closed (closing m d n cs)
  closing-Closed zero cs h = λ c l e. count_none (length d.constructors) (λ k. wanted d cs (owner_of d k)) h c l (fresh_parts cs c e).0
  closing-Closed (suc n) cs h = go (first_below (length d.constructors) (fresh m d cs)) refl (closing-Closed n)
    where
      go : (o : Option ℕ) → first_below (length d.constructors) (fresh m d cs) ≡ o → ((bs : List ℕ) → left bs ≤ n → Closed (closing m d n bs))
          → Closed (take_in cs o (λ c. closing m d n (c ∷ cs)))
      go None e rest = λ c l f. first_none (length d.constructors) (fresh m d cs) e c l f
      go (Some c) e rest =
          let two = first_passes (length d.constructors) (fresh m d cs) c e in
          let falls : left (c ∷ cs) < left cs = left_falls cs c two.0 two.1 in
          rest (c ∷ cs) (omega arith)

  makers-Closed : Closed (makers m d)
  makers-Closed = closing-Closed (length d.constructors) [] (count_most (length d.constructors) (λ c. wanted d [] (owner_of d c)))

  abbrev pub Made : List ℕ → Type 0
  Made [] = Unit {0}
  Made (c ∷ cs) = (wanted d cs (owner_of d c) ≡ true) × ((all_of (inhabited_with m d cs) (fields_of d c) ≡ true) × Made cs)

  closing-Made : (n : ℕ) (cs : List ℕ) → Made cs → Made (closing m d n cs)
  closing-Made zero cs h = h
  closing-Made (suc n) cs h = go (first_below (length d.constructors) (fresh m d cs)) refl (closing-Made n)
    where
      go : (o : Option ℕ) → first_below (length d.constructors) (fresh m d cs) ≡ o → ((bs : List ℕ) → Made bs → Made (closing m d n bs))
          → Made (take_in cs o (λ c. closing m d n (c ∷ cs)))
      go None e rest = h
      go (Some c) e rest =
          let two = fresh_parts cs c (first_passes (length d.constructors) (fresh m d cs) c e).1 in
          rest (c ∷ cs) (two.0, (two.1, h))

  pub makers-Made : Made (makers m d)
  makers-Made = closing-Made (length d.constructors) [] tt

  pub inhabited_choice : (c t : ℕ) → owner_of d c ≡ Some t → slice_get d.types t ≡ Some Choice → all_of (inhabited m d) (fields_of d c) ≡ true → inhabited m d t ≡ true
  inhabited_choice c t owner row fields = ap (inhabited_by m (makes d (makers m d) t)) row ∙ go (makes d (makers m d) t) refl
    where
      go : (b : Bool) → makes d (makers m d) t ≡ b → b ≡ true
      go true e = refl
      go false e =
          absurd (makers-Closed c (owner_below d c t owner)
          (and_from (wanted d (makers m d) (owner_of d c)) (all_of (inhabited m d) (fields_of d c))
          (ap (wanted d (makers m d)) owner
          ∙ and_from (is_choice (slice_get d.types t)) (not (makes d (makers m d) t)) (ap is_choice row) (not_from_false (makes d (makers m d) t) e))
          fields))
