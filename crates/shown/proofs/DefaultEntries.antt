-- The stock has an entry of each inhabited type, fits, and has no more entries than there are types.
use Rattle.std.proofs.Common.{◌≡◌, ℕ, zero, suc, ◌<◌, ◌≤◌, Bool, true, false, cond, not, ◌||◌, eqb, List, [], ◌∷◌, ◌++◌, map, length, ℤ, Some, None, Option, sym, refl, ap, ◌∙◌, subst, ⊎_elim, arith}
use Rattle.std.proofs.lemmas.List.{length-append, length-map}
use Rattle.std.proofs.lemmas.Bool.{false≢true, both_ways, not-true, and_parts, and_from, or_left, or_right, eqb-true, eqb-false, cases_eq}
use Rattle.std.specs.List.{slice_get}
use Rattle.measure.specs.Measure.{Measure}
use Rattle.rules.specs.declared.rows.TypeRow.{TypeRow}
use Rattle.rules.specs.declared.rows.TypeRow.TheVariants.{Choice, Measured}
use Rattle.rules.specs.declared.rows.GarmentEntry.{GarmentEntry}
use Rattle.rules.specs.Book.{Schema, fields_of, owner_of, is_choice}
use Rattle.rules.specs.Garments.{is_some_number, children_fit, entry_fits, entries_fit, type_number_in}
use Rattle.theory.specs.Inhabited.{first_below, makes, inhabited_by, inhabited_with, all_of, wanted, fresh, take_in, closing, makers, inhabited}
use Rattle.shown.specs.ShownGarment.{built_entry, measured_entry, Stock, stocked_with, stock_measured, measured_stock, stock_made, stock_of, defaults, FourFields}
use Rattle.shown.proofs.EntryLists.{Typed, typed_stays, Typed-new, fit_push}
use Rattle.shown.proofs.EntryTypes.{built_fits_lem, measured_fits_lem}
use Rattle.theory.proofs.Below.{first_passes, count, count_most, count_less, count_here}
use Rattle.std.proofs.lemmas.Option.{slice_get_within}
use Rattle.rules.proofs.Facts.{test_from_number, choice_from_test}

-- entries that fit, with a default of each type that P holds of
pub record StockFits (m : Measure) (d : Schema) (P : ℕ → Type 0) (st : Stock) : Type 0 where
  pub fit : entries_fit m d [] st.entries ≡ true
  pub has : (t : ℕ) → P t → Typed st.entries (st.default_of t) t

pub kids_fit : (es : List GarmentEntry) (passing : ℕ → Bool) (number : ℕ → ℕ) → ((t : ℕ) → passing t ≡ true → Typed es (number t) t) → (ts : List ℕ) → all_of passing ts ≡ true → children_fit es (map number ts) ts ≡ true
kids_fit es passing number h [] e = refl
kids_fit es passing number h (t ∷ ts) e =
    let two = and_parts (passing t) (all_of passing ts) e in
    and_from (is_some_number (type_number_in (slice_get es (number t))) t) (children_fit es (map number ts) ts) (test_from_number (type_number_in (slice_get es (number t))) t (h t two.0).1) (kids_fit es passing number h ts two.1)

module _ (m : Measure) (d : Schema) where
  -- one more default, of the type t
  with_one : (P Q : ℕ → Type 0) (st : Stock) (t : ℕ) (e : GarmentEntry) → StockFits m d P st → e.ty ≡ t → entry_fits m d st.entries e ≡ true → ((u : ℕ) → Q u → eqb t u ≡ false → P u) → StockFits m d Q (stocked_with st t e)
  with_one P Q st t e h ty f more = record { fit = fit_push m d [] st.entries e h.fit f; has = λ u q. go u (eqb t u) refl q }
    where
      go : (u : ℕ) (b : Bool) → eqb t u ≡ b → Q u → Typed (st.entries ++ e ∷ []) (cond b (length st.entries) (st.default_of u)) u
      go u true k q = subst (λ x. Typed (st.entries ++ e ∷ []) (length st.entries) x) (ty ∙ eqb-true t u k) (Typed-new st.entries e)
      go u false k q = typed_stays st.entries e (st.default_of u) u (h.has u (more u q k))

  weaker : (P Q : ℕ → Type 0) (st : Stock) → ((u : ℕ) → Q u → P u) → StockFits m d P st → StockFits m d Q st
  weaker P Q st k h = record { fit = h.fit; has = λ u q. h.has u (k u q) }

  -- ── measured types ──

  module _ (usual : ℕ → ℤ) (usual_atom : (t s : ℕ) → inhabited m d t ≡ true → slice_get d.types t ≡ Some (Measured s) → m.atom s (usual s) ≡ true) where
    abbrev Below : ℕ → ℕ → Type 0
    Below n u = (u < n) × (inhabited_with m d [] u ≡ true)

    -- a type that needs no entry
    passed : (t : ℕ) (st : Stock) → inhabited_with m d [] t ≡ false → StockFits m d (Below t) st → StockFits m d (Below (suc t)) st
    passed t st no_one h =
        weaker (Below t) (Below (suc t)) st
        (λ u q. ⊎_elim (λ same. absurd (both_ways (inhabited_with m d [] t) no_one (subst (λ x. inhabited_with m d [] x ≡ true) same q.1))) (λ other. (omega (arith, q.0), q.1)) (cases_eq u t)) h

    measured_step : (t : ℕ) (st : Stock) (o : Option TypeRow) → slice_get d.types t ≡ o → StockFits m d (Below t) st → StockFits m d (Below (suc t)) (stock_measured m usual t o st)
    measured_step t st None row h = passed t st (ap (inhabited_by m false) row) h
    measured_step t st (Some Choice) row h = passed t st (ap (inhabited_by m false) row) h
    measured_step t st (Some (Measured s)) row h = go (inhabited_by m false (Some (Measured s))) refl
      where
        go : (b : Bool) → inhabited_by m false (Some (Measured s)) ≡ b → StockFits m d (Below (suc t)) (cond b (stocked_with st t (measured_entry t (usual s))) st)
        go true e = with_one (Below t) (Below (suc t)) st t (measured_entry t (usual s)) h refl (measured_fits_lem m d st.entries t s (usual s) row (usual_atom t s (ap (inhabited_by m (makes d (makers m d) t)) row ∙ e) row))
            (λ u q k. (omega (arith, q.0, eqb-false t u k), q.1))
        go false e = passed t st (ap (inhabited_by m false) row ∙ e) h

    measured_stock_lem : (n : ℕ) → StockFits m d (Below n) (measured_stock m d usual n)
    measured_stock_lem zero = record { fit = refl; has = λ u q. absurd (omega (arith, q.0)) }
    measured_stock_lem (suc t) = measured_step t (measured_stock m d usual t) (slice_get d.types t) refl (measured_stock_lem t)

  row_inside : (cs : List ℕ) (t : ℕ) → inhabited_with m d cs t ≡ true → t < length d.types
  row_inside cs t e = go (slice_get d.types t) refl e
    where
      go : (o : Option TypeRow) → slice_get d.types t ≡ o → inhabited_by m (makes d cs t) o ≡ true → t < length d.types
      go None row e = absurd (false≢true e)
      go (Some r) row e = slice_get_within d.types t r row

  -- ── made types ──

  -- each constructor was fresh when it was taken in
  abbrev Made : List ℕ → Type 0
  Made [] = Unit {0}
  Made (c ∷ cs) = ((t : ℕ) × (owner_of d c ≡ Some t) × (slice_get d.types t ≡ Some Choice) × (makes d cs t ≡ false) × (all_of (inhabited_with m d cs) (fields_of d c) ≡ true)) × Made cs

  fresh-Made : (cs : List ℕ) (c : ℕ) → fresh m d cs c ≡ true → Made cs → Made (c ∷ cs)
  fresh-Made cs c e h =
      let two = and_parts (wanted d cs (owner_of d c)) (all_of (inhabited_with m d cs) (fields_of d c)) e in
      (go (owner_of d c) refl two.0 two.1, h)
    where
      go : (o : Option ℕ) → owner_of d c ≡ o → wanted d cs o ≡ true → all_of (inhabited_with m d cs) (fields_of d c) ≡ true
          → (t : ℕ) × (owner_of d c ≡ Some t) × (slice_get d.types t ≡ Some Choice) × (makes d cs t ≡ false) × (all_of (inhabited_with m d cs) (fields_of d c) ≡ true)
      go None q w f = absurd (false≢true w)
      go (Some t) q w f =
          let two = and_parts (is_choice (slice_get d.types t)) (not (makes d cs t)) w in
          (t, q, choice_from_test (slice_get d.types t) two.0, not-true (makes d cs t) two.1, f)

  taken_made : (n : ℕ) (cs : List ℕ) → ((bs : List ℕ) → Made bs → Made (closing m d n bs)) → Made cs → (o : Option ℕ) → first_below (length d.constructors) (fresh m d cs) ≡ o → Made (take_in cs o (λ c. closing m d n (c ∷ cs)))
  taken_made n cs k h None e = h
  taken_made n cs k h (Some c) e = k (c ∷ cs) (fresh-Made cs c (first_passes (length d.constructors) (fresh m d cs) c e).1 h)

  closing-Made : (n : ℕ) (cs : List ℕ) → Made cs → Made (closing m d n cs)
  closing-Made zero cs h = h
  closing-Made (suc n) cs h = taken_made n cs (closing-Made n) h (first_below (length d.constructors) (fresh m d cs)) refl

  -- a type that the newest constructor does not build was inhabited before
  before_it : (c : ℕ) (cs : List ℕ) (t u : ℕ) → owner_of d c ≡ Some t → eqb t u ≡ false → inhabited_with m d (c ∷ cs) u ≡ true → inhabited_with m d cs u ≡ true
  before_it c cs t u q k e = go (slice_get d.types u) e
    where
      go : (o : Option TypeRow) → inhabited_by m (is_some_number (owner_of d c) u || makes d cs u) o ≡ true → inhabited_by m (makes d cs u) o ≡ true
      go None e = e
      go (Some Choice) e = sym (ap (λ z. z || makes d cs u) (ap (λ o. is_some_number o u) q ∙ k)) ∙ e
      go (Some (Measured s)) e = e

  after_it : (c : ℕ) (cs : List ℕ) (u : ℕ) → inhabited_with m d cs u ≡ true → inhabited_with m d (c ∷ cs) u ≡ true
  after_it c cs u e = go (slice_get d.types u) e
    where
      go : (o : Option TypeRow) → inhabited_by m (makes d cs u) o ≡ true → inhabited_by m (makes d (c ∷ cs) u) o ≡ true
      go None e = e
      go (Some Choice) e = or_right (is_some_number (owner_of d c) u) (makes d cs u) e
      go (Some (Measured s)) e = e

  module _ (sound : FourFields d) (usual : ℕ → ℤ) (usual_atom : (t s : ℕ) → inhabited m d t ≡ true → slice_get d.types t ≡ Some (Measured s) → m.atom s (usual s) ≡ true) where
    stock_fits : (cs : List ℕ) → Made cs → StockFits m d (λ u. inhabited_with m d cs u ≡ true) (stock_of m d usual cs)
    stock_fits [] h =
        weaker (Below usual usual_atom (length d.types)) (λ u. inhabited_with m d [] u ≡ true) (measured_stock m d usual (length d.types))
        (λ u e. (row_inside [] u e, e)) (measured_stock_lem usual usual_atom (length d.types))
    stock_fits (c ∷ cs) h =
        let st : Stock = stock_of m d usual cs in
        let ok = stock_fits cs h.1 in
        let t : ℕ = h.0.0 in
        let ns : List ℕ = map st.default_of (fields_of d c) in
        subst (λ o. StockFits m d (λ u. inhabited_with m d (c ∷ cs) u ≡ true) (stock_made d c o st)) (sym h.0.1)
        (with_one (λ u. inhabited_with m d cs u ≡ true) (λ u. inhabited_with m d (c ∷ cs) u ≡ true) st t (built_entry t c ns) ok refl
        (built_fits_lem m d st.entries t c ns h.0.2 h.0.1 (kids_fit st.entries (inhabited_with m d cs) st.default_of ok.has (fields_of d c) h.0.4)
        (omega (arith, length-map (fields_of d c) st.default_of, sound c)))
        (λ u e k. before_it c cs t u h.0.1 k e))

    pub defaults_fit : StockFits m d (λ u. inhabited m d u ≡ true) (defaults m d usual)
    defaults_fit = stock_fits (makers m d) (closing-Made (length d.constructors) [] tt)

  -- ── how many ──

  module _ (usual : ℕ → ℤ) where
    measured_more : (t : ℕ) (st : Stock) (o : Option TypeRow) → slice_get d.types t ≡ o → length st.entries ≤ count t (inhabited_with m d []) → length (stock_measured m usual t o st).entries ≤ count (suc t) (inhabited_with m d [])
    measured_more t st None row h = omega arith
    measured_more t st (Some Choice) row h = omega arith
    measured_more t st (Some (Measured s)) row h = go (inhabited_by m false (Some (Measured s))) refl
      where
        go : (b : Bool) → inhabited_by m false (Some (Measured s)) ≡ b → length (cond b (stocked_with st t (measured_entry t (usual s))) st).entries ≤ count (suc t) (inhabited_with m d [])
        go true e = omega (arith, length-append st.entries (measured_entry t (usual s) ∷ []), count_here t (inhabited_with m d []) (length st.entries) h (ap (inhabited_by m false) row ∙ e))
        go false e = omega arith

    measured_few : (n : ℕ) → length (measured_stock m d usual n).entries ≤ count n (inhabited_with m d [])
    measured_few zero = omega arith
    measured_few (suc t) = measured_more t (measured_stock m d usual t) (slice_get d.types t) refl (measured_few t)

    stock_few : (cs : List ℕ) → Made cs → length (stock_of m d usual cs).entries ≤ count (length d.types) (inhabited_with m d cs)
    stock_few [] h = measured_few (length d.types)
    stock_few (c ∷ cs) h =
        let st : Stock = stock_of m d usual cs in
        let t : ℕ = h.0.0 in
        let e : GarmentEntry = built_entry t c (map st.default_of (fields_of d c)) in
        let before : inhabited_with m d cs t ≡ false = ap (inhabited_by m (makes d cs t)) h.0.2 ∙ h.0.3 in
        let now : inhabited_with m d (c ∷ cs) t ≡ true =
        ap (inhabited_by m (makes d (c ∷ cs) t)) h.0.2 ∙ or_left (is_some_number (owner_of d c) t) (makes d cs t) (test_from_number (owner_of d c) t h.0.1) in
        let grown = count_less (length d.types) (inhabited_with m d cs) (inhabited_with m d (c ∷ cs)) (after_it c cs) t (slice_get_within d.types t Choice h.0.2) before now in
        subst (λ o. length (stock_made d c o st).entries ≤ count (length d.types) (inhabited_with m d (c ∷ cs))) (sym h.0.1)
        (omega (arith, length-append st.entries (e ∷ []), stock_few cs h.1))

    pub defaults_few : length (defaults m d usual).entries ≤ length d.types
    defaults_few = omega (arith, stock_few (makers m d) (closing-Made (length d.constructors) [] tt), count_most (length d.types) (inhabited_with m d (makers m d)))
