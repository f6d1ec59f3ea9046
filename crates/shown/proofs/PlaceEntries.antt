-- The entries of listed places: each is typed, built by a candidate or an allowed atom, over the entries of the places below it.
use Rattle.std.proofs.Common.{◌≡◌, ℕ, ◌<◌, Bool, true, false, cond, ◌||◌, ◌⊎◌, List, [], ◌∷◌, ◌++◌, length, ℤ, Some, None, Option, sym, refl, ap, ◌∙◌, subst, inl, inr, ⊎_elim}
use Rattle.std.proofs.lemmas.Bool.{false≢true, both_ways, or_cases, or_left, or_right}
use Rattle.std.specs.List.{slice_get}
use Rattle.measure.specs.Measure.{Measure}
use Rattle.rules.specs.declared.rows.TypeRow.{TypeRow}
use Rattle.rules.specs.declared.rows.TypeRow.TheVariants.{Choice, Measured}
use Rattle.rules.specs.declared.rows.GarmentEntry.{GarmentEntry}
use Rattle.rules.specs.Book.{Schema, fields_of}
use Rattle.rules.specs.Garments.{Value, Values, built, measured, Place, place_type, field_at, entry_value, entry_values, entry_fits, entries_fit}
use Rattle.rules.specs.Sheets.{field}
use Rattle.theory.specs.Inhabited.{makes, inhabited_by, makers, inhabited}
use Rattle.theory.specs.Knowledge.{Knowledge, same_place, candidate}
use Rattle.shown.specs.Interned.{among, parent_among}
use Rattle.shown.specs.ShownGarment.{ShownSoFar, shown_with}
use Rattle.shown.proofs.EntryLists.{Typed, typed_stays, Typed-new, value_at, value_stays, value_new, fit_push}
use Rattle.shown.proofs.SamePlaces.{not_below_itself, parent_of}
use Rattle.theory.proofs.Parts.{same_place_lem, place_same}
use Rattle.std.proofs.lemmas.Option.{same_Some}

-- the types have rows
pub choice_or_sort : (m : Measure) (d : Schema) (t : ℕ) → inhabited m d t ≡ true → (slice_get d.types t ≡ Some Choice) ⊎ ((s : ℕ) × (slice_get d.types t ≡ Some (Measured s)))
choice_or_sort m d t e = go (slice_get d.types t) refl e
  where
    go : (o : Option TypeRow) → slice_get d.types t ≡ o → inhabited_by m (makes d (makers m d) t) o ≡ true → (slice_get d.types t ≡ Some Choice) ⊎ ((s : ℕ) × (slice_get d.types t ≡ Some (Measured s)))
    go None row e = absurd (false≢true e)
    go (Some Choice) row e = inl row
    go (Some (Measured s)) row e = inr (s, row)

module _ (m : Measure) (d : Schema) (k : Knowledge) (pick : Place → ℕ → ℤ) (default_of : ℕ → ℕ) where
  -- the entry n of the place q is built by a candidate, and its fields that have entries are those
  pub record HeadAt (value : Value) (es : List GarmentEntry) (entry_of : Place → Option ℕ) (q : Place) : Type 0 where
    pub made : ℕ
    pub parts : Values
    pub is : value ≡ built made parts
    pub fits : candidate m d k q made ≡ true
    pub fields : (i j u : ℕ) → slice_get (fields_of d made) i ≡ Some u → entry_of (field q made i) ≡ Some j → field_at parts i ≡ Some (value_at d es j)

  pub record PlacesFit (ps : List Place) (sh : ShownSoFar) : Type 0 where
    pub fit : entries_fit m d [] sh.entries ≡ true
    pub stock : (t : ℕ) → inhabited m d t ≡ true → Typed sh.entries (default_of t) t
    pub listed : (q : Place) (n : ℕ) → sh.entry_of q ≡ Some n → among ps q ≡ true
    pub typed : (q : Place) (n : ℕ) → sh.entry_of q ≡ Some n → (t : ℕ) × (place_type d q ≡ Some t) × Typed sh.entries n t
    pub heads : (q : Place) (n t : ℕ) → sh.entry_of q ≡ Some n → place_type d q ≡ Some t → slice_get d.types t ≡ Some Choice → HeadAt (value_at d sh.entries n) sh.entries sh.entry_of q
    pub atoms : (q : Place) (n t s : ℕ) → sh.entry_of q ≡ Some n → place_type d q ≡ Some t → slice_get d.types t ≡ Some (Measured s) → value_at d sh.entries n ≡ measured s (pick q s)
    pub complete : (q : Place) (t : ℕ) → among ps q ≡ true → place_type d q ≡ Some t → inhabited m d t ≡ true → (n : ℕ) × (sh.entry_of q ≡ Some n)

  -- ── one more entry ──

  -- the entry of a place is the newest one, or an old one
  which : (sh : ShownSoFar) (p : Place) (e : GarmentEntry) (q : Place) (n : ℕ) → (shown_with sh p e).entry_of q ≡ Some n → ((p ≡ q) × (length sh.entries ≡ n)) ⊎ ((same_place p q ≡ false) × (sh.entry_of q ≡ Some n))
  which sh p e q n h = go (same_place p q) refl h
    where
      go : (b : Bool) → same_place p q ≡ b → cond b (Some (length sh.entries)) (sh.entry_of q) ≡ Some n → ((p ≡ q) × (length sh.entries ≡ n)) ⊎ ((same_place p q ≡ false) × (sh.entry_of q ≡ Some n))
      go true s h = inl (same_place_lem p q s, same_Some (length sh.entries) n h)
      go false s h = inr (s, h)

  pub newest : (sh : ShownSoFar) (p : Place) (e : GarmentEntry) → (shown_with sh p e).entry_of p ≡ Some (length sh.entries)
  newest sh p e = ap (λ b. cond b (Some (length sh.entries)) (sh.entry_of p)) (place_same p)

  module _ (ps : List Place) (sh : ShownSoFar) (p : Place) (t : ℕ) (e : GarmentEntry) (ok : PlacesFit ps sh) (first : parent_among ps p ≡ false) (type_is : place_type d p ≡ Some t) (ty : e.ty ≡ t) where
    abbrev more : List GarmentEntry
    more = sh.entries ++ e ∷ []

    abbrev entry_now : Place → Option ℕ
    entry_now = (shown_with sh p e).entry_of

    old_inside : (q : Place) (n : ℕ) → sh.entry_of q ≡ Some n → n < length sh.entries
    old_inside q n h = (ok.typed q n h).2.0

    Typed-now : (q : Place) (n : ℕ) → entry_now q ≡ Some n → (u : ℕ) × (place_type d q ≡ Some u) × Typed more n u
    Typed-now q n h = ⊎_elim
        (λ a. (t, subst (λ (x : Place). place_type d x ≡ Some t) a.0 type_is, subst (λ i. Typed more i t) a.1 (subst (λ u. Typed more (length sh.entries) u) ty (Typed-new sh.entries e))))
        (λ b. let o = ok.typed q n b.1 in (o.0, o.1, typed_stays sh.entries e n o.0 o.2))
        (which sh p e q n h)

    -- a field's entry is no newer than the entry that it is a field of
    old_field : (q : Place) (n c i j : ℕ) → sh.entry_of q ≡ Some n → entry_now (field q c i) ≡ Some j → sh.entry_of (field q c i) ≡ Some j
    old_field q n c i j a h = ⊎_elim
        (λ here. absurd (both_ways (parent_among ps p) first (parent_of q (record { constructor = c; field = i }) p here.0 ps (ok.listed q n a))))
        (λ old. old.1)
        (which sh p e (field q c i) j h)

    own_field : (c i j : ℕ) → entry_now (field p c i) ≡ Some j → sh.entry_of (field p c i) ≡ Some j
    own_field c i j h = ⊎_elim
        (λ here. absurd (both_ways (same_place p (field p c i)) (not_below_itself p (record { constructor = c; field = i })) (subst (λ (x : Place). same_place p x ≡ true) here.0 (place_same p))))
        (λ old. old.1)
        (which sh p e (field p c i) j h)

    stays : (q : Place) (j : ℕ) → sh.entry_of q ≡ Some j → value_at d more j ≡ value_at d sh.entries j
    stays q j h = value_stays d sh.entries e j (old_inside q j h)

    old_head : (q : Place) (n : ℕ) → sh.entry_of q ≡ Some n → HeadAt (value_at d sh.entries n) sh.entries sh.entry_of q → HeadAt (value_at d more n) more entry_now q
    old_head q n a h = record {
      made = h.made;
      parts = h.parts;
      is = stays q n a ∙ h.is;
      fits = h.fits;
      fields = λ i j u r s. let o = old_field q n h.made i j a s in h.fields i j u r o ∙ ap Some (sym (stays (field q h.made i) j o));
    }

    own_head : HeadAt (entry_value d (entry_values d sh.entries) e) sh.entries sh.entry_of p → HeadAt (value_at d more (length sh.entries)) more entry_now p
    own_head h = record {
      made = h.made;
      parts = h.parts;
      is = value_new d sh.entries e ∙ h.is;
      fits = h.fits;
      fields = λ i j u r s. let o = own_field h.made i j s in h.fields i j u r o ∙ ap Some (sym (stays (field p h.made i) j o));
    }

    complete_now : (q : Place) (u : ℕ) → among (p ∷ ps) q ≡ true → place_type d q ≡ Some u → inhabited m d u ≡ true → (n : ℕ) × (entry_now q ≡ Some n)
    complete_now q u a r l = go (same_place p q) refl a
      where
        go : (b : Bool) → same_place p q ≡ b → (b || among ps q) ≡ true → (n : ℕ) × (cond b (Some (length sh.entries)) (sh.entry_of q) ≡ Some n)
        go true s a = (length sh.entries, refl)
        go false s a = ok.complete q u a r l

    pub one_more : entry_fits m d sh.entries e ≡ true
        → (slice_get d.types t ≡ Some Choice → HeadAt (entry_value d (entry_values d sh.entries) e) sh.entries sh.entry_of p)
        → ((s : ℕ) → slice_get d.types t ≡ Some (Measured s) → entry_value d (entry_values d sh.entries) e ≡ measured s (pick p s))
        → PlacesFit (p ∷ ps) (shown_with sh p e)
    one_more f head atom = record {
      fit = fit_push m d [] sh.entries e ok.fit f;
      stock = λ u l. typed_stays sh.entries e (default_of u) u (ok.stock u l);
      listed = λ q n h. ⊎_elim (λ a. or_left (same_place p q) (among ps q) (subst (λ (x : Place). same_place p x ≡ true) a.0 (place_same p))) (λ b. or_right (same_place p q) (among ps q) (ok.listed q n b.1)) (which sh p e q n h);
      typed = Typed-now;
      heads = λ q n u h r row. ⊎_elim
          (λ a. let same : t ≡ u = same_Some t u (sym type_is ∙ ap (place_type d) a.0 ∙ r) in
          subst (λ (x : Place). HeadAt (value_at d more n) more entry_now x) a.0
          (subst (λ i. HeadAt (value_at d more i) more entry_now p) a.1 (own_head (head (ap (slice_get d.types) same ∙ row)))))
          (λ b. old_head q n b.1 (ok.heads q n u b.1 r row))
          (which sh p e q n h);
      atoms = λ q n u s h r row. ⊎_elim
          (λ a. let same : t ≡ u = same_Some t u (sym type_is ∙ ap (place_type d) a.0 ∙ r) in
          subst (λ (x : Place). value_at d more n ≡ measured s (pick x s)) a.0
          (subst (λ i. value_at d more i ≡ measured s (pick p s)) a.1 (value_new d sh.entries e ∙ atom s (ap (slice_get d.types) same ∙ row))))
          (λ b. stays q n b.1 ∙ ok.atoms q n u s b.1 r row)
          (which sh p e q n h);
      complete = complete_now;
    }

  -- a place that gets no entry
  pub passed_over : (ps : List Place) (sh : ShownSoFar) (p : Place) → PlacesFit ps sh → ((t : ℕ) → place_type d p ≡ Some t → inhabited m d t ≡ true → ⊥) → PlacesFit (p ∷ ps) sh
  passed_over ps sh p ok empty = record {
    fit = ok.fit;
    stock = ok.stock;
    listed = λ q n h. or_right (same_place p q) (among ps q) (ok.listed q n h);
    typed = ok.typed;
    heads = ok.heads;
    atoms = ok.atoms;
    complete = λ q t a r l. ⊎_elim (λ s. absurd (empty t (ap (place_type d) (same_place_lem p q s) ∙ r) l)) (λ b. ok.complete q t b r l) (or_cases (same_place p q) (among ps q) a);
  }
