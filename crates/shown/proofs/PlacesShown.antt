-- Each listed place of an inhabited type gets an entry, in its turn.
use Rattle.std.proofs.Common.{◌≡◌, ℕ, zero, suc, ◌+◌, ◌≤◌, Bool, true, false, cond, not, ◌&&◌, List, [], ◌∷◌, ◌++◌, length, get_or, ℤ, Some, None, Option, unwrap_or, sym, refl, ap, ◌∙◌, subst, arith}
use Rattle.std.proofs.lemmas.List.{length-append}
use Rattle.std.proofs.lemmas.Bool.{false≢true, both_ways, not-true, and_parts, and_from, or_left, or_right}
use Rattle.std.specs.List.{slice_get}
use Rattle.measure.specs.Measure.{Measure}
use Rattle.rules.specs.declared.rows.TypeRow.{TypeRow}
use Rattle.rules.specs.declared.rows.TypeRow.TheVariants.{Choice, Measured}
use Rattle.rules.specs.declared.rows.GarmentEntry.{GarmentEntry}
use Rattle.rules.specs.Book.{Schema, fields_of, owner_of, is_choice}
use Rattle.rules.specs.Garments.{Value, built, measured, no_values, Place, place_type, field_at, children, entry_values, is_some_number, type_number_in, children_fit}
use Rattle.rules.specs.Sheets.{field}
use Rattle.theory.specs.Inhabited.{first_below, all_of, makes, inhabited_by, makers, inhabited}
use Rattle.theory.specs.Knowledge.{Knowledge, same_place, candidate, builds_type, head_agrees_all, allowed, atom_agrees_all, Good}
use Rattle.shown.specs.Interned.{among, parent_among, parents_first}
use Rattle.shown.specs.ShownGarment.{built_entry, measured_entry, Stock, ShownSoFar, shown_with, field_entries, show_built, show_row, show_place, shown_places, FourFields}
use Rattle.shown.proofs.EntryTypes.{built_fits_lem, measured_fits_lem, built_value, measured_value}
use Rattle.theory.proofs.Below.{first_passes, first_none}
use Rattle.shown.proofs.DefaultEntries.{StockFits}
use Rattle.shown.proofs.PlaceEntries.{PlacesFit, newest, one_more, passed_over}
use Rattle.theory.proofs.Parts.{place_same}
use Rattle.std.proofs.lemmas.Option.{none-some, same_Some}
use Rattle.rules.proofs.Facts.{number_from_test, test_from_number, choice_from_test}
use Rattle.theory.proofs.Making.{owner_below}

-- ── candidates ──

pub record Candidate (m : Measure) (d : Schema) (k : Knowledge) (p : Place) (t c : ℕ) : Type 0 where
  pub row : slice_get d.types t ≡ Some Choice
  pub owner : owner_of d c ≡ Some t
  pub filled : all_of (inhabited m d) (fields_of d c) ≡ true
  pub agrees : head_agrees_all p c k ≡ true

pub candidate_parts : (m : Measure) (d : Schema) (k : Knowledge) (p : Place) (t c : ℕ) → place_type d p ≡ Some t → candidate m d k p c ≡ true → Candidate m d k p t c
candidate_parts m d k p t c r e =
    let two = and_parts (builds_type d c (place_type d p)) (all_of (inhabited m d) (fields_of d c) && head_agrees_all p c k) e in
    let three = and_parts (all_of (inhabited m d) (fields_of d c)) (head_agrees_all p c k) two.1 in
    let builds = and_parts (is_choice (slice_get d.types t)) (is_some_number (owner_of d c) t) (sym (ap (builds_type d c) r) ∙ two.0) in
    record { row = choice_from_test (slice_get d.types t) builds.0; owner = number_from_test (owner_of d c) t builds.1; filled = three.0; agrees = three.1 }

-- ── fields ──

pub children_at : (vs : List Value) (ns : List ℕ) (i n : ℕ) → slice_get ns i ≡ Some n → field_at (children vs ns) i ≡ Some (get_or vs n (built 0 no_values))
children_at vs [] i n e = absurd (none-some n e)
children_at vs (x ∷ ns) zero n e = ap (λ y. Some (get_or vs y (built 0 no_values))) (same_Some x n e)
children_at vs (x ∷ ns) (suc i) n e = children_at vs ns i n e

module _ (entry_of : Place → Option ℕ) (default_of : ℕ → ℕ) (p : Place) (c : ℕ) where
  fields_length : (ts : List ℕ) (i : ℕ) → length (field_entries entry_of default_of p c i ts) ≡ length ts
  fields_length [] i = refl
  fields_length (t ∷ ts) i = ap suc (fields_length ts (suc i))

  entry_at : (ts : List ℕ) (i j at u n : ℕ) → at ≡ i + j → slice_get ts j ≡ Some u → entry_of (field p c at) ≡ Some n → slice_get (field_entries entry_of default_of p c i ts) j ≡ Some n
  entry_at [] i j at u n a e h = absurd (none-some u e)
  entry_at (t ∷ ts) i zero at u n a e h =
      let here : i ≡ at = omega arith in
      ap (λ x. Some (unwrap_or (entry_of (field p c x)) (default_of t))) here ∙ ap (λ o. Some (unwrap_or o (default_of t))) h
  entry_at (t ∷ ts) i (suc j) at u n a e h = entry_at ts (suc i) j at u n (omega arith) e h

-- ── one place ──

module _ (m : Measure) (d : Schema) (k : Knowledge) (pick : Place → ℕ → ℤ) (default_of : ℕ → ℕ) (sound : FourFields d) (good : Good m d k) where
  fields_fit : (ps : List Place) (sh : ShownSoFar) → PlacesFit m d k pick default_of ps sh → (p : Place) (c : ℕ) (ts : List ℕ) (i : ℕ)
      → ((j u at : ℕ) → at ≡ i + j → slice_get ts j ≡ Some u → slice_get (fields_of d c) at ≡ Some u) → all_of (inhabited m d) ts ≡ true → children_fit sh.entries (field_entries sh.entry_of default_of p c i ts) ts ≡ true
  fields_fit ps sh ok p c [] i h l = refl
  fields_fit ps sh ok p c (t ∷ ts) i h l =
      let two = and_parts (inhabited m d t) (all_of (inhabited m d) ts) l in
      and_from (is_some_number (type_number_in (slice_get sh.entries (unwrap_or (sh.entry_of (field p c i)) (default_of t)))) t) (children_fit sh.entries (field_entries sh.entry_of default_of p c (suc i) ts) ts)
      (go (sh.entry_of (field p c i)) refl two.0) (fields_fit ps sh ok p c ts (suc i) (λ j u at a e. h (suc j) u at (omega arith) e) two.1)
    where
      go : (o : Option ℕ) → sh.entry_of (field p c i) ≡ o → inhabited m d t ≡ true → is_some_number (type_number_in (slice_get sh.entries (unwrap_or o (default_of t)))) t ≡ true
      go None q l = test_from_number (type_number_in (slice_get sh.entries (default_of t))) t (ok.stock t l).1
      go (Some n) q l =
          let x = ok.typed (field p c i) n q in
          let same : x.0 ≡ t = same_Some x.0 t (sym x.1 ∙ h 0 t i (omega arith) refl) in
          test_from_number (type_number_in (slice_get sh.entries n)) t (x.2.1 ∙ ap Some same)

  -- the last entry is that of the place
  pub record Newest (p : Place) (sh : ShownSoFar) : Type 0 where
    pub front : List GarmentEntry
    pub entry : GarmentEntry
    pub all : sh.entries ≡ front ++ entry ∷ []
    pub numbered : sh.entry_of p ≡ Some (length front)

  pub record PlaceShown (ps : List Place) (p : Place) (before sh : ShownSoFar) : Type 0 where
    pub fits : PlacesFit m d k pick default_of (p ∷ ps) sh
    pub few : length sh.entries ≤ suc (length before.entries)
    pub last : (t : ℕ) → place_type d p ≡ Some t → inhabited m d t ≡ true → Newest p sh

  nothing_shown : (ps : List Place) (sh : ShownSoFar) (p : Place) → PlacesFit m d k pick default_of ps sh → ((t : ℕ) → place_type d p ≡ Some t → inhabited m d t ≡ true → ⊥) → PlaceShown ps p sh sh
  nothing_shown ps sh p ok empty = record { fits = passed_over m d k pick default_of ps sh p ok empty; few = omega arith; last = λ t r l. absurd (empty t r l) }

  entry_shown : (ps : List Place) (sh : ShownSoFar) (p : Place) (e : GarmentEntry) → PlacesFit m d k pick default_of (p ∷ ps) (shown_with sh p e) → PlaceShown ps p sh (shown_with sh p e)
  entry_shown ps sh p e ok = record {
    fits = ok;
    few = omega (arith, length-append sh.entries (e ∷ []));
    last = λ t r l. record { front = sh.entries; entry = e; all = refl; numbered = newest m d k pick default_of sh p e };
  }

  module _ (ps : List Place) (sh : ShownSoFar) (p : Place) (t : ℕ) (ok : PlacesFit m d k pick default_of ps sh) (first : parent_among ps p ≡ false) (r : place_type d p ≡ Some t) (l : inhabited m d t ≡ true) where
    built_shown : slice_get d.types t ≡ Some Choice → (o : Option ℕ) → first_below (length d.constructors) (candidate m d k p) ≡ o → PlaceShown ps p sh (show_built d default_of p t o sh)
    built_shown row None e =
        let some = good.heads p t r l row in
        absurd (first_none (length d.constructors) (candidate m d k p) e some.0 (owner_below d some.0 t (candidate_parts m d k p t some.0 r some.1).owner) some.1)
    built_shown row (Some c) e =
        let can = (first_passes (length d.constructors) (candidate m d k p) c e).1 in
        let parts = candidate_parts m d k p t c r can in
        let ns : List ℕ = field_entries sh.entry_of default_of p c 0 (fields_of d c) in
        let short : length ns ≤ 4 = omega (arith, fields_length sh.entry_of default_of p c (fields_of d c) 0, sound c) in
        entry_shown ps sh p (built_entry t c ns)
        (one_more m d k pick default_of ps sh p t (built_entry t c ns) ok first r refl
        (built_fits_lem m d sh.entries t c ns row parts.owner
        (fields_fit ps sh ok p c (fields_of d c) 0 (λ j u at a q. let same : at ≡ j = omega arith in ap (slice_get (fields_of d c)) same ∙ q) parts.filled) short)
        (λ row. record {
          made = c;
          parts = children (entry_values d sh.entries) ns;
          is = built_value m d sh.entries t c ns short;
          fits = can;
          fields = λ i j u q h. children_at (entry_values d sh.entries) ns i j (entry_at sh.entry_of default_of p c (fields_of d c) 0 i i u j (omega arith) q h);
        })
        (λ s other. cc))

    measured_shown : (s : ℕ) → slice_get d.types t ≡ Some (Measured s) → allowed m k p s (pick p s) ≡ true → PlaceShown ps p sh (shown_with sh p (measured_entry t (pick p s)))
    measured_shown s row a =
        let atom = and_parts (m.atom s (pick p s)) (atom_agrees_all m p s (pick p s) k) a in
        entry_shown ps sh p (measured_entry t (pick p s))
        (one_more m d k pick default_of ps sh p t (measured_entry t (pick p s)) ok first r refl
        (measured_fits_lem m d sh.entries t s (pick p s) row atom.0)
        (λ other. cc)
        (λ u same. let sorts : s ≡ u = cc in measured_value m d sh.entries t s (pick p s) row ∙ ap (λ x. measured x (pick p x)) sorts))

    row_shown : ((s : ℕ) → slice_get d.types t ≡ Some (Measured s) → allowed m k p s (pick p s) ≡ true) → (o : Option TypeRow) → slice_get d.types t ≡ o → PlaceShown ps p sh (show_row m d k pick default_of p t o sh)
    row_shown a None row = absurd (false≢true (sym (ap (inhabited_by m (makes d (makers m d) t)) row) ∙ l))
    row_shown a (Some Choice) row = built_shown row (first_below (length d.constructors) (candidate m d k p)) refl
    row_shown a (Some (Measured s)) row = measured_shown s row (a s row)

  place_shown : (ps : List Place) (sh : ShownSoFar) (p : Place) → PlacesFit m d k pick default_of ps sh → parent_among ps p ≡ false
      → ((t s : ℕ) → place_type d p ≡ Some t → inhabited m d t ≡ true → slice_get d.types t ≡ Some (Measured s) → allowed m k p s (pick p s) ≡ true)
      → (o : Option ℕ) → place_type d p ≡ o → PlaceShown ps p sh (show_place m d k pick default_of p o sh)
  place_shown ps sh p ok first a None r = nothing_shown ps sh p ok (λ t q l. none-some t (sym r ∙ q))
  place_shown ps sh p ok first a (Some t) r = go (inhabited m d t) refl
    where
      go : (b : Bool) → inhabited m d t ≡ b → PlaceShown ps p sh (cond b (show_row m d k pick default_of p t (slice_get d.types t) sh) sh)
      go true l = row_shown ps sh p t ok first r l (λ s row. a t s r l row) (slice_get d.types t) refl
      go false l = nothing_shown ps sh p ok (λ u q h. both_ways (inhabited m d t) l (subst (λ x. inhabited m d x ≡ true) (sym (same_Some t u (sym r ∙ q))) h))

-- ── all places ──

module _ (m : Measure) (d : Schema) (k : Knowledge) (pick : Place → ℕ → ℤ) (st : Stock) (sound : FourFields d) (good : Good m d k) (stocked : StockFits m d (λ u. inhabited m d u ≡ true) st) where
  abbrev Allowed : List Place → Type 0
  Allowed ps = (p : Place) (t s : ℕ) → among ps p ≡ true → place_type d p ≡ Some t → inhabited m d t ≡ true → slice_get d.types t ≡ Some (Measured s) → allowed m k p s (pick p s) ≡ true

  later : (p : Place) (ps : List Place) → Allowed (p ∷ ps) → Allowed ps
  later p ps a q t s h = a q t s (or_right (same_place p q) (among ps q) h)

  pub places_fit : (ps : List Place) → parents_first ps ≡ true → Allowed ps → PlacesFit m d k pick st.default_of ps (shown_places m d k pick st ps)
  places_fit [] e a = record {
    fit = stocked.fit;
    stock = stocked.has;
    listed = λ q n h. absurd (none-some n h);
    typed = λ q n h. absurd (none-some n h);
    heads = λ q n t h. absurd (none-some n h);
    atoms = λ q n t s h. absurd (none-some n h);
    complete = λ q t h. absurd (false≢true h);
  }
  places_fit (p ∷ ps) e a =
      let two = and_parts (not (parent_among ps p)) (parents_first ps) e in
      (place_shown m d k pick st.default_of sound good ps (shown_places m d k pick st ps) p (places_fit ps two.1 (later p ps a)) (not-true (parent_among ps p) two.0)
      (λ t s. a p t s (or_left (same_place p p) (among ps p) (place_same p))) (place_type d p) refl).fits

  pub first_shown : (p : Place) (ps : List Place) → parents_first (p ∷ ps) ≡ true → Allowed (p ∷ ps) → PlaceShown m d k pick st.default_of sound good ps p (shown_places m d k pick st ps) (shown_places m d k pick st (p ∷ ps))
  first_shown p ps e a =
      let two = and_parts (not (parent_among ps p)) (parents_first ps) e in
      place_shown m d k pick st.default_of sound good ps (shown_places m d k pick st ps) p (places_fit ps two.1 (later p ps a)) (not-true (parent_among ps p) two.0)
      (λ t s. a p t s (or_left (same_place p p) (among ps p) (place_same p))) (place_type d p) refl

  pub places_few : (ps : List Place) → parents_first ps ≡ true → Allowed ps → length (shown_places m d k pick st ps).entries ≤ length st.entries + length ps
  places_few [] e a = omega arith
  places_few (p ∷ ps) e a =
      let two = and_parts (not (parent_among ps p)) (parents_first ps) e in
      omega (arith, (first_shown p ps e a).few, places_few ps two.1 (later p ps a))
