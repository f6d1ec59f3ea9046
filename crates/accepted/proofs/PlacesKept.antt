-- In every workbook that calls can make, each place fits, has at most 16 steps, and is below a place before it.
use Rattle.std.proofs.Common.{◌≡◌, ℕ, zero, suc, ◌<◌, ◌≤◌, true, false, ◌||◌, ◌⊎◌, List, [], ◌∷◌, ◌++◌, map, length, get_or, drop, pos, is_some, Some, None, sym, refl, ap, ◌∙◌, subst, inl, inr, ⊎_elim, arith}
use Rattle.std.specs.List.{AllByRecursion, slice_get}
use Rattle.std.proofs.lemmas.List.{length_push, drop-append-le, get_or_past}
use Rattle.std.proofs.lemmas.Bool.{false≢true, cases_lt, leb-false, or_parts, or_cases, or_left, or_right, and_parts, and_from}
use Rattle.measure.specs.Measure.{Measure}
use Rattle.guards.specs.Questions.{and_then}
use Rattle.guards.specs.declared.step.Step.{Step}
use Rattle.pattern_file.specs.declared.names.CallName.TheVariants as call
use Rattle.rules.specs.declared.rows.TypeRow.{TypeRow}
use Rattle.rules.specs.declared.rows.TypeRow.TheVariants.{Choice}
use Rattle.rules.specs.declared.rows.ConstructorRow.{ConstructorRow}
use Rattle.rules.specs.declared.rows.PlaceRow.{PlaceRow}
use Rattle.rules.specs.Tables.{unfolded}
use Rattle.rules.specs.Book.{Book, Schema, fields_in, owner_in}
use Rattle.rules.specs.Garments.{Place, whole, below, place_type, steps_of}
use Rattle.rules.specs.Trees.{place_from, places_from}
use Rattle.rules.specs.Grounds.{unknown, step_count, building_grounds}
use Rattle.rules.specs.Calls.{make, refusal_of}
use Rattle.rules.specs.Files.{place_order}
use Rattle.rules.proofs.Lists.{AllByRecursion-slice_get, Clear-from_none, known, unfolded-push, length-unfolded, AllByRecursion-push, AllByRecursion-get_or}
use Rattle.rules.proofs.Chains.{Chain}
use Rattle.rules.proofs.Wider.{tables}
use Rattle.theory.specs.ProperRuns.{PlaceFits}
use Rattle.theory.specs.Knowledge.{same_place}
use Rattle.shown.specs.Interned.{among, parent_among, each_below}
use Rattle.theory.proofs.Parts.{place_same}
use Rattle.accepted.proofs.Known.{known_under, not_different}
use Rattle.accepted.proofs.Patterns.{ConstructorFits, schema}
use Rattle.std.proofs.lemmas.Option.{slice_get-get_or}

-- ── listed places ──

pub among_at : (xs : List Place) (n : ℕ) (d : Place) → n < length xs → among xs (get_or xs n d) ≡ true
among_at [] n d h = absurd (omega arith)
among_at (x ∷ xs) zero d h = or_left (same_place x x) (among xs x) (place_same x)
among_at (x ∷ xs) (suc n) d h = or_right (same_place x (get_or xs n d)) (among xs (get_or xs n d)) (among_at xs n d (omega arith))

-- one more place below one that stands before it
each_below-push : (before xs : List Place) (p : Place) (s : Step) → each_below before xs ≡ true → (among before p ≡ true) ⊎ (among xs p ≡ true) → each_below before (xs ++ below p s ∷ []) ≡ true
each_below-push before [] p s e (inl h) = and_from (among before p) true h refl
each_below-push before [] p s e (inr h) = absurd (false≢true h)
each_below-push before (x ∷ xs) p s e h =
    let two = and_parts (parent_among before x) (each_below (x ∷ before) xs) e in
    and_from (parent_among before x) (each_below (x ∷ before) (xs ++ below p s ∷ [])) two.0 (each_below-push (x ∷ before) xs p s two.1 (moved h))
  where
    moved : (among before p ≡ true) ⊎ ((same_place x p || among xs p) ≡ true) → ((same_place x p || among before p) ≡ true) ⊎ (among xs p ≡ true)
    moved (inl i) = inl (or_right (same_place x p) (among before p) i)
    moved (inr i) = ⊎_elim (λ j. inl (or_left (same_place x p) (among before p) j)) (λ j. inr j) (or_cases (same_place x p) (among xs p) i)

-- the first place is the whole garment
pub whole_first : (more : List Place) (rows : List PlaceRow) → unfolded place_from (whole ∷ more) rows ≡ whole ∷ drop 1 (unfolded place_from (whole ∷ more) rows)
whole_first more [] = refl
whole_first more (r ∷ rows) = whole_first (more ++ place_from (whole ∷ more) r ∷ []) rows

-- ── places ──

-- a place that fits, of at most 16 steps
pub record PlaceKept (d : Schema) (p : Place) : Type 0 where
  pub type : ℕ
  pub typed : place_type d p ≡ Some type
  pub fits : PlaceFits d p
  pub short : length (steps_of p) ≤ 16

pub whole_kept : (d : Schema) → PlaceKept d whole
whole_kept d = record { type = 0; typed = refl; fits = tt; short = omega arith }

-- all places, each besides the whole garment below one before it
pub record PlacesKept (ts : List TypeRow) (cs : List ConstructorRow) (ps : List PlaceRow) : Type 0 where
  pub each : AllByRecursion (PlaceKept (schema ts cs)) (places_from ts ps)
  pub nested : each_below (whole ∷ []) (drop 1 (places_from ts ps)) ≡ true

place_kept : (m : Measure) (ts : List TypeRow) (cs : List ConstructorRow) (ps : List PlaceRow) (r : PlaceRow) → AllByRecursion (ConstructorFits ts) cs → AllByRecursion (PlaceKept (schema ts cs)) (places_from ts ps)
    → refusal_of m (tables ts cs ps [] []) (make (place_order r)) ≡ None → (r.parent < length (places_from ts ps)) × PlaceKept (schema ts cs) (place_from (places_from ts ps) r)
place_kept m ts cs ps r constructors each h =
    let s : ℕ = r.step.constructor in
    let i : ℕ = r.step.field in
    let places : List Place = places_from ts ps in
    let g = Clear-from_none (building_grounds m (tables ts cs ps [] []) call.Place (place_order r).put (place_order r).own) h in
    let k = or_parts (unknown places (pos r.parent)) (unknown cs (pos s) || unknown (fields_in (slice_get cs s)) (pos i)) g.1.0 in
    let j = or_parts (unknown cs (pos s)) (unknown (fields_in (slice_get cs s)) (pos i)) k.1 in
    let l = known_under places (pos r.parent) k.0 in
    let p : Place = get_or places r.parent whole in
    let at : slice_get places r.parent ≡ Some p = slice_get-get_or places r.parent whole l in
    let q = AllByRecursion-get_or (PlaceKept (schema ts cs)) places r.parent whole l each in
    let c = known cs (pos s) j.0 in
    let f = known (fields_in (slice_get cs s)) (pos i) j.1 in
    let same : c.0.owner ≡ q.type = not_different (owner_in (slice_get cs s)) (and_then (slice_get places r.parent) (place_type (schema ts cs))) c.0.owner q.type (ap owner_in c.1)
    (ap (λ o. and_then o (place_type (schema ts cs))) at ∙ q.typed) g.1.1.0 in
    let choice = (AllByRecursion-slice_get (ConstructorFits ts) cs s c.0 constructors c.1).choice in
    let few = leb-false 16 (step_count (slice_get places r.parent)) g.1.1.1.0 in
    let count = ap step_count at in
    let more = length_push (steps_of p) r.step in (
      l,
      record {
        type = f.0;
        typed = f.1;
        fits = (
          q.fits,
          ((q.type, q.typed, subst (λ t. slice_get ts t ≡ Some Choice) same choice), ap owner_in c.1 ∙ ap Some same ∙ sym q.typed, ap is_some f.1),
        );
        short = omega arith;
      },
    )

place_pushed : (ts : List TypeRow) (cs : List ConstructorRow) (ps : List PlaceRow) (r : PlaceRow) → PlacesKept ts cs ps → r.parent < length (places_from ts ps)
    → PlaceKept (schema ts cs) (place_from (places_from ts ps) r) → PlacesKept ts cs (ps ++ r ∷ [])
place_pushed [] cs ps r k l p = record { each = tt; nested = refl }
place_pushed (t ∷ ts) cs ps r k l p =
    let d : Schema = schema (t ∷ ts) cs in
    let places : List Place = places_from (t ∷ ts) ps in
    let parent : Place = get_or places r.parent whole in
    let n = length-unfolded place_from (whole ∷ []) ps in
    let pushed = unfolded-push place_from (whole ∷ []) ps r in
    let first = whole_first [] ps in
    let rest : drop 1 (places_from (t ∷ ts) (ps ++ r ∷ [])) ≡ drop 1 places ++ place_from places r ∷ [] = ap (drop 1) pushed ∙ drop-append-le 1 places (place_from places r ∷ []) (omega arith) in
    let listed : among (whole ∷ drop 1 places) parent ≡ true = subst (λ l. among l parent ≡ true) first (among_at places r.parent whole l) in
    record {
      each = subst (AllByRecursion (PlaceKept d)) (sym pushed) (AllByRecursion-push (PlaceKept d) places (place_from places r) k.each p);
      nested = subst (λ l. each_below (whole ∷ []) l ≡ true) (sym rest)
          (each_below-push (whole ∷ []) (drop 1 places) parent r.step k.nested
          (⊎_elim (λ h. inl (or_left (same_place whole parent) false h)) (λ h. inr h) (or_cases (same_place whole parent) (among (drop 1 places) parent) listed)));
    }

pub no_places : (ts : List TypeRow) (cs : List ConstructorRow) → PlacesKept ts cs []
no_places [] cs = record { each = tt; nested = refl }
no_places (t ∷ ts) cs = record { each = (whole_kept (schema (t ∷ ts) cs), tt); nested = refl }

pub places_kept : (m : Measure) (ts : List TypeRow) (cs : List ConstructorRow) (ps rows end : List PlaceRow) → AllByRecursion (ConstructorFits ts) cs → PlacesKept ts cs ps
    → Chain m (tables ts cs ps [] []) (map place_order rows) (tables ts cs end [] []) → PlacesKept ts cs end
places_kept m ts cs ps [] end constructors k c = subst (λ (b : Book). PlacesKept ts cs b.places) c k
places_kept m ts cs ps (r ∷ rows) end constructors k c =
    let p = place_kept m ts cs ps r constructors k.each c.0 in
    places_kept m ts cs (ps ++ r ∷ []) rows end constructors (place_pushed ts cs ps r k p.0 p.1) c.1

-- ── places by number; an unknown number is taken for the whole garment ──

pub place_at : (ts : List TypeRow) (cs : List ConstructorRow) (ps : List Place) (n : ℕ) → AllByRecursion (PlaceKept (schema ts cs)) ps → PlaceKept (schema ts cs) (get_or ps n whole)
place_at ts cs [] n a = whole_kept (schema ts cs)
place_at ts cs (p ∷ ps) zero a = a.0
place_at ts cs (p ∷ ps) (suc n) a = place_at ts cs ps n a.1

-- it is the whole garment or one of the others
pub listed_at : (ts : List TypeRow) (ps : List PlaceRow) (n : ℕ) → among (whole ∷ drop 1 (places_from ts ps)) (get_or (places_from ts ps) n whole) ≡ true
listed_at [] ps n = refl
listed_at (t ∷ ts) ps n =
    let places : List Place = places_from (t ∷ ts) ps in
    ⊎_elim (λ l. subst (λ xs. among xs (get_or places n whole) ≡ true) (whole_first [] ps) (among_at places n whole l))
    (λ l. ap (among (whole ∷ drop 1 places)) (get_or_past places n whole l)) (cases_lt n (length places))
