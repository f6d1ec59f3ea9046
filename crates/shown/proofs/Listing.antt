-- Places listed one after another: in order, without gaps, and few.
use Rattle.std.proofs.Common.{◌≡◌, ℕ, suc, ◌+◌, ◌≤◌, Bool, true, false, cond, List, [], ◌∷◌, ◌++◌, length, refl, subst, ⊎_elim, arith}
use Rattle.std.proofs.lemmas.List.{length-append}
use Rattle.std.proofs.lemmas.Bool.{false≢true, and_parts, and_from, or_cases, or_left, or_right}
use Rattle.rules.specs.Garments.{Place, whole, below}
use Rattle.rules.specs.Sheets.{Pattern, Patterns, any, bind, build, either, gauge, no_patterns, with_pattern, field, Clause}
use Rattle.theory.specs.Knowledge.{same_place}
use Rattle.shown.specs.Interned.{among, parent_among, all_among, also_listed, each_below, Interned}
use Rattle.shown.specs.Budgets.{places_of_pattern, places_of_patterns, places_of_sheet, PlacesListed}
use Rattle.shown.proofs.SamePlaces.{among-append_left, among-append_right, all_append_left, all_append_right, Interned-none, Interned-grows}
use Rattle.shown.proofs.PlacesLooked.{sheet_places}
use Rattle.theory.proofs.Parts.{same_place_lem, place_same}

-- all places of one list are in another
abbrev AllIn : List Place → List Place → Type 0
AllIn ps qs = (x : Place) → among ps x ≡ true → among qs x ≡ true

-- one step of listing
abbrev with_place : List Place → Place → List Place
with_place ps q = cond (among (whole ∷ ps) q) ps (ps ++ q ∷ [])

step_keeps : (ps : List Place) (q : Place) → AllIn (whole ∷ ps) (whole ∷ with_place ps q)
step_keeps ps q x h = go (among (whole ∷ ps) q)
  where
    go : (b : Bool) → among (whole ∷ cond b ps (ps ++ q ∷ [])) x ≡ true
    go true = h
    go false = among-append_left (whole ∷ ps) (q ∷ []) x h

step_has : (ps : List Place) (q : Place) → among (whole ∷ with_place ps q) q ≡ true
step_has ps q = go (among (whole ∷ ps) q) refl
  where
    go : (b : Bool) → among (whole ∷ ps) q ≡ b → among (whole ∷ cond b ps (ps ++ q ∷ [])) q ≡ true
    go true e = e
    go false e = among-append_right (whole ∷ ps) (q ∷ []) q (or_left (same_place q q) false (place_same q))

step_few : (ps : List Place) (q : Place) → length (with_place ps q) ≤ suc (length ps)
step_few ps q = go (among (whole ∷ ps) q)
  where
    go : (b : Bool) → length (cond b ps (ps ++ q ∷ [])) ≤ suc (length ps)
    go true = omega arith
    go false = omega (arith, length-append ps (q ∷ []))

step_Interned : (ps : List Place) (q : Place) → Interned ps → parent_among (whole ∷ ps) q ≡ true → Interned (with_place ps q)
step_Interned ps whole ok h = absurd (false≢true h)
step_Interned ps (below p s) ok h = go (among (whole ∷ ps) (below p s)) refl
  where
    go : (b : Bool) → among (whole ∷ ps) (below p s) ≡ b → Interned (cond b ps (ps ++ below p s ∷ []))
    go true e = ok
    go false e = Interned-grows ps p s ok h e

also_keeps : (qs ps : List Place) → AllIn (whole ∷ ps) (whole ∷ also_listed ps qs)
also_keeps [] ps x h = h
also_keeps (q ∷ qs) ps x h = also_keeps qs (with_place ps q) x (step_keeps ps q x h)

also_all : (qs ps : List Place) → all_among (whole ∷ also_listed ps qs) qs ≡ true
also_all [] ps = refl
also_all (q ∷ qs) ps =
    and_from (among (whole ∷ also_listed ps (q ∷ qs)) q) (all_among (whole ∷ also_listed ps (q ∷ qs)) qs) (also_keeps qs (with_place ps q) q (step_has ps q)) (also_all qs (with_place ps q))

also_few : (qs ps : List Place) → length (also_listed ps qs) ≤ length ps + length qs
also_few [] ps = omega arith
also_few (q ∷ qs) ps = omega (arith, also_few qs (with_place ps q), step_few ps q)

parent_within : (ps qs : List Place) (p : Place) → AllIn ps qs → parent_among ps p ≡ true → parent_among qs p ≡ true
parent_within ps qs whole h e = absurd (false≢true e)
parent_within ps qs (below p s) h e = h p e

also_Interned : (qs ps before : List Place) → Interned ps → AllIn before (whole ∷ ps) → each_below before qs ≡ true → Interned (also_listed ps qs)
also_Interned [] ps before ok h e = ok
also_Interned (q ∷ qs) ps before ok h e =
    let two = and_parts (parent_among before q) (each_below (q ∷ before) qs) e in
    also_Interned qs (with_place ps q) (q ∷ before) (step_Interned ps q ok (parent_within before (whole ∷ ps) q h two.0))
    (λ x i. ⊎_elim (λ s. subst (λ (y : Place). among (whole ∷ with_place ps q) y ≡ true) (same_place_lem q x s) (step_has ps q)) (λ b. step_keeps ps q x (h x b)) (or_cases (same_place q x) (among before x) i))
    two.1

-- ── the places of a sheet ──

below_more : (qs before more : List Place) → AllIn before more → each_below before qs ≡ true → each_below more qs ≡ true
below_more [] before more h e = refl
below_more (q ∷ qs) before more h e =
    let two = and_parts (parent_among before q) (each_below (q ∷ before) qs) e in
    and_from (parent_among more q) (each_below (q ∷ more) qs) (parent_within before more q h two.0)
    (below_more qs (q ∷ before) (q ∷ more)
    (λ x i. ⊎_elim (λ s. or_left (same_place q x) (among more x) s) (λ b. or_right (same_place q x) (among more x) (h x b)) (or_cases (same_place q x) (among before x) i))
    two.1)

below_append : (xs ys before : List Place) → each_below before xs ≡ true → each_below before ys ≡ true → each_below before (xs ++ ys) ≡ true
below_append [] ys before e h = h
below_append (x ∷ xs) ys before e h =
    let two = and_parts (parent_among before x) (each_below (x ∷ before) xs) e in
    and_from (parent_among before x) (each_below (x ∷ before) (xs ++ ys)) two.0
    (below_append xs ys (x ∷ before) two.1 (below_more ys before (x ∷ before) (λ y i. or_right (same_place x y) (among before y) i) h))

mutual
  pattern_below : (q : Pattern) (p : Place) (before : List Place) → among before p ≡ true → each_below before (places_of_pattern q p) ≡ true
  pattern_below (any t) p before h = refl
  pattern_below (bind x q) p before h = pattern_below q p before h
  pattern_below (build c qs) p before h = patterns_below qs p c 0 before h
  pattern_below (either l r) p before h = below_append (places_of_pattern l p) (places_of_pattern r p) before (pattern_below l p before h) (pattern_below r p before h)
  pattern_below (gauge t w q) p before h = pattern_below q p before h

  patterns_below : (qs : Patterns) (p : Place) (c i : ℕ) (before : List Place) → among before p ≡ true → each_below before (places_of_patterns qs p c i) ≡ true
  patterns_below no_patterns p c i before h = refl
  patterns_below (with_pattern q qs) p c i before h =
      let here : Place = field p c i in
      below_append (here ∷ places_of_pattern q here) (places_of_patterns qs p c (suc i)) before
      (and_from (among before p) (each_below (here ∷ before) (places_of_pattern q here)) h (pattern_below q here (here ∷ before) (or_left (same_place here here) (among before here) (place_same here))))
      (patterns_below qs p c (suc i) before h)

sheet_below : (ks : List Clause) → each_below (whole ∷ []) (places_of_sheet ks) ≡ true
sheet_below [] = refl
sheet_below (k ∷ ks) = below_append (places_of_pattern k.pattern whole) (places_of_sheet ks) (whole ∷ []) (pattern_below k.pattern whole (whole ∷ []) refl) (sheet_below ks)

pub places_listed : (ks : List Clause) (table : List Place) → each_below (whole ∷ []) table ≡ true → PlacesListed ks table (also_listed [] (places_of_sheet ks ++ table))
places_listed ks table h =
    let both : List Place = places_of_sheet ks ++ table in
    let ps : List Place = also_listed [] both in
    record {
      interned = also_Interned both [] (whole ∷ []) Interned-none (λ x i. i) (below_append (places_of_sheet ks) table (whole ∷ []) (sheet_below ks) h);
      sheet_listed = all_append_left (whole ∷ ps) (places_of_sheet ks) table (also_all both []);
      table_listed = all_append_right (whole ∷ ps) (places_of_sheet ks) table (also_all both []);
      few = λ light few. omega (arith, also_few both [], length-append (places_of_sheet ks) table, sheet_places ks);
    }
