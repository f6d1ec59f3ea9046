-- An order that is not refused is the one that a release writes for its row.
use Rattle.std.proofs.Common.{◌≡◌, ℕ, suc, ◌%◌, ◌≤◌, Bool, true, false, not, ◌&&◌, ◌||◌, eqb, ltb, List, [], ◌∷◌, ◌++◌, map, length, take, drop, ℤ, pos, negsuc, sym, refl, ap, ◌∙◌, ap₂, ⊎_elim, arith}
use Rattle.std.proofs.lemmas.List.{take_all, drop_at}
use Rattle.std.proofs.lemmas.Bool.{true≢false, not-false, eqb-true, eqb-false, ltb-true, ltb-false, or_parts, and_cases}
use Rattle.measure.specs.Measure.{Measure}
use Rattle.pattern_file.specs.declared.names.CallName.TheVariants as call
use Rattle.rules.specs.declared.rows.PairRow.{PairRow}
use Rattle.rules.specs.declared.rows.NodeRow.TheVariants.{Fail, Never}
use Rattle.rules.specs.Tables.{natural, naturals, up_to_four, under, named}
use Rattle.rules.specs.Book.{Book, fields_in}
use Rattle.rules.specs.Rows.{optional, type_row, constructor_row, place_row, leaf_row, pair_rows, switch_row, test_row, ask_row}
use Rattle.rules.specs.Trees.{places_of}
use Rattle.rules.specs.Grounds.{unknown, any_unknown, is_minus_one, is_code, evens, odds, building_grounds}
use Rattle.rules.specs.Files.{order, or_minus_one, type_order, constructor_order, place_order, pair_numbers, node_order}
use Rattle.rules.proofs.Lists.{Clear, natural_known, numbers_known}

-- the number of parts that a call asks for
parts_are : (put : List ℤ) (k : ℕ) → not (eqb (length put) k) ≡ false → length put ≡ k
parts_are put k h = eqb-true (length put) k (not-false (eqb (length put) k) h)

natural-under : (n : ℕ) (z : ℤ) → not (under n z) ≡ false → pos (natural z) ≡ z
natural-under n (pos k) h = refl
natural-under n (negsuc k) h = absurd (true≢false h)

zero_under : (z : ℤ) → not (under 1 z) ≡ false → pos 0 ≡ z
zero_under (pos k) h = let l = ltb-true k 1 (not-false (ltb k 1) h) in let e : 0 ≡ k = omega arith in ap pos e
zero_under (negsuc k) h = absurd (true≢false h)

pub type_back : (m : Measure) (b : Book) (put : List ℤ) (own : ℤ) → Clear (building_grounds m b call.«Type» put own) → type_order (type_row own) ≡ order call.«Type» put own
type_back m b [] (pos s) c = refl
type_back m b [] (negsuc n) c = minus_one (eqb n 0) refl c.1.0
  where
    minus_one : (t : Bool) → eqb n 0 ≡ t → not (t || false) ≡ false → order call.«Type» [] (negsuc 0) ≡ order call.«Type» [] (negsuc n)
    minus_one true e h = ap (λ k. order call.«Type» [] (negsuc k)) (sym (eqb-true n 0 e))
    minus_one false e h = absurd (true≢false h)
type_back m b (z ∷ zs) own c = let e = parts_are (z ∷ zs) 0 c.0 in absurd (omega arith)

pub constructor_back : (m : Measure) (b : Book) (put : List ℤ) (own : ℤ) → Clear (building_grounds m b call.Constructor put own) → constructor_order (constructor_row put own) ≡ order call.Constructor put own
constructor_back m b put own c =
    let k = or_parts (unknown b.types own) (any_unknown b.types put) c.1.0 in
    ap₂ (order call.Constructor) (numbers_known b.types put (ltb-false 4 (length put) c.0) k.1) (natural_known b.types own k.0)

pub place_back : (m : Measure) (b : Book) (put : List ℤ) (own : ℤ) → Clear (building_grounds m b call.Place put own) → place_order (place_row put own) ≡ order call.Place put own
place_back m b [] own c = let e = parts_are [] 2 c.0 in absurd (omega arith)
place_back m b (p ∷ []) own c = let e = parts_are (p ∷ []) 2 c.0 in absurd (omega arith)
place_back m b (p ∷ s ∷ []) own c =
    let k = or_parts (unknown (places_of b) p) (unknown b.constructors s || unknown (fields_in (named b.constructors s)) own) c.1.0 in
    let j = or_parts (unknown b.constructors s) (unknown (fields_in (named b.constructors s)) own) k.1 in
    ap₂ (λ x y. order call.Place (x ∷ y ∷ []) (pos (natural own))) (natural_known (places_of b) p k.0) (natural_known b.constructors s j.0)
    ∙ ap (order call.Place (p ∷ s ∷ [])) (natural_known (fields_in (named b.constructors s)) own j.1)
place_back m b (p ∷ s ∷ z ∷ zs) own c = let e = parts_are (p ∷ s ∷ z ∷ zs) 2 c.0 in absurd (omega arith)

-- ── nodes; the pairs of a new switch stand after the others ──

pub leaf_back : (m : Measure) (b : Book) (pairs : List PairRow) (put : List ℤ) (own : ℤ) → Clear (building_grounds m b call.Leaf put own) → node_order pairs (leaf_row put own) ≡ order call.Leaf put own
leaf_back m b pairs put own c =
    let k = or_parts (not (is_code own)) (any_unknown (places_of b) put) c.1.0 in
    ap₂ (order call.Leaf) (numbers_known (places_of b) put (ltb-false 4 (length put) c.0) k.1) (natural-under 65536 own k.0)

pub fail_back : (m : Measure) (b : Book) (pairs : List PairRow) (put : List ℤ) (own : ℤ) → Clear (building_grounds m b call.Fail put own) → node_order pairs Fail ≡ order call.Fail put own
fail_back m b pairs [] own c = ap (order call.Fail []) (zero_under own c.1.0)
fail_back m b pairs (z ∷ zs) own c = let e = parts_are (z ∷ zs) 0 c.0 in absurd (omega arith)

pub never_back : (m : Measure) (b : Book) (pairs : List PairRow) (put : List ℤ) (own : ℤ) → Clear (building_grounds m b call.Never put own) → node_order pairs Never ≡ order call.Never put own
never_back m b pairs [] own c = ap (order call.Never []) (zero_under own c.1.0)
never_back m b pairs (z ∷ zs) own c = let e = parts_are (z ∷ zs) 0 c.0 in absurd (omega arith)

-- pairs of known constructors and nodes come back from their rows
pairs_known : {A B : Type 0} (xs : List A) (ys : List B) (zs : List ℤ) → length zs % 2 ≡ 0 → any_unknown xs (evens zs) ≡ false → any_unknown ys (odds zs) ≡ false → pair_numbers (pair_rows zs) ≡ zs
pairs_known xs ys [] l h k = refl
pairs_known xs ys (c ∷ []) l h k = absurd (omega arith)
pairs_known xs ys (c ∷ n ∷ zs) l h k =
    let p = or_parts (unknown xs c) (any_unknown xs (evens zs)) h in
    let q = or_parts (unknown ys n) (any_unknown ys (odds zs)) k in
    ap₂ (λ x y. x ∷ y ∷ pair_numbers (pair_rows zs)) (natural_known xs c p.0) (natural_known ys n q.0)
    ∙ ap (λ l. c ∷ n ∷ l) (pairs_known xs ys zs (omega arith) p.1 q.1)

new_pairs : (old new : List PairRow) → take (length new) (drop (length old) (old ++ new)) ≡ new
new_pairs old new = ap (take (length new)) (drop_at old new (length old) refl) ∙ take_all (length new) new (omega arith)

other_back : {A : Type 0} (xs : List A) (z : ℤ) → (not (is_minus_one z) && unknown xs z) ≡ false → or_minus_one (optional z) ≡ z
other_back xs (pos n) h = refl
other_back xs (negsuc n) h =
    ⊎_elim (λ e. ap negsuc (sym (eqb-true n 0 (not-false (eqb n 0) e)))) (λ e. absurd (true≢false e)) (and_cases (not (eqb n 0)) true h)

pub switch_back : (m : Measure) (b : Book) (put : List ℤ) (own : ℤ) → Clear (building_grounds m b call.Switch put own)
    → node_order (b.pairs ++ pair_rows (drop 1 put)) (switch_row (length b.pairs) put own) ≡ order call.Switch put own
switch_back m b [] own c = absurd (true≢false c.0)
switch_back m b (z ∷ zs) own c =
    let k = or_parts (unknown (places_of b) own) ((not (is_minus_one z) && unknown b.nodes z) || (any_unknown b.constructors (evens zs) || any_unknown b.nodes (odds zs))) c.1.0 in
    let j = or_parts (not (is_minus_one z) && unknown b.nodes z) (any_unknown b.constructors (evens zs) || any_unknown b.nodes (odds zs)) k.1 in
    let i = or_parts (any_unknown b.constructors (evens zs)) (any_unknown b.nodes (odds zs)) j.1 in
    let odd = eqb-false (suc (length zs) % 2) 0 c.0 in
    ap₂ (λ x y. order call.Switch (x ∷ y) (pos (natural own))) (other_back b.nodes z j.0)
    (ap pair_numbers (new_pairs b.pairs (pair_rows zs)) ∙ pairs_known b.constructors b.nodes zs (omega arith) i.0 i.1)
    ∙ ap (order call.Switch (z ∷ zs)) (natural_known (places_of b) own k.0)

pub test_back : (m : Measure) (b : Book) (pairs : List PairRow) (put : List ℤ) (own : ℤ) → Clear (building_grounds m b call.Test put own) → node_order pairs (test_row put own) ≡ order call.Test put own
test_back m b pairs [] own c = let e = parts_are [] 3 c.0 in absurd (omega arith)
test_back m b pairs (t ∷ []) own c = let e = parts_are (t ∷ []) 3 c.0 in absurd (omega arith)
test_back m b pairs (t ∷ y ∷ []) own c = let e = parts_are (t ∷ y ∷ []) 3 c.0 in absurd (omega arith)
test_back m b pairs (t ∷ y ∷ n ∷ []) own c =
    let k = or_parts (unknown (places_of b) own) (unknown b.nodes y || unknown b.nodes n) c.1.0 in
    let j = or_parts (unknown b.nodes y) (unknown b.nodes n) k.1 in
    ap₂ (λ u v. order call.Test (t ∷ u ∷ v ∷ []) (pos (natural own))) (natural_known b.nodes y j.0) (natural_known b.nodes n j.1)
    ∙ ap (order call.Test (t ∷ y ∷ n ∷ [])) (natural_known (places_of b) own k.0)
test_back m b pairs (t ∷ y ∷ n ∷ z ∷ zs) own c = let e = parts_are (t ∷ y ∷ n ∷ z ∷ zs) 3 c.0 in absurd (omega arith)

ask_parts : (put : List ℤ) → (ltb (length put) 2 || ltb 6 (length put)) ≡ false → (2 ≤ length put) × (length put ≤ 6)
ask_parts put h = let p = or_parts (ltb (length put) 2) (ltb 6 (length put)) h in (ltb-false (length put) 2 p.0, ltb-false 6 (length put) p.1)

pub ask_back : (m : Measure) (b : Book) (pairs : List PairRow) (put : List ℤ) (own : ℤ) → Clear (building_grounds m b call.Ask put own) → node_order pairs (ask_row put own) ≡ order call.Ask put own
ask_back m b pairs [] own c = let e = ask_parts [] c.0 in absurd (omega arith)
ask_back m b pairs (y ∷ []) own c = let e = ask_parts (y ∷ []) c.0 in absurd (omega arith)
ask_back m b pairs (y ∷ n ∷ zs) own c =
    let l = ask_parts (y ∷ n ∷ zs) c.0 in
    let k = or_parts (not (is_code own)) ((unknown b.nodes y || unknown b.nodes n) || any_unknown (places_of b) zs) c.1.0 in
    let j = or_parts (unknown b.nodes y || unknown b.nodes n) (any_unknown (places_of b) zs) k.1 in
    let i = or_parts (unknown b.nodes y) (unknown b.nodes n) j.0 in
    ap₂ (λ u v. order call.Ask (u ∷ v ∷ map pos (up_to_four (naturals zs))) (pos (natural own))) (natural_known b.nodes y i.0) (natural_known b.nodes n i.1)
    ∙ ap₂ (λ u v. order call.Ask (y ∷ n ∷ u) v) (numbers_known (places_of b) zs (omega arith) j.1) (natural-under 65536 own k.0)
