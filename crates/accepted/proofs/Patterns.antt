-- Every pattern that calls accept fits a type that the workbook knows, and so it does where there are more types and constructors.
use Rattle.std.proofs.Common.{◌≡◌, ℕ, ◌≤◌, false, not, ◌&&◌, eqb, List, [], ◌∷◌, length, ℤ, pos, negsuc, is_some, Some, None, Option, sym, refl, ap, ◌∙◌, subst, arith}
use Rattle.std.specs.List.{AllByRecursion, slice_get}
use Rattle.std.proofs.lemmas.Bool.{true≢false, ltb-false, eqb-true, not-false, or_parts}
use Rattle.measure.specs.Measure.{Measure}
use Rattle.guards.specs.Questions.{and_then}
use Rattle.pattern_file.specs.declared.names.CallName.TheVariants as call
use Rattle.rules.specs.declared.rows.TypeRow.{TypeRow}
use Rattle.rules.specs.declared.rows.TypeRow.TheVariants.{Choice, Measured}
use Rattle.rules.specs.declared.rows.ConstructorRow.{ConstructorRow}
use Rattle.rules.specs.Tables.{natural, naturals, up_to_four, named}
use Rattle.rules.specs.Book.{Book, Schema, schema_of, fields_in, fields_of, owner_in, owner_of, is_choice}
use Rattle.rules.specs.Sheets.{Pattern, Patterns, any, bind, build, either, gauge, no_patterns, with_pattern, patterns_at, pattern_from, patterns_of, levels, pattern_type}
use Rattle.rules.specs.Rows.{part, any_row, bind_row, build_row, either_row, gauge_row}
use Rattle.rules.specs.Grounds.{unknown, any_unknown, row_of, type_of_pattern, parts_differ, differ, pattern_at, new_pattern, building_grounds}
use Rattle.rules.proofs.Lists.{AllByRecursion-slice_get, Clear, Begins, slice_get-Begins, known, length-unfolded, length-naturals, up_to_four_all, AllByRecursion-get_or}
use Rattle.theory.specs.Runs.{PatternFits, PatternsFit}
use Rattle.accepted.proofs.Known.{known_under, named_meaning, not_different}
use Rattle.std.proofs.lemmas.Option.{none-some}

-- a constructor of a choice, with at most four fields
pub record ConstructorFits (ts : List TypeRow) (r : ConstructorRow) : Type 0 where
  pub choice : slice_get ts r.owner ≡ Some Choice
  pub few : length r.fields ≤ 4

-- a pattern that fits its type, a known one, of at most 16 levels
pub record Fitted (d : Schema) (p : Pattern) : Type 0 where
  pub type : ℕ
  pub row : TypeRow
  pub typed : pattern_type d p ≡ Some type
  pub known_type : slice_get d.types type ≡ Some row
  pub fits : PatternFits d type p
  pub flat : levels p ≤ 16

pub slice_get-natural : {A : Type 0} (xs : List A) (z : ℤ) (x : A) → named xs z ≡ Some x → slice_get xs (natural z) ≡ Some x
slice_get-natural xs (pos n) x h = h
slice_get-natural xs (negsuc n) x h = absurd (none-some x h)

pub measured_row : (row : TypeRow) → is_choice (Some row) ≡ false → (s : ℕ) × (row ≡ Measured s)
measured_row Choice h = absurd (true≢false h)
measured_row (Measured s) h = (s, refl)

module _ (m : Measure) (b : Book) (fitting : AllByRecursion (Fitted (schema_of b)) (patterns_of b.patterns)) where
  -- a known pattern
  pub earlier : (z : ℤ) → unknown b.patterns z ≡ false → Fitted (schema_of b) (pattern_at b z)
  earlier z h =
      let l = known_under b.patterns z h in
      let e = length-unfolded pattern_from [] b.patterns in
      AllByRecursion-get_or (Fitted (schema_of b)) (patterns_of b.patterns) (natural z) (any 0) (omega arith) fitting

  pub type_named : (z : ℤ) (h : unknown b.patterns z ≡ false) → type_of_pattern b z ≡ Some (earlier z h).type
  type_named z h =
      let e = length-unfolded pattern_from [] b.patterns in
      ap (λ o. and_then o (pattern_type (schema_of b))) (named_meaning b.patterns (patterns_of b.patterns) z (any 0) (omega arith) h) ∙ (earlier z h).typed

  pub any_fits : (put : List ℤ) (own : ℤ) → Clear (building_grounds m b call.Any put own) → Fitted (schema_of b) (new_pattern b (any_row own))
  any_fits put own c =
      let k = known b.types own c.1.0 in
      record { type = natural own; row = k.0; typed = refl; known_type = slice_get-natural b.types own k.0 k.1; fits = tt; flat = omega arith }

  pub bind_fits : (put : List ℤ) (own : ℤ) → Clear (building_grounds m b call.Bind put own) → Fitted (schema_of b) (new_pattern b (bind_row put own))
  bind_fits put own c =
      let f = earlier (part put 0) c.1.0 in
      record { type = f.type; row = f.row; typed = f.typed; known_type = f.known_type; fits = f.fits; flat = f.flat }

  pub either_fits : (put : List ℤ) (own : ℤ) → Clear (building_grounds m b call.Either put own) → Fitted (schema_of b) (new_pattern b (either_row put own))
  either_fits put own c =
      let k = or_parts (unknown b.patterns (part put 0)) (unknown b.patterns own) c.1.0 in
      let f = earlier (part put 0) k.0 in
      let g = earlier own k.1 in
      let same = not_different (type_of_pattern b (part put 0)) (type_of_pattern b own) f.type g.type (type_named (part put 0) k.0) (type_named own k.1)
      (or_parts (differ (type_of_pattern b (part put 0)) (type_of_pattern b own)) _ c.1.1.0).0 in
      let l = f.flat in
      let r = g.flat in
      record {
        type = f.type;
        row = f.row;
        typed = f.typed;
        known_type = f.known_type;
        fits = (f.fits, subst (λ t. PatternFits (schema_of b) t (pattern_at b own)) (sym same) g.fits);
        flat = omega arith;
      }

  pub gauge_fits : (put : List ℤ) (own : ℤ) → Clear (building_grounds m b call.Gauge put own) → Fitted (schema_of b) (new_pattern b (gauge_row put own))
  gauge_fits put own c =
      let h = (or_parts (unknown b.patterns own) _ c.1.0).0 in
      let f = earlier own h in
      let e : row_of (schema_of b) (type_of_pattern b own) ≡ Some f.row = ap (row_of (schema_of b)) (type_named own h) ∙ f.known_type in
      let k = measured_row f.row (sym (ap is_choice e) ∙ c.1.1.0) in
      record {
        type = f.type;
        row = f.row;
        typed = f.typed;
        known_type = f.known_type;
        fits = ((k.0, f.known_type ∙ ap Some k.1), f.fits);
        flat = f.flat;
      }

  parts_fit : (put : List ℤ) (ts : List ℕ) → length put ≡ length ts → any_unknown b.patterns put ≡ false → parts_differ b put ts ≡ false
      → PatternsFit (schema_of b) ts (patterns_at (patterns_of b.patterns) (naturals put))
  parts_fit [] [] l h k = tt
  parts_fit [] (t ∷ ts) l h k = absurd (omega arith)
  parts_fit (z ∷ put) [] l h k = absurd (omega arith)
  parts_fit (z ∷ put) (t ∷ ts) l h k =
      let i = or_parts (unknown b.patterns z) (any_unknown b.patterns put) h in
      let j = or_parts (differ (type_of_pattern b z) (Some t)) (parts_differ b put ts) k in
      let f = earlier z i.0 in
      let same = not_different (type_of_pattern b z) (Some t) f.type t (type_named z i.0) refl j.0 in
      (subst (λ u. PatternFits (schema_of b) u (pattern_at b z)) same f.fits, parts_fit put ts (omega arith) i.1 j.1)

  pub build_fits : AllByRecursion (ConstructorFits b.types) b.constructors → (put : List ℤ) (own : ℤ) → Clear (building_grounds m b call.Build put own) → Fitted (schema_of b) (new_pattern b (build_row put own))
  build_fits constructors put own c =
      let k = or_parts (unknown b.constructors own) (any_unknown b.patterns put) c.1.0 in
      let r = known b.constructors own k.0 in
      let at = slice_get-natural b.constructors own r.0 r.1 in
      let f = AllByRecursion-slice_get (ConstructorFits b.types) b.constructors (natural own) r.0 constructors at in
      let wrong : (not (eqb (length put) (length r.0.fields))) ≡ false
      = sym (ap (λ (o : Option ConstructorRow). is_some o && not (eqb (length put) (length (fields_in o)))) r.1) ∙ c.0 in
      let long = eqb-true (length put) (length r.0.fields) (not-false (eqb (length put) (length r.0.fields)) wrong) in
      let differs : parts_differ b put r.0.fields ≡ false = sym (ap (λ (o : Option ConstructorRow). parts_differ b put (fields_in o)) r.1) ∙ c.1.1.0 in
      let few = f.few in
      let count = length-naturals put in
      let numbers = up_to_four_all (naturals put) (omega arith) in
      let parts = parts_fit put r.0.fields long k.1 differs in
      let owner : owner_of (schema_of b) (natural own) ≡ Some r.0.owner = ap owner_in at in
      let flat = ltb-false 16 (levels (new_pattern b (build_row put own))) c.1.1.1.1.0 in
      record {
        type = r.0.owner;
        row = Choice;
        typed = owner;
        known_type = f.choice;
        fits = (
          f.choice,
          owner,
          subst (λ ts. PatternsFit (schema_of b) ts (patterns_at (patterns_of b.patterns) (up_to_four (naturals put)))) (sym (ap fields_in at))
              (subst (λ ns. PatternsFit (schema_of b) r.0.fields (patterns_at (patterns_of b.patterns) ns)) (sym numbers) parts),
        );
        flat = omega arith;
      }

-- ── more types and constructors ──

abbrev pub schema : List TypeRow → List ConstructorRow → Schema
schema ts cs = record { types = ts; constructors = cs }

some_owner : (o : Option ConstructorRow) (t : ℕ) → owner_in o ≡ Some t → (r : ConstructorRow) × (o ≡ Some r)
some_owner None t h = absurd (none-some t h)
some_owner (Some r) t h = (r, refl)

module _ (ts us : List TypeRow) (cs ds : List ConstructorRow) (types : Begins ts us) (constructors : Begins cs ds) where
  same_constructor : (c t : ℕ) → owner_of (schema ts cs) c ≡ Some t → slice_get ds c ≡ slice_get cs c
  same_constructor c t h = let r = some_owner (slice_get cs c) t h in slice_get-Begins cs ds c r.0 constructors r.1 ∙ sym r.1

  pub owner_wider : (c t : ℕ) → owner_of (schema ts cs) c ≡ Some t → owner_of (schema us ds) c ≡ Some t
  owner_wider c t h = ap owner_in (same_constructor c t h) ∙ h

  type_wider : (p : Pattern) (t : ℕ) → pattern_type (schema ts cs) p ≡ Some t → pattern_type (schema us ds) p ≡ Some t
  type_wider (any u) t h = h
  type_wider (bind x q) t h = type_wider q t h
  type_wider (build c qs) t h = owner_wider c t h
  type_wider (either l r) t h = type_wider l t h
  type_wider (gauge k w q) t h = type_wider q t h

  mutual
    pub fits_wider : (p : Pattern) (t : ℕ) → PatternFits (schema ts cs) t p → PatternFits (schema us ds) t p
    fits_wider (any u) t f = tt
    fits_wider (bind x q) t f = fits_wider q t f
    fits_wider (build c qs) t f = (
      slice_get-Begins ts us t Choice types f.0,
      owner_wider c t f.1,
      subst (λ l. PatternsFit (schema us ds) l qs) (sym (ap fields_in (same_constructor c t f.1))) (all_wider qs (fields_of (schema ts cs) c) f.2),
    )
    fits_wider (either l r) t f = (fits_wider l t f.0, fits_wider r t f.1)
    fits_wider (gauge k w q) t f = ((f.0.0, slice_get-Begins ts us t (Measured f.0.0) types f.0.1), fits_wider q t f.1)

    all_wider : (qs : Patterns) (l : List ℕ) → PatternsFit (schema ts cs) l qs → PatternsFit (schema us ds) l qs
    all_wider no_patterns [] f = tt
    all_wider no_patterns (t ∷ l) f = absurd f
    all_wider (with_pattern q qs) [] f = absurd f
    all_wider (with_pattern q qs) (t ∷ l) f = (fits_wider q t f.0, all_wider qs l f.1)

  pub Fitted-wider : (p : Pattern) → Fitted (schema ts cs) p → Fitted (schema us ds) p
  Fitted-wider p f = record {
    type = f.type;
    row = f.row;
    typed = type_wider p f.type f.typed;
    known_type = slice_get-Begins ts us f.type f.row types f.known_type;
    fits = fits_wider p f.type f.fits;
    flat = f.flat;
  }
