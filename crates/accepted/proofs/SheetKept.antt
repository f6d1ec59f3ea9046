-- In every workbook that calls can make, patterns and clauses fit their types and keep their limits.
use Rattle.std.proofs.Common.{◌≡◌, ℕ, ◌+◌, ◌<◌, ◌≤◌, false, List, [], ◌∷◌, ◌++◌, map, length, ℤ, pos, Some, None, Option, sym, refl, ap, ◌∙◌, subst, ap₂, arith}
use Rattle.std.specs.List.{AllByRecursion, slice_get, All}
use Rattle.std.proofs.lemmas.List.{map_push, length_push, length-map, get_or_append_left}
use Rattle.std.proofs.lemmas.Bool.{true≢false, ltb-false, leb-false, or_parts}
use Rattle.measure.specs.Measure.{Measure}
use Rattle.pattern_file.specs.declared.names.CallName.{CallName}
use Rattle.pattern_file.specs.declared.names.CallName.TheVariants as call
use Rattle.rules.specs.declared.rows.TypeRow.{TypeRow}
use Rattle.rules.specs.declared.rows.TypeRow.TheVariants.{Choice, Measured}
use Rattle.rules.specs.declared.rows.ConstructorRow.{ConstructorRow}
use Rattle.rules.specs.declared.rows.PatternRow.{PatternRow}
use Rattle.rules.specs.declared.rows.ClauseRow.{ClauseRow}
use Rattle.rules.specs.Book.{Book, Schema, empty_book, schema_of, fields_in, is_measured, most_clauses}
use Rattle.rules.specs.Sheets.{Pattern, any, Clause, clause_from, clauses_of, pattern_from, patterns_of, levels, weight}
use Rattle.rules.specs.Rows.{type_row, constructor_row, any_row, bind_row, build_row, either_row, gauge_row, clause_row, part}
use Rattle.rules.specs.Grounds.{unknown, any_unknown, type_of_pattern, pattern_at, new_pattern, sheet_weight, building_grounds}
use Rattle.rules.specs.Calls.{add_pattern, add_clause, made_by, without_sheet, without_tree, with_pass}
use Rattle.rules.specs.Files.{constructor_order}
use Rattle.rules.specs.RoundTrip.{Reached, start, next}
use Rattle.rules.proofs.Lists.{AllByRecursion-slice_get, Clear, Clear-from_none, Begins, Begins-itself, Begins-append, known, unfolded-push, length-unfolded, AllByRecursion-push, AllByRecursion-weaker}
use Rattle.rules.proofs.Chains.{Chain}
use Rattle.rules.proofs.Wider.{tables}
use Rattle.rules.proofs.Kept.{SoundBook, Reached-sound, after_keeps}
use Rattle.theory.specs.Runs.{PatternFits, SheetFits}
use Rattle.shown.specs.ShownGarment.{FourFields}
use Rattle.accepted.proofs.Known.{known_under, not_different}
use Rattle.accepted.proofs.Patterns.{ConstructorFits, Fitted, earlier, type_named, any_fits, bind_fits, build_fits, either_fits, gauge_fits, fits_wider, Fitted-wider}
use Rattle.std.proofs.lemmas.List.Elements.{All-from_recursion}

-- ── constructors ──

pub choice_row : (row : TypeRow) → is_measured (Some row) ≡ false → row ≡ Choice
choice_row Choice h = refl
choice_row (Measured s) h = absurd (true≢false h)

constructors_fit : (m : Measure) (ts : List TypeRow) (cs rows : List ConstructorRow) (end : Book) → Chain m (tables ts cs [] [] []) (map constructor_order rows) end → AllByRecursion (ConstructorFits ts) rows
constructors_fit m ts cs [] end c = tt
constructors_fit m ts cs (r ∷ rows) end c =
    let put : List ℤ = map pos r.fields in
    let g = Clear-from_none (building_grounds m (tables ts cs [] [] []) call.Constructor put (pos r.owner)) c.0 in
    let k = known ts (pos r.owner) (or_parts (unknown ts (pos r.owner)) (any_unknown ts put) g.1.0).0 in
    let choice = choice_row k.0 (sym (ap is_measured k.1) ∙ g.1.1.0) in
    let few = ltb-false 4 (length put) g.0 in
    let e = length-map r.fields pos in
    (record { choice = k.1 ∙ ap Some choice; few = omega arith }, constructors_fit m ts (cs ++ constructor_row put (pos r.owner) ∷ []) rows end c.1)

pub sound_constructors : (m : Measure) (b : Book) → SoundBook m b → AllByRecursion (ConstructorFits b.types) b.constructors
sound_constructors m b s = constructors_fit m b.types [] b.constructors (tables b.types b.constructors [] [] []) s.constructors

few_in : (ts : List TypeRow) (cs : List ConstructorRow) (c : ℕ) (o : Option ConstructorRow) → slice_get cs c ≡ o → AllByRecursion (ConstructorFits ts) cs → length (fields_in o) ≤ 4
few_in ts cs c None e a = omega arith
few_in ts cs c (Some r) e a = (AllByRecursion-slice_get (ConstructorFits ts) cs c r a e).few

pub four_fields : (ts : List TypeRow) (cs : List ConstructorRow) → AllByRecursion (ConstructorFits ts) cs → FourFields (record { types = ts; constructors = cs })
four_fields ts cs a c = few_in ts cs c (slice_get cs c) refl a

-- ── patterns and clauses ──

-- the clause's pattern fits type 0, and has at most 16 levels
abbrev pub ClauseFits : Schema → Clause → Type 0
ClauseFits d k = PatternFits d 0 k.pattern × (levels k.pattern ≤ 16)

-- the row names a pattern
abbrev Names : ℕ → ClauseRow → Type 0
Names n r = r.pattern < n

-- all patterns fit; all clauses fit, name patterns, and keep the limits of a sheet
pub record SheetKept (b : Book) : Type 0 where
  pub patterns : AllByRecursion (Fitted (schema_of b)) (patterns_of b.patterns)
  pub clauses : AllByRecursion (ClauseFits (schema_of b)) (clauses_of b)
  pub naming : AllByRecursion (Names (length b.patterns)) b.clauses
  pub light : sheet_weight (clauses_of b) ≤ 256
  pub short : length b.clauses ≤ most_clauses

same_clauses : (xs : List Pattern) (x : Pattern) (rows : List ClauseRow) → AllByRecursion (Names (length xs)) rows → map (clause_from (xs ++ x ∷ [])) rows ≡ map (clause_from xs) rows
same_clauses xs x [] a = refl
same_clauses xs x (r ∷ rows) a =
    ap₂ (λ p ks. record { pattern = p; guard = r.guard; action = r.action } ∷ ks) (get_or_append_left xs (x ∷ []) (any 0) r.pattern a.0) (same_clauses xs x rows a.1)

pattern_kept : (b : Book) (r : PatternRow) → SheetKept b → Fitted (schema_of b) (new_pattern b r) → SheetKept (add_pattern b r)
pattern_kept b r s f =
    let xs : List Pattern = patterns_of b.patterns in
    let n = length-unfolded pattern_from [] b.patterns in
    let l = length_push b.patterns r in
    let pushed : patterns_of (b.patterns ++ r ∷ []) ≡ xs ++ new_pattern b r ∷ [] = unfolded-push pattern_from [] b.patterns r in
    let same : clauses_of (add_pattern b r) ≡ clauses_of b =
    ap (λ ps. map (clause_from ps) b.clauses) pushed ∙ same_clauses xs (new_pattern b r) b.clauses (AllByRecursion-weaker (Names (length b.patterns)) (Names (length xs)) (λ x h. omega arith) b.clauses s.naming) in
    record {
      patterns = subst (AllByRecursion (Fitted (schema_of b))) (sym pushed) (AllByRecursion-push (Fitted (schema_of b)) xs (new_pattern b r) s.patterns f);
      clauses = subst (AllByRecursion (ClauseFits (schema_of b))) (sym same) s.clauses;
      naming = AllByRecursion-weaker (Names (length b.patterns)) (Names (length (b.patterns ++ r ∷ []))) (λ x h. omega arith) b.clauses s.naming;
      light = subst (λ ks. sheet_weight ks ≤ 256) (sym same) s.light;
      short = s.short;
    }

weight-push : (ks : List Clause) (k : Clause) → sheet_weight (ks ++ k ∷ []) ≡ sheet_weight ks + weight k.pattern
weight-push [] k = omega arith
weight-push (j ∷ ks) k = let i = weight-push ks k in omega arith

clause_kept : (m : Measure) (b : Book) (put : List ℤ) (own : ℤ) → SheetKept b → Clear (building_grounds m b call.Clause put own) → SheetKept (add_clause b (clause_row put own))
clause_kept m b put own s c =
    let r : ClauseRow = clause_row put own in
    let k : Clause = clause_from (patterns_of b.patterns) r in
    let h = (or_parts (unknown b.patterns (part put 0)) _ c.1.0).0 in
    let f = earlier m b s.patterns (part put 0) h in
    let zero_typed : f.type ≡ 0 = not_different (type_of_pattern b (part put 0)) (Some 0) f.type 0 (type_named m b s.patterns (part put 0) h) refl c.1.1.0 in
    let room = leb-false most_clauses (length b.clauses) c.1.1.1.0 in
    let light = ltb-false 256 (sheet_weight (clauses_of b) + weight (pattern_at b (part put 0))) c.1.1.1.1.0 in
    let pushed = map_push (clause_from (patterns_of b.patterns)) b.clauses r in
    let w = ap sheet_weight pushed ∙ weight-push (clauses_of b) k in
    let l = length_push b.clauses r in
    record {
      patterns = s.patterns;
      clauses = subst (AllByRecursion (ClauseFits (schema_of b))) (sym pushed)
          (AllByRecursion-push (ClauseFits (schema_of b)) (clauses_of b) k s.clauses (subst (λ t. PatternFits (schema_of b) t k.pattern) zero_typed f.fits, f.flat));
      naming = AllByRecursion-push (Names (length b.patterns)) b.clauses r s.naming (known_under b.patterns (part put 0) h);
      light = omega arith;
      short = omega arith;
    }

-- more types and constructors
schema_wider : (b : Book) (us : List TypeRow) (ds : List ConstructorRow) → Begins b.types us → Begins b.constructors ds → SheetKept b
    → SheetKept (record { types = us; constructors = ds; patterns = b.patterns; clauses = b.clauses; places = b.places; nodes = b.nodes; pairs = b.pairs; out = b.out })
schema_wider b us ds types constructors s =
    let d : Schema = record { types = us; constructors = ds } in
    record {
      patterns = AllByRecursion-weaker (Fitted (schema_of b)) (Fitted d) (Fitted-wider b.types us b.constructors ds types constructors) (patterns_of b.patterns) s.patterns;
      clauses = AllByRecursion-weaker (ClauseFits (schema_of b)) (ClauseFits d) (λ k f. (fits_wider b.types us b.constructors ds types constructors k.pattern 0 f.0, f.1)) (clauses_of b) s.clauses;
      naming = s.naming;
      light = s.light;
      short = s.short;
    }

-- the same sheet over the same types
same_sheet : (b : Book) (e : Book) → SheetKept b → SheetKept (record { types = b.types; constructors = b.constructors; patterns = b.patterns; clauses = b.clauses; places = e.places; nodes = e.nodes; pairs = e.pairs; out = e.out })
same_sheet b e s = record { patterns = s.patterns; clauses = s.clauses; naming = s.naming; light = s.light; short = s.short }

made_kept : (m : Measure) (b : Book) (x : CallName) (put : List ℤ) (own : ℤ) → AllByRecursion (ConstructorFits b.types) b.constructors → SheetKept b → Clear (building_grounds m b x put own) → SheetKept (made_by b x put own)
made_kept m b call.«Type» put own a s c = schema_wider b (b.types ++ type_row own ∷ []) b.constructors (Begins-append b.types (type_row own ∷ [])) (Begins-itself b.constructors) s
made_kept m b call.Constructor put own a s c =
    schema_wider b b.types (b.constructors ++ constructor_row put own ∷ []) (Begins-itself b.types) (Begins-append b.constructors (constructor_row put own ∷ [])) s
made_kept m b call.Any put own a s c = pattern_kept b (any_row own) s (any_fits m b s.patterns put own c)
made_kept m b call.Bind put own a s c = pattern_kept b (bind_row put own) s (bind_fits m b s.patterns put own c)
made_kept m b call.Build put own a s c = pattern_kept b (build_row put own) s (build_fits m b s.patterns a put own c)
made_kept m b call.Either put own a s c = pattern_kept b (either_row put own) s (either_fits m b s.patterns put own c)
made_kept m b call.Gauge put own a s c = pattern_kept b (gauge_row put own) s (gauge_fits m b s.patterns put own c)
made_kept m b call.Clause put own a s c = clause_kept m b put own s c
made_kept m b call.Place put own a s c = same_sheet b (made_by b call.Place put own) s
made_kept m b call.Leaf put own a s c = same_sheet b (made_by b call.Leaf put own) s
made_kept m b call.Fail put own a s c = same_sheet b (made_by b call.Fail put own) s
made_kept m b call.Never put own a s c = same_sheet b (made_by b call.Never put own) s
made_kept m b call.Switch put own a s c = same_sheet b (made_by b call.Switch put own) s
made_kept m b call.Test put own a s c = same_sheet b (made_by b call.Test put own) s
made_kept m b call.Ask put own a s c = same_sheet b (made_by b call.Ask put own) s

no_sheet : (b : Book) → SheetKept (without_sheet b)
no_sheet b = record { patterns = tt; clauses = tt; naming = tt; light = omega arith; short = omega arith }

pub Reached-sheet : (m : Measure) (b : Book) → Reached m b → SheetKept b
Reached-sheet m b start = no_sheet empty_book
Reached-sheet m b (next old c o r h) =
    let s = Reached-sheet m old r in
    after_keeps SheetKept m old c o h s (λ x put own. made_kept m old x put own (sound_constructors m old (Reached-sound m old r)) s) (no_sheet old)
    (same_sheet old (without_tree old) s) (λ out. same_sheet old (with_pass old out) s)

-- ── the sheet of a workbook ──

pub sheet_fits : (d : Schema) (ks : List Clause) → AllByRecursion (ClauseFits d) ks → SheetFits d ks
sheet_fits d [] a = tt
sheet_fits d (k ∷ ks) a = (a.0.0, sheet_fits d ks a.1)

pub sheet_flat : (d : Schema) (ks : List Clause) → AllByRecursion (ClauseFits d) ks → All (λ k. levels k.pattern ≤ 16) ks
sheet_flat d ks a =
    All-from_recursion (λ k. levels k.pattern ≤ 16) ks (AllByRecursion-weaker (ClauseFits d) (λ k. levels k.pattern ≤ 16) (λ k f. f.1) ks a)
