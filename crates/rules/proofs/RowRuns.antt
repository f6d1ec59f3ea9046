-- The table of rows gives what the direct recursion of matching gives, and nothing else.
use Rattle.std.proofs.Common.{◌≡◌, ℕ, suc, Bool, true, false, cond, eqb, List, [], ◌∷◌, ℤ, Some, None, sym, refl, ap, ◌∙◌, subst, ap₂, append_assoc, append-nil}
use Rattle.std.proofs.lemmas.Bool.{eqb-true, eqb-false, eq-eqb, ne_eqb, true≢false}
use Rattle.measure.specs.Measure.{Measure, gives}
use Rattle.rules.specs.Garments.{Value, Values, built, measured, no_values, with_value, Place}
use Rattle.rules.specs.Sheets.{Pattern, Patterns, any, bind, build, either, gauge, no_patterns, with_pattern, Bound, both, or_else, binding, field, matches, matches_all}
use Rattle.rules.specs.RowTable.{Located, ◌at◌, patterns_onto, fields_onto, as_many, Runs, nothing_left, everything, variable, same_constructor, other_constructor, other_number, not_built, alternation, wanted_answer, other_answer, not_measured, MatchingsAgree}

-- ── what is bound by both ──

both_end : (a : Bound) → both a (Some []) ≡ a
both_end None = refl
both_end (Some xs) = ap Some (append-nil xs)

both_assoc : (a b c : Bound) → both (both a b) c ≡ both a (both b c)
both_assoc None b c = refl
both_assoc (Some xs) None c = refl
both_assoc (Some xs) (Some ys) None = refl
both_assoc (Some xs) (Some ys) (Some zs) = ap Some (append_assoc xs ys zs)

both-binding : (x : ℕ) (p : Place) (a b : Bound) → both (binding x p a) b ≡ binding x p (both a b)
both-binding x p None b = refl
both-binding x p (Some xs) None = refl
both-binding x p (Some xs) (Some ys) = refl

both_or_else : (a b c : Bound) → both (or_else a b) c ≡ or_else (both a c) (both b c)
both_or_else None b c = refl
both_or_else (Some xs) None None = refl
both_or_else (Some xs) (Some ys) None = refl
both_or_else (Some xs) b (Some zs) = refl

-- another number of fields fails
all_fails : (m : Measure) (qs : Patterns) (p : Place) (c i : ℕ) (vs : Values) → as_many qs vs ≡ false → matches_all m qs p c i vs ≡ None
all_fails m no_patterns p c i no_values e = absurd (true≢false e)
all_fails m no_patterns p c i (with_value v vs) e = refl
all_fails m (with_pattern q qs) p c i no_values e = refl
all_fails m (with_pattern q qs) p c i (with_value v vs) e = ap (both (matches m q (field p c i) v)) (all_fails m qs p c _ vs e) ∙ none_right (matches m q (field p c i) v)
  where
    none_right : (a : Bound) → both a None ≡ None
    none_right None = refl
    none_right (Some xs) = refl

-- ── the direct result is a result of the table ──

module _ (m : Measure) where
  abbrev result : {qs : List Pattern} {vs : List Located} {r s : Bound} → r ≡ s → Runs m qs vs r → Runs m qs vs s
  result {qs} {vs} e d = subst (Runs m qs vs) e d

  gauge_runs : (t : ℤ) (w b : Bool) (q : Pattern) (p : Place) (s : ℕ) (a : ℤ) (qs : List Pattern) (vs : List Located) (r : Bound) → gives w (m.passes s t a) ≡ b
      → Runs m (q ∷ qs) (measured s a at p ∷ vs) (both (matches m q p (measured s a)) r)
      → Runs m (gauge t w q ∷ qs) (measured s a at p ∷ vs) (both (cond b (matches m q p (measured s a)) None) r)
  gauge_runs t w true q p s a qs vs r e d = wanted_answer e d
  gauge_runs t w false q p s a qs vs r e d = other_answer e

  build_runs : (c d : ℕ) (b e : Bool) (ps : Patterns) (fs : Values) (p : Place) (qs : List Pattern) (vs : List Located) (r : Bound) → eqb d c ≡ b → as_many ps fs ≡ e
      → (as_many ps fs ≡ true → Runs m (patterns_onto ps qs) (fields_onto p c 0 fs vs) (both (matches_all m ps p c 0 fs) r))
      → Runs m (build c ps ∷ qs) (built d fs at p ∷ vs) (both (cond b (matches_all m ps p c 0 fs) None) r)
  build_runs c d false e ps fs p qs vs r h k f = other_constructor (eqb-false d c h)
  build_runs c d true true ps fs p qs vs r h k f = rw (eqb-true d c h) (same_constructor k (f k))
  build_runs c d true false ps fs p qs vs r h k f = rw (eqb-true d c h, all_fails m ps p c 0 fs k) (other_number k)

  mutual
    runs_on : (q : Pattern) (p : Place) (v : Value) (qs : List Pattern) (vs : List Located) (r : Bound) → Runs m qs vs r → Runs m (q ∷ qs) (v at p ∷ vs) (both (matches m q p v) r)
    runs_on (any t) p v qs vs None d = everything d
    runs_on (any t) p v qs vs (Some xs) d = everything d
    runs_on (bind x q) p v qs vs r d = result (sym (both-binding x p (matches m q p v) r)) (variable (runs_on q p v qs vs r d))
    runs_on (build c ps) p (built e fs) qs vs r d = build_runs c e (eqb e c) (as_many ps fs) ps fs p qs vs r refl refl (λ k. fields_on ps p c 0 fs qs vs r k d)
    runs_on (build c ps) p (measured s a) qs vs r d = not_built
    runs_on (either left right) p v qs vs r d =
        result (sym (both_or_else (matches m left p v) (matches m right p v) r)) (alternation (runs_on left p v qs vs r d) (runs_on right p v qs vs r d))
    runs_on (gauge t w q) p (built c fs) qs vs r d = not_measured
    runs_on (gauge t w q) p (measured s a) qs vs r d =
        gauge_runs t w (gives w (m.passes s t a)) q p s a qs vs r refl (runs_on q p (measured s a) qs vs r d)

    fields_on : (ps : Patterns) (p : Place) (c i : ℕ) (fs : Values) (qs : List Pattern) (vs : List Located) (r : Bound) → as_many ps fs ≡ true → Runs m qs vs r
        → Runs m (patterns_onto ps qs) (fields_onto p c i fs vs) (both (matches_all m ps p c i fs) r)
    fields_on no_patterns p c i no_values qs vs None k d = d
    fields_on no_patterns p c i no_values qs vs (Some xs) k d = d
    fields_on no_patterns p c i (with_value v fs) qs vs r k d = absurd (true≢false (sym k))
    fields_on (with_pattern q ps) p c i no_values qs vs r k d = absurd (true≢false (sym k))
    fields_on (with_pattern q ps) p c i (with_value v fs) qs vs r k d =
        result (sym (both_assoc (matches m q (field p c i) v) (matches_all m ps p c (suc i) fs) r))
        (runs_on q (field p c i) v (patterns_onto ps qs) (fields_onto p c (suc i) fs vs) (both (matches_all m ps p c (suc i) fs) r) (fields_on ps p c (suc i) fs qs vs r k d))

  -- ── every result of the table is the direct one ──

  -- a row matched directly, one pattern after another
  abbrev row_matches : List Pattern → List Located → Bound
  row_matches [] [] = Some []
  row_matches [] (x ∷ vs) = None
  row_matches (q ∷ qs) [] = None
  row_matches (q ∷ qs) (v at p ∷ vs) = both (matches m q p v) (row_matches qs vs)

  any_row : (b : Bound) → both (Some []) b ≡ b
  any_row None = refl
  any_row (Some xs) = refl

  fields_row : (ps : Patterns) (p : Place) (c i : ℕ) (fs : Values) (qs : List Pattern) (vs : List Located) → as_many ps fs ≡ true
      → row_matches (patterns_onto ps qs) (fields_onto p c i fs vs) ≡ both (matches_all m ps p c i fs) (row_matches qs vs)
  fields_row no_patterns p c i no_values qs vs k = sym (any_row (row_matches qs vs))
  fields_row no_patterns p c i (with_value v fs) qs vs k = absurd (true≢false (sym k))
  fields_row (with_pattern q ps) p c i no_values qs vs k = absurd (true≢false (sym k))
  fields_row (with_pattern q ps) p c i (with_value v fs) qs vs k =
      ap (both (matches m q (field p c i) v)) (fields_row ps p c (suc i) fs qs vs k) ∙ sym (both_assoc (matches m q (field p c i) v) (matches_all m ps p c (suc i) fs) (row_matches qs vs))

  pub row_only : {qs : List Pattern} {vs : List Located} {r : Bound} → Runs m qs vs r → r ≡ row_matches qs vs
  row_only nothing_left = refl
  row_only (everything {qs = qs} {vs = vs} d) = row_only d ∙ sym (any_row (row_matches qs vs))
  row_only (variable {x = x} {q = q} {v = v} {p = p} {qs = qs} {vs = vs} d) = ap (binding x p) (row_only d) ∙ sym (both-binding x p (matches m q p v) (row_matches qs vs))
  row_only (same_constructor {c = c} {ps = ps} {fs = fs} {p = p} {qs = qs} {vs = vs} k d) =
      row_only d ∙ fields_row ps p c 0 fs qs vs k ∙ ap (λ b. both (cond b (matches_all m ps p c 0 fs) None) (row_matches qs vs)) (sym (eq-eqb c c refl))
  row_only (other_constructor {c = c} {d = e} {ps = ps} {fs = fs} {p = p} {qs = qs} {vs = vs} h) =
      ap (λ b. both (cond b (matches_all m ps p c 0 fs) None) (row_matches qs vs)) (sym (ne_eqb e c h))
  row_only (other_number {c = c} {ps = ps} {fs = fs} {p = p} {qs = qs} {vs = vs} k) =
      rw (all_fails m ps p c 0 fs k) (cond_none (eqb c c))
    where
      cond_none : (b : Bool) → None ≡ both (cond b None None) (row_matches qs vs)
      cond_none true = refl
      cond_none false = refl
  row_only not_built = refl
  row_only (alternation {left = left} {right = right} {v = v} {p = p} {qs = qs} {vs = vs} d e) =
      ap₂ or_else (row_only d) (row_only e) ∙ sym (both_or_else (matches m left p v) (matches m right p v) (row_matches qs vs))
  row_only (wanted_answer {t = t} {a = a} {w = w} {s = s} {q = q} {p = p} {qs = qs} {vs = vs} e d) =
      row_only d ∙ ap (λ b. both (cond b (matches m q p (measured s a)) None) (row_matches qs vs)) (sym e)
  row_only (other_answer {t = t} {a = a} {w = w} {s = s} {q = q} {p = p} {qs = qs} {vs = vs} e) =
      ap (λ b. both (cond b (matches m q p (measured s a)) None) (row_matches qs vs)) (sym e)
  row_only not_measured = refl

pub matchings_agree : MatchingsAgree
matchings_agree = record {
  runs = λ m q p v. result m (both_end (matches m q p v)) (runs_on m q p v [] [] (Some []) nothing_left);
  only = λ m q p v r d. row_only m d ∙ both_end (matches m q p v);
}
