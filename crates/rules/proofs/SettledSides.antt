-- A pattern settled on a value binds the same there as before, and so a sheet of settled patterns answers the same.
use Rattle.std.proofs.Common.{◌≡◌, ℕ, suc, true, false, cond, eqb, List, [], ◌∷◌, map, Some, None, Option, sym, refl, ap, ◌∙◌, ap₂}
use Rattle.std.proofs.lemmas.Bool.{and_from}
use Rattle.measure.specs.Measure.{Measure, gives}
use Rattle.guards.specs.Questions.{Rule}
use Rattle.rules.specs.Garments.{Value, Values, built, measured, no_values, with_value, Place, whole}
use Rattle.rules.specs.Sheets.{Pattern, Patterns, any, bind, build, either, gauge, no_patterns, with_pattern, Binding, Bound, both, or_else, binding, field, matches, matches_all, Clause, list_of, question, tried, sheet_answer}
use Rattle.rules.specs.Settled.{no_either, no_eithers, first_side, matches_if, parts_of, first_value, others_of, settled, settled_all, settled_clause, NoNeverRetries}

module _ (m : Measure) where
  side_without : (b : Bound) (l r : Pattern) → no_either l ≡ true → no_either r ≡ true → no_either (first_side b l r) ≡ true
  side_without None l r h k = k
  side_without (Some bs) l r h k = h

  mutual
    without : (q : Pattern) (p : Place) (o : Option Value) → no_either (settled m q p o) ≡ true
    without (any t) p o = refl
    without (bind x q) p o = without q p o
    without (build c qs) p o = all_without qs p c 0 (parts_of o)
    without (either l r) p o = side_without (matches_if m l p o) (settled m l p o) (settled m r p o) (without l p o) (without r p o)
    without (gauge t w q) p o = without q p o

    all_without : (qs : Patterns) (p : Place) (c i : ℕ) (vs : Values) → no_eithers (settled_all m qs p c i vs) ≡ true
    all_without no_patterns p c i vs = refl
    all_without (with_pattern q qs) p c i vs =
        and_from (no_either (settled m q (field p c i) (first_value vs))) (no_eithers (settled_all m qs p c (suc i) (others_of vs)))
        (without q (field p c i) (first_value vs)) (all_without qs p c (suc i) (others_of vs))

  -- the side that matches first binds what the alternation binds
  side_binds : (b : Bound) (p : Place) (v : Value) (l r : Pattern) (left right : Bound) → left ≡ b → matches m l p v ≡ left → matches m r p v ≡ right
      → matches m (first_side b l r) p v ≡ or_else left right
  side_binds None p v l r left right e h k = k ∙ ap (λ z. or_else z right) (sym e)
  side_binds (Some bs) p v l r left right e h k = h ∙ e ∙ ap (λ z. or_else z right) (sym e)

  mutual
    binds_same : (q : Pattern) (p : Place) (v : Value) → matches m (settled m q p (Some v)) p v ≡ matches m q p v
    binds_same (any t) p v = refl
    binds_same (bind x q) p v = ap (binding x p) (binds_same q p v)
    binds_same (build c qs) p (built d vs) = ap (λ b. cond (eqb d c) b None) (all_bind_same qs p c 0 vs)
    binds_same (build c qs) p (measured s a) = refl
    binds_same (either l r) p v =
        side_binds (matches m l p v) p v (settled m l p (Some v)) (settled m r p (Some v)) (matches m l p v) (matches m r p v) refl (binds_same l p v) (binds_same r p v)
    binds_same (gauge t w q) p (built c vs) = refl
    binds_same (gauge t w q) p (measured s a) = ap (λ b. cond (gives w (m.passes s t a)) b None) (binds_same q p (measured s a))

    all_bind_same : (qs : Patterns) (p : Place) (c i : ℕ) (vs : Values) → matches_all m (settled_all m qs p c i vs) p c i vs ≡ matches_all m qs p c i vs
    all_bind_same no_patterns p c i vs = refl
    all_bind_same (with_pattern q qs) p c i no_values = refl
    all_bind_same (with_pattern q qs) p c i (with_value v vs) = ap₂ both (binds_same q (field p c i) v) (all_bind_same qs p c (suc i) vs)

  answers_same : (ks : List Clause) (v : Value) (rule : Rule) → sheet_answer m (map (settled_clause m v) ks) v rule ≡ sheet_answer m ks v rule
  answers_same [] v rule = refl
  answers_same (k ∷ ks) v rule =
      ap₂ (tried rule (settled_clause m v k)) (binds_same k.pattern whole v) (answers_same ks v rule)
      ∙ same_guard (matches m k.pattern whole v)
    where
      same_guard : (b : Bound) → tried rule (settled_clause m v k) b (sheet_answer m ks v rule) ≡ tried rule k b (sheet_answer m ks v rule)
      same_guard None = refl
      same_guard (Some bs) = refl

  goes_on : (left right : Pattern) (g action : ℕ) (after : List Clause) (v : Value) (rule : Rule) (bs : List Binding)
      → matches m left whole v ≡ Some bs → rule (question g (list_of bs)) ≡ false
      → sheet_answer m (record { pattern = either left right; guard = Some g; action = action } ∷ after) v rule ≡ sheet_answer m after v rule
  goes_on left right g action after v rule bs e h = rw (e, h) refl

pub no_never_retries : NoNeverRetries
no_never_retries = record {
  without_either = λ m q p v. without m q p (Some v);
  same_bindings = binds_same;
  same_answer = answers_same;
  first_sides_count = λ m ks others v rule e. sym (answers_same m ks v rule) ∙ ap (λ l. sheet_answer m l v rule) e ∙ answers_same m others v rule;
  no_retry = goes_on;
}
