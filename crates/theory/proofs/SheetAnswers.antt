-- The run of a sheet, executed in the world of a well-typed garment, gives the sheet's answer.
use Rattle.std.proofs.Common.{◌≡◌, ℕ, zero, suc, Bool, true, false, cond, eqb, List, [], ◌∷◌, ◌++◌, Some, None, Option, sym, refl, ap, ◌∙◌, subst}
use Rattle.std.proofs.lemmas.Bool.{eqb-true, eq-eqb}
use Rattle.measure.specs.Measure.{Measure, gives}
use Rattle.guards.specs.Questions.{Rule}
use Rattle.rules.specs.Book.{Schema, fields_of}
use Rattle.rules.specs.Garments.{Value, Values, built, measured, no_values, with_value, Place, whole, field_at, step_into, part_at, built_by, OfType, OfTypes}
use Rattle.rules.specs.Sheets.{Pattern, Patterns, any, bind, build, either, gauge, no_patterns, with_pattern, Binding, Bound, both, binding, or_else, field, matches, matches_all, Clause, list_of, Answer, acts, question, tried, sheet_answer}
use Rattle.rules.specs.Trees.{passes_at}
use Rattle.theory.specs.Runs.{Run, World, execute, world_of, pattern_run, patterns_run, guarded_run, sheet_run, PatternFits, PatternsFit, SheetFits}
use Rattle.rules.proofs.Facts.{choice≢measured}

-- ── going on by what was bound ──

-- with what is bound where there is a match, else otherwise
abbrev after : Bound → (List Binding → Answer) → Answer → Answer
after None next otherwise = otherwise
after (Some bs) next otherwise = next bs

after_binding : (x : ℕ) (p : Place) (o : Bound) (next : List Binding → Answer) (z : Answer)
    → after o (λ bs. next (record { variable = x; place = p } ∷ bs)) z ≡ after (binding x p o) next z
after_binding x p None next z = refl
after_binding x p (Some bs) next z = refl

after_prefix : (bs : List Binding) (o : Bound) (next : List Binding → Answer) (z : Answer) → after o (λ cs. next (bs ++ cs)) z ≡ after (both (Some bs) o) next z
after_prefix bs None next z = refl
after_prefix bs (Some cs) next z = refl

after_both : (o u : Bound) (then next : List Binding → Answer) (z : Answer)
    → ((bs : List Binding) → then bs ≡ after u (λ cs. next (bs ++ cs)) z) → after o then z ≡ after (both o u) next z
after_both None u then next z h = refl
after_both (Some bs) u then next z h = h bs ∙ after_prefix bs u next z

after_else : (o u : Bound) (next : List Binding → Answer) (y z : Answer) → y ≡ after u next z → after o next y ≡ after (or_else o u) next z
after_else None u next y z h = h
after_else (Some bs) u next y z h = refl

after-cond : (b : Bool) (o : Bound) (next : List Binding → Answer) (y z : Answer) → (b ≡ true → y ≡ after o next z) → cond b y z ≡ after (cond b o None) next z
after-cond true o next y z h = h refl
after-cond false o next y z h = refl

-- a test that passes or not, against the answer that is wanted
after_test : (b wanted : Bool) (o : Bound) (next : List Binding → Answer) (y z : Run) (w : World) → execute y w ≡ after o next (execute z w)
    → cond b (execute (cond wanted y z) w) (execute (cond wanted z y) w) ≡ after (cond (gives wanted b) o None) next (execute z w)
after_test true true o next y z w h = h
after_test true false o next y z w h = refl
after_test false true o next y z w h = refl
after_test false false o next y z w h = h

-- ── the fields of what is built at a place ──

-- the values stand in the fields of c at p, from field i on
abbrev InFields : Value → Place → ℕ → ℕ → Values → Type 0
InFields v p c i no_values = Unit {0}
InFields v p c i (with_value x xs) = (part_at v (field p c i) ≡ Some x) × InFields v p c (suc i) xs

-- the values from field i on
abbrev fields_from : ℕ → Values → Values
fields_from zero vs = vs
fields_from (suc i) no_values = no_values
fields_from (suc i) (with_value x vs) = fields_from i vs

abbrev first_value : Values → Option Value
first_value no_values = None
first_value (with_value x vs) = Some x

abbrev rest_of : Values → Values
rest_of no_values = no_values
rest_of (with_value x vs) = vs

first_from : (i : ℕ) (vs : Values) → field_at vs i ≡ first_value (fields_from i vs)
first_from zero no_values = refl
first_from zero (with_value x vs) = refl
first_from (suc i) no_values = refl
first_from (suc i) (with_value x vs) = first_from i vs

rest_from : (i : ℕ) (vs : Values) → fields_from (suc i) vs ≡ rest_of (fields_from i vs)
rest_from zero no_values = refl
rest_from zero (with_value x vs) = refl
rest_from (suc i) no_values = refl
rest_from (suc i) (with_value x vs) = rest_from i vs

field_part : (v : Value) (p : Place) (c i : ℕ) (vs : Values) → part_at v p ≡ Some (built c vs) → part_at v (field p c i) ≡ field_at vs i
field_part v p c i vs h = ap (step_into (record { constructor = c; field = i })) h ∙ ap (λ b. cond b (field_at vs i) None) (eq-eqb c c refl)

in_fields : (v : Value) (p : Place) (c : ℕ) (vs : Values) → part_at v p ≡ Some (built c vs) → (xs : Values) (i : ℕ) → fields_from i vs ≡ xs → InFields v p c i xs
in_fields v p c vs h no_values i e = tt
in_fields v p c vs h (with_value x xs) i e =
    (field_part v p c i vs h ∙ first_from i vs ∙ ap first_value e, in_fields v p c vs h xs (suc i) (rest_from i vs ∙ ap rest_of e))

-- ── patterns, clauses, sheets ──

module _ (m : Measure) (d : Schema) (v : Value) (rule : Rule) where
  abbrev here : World
  here = world_of m v rule

  mutual
    pattern_answers : (q : Pattern) (x : Value) (p : Place) (t : ℕ) (on : List Binding → Run) (off : Run)
        → part_at v p ≡ Some x → OfType m d t x → PatternFits d t q
        → execute (pattern_run q p on off) here ≡ after (matches m q p x) (λ bs. execute (on bs) here) (execute off here)
    pattern_answers (any u) x p t on off h w g = refl
    pattern_answers (bind y q) x p t on off h w g =
        pattern_answers q x p t (λ bs. on (record { variable = y; place = p } ∷ bs)) off h w g
        ∙ after_binding y p (matches m q p x) (λ bs. execute (on bs) here) (execute off here)
    pattern_answers (build c qs) (built e vs) p t on off h w g =
        ap (λ o. cond (built_by c o) (execute (patterns_run qs p c 0 on off) here) (execute off here)) h
        ∙ after-cond (eqb e c) (matches_all m qs p c 0 vs) (λ bs. execute (on bs) here) _ _
        (λ b. let same : e ≡ c = eqb-true e c b in
        patterns_answer qs vs p c 0 (fields_of d c) on off
        (in_fields v p c vs (h ∙ ap (λ z. Some (built z vs)) same) vs 0 refl)
        (subst (λ z. OfTypes m d (fields_of d z) vs) same w.2) g.2)
    pattern_answers (build c qs) (measured s a) p t on off h w g =
        ap (λ o. cond (built_by c o) (execute (patterns_run qs p c 0 on off) here) (execute off here)) h
    pattern_answers (either l r) x p t on off h w g =
        pattern_answers l x p t on (pattern_run r p on off) h w g.0
        ∙ after_else (matches m l p x) (matches m r p x) (λ bs. execute (on bs) here) _ _ (pattern_answers r x p t on off h w g.1)
    pattern_answers (gauge n wanted q) (built e vs) p t on off h w g = absurd (choice≢measured g.0.0 (sym w.0 ∙ g.0.1))
    pattern_answers (gauge n wanted q) (measured s a) p t on off h w g =
        ap (λ o. cond (passes_at m n o) (execute (cond wanted (pattern_run q p on off) off) here) (execute (cond wanted off (pattern_run q p on off)) here)) h
        ∙ after_test (m.passes s n a) wanted (matches m q p (measured s a)) (λ bs. execute (on bs) here) (pattern_run q p on off) off here
        (pattern_answers q (measured s a) p t on off h w g.1)

    patterns_answer : (qs : Patterns) (xs : Values) (p : Place) (c i : ℕ) (ts : List ℕ) (on : List Binding → Run) (off : Run)
        → InFields v p c i xs → OfTypes m d ts xs → PatternsFit d ts qs
        → execute (patterns_run qs p c i on off) here ≡ after (matches_all m qs p c i xs) (λ bs. execute (on bs) here) (execute off here)
    patterns_answer no_patterns no_values p c i ts on off u w g = refl
    patterns_answer no_patterns (with_value x xs) p c i [] on off u w g = absurd w
    patterns_answer no_patterns (with_value x xs) p c i (t ∷ ts) on off u w g = absurd g
    patterns_answer (with_pattern q qs) no_values p c i [] on off u w g = absurd g
    patterns_answer (with_pattern q qs) no_values p c i (t ∷ ts) on off u w g = absurd w
    patterns_answer (with_pattern q qs) (with_value x xs) p c i [] on off u w g = absurd w
    patterns_answer (with_pattern q qs) (with_value x xs) p c i (t ∷ ts) on off u w g =
        pattern_answers q x (field p c i) t (λ bs. patterns_run qs p c (suc i) (λ cs. on (bs ++ cs)) off) off u.0 w.0 g.0
        ∙ after_both (matches m q (field p c i) x) (matches_all m qs p c (suc i) xs)
        (λ bs. execute (patterns_run qs p c (suc i) (λ cs. on (bs ++ cs)) off) here) (λ bs. execute (on bs) here) _
        (λ bs. patterns_answer qs xs p c (suc i) ts (λ cs. on (bs ++ cs)) off u.1 w.1 g.1)

  -- a clause by what its pattern bound
  clause_answers : (o : Bound) (pattern : Pattern) (guard : Option ℕ) (action : ℕ) (rest : Run) (z : Answer) → execute rest here ≡ z
      → after o (λ bs. execute (guarded_run guard action rest bs) here) (execute rest here) ≡ tried rule (record { pattern = pattern; guard = guard; action = action }) o z
  clause_answers None q guard action rest z h = h
  clause_answers (Some bs) q None action rest z h = refl
  clause_answers (Some bs) q (Some g) action rest z h = ap (λ y. cond (rule (question g (list_of bs))) (acts action (list_of bs)) y) h

pub sheet_answers : (m : Measure) (d : Schema) (v : Value) (rule : Rule) (ks : List Clause) → OfType m d 0 v → SheetFits d ks
    → execute (sheet_run ks) (world_of m v rule) ≡ sheet_answer m ks v rule
sheet_answers m d v rule [] w g = refl
sheet_answers m d v rule (k ∷ ks) w g =
    pattern_answers m d v rule k.pattern v whole 0 (guarded_run k.guard k.action (sheet_run ks)) (sheet_run ks) refl w g.0
    ∙ clause_answers m d v rule (matches m k.pattern whole v) k.pattern k.guard k.action (sheet_run ks) (sheet_answer m ks v rule) (sheet_answers m d v rule ks w g.1)
