-- The runs of a sheet and of a tree that fit a schema take only looks that may be taken.
use Rattle.std.proofs.Common.{◌≡◌, ℕ, zero, suc, Bool, true, false, cond, List, [], ◌∷◌, ◌++◌, drop, Some, None, Option, refl, ap, ◌∙◌}
use Rattle.std.proofs.lemmas.Bool.{and_from}
use Rattle.std.specs.List.{slice_get}
use Rattle.measure.specs.Measure.{Measure}
use Rattle.guards.specs.Questions.{and_then}
use Rattle.rules.specs.Book.{Schema, fields_of, sort_in, sort_of}
use Rattle.rules.specs.Garments.{Place, whole, below, place_type, all_steps}
use Rattle.rules.specs.Sheets.{Pattern, Patterns, any, bind, build, either, gauge, no_patterns, with_pattern, Binding, field, Clause, acts, lost, question}
use Rattle.rules.specs.Trees.{Tree, Branches, leaf, fail, never, switch, test, ask, branch, otherwise, no_other}
use Rattle.theory.specs.Runs.{is_built, passes, says, Run, done, look, pattern_run, patterns_run, guarded_run, sheet_run, stand_run, stand_all_run, tree_run, branches_run, PatternFits, PatternsFit, SheetFits}
use Rattle.theory.specs.Knowledge.{Knowledge, only, reached}
use Rattle.theory.specs.Explore.{More, Proper}
use Rattle.theory.specs.ProperRuns.{ChoiceAt, PlaceFits, PlacesFit, TreeFits, BranchesFit, RunsProper}
use Rattle.theory.proofs.Kept.{More-self, More-More, only_told, only_kept, reached_kept, field-reached, Askable-kept, Proper-kept}

first_dropped : (i : ℕ) (xs : List ℕ) → slice_get xs i ≡ slice_get (drop i xs) 0
first_dropped zero xs = refl
first_dropped (suc i) [] = refl
first_dropped (suc i) (x ∷ xs) = first_dropped i xs

next_dropped : (i : ℕ) (xs : List ℕ) → drop (suc i) xs ≡ drop 1 (drop i xs)
next_dropped zero xs = refl
next_dropped (suc i) [] = refl
next_dropped (suc i) (x ∷ xs) = next_dropped i xs

module _ (m : Measure) (d : Schema) where
  -- proper at all later knowledge
  abbrev Always : Knowledge → Run → Type 0
  Always k r = (j : Knowledge) → More m d k j → Proper m d j r

  later : (k j : Knowledge) (r : Run) → More m d k j → Always k r → Always j r
  later k j r s h i u = h i (More-More m d k j i s u)

  either_way : (b : Bool) (k : Knowledge) (x y : Run) → Proper m d k x → Proper m d k y → Proper m d k (cond b x y)
  either_way true k x y h g = h
  either_way false k x y h g = g

  -- ── sheets ──

  mutual
    pattern_proper : (q : Pattern) (p : Place) (t : ℕ) (on : List Binding → Run) (off : Run) (k : Knowledge)
        → PatternFits d t q → reached m d k p ≡ true → place_type d p ≡ Some t
        → ((bs : List Binding) → Always k (on bs)) → Always k off → Proper m d k (pattern_run q p on off)
    pattern_proper (any u) p t on off k w z e hk hr = hk [] k (More-self m d k)
    pattern_proper (bind x q) p t on off k w z e hk hr =
        pattern_proper q p t (λ bs. on (record { variable = x; place = p } ∷ bs)) off k w z e (λ bs. hk (record { variable = x; place = p } ∷ bs)) hr
    pattern_proper (build c qs) p t on off k w z e hk hr = (
      (z, (t, e, w.0)),
      (
        λ j s told. patterns_proper qs p c 0 (fields_of d c) on off j refl w.2 (reached_kept m d k j p s z) (only_told m d j p c told)
            (λ bs. later k j (on bs) s (hk bs)) (later k j off s hr),
        λ j s told. hr j s,
      ),
    )
    pattern_proper (either l r) p t on off k w z e hk hr =
        pattern_proper l p t on (pattern_run r p on off) k w.0 z e hk
        (λ j s. pattern_proper r p t on off j w.1 (reached_kept m d k j p s z) e (λ bs. later k j (on bs) s (hk bs)) (later k j off s hr))
    pattern_proper (gauge n wanted q) p t on off k w z e hk hr =
        let inner : Always k (pattern_run q p on off)
        = λ j s. pattern_proper q p t on off j w.1 (reached_kept m d k j p s z) e (λ bs. later k j (on bs) s (hk bs)) (later k j off s hr) in (
          (z, (w.0.0, ap (λ o. and_then o (sort_of d)) e ∙ ap sort_in w.0.1)),
          (
            λ j s told. either_way wanted j (pattern_run q p on off) off (inner j s) (hr j s),
            λ j s told. either_way wanted j off (pattern_run q p on off) (hr j s) (inner j s),
          ),
        )

    patterns_proper : (qs : Patterns) (p : Place) (c i : ℕ) (ts : List ℕ) (on : List Binding → Run) (off : Run) (k : Knowledge)
        → drop i (fields_of d c) ≡ ts → PatternsFit d ts qs → reached m d k p ≡ true → only m d k p c ≡ true
        → ((bs : List Binding) → Always k (on bs)) → Always k off → Proper m d k (patterns_run qs p c i on off)
    patterns_proper no_patterns p c i ts on off k e w z o hk hr = hk [] k (More-self m d k)
    patterns_proper (with_pattern q qs) p c i [] on off k e w z o hk hr = absurd w
    patterns_proper (with_pattern q qs) p c i (t ∷ ts) on off k e w z o hk hr =
        let typed : slice_get (fields_of d c) i ≡ Some t = first_dropped i (fields_of d c) ∙ ap (λ xs. slice_get xs 0) e in
        pattern_proper q (field p c i) t (λ bs. patterns_run qs p c (suc i) (λ cs. on (bs ++ cs)) off) off k w.0 (field-reached m d k p c i t z o typed) typed
        (λ bs j s. patterns_proper qs p c (suc i) ts (λ cs. on (bs ++ cs)) off j (next_dropped i (fields_of d c) ∙ ap (drop 1) e) w.1
        (reached_kept m d k j p s z) (only_kept m d k j p c s z o) (λ cs. later k j (on (bs ++ cs)) s (hk (bs ++ cs))) (later k j off s hr))
        hr

  guarded_Proper : (guard : Option ℕ) (action : ℕ) (rest : Run) (bs : List Binding) (k : Knowledge) → Always k rest → Proper m d k (guarded_run guard action rest bs)
  guarded_Proper None action rest bs k h = tt
  guarded_Proper (Some g) action rest bs k h = (tt, (λ j s told. tt, λ j s told. h j s))

  sheet_Proper : (ks : List Clause) → SheetFits d ks → (k : Knowledge) → Proper m d k (sheet_run ks)
  sheet_Proper [] w k = tt
  sheet_Proper (c ∷ ks) w k =
      pattern_proper c.pattern whole 0 (guarded_run c.guard c.action (sheet_run ks)) (sheet_run ks) k w.0 refl refl
      (λ bs j s. guarded_Proper c.guard c.action (sheet_run ks) bs j (λ i u. sheet_Proper ks w.1 i))
      (λ j s. sheet_Proper ks w.1 j)

  -- ── trees ──

  -- what runs once the place stands is proper where the place is reached
  stand_Proper : (p : Place) (next : Run) (k : Knowledge) → PlaceFits d p → ((j : Knowledge) → More m d k j → reached m d j p ≡ true → Proper m d j next)
      → Proper m d k (stand_run p next)
  stand_Proper whole next k w h = h k (More-self m d k) refl
  stand_Proper (below p q) next k w h =
      stand_Proper p (look (is_built p q.constructor) next (done lost)) k w.0
      (λ j s z. (
        (z, w.1.0),
        (
          λ i u told. h i (More-More m d k j i s u)
              (and_from (reached m d i p) _ (reached_kept m d j i p u z) (and_from (only m d i p q.constructor) _ (only_told m d i p q.constructor told) w.1.2)),
          λ i u told. tt,
        ),
      ))

  stand_all_Proper : (ps : List Place) (next : Run) (k : Knowledge) → PlacesFit d ps → Always k next → Proper m d k (stand_all_run ps next)
  stand_all_Proper [] next k w h = h k (More-self m d k)
  stand_all_Proper (p ∷ ps) next k w h =
      stand_Proper p (stand_all_run ps next) k w.0 (λ j s z. stand_all_Proper ps next j w.1 (later k j next s h))

  mutual
    tree_Proper : (t : Tree) → TreeFits d t → (k : Knowledge) → Proper m d k (tree_run t)
    tree_Proper (leaf a ps) w k = stand_all_Proper ps (done (acts a (all_steps ps))) k w (λ j s. tt)
    tree_Proper fail w k = tt
    tree_Proper never w k = tt
    tree_Proper (switch p bs) w k = stand_Proper p (branches_run p bs) k w.0 (λ j s z. branches_Proper bs p w.2 j z w.1)
    tree_Proper (test p t y n) w k =
        stand_Proper p (look (passes p t) (tree_run y) (tree_run n)) k w.0
        (λ j s z. (
          (z, (w.1.1, ap (λ o. and_then o (sort_of d)) w.1.2 ∙ ap sort_in w.1.3)),
          (λ i u told. tree_Proper y w.2 i, λ i u told. tree_Proper n w.3 i),
        ))
    tree_Proper (ask g ps y n) w k =
        stand_all_Proper ps (look (says (question g (all_steps ps))) (tree_run y) (tree_run n)) k w.0
        (λ j s. (tt, (λ i u told. tree_Proper y w.1 i, λ i u told. tree_Proper n w.2 i)))

    branches_Proper : (bs : Branches) (p : Place) → BranchesFit d bs → (k : Knowledge) → reached m d k p ≡ true → ChoiceAt d p → Proper m d k (branches_run p bs)
    branches_Proper (branch c n bs) p w k z e =
        ((z, e), (λ j s told. tree_Proper n w.0 j, λ j s told. branches_Proper bs p w.1 j (reached_kept m d k j p s z) e))
    branches_Proper (otherwise n) p w k z e = tree_Proper n w k
    branches_Proper no_other p w k z e = tt

pub runs_proper : RunsProper
runs_proper = record {
  sheets = λ m d k ks w. sheet_Proper m d ks w k;
  trees = λ m d k t w. tree_Proper m d t w k;
  reached_kept = reached_kept;
  Askable-kept = Askable-kept;
  Proper-kept = Proper-kept;
}
