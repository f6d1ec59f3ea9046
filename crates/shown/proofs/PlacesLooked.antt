-- The looks of a sheet and of a tree are at listed places, few of them.
use Rattle.std.proofs.Common.{◌≡◌, ℕ, suc, ◌≤◌, Bool, true, false, cond, ◌&&◌, List, [], ◌∷◌, ◌++◌, length, Some, None, Option, refl, arith}
use Rattle.std.proofs.lemmas.List.{length-append}
use Rattle.std.proofs.lemmas.Bool.{and_parts, and_from}
use Rattle.rules.specs.Garments.{Place, whole, below, all_steps}
use Rattle.rules.specs.Sheets.{Pattern, Patterns, any, bind, build, either, gauge, no_patterns, with_pattern, Binding, field, Clause, acts, lost, question, weight, weights}
use Rattle.rules.specs.Grounds.{sheet_weight}
use Rattle.rules.specs.Trees.{Tree, Branches, leaf, fail, never, switch, test, ask, branch, otherwise, no_other}
use Rattle.theory.specs.Runs.{Look, is_built, passes, says, Run, done, look, pattern_run, patterns_run, guarded_run, sheet_run, stand_run, stand_all_run, tree_run, branches_run}
use Rattle.shown.specs.Interned.{among, looks_among, runs_among, all_among, Interned}
use Rattle.shown.specs.Budgets.{places_of_pattern, places_of_patterns, places_of_sheet, tree_among, branches_among}
use Rattle.shown.proofs.SamePlaces.{all_append_left, all_append_right}

-- ── how many ──

mutual
  pub pattern_places : (q : Pattern) (p : Place) → suc (length (places_of_pattern q p)) ≤ weight q
  pattern_places (any t) p = omega arith
  pattern_places (bind x q) p = omega (arith, pattern_places q p)
  pattern_places (build c qs) p = omega (arith, patterns_places qs p c 0)
  pattern_places (either l r) p = omega (arith, length-append (places_of_pattern l p) (places_of_pattern r p), pattern_places l p, pattern_places r p)
  pattern_places (gauge t w q) p = omega (arith, pattern_places q p)

  patterns_places : (qs : Patterns) (p : Place) (c i : ℕ) → length (places_of_patterns qs p c i) ≤ weights qs
  patterns_places no_patterns p c i = omega arith
  patterns_places (with_pattern q qs) p c i =
      omega (arith, length-append (field p c i ∷ places_of_pattern q (field p c i)) (places_of_patterns qs p c (suc i)), pattern_places q (field p c i), patterns_places qs p c (suc i))

pub sheet_places : (ks : List Clause) → length (places_of_sheet ks) ≤ sheet_weight ks
sheet_places [] = omega arith
sheet_places (k ∷ ks) = omega (arith, length-append (places_of_pattern k.pattern whole) (places_of_sheet ks), pattern_places k.pattern whole, sheet_places ks)

-- ── which ──

module _ (ps : List Place) where
  cond_among : (w : Bool) (x y : Run) → runs_among ps x ≡ true → runs_among ps y ≡ true → runs_among ps (cond w x y) ≡ true
  cond_among true x y h k = h
  cond_among false x y h k = k

  look_among : (l : Look) (y n : Run) → looks_among ps l ≡ true → runs_among ps y ≡ true → runs_among ps n ≡ true → runs_among ps (look l y n) ≡ true
  look_among l y n h i j = and_from (looks_among ps l) (runs_among ps y && runs_among ps n) h (and_from (runs_among ps y) (runs_among ps n) i j)

  mutual
    pattern_among : (q : Pattern) (p : Place) (matched : List Binding → Run) (failed : Run) → among ps p ≡ true → all_among ps (places_of_pattern q p) ≡ true
        → ((bs : List Binding) → runs_among ps (matched bs) ≡ true) → runs_among ps failed ≡ true → runs_among ps (pattern_run q p matched failed) ≡ true
    pattern_among (any t) p matched failed a h hm hf = hm []
    pattern_among (bind x q) p matched failed a h hm hf = pattern_among q p (λ bs. matched (record { variable = x; place = p } ∷ bs)) failed a h (λ bs. hm (record { variable = x; place = p } ∷ bs)) hf
    pattern_among (build c qs) p matched failed a h hm hf = look_among (is_built p c) (patterns_run qs p c 0 matched failed) failed a (patterns_among qs p c 0 matched failed h hm hf) hf
    pattern_among (either l r) p matched failed a h hm hf =
        pattern_among l p matched (pattern_run r p matched failed) a (all_append_left ps (places_of_pattern l p) (places_of_pattern r p) h) hm
        (pattern_among r p matched failed a (all_append_right ps (places_of_pattern l p) (places_of_pattern r p) h) hm hf)
    pattern_among (gauge t w q) p matched failed a h hm hf =
        let i = pattern_among q p matched failed a h hm hf in
        look_among (passes p t) (cond w (pattern_run q p matched failed) failed) (cond w failed (pattern_run q p matched failed)) a
        (cond_among w (pattern_run q p matched failed) failed i hf) (cond_among w failed (pattern_run q p matched failed) hf i)

    patterns_among : (qs : Patterns) (p : Place) (c i : ℕ) (matched : List Binding → Run) (failed : Run) → all_among ps (places_of_patterns qs p c i) ≡ true
        → ((bs : List Binding) → runs_among ps (matched bs) ≡ true) → runs_among ps failed ≡ true → runs_among ps (patterns_run qs p c i matched failed) ≡ true
    patterns_among no_patterns p c i matched failed h hm hf = hm []
    patterns_among (with_pattern q qs) p c i matched failed h hm hf =
        let mine = and_parts (among ps (field p c i)) (all_among ps (places_of_pattern q (field p c i))) (all_append_left ps (field p c i ∷ places_of_pattern q (field p c i)) (places_of_patterns qs p c (suc i)) h) in
        let rest = all_append_right ps (field p c i ∷ places_of_pattern q (field p c i)) (places_of_patterns qs p c (suc i)) h in
        pattern_among q (field p c i) (λ bs. patterns_run qs p c (suc i) (λ cs. matched (bs ++ cs)) failed) failed mine.0 mine.1
        (λ bs. patterns_among qs p c (suc i) (λ cs. matched (bs ++ cs)) failed rest (λ cs. hm (bs ++ cs)) hf) hf

  guarded_among : (o : Option ℕ) (x : ℕ) (r : Run) (bs : List Binding) → runs_among ps r ≡ true → runs_among ps (guarded_run o x r bs) ≡ true
  guarded_among None x r bs h = refl
  guarded_among (Some g) x r bs h = h

pub sheet_among : (ps : List Place) (ks : List Clause) → all_among (whole ∷ ps) (places_of_sheet ks) ≡ true → runs_among (whole ∷ ps) (sheet_run ks) ≡ true
sheet_among ps [] h = refl
sheet_among ps (k ∷ ks) h =
    let rest = sheet_among ps ks (all_append_right (whole ∷ ps) (places_of_pattern k.pattern whole) (places_of_sheet ks) h) in
    pattern_among (whole ∷ ps) k.pattern whole (guarded_run k.guard k.action (sheet_run ks)) (sheet_run ks) refl
    (all_append_left (whole ∷ ps) (places_of_pattern k.pattern whole) (places_of_sheet ks) h)
    (λ bs. guarded_among (whole ∷ ps) k.guard k.action (sheet_run ks) bs rest) rest

module _ (ps : List Place) (ok : Interned ps) where
  abbrev all : List Place
  all = whole ∷ ps

  stand_among : (p : Place) (r : Run) → among all p ≡ true → runs_among all r ≡ true → runs_among all (stand_run p r) ≡ true
  stand_among whole r h k = k
  stand_among (below p s) r h k =
      let up : among all p ≡ true = ok.closed (below p s) h (λ e. cc) in
      stand_among p (look (is_built p s.constructor) r (done lost)) up (look_among all (is_built p s.constructor) r (done lost) up k refl)

  stands_among : (qs : List Place) (r : Run) → all_among all qs ≡ true → runs_among all r ≡ true → runs_among all (stand_all_run qs r) ≡ true
  stands_among [] r h k = k
  stands_among (q ∷ qs) r h k = let two = and_parts (among all q) (all_among all qs) h in stand_among q (stand_all_run qs r) two.0 (stands_among qs r two.1 k)

  mutual
    pub tree_runs_among : (t : Tree) → tree_among all t ≡ true → runs_among all (tree_run t) ≡ true
    tree_runs_among (leaf a qs) h = stands_among qs (done (acts a (all_steps qs))) h refl
    tree_runs_among fail h = refl
    tree_runs_among never h = refl
    tree_runs_among (switch p bs) h =
        let two = and_parts (among all p) (branches_among all bs) h in
        stand_among p (branches_run p bs) two.0 (branches_among_lem p bs two.0 two.1)
    tree_runs_among (test p t y n) h =
        let two = and_parts (among all p) (tree_among all y && tree_among all n) h in
        let both = and_parts (tree_among all y) (tree_among all n) two.1 in
        stand_among p (look (passes p t) (tree_run y) (tree_run n)) two.0 (look_among all (passes p t) (tree_run y) (tree_run n) two.0 (tree_runs_among y both.0) (tree_runs_among n both.1))
    tree_runs_among (ask g qs y n) h =
        let two = and_parts (all_among all qs) (tree_among all y && tree_among all n) h in
        let both = and_parts (tree_among all y) (tree_among all n) two.1 in
        stands_among qs (look (says (question g (all_steps qs))) (tree_run y) (tree_run n)) two.0
        (look_among all (says (question g (all_steps qs))) (tree_run y) (tree_run n) refl (tree_runs_among y both.0) (tree_runs_among n both.1))

    branches_among_lem : (p : Place) (bs : Branches) → among all p ≡ true → branches_among all bs ≡ true → runs_among all (branches_run p bs) ≡ true
    branches_among_lem p (branch c n bs) a h =
        let two = and_parts (tree_among all n) (branches_among all bs) h in
        look_among all (is_built p c) (tree_run n) (branches_run p bs) a (tree_runs_among n two.0) (branches_among_lem p bs a two.1)
    branches_among_lem p (otherwise n) a h = tree_runs_among n h
    branches_among_lem p no_other a h = refl
