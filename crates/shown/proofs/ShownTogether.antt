-- The garment and the answers shown, by the limits that a workbook keeps.
use Rattle.std.proofs.Common.{◌≡◌, ℕ, Bool, true, false, ◌&&◌, List, [], ◌∷◌, ℤ, unwrap_or, refl, ap, ◌∙◌, subst, ⊎_elim}
use Rattle.std.proofs.lemmas.Bool.{false≢true, and_parts, and_from, or_cases}
use Rattle.measure.specs.Measure.{Measure}
use Rattle.guards.specs.Listed.{listed_rule}
use Rattle.rules.specs.Book.{Schema}
use Rattle.rules.specs.Garments.{Place, whole}
use Rattle.rules.specs.Sheets.{Clause, Answer}
use Rattle.rules.specs.Trees.{Tree, Branches, leaf, fail, never, switch, test, ask, branch, otherwise, no_other}
use Rattle.theory.specs.Runs.{sheet_run, tree_run}
use Rattle.theory.specs.Inhabited.{inhabited}
use Rattle.theory.specs.Knowledge.{Knowledge, same_place, Good}
use Rattle.theory.specs.Explore.{differs, explore}
use Rattle.shown.specs.Interned.{among, all_among, known_among}
use Rattle.shown.specs.Budgets.{tree_among, branches_among, PlacesListed}
use Rattle.shown.specs.ShownAnswers.{AllWithin, shown_answers}
use Rattle.shown.specs.ShownGarment.{Picks, shown_garment, GarmentFits}
use Rattle.shown.specs.ShownFits.{WithinLimits, places_listed, ShownInMemory, ShownFitsMemory}
use Rattle.shown.proofs.LearntOnPath.{budgets_hold}
use Rattle.shown.proofs.HeardAnswers.{answers_shown}
use Rattle.shown.proofs.GarmentShown.{garment_shown}
use Rattle.shown.proofs.Picking.{picks}
use Rattle.theory.proofs.Parts.{same_place_lem}
use Rattle.std.proofs.lemmas.List.Elements.{All-nil}
use Rattle.guards.specs.Questions.{Within}

both_more : (a b c e : Bool) → (a ≡ true → c ≡ true) → (b ≡ true → e ≡ true) → (a && b) ≡ true → (c && e) ≡ true
both_more a b c e f g h = let two = and_parts a b h in and_from c e (f two.0) (g two.1)

-- ── a tree over fewer listed places ──

module _ (ps qs : List Place) (more : (x : Place) → among ps x ≡ true → among qs x ≡ true) where
  all_more : (xs : List Place) → all_among ps xs ≡ true → all_among qs xs ≡ true
  all_more [] h = refl
  all_more (x ∷ xs) h = let two = and_parts (among ps x) (all_among ps xs) h in and_from (among qs x) (all_among qs xs) (more x two.0) (all_more xs two.1)

  mutual
    tree_more : (t : Tree) → tree_among ps t ≡ true → tree_among qs t ≡ true
    tree_more (leaf a xs) h = all_more xs h
    tree_more fail h = refl
    tree_more never h = refl
    tree_more (switch p bs) h = let two = and_parts (among ps p) (branches_among ps bs) h in and_from (among qs p) (branches_among qs bs) (more p two.0) (branches_more bs two.1)
    tree_more (test p t y n) h =
        let two = and_parts (among ps p) (tree_among ps y && tree_among ps n) h in
        and_from (among qs p) (tree_among qs y && tree_among qs n) (more p two.0) (both_more (tree_among ps y) (tree_among ps n) (tree_among qs y) (tree_among qs n) (tree_more y) (tree_more n) two.1)
    tree_more (ask g xs y n) h =
        let two = and_parts (all_among ps xs) (tree_among ps y && tree_among ps n) h in
        and_from (all_among qs xs) (tree_among qs y && tree_among qs n) (all_more xs two.0) (both_more (tree_among ps y) (tree_among ps n) (tree_among qs y) (tree_among qs n) (tree_more y) (tree_more n) two.1)

    branches_more : (bs : Branches) → branches_among ps bs ≡ true → branches_among qs bs ≡ true
    branches_more (branch c n bs) h = let two = and_parts (tree_among ps n) (branches_among ps bs) h in and_from (tree_among qs n) (branches_among qs bs) (tree_more n two.0) (branches_more bs two.1)
    branches_more (otherwise n) h = tree_more n h
    branches_more no_other h = refl

all_has : (ps xs : List Place) (x : Place) → all_among ps xs ≡ true → among xs x ≡ true → among ps x ≡ true
all_has ps [] x h i = absurd (false≢true i)
all_has ps (y ∷ xs) x h i =
    let two = and_parts (among ps y) (all_among ps xs) h in
    ⊎_elim (λ s. subst (λ (z : Place). among ps z ≡ true) (same_place_lem y x s) two.0) (all_has ps xs x two.1) (or_cases (same_place y x) (among xs x) i)

-- ── together ──

shown : (m : Measure) (d : Schema) (ks : List Clause) (t : Tree) (table : List Place) (k : Knowledge) (a b : Answer) (pick : Place → ℕ → ℤ) (usual : ℕ → ℤ)
    → WithinLimits d ks t table → inhabited m d 0 ≡ true → explore m d [] (tree_run t) (sheet_run ks) ≡ differs k a b → Good m d k → Picks m d k (places_listed ks table) pick usual
    → ShownInMemory m d k (shown_garment m d k pick usual (places_listed ks table)) (shown_answers k)
shown m d ks t table k a b pick usual limits lives e good free =
    let ps : List Place = places_listed ks table in
    let places : PlacesListed ks table ps = budgets_hold.listed ks table limits.nested in
    let tree_listed : tree_among (whole ∷ ps) t ≡ true =
    tree_more (whole ∷ table) (whole ∷ ps) (λ x i. all_has (whole ∷ ps) (whole ∷ table) x (and_from (among (whole ∷ ps) whole) (all_among (whole ∷ ps) table) refl places.table_listed) i) t limits.named in
    let known : known_among (whole ∷ ps) k ≡ true =
    budgets_hold.learnt_among (whole ∷ ps) m d [] k (tree_run t) (sheet_run ks) a b (budgets_hold.tree_runs_among ps t places.interned tree_listed) (budgets_hold.sheet_among ps ks places.sheet_listed) refl e in
    let within : AllWithin k = answers_shown.learnt_within m d [] k (tree_run t) (sheet_run ks) a b (answers_shown.tree_asks t limits.short) (answers_shown.sheet_asks ks limits.flat) (All-nil (λ a. Within 16 a.0)) e in
    let garment : GarmentFits m d k ps (shown_garment m d k pick usual ps) = garment_shown.shown m d k ps pick usual limits.four_fields lives good places.interned known free in
    record {
      typed = garment.typed;
      fits = garment.fits (listed_rule (shown_answers k)) (λ q c h. answers_shown.means k q within ∙ ap (λ o. unwrap_or o false) h);
      entries = garment_shown.enough m d k ps (shown_garment m d k pick usual ps) garment limits.few_types (places.few limits.limited.light limits.few_places);
      numbers = answers_shown.enough k within (budgets_hold.few_questions m d ks t k a b limits.limited e);
    }

pub shown_fits_memory : ShownFitsMemory
shown_fits_memory = record { shown = shown; picks = λ m d k ps good. picks m d k good ps }
