-- How many looks one way through a sheet and a tree takes at most, and at how many places.
use Rattle.std.specs.Prelude.{◌≡◌, ℕ, suc, ◌+◌, ◌<◌, ◌≤◌, max, Bool, true, false, ◌&&◌, List, [], ◌∷◌, ◌++◌, length}
use Rattle.measure.specs.Measure.{Measure}
use Rattle.rules.specs.Book.{Schema, most_clauses}
use Rattle.rules.specs.Garments.{Place, whole}
use Rattle.rules.specs.Sheets.{Pattern, Patterns, any, bind, build, either, gauge, no_patterns, with_pattern, field, Clause, Answer, weight}
use Rattle.rules.specs.Grounds.{sheet_weight}
use Rattle.rules.specs.Trees.{Tree, Branches, leaf, fail, never, switch, test, ask, branch, otherwise, no_other, depth}
use Rattle.rules.specs.Calls.{work_numbers}
use Rattle.theory.specs.Runs.{Look, is_built, passes, says, Run, done, look, sheet_run, tree_run}
use Rattle.theory.specs.Knowledge.{Knowledge, learn}
use Rattle.theory.specs.Explore.{differs, explore}
use Rattle.shown.specs.WorkMemory.{Table, rows_of, width_of, cell, most_looked_at, most_tests, most_questions}
use Rattle.shown.specs.Interned.{among, known_among, runs_among, all_among, also_listed, each_below, Interned}

-- ── looks on one way ──

-- what to count: looks at the garment, tests alone, or questions
abbrev pub looks_at_garment : Look → ℕ
looks_at_garment (is_built p c) = 1
looks_at_garment (passes p t) = 1
looks_at_garment (says q) = 0

abbrev pub tests : Look → ℕ
tests (is_built p c) = 0
tests (passes p t) = 1
tests (says q) = 0

abbrev pub questions : Look → ℕ
questions (is_built p c) = 0
questions (passes p t) = 0
questions (says q) = 1

-- the greatest sum of counts on one way through a run
abbrev pub most_on_path : (Look → ℕ) → Run → ℕ
most_on_path count (done a) = 0
most_on_path count (look l y n) = count l + max (most_on_path count y) (most_on_path count n)

-- what holds of every look of a run
abbrev pub EveryLook : (Look → Type 0) → Run → Type 0
EveryLook Ok (done a) = Unit {0}
EveryLook Ok (look l y n) = Ok l × (EveryLook Ok y × EveryLook Ok n)

-- the sum of counts of what is known
abbrev pub learnt : (Look → ℕ) → Knowledge → ℕ
learnt count [] = 0
learnt count (f ∷ k) = count f.asked + learnt count k

-- what holds of all that is known on the ways through two runs, the second after the first, whether a look is learnt or was told
abbrev pub SecondAlways : (Knowledge → Type 0) → Knowledge → Run → Type 0
SecondAlways P k (done b) = P k
SecondAlways P k (look l y n) = P k × ((SecondAlways P k y × SecondAlways P k n) × (SecondAlways P (learn k l true) y × SecondAlways P (learn k l false) n))

abbrev pub Always : (Knowledge → Type 0) → Knowledge → Run → Run → Type 0
Always P k (done a) second = SecondAlways P k second
Always P k (look l y n) second = P k × ((Always P k y second × Always P k n second) × (Always P (learn k l true) y second × Always P (learn k l false) n second))

-- ── places ──

abbrev mutual
  -- the places below p that a pattern at p looks at: each field that has a pattern
  pub places_of_pattern : Pattern → Place → List Place
  places_of_pattern (any t) p = []
  places_of_pattern (bind x q) p = places_of_pattern q p
  places_of_pattern (build c qs) p = places_of_patterns qs p c 0
  places_of_pattern (either l r) p = places_of_pattern l p ++ places_of_pattern r p
  places_of_pattern (gauge t w q) p = places_of_pattern q p

  pub places_of_patterns : Patterns → Place → ℕ → ℕ → List Place
  places_of_patterns no_patterns p c i = []
  places_of_patterns (with_pattern q qs) p c i = (field p c i ∷ places_of_pattern q (field p c i)) ++ places_of_patterns qs p c (suc i)

abbrev pub places_of_sheet : List Clause → List Place
places_of_sheet [] = []
places_of_sheet (k ∷ ks) = places_of_pattern k.pattern whole ++ places_of_sheet ks

abbrev mutual
  -- every place that a tree names is listed
  pub tree_among : List Place → Tree → Bool
  tree_among ps (leaf a qs) = all_among ps qs
  tree_among ps fail = true
  tree_among ps never = true
  tree_among ps (switch p bs) = among ps p && branches_among ps bs
  tree_among ps (test p t y n) = among ps p && (tree_among ps y && tree_among ps n)
  tree_among ps (ask g qs y n) = all_among ps qs && (tree_among ps y && tree_among ps n)

  pub branches_among : List Place → Branches → Bool
  branches_among ps (branch c n bs) = tree_among ps n && branches_among ps bs
  branches_among ps (otherwise n) = tree_among ps n
  branches_among ps no_other = true

-- ── what is proved ──

-- a tree within its limit, over listed places; a sheet within its limits
pub record Limited (ks : List Clause) (t : Tree) : Type 0 where
  pub light : sheet_weight ks ≤ 256
  pub short : length ks ≤ most_clauses
  pub shallow : depth t ≤ 32

pub record PlacesListed (ks : List Clause) (table ps : List Place) : Type 0 where
  pub interned : Interned ps
  pub sheet_listed : all_among (whole ∷ ps) (places_of_sheet ks) ≡ true
  pub table_listed : all_among (whole ∷ ps) table ≡ true
  pub few : sheet_weight ks ≤ 256 → length table ≤ 63 → length (whole ∷ ps) ≤ most_looked_at

pub record BudgetsHold : Type 0 where
  -- on one way
  pub sheet_looks : (ks : List Clause) → most_on_path looks_at_garment (sheet_run ks) ≤ sheet_weight ks
  pub sheet_tests : (ks : List Clause) → most_on_path tests (sheet_run ks) ≤ sheet_weight ks
  pub sheet_questions : (ks : List Clause) → most_on_path questions (sheet_run ks) ≤ length ks
  pub tree_tests : (t : Tree) → most_on_path tests (tree_run t) ≤ depth t
  pub tree_questions : (t : Tree) → most_on_path questions (tree_run t) ≤ depth t
  -- what is learnt when two runs are explored is on one way of each
  pub learnt_on_path : (count : Look → ℕ) (m : Measure) (d : Schema) (k j : Knowledge) (first second : Run) (a b : Answer) → explore m d k first second ≡ differs j a b
      → learnt count j ≤ learnt count k + (most_on_path count first + most_on_path count second)
  pub Always-Few : (ks : List Clause) (t : Tree) → Limited ks t → Always (λ k. (learnt tests k ≤ most_tests) × (learnt questions k ≤ most_questions)) [] (tree_run t) (sheet_run ks)
  pub few_tests : (m : Measure) (d : Schema) (ks : List Clause) (t : Tree) (j : Knowledge) (a b : Answer) → Limited ks t → explore m d [] (tree_run t) (sheet_run ks) ≡ differs j a b → learnt tests j ≤ most_tests
  pub few_questions : (m : Measure) (d : Schema) (ks : List Clause) (t : Tree) (j : Knowledge) (a b : Answer) → Limited ks t → explore m d [] (tree_run t) (sheet_run ks) ≡ differs j a b → learnt questions j ≤ most_questions
  -- the places looked at are listed, and few
  pub pattern_places : (q : Pattern) (p : Place) → suc (length (places_of_pattern q p)) ≤ weight q
  pub sheet_places : (ks : List Clause) → length (places_of_sheet ks) ≤ sheet_weight ks
  pub sheet_among : (ps : List Place) (ks : List Clause) → all_among (whole ∷ ps) (places_of_sheet ks) ≡ true → runs_among (whole ∷ ps) (sheet_run ks) ≡ true
  pub tree_runs_among : (ps : List Place) (t : Tree) → Interned ps → tree_among (whole ∷ ps) t ≡ true → runs_among (whole ∷ ps) (tree_run t) ≡ true
  pub learnt_among : (ps : List Place) (m : Measure) (d : Schema) (k j : Knowledge) (first second : Run) (a b : Answer) → runs_among ps first ≡ true → runs_among ps second ≡ true → known_among ps k ≡ true
      → explore m d k first second ≡ differs j a b → known_among ps j ≡ true
  pub always_among : (ps : List Place) (first second : Run) → runs_among ps first ≡ true → runs_among ps second ≡ true → Always (λ k. known_among ps k ≡ true) [] first second
  -- the places of a sheet and of a table of places, listed
  pub listed : (ks : List Clause) (table : List Place) → each_below (whole ∷ []) table ≡ true → PlacesListed ks table (also_listed [] (places_of_sheet ks ++ table))
  -- the work memory holds them all, each field in a cell of its own
  pub inside : (t : Table) (row field : ℕ) → row < rows_of t → field < width_of t → cell t row field < work_numbers
  pub apart : (t u : Table) (row row' field field' : ℕ) → row < rows_of t → field < width_of t → row' < rows_of u → field' < width_of u
      → cell t row field ≡ cell u row' field' → (t ≡ u) × ((row ≡ row') × (field ≡ field'))
