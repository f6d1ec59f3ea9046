-- What an exploration learns lies on one way through each run; and all the bounds together.
use Rattle.std.proofs.Common.{◌≡◌, ℕ, ◌+◌, ◌≤◌, true, false, ◌&&◌, List, [], refl, arith}
use Rattle.std.proofs.lemmas.Bool.{and_parts, and_from}
use Rattle.measure.specs.Measure.{Measure}
use Rattle.rules.specs.Book.{Schema}
use Rattle.rules.specs.Garments.{Place}
use Rattle.rules.specs.Sheets.{Answer}
use Rattle.theory.specs.Runs.{Look, Run, done, look, sheet_run, tree_run}
use Rattle.theory.specs.Knowledge.{Knowledge, learn, tells}
use Rattle.theory.specs.Explore.{same, differs, or_next, explore_second, explore}
use Rattle.shown.specs.WorkMemory.{most_tests, most_questions}
use Rattle.shown.specs.Interned.{looks_among, known_among, runs_among}
use Rattle.shown.specs.Budgets.{most_on_path, EveryLook, learnt, tests, questions, BudgetsHold}
use Rattle.shown.proofs.PathCounts.{sheet_looks, sheet_tests, sheet_questions, tree_tests, tree_questions}
use Rattle.shown.proofs.PlacesLooked.{pattern_places, sheet_places, sheet_among, tree_runs_among}
use Rattle.shown.proofs.EachVerdict.{Each, next_Each, answer_Each, same_Each, Each-differs, explored_all}
use Rattle.shown.proofs.AlwaysKnown.{always, Always-Few}
use Rattle.shown.proofs.Listing.{places_listed}
use Rattle.shown.proofs.WorkLayout.{inside, apart}

module _ (m : Measure) (d : Schema) where
  module _ (count : Look → ℕ) (n : ℕ) where
    abbrev Few : Knowledge → Type 0
    Few j = learnt count j ≤ n

    second_Few : (r : Run) (k : Knowledge) (a : Answer) → learnt count k + most_on_path count r ≤ n → Each Few (explore_second m d k a r)
    second_Few (done b) k a h = same_Each Few (same a b) k a b (omega arith)
    second_Few (look l x y) k a h =
        answer_Each Few (tells m d k l) (explore_second m d k a x) (explore_second m d k a y) (or_next (explore_second m d (learn k l true) a x) (explore_second m d (learn k l false) a y))
        (second_Few x k a (omega arith)) (second_Few y k a (omega arith))
        (next_Each Few (explore_second m d (learn k l true) a x) (explore_second m d (learn k l false) a y) (second_Few x (learn k l true) a (omega arith)) (second_Few y (learn k l false) a (omega arith)))

    explored_Few : (r s : Run) (k : Knowledge) → learnt count k + (most_on_path count r + most_on_path count s) ≤ n → Each Few (explore m d k r s)
    explored_Few (done a) s k h = second_Few s k a (omega arith)
    explored_Few (look l x y) s k h =
        answer_Each Few (tells m d k l) (explore m d k x s) (explore m d k y s) (or_next (explore m d (learn k l true) x s) (explore m d (learn k l false) y s))
        (explored_Few x s k (omega arith)) (explored_Few y s k (omega arith))
        (next_Each Few (explore m d (learn k l true) x s) (explore m d (learn k l false) y s) (explored_Few x s (learn k l true) (omega arith)) (explored_Few y s (learn k l false) (omega arith)))

every_among : (ps : List Place) (r : Run) → runs_among ps r ≡ true → EveryLook (λ l. looks_among ps l ≡ true) r
every_among ps (done a) h = tt
every_among ps (look l y n) h =
    let two = and_parts (looks_among ps l) (runs_among ps y && runs_among ps n) h in
    let both = and_parts (runs_among ps y) (runs_among ps n) two.1 in
    (two.0, (every_among ps y both.0, every_among ps n both.1))

learnt_among : (ps : List Place) (m : Measure) (d : Schema) (k j : Knowledge) (first second : Run) (a b : Answer) → runs_among ps first ≡ true → runs_among ps second ≡ true → known_among ps k ≡ true
    → explore m d k first second ≡ differs j a b → known_among ps j ≡ true
learnt_among ps m d k j first second a b h g i e =
    explored_all m d (λ l. looks_among ps l ≡ true) (λ k. known_among ps k ≡ true) (λ k l b x y. and_from (looks_among ps l) (known_among ps k) x y)
    k j first second a b (every_among ps first h) (every_among ps second g) i e

learnt_on_path : (count : Look → ℕ) (m : Measure) (d : Schema) (k j : Knowledge) (first second : Run) (a b : Answer) → explore m d k first second ≡ differs j a b
    → learnt count j ≤ learnt count k + (most_on_path count first + most_on_path count second)
learnt_on_path count m d k j first second a b e =
    let n : ℕ = learnt count k + (most_on_path count first + most_on_path count second) in
    Each-differs (Few m d count n) (explore m d k first second) j a b (explored_Few m d count n first second k (omega arith)) e

pub budgets_hold : BudgetsHold
budgets_hold = record {
  sheet_looks = sheet_looks;
  sheet_tests = sheet_tests;
  sheet_questions = sheet_questions;
  tree_tests = tree_tests;
  tree_questions = tree_questions;
  learnt_on_path = learnt_on_path;
  Always-Few = λ ks t l. Always-Few tests questions most_tests most_questions (tree_run t) (sheet_run ks) [] (omega (arith, l.light, l.shallow, sheet_tests ks, tree_tests t)) (omega (arith, l.short, l.shallow, sheet_questions ks, tree_questions t));
  few_tests = λ m d ks t j a b l e. omega (arith, l.light, l.shallow, learnt_on_path tests m d [] j (tree_run t) (sheet_run ks) a b e, sheet_tests ks, tree_tests t);
  few_questions = λ m d ks t j a b l e. omega (arith, l.short, l.shallow, learnt_on_path questions m d [] j (tree_run t) (sheet_run ks) a b e, sheet_questions ks, tree_questions t);
  pattern_places = pattern_places;
  sheet_places = sheet_places;
  sheet_among = sheet_among;
  tree_runs_among = λ ps t ok h. tree_runs_among ps ok t h;
  learnt_among = learnt_among;
  always_among = λ ps first second h g. always (λ l. looks_among ps l ≡ true) (λ k. known_among ps k ≡ true) (λ k l b x y. and_from (looks_among ps l) (known_among ps k) x y) first second [] (every_among ps first h) (every_among ps second g) refl;
  listed = places_listed;
  inside = inside;
  apart = apart;
}
