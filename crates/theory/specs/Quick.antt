-- What makes exploring quick: it may resume where it stopped, an open look costs two branches, looks that decide nothing may be skipped, and what was found may be remembered.
use Rattle.std.specs.Prelude.{◌≡◌, ℕ, ◌+◌, ◌^◌, ◌≤◌, Bool, true, false, cond, ◌||◌, List, [], ◌∷◌, ◌++◌, length, ℤ, Some, None, filter, Option}
use Rattle.std.specs.List.{All, Contains}
use Rattle.measure.specs.Measure.{Measure, Lawful}
use Rattle.guards.specs.Questions.{Question, Rule, same_question}
use Rattle.rules.specs.Book.{Schema}
use Rattle.rules.specs.Garments.{Value, Place, whole, below}
use Rattle.rules.specs.Sheets.{Answer}
use Rattle.rules.specs.Trees.{Same}
use Rattle.theory.specs.Runs.{Look, is_built, passes, says, Run, done, look, World, execute, world_of}
use Rattle.theory.specs.Inhabited.{inhabited}
use Rattle.theory.specs.Knowledge.{Fact, Knowledge, learn, Fits, tells, Good, same_place, head_agrees_all, atom_agrees_all, heard}
use Rattle.theory.specs.Explore.{same, Verdict, alike, differs, by_answer, explore, Proper}
use Rattle.theory.specs.Settle.{settle}
use Rattle.theory.specs.Left.{left}
use Rattle.theory.specs.Verdicts.{Apart}

-- ── a. resuming ──

-- exploring goes on as well from where a run stopped; of the second run too, also before the first is done
pub record Resuming (m : Measure) (d : Schema) : Type 0 where
  pub first_run : (k : Knowledge) (first second : Run)
      → explore m d k first second ≡ explore m d k (settle (tells m d k) first) second
  pub second_run : (k : Knowledge) (a : Answer) (second : Run)
      → explore m d k (done a) second ≡ explore m d k (done a) (settle (tells m d k) second)
  pub ahead : (k : Knowledge) (first second : Run) → Good m d k → Proper m d k first
      → explore m d k first second ≡ explore m d k first (settle (tells m d k) second)

-- ── b. two branches to an open look ──

-- an end of both runs: the knowledge there, and the two answers
pub record End : Type 0 where
  pub known : Knowledge
  pub first : Answer
  pub second : Answer

abbrev pub ends_second : Measure → Schema → Knowledge → Answer → Run → List End
ends_second m d k a (done b) = record { known = k; first = a; second = b } ∷ []
ends_second m d k a (look l y n) =
    by_answer (tells m d k l) (ends_second m d k a y) (ends_second m d k a n)
    (ends_second m d (learn k l true) a y ++ ends_second m d (learn k l false) a n)

-- the ends whose answers are compared, in order
abbrev pub ends : Measure → Schema → Knowledge → Run → Run → List End
ends m d k (done a) second = ends_second m d k a second
ends m d k (look l y n) second =
    by_answer (tells m d k l) (ends m d k y second) (ends m d k n second)
    (ends m d (learn k l true) y second ++ ends m d (learn k l false) n second)

-- the first end with answers that are not the same
abbrev pub first_difference : List End → Verdict
first_difference [] = alike
first_difference (e ∷ es) = cond (same e.first e.second) (first_difference es) (differs e.known e.first e.second)

-- how many ends there are
abbrev pub end_count : Measure → Schema → Knowledge → Run → Run → ℕ
end_count m d k first second = length (ends m d k first second)

-- every look counts one
abbrev pub one : Look → ℕ
one l = 1

-- exploring compares the ends in order up to the first difference; an open look has those of its two branches, a told one those of one
pub record Branching (m : Measure) (d : Schema) : Type 0 where
  pub compares : (k : Knowledge) (first second : Run) → explore m d k first second ≡ first_difference (ends m d k first second)
  pub told_first : (k : Knowledge) (l : Look) (y n second : Run) (b : Bool) → tells m d k l ≡ Some b
      → end_count m d k (look l y n) second ≡ end_count m d k (cond b y n) second
  pub open_first : (k : Knowledge) (l : Look) (y n second : Run) → tells m d k l ≡ None
      → end_count m d k (look l y n) second ≡ end_count m d (learn k l true) y second + end_count m d (learn k l false) n second
  pub told_second : (k : Knowledge) (a : Answer) (l : Look) (y n : Run) (b : Bool) → tells m d k l ≡ Some b
      → end_count m d k (done a) (look l y n) ≡ end_count m d k (done a) (cond b y n)
  pub open_second : (k : Knowledge) (a : Answer) (l : Look) (y n : Run) → tells m d k l ≡ None
      → end_count m d k (done a) (look l y n) ≡ end_count m d (learn k l true) (done a) y + end_count m d (learn k l false) (done a) n
  -- so there are at most as many as the open looks left allow
  pub at_most : (k : Knowledge) (first second : Run) → Good m d k → Proper m d k first → Proper m d k second
      → end_count m d k first second ≤ 2 ^ (left one (tells m d k) first + left one (tells m d k) second)

-- ── c. looks that decide nothing ──

-- the run without the looks whose branches are equal, by a test of equality
abbrev pub skipping : (Run → Run → Bool) → Run → Run
skipping equal (done a) = done a
skipping equal (look l y n) = cond (equal (skipping equal y) (skipping equal n)) (skipping equal y) (look l (skipping equal y) (skipping equal n))

-- the test says equal only of equal runs
abbrev pub Sound : (Run → Run → Bool) → Type 0
Sound equal = (a b : Run) → equal a b ≡ true → a ≡ b

-- exploring one pair of runs stands for exploring another: alike for both or for neither, and what differs in the one is apart in the other
pub record StandsFor (m : Measure) (d : Schema) (k : Knowledge) (first second first' second' : Run) : Type 0 where
  pub alike_too : explore m d k first second ≡ alike → explore m d k first' second' ≡ alike
  pub alike_before : explore m d k first' second' ≡ alike → explore m d k first second ≡ alike
  pub apart_too : (g : Knowledge) (a b : Answer) → explore m d k first second ≡ differs g a b → Apart m d first' second' g a b

-- skipping changes no answer, so exploring without the skipped looks is as exact
pub record Skipping (m : Measure) (d : Schema) : Type 0 where
  pub same_branches : (l : Look) (r : Run) (w : World) → execute (look l r r) w ≡ execute r w
  pub same_answers : (equal : Run → Run → Bool) → Sound equal → (r : Run) (w : World) → execute (skipping equal r) w ≡ execute r w
  -- where the branch is alike, all that fit get the same answers from the whole run
  pub alike_right : (k : Knowledge) (l : Look) (r second : Run) → explore m d k r second ≡ alike
      → (v : Value) (rule : Rule) → Fits m d k v rule → Same (execute (look l r r) (world_of m v rule)) (execute second (world_of m v rule))
  -- one look of the first run, or of the second
  pub in_first : (k : Knowledge) (l : Look) (r second : Run) → inhabited m d 0 ≡ true → Good m d k → Proper m d k (look l r r) → Proper m d k second
      → StandsFor m d k r second (look l r r) second
  pub in_second : (k : Knowledge) (l : Look) (first r : Run) → inhabited m d 0 ≡ true → Good m d k → Proper m d k first → Proper m d k (look l r r)
      → StandsFor m d k first r first (look l r r)
  -- every such look of both runs
  pub in_both : (k : Knowledge) (equal : Run → Run → Bool) (first second : Run) → Sound equal → inhabited m d 0 ≡ true → Good m d k
      → Proper m d k first → Proper m d k second → StandsFor m d k (skipping equal first) (skipping equal second) first second

-- ── d. remembering ──

-- whether a place is at or above another
abbrev pub at_or_above : Place → Place → Bool
at_or_above q whole = same_place q whole
at_or_above q (below p s) = same_place q (below p s) || at_or_above q p

abbrev pub over_look : Place → Look → Bool
over_look q (is_built p c) = at_or_above q p
over_look q (passes p t) = at_or_above q p
over_look q (says r) = false

abbrev pub puts_question : Question → Look → Bool
puts_question q (is_built p c) = false
puts_question q (passes p t) = false
puts_question q (says r) = same_question q r

-- whether the answer to a look may bear on another: it was at or above the other's place, or puts its question
abbrev pub bears : Look → Look → Bool
bears (is_built q c) l = over_look q l
bears (passes q t) l = over_look q l
bears (says q) l = puts_question q l

-- a fact is relevant to a run where its look bears on a look of the run
abbrev pub relevant : Run → Fact → Bool
relevant (done a) f = false
relevant (look l y n) f = bears f.asked l || (relevant y f || relevant n f)

abbrev pub relevant_to : Run → Run → Fact → Bool
relevant_to first second f = relevant first f || relevant second f

-- two knowledges leave the same constructors at a place and above it
abbrev pub SameHeads : Knowledge → Knowledge → Place → Type 0
SameHeads k j p = (q : Place) → at_or_above q p ≡ true → (c : ℕ) → head_agrees_all q c k ≡ head_agrees_all q c j

-- two knowledges leave the same of what a look asks about
abbrev pub SameOf : Measure → Knowledge → Knowledge → Look → Type 0
SameOf m k j (is_built p c) = SameHeads k j p
SameOf m k j (passes p t) = SameHeads k j p × ((s : ℕ) (a : ℤ) → atom_agrees_all m p s a k ≡ atom_agrees_all m p s a j)
SameOf m k j (says q) = heard k q ≡ heard j q

-- at every look of a run
abbrev pub SameOfAll : Measure → Knowledge → Knowledge → Run → Type 0
SameOfAll m k j (done a) = Unit {0}
SameOfAll m k j (look l y n) = SameOf m k j l × (SameOfAll m k j y × SameOfAll m k j n)

-- the two answers that differ, if any do
abbrev pub difference : Verdict → Option (Answer × Answer)
difference alike = None
difference (differs k a b) = Some (a, b)

-- what is found of two runs depends only on what is known of their looks
pub record Remembering (m : Measure) (d : Schema) : Type 0 where
  -- on the constructors, atoms and answers that are left
  pub by_what_is_left : (k j : Knowledge) (first second : Run) → SameOfAll m k j first → SameOfAll m k j second
      → difference (explore m d k first second) ≡ difference (explore m d j first second)
  -- so on the relevant facts
  pub by_facts : (k j : Knowledge) (first second : Run)
      → filter (relevant_to first second) k ≡ filter (relevant_to first second) j
      → difference (explore m d k first second) ≡ difference (explore m d j first second)
  pub alike_again : (k j : Knowledge) (first second : Run)
      → filter (relevant_to first second) k ≡ filter (relevant_to first second) j
      → explore m d k first second ≡ alike → explore m d j first second ≡ alike
  -- alike with fewer relevant facts, alike with more
  pub alike_with_more : (k j : Knowledge) (first second : Run) → inhabited m d 0 ≡ true
      → Good m d j → Proper m d j first → Proper m d j second → All (Contains j) (filter (relevant_to first second) k)
      → explore m d k first second ≡ alike → explore m d j first second ≡ alike
  -- an irrelevant fact changes nothing, wherever it stands
  pub irrelevant : (newer older : Knowledge) (f : Fact) (first second : Run) → relevant_to first second f ≡ false
      → difference (explore m d (newer ++ f ∷ older) first second) ≡ difference (explore m d (newer ++ older) first second)

pub record Quick (m : Measure) (d : Schema) : Type 0 where
  pub resuming : Resuming m d
  pub branching : Branching m d
  pub skips : Skipping m d
  pub remembering : Remembering m d

-- for every kind and every schema
abbrev pub QuickHolds : Type 0
QuickHolds = (m : Measure) (d : Schema) → Lawful m → Quick m d
