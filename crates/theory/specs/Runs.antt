-- Looks and runs: what a form of rules looks at next depends only on the answers so far, and so does its answer at last.
use Rattle.std.specs.Prelude.{◌≡◌, ℕ, suc, Bool, cond, List, [], ◌∷◌, ◌++◌, ℤ, Some, None, Option}
use Rattle.measure.specs.Measure.{Measure}
use Rattle.guards.specs.Questions.{Question, Rule}
use Rattle.rules.specs.declared.rows.TypeRow.TheVariants.{Choice, Measured}
use Rattle.rules.specs.Book.{Schema, fields_of, owner_of}
use Rattle.std.specs.List.{slice_get}
use Rattle.rules.specs.Garments.{Value, Place, whole, below, part_at, built_by, all_steps}
use Rattle.rules.specs.Sheets.{Pattern, Patterns, any, bind, build, either, gauge, no_patterns, with_pattern, Binding, field, Clause, list_of, Answer, acts, none, lost, question}
use Rattle.rules.specs.Trees.{Tree, Branches, leaf, fail, never, switch, test, ask, branch, otherwise, no_other, passes_at}

-- A look asks whether a constructor stands at a place, whether the atom there passes a test, or puts a question.
pub data Look : Type 0 where
  is_built : Place → ℕ → Look
  passes : Place → ℤ → Look
  says : Question → Look

-- A run answers, or takes a look and goes on by its yes and its no.
pub data Run : Type 0 where
  done : Answer → Run
  look : Look → Run → Run → Run

-- a world answers every look
abbrev pub World : Type 0
World = Look → Bool

abbrev pub execute : Run → World → Answer
execute (done a) w = a
execute (look l y n) w = cond (w l) (execute y w) (execute n w)

-- the world of a garment and an answer rule
abbrev pub world_of : Measure → Value → Rule → World
world_of m v rule (is_built p c) = built_by c (part_at v p)
world_of m v rule (passes p t) = passes_at m t (part_at v p)
world_of m v rule (says q) = rule q

-- ── the run of a sheet: patterns from the outside in, fields in order, stopping at the first mismatch ──

abbrev mutual
  -- `matched` goes on with what is bound, `failed` where the pattern does not match
  pub pattern_run : Pattern → Place → (List Binding → Run) → Run → Run
  pattern_run (any t) p matched failed = matched []
  pattern_run (bind x q) p matched failed = pattern_run q p (λ bs. matched (record { variable = x; place = p } ∷ bs)) failed
  pattern_run (build c qs) p matched failed = look (is_built p c) (patterns_run qs p c 0 matched failed) failed
  pattern_run (either l r) p matched failed = pattern_run l p matched (pattern_run r p matched failed)
  pattern_run (gauge t w q) p matched failed =
      look (passes p t) (cond w (pattern_run q p matched failed) failed) (cond w failed (pattern_run q p matched failed))

  pub patterns_run : Patterns → Place → ℕ → ℕ → (List Binding → Run) → Run → Run
  patterns_run no_patterns p c i matched failed = matched []
  patterns_run (with_pattern q qs) p c i matched failed =
      pattern_run q (field p c i) (λ bs. patterns_run qs p c (suc i) (λ cs. matched (bs ++ cs)) failed) failed

-- a matching clause answers, or puts its question first; after a no the clauses after it run
abbrev pub guarded_run : Option ℕ → ℕ → Run → List Binding → Run
guarded_run None action after bs = done (acts action (list_of bs))
guarded_run (Some g) action after bs = look (says (question g (list_of bs))) (done (acts action (list_of bs))) after

abbrev pub sheet_run : List Clause → Run
sheet_run [] = done none
sheet_run (k ∷ ks) = pattern_run k.pattern whole (guarded_run k.guard k.action (sheet_run ks)) (sheet_run ks)

-- ── the run of a tree: each use of a place is preceded by looking whether it stands ──

abbrev pub stand_run : Place → Run → Run
stand_run whole next = next
stand_run (below p s) next = stand_run p (look (is_built p s.constructor) next (done lost))

abbrev pub stand_all_run : List Place → Run → Run
stand_all_run [] next = next
stand_all_run (p ∷ ps) next = stand_run p (stand_all_run ps next)

abbrev mutual
  pub tree_run : Tree → Run
  tree_run (leaf a ps) = stand_all_run ps (done (acts a (all_steps ps)))
  tree_run fail = done none
  tree_run never = done lost
  tree_run (switch p bs) = stand_run p (branches_run p bs)
  tree_run (test p t y n) = stand_run p (look (passes p t) (tree_run y) (tree_run n))
  tree_run (ask g ps y n) = stand_all_run ps (look (says (question g (all_steps ps))) (tree_run y) (tree_run n))

  pub branches_run : Place → Branches → Run
  branches_run p (branch c n bs) = look (is_built p c) (tree_run n) (branches_run p bs)
  branches_run p (otherwise n) = tree_run n
  branches_run p no_other = done lost

-- ── patterns that fit a type ──

abbrev mutual
  -- a build has a pattern for each field of a constructor of the type; a gauge is on a measured type
  pub PatternFits : Schema → ℕ → Pattern → Type 0
  PatternFits d t (any u) = Unit {0}
  PatternFits d t (bind x q) = PatternFits d t q
  PatternFits d t (build c qs) = (slice_get d.types t ≡ Some Choice) × (owner_of d c ≡ Some t) × PatternsFit d (fields_of d c) qs
  PatternFits d t (either l r) = PatternFits d t l × PatternFits d t r
  PatternFits d t (gauge k w q) = ((s : ℕ) × (slice_get d.types t ≡ Some (Measured s))) × PatternFits d t q

  pub PatternsFit : Schema → List ℕ → Patterns → Type 0
  PatternsFit d [] no_patterns = Unit {0}
  PatternsFit d [] (with_pattern q qs) = ⊥
  PatternsFit d (t ∷ ts) no_patterns = ⊥
  PatternsFit d (t ∷ ts) (with_pattern q qs) = PatternFits d t q × PatternsFit d ts qs

abbrev pub SheetFits : Schema → List Clause → Type 0
SheetFits d [] = Unit {0}
SheetFits d (k ∷ ks) = PatternFits d 0 k.pattern × SheetFits d ks
