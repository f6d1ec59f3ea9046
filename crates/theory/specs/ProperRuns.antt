-- Runs take only looks that may be taken: trees that fit a schema, and the statement for sheets and trees.
use Rattle.std.specs.Prelude.{◌≡◌, ℕ, true, List, [], ◌∷◌, is_some, Some}
use Rattle.std.specs.List.{slice_get}
use Rattle.measure.specs.Measure.{Measure}
use Rattle.guards.specs.declared.step.Step.{Step}
use Rattle.rules.specs.declared.rows.TypeRow.TheVariants.{Choice, Measured}
use Rattle.rules.specs.Book.{Schema, fields_of, owner_of}
use Rattle.rules.specs.Garments.{Place, whole, below, place_type}
use Rattle.rules.specs.Sheets.{Clause}
use Rattle.rules.specs.Trees.{Tree, Branches, leaf, fail, never, switch, test, ask, branch, otherwise, no_other}
use Rattle.theory.specs.Runs.{Look, Run, sheet_run, tree_run, SheetFits}
use Rattle.theory.specs.Knowledge.{Knowledge, reached, Askable}
use Rattle.theory.specs.Explore.{More, Proper}

-- ── places and trees that fit a schema ──

-- the place is of a choice type, and of a measured type
abbrev pub ChoiceAt : Schema → Place → Type 0
ChoiceAt d p = (t : ℕ) × (place_type d p ≡ Some t) × (slice_get d.types t ≡ Some Choice)

abbrev pub MeasuredAt : Schema → Place → Type 0
MeasuredAt d p = (t : ℕ) × (s : ℕ) × (place_type d p ≡ Some t) × (slice_get d.types t ≡ Some (Measured s))

-- a step names a field of a constructor of the place's type
abbrev pub StepFits : Schema → Place → Step → Type 0
StepFits d p s = ChoiceAt d p × (owner_of d s.constructor ≡ place_type d p) × (is_some (slice_get (fields_of d s.constructor) s.field) ≡ true)

-- every step of the place does
abbrev pub PlaceFits : Schema → Place → Type 0
PlaceFits d whole = Unit {0}
PlaceFits d (below p s) = PlaceFits d p × StepFits d p s

abbrev pub PlacesFit : Schema → List Place → Type 0
PlacesFit d [] = Unit {0}
PlacesFit d (p ∷ ps) = PlaceFits d p × PlacesFit d ps

abbrev mutual
  -- every place used fits; a switch is on a choice, a test on a measured type
  pub TreeFits : Schema → Tree → Type 0
  TreeFits d (leaf a ps) = PlacesFit d ps
  TreeFits d fail = Unit {0}
  TreeFits d never = Unit {0}
  TreeFits d (switch p bs) = PlaceFits d p × ChoiceAt d p × BranchesFit d bs
  TreeFits d (test p t y n) = PlaceFits d p × MeasuredAt d p × TreeFits d y × TreeFits d n
  TreeFits d (ask g ps y n) = PlacesFit d ps × TreeFits d y × TreeFits d n

  pub BranchesFit : Schema → Branches → Type 0
  BranchesFit d (branch c n bs) = TreeFits d n × BranchesFit d bs
  BranchesFit d (otherwise n) = TreeFits d n
  BranchesFit d no_other = Unit {0}

-- ── what is proved ──

-- at any knowledge, the runs of a sheet and of a tree that fit are proper; more knowledge keeps what is reached, what may be asked, and what is proper
pub record RunsProper : Type 0 where
  pub sheets : (m : Measure) (d : Schema) (k : Knowledge) (ks : List Clause) → SheetFits d ks → Proper m d k (sheet_run ks)
  pub trees : (m : Measure) (d : Schema) (k : Knowledge) (t : Tree) → TreeFits d t → Proper m d k (tree_run t)
  pub reached_kept : (m : Measure) (d : Schema) (k j : Knowledge) (p : Place) → More m d k j → reached m d k p ≡ true → reached m d j p ≡ true
  pub Askable-kept : (m : Measure) (d : Schema) (k j : Knowledge) (l : Look) → More m d k j → Askable m d k l → Askable m d j l
  pub Proper-kept : (m : Measure) (d : Schema) (k j : Knowledge) (r : Run) → More m d k j → Proper m d k r → Proper m d j r
