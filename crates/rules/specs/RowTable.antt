-- A second meaning of matching: the table of running a row of patterns against a row of values, line by line.
use Rattle.std.specs.Prelude.{◌≡◌, ℕ, suc, Bool, true, false, List, [], ◌∷◌, ℤ, Some, None, ◌≢◌}
use Rattle.measure.specs.Measure.{Measure, gives}
use Rattle.rules.specs.Garments.{Value, Values, built, measured, no_values, with_value, Place}
use Rattle.rules.specs.Sheets.{Pattern, Patterns, any, bind, build, either, gauge, no_patterns, with_pattern, Bound, or_else, binding, field, matches}

-- a value, and the place where it stands
pub data Located : Type 0 where
  ◌at◌ : Value → Place → Located

infix 68 ◌at◌
-- ── rows ──

-- a constructor's patterns, put in front of a row
abbrev pub patterns_onto : Patterns → List Pattern → List Pattern
patterns_onto no_patterns rest = rest
patterns_onto (with_pattern q qs) rest = q ∷ patterns_onto qs rest

-- the fields of a value at p built by c, from field i on, put in front of a row
abbrev pub fields_onto : Place → ℕ → ℕ → Values → List Located → List Located
fields_onto p c i no_values rest = rest
fields_onto p c i (with_value v vs) rest = v at field p c i ∷ fields_onto p c (suc i) vs rest

-- whether there are as many patterns as values
abbrev pub as_many : Patterns → Values → Bool
as_many no_patterns no_values = true
as_many no_patterns (with_value v vs) = false
as_many (with_pattern q qs) no_values = false
as_many (with_pattern q qs) (with_value v vs) = as_many qs vs

-- ── the table ──

-- `Runs m patterns values r`: the row of patterns, run against the row of values, gives r
pub data Runs (m : Measure) : List Pattern → List Located → Bound → Type 0 where
  -- empty rows bind nothing
  nothing_left : Runs m [] [] (Some [])
  -- everything: the rest decides
  everything : {t : ℕ} {v : Value} {p : Place} {qs : List Pattern} {vs : List Located} {r : Bound}
      → Runs m qs vs r → Runs m (any t ∷ qs) (v at p ∷ vs) r
  -- a variable gets this place, in front of what the row with the inner pattern binds
  variable : {x : ℕ} {q : Pattern} {v : Value} {p : Place} {qs : List Pattern} {vs : List Located} {r : Bound}
      → Runs m (q ∷ qs) (v at p ∷ vs) r → Runs m (bind x q ∷ qs) (v at p ∷ vs) (binding x p r)
  -- the same constructor: its patterns and its fields come in front
  same_constructor : {c : ℕ} {ps : Patterns} {fs : Values} {p : Place} {qs : List Pattern} {vs : List Located} {r : Bound}
      → as_many ps fs ≡ true → Runs m (patterns_onto ps qs) (fields_onto p c 0 fs vs) r → Runs m (build c ps ∷ qs) (built c fs at p ∷ vs) r
  -- another constructor, another number of fields, or an atom: no match
  other_constructor : {c d : ℕ} {ps : Patterns} {fs : Values} {p : Place} {qs : List Pattern} {vs : List Located}
      → (d ≢ c) → Runs m (build c ps ∷ qs) (built d fs at p ∷ vs) None
  other_number : {c : ℕ} {ps : Patterns} {fs : Values} {p : Place} {qs : List Pattern} {vs : List Located}
      → as_many ps fs ≡ false → Runs m (build c ps ∷ qs) (built c fs at p ∷ vs) None
  not_built : {c s : ℕ} {a : ℤ} {ps : Patterns} {p : Place} {qs : List Pattern} {vs : List Located}
      → Runs m (build c ps ∷ qs) (measured s a at p ∷ vs) None
  -- an alternation: the row with the left side, or else the row with the right side
  alternation : {left right : Pattern} {v : Value} {p : Place} {qs : List Pattern} {vs : List Located} {r s : Bound}
      → Runs m (left ∷ qs) (v at p ∷ vs) r → Runs m (right ∷ qs) (v at p ∷ vs) s → Runs m (either left right ∷ qs) (v at p ∷ vs) (or_else r s)
  -- an atom that gives the wanted answer: the row with the inner pattern
  wanted_answer : {t a : ℤ} {w : Bool} {s : ℕ} {q : Pattern} {p : Place} {qs : List Pattern} {vs : List Located} {r : Bound}
      → gives w (m.passes s t a) ≡ true → Runs m (q ∷ qs) (measured s a at p ∷ vs) r → Runs m (gauge t w q ∷ qs) (measured s a at p ∷ vs) r
  -- an atom that does not, or a value that is no atom: no match
  other_answer : {t a : ℤ} {w : Bool} {s : ℕ} {q : Pattern} {p : Place} {qs : List Pattern} {vs : List Located}
      → gives w (m.passes s t a) ≡ false → Runs m (gauge t w q ∷ qs) (measured s a at p ∷ vs) None
  not_measured : {t : ℤ} {w : Bool} {c : ℕ} {fs : Values} {q : Pattern} {p : Place} {qs : List Pattern} {vs : List Located}
      → Runs m (gauge t w q ∷ qs) (built c fs at p ∷ vs) None

-- ── the theorem ──

-- the table gives what the direct recursion gives, and nothing else
pub record MatchingsAgree : Type 0 where
  pub runs : (m : Measure) (q : Pattern) (p : Place) (v : Value) → Runs m (q ∷ []) (v at p ∷ []) (matches m q p v)
  pub only : (m : Measure) (q : Pattern) (p : Place) (v : Value) (r : Bound) → Runs m (q ∷ []) (v at p ∷ []) r → r ≡ matches m q p v
