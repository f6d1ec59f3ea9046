-- Sheets: patterns, what they match and bind, clauses, and the answer of a list of clauses.
use Rattle.std.specs.Prelude.{ℕ, suc, ◌+◌, max, Bool, false, cond, ◌||◌, List, [], ◌∷◌, ◌++◌, map, ℤ, Some, None, Option, ◌==◌, slice_index_or}
use Rattle.measure.specs.Measure.{Measure, gives}
use Rattle.guards.specs.Questions.{Steps, Question, Rule}
use Rattle.rules.specs.declared.rows.PatternRow.{PatternRow}
use Rattle.rules.specs.declared.rows.PatternRow.TheVariants.{Any, Bind, Build, Either, Gauge}
use Rattle.rules.specs.declared.rows.ClauseRow.{ClauseRow}
use Rattle.rules.specs.Tables.{unfolded}
use Rattle.rules.specs.Book.{Book, Schema, owner_of}
use Rattle.rules.specs.Garments.{Value, Values, built, measured, no_values, with_value, Place, whole, below, steps_of}

-- A pattern, with the earlier patterns that its row names put in.
mutual
  pub data Pattern : Type 0 where
    any : ℕ → Pattern  -- everything of a type
    bind : ℕ → Pattern → Pattern  -- a variable on what the pattern matches
    build : ℕ → Patterns → Pattern  -- a constructor, and a pattern for each field
    either : Pattern → Pattern → Pattern  -- the left one, or else the right one
    gauge : ℤ → Bool → Pattern → Pattern  -- atoms that give the wanted answer to a test

  pub data Patterns : Type 0 where
    no_patterns : Patterns
    with_pattern : Pattern → Patterns → Patterns

-- ── what a row means ──

abbrev pub patterns_at : List Pattern → List ℕ → Patterns
patterns_at before [] = no_patterns
patterns_at before (n ∷ ns) = with_pattern (slice_index_or before n (any 0)) (patterns_at before ns)

abbrev pub pattern_from : List Pattern → PatternRow → Pattern
pattern_from before (Any t) = any t
pattern_from before (Bind v n) = bind v (slice_index_or before n (any 0))
pattern_from before (Build c ps) = build c (patterns_at before ps)
pattern_from before (Either l r) = either (slice_index_or before l (any 0)) (slice_index_or before r (any 0))
pattern_from before (Gauge n a) = gauge a.test a.wanted (slice_index_or before n (any 0))

abbrev pub patterns_of : List PatternRow → List Pattern
patterns_of rows = unfolded pattern_from [] rows

-- ── weight, levels, type and variables ──

abbrev mutual
  -- one, and its parts
  pub weight : Pattern → ℕ
  weight (any t) = 1
  weight (bind v p) = 1 + weight p
  weight (build c ps) = 1 + weights ps
  weight (either l r) = 1 + (weight l + weight r)
  weight (gauge t w p) = 1 + weight p

  pub weights : Patterns → ℕ
  weights no_patterns = 0
  weights (with_pattern p ps) = weight p + weights ps

abbrev mutual
  -- each build adds a level
  pub levels : Pattern → ℕ
  levels (any t) = 0
  levels (bind v p) = levels p
  levels (build c ps) = 1 + most_levels ps
  levels (either l r) = max (levels l) (levels r)
  levels (gauge t w p) = levels p

  pub most_levels : Patterns → ℕ
  most_levels no_patterns = 0
  most_levels (with_pattern p ps) = max (levels p) (most_levels ps)

-- the type whose values a pattern is for
abbrev pub pattern_type : Schema → Pattern → Option ℕ
pattern_type d (any t) = Some t
pattern_type d (bind v p) = pattern_type d p
pattern_type d (build c ps) = owner_of d c
pattern_type d (either l r) = pattern_type d l
pattern_type d (gauge t w p) = pattern_type d p

abbrev pub or_else : {A : Type 0} → Option A → Option A → Option A
or_else None o = o
or_else (Some x) o = Some x

abbrev mutual
  -- the type of what a variable is put on, if the pattern binds it; both sides of an alternation bind the same
  pub variable_type : Schema → ℕ → Pattern → Option ℕ
  variable_type d x (any t) = None
  variable_type d x (bind v p) = cond (v == x) (pattern_type d p) (variable_type d x p)
  variable_type d x (build c ps) = variable_type_among d x ps
  variable_type d x (either l r) = variable_type d x l
  variable_type d x (gauge t w p) = variable_type d x p

  pub variable_type_among : Schema → ℕ → Patterns → Option ℕ
  variable_type_among d x no_patterns = None
  variable_type_among d x (with_pattern p ps) = or_else (variable_type d x p) (variable_type_among d x ps)

abbrev mutual
  -- whether the pattern binds the variable
  pub binds : ℕ → Pattern → Bool
  binds x (any t) = false
  binds x (bind v p) = v == x || binds x p
  binds x (build c ps) = binds_among x ps
  binds x (either l r) = binds x l || binds x r
  binds x (gauge t w p) = binds x p

  pub binds_among : ℕ → Patterns → Bool
  binds_among x no_patterns = false
  binds_among x (with_pattern p ps) = binds x p || binds_among x ps

-- ── matching ──

-- a variable, and the place that it got
pub record Binding : Type 0 where
  pub variable : ℕ
  pub place : Place

-- what is bound where a pattern matches; nothing where it does not
abbrev pub Bound : Type 0
Bound = Option (List Binding)

-- both match, with what both bind
abbrev pub both : Bound → Bound → Bound
both None o = None
both (Some xs) None = None
both (Some xs) (Some ys) = Some (xs ++ ys)

-- one more variable is bound
abbrev pub binding : ℕ → Place → Bound → Bound
binding x p None = None
binding x p (Some xs) = Some (record { variable = x; place = p } ∷ xs)

abbrev pub field : Place → ℕ → ℕ → Place
field p c i = below p (record { constructor = c; field = i })

abbrev mutual
  -- what a pattern binds on a value that stands at a place
  pub matches : Measure → Pattern → Place → Value → Bound
  matches m (any t) p v = Some []
  matches m (bind x q) p v = binding x p (matches m q p v)
  matches m (build c qs) p (built d vs) = cond (d == c) (matches_all m qs p c 0 vs) None
  matches m (build c qs) p (measured s a) = None
  matches m (either l r) p v = or_else (matches m l p v) (matches m r p v)
  matches m (gauge t w q) p (built d vs) = None
  matches m (gauge t w q) p (measured s a) = cond (gives w (m.passes s t a)) (matches m q p (measured s a)) None

  -- the patterns of a constructor's fields from field i on
  pub matches_all : Measure → Patterns → Place → ℕ → ℕ → Values → Bound
  matches_all m no_patterns p c i no_values = Some []
  matches_all m no_patterns p c i (with_value v vs) = None
  matches_all m (with_pattern q qs) p c i no_values = None
  matches_all m (with_pattern q qs) p c i (with_value v vs) = both (matches m q (field p c i) v) (matches_all m qs p c (suc i) vs)

-- ── clauses and their answer ──

pub record Clause : Type 0 where
  pub pattern : Pattern
  pub guard : Option ℕ
  pub action : ℕ

abbrev pub clause_from : List Pattern → ClauseRow → Clause
clause_from patterns r = record { pattern = slice_index_or patterns r.pattern (any 0); guard = r.guard; action = r.action }

-- the clauses of a workbook, in order
abbrev pub clauses_of : Book → List Clause
clauses_of b = map (clause_from (patterns_of b.patterns)) b.clauses

-- the place that a variable got
abbrev pub place_of : ℕ → List Binding → List Steps
place_of x [] = []
place_of x (k ∷ ks) = cond (k.variable == x) (steps_of k.place ∷ []) (place_of x ks)

-- a clause's list: the places of its variables by rising variable
abbrev pub list_of : List Binding → List Steps
list_of ks = place_of 0 ks ++ (place_of 1 ks ++ (place_of 2 ks ++ place_of 3 ks))

-- an answer: an action with places, none, or lost
pub data Answer : Type 0 where
  acts : ℕ → List Steps → Answer
  none : Answer
  lost : Answer

abbrev pub question : ℕ → List Steps → Question
question g ps = record { guard = g; places = ps }

-- a matching clause answers if it has no guard or the guard says yes; else the clauses after it do
abbrev pub guarded : Rule → Option ℕ → ℕ → List Steps → Answer → Answer
guarded rule None action places otherwise = acts action places
guarded rule (Some g) action places otherwise = cond (rule (question g places)) (acts action places) otherwise

abbrev pub tried : Rule → Clause → Bound → Answer → Answer
tried rule k None otherwise = otherwise
tried rule k (Some bs) otherwise = guarded rule k.guard k.action (list_of bs) otherwise

-- the first clause whose pattern matches and whose guard, if any, says yes; none where all fail
abbrev pub sheet_answer : Measure → List Clause → Value → Rule → Answer
sheet_answer m [] v rule = none
sheet_answer m (k ∷ ks) v rule = tried rule k (matches m k.pattern whole v) (sheet_answer m ks v rule)
