-- The grounds on which each call is refused, in the order of precedence; the refusal is the first that applies.
use Rattle.std.specs.Prelude.{ℕ, ◌+◌, ◌%◌, Bool, true, false, cond, not, ◌&&◌, ◌||◌, List, [], ◌∷◌, ◌++◌, length, drop, ℤ, pos, negsuc, is_some, Some, None, Option, ◌==◌, nat_le, nat_lt, slice_index_or}
use Rattle.std.specs.List.{slice_get}
use Rattle.measure.specs.Measure.{Measure}
use Rattle.guards.specs.Questions.{and_then}
use Rattle.pattern_file.specs.declared.names.CallName.{CallName}
use Rattle.pattern_file.specs.declared.names.CallName.TheVariants as call
use Rattle.rules.specs.declared.refusal.Refusal.{Refusal}
use Rattle.rules.specs.declared.refusal.Refusal.TheVariants.{WrongParts, Unknown, WrongType, RepeatedConstructor, BadVariable, NoTest, TooDeep, TableFull, TooHeavy}
use Rattle.rules.specs.declared.rows.TypeRow.{TypeRow}
use Rattle.rules.specs.declared.rows.PatternRow.{PatternRow}
use Rattle.rules.specs.declared.rows.PairRow.{PairRow}
use Rattle.rules.specs.declared.rows.NodeRow.{NodeRow}
use Rattle.rules.specs.Tables.{natural, naturals, under, named}
use Rattle.rules.specs.Book.{Book, Schema, schema_of, fields_in, owner_in, is_choice, is_measured, sort_in, most_types, most_constructors, most_patterns, most_clauses, most_places, most_nodes, most_pairs}
use Rattle.rules.specs.Garments.{Place, place_type, steps_of}
use Rattle.rules.specs.Sheets.{Pattern, any, Patterns, no_patterns, with_pattern, Clause, patterns_of, pattern_from, clauses_of, weight, levels, pattern_type, variable_type, binds, binds_among, patterns_at}
use Rattle.rules.specs.Trees.{Tree, places_of, nodes_of, node_from, depth}
use Rattle.rules.specs.Rows.{part, bind_row, build_row, either_row, gauge_row, pair_rows, switch_row, test_row, ask_row}

-- a refusal, and whether its condition holds
pub record Ground : Type 0 where
  pub refusal : Refusal
  pub applies : Bool

abbrev pub on : Refusal → Bool → Ground
on r holds = record { refusal = r; applies = holds }

-- the first that applies
abbrev pub first_ground : List Ground → Option Refusal
first_ground [] = None
first_ground (g ∷ gs) = cond g.applies (Some g.refusal) (first_ground gs)

-- ── words of the conditions ──

abbrev pub unknown : {A : Type 0} → List A → ℤ → Bool
unknown xs z = not (is_some (named xs z))

abbrev pub any_unknown : {A : Type 0} → List A → List ℤ → Bool
any_unknown xs [] = false
any_unknown xs (z ∷ zs) = unknown xs z || any_unknown xs zs

abbrev pub is_minus_one : ℤ → Bool
is_minus_one (pos n) = false
is_minus_one (negsuc n) = n == 0

-- whether z is a sort that the kind serves
abbrev pub served : Measure → ℤ → Bool
served m (pos s) = m.serves s
served m (negsuc s) = false

-- guards and actions are numbers from 0 to 65,535
abbrev pub is_code : ℤ → Bool
is_code z = under 65536 z

-- two types that are known and not equal
abbrev pub differ : Option ℕ → Option ℕ → Bool
differ None o = false
differ (Some a) None = false
differ (Some a) (Some b) = not (a == b)

abbrev pub same_integer : ℤ → ℤ → Bool
same_integer (pos a) (pos b) = a == b
same_integer (pos a) (negsuc b) = false
same_integer (negsuc a) (pos b) = false
same_integer (negsuc a) (negsuc b) = a == b

abbrev pub is_among : ℤ → List ℤ → Bool
is_among z [] = false
is_among z (y ∷ ys) = same_integer y z || is_among z ys

abbrev pub any_twice : List ℤ → Bool
any_twice [] = false
any_twice (z ∷ zs) = is_among z zs || any_twice zs

-- ── what numbers of a call name ──

abbrev pub row_of : Schema → Option ℕ → Option TypeRow
row_of d t = and_then t (λ n. slice_get d.types n)

abbrev pub type_of_pattern : Book → ℤ → Option ℕ
type_of_pattern b z = and_then (named (patterns_of b.patterns) z) (pattern_type (schema_of b))

abbrev pub type_of_place : Book → ℤ → Option ℕ
type_of_place b z = and_then (named (places_of b) z) (place_type (schema_of b))

abbrev pub owner_of_constructor : Book → ℤ → Option ℕ
owner_of_constructor b z = owner_in (named b.constructors z)

-- whether a number is no test of the sort of a measured type
abbrev pub no_test_of : Measure → Option ℕ → ℤ → Bool
no_test_of m None t = false
no_test_of m (Some s) t = not (m.test s t)

-- ── words of single calls ──

-- a part's type is not that of its field
abbrev pub parts_differ : Book → List ℤ → List ℕ → Bool
parts_differ b [] ts = false
parts_differ b (z ∷ zs) [] = false
parts_differ b (z ∷ zs) (t ∷ ts) = differ (type_of_pattern b z) (Some t) || parts_differ b zs ts

-- some variable from 0 to 3
abbrev pub any_variable : (ℕ → Bool) → Bool
any_variable f = f 0 || (f 1 || (f 2 || f 3))

-- two parts bind the variable
abbrev pub bound_twice : ℕ → Patterns → Bool
bound_twice x no_patterns = false
bound_twice x (with_pattern p ps) = (binds x p && binds_among x ps) || bound_twice x ps

abbrev pub only_one : Bool → Bool → Bool
only_one true b = not b
only_one false b = b

abbrev pub pattern_at : Book → ℤ → Pattern
pattern_at b z = slice_index_or (patterns_of b.patterns) (natural z) (any 0)

-- the constructors and the nodes of a switch's pairs
abbrev pub evens : List ℤ → List ℤ
evens [] = []
evens (c ∷ []) = c ∷ []
evens (c ∷ (n ∷ zs)) = c ∷ evens zs

abbrev pub odds : List ℤ → List ℤ
odds [] = []
odds (c ∷ []) = []
odds (c ∷ (n ∷ zs)) = n ∷ odds zs

abbrev pub any_owner_differs : Book → Option ℕ → List ℤ → Bool
any_owner_differs b t [] = false
any_owner_differs b t (c ∷ cs) = differ (owner_of_constructor b c) t || any_owner_differs b t cs

-- the weight of all clauses together
abbrev pub sheet_weight : List Clause → ℕ
sheet_weight [] = 0
sheet_weight (k ∷ ks) = weight k.pattern + sheet_weight ks

-- the pattern that a new row would be
abbrev pub new_pattern : Book → PatternRow → Pattern
new_pattern b row = pattern_from (patterns_of b.patterns) row

-- the tree that a new row with new pairs would be
abbrev pub new_tree : Book → List PairRow → NodeRow → Tree
new_tree b pairs row = node_from (places_of b) (b.pairs ++ pairs) (nodes_of b) row

-- how many steps a place has
abbrev pub step_count : Option Place → ℕ
step_count None = 0
step_count (Some p) = length (steps_of p)

-- the table of patterns, or of nodes, is full
abbrev pub patterns_full : Book → Bool
patterns_full b = nat_le most_patterns (length b.patterns)

abbrev pub nodes_full : Book → Bool
nodes_full b = nat_le most_nodes (length b.nodes)

abbrev pub too_heavy : Pattern → Bool
too_heavy p = nat_lt 256 (weight p)

abbrev pub too_deep : Tree → Bool
too_deep t = nat_lt 32 (depth t)

-- ── the grounds of the fifteen building calls, besides that a pass is out ──

abbrev pub building_grounds : Measure → Book → CallName → List ℤ → ℤ → List Ground
building_grounds m b call.«Type» put own =
    on WrongParts (not (length put == 0))
    ∷ on Unknown (not (is_minus_one own || served m own))
    ∷ on TableFull (nat_le most_types (length b.types))
    ∷ []
building_grounds m b call.Constructor put own =
    on WrongParts (nat_lt 4 (length put))
    ∷ on Unknown (unknown b.types own || any_unknown b.types put)
    ∷ on WrongType (is_measured (named b.types own))
    ∷ on TableFull (nat_le most_constructors (length b.constructors))
    ∷ []
building_grounds m b call.Any put own =
    on WrongParts (not (length put == 0))
    ∷ on Unknown (unknown b.types own)
    ∷ on TableFull (patterns_full b)
    ∷ []
building_grounds m b call.Bind put own =
    on WrongParts (not (length put == 1))
    ∷ on Unknown (unknown b.patterns (part put 0))
    ∷ on BadVariable (not (under 4 own) || binds (natural own) (pattern_at b (part put 0)))
    ∷ on TableFull (patterns_full b)
    ∷ on TooHeavy (too_heavy (new_pattern b (bind_row put own)))
    ∷ []
building_grounds m b call.Build put own =
    on WrongParts (is_some (named b.constructors own) && not (length put == length (fields_in (named b.constructors own))))
    ∷ on Unknown (unknown b.constructors own || any_unknown b.patterns put)
    ∷ on WrongType (parts_differ b put (fields_in (named b.constructors own)))
    ∷ on BadVariable (any_variable (λ x. bound_twice x (patterns_at (patterns_of b.patterns) (naturals put))))
    ∷ on TooDeep (nat_lt 16 (levels (new_pattern b (build_row put own))))
    ∷ on TableFull (patterns_full b)
    ∷ on TooHeavy (too_heavy (new_pattern b (build_row put own)))
    ∷ []
building_grounds m b call.Either put own =
    on WrongParts (not (length put == 1))
    ∷ on Unknown (unknown b.patterns (part put 0) || unknown b.patterns own)
    ∷ on WrongType (differ (type_of_pattern b (part put 0)) (type_of_pattern b own)
    || any_variable (λ x. differ (variable_type (schema_of b) x (pattern_at b (part put 0))) (variable_type (schema_of b) x (pattern_at b own))))
    ∷ on BadVariable (any_variable (λ x. only_one (binds x (pattern_at b (part put 0))) (binds x (pattern_at b own))))
    ∷ on TableFull (patterns_full b)
    ∷ on TooHeavy (too_heavy (new_pattern b (either_row put own)))
    ∷ []
building_grounds m b call.Gauge put own =
    on WrongParts (not (length put == 2))
    ∷ on Unknown (unknown b.patterns own || not (under 2 (part put 1)))
    ∷ on WrongType (is_choice (row_of (schema_of b) (type_of_pattern b own)))
    ∷ on NoTest (no_test_of m (sort_in (row_of (schema_of b) (type_of_pattern b own))) (part put 0))
    ∷ on TableFull (patterns_full b)
    ∷ on TooHeavy (too_heavy (new_pattern b (gauge_row put own)))
    ∷ []
building_grounds m b call.Clause put own =
    on WrongParts (not (length put == 2))
    ∷ on Unknown (unknown b.patterns (part put 0) || (not (is_minus_one (part put 1) || is_code (part put 1)) || not (is_code own)))
    ∷ on WrongType (differ (type_of_pattern b (part put 0)) (Some 0))
    ∷ on TableFull (nat_le most_clauses (length b.clauses))
    ∷ on TooHeavy (nat_lt 256 (sheet_weight (clauses_of b) + weight (pattern_at b (part put 0))))
    ∷ []
building_grounds m b call.Place put own =
    on WrongParts (not (length put == 2))
    ∷ on Unknown (unknown (places_of b) (part put 0) || (unknown b.constructors (part put 1) || unknown (fields_in (named b.constructors (part put 1))) own))
    ∷ on WrongType (differ (owner_of_constructor b (part put 1)) (type_of_place b (part put 0)))
    ∷ on TooDeep (nat_le 16 (step_count (named (places_of b) (part put 0))))
    ∷ on TableFull (nat_le most_places (length (places_of b)))
    ∷ []
building_grounds m b call.Leaf put own =
    on WrongParts (nat_lt 4 (length put))
    ∷ on Unknown (not (is_code own) || any_unknown (places_of b) put)
    ∷ on TableFull (nodes_full b)
    ∷ []
building_grounds m b call.Fail put own =
    on WrongParts (not (length put == 0))
    ∷ on Unknown (not (under 1 own))
    ∷ on TableFull (nodes_full b)
    ∷ []
building_grounds m b call.Never put own =
    on WrongParts (not (length put == 0))
    ∷ on Unknown (not (under 1 own))
    ∷ on TableFull (nodes_full b)
    ∷ []
building_grounds m b call.Switch put own =
    on WrongParts (length put % 2 == 0)
    ∷ on Unknown (unknown (places_of b) own || ((not (is_minus_one (part put 0)) && unknown b.nodes (part put 0))
    || (any_unknown b.constructors (evens (drop 1 put)) || any_unknown b.nodes (odds (drop 1 put)))))
    ∷ on WrongType (is_measured (row_of (schema_of b) (type_of_place b own)) || any_owner_differs b (type_of_place b own) (evens (drop 1 put)))
    ∷ on RepeatedConstructor (any_twice (evens (drop 1 put)))
    ∷ on TooDeep (too_deep (new_tree b (pair_rows (drop 1 put)) (switch_row (length b.pairs) put own)))
    ∷ on TableFull (nodes_full b || nat_lt most_pairs (length b.pairs + length (pair_rows (drop 1 put))))
    ∷ []
building_grounds m b call.Test put own =
    on WrongParts (not (length put == 3))
    ∷ on Unknown (unknown (places_of b) own || (unknown b.nodes (part put 1) || unknown b.nodes (part put 2)))
    ∷ on WrongType (is_choice (row_of (schema_of b) (type_of_place b own)))
    ∷ on NoTest (no_test_of m (sort_in (row_of (schema_of b) (type_of_place b own))) (part put 0))
    ∷ on TooDeep (too_deep (new_tree b [] (test_row put own)))
    ∷ on TableFull (nodes_full b)
    ∷ []
building_grounds m b call.Ask put own =
    on WrongParts (nat_lt (length put) 2 || nat_lt 6 (length put))
    ∷ on Unknown (not (is_code own) || ((unknown b.nodes (part put 0) || unknown b.nodes (part put 1)) || any_unknown (places_of b) (drop 2 put)))
    ∷ on TooDeep (too_deep (new_tree b [] (ask_row put own)))
    ∷ on TableFull (nodes_full b)
    ∷ []
