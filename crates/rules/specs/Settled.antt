-- A guard's no never tries the other side of an alternation: only the side that matches first counts.
use Rattle.std.specs.Prelude.{◌≡◌, ℕ, suc, Bool, true, false, ◌&&◌, List, ◌∷◌, map, Some, None, Option}
use Rattle.measure.specs.Measure.{Measure}
use Rattle.guards.specs.Questions.{Rule}
use Rattle.rules.specs.Garments.{Value, Values, built, measured, no_values, with_value, Place, whole}
use Rattle.rules.specs.Sheets.{Pattern, Patterns, any, bind, build, either, gauge, no_patterns, with_pattern, Binding, Bound, field, matches, Clause, list_of, question, sheet_answer}

-- ── a pattern without its alternations ──

abbrev mutual
  -- whether a pattern has no alternation
  pub no_either : Pattern → Bool
  no_either (any t) = true
  no_either (bind x q) = no_either q
  no_either (build c qs) = no_eithers qs
  no_either (either l r) = false
  no_either (gauge t w q) = no_either q

  pub no_eithers : Patterns → Bool
  no_eithers no_patterns = true
  no_eithers (with_pattern q qs) = no_either q && no_eithers qs

-- the left side where it matches, else the right side
abbrev pub first_side : Bound → Pattern → Pattern → Pattern
first_side None l r = r
first_side (Some bs) l r = l

-- where no value stands, nothing matches
abbrev pub matches_if : Measure → Pattern → Place → Option Value → Bound
matches_if m q p None = None
matches_if m q p (Some v) = matches m q p v

-- the fields of what stands at a place, if anything does
abbrev pub parts_of : Option Value → Values
parts_of None = no_values
parts_of (Some (built c vs)) = vs
parts_of (Some (measured s a)) = no_values

abbrev pub first_value : Values → Option Value
first_value no_values = None
first_value (with_value v vs) = Some v

abbrev pub others_of : Values → Values
others_of no_values = no_values
others_of (with_value v vs) = vs

abbrev mutual
  -- a pattern with each alternation replaced by its side that matches first on the value at its place
  pub settled : Measure → Pattern → Place → Option Value → Pattern
  settled m (any t) p o = any t
  settled m (bind x q) p o = bind x (settled m q p o)
  settled m (build c qs) p o = build c (settled_all m qs p c 0 (parts_of o))
  settled m (either l r) p o = first_side (matches_if m l p o) (settled m l p o) (settled m r p o)
  settled m (gauge t w q) p o = gauge t w (settled m q p o)

  -- the patterns of a constructor's fields from field i on
  pub settled_all : Measure → Patterns → Place → ℕ → ℕ → Values → Patterns
  settled_all m no_patterns p c i vs = no_patterns
  settled_all m (with_pattern q qs) p c i vs = with_pattern (settled m q (field p c i) (first_value vs)) (settled_all m qs p c (suc i) (others_of vs))

-- a clause with its pattern so replaced on a whole value
abbrev pub settled_clause : Measure → Value → Clause → Clause
settled_clause m v k = record { pattern = settled m k.pattern whole (Some v); guard = k.guard; action = k.action }

-- ── the theorem ──

pub record NoNeverRetries : Type 0 where
  -- no alternation is left
  pub without_either : (m : Measure) (q : Pattern) (p : Place) (v : Value) → no_either (settled m q p (Some v)) ≡ true
  -- the same is bound
  pub same_bindings : (m : Measure) (q : Pattern) (p : Place) (v : Value) → matches m (settled m q p (Some v)) p v ≡ matches m q p v
  -- the sheet gives the same answer on the value, under every answer rule
  pub same_answer : (m : Measure) (ks : List Clause) (v : Value) (rule : Rule)
      → sheet_answer m (map (settled_clause m v) ks) v rule ≡ sheet_answer m ks v rule
  -- sheets that differ only in sides that do not match first give the same answer on the value
  pub first_sides_count : (m : Measure) (ks others : List Clause) (v : Value) (rule : Rule)
      → map (settled_clause m v) ks ≡ map (settled_clause m v) others → sheet_answer m ks v rule ≡ sheet_answer m others v rule
  -- where the left side matches and the guard says no to its places, the clauses after answer, whatever the right side is
  pub no_retry : (m : Measure) (left right : Pattern) (g action : ℕ) (after : List Clause) (v : Value) (rule : Rule) (bs : List Binding)
      → matches m left whole v ≡ Some bs → rule (question g (list_of bs)) ≡ false
      → sheet_answer m (record { pattern = either left right; guard = Some g; action = action } ∷ after) v rule ≡ sheet_answer m after v rule
