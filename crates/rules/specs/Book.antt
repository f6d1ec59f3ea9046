-- The workbook as a value: its tables, each in the order of acceptance, and whether a pass is out.
use Rattle.std.specs.Prelude.{ℕ, Bool, true, false, List, [], Some, None, Option}
use Rattle.std.specs.List.{slice_get}
use Rattle.rules.specs.declared.rows.TypeRow.{TypeRow}
use Rattle.rules.specs.declared.rows.TypeRow.TheVariants.{Choice, Measured}
use Rattle.rules.specs.declared.rows.ConstructorRow.{ConstructorRow}
use Rattle.rules.specs.declared.rows.PatternRow.{PatternRow}
use Rattle.rules.specs.declared.rows.ClauseRow.{ClauseRow}
use Rattle.rules.specs.declared.rows.PlaceRow.{PlaceRow}
use Rattle.rules.specs.declared.rows.PairRow.{PairRow}
use Rattle.rules.specs.declared.rows.NodeRow.{NodeRow}

pub record Book : Type 0 where
  pub types : List TypeRow
  pub constructors : List ConstructorRow
  pub patterns : List PatternRow
  pub clauses : List ClauseRow
  pub places : List PlaceRow  -- from place 1 on
  pub nodes : List NodeRow
  pub pairs : List PairRow  -- of all switches
  pub out : Bool  -- whether a pass is out

-- a workbook as it is set up
abbrev pub empty_book : Book
empty_book = record { types = []; constructors = []; patterns = []; clauses = []; places = []; nodes = []; pairs = []; out = false }

-- how many rows each table holds; place 0 counts among the places
abbrev pub most_types : ℕ
most_types = 32

abbrev pub most_constructors : ℕ
most_constructors = 64

abbrev pub most_patterns : ℕ
most_patterns = 256

abbrev pub most_clauses : ℕ
most_clauses = 32

abbrev pub most_places : ℕ
most_places = 64

abbrev pub most_nodes : ℕ
most_nodes = 256

abbrev pub most_pairs : ℕ
most_pairs = 256

-- the types and constructors of a workbook: all that garments depend on
pub record Schema : Type 0 where
  pub types : List TypeRow
  pub constructors : List ConstructorRow

abbrev pub schema_of : Book → Schema
schema_of b = record { types = b.types; constructors = b.constructors }

-- the field types of a constructor; none where there is no such constructor
abbrev pub fields_in : Option ConstructorRow → List ℕ
fields_in None = []
fields_in (Some r) = r.fields

abbrev pub fields_of : Schema → ℕ → List ℕ
fields_of s c = fields_in (slice_get s.constructors c)

-- the type that a constructor builds
abbrev pub owner_in : Option ConstructorRow → Option ℕ
owner_in None = None
owner_in (Some r) = Some r.owner

abbrev pub owner_of : Schema → ℕ → Option ℕ
owner_of s c = owner_in (slice_get s.constructors c)

-- whether a type is a choice, or measured; an unknown one is neither
abbrev pub is_choice : Option TypeRow → Bool
is_choice None = false
is_choice (Some Choice) = true
is_choice (Some (Measured s)) = false

abbrev pub is_measured : Option TypeRow → Bool
is_measured None = false
is_measured (Some Choice) = false
is_measured (Some (Measured s)) = true

-- the sort by which a type is measured
abbrev pub sort_in : Option TypeRow → Option ℕ
sort_in None = None
sort_in (Some Choice) = None
sort_in (Some (Measured s)) = Some s

abbrev pub sort_of : Schema → ℕ → Option ℕ
sort_of s t = sort_in (slice_get s.types t)
