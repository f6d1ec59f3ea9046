-- The row that an accepted building call adds to its table, from the numbers put before it and its own number.
use Rattle.std.specs.Prelude.{ℕ, List, [], ◌∷◌, length, drop, ℤ, pos, negsuc, Some, None, Option, ◌==◌, slice_index_or}
use Rattle.rules.specs.declared.rows.TypeRow.{TypeRow}
use Rattle.rules.specs.declared.rows.TypeRow.TheVariants.{Choice, Measured}
use Rattle.rules.specs.declared.rows.ConstructorRow.{ConstructorRow}
use Rattle.rules.specs.declared.rows.PatternRow.{PatternRow}
use Rattle.rules.specs.declared.rows.PatternRow.TheVariants.{Any, Bind, Build, Either, Gauge}
use Rattle.rules.specs.declared.rows.ClauseRow.{ClauseRow}
use Rattle.rules.specs.declared.rows.PlaceRow.{PlaceRow}
use Rattle.rules.specs.declared.rows.PairRow.{PairRow}
use Rattle.rules.specs.declared.rows.NodeRow.{NodeRow}
use Rattle.rules.specs.declared.rows.NodeRow.TheVariants.{Leaf, Switch, Test, Ask}
use Rattle.rules.specs.Tables.{natural, naturals, up_to_four}

-- a put number by its place on the list; where one is missing, the number of parts is refused first
abbrev pub part : List ℤ → ℕ → ℤ
part put i = slice_index_or put i (pos 0)

-- the number, or nothing for -1
abbrev pub optional : ℤ → Option ℕ
optional (pos n) = Some n
optional (negsuc n) = None

-- -1 is a choice, and a sort a measured type
abbrev pub type_row : ℤ → TypeRow
type_row (pos s) = Measured s
type_row (negsuc n) = Choice

abbrev pub constructor_row : List ℤ → ℤ → ConstructorRow
constructor_row put own = record { owner = natural own; fields = up_to_four (naturals put) }

abbrev pub any_row : ℤ → PatternRow
any_row own = Any (natural own)

abbrev pub bind_row : List ℤ → ℤ → PatternRow
bind_row put own = Bind (natural own) (natural (part put 0))

abbrev pub build_row : List ℤ → ℤ → PatternRow
build_row put own = Build (natural own) (up_to_four (naturals put))

abbrev pub either_row : List ℤ → ℤ → PatternRow
either_row put own = Either (natural (part put 0)) (natural own)

abbrev pub gauge_row : List ℤ → ℤ → PatternRow
gauge_row put own = Gauge (natural own) (record { test = part put 0; wanted = natural (part put 1) == 1 })

abbrev pub clause_row : List ℤ → ℤ → ClauseRow
clause_row put own = record { pattern = natural (part put 0); guard = optional (part put 1); action = natural own }

abbrev pub place_row : List ℤ → ℤ → PlaceRow
place_row put own = record { parent = natural (part put 0); step = record { constructor = natural (part put 1); field = natural own } }

abbrev pub leaf_row : List ℤ → ℤ → NodeRow
leaf_row put own = Leaf (natural own) (up_to_four (naturals put))

-- constructor and node by turns
abbrev pub pair_rows : List ℤ → List PairRow
pair_rows [] = []
pair_rows (c ∷ []) = []
pair_rows (c ∷ (n ∷ zs)) = record { constructor = natural c; node = natural n } ∷ pair_rows zs

-- the pairs stand in the table of pairs from `first` on
abbrev pub switch_row : ℕ → List ℤ → ℤ → NodeRow
switch_row first put own = Switch (natural own) (optional (part put 0)) first (length (pair_rows (drop 1 put)))

abbrev pub test_row : List ℤ → ℤ → NodeRow
test_row put own = Test (natural own) (part put 0) (natural (part put 1)) (natural (part put 2))

abbrev pub ask_row : List ℤ → ℤ → NodeRow
ask_row put own = Ask (natural own) (up_to_four (naturals (drop 2 put))) (natural (part put 0)) (natural (part put 1))
