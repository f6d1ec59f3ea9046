-- The law of tables whose rows name earlier rows: each meaning is made of the meanings before it.
use Rattle.std.specs.Prelude.{◌≡◌, ℕ, ◌+◌, List, [], ◌∷◌, ◌++◌, length, take, Some}
use Rattle.std.specs.List.{slice_get}
use Rattle.rules.specs.declared.rows.PairRow.{PairRow}
use Rattle.rules.specs.Tables.{unfolded}
use Rattle.rules.specs.Book.{Schema}
use Rattle.rules.specs.Garments.{Place, entry_value}
use Rattle.rules.specs.Sheets.{pattern_from}
use Rattle.rules.specs.Trees.{place_from, node_from}

-- the laws for one way of making a meaning of a row and the meanings before it
pub record Unfolds {R A : Type 0} (make : List A → R → A) : Type 0 where
  -- one meaning for each row, after those before
  pub counts : (before : List A) (rows : List R) → length (unfolded make before rows) ≡ length before + length rows
  pub keeps : (before : List A) (rows : List R) → take (length before) (unfolded make before rows) ≡ before
  -- the i-th meaning is made of those before it
  pub made : (before : List A) (rows : List R) (i : ℕ) (row : R) → slice_get rows i ≡ Some row
      → slice_get (unfolded make before rows) (length before + i) ≡ Some (make (take (length before + i) (unfolded make before rows)) row)
  -- a new row adds its meaning at the end, and changes no other
  pub grows : (before : List A) (rows : List R) (row : R)
      → unfolded make before (rows ++ row ∷ []) ≡ unfolded make before rows ++ make (unfolded make before rows) row ∷ []

-- the four tables of meanings obey them
pub record RowsUnfold : Type 0 where
  pub patterns : Unfolds pattern_from
  pub places : Unfolds place_from
  pub nodes : (places : List Place) (pairs : List PairRow) → Unfolds (node_from places pairs)
  pub entries : (d : Schema) → Unfolds (entry_value d)
