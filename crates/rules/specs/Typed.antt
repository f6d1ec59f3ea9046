-- What well-typed entries mean: a value of type 0.
use Rattle.std.specs.Prelude.{◌≡◌, true, List}
use Rattle.measure.specs.Measure.{Measure}
use Rattle.rules.specs.declared.rows.GarmentEntry.{GarmentEntry}
use Rattle.rules.specs.Book.{Schema}
use Rattle.rules.specs.Garments.{OfType, garment_value, well_typed}

-- a well-typed list of entries unfolds to a value of type 0, for every kind of measure and every schema
abbrev pub GarmentsAreValues : Type 0
GarmentsAreValues = (m : Measure) (d : Schema) (es : List GarmentEntry) → well_typed m d es ≡ true → OfType m d 0 (garment_value d es)
