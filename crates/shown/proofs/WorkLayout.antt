-- The tables of the work memory fit it, and no two fields share a cell.
use Rattle.std.proofs.Common.{◌≡◌, ℕ, ◌<◌, refl, arith}
use Rattle.rules.specs.Calls.{work_numbers}
use Rattle.shown.specs.WorkMemory.{Table, type_table, place_table, test_table, question_table, rows_of, width_of, cell}

pub inside : (t : Table) (row field : ℕ) → row < rows_of t → field < width_of t → cell t row field < work_numbers
inside type_table row field h k = omega arith
inside place_table row field h k = omega arith
inside test_table row field h k = omega arith
inside question_table row field h k = omega arith

pub apart : (t u : Table) (row row' field field' : ℕ) → row < rows_of t → field < width_of t → row' < rows_of u → field' < width_of u
    → cell t row field ≡ cell u row' field' → (t ≡ u) × ((row ≡ row') × (field ≡ field'))
apart type_table type_table r s f g h k i j e = (refl, (omega arith, omega arith))
apart type_table place_table r s f g h k i j e = absurd (omega arith)
apart type_table test_table r s f g h k i j e = absurd (omega arith)
apart type_table question_table r s f g h k i j e = absurd (omega arith)
apart place_table type_table r s f g h k i j e = absurd (omega arith)
apart place_table place_table r s f g h k i j e = (refl, (omega arith, omega arith))
apart place_table test_table r s f g h k i j e = absurd (omega arith)
apart place_table question_table r s f g h k i j e = absurd (omega arith)
apart test_table type_table r s f g h k i j e = absurd (omega arith)
apart test_table place_table r s f g h k i j e = absurd (omega arith)
apart test_table test_table r s f g h k i j e = (refl, (omega arith, omega arith))
apart test_table question_table r s f g h k i j e = absurd (omega arith)
apart question_table type_table r s f g h k i j e = absurd (omega arith)
apart question_table place_table r s f g h k i j e = absurd (omega arith)
apart question_table test_table r s f g h k i j e = absurd (omega arith)
apart question_table question_table r s f g h k i j e = (refl, (omega arith, omega arith))
