-- The work memory: four tables of numbers, one number to a field, nothing packed.
use Rattle.std.specs.Prelude.{ℕ, ◌+◌, ◌*◌}
use Rattle.rules.specs.Book.{most_types}

pub data Table : Type 0 where
  type_table : Table
  place_table : Table
  test_table : Table
  question_table : Table

-- the places, tests and questions that one way through a sheet and a tree can have
abbrev pub most_looked_at : ℕ
most_looked_at = 1 + (256 + 63)

abbrev pub most_tests : ℕ
most_tests = 256 + 32

abbrev pub most_questions : ℕ
most_questions = 32 + 32

abbrev pub rows_of : Table → ℕ
rows_of type_table = most_types
rows_of place_table = most_looked_at
rows_of test_table = most_tests
rows_of question_table = most_questions

abbrev pub width_of : Table → ℕ
width_of type_table = 2
width_of place_table = 9
width_of test_table = 5
width_of question_table = 7

-- each table begins where the one before it ends
abbrev pub starts_at : Table → ℕ
starts_at type_table = 0
starts_at place_table = 64
starts_at test_table = 2944
starts_at question_table = 4384

-- where a field of a row is kept
abbrev pub cell : Table → ℕ → ℕ → ℕ
cell t row field = starts_at t + (row * width_of t + field)

-- ── the fields of a row ──

-- a type: whether it is inhabited, and its default entry
abbrev pub type_inhabited : ℕ → ℕ
type_inhabited row = cell type_table row 0

abbrev pub type_default : ℕ → ℕ
type_default row = cell type_table row 1

-- a place: its parent and its step, its type, its first child and its next sibling, the halves of the mask of its candidates, its newest test
abbrev pub place_parent : ℕ → ℕ
place_parent row = cell place_table row 0

abbrev pub place_constructor : ℕ → ℕ
place_constructor row = cell place_table row 1

abbrev pub place_field : ℕ → ℕ
place_field row = cell place_table row 2

abbrev pub place_type_number : ℕ → ℕ
place_type_number row = cell place_table row 3

abbrev pub place_first_child : ℕ → ℕ
place_first_child row = cell place_table row 4

abbrev pub place_next_sibling : ℕ → ℕ
place_next_sibling row = cell place_table row 5

abbrev pub place_candidates_low : ℕ → ℕ
place_candidates_low row = cell place_table row 6

abbrev pub place_candidates_high : ℕ → ℕ
place_candidates_high row = cell place_table row 7

abbrev pub place_newest_test : ℕ → ℕ
place_newest_test row = cell place_table row 8

-- a test: its place, its halves, its answer, and the test before it at the place
abbrev pub test_place : ℕ → ℕ
test_place row = cell test_table row 0

abbrev pub test_low : ℕ → ℕ
test_low row = cell test_table row 1

abbrev pub test_high : ℕ → ℕ
test_high row = cell test_table row 2

abbrev pub test_answer : ℕ → ℕ
test_answer row = cell test_table row 3

abbrev pub test_next : ℕ → ℕ
test_next row = cell test_table row 4

-- a question: its guard, the number of its places, up to four places, and its answer
abbrev pub question_guard : ℕ → ℕ
question_guard row = cell question_table row 0

abbrev pub question_count : ℕ → ℕ
question_count row = cell question_table row 1

abbrev pub question_place : ℕ → ℕ → ℕ
question_place row i = cell question_table row (2 + i)

abbrev pub question_answer : ℕ → ℕ
question_answer row = cell question_table row 6
