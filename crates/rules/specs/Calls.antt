-- The calls of a workbook: when each is refused, what it returns, and what it makes of the workbook.
use Rattle.std.specs.Prelude.{ℕ, Bool, true, false, not, ◌||◌, List, [], ◌∷◌, ◌++◌, length, take, drop, replicate, ℤ, Option, ◌==◌, nat_lt}
use Rattle.measure.specs.Measure.{Measure}
use Rattle.pattern_file.specs.declared.names.CallName.{CallName}
use Rattle.pattern_file.specs.declared.names.CallName.TheVariants as call
use Rattle.rules.specs.declared.refusal.Refusal.{Refusal}
use Rattle.rules.specs.declared.refusal.Refusal.TheVariants.{PassOut, ShortMemory, NoPass, NoClause, NoNode}
use Rattle.rules.specs.declared.rows.TypeRow.{TypeRow}
use Rattle.rules.specs.declared.rows.ConstructorRow.{ConstructorRow}
use Rattle.rules.specs.declared.rows.PatternRow.{PatternRow}
use Rattle.rules.specs.declared.rows.ClauseRow.{ClauseRow}
use Rattle.rules.specs.declared.rows.PlaceRow.{PlaceRow}
use Rattle.rules.specs.declared.rows.PairRow.{PairRow}
use Rattle.rules.specs.declared.rows.NodeRow.{NodeRow}
use Rattle.rules.specs.declared.rows.NodeRow.TheVariants.{Fail, Never}
use Rattle.rules.specs.declared.rows.GarmentEntry.{GarmentEntry}
use Rattle.rules.specs.Book.{Book}
use Rattle.rules.specs.Rows.{type_row, constructor_row, any_row, bind_row, build_row, either_row, gauge_row, clause_row, place_row, leaf_row, pair_rows, switch_row, test_row, ask_row}
use Rattle.rules.specs.Trees.{places_of}
use Rattle.rules.specs.Grounds.{Ground, on, first_ground, building_grounds}

-- a building call: which one, the numbers put before it, and its own number
pub record Order : Type 0 where
  pub name : CallName
  pub put : List ℤ
  pub own : ℤ

-- a call, with the lengths of its lent memory
pub data Call : Type 0 where
  make : Order → Call
  clear_sheet : Call
  clear_tree : Call
  judge : ℕ → ℕ → ℕ → Call  -- work numbers, garment entries, 16-bit numbers
  release : ℕ → Call  -- bytes
  withdraw : Call

-- what a call answers
pub data Outcome : Type 0 where
  returned : ℕ → Outcome
  refused : Refusal → Outcome
  alike : Outcome
  differs : List GarmentEntry → List ℕ → Outcome  -- the garment and the listed answers shown
  released : List ℕ → Outcome  -- the file

-- a judge that wrote this into its memory and returned these lengths has shown what stands in front
abbrev pub differs_in : List GarmentEntry → ℕ → List ℕ → ℕ → Outcome
differs_in entries entry_count numbers number_count = differs (take entry_count entries) (take number_count numbers)

-- a release that wrote this into its memory and returned this length
abbrev pub released_in : List ℕ → ℕ → Outcome
released_in bytes count = released (take count bytes)

-- ── when a call is refused ──

-- the memory that judge and release ask for
abbrev pub work_numbers : ℕ
work_numbers = 16384

abbrev pub shown_entries : ℕ
shown_entries = 1313

abbrev pub shown_numbers : ℕ
shown_numbers = 8640

abbrev pub file_bytes : ℕ
file_bytes = 45004

abbrev pub grounds : Measure → Book → Call → List Ground
grounds m b (make o) = on PassOut b.out ∷ building_grounds m b o.name o.put o.own
grounds m b clear_sheet = on PassOut b.out ∷ []
grounds m b clear_tree = on PassOut b.out ∷ []
grounds m b (judge work entries numbers) =
    on PassOut b.out
    ∷ on ShortMemory (nat_lt work work_numbers || (nat_lt entries shown_entries || nat_lt numbers shown_numbers))
    ∷ on NoClause (length b.clauses == 0)
    ∷ on NoNode (length b.nodes == 0)
    ∷ []
grounds m b (release bytes) = on ShortMemory (nat_lt bytes file_bytes) ∷ on NoPass (not b.out) ∷ []
grounds m b withdraw = on NoPass (not b.out) ∷ []

-- why a call is refused, if it is
abbrev pub refusal_of : Measure → Book → Call → Option Refusal
refusal_of m b c = first_ground (grounds m b c)

-- ── what an accepted building call makes of the workbook ──

abbrev pub add_type : Book → TypeRow → Book
add_type b r = record { types = b.types ++ r ∷ []; constructors = b.constructors; patterns = b.patterns; clauses = b.clauses; places = b.places; nodes = b.nodes; pairs = b.pairs; out = b.out }

abbrev pub add_constructor : Book → ConstructorRow → Book
add_constructor b r = record { types = b.types; constructors = b.constructors ++ r ∷ []; patterns = b.patterns; clauses = b.clauses; places = b.places; nodes = b.nodes; pairs = b.pairs; out = b.out }

abbrev pub add_pattern : Book → PatternRow → Book
add_pattern b r = record { types = b.types; constructors = b.constructors; patterns = b.patterns ++ r ∷ []; clauses = b.clauses; places = b.places; nodes = b.nodes; pairs = b.pairs; out = b.out }

abbrev pub add_clause : Book → ClauseRow → Book
add_clause b r = record { types = b.types; constructors = b.constructors; patterns = b.patterns; clauses = b.clauses ++ r ∷ []; places = b.places; nodes = b.nodes; pairs = b.pairs; out = b.out }

abbrev pub add_place : Book → PlaceRow → Book
add_place b r = record { types = b.types; constructors = b.constructors; patterns = b.patterns; clauses = b.clauses; places = b.places ++ r ∷ []; nodes = b.nodes; pairs = b.pairs; out = b.out }

abbrev pub add_node : Book → List PairRow → NodeRow → Book
add_node b pairs r = record { types = b.types; constructors = b.constructors; patterns = b.patterns; clauses = b.clauses; places = b.places; nodes = b.nodes ++ r ∷ []; pairs = b.pairs ++ pairs; out = b.out }

-- a row is added at the end of its table
abbrev pub made_by : Book → CallName → List ℤ → ℤ → Book
made_by b call.«Type» put own = add_type b (type_row own)
made_by b call.Constructor put own = add_constructor b (constructor_row put own)
made_by b call.Any put own = add_pattern b (any_row own)
made_by b call.Bind put own = add_pattern b (bind_row put own)
made_by b call.Build put own = add_pattern b (build_row put own)
made_by b call.Either put own = add_pattern b (either_row put own)
made_by b call.Gauge put own = add_pattern b (gauge_row put own)
made_by b call.Clause put own = add_clause b (clause_row put own)
made_by b call.Place put own = add_place b (place_row put own)
made_by b call.Leaf put own = add_node b [] (leaf_row put own)
made_by b call.Fail put own = add_node b [] Fail
made_by b call.Never put own = add_node b [] Never
made_by b call.Switch put own = add_node b (pair_rows (drop 1 put)) (switch_row (length b.pairs) put own)
made_by b call.Test put own = add_node b [] (test_row put own)
made_by b call.Ask put own = add_node b [] (ask_row put own)

abbrev pub made : Book → Order → Book
made b o = made_by b o.name o.put o.own

-- the number that it returns: how many rows there were (place 0 counts)
abbrev pub new_number : Book → CallName → ℕ
new_number b call.«Type» = length b.types
new_number b call.Constructor = length b.constructors
new_number b call.Any = length b.patterns
new_number b call.Bind = length b.patterns
new_number b call.Build = length b.patterns
new_number b call.Either = length b.patterns
new_number b call.Gauge = length b.patterns
new_number b call.Clause = length b.clauses
new_number b call.Place = length (places_of b)
new_number b call.Leaf = length b.nodes
new_number b call.Fail = length b.nodes
new_number b call.Never = length b.nodes
new_number b call.Switch = length b.nodes
new_number b call.Test = length b.nodes
new_number b call.Ask = length b.nodes

-- ── what a call makes of the workbook, by its outcome ──

abbrev pub without_sheet : Book → Book
without_sheet b = record { types = b.types; constructors = b.constructors; patterns = []; clauses = []; places = b.places; nodes = b.nodes; pairs = b.pairs; out = b.out }

-- all places but place 0 go too
abbrev pub without_tree : Book → Book
without_tree b = record { types = b.types; constructors = b.constructors; patterns = b.patterns; clauses = b.clauses; places = []; nodes = []; pairs = []; out = b.out }

abbrev pub with_pass : Book → Bool → Book
with_pass b out = record { types = b.types; constructors = b.constructors; patterns = b.patterns; clauses = b.clauses; places = b.places; nodes = b.nodes; pairs = b.pairs; out = out }

-- an accepted call returned a number; a refused one changes nothing
abbrev pub if_returned : Outcome → Book → Book → Book
if_returned (returned n) new old = new
if_returned (refused r) new old = old
if_returned alike new old = old
if_returned (differs es ns) new old = old
if_returned (released bs) new old = old

-- alike hands out a pass
abbrev pub if_alike : Outcome → Book → Book → Book
if_alike (returned n) new old = old
if_alike (refused r) new old = old
if_alike alike new old = new
if_alike (differs es ns) new old = old
if_alike (released bs) new old = old

-- release and withdraw spend the pass even where they are refused
abbrev pub after : Book → Call → Outcome → Book
after b (make o) outcome = if_returned outcome (made b o) b
after b clear_sheet outcome = if_returned outcome (without_sheet b) b
after b clear_tree outcome = if_returned outcome (without_tree b) b
after b (judge w e n) outcome = if_alike outcome (with_pass b true) b
after b (release n) outcome = with_pass b false
after b withdraw outcome = with_pass b false

-- ── what lent memory holds then ──

-- what was written, and then the rest as it was
abbrev pub over : {A : Type 0} → List A → List A → List A
over new memory = new ++ drop (length new) memory

-- judge: the work numbers go back all zeros, unless it is refused
abbrev pub work_after : Outcome → List ℕ → List ℕ
work_after (returned n) memory = over (replicate work_numbers 0) memory
work_after (refused r) memory = memory
work_after alike memory = over (replicate work_numbers 0) memory
work_after (differs es ns) memory = over (replicate work_numbers 0) memory
work_after (released bs) memory = over (replicate work_numbers 0) memory

-- judge: the shown garment and answers stand in front
abbrev pub entries_after : Outcome → List GarmentEntry → List GarmentEntry
entries_after (returned n) memory = memory
entries_after (refused r) memory = memory
entries_after alike memory = memory
entries_after (differs es ns) memory = over es memory
entries_after (released bs) memory = memory

abbrev pub numbers_after : Outcome → List ℕ → List ℕ
numbers_after (returned n) memory = memory
numbers_after (refused r) memory = memory
numbers_after alike memory = memory
numbers_after (differs es ns) memory = over ns memory
numbers_after (released bs) memory = memory

-- release: the file stands in front
abbrev pub bytes_after : Outcome → List ℕ → List ℕ
bytes_after (returned n) memory = memory
bytes_after (refused r) memory = memory
bytes_after alike memory = memory
bytes_after (differs es ns) memory = memory
bytes_after (released bs) memory = over bs memory
