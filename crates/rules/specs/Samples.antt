-- The sample sheet and tree as the entries of a file, over millimetres joined with eight labels; and small workbooks at the borders of the rules.
use Rattle.std.specs.Prelude.{ℕ, zero, suc, List, [], ◌∷◌, ◌++◌, replicate, ℤ, pos, negsuc}
use Rattle.measure.specs.Measure.{Measure}
use Rattle.millimetres.specs.Millimetres.{millimetres}
use Rattle.labels.specs.Labels.{labels}
use Rattle.joined.specs.Joined.{joined}
use Rattle.pattern_file.specs.declared.entries.Entry.{Entry}
use Rattle.rules.specs.declared.rows.GarmentEntry.{GarmentEntry}
use Rattle.rules.specs.Book.{Book, empty_book}
use Rattle.rules.specs.Garments.{Value, built, measured, no_values, with_value}
use Rattle.rules.specs.Files.{read_entries}

-- an entry: its tag and its number
infix 70 ◌∶◌
abbrev pub ◌∶◌ : ℕ → ℤ → Entry
tag ∶ number = record { tag = tag; number = number }

-- millimetres as even sorts, eight labels as odd ones
abbrev pub shop_measure : Measure
shop_measure = joined millimetres (labels 8)

-- a garment may have a length; the sheet has an action for lengths of at most 200, the tree for at most `limit`
abbrev pub sample : ℤ → List Entry
sample limit =
    1 ∶ negsuc 0 ∷ 1 ∶ pos 0 ∷ 2 ∶ pos 0 ∷ 0 ∶ pos 1 ∷ 2 ∶ pos 0
    ∷ 3 ∶ pos 1 ∷ 0 ∶ pos 200 ∷ 0 ∶ pos 1 ∷ 7 ∶ pos 0 ∷ 0 ∶ pos 1 ∷ 5 ∶ pos 1
    ∷ 0 ∶ pos 2 ∷ 0 ∶ negsuc 0 ∷ 8 ∶ pos 7 ∷ 3 ∶ pos 0 ∷ 0 ∶ pos 3 ∷ 0 ∶ negsuc 0 ∷ 8 ∶ pos 8
    ∷ 0 ∶ pos 0 ∷ 0 ∶ pos 1 ∷ 9 ∶ pos 0 ∷ 10 ∶ pos 7 ∷ 10 ∶ pos 8
    ∷ 0 ∶ limit ∷ 0 ∶ pos 0 ∷ 0 ∶ pos 1 ∷ 14 ∶ pos 1
    ∷ 0 ∶ pos 1 ∷ 0 ∶ pos 1 ∷ 0 ∶ pos 2 ∷ 13 ∶ pos 0
    ∷ []

abbrev pub sample_book : ℤ → Book
sample_book limit = (read_entries shop_measure empty_book (sample limit)).book

-- the value with a length, and the entries of a garment that unfolds to it
abbrev pub with_length : ℤ → Value
with_length a = built 1 (with_value (measured 0 a) no_values)

abbrev pub no_children : List ℕ
no_children = 0 ∷ 0 ∷ 0 ∷ 0 ∷ []

abbrev pub length_entries : ℤ → List GarmentEntry
length_entries a =
    record { ty = 1; mark = 1; head = a; count = 0; children = no_children }
    ∷ record { ty = 0; mark = 0; head = pos 1; count = 1; children = no_children }
    ∷ []

-- ── small workbooks ──

-- the workbook that entries make of an empty one
abbrev pub book_of : Measure → List Entry → Book
book_of m es = (read_entries m empty_book es).book

-- a garment is a pair of lengths; an alternation puts variable 0 on the first length or else on the second, under guard 3
abbrev pub pair_sheet : List Entry
pair_sheet =
    1 ∶ negsuc 0 ∷ 1 ∶ pos 0 ∷ 0 ∶ pos 1 ∷ 0 ∶ pos 1 ∷ 2 ∶ pos 0
    ∷ 3 ∶ pos 1 ∷ 0 ∶ pos 0 ∷ 4 ∶ pos 0
    ∷ 0 ∶ pos 1 ∷ 0 ∶ pos 0 ∷ 5 ∶ pos 0 ∷ 0 ∶ pos 0 ∷ 0 ∶ pos 1 ∷ 5 ∶ pos 0
    ∷ 0 ∶ pos 2 ∷ 6 ∶ pos 3 ∷ 0 ∶ pos 4 ∷ 0 ∶ pos 3 ∷ 8 ∶ pos 7
    ∷ 3 ∶ pos 0 ∷ 0 ∶ pos 5 ∷ 0 ∶ negsuc 0 ∷ 8 ∶ pos 8
    ∷ []

-- places 1 and 2 are the two lengths; the nodes: action 7 with the first, action 8, action 7 with the second
abbrev pub pair_nodes : List Entry
pair_nodes =
    0 ∶ pos 0 ∷ 0 ∶ pos 0 ∷ 9 ∶ pos 0 ∷ 0 ∶ pos 0 ∷ 0 ∶ pos 0 ∷ 9 ∶ pos 1
    ∷ 0 ∶ pos 1 ∷ 10 ∶ pos 7 ∷ 10 ∶ pos 8 ∷ 0 ∶ pos 2 ∷ 10 ∶ pos 7
    ∷ []

-- a tree that asks for the first length only, and one that goes on to ask for the second
abbrev pub asks_once : List Entry
asks_once = pair_sheet ++ (pair_nodes ++ 0 ∶ pos 0 ∷ 0 ∶ pos 1 ∷ 0 ∶ pos 1 ∷ 15 ∶ pos 3 ∷ [])

abbrev pub asks_again : List Entry
asks_again =
    pair_sheet ++ (pair_nodes
    ++ 0 ∶ pos 2 ∷ 0 ∶ pos 1 ∷ 0 ∶ pos 2 ∷ 15 ∶ pos 3
    ∷ 0 ∶ pos 0 ∷ 0 ∶ pos 3 ∷ 0 ∶ pos 1 ∷ 15 ∶ pos 3
    ∷ [])

-- a garment has one measure, at place 1; pattern 0 takes every measure, and node 0 is a leaf
abbrev pub one_measure : List Entry
one_measure =
    1 ∶ negsuc 0 ∷ 1 ∶ pos 0 ∷ 0 ∶ pos 1 ∷ 2 ∶ pos 0
    ∷ 3 ∶ pos 1 ∷ 0 ∶ pos 0 ∷ 0 ∶ pos 0 ∷ 9 ∶ pos 0 ∷ 10 ∶ pos 7
    ∷ []

-- n places, each a step below the one before, from place k on
abbrev pub places_down : ℕ → ℕ → List Entry
places_down k zero = []
places_down k (suc n) = 0 ∶ pos k ∷ 0 ∶ pos 0 ∷ 9 ∶ pos 0 ∷ places_down (suc k) n

-- a constructor with a field of its own type, and a chain of n places
abbrev pub deep_places : ℕ → List Entry
deep_places n = 1 ∶ negsuc 0 ∷ 0 ∶ pos 0 ∷ 2 ∶ pos 0 ∷ places_down 0 n

-- n alternations, each of the pattern before with itself, from pattern k on: the weight is doubled, and one more
abbrev pub doubled : ℕ → ℕ → List Entry
doubled k zero = []
doubled k (suc n) = 0 ∶ pos k ∷ 6 ∶ pos k ∷ doubled (suc k) n

-- pattern 7 weighs 255, and pattern 8 weighs 256
abbrev pub heavy_pattern : List Entry
heavy_pattern = 1 ∶ negsuc 0 ∷ 3 ∶ pos 0 ∷ doubled 0 7 ++ 0 ∶ pos 7 ∷ 4 ∶ pos 0 ∷ []

-- n types
abbrev pub many_types : ℕ → List Entry
many_types n = replicate n (1 ∶ negsuc 0)

-- constructor 1 of type 0 has a field of type 1, whose only constructor has a field of type 1; the tree has no branch for constructor 1
abbrev pub missing_branch : List Entry
missing_branch =
    1 ∶ negsuc 0 ∷ 1 ∶ negsuc 0 ∷ 2 ∶ pos 0 ∷ 0 ∶ pos 1 ∷ 2 ∶ pos 0 ∷ 0 ∶ pos 1 ∷ 2 ∶ pos 1
    ∷ 3 ∶ pos 0 ∷ 0 ∶ pos 0 ∷ 0 ∶ negsuc 0 ∷ 8 ∶ pos 8
    ∷ 10 ∶ pos 8 ∷ 0 ∶ negsuc 0 ∷ 0 ∶ pos 0 ∷ 0 ∶ pos 0 ∷ 13 ∶ pos 0
    ∷ []

-- so many builds, each of the one below it, on a constructor that has a field of its own type
abbrev pub builds_up : ℕ → ℕ → List Entry
builds_up zero below = []
builds_up (suc n) below = 0 ∶ pos below ∷ 5 ∶ pos 0 ∷ builds_up n (suc below)

abbrev pub deep_patterns : ℕ → List Entry
deep_patterns n = 1 ∶ negsuc 0 ∷ 0 ∶ pos 0 ∷ 2 ∶ pos 0 ∷ 3 ∶ pos 0 ∷ builds_up n 0

-- a switch that names constructor 0 twice
abbrev pub named_twice : List Entry
named_twice = 1 ∶ negsuc 0 ∷ 2 ∶ pos 0 ∷ 11 ∶ pos 0 ∷ 0 ∶ negsuc 0 ∷ 0 ∶ pos 0 ∷ 0 ∶ pos 0 ∷ 0 ∶ pos 0 ∷ 0 ∶ pos 0 ∷ 13 ∶ pos 0 ∷ []
