-- Worked examples: what the rules say in small cases, each a consequence of the definitions.
use Rattle.std.specs.Prelude.{◌≡◌, ℕ, Bool, true, false, List, [], ◌∷◌, ◌++◌, ℤ, pos, negsuc, Some, None, Ok, Err, Option, Result, ◌≢◌}
use Rattle.std.specs.Option.{option_map}
use Rattle.std.specs.List.{slice_get}
use Rattle.measure.specs.Measure.{Measure}
use Rattle.millimetres.specs.Millimetres.{millimetres}
use Rattle.labels.specs.Labels.{labels}
use Rattle.guards.specs.Questions.{Steps, Rule}
use Rattle.pattern_file.specs.declared.entries.Entry.{Entry}
use Rattle.pattern_file.specs.declared.names.CallName.TheVariants as call
use Rattle.pattern_file.specs.declared.placed.Placed.{Placed}
use Rattle.rules.specs.declared.refusal.Refusal.{Refusal}
use Rattle.rules.specs.declared.rows.TypeRow.TheVariants.{Choice}
use Rattle.rules.specs.declared.rows.GarmentEntry.{GarmentEntry}
use Rattle.rules.specs.Refusals.{refusal_number}
use Rattle.rules.specs.Book.{Book, empty_book, schema_of, fields_of, owner_of}
use Rattle.rules.specs.Garments.{Value, Values, built, measured, no_values, with_value, OfType, Place, whole, steps_of, last, garment_value, well_typed}
use Rattle.rules.specs.Sheets.{Pattern, either, gauge, patterns_of, weight, matches, Binding, list_of, field, question, Clause, Answer, acts, none, lost, sheet_answer}
use Rattle.rules.specs.Trees.{Tree, leaf, fail, never, ask, places_of, tree_answer, Same}
use Rattle.rules.specs.AnswerRules.{difference_rule}
use Rattle.rules.specs.Running.{written_answer}
use Rattle.rules.specs.Grounds.{step_count}
use Rattle.rules.specs.Calls.{make, judge, release, withdraw, Outcome, alike, refusal_of, after}
use Rattle.rules.specs.Files.{order, read_entries}
use Rattle.rules.specs.Law.{sheet_says, tree_says, Alike}
use Rattle.rules.specs.Samples.{◌∶◌, shop_measure, sample, sample_book, with_length, length_entries, book_of, pair_sheet, asks_once, asks_again, one_measure, deep_places, heavy_pattern, many_types, missing_branch, deep_patterns, named_twice}

-- ── words of the examples ──

-- a file's entries are read without a fault, in so many calls
abbrev pub IsRead : Measure → List Entry → ℕ → Type 0
IsRead m es calls = (read_entries m empty_book es).result ≡ Ok calls

-- where reading stops, if it does: the entry, and the number of the refusal
abbrev pub stop_in : Result ℕ (Placed Refusal) → Option (ℕ × ℕ)
stop_in (Ok calls) = None
stop_in (Err f) = Some (f.entry, refusal_number f.item)

abbrev pub IsStopped : Measure → List Entry → ℕ → ℕ → Type 0
IsStopped m es entry number = stop_in (read_entries m empty_book es).result ≡ Some (entry, number)

-- the number with which a test is refused, if it is: in a pattern on the only measure of a garment, and in a node
abbrev pub in_pattern : Measure → ℤ → Option ℕ
in_pattern m t = option_map refusal_number (refusal_of m (book_of m one_measure) (make (order call.Gauge (t ∷ pos 1 ∷ []) (pos 0))))

abbrev pub in_node : Measure → ℤ → Option ℕ
in_node m t = option_map refusal_number (refusal_of m (book_of m one_measure) (make (order call.Test (t ∷ pos 0 ∷ pos 0 ∷ []) (pos 1))))

-- the weight of the newest pattern, and the number of steps of the newest place
abbrev pub newest_weight : Book → ℕ
newest_weight b = elim (last (patterns_of b.patterns)) [ None ↦ 0 | Some p ↦ weight p ]

abbrev pub newest_steps : Book → ℕ
newest_steps b = step_count (last (places_of b))

-- the value of a garment of the sample, whatever the tree's limit
abbrev pub sample_value : List GarmentEntry → Value
sample_value es = garment_value (schema_of (sample_book (pos 199))) es

-- the first and the second field of constructor 0, as places
abbrev pub first_field : Steps
first_field = steps_of (field whole 0 0)

abbrev pub second_field : Steps
second_field = steps_of (field whole 0 1)

-- no to the first field, and yes to the second
pub record OnlySecond (rule : Rule) : Type 0 where
  pub no_first : rule (question 3 (first_field ∷ [])) ≡ false
  pub yes_second : rule (question 3 (second_field ∷ [])) ≡ true

-- a value of constructor 0 with two lengths
abbrev pub two_lengths : ℤ → ℤ → Value
two_lengths a b = built 0 (with_value (measured 0 a) (with_value (measured 0 b) no_values))

-- the difference rule's answer on it to a guard about both fields, where guard 0 has this limit and the others have 0
abbrev pub difference_says : ℤ → ℤ → ℤ → ℕ → List Steps → Bool
difference_says a b limit guard places = difference_rule (two_lengths a b) (limit ∷ []) (question guard places)

-- ── the examples ──

pub record Examples : Type 0 where
  -- 1. The sample is read in fifteen calls.
  pub sample_read : IsRead shop_measure (sample (pos 199)) 15
  -- Its sheet and tree give the same answer to every garment but the one of length 200, under every rule.
  pub sample_same : (es : List GarmentEntry) (rule : Rule) → well_typed shop_measure (schema_of (sample_book (pos 199))) es ≡ true
      → (sample_value es ≢ with_length (pos 200))
      → Same (sheet_says shop_measure (sample_book (pos 199)) es rule) (tree_says shop_measure (sample_book (pos 199)) es rule)
  -- There the sheet acts 7 and the tree acts 8, both with no places, which is not the same; and there is such a garment.
  pub sample_apart : (es : List GarmentEntry) (rule : Rule) → sample_value es ≡ with_length (pos 200)
      → (sheet_says shop_measure (sample_book (pos 199)) es rule ≡ acts 7 [])
      × (tree_says shop_measure (sample_book (pos 199)) es rule ≡ acts 8 [])
      × (Same (sheet_says shop_measure (sample_book (pos 199)) es rule) (tree_says shop_measure (sample_book (pos 199)) es rule) → ⊥)
  pub sample_garment : (well_typed shop_measure (schema_of (sample_book (pos 199))) (length_entries (pos 200)) ≡ true) × (sample_value (length_entries (pos 200)) ≡ with_length (pos 200))
  -- With the tree's limit made 200 they are alike.
  pub mended_read : IsRead shop_measure (sample (pos 200)) 15
  pub mended_Alike : Alike shop_measure (sample_book (pos 200))
  -- 2. Type 0 is a choice without constructors: alike, with any sheet and any tree.
  pub no_constructor : (m : Measure) (b : Book) → slice_get b.types 0 ≡ Some Choice
      → ((c : ℕ) → owner_of (schema_of b) c ≢ Some 0) → Alike m b
  -- Type 0 only leads to itself, each of its constructors having a field of type 0: alike, with any sheet and any tree.
  pub only_itself : (m : Measure) (b : Book) → slice_get b.types 0 ≡ Some Choice
      → ((c : ℕ) → owner_of (schema_of b) c ≡ Some 0 → (i : ℕ) × (slice_get (fields_of (schema_of b) c) i ≡ Some 0)) → Alike m b
  -- Wherever type 0 has no value: alike, with any sheet and any tree.
  pub no_garment : (m : Measure) (b : Book) → ((v : Value) → OfType m (schema_of b) 0 v → ⊥) → Alike m b
  -- 3. The left side of an alternation binds field 0, the right side field 1, under guard 3. Where the rule says no to
  -- the left's place and yes to the right's, the next clause answers.
  pub pair_read : IsRead millimetres pair_sheet 11
  pub next_clause : (es : List GarmentEntry) (rule : Rule) → well_typed millimetres (schema_of (book_of millimetres pair_sheet)) es ≡ true
      → OnlySecond rule → sheet_says millimetres (book_of millimetres pair_sheet) es rule ≡ acts 8 []
  -- Never the other side: where the left side matches and the guard says no, the clauses after it answer, whatever the right side is.
  pub never_other_side : (m : Measure) (left right : Pattern) (guard action : ℕ) (ks : List Clause) (v : Value) (rule : Rule) (bs : List Binding)
      → matches m left whole v ≡ Some bs → rule (question guard (list_of bs)) ≡ false
      → sheet_answer m (record { pattern = either left right; guard = Some guard; action = action } ∷ ks) v rule ≡ sheet_answer m ks v rule
  -- So a tree that asks for the left's place only is alike, and one that goes on to ask for the right's is not.
  pub once_read : IsRead millimetres asks_once 17
  pub once_Alike : Alike millimetres (book_of millimetres asks_once)
  pub again_read : IsRead millimetres asks_again 18
  pub again_differs : Alike millimetres (book_of millimetres asks_again) → ⊥
  -- 4. At most 100 together with not at most 150, in either order, matches nothing.
  pub no_length : (q : Pattern) (p : Place) (v : Value) → matches millimetres (gauge (pos 100) true (gauge (pos 150) false q)) p v ≡ None
  pub no_length_turned : (q : Pattern) (p : Place) (v : Value) → matches millimetres (gauge (pos 150) false (gauge (pos 100) true q)) p v ≡ None
  -- 5. A leaf that names a field of constructor 1, on a value of constructor 0: lost.
  pub other_field : (m : Measure) (action i : ℕ) (vs : Values) (rule : Rule)
      → tree_answer m (leaf action (field whole 1 i ∷ [])) (built 0 vs) rule ≡ lost
  -- 6. An ask below its own yes: the answer does not depend on its no node.
  pub asked_twice : (m : Measure) (guard : ℕ) (ps : List Place) (y n n' o : Tree) (v : Value) (rule : Rule)
      → tree_answer m (ask guard ps (ask guard ps y n) o) v rule ≡ tree_answer m (ask guard ps (ask guard ps y n') o) v rule
  -- 7. The test 10,000 mm stands, and -1,001 mm is refused with 8; of three labels the test 7 stands, and 8 is refused with 8.
  pub most_length : (in_pattern millimetres (pos 10000) ≡ None) × (in_node millimetres (pos 10000) ≡ None)
  pub too_short : (in_pattern millimetres (negsuc 1000) ≡ Some 8) × (in_node millimetres (negsuc 1000) ≡ Some 8)
  pub all_labels : (in_pattern (labels 3) (pos 7) ≡ None) × (in_node (labels 3) (pos 7) ≡ None)
  pub no_labels : (in_pattern (labels 3) (pos 8) ≡ Some 8) × (in_node (labels 3) (pos 8) ≡ Some 8)
  -- 8. A place of 16 steps stands, and one of 17 is refused with 9, at its entry.
  pub sixteen_steps : (m : Measure) → IsRead m (deep_places 16) 18 × (newest_steps (book_of m (deep_places 16)) ≡ 16)
  pub seventeen_steps : (m : Measure) → IsStopped m (deep_places 17) 53 9
  -- 9. A pattern of weight 256 stands, and one of 257 is refused with 14; so it is with the weight of all clauses.
  pub weight_256 : (m : Measure) → IsRead m heavy_pattern 10 × (newest_weight (book_of m heavy_pattern) ≡ 256)
  pub weight_257 : (m : Measure) → IsStopped m (heavy_pattern ++ 0 ∶ pos 8 ∷ 4 ∶ pos 1 ∷ []) 19 14
  pub clauses_256 : (m : Measure) → IsRead m (heavy_pattern ++ 0 ∶ pos 8 ∷ 0 ∶ negsuc 0 ∷ 8 ∶ pos 7 ∷ []) 11
  pub clauses_257 : (m : Measure) → IsStopped m (heavy_pattern ++ 0 ∶ pos 8 ∷ 0 ∶ negsuc 0 ∷ 8 ∶ pos 7 ∷ 0 ∶ pos 0 ∷ 0 ∶ negsuc 0 ∷ 8 ∶ pos 8 ∷ []) 23 14
  -- 10. There are 32 types, and the 33rd is refused with 13.
  pub types_32 : (m : Measure) → IsRead m (many_types 32) 32
  pub types_33 : (m : Measure) → IsStopped m (many_types 33) 32 13
  -- 11. A switch without a branch for a constructor that no garment has, a field of it having a type without values: no difference.
  pub branch_read : (m : Measure) → IsRead m missing_branch 9
  pub branch_Alike : (m : Measure) → Alike m (book_of m missing_branch)
  -- 12. Differences: 10 - 4 exceeds 5, and not 6; the widest difference of signed 64-bit numbers is not wrapped; guard 8, one place, or a place that ends on no atom gets no.
  pub exceeds_limit : difference_says (pos 10) (pos 4) (pos 5) 0 (first_field ∷ second_field ∷ []) ≡ true
  pub equals_limit : difference_says (pos 10) (pos 4) (pos 6) 0 (first_field ∷ second_field ∷ []) ≡ false
  pub not_wrapped : difference_says (pos 9223372036854775807) (negsuc 9223372036854775807) (pos 2147483647) 0 (first_field ∷ second_field ∷ []) ≡ true
  pub other_guard : difference_says (pos 10) (pos 4) (pos 5) 8 (first_field ∷ second_field ∷ []) ≡ false
  pub one_place : difference_says (pos 10) (pos 4) (pos 5) 0 (first_field ∷ []) ≡ false
  pub no_atom : difference_says (pos 10) (pos 4) (pos 5) 0 (first_field ∷ [] ∷ []) ≡ false
  -- 13. An action's list is written as in a question without the guard; none and lost write nothing.
  pub list_written : written_answer (acts 7 (second_field ∷ [] ∷ [])) ≡ 2 ∷ 1 ∷ 0 ∷ 1 ∷ 0 ∷ []
  pub none_written : (written_answer none ≡ []) × (written_answer lost ≡ [])
  -- 14. A clause's list goes by rising variable, whatever was bound first.
  pub rising_variables : list_of (record { variable = 1; place = field whole 0 1 } ∷ record { variable = 0; place = field whole 0 0 } ∷ []) ≡ first_field ∷ second_field ∷ []
  -- 15. Fail answers none and never answers lost; none is the same as none, and lost as nothing, on either side.
  pub fail_and_never : (m : Measure) (v : Value) (rule : Rule) → (tree_answer m fail v rule ≡ none) × (tree_answer m never v rule ≡ lost)
  pub none_same : Same none none
  pub lost_apart : (a : Answer) → (Same lost a → ⊥) × (Same a lost → ⊥)
  pub acting_apart : (action : ℕ) (ps : List Steps) → (Same (acts action ps) none → ⊥) × (Same none (acts action ps) → ⊥)
  -- 16. A pattern of 16 levels stands, and one of 17 is refused with 9.
  pub sixteen_levels : (m : Measure) → IsRead m (deep_patterns 16) 19
  pub seventeen_levels : (m : Measure) → IsStopped m (deep_patterns 17) 37 9
  -- 17. A constructor twice in one switch is refused with 6.
  pub stops_at_named_twice : (m : Measure) → IsStopped m named_twice 8 6
  -- 18. Release and withdraw spend the pass, whatever comes of them; a judge that says alike hands one out.
  pub pass_spent : (b : Book) (n : ℕ) (o : Outcome) → ((after b (release n) o).out ≡ false) × ((after b withdraw o).out ≡ false)
  pub pass_out : (b : Book) (w e n : ℕ) → (after b (judge w e n) alike).out ≡ true
  -- 19. A fault of the file is refused with 10: an unknown tag at its entry, numbers left over at the end; the calls before it stand.
  pub unknown_tag : (m : Measure) → IsStopped m (1 ∶ negsuc 0 ∷ 16 ∶ pos 0 ∷ []) 1 10
  pub left_over : (m : Measure) → IsStopped m (1 ∶ negsuc 0 ∷ 0 ∶ pos 5 ∷ []) 2 10
  pub calls_stand : (m : Measure) → (book_of m (1 ∶ negsuc 0 ∷ 16 ∶ pos 0 ∷ [])).types ≡ Choice ∷ []
