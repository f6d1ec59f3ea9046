-- A release is read back, and bytes can say it.
use Rattle.std.proofs.Common.{◌≡◌, ◌+◌, ◌≤◌, false, List, [], ◌++◌, map, length, Ok, ap, ◌∙◌, arith}
use Rattle.std.specs.List.{AllByRecursion}
use Rattle.std.proofs.lemmas.List.{length-append, length-map}
use Rattle.measure.specs.Measure.{Measure, Lawful}
use Rattle.pattern_file.specs.Contents.{max_entries}
use Rattle.pattern_file.proofs.RoundTrip.{reads_back as encoded_back}
use Rattle.rules.specs.Book.{Book, empty_book}
use Rattle.rules.specs.Calls.{Order, without_sheet, with_pass}
use Rattle.rules.specs.Files.{type_order, constructor_order, place_order, node_order, release_orders, release_entries, read_entries, read_contents}
use Rattle.rules.specs.RoundTrip.{rows_written, read_back, FilesReadBack, EntriesFit, ReleasesReadBack, Reached}
use Rattle.rules.proofs.Chains.{Chain, Chain-append, reads_Chain}
use Rattle.rules.proofs.Wider.{tables}
use Rattle.rules.proofs.Entries.{joined_append, types_within, constructors_within, places_within, nodes_within}
use Rattle.rules.proofs.Fitting.{Fit, orders_entries, tables_fit, EntryFits}
use Rattle.rules.proofs.Kept.{SoundBook, Reached-sound}
use Rattle.rules.proofs.Lists.{AllByRecursion-append}
use Rattle.std.proofs.lemmas.List.Elements.{All-from_recursion}

module _ (m : Measure) (b : Book) (s : SoundBook m b) where
  -- the whole release is carried out without a refusal
  whole_Chain : Chain m empty_book (release_orders b) (tables b.types b.constructors b.places b.nodes b.pairs)
  whole_Chain =
      Chain-append m empty_book (map type_order b.types) (tables b.types [] [] [] []) _ _ s.types
      (Chain-append m (tables b.types [] [] [] []) (map constructor_order b.constructors) (tables b.types b.constructors [] [] []) _ _ s.constructors
      (Chain-append m (tables b.types b.constructors [] [] []) (map place_order b.places) (tables b.types b.constructors b.places [] []) _ _ s.places s.nodes))

  orders_counted : 0 + length (release_orders b) ≡ rows_written b
  orders_counted = simp (length-append, length-map) (omega arith)

  reads_back : read_entries m empty_book (release_entries b) ≡ read_back b
  reads_back =
      reads_Chain m 0 0 empty_book (release_orders b) (tables b.types b.constructors b.places b.nodes b.pairs) whole_Chain
      ∙ ap (λ n. record { book = with_pass (without_sheet b) false; result = Ok n }) orders_counted

  entries_few : length (release_entries b) ≤ max_entries
  entries_few =
      let ts : List Order = map type_order b.types in
      let cs : List Order = map constructor_order b.constructors in
      let ps : List Order = map place_order b.places in
      let ns : List Order = map (node_order b.pairs) b.nodes in
      let e = joined_append ts (cs ++ (ps ++ ns)) in
      let f = joined_append cs (ps ++ ns) in
      let g = joined_append ps ns in
      let t = types_within m [] b.types b.types (omega arith) s.types in
      let c = constructors_within m b.types [] b.constructors b.constructors (omega arith) s.constructors in
      let p = places_within m b.types b.constructors [] b.places b.places (omega arith) s.places in
      let n = nodes_within m b.types b.constructors b.places b.pairs [] [] b.nodes b.nodes b.pairs (omega arith) (omega arith) s.nodes in
      omega arith

  orders_Fit : Lawful m → AllByRecursion Fit (release_orders b)
  orders_Fit lawful =
      let f = tables_fit m b lawful s in
      AllByRecursion-append Fit (map type_order b.types) _ f.types
      (AllByRecursion-append Fit (map constructor_order b.constructors) _ f.constructors (AllByRecursion-append Fit (map place_order b.places) _ f.places f.nodes))

pub files_read_back : FilesReadBack
files_read_back m b r = let s = Reached-sound m b r in (reads_back m b s, entries_few m b s)

each_fits : (m : Measure) (b : Book) → Lawful m → Reached m b → AllByRecursion EntryFits (release_entries b)
each_fits m b lawful r = orders_entries (release_orders b) (orders_Fit m b (Reached-sound m b r) lawful)

pub entries_fit : EntriesFit
entries_fit m b lawful r = All-from_recursion EntryFits (release_entries b) (each_fits m b lawful r)

pub releases_read_back : ReleasesReadBack
releases_read_back m b lawful r =
    let f = files_read_back m b r in
    ap (read_contents m empty_book) (encoded_back (release_entries b) f.1 (λ k d l. (entries_fit m b lawful r k d l).1)) ∙ f.0
