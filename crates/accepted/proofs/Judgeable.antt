-- The sheet and the tree of a workbook that calls can make may be judged, and the verdict is lawful.
use Rattle.std.proofs.Common.{◌≤◌, [], ◌∷◌, length, drop, arith}
use Rattle.std.specs.List.{AllByRecursion}
use Rattle.std.proofs.lemmas.List.{length-drop, length-map}
use Rattle.measure.specs.Measure.{Measure}
use Rattle.rules.specs.Book.{Book, schema_of}
use Rattle.rules.specs.Garments.{whole}
use Rattle.rules.specs.Sheets.{clause_from, clauses_of, patterns_of}
use Rattle.rules.specs.Trees.{places_of, nodes_of}
use Rattle.rules.proofs.Wider.{tables}
use Rattle.rules.proofs.Sound.{fields_known, whole_typed, places_typed}
use Rattle.rules.proofs.Entries.{types_within, places_within, places_length}
use Rattle.rules.proofs.Kept.{SoundBook, Reached-sound}
use Rattle.shown.proofs.LawfulVerdicts.{verdicts_lawful}
use Rattle.accepted.specs.Judgeable.{ReachedJudgeable, ReachedLawful}
use Rattle.accepted.proofs.Known.{All-last}
use Rattle.accepted.proofs.SheetKept.{Reached-sheet, sound_constructors, four_fields, sheet_fits, sheet_flat}
use Rattle.accepted.proofs.PlacesKept.{PlacesKept, no_places, places_kept}
use Rattle.accepted.proofs.TreesKept.{TreeKept, trees_kept}

module _ (m : Measure) (b : Book) (s : SoundBook m b) where
  sound_places : PlacesKept b.types b.constructors b.places
  sound_places = places_kept m b.types b.constructors [] b.places b.places (sound_constructors m b s) (no_places b.types b.constructors) s.places

  sound_trees : AllByRecursion (TreeKept (schema_of b) (whole ∷ drop 1 (places_of b))) (nodes_of b)
  sound_trees =
      let fields = fields_known m b.types [] b.constructors (tables b.types b.constructors [] [] []) s.constructors in
      let typed = places_typed m b.types b.constructors [] b.places b.places fields (whole_typed b.types b.constructors) s.places in
      trees_kept m b.types b.constructors b.places sound_places.each typed b.pairs b.nodes [] b.nodes [] b.pairs tt tt s.nodes

  few_types : length b.types ≤ 32
  few_types = (types_within m [] b.types b.types (omega arith) s.types).0

  few_places : length (drop 1 (places_of b)) ≤ 63
  few_places =
      let p = (places_within m b.types b.constructors [] b.places b.places (omega arith) s.places).0 in
      let q = places_length b.types b.places in
      let l = length-drop 1 (places_of b) in
      omega arith

pub reached_judgeable : ReachedJudgeable
reached_judgeable m b t r e =
    let s = Reached-sound m b r in
    let k = Reached-sheet m b r in
    let tree = All-last (TreeKept (schema_of b) (whole ∷ drop 1 (places_of b))) (nodes_of b) t (sound_trees m b s) e in
    let short = k.short in
    let l = length-map b.clauses (clause_from (patterns_of b.patterns)) in
    record {
      start = e;
      sheet = sheet_fits (schema_of b) (clauses_of b) k.clauses;
      tree = tree.fits;
      limits = record {
        few_types = few_types m b s;
        four_fields = four_fields b.types b.constructors (sound_constructors m b s);
        limited = record { light = k.light; short = omega arith; shallow = tree.shallow };
        flat = sheet_flat (schema_of b) (clauses_of b) k.clauses;
        short = tree.short;
        few_places = few_places m b s;
        nested = (sound_places m b s).nested;
        named = tree.listed;
      };
    }

pub reached_lawful : ReachedLawful
reached_lawful m b t lawful r e = verdicts_lawful m b t (drop 1 (places_of b)) lawful (reached_judgeable m b t r e)
