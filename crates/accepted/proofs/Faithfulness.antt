-- A release of a tree that is alike with its sheet is faithful.
use Rattle.std.proofs.Common.{◌≡◌, false, sym, refl, ap₂}
use Rattle.rules.specs.Sheets.{Answer, acts, none, lost}
use Rattle.rules.specs.Trees.{Same}
use Rattle.rules.specs.Calls.{without_sheet, with_pass}
use Rattle.rules.specs.Law.{sheet_says, tree_says}
use Rattle.rules.specs.RoundTrip.{rows_written}
use Rattle.rules.proofs.RoundTrip.{releases_read_back}
use Rattle.accepted.specs.Releases.{ReleasesFaithful}

-- answers that are the same are equal
Same-equal : (a b : Answer) → Same a b → b ≡ a
Same-equal (acts a ps) (acts b qs) h = ap₂ acts (sym h.0) (sym h.1)
Same-equal (acts a ps) none h = absurd h
Same-equal (acts a ps) lost h = absurd h
Same-equal none (acts b qs) h = absurd h
Same-equal none none h = refl
Same-equal none lost h = absurd h
Same-equal lost b h = absurd h

pub releases_faithful : ReleasesFaithful
releases_faithful m b lawful r all = record {
  book = with_pass (without_sheet b) false;
  calls = rows_written b;
  read = releases_read_back m b lawful r;
  garments = refl;
  answers = λ es rule typed. Same-equal (sheet_says m b es rule) (tree_says m b es rule) (all es rule typed);
}
