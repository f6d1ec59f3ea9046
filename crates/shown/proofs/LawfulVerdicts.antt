-- The verdict on a workbook, in the terms of the law on runs.
use Rattle.std.proofs.Common.{◌≡◌, ℕ, List, ℤ, Option, sym, refl, ap, subst}
use Rattle.measure.specs.Measure.{Measure, Lawful}
use Rattle.guards.specs.Questions.{Rule}
use Rattle.guards.specs.Listed.{listed_rule}
use Rattle.rules.specs.Book.{Book, schema_of}
use Rattle.rules.specs.Garments.{Value, Place, garment_value}
use Rattle.rules.specs.Sheets.{Answer, clauses_of, sheet_answer}
use Rattle.rules.specs.Trees.{Tree, start_of, tree_answer, Same}
use Rattle.rules.specs.Law.{Alike, Shown, start_answer}
use Rattle.rules.proofs.WellTyped.{garments_are_values}
use Rattle.theory.specs.Knowledge.{Knowledge}
use Rattle.theory.specs.Explore.{Verdict, alike, differs}
use Rattle.shown.specs.ShownAnswers.{shown_answers}
use Rattle.shown.specs.ShownGarment.{Picks, shown_garment}
use Rattle.shown.specs.ShownFits.{places_listed}
use Rattle.shown.specs.Judgement.{judged, Judgement}
use Rattle.shown.specs.LawfulVerdicts.{Judgeable, LawfulVerdict, VerdictsLawful}
use Rattle.shown.proofs.Judgements.{judging_exact, judging_shows, judged_apart}
use Rattle.shown.proofs.ShownTogether.{shown_fits_memory}

module _ (m : Measure) (b : Book) (t : Tree) (table : List Place) (lawful : Lawful m) (able : Judgeable b t table) where
  right : Judgement m (schema_of b) (clauses_of b) t
  right = judging_exact m (schema_of b) (clauses_of b) t lawful able.sheet able.tree

  -- the tree of the workbook answers as its start does
  start_says : (v : Value) (rule : Rule) → start_answer m (start_of b) v rule ≡ tree_answer m t v rule
  start_says v rule = ap (λ (o : Option Tree). start_answer m o v rule) able.start

  shown : (k : Knowledge) (a c : Answer) (pick : Place → ℕ → ℤ) (usual : ℕ → ℤ) → judged m (schema_of b) (clauses_of b) t ≡ differs k a c
      → Picks m (schema_of b) k (places_listed (clauses_of b) table) pick usual
      → Shown m b (shown_garment m (schema_of b) k pick usual (places_listed (clauses_of b) table)) (shown_answers k)
  shown k a c pick usual e free =
      let s = judging_shows m (schema_of b) (clauses_of b) t table k a c pick usual lawful able.sheet able.tree able.limits e free in
      let v = garment_value (schema_of b) (shown_garment m (schema_of b) k pick usual (places_listed (clauses_of b) table)) in
      let rule = listed_rule (shown_answers k) in
      record {
        typed = s.typed;
        apart = λ h. s.apart (subst (λ (x : Answer). Same (sheet_answer m (clauses_of b) v rule) x) (start_says v rule) h);
        entries = s.entries;
        numbers = s.numbers;
      }

  -- where all are alike no verdict can show a difference
  found : (w : Verdict) → judged m (schema_of b) (clauses_of b) t ≡ w → Alike m b → w ≡ alike
  found alike e h = refl
  found (differs k a c) e h =
      let free = shown_fits_memory.picks m (schema_of b) k (places_listed (clauses_of b) table) (judged_apart m (schema_of b) (clauses_of b) t k a c lawful able.sheet able.tree e).good in
      let s = shown k a c free.0 free.1.0 e free.1.1 in
      absurd (s.apart (h (shown_garment m (schema_of b) k free.0 free.1.0 (places_listed (clauses_of b) table)) (listed_rule (shown_answers k)) s.typed))

  pub lawful_verdict : LawfulVerdict m b t table
  lawful_verdict = record {
    alike_right = λ e es rule typed.
        let v = garment_value (schema_of b) es in
        subst (λ (x : Answer). Same (sheet_answer m (clauses_of b) v rule) x) (sym (start_says v rule)) (right.alike_right e v rule (garments_are_values m (schema_of b) es typed));
    alike_found = found (judged m (schema_of b) (clauses_of b) t) refl;
    differs_shown = shown;
  }

pub verdicts_lawful : VerdictsLawful
verdicts_lawful = lawful_verdict
