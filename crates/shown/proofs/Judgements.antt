-- The verdict on the runs of a sheet and a tree is the verdict on the sheet and the tree.
use Rattle.std.proofs.Common.{◌≡◌, Bool, true, false, cond, List, [], sym, refl, ◌∙◌, subst}
use Rattle.measure.specs.Measure.{Measure, Lawful}
use Rattle.guards.specs.Questions.{Rule}
use Rattle.guards.specs.Listed.{listed_rule}
use Rattle.rules.specs.Book.{Schema}
use Rattle.rules.specs.Garments.{Value, OfType, garment_value}
use Rattle.rules.specs.Sheets.{Answer, acts, none, lost, Clause, sheet_answer}
use Rattle.rules.specs.Trees.{Tree, tree_answer, Same}
use Rattle.theory.specs.Runs.{execute, world_of, sheet_run, tree_run, SheetFits}
use Rattle.theory.specs.Inhabited.{inhabited}
use Rattle.theory.specs.Knowledge.{Knowledge}
use Rattle.theory.specs.Explore.{Verdict, alike, differs, explore, Proper}
use Rattle.theory.specs.ProperRuns.{TreeFits}
use Rattle.theory.specs.Verdicts.{SameAnswers, Apart, VerdictRight}
use Rattle.shown.specs.ShownAnswers.{shown_answers}
use Rattle.shown.specs.ShownGarment.{shown_garment}
use Rattle.shown.specs.ShownFits.{places_listed, ShownInMemory}
use Rattle.shown.specs.Judgement.{judged, AnswerAlike, JudgingExact, JudgingShows}
use Rattle.theory.proofs.TreeAnswers.{runs_answer}
use Rattle.theory.proofs.ProperRuns.{runs_proper}
use Rattle.theory.proofs.Verdicts.{alike≢differs}
use Rattle.theory.proofs.Judging.{verdict_exact}
use Rattle.shown.proofs.ShownTogether.{shown_fits_memory}

-- sameness does not depend on the order
Same-turned : (a b : Answer) → Same a b → Same b a
Same-turned (acts a ps) (acts b qs) h = (sym h.0, sym h.1)
Same-turned (acts a ps) none h = h
Same-turned (acts a ps) lost h = h
Same-turned none (acts b qs) h = h
Same-turned none none h = h
Same-turned none lost h = h
Same-turned lost b h = absurd h

module _ (m : Measure) (d : Schema) (ks : List Clause) (t : Tree) (fits : SheetFits d ks) where
  answers_of : (v : Value) (rule : Rule) → OfType m d 0 v → execute (sheet_run ks) (world_of m v rule) ≡ sheet_answer m ks v rule
  answers_of v rule typed = runs_answer.sheets m d v rule ks typed fits

  -- the runs get the same answers where sheet and tree do, and the other way
  from_runs : SameAnswers m d (tree_run t) (sheet_run ks) → AnswerAlike m d ks t
  from_runs h v rule typed =
      Same-turned (tree_answer m t v rule) (sheet_answer m ks v rule)
      (subst (λ (a : Answer). Same a (sheet_answer m ks v rule)) (runs_answer.trees m t v rule)
      (subst (λ (b : Answer). Same (execute (tree_run t) (world_of m v rule)) b) (answers_of v rule typed) (h v rule typed)))

  to_runs : AnswerAlike m d ks t → SameAnswers m d (tree_run t) (sheet_run ks)
  to_runs h v rule typed =
      subst (λ (a : Answer). Same a (execute (sheet_run ks) (world_of m v rule))) (sym (runs_answer.trees m t v rule))
      (subst (λ (b : Answer). Same (tree_answer m t v rule) b) (sym (answers_of v rule typed)) (Same-turned (sheet_answer m ks v rule) (tree_answer m t v rule) (h v rule typed)))

pub judging_exact : JudgingExact
judging_exact m d ks t lawful fits grown =
    let right : VerdictRight m d (tree_run t) (sheet_run ks) = verdict_exact m d (tree_run t) (sheet_run ks) lawful in
    let tree : Proper m d [] (tree_run t) = runs_proper.trees m d [] t grown in
    let sheet : Proper m d [] (sheet_run ks) = runs_proper.sheets m d [] ks fits in
    record {
      alike_right = λ e. from_runs m d ks t fits (right.alike_right e);
      alike_found = λ h. right.alike_found (to_runs m d ks t fits h) tree sheet;
      differs_shown = λ k a b e.
          let s = right.differs_right k a b e tree sheet in (
            s.witness,
            (
              (λ v rule f. (sym (runs_answer.trees m t v rule) ∙ (s.answers v rule f).0, sym (answers_of m d ks t fits v rule f.typed) ∙ (s.answers v rule f).1)),
              λ h. s.other (Same-turned b a h),
            ),
          );
    }

-- where the verdict is that they differ, type 0 has garments, and exploring found the difference
explored : (i : Bool) (v : Verdict) (k : Knowledge) (a b : Answer) → cond i v alike ≡ differs k a b → (i ≡ true) × (v ≡ differs k a b)
explored true v k a b e = (refl, e)
explored false v k a b e = absurd (alike≢differs k a b e)

-- what a verdict that they differ has found of the two runs
pub judged_apart : (m : Measure) (d : Schema) (ks : List Clause) (t : Tree) (k : Knowledge) (a b : Answer) → Lawful m → SheetFits d ks → TreeFits d t → judged m d ks t ≡ differs k a b
    → Apart m d (tree_run t) (sheet_run ks) k a b
judged_apart m d ks t k a b lawful fits grown e =
    (verdict_exact m d (tree_run t) (sheet_run ks) lawful).differs_right k a b e (runs_proper.trees m d [] t grown) (runs_proper.sheets m d [] ks fits)

pub judging_shows : JudgingShows
judging_shows m d ks t table k a b pick usual lawful fits grown limits e free =
    let found = explored (inhabited m d 0) (explore m d [] (tree_run t) (sheet_run ks)) k a b e in
    let apart : Apart m d (tree_run t) (sheet_run ks) k a b = judged_apart m d ks t k a b lawful fits grown e in
    let memory : ShownInMemory m d k (shown_garment m d k pick usual (places_listed ks table)) (shown_answers k) =
    shown_fits_memory.shown m d ks t table k a b pick usual limits found.0 found.1 apart.good free in
    let told = (judging_exact m d ks t lawful fits grown).differs_shown k a b e in
    let answers = told.1.0 _ _ memory.fits in
    record {
      typed = memory.typed;
      apart = λ h. told.1.1 (subst (λ (x : Answer). Same b x) answers.0 (subst (λ (x : Answer). Same x (tree_answer m t (garment_value d (shown_garment m d k pick usual (places_listed ks table))) (listed_rule (shown_answers k)))) answers.1 h));
      entries = memory.entries;
      numbers = memory.numbers;
    }
