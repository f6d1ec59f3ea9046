-- Exploring from nothing known, and the judge's verdict, are exact.
use Rattle.std.proofs.Common.{◌≡◌, Bool, true, false, cond, [], refl, subst}
use Rattle.std.proofs.lemmas.Bool.{both_ways}
use Rattle.measure.specs.Measure.{Measure, Lawful}
use Rattle.guards.specs.Questions.{Rule}
use Rattle.rules.specs.Book.{Schema}
use Rattle.rules.specs.Garments.{Value, OfType}
use Rattle.rules.specs.Sheets.{Answer}
use Rattle.rules.specs.Trees.{Same}
use Rattle.theory.specs.Runs.{Run, execute, world_of}
use Rattle.theory.specs.Inhabited.{inhabited}
use Rattle.theory.specs.Knowledge.{Knowledge, Fits, Good}
use Rattle.theory.specs.Explore.{Verdict, alike, differs, explore, Proper}
use Rattle.theory.specs.Theorems.{Exact, ExploringExact}
use Rattle.theory.specs.Verdicts.{SameAnswers, Apart, VerdictRight, Knowing, VerdictExact}
use Rattle.theory.proofs.Inhabiting.{inhabited_exactly}
use Rattle.theory.proofs.Telling.{tells_right}
use Rattle.theory.proofs.Starting.{start_fits_all}
use Rattle.theory.proofs.Learning.{learning_splits}
use Rattle.theory.proofs.Growing.{good_fits}
use Rattle.theory.proofs.Verdicts.{alike≢differs, same_refuted}
use Rattle.theory.proofs.Careful.{Careful, careful}
use Rattle.theory.proofs.Explored.{alike_shows, differs_shows, Shown}

-- the theorems on knowledge, at one lawful measure and one schema
pub knowing : (m : Measure) (d : Schema) → Lawful m → Knowing m d
knowing m d lawful = record {
  right = λ k v rule l b. tells_right m d k v rule l b lawful;
  fitting = λ k. good_fits m d k lawful;
  apart = learning_splits.apart m d;
  together = learning_splits.together m d;
  good = λ k l b. learning_splits.good m d k l b lawful;
  told = λ k l b. learning_splits.told m d k l b lawful;
  grows = λ k l b. learning_splits.grows m d k l b lawful;
  start_fits = start_fits_all.all m d;
  start_good = start_fits_all.good m d lawful;
}

module _ (m : Measure) (d : Schema) (know : Knowing m d) where
  -- what is shown of good knowledge, where there are garments
  pub Shown-Apart : (first second : Run) (k g : Knowledge) (a b : Answer) → inhabited m d 0 ≡ true → Shown m d know k first second g a b → Apart m d first second g a b
  Shown-Apart first second k g a b some s = record { good = s.good; witness = know.fitting g some s.good; answers = s.answers; other = same_refuted a b s.other }

  module _ (first second : Run) where
    alike_all : explore m d [] first second ≡ alike → SameAnswers m d first second
    alike_all e v rule typed = alike_shows m d know v rule first second [] (know.start_fits v rule typed) e

    -- garments and rules that get the same answers are not apart
    apart_refuted : (k : Knowledge) (a b : Answer) → ((v : Value) (rule : Rule) → Fits m d k v rule → Same (execute first (world_of m v rule)) (execute second (world_of m v rule)))
        → Apart m d first second k a b → ⊥
    apart_refuted k a b all s =
        let v = s.witness.0 in
        let rule = s.witness.1.0 in
        let fits = s.witness.1.1 in
        let got = s.answers v rule fits in
        s.other (subst (Same a) got.1 (subst (λ (x : Answer). Same x (execute second (world_of m v rule))) got.0 (all v rule fits)))

    -- where all that fit get the same answers, exploring says alike
    module _ (k : Knowledge) (some : inhabited m d 0 ≡ true) (ok : Good m d k) (p : Careful m d k first) (q : Careful m d k second) where
      pub Apart-found : (g : Knowledge) (a b : Answer) → explore m d k first second ≡ differs g a b → Apart m d first second g a b
      Apart-found g a b e = Shown-Apart first second k g a b some (differs_shows m d know first second k g a b ok p q e)

      module _ (all : (v : Value) (rule : Rule) → Fits m d k v rule → Same (execute first (world_of m v rule)) (execute second (world_of m v rule))) where
        no_other : (x : Verdict) → explore m d k first second ≡ x → x ≡ alike
        no_other alike e = refl
        no_other (differs g a b) e =
            absurd (apart_refuted g a b (λ v rule f. all v rule ((differs_shows m d know first second k g a b ok p q e).fewer v rule f)) (Apart-found g a b e))

        pub alike_found : explore m d k first second ≡ alike
        alike_found = no_other (explore m d k first second) refl

    pub Exact-at : Exact m d first second
    Exact-at = record {
      alike_right = alike_all;
      differs_right = λ k a b e some p q. let s = Apart-found [] some know.start_good (careful m d first [] p) (careful m d second [] q) k a b e in (s.witness, (s.answers, s.other));
    }

    module _ (found : (v : Value) → OfType m d 0 v → inhabited m d 0 ≡ true) where
      judged_alike : (i : Bool) → inhabited m d 0 ≡ i → cond i (explore m d [] first second) alike ≡ alike → SameAnswers m d first second
      judged_alike true i e = alike_all e
      judged_alike false i e = λ v rule typed. absurd (both_ways (inhabited m d 0) i (found v typed))

      judged_differs : (i : Bool) → inhabited m d 0 ≡ i → (k : Knowledge) (a b : Answer) → cond i (explore m d [] first second) alike ≡ differs k a b
          → Proper m d [] first → Proper m d [] second → Apart m d first second k a b
      judged_differs true i k a b e p q = Apart-found [] i know.start_good (careful m d first [] p) (careful m d second [] q) k a b e
      judged_differs false i k a b e p q = absurd (alike≢differs k a b e)

      judged_found : (i : Bool) → inhabited m d 0 ≡ i → SameAnswers m d first second → Proper m d [] first → Proper m d [] second → cond i (explore m d [] first second) alike ≡ alike
      judged_found true i all p q = alike_found [] i know.start_good (careful m d first [] p) (careful m d second [] q) (λ v rule f. all v rule f.typed)
      judged_found false i all p q = refl

      pub verdict_right : VerdictRight m d first second
      verdict_right = record {
        alike_right = judged_alike (inhabited m d 0) refl;
        alike_found = judged_found (inhabited m d 0) refl;
        differs_right = judged_differs (inhabited m d 0) refl;
      }

pub exact : ExploringExact
exact m d first second lawful = Exact-at m d (knowing m d lawful) first second

pub verdict_exact : VerdictExact
verdict_exact m d first second lawful = verdict_right m d (knowing m d lawful) first second (λ v typed. inhabited_exactly.found m d 0 v lawful typed)
