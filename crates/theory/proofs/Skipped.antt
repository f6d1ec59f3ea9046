-- Looks whose branches are equal may be skipped.
use Rattle.std.proofs.Common.{◌≡◌, Bool, true, false, cond, sym, refl, ap, ◌∙◌, subst}
use Rattle.measure.specs.Measure.{Measure}
use Rattle.rules.specs.Book.{Schema}
use Rattle.rules.specs.Sheets.{Answer}
use Rattle.rules.specs.Trees.{Same}
use Rattle.theory.specs.Runs.{Look, Run, done, look, World, execute, world_of}
use Rattle.theory.specs.Inhabited.{inhabited}
use Rattle.theory.specs.Knowledge.{Knowledge, Good}
use Rattle.theory.specs.Explore.{alike, explore, Proper}
use Rattle.theory.specs.Quick.{skipping, Sound, StandsFor, Skipping}
use Rattle.theory.specs.Verdicts.{Apart, Knowing}
use Rattle.theory.proofs.Careful.{Careful, careful, careful_both, Careful-skipping}
use Rattle.theory.proofs.Explored.{alike_shows}
use Rattle.theory.proofs.Judging.{Apart-found, alike_found}

either_way : (t : Bool) (a b c : Answer) → c ≡ a → c ≡ b → c ≡ cond t a b
either_way true a b c e f = e
either_way false a b c e f = f

skips_one : (l : Look) (r : Run) (w : World) → execute (look l r r) w ≡ execute r w
skips_one l r w = sym (either_way (w l) (execute r w) (execute r w) (execute r w) refl refl)

module _ (equal : Run → Run → Bool) (sound : Sound equal) where
  skips_all : (r : Run) (w : World) → execute (skipping equal r) w ≡ execute r w
  skips_all (done a) w = refl
  skips_all (look l y n) w = go (equal (skipping equal y) (skipping equal n)) refl (skips_all y w) (skips_all n w)
    where
      go : (t : Bool) → equal (skipping equal y) (skipping equal n) ≡ t → execute (skipping equal y) w ≡ execute y w → execute (skipping equal n) w ≡ execute n w
          → execute (cond t (skipping equal y) (look l (skipping equal y) (skipping equal n))) w ≡ cond (w l) (execute y w) (execute n w)
      go true e p q =
          either_way (w l) (execute y w) (execute n w) (execute (skipping equal y) w) p (ap (λ (r : Run). execute r w) (sound (skipping equal y) (skipping equal n) e) ∙ q)
      go false e p q =
          ap (λ (a : Answer). cond (w l) a (execute (skipping equal n) w)) p ∙ ap (cond (w l) (execute y w)) q

-- ── runs with the same answers stand for each other ──

module _ (m : Measure) (d : Schema) (know : Knowing m d) (k : Knowledge) (some : inhabited m d 0 ≡ true) (ok : Good m d k) where
  module _ (first second first' second' : Run) (equal_first : (w : World) → execute first w ≡ execute first' w) (equal_second : (w : World) → execute second w ≡ execute second' w) where
    alike_over : Careful m d k first' → Careful m d k second' → explore m d k first second ≡ alike → explore m d k first' second' ≡ alike
    alike_over p q e = alike_found m d know first' second' k some ok p q
        (λ v rule f.
        let w = world_of m v rule in
        subst (Same (execute first' w)) (equal_second w) (subst (λ (a : Answer). Same a (execute second w)) (equal_first w) (alike_shows m d know v rule first second k f e)))

    Apart-over : (g : Knowledge) (a b : Answer) → Apart m d first second g a b → Apart m d first' second' g a b
    Apart-over g a b s = record {
      good = s.good;
      witness = s.witness;
      answers = λ v rule f. (sym (equal_first (world_of m v rule)) ∙ (s.answers v rule f).0, sym (equal_second (world_of m v rule)) ∙ (s.answers v rule f).1);
      other = s.other;
    }

  stands_for : (first second first' second' : Run) → ((w : World) → execute first w ≡ execute first' w) → ((w : World) → execute second w ≡ execute second' w)
      → Careful m d k first → Careful m d k second → Careful m d k first' → Careful m d k second' → StandsFor m d k first second first' second'
  stands_for first second first' second' ef es p q p' q' = record {
    alike_too = alike_over first second first' second' ef es p' q';
    alike_before = alike_over first' second' first second (λ w. sym (ef w)) (λ w. sym (es w)) p q;
    apart_too = λ g a b e. Apart-over first second first' second' ef es g a b (Apart-found m d know first second k some ok p q g a b e);
  }

  -- the branch of a look that is skipped is careful
  branch_Careful : (l : Look) (r : Run) → Proper m d k (look l r r) → Careful m d k r
  branch_Careful l r p = let c = careful m d (look l r r) k p in careful_both m d know l r k ok c.0 c.1.0 c.1.1

pub Skipping-holds : (m : Measure) (d : Schema) → Knowing m d → Skipping m d
Skipping-holds m d know = record {
  same_branches = skips_one;
  same_answers = skips_all;
  alike_right = λ k l r second e v rule f.
      subst (λ (a : Answer). Same a (execute second (world_of m v rule))) (sym (skips_one l r (world_of m v rule))) (alike_shows m d know v rule r second k f e);
  in_first = λ k l r second some ok p q.
      stands_for m d know k some ok r second (look l r r) second (λ w. sym (skips_one l r w)) (λ w. refl)
      (branch_Careful m d know k some ok l r p) (careful m d second k q) (careful m d (look l r r) k p) (careful m d second k q);
  in_second = λ k l first r some ok p q.
      stands_for m d know k some ok first r first (look l r r) (λ w. refl) (λ w. sym (skips_one l r w))
      (careful m d first k p) (branch_Careful m d know k some ok l r q) (careful m d first k p) (careful m d (look l r r) k q);
  in_both = λ k equal first second sound some ok p q.
      let c = careful m d first k p in
      let e = careful m d second k q in
      stands_for m d know k some ok (skipping equal first) (skipping equal second) first second (skips_all equal sound first) (skips_all equal sound second)
      (Careful-skipping m d know equal sound first k ok c) (Careful-skipping m d know equal sound second k ok e) c e;
}
