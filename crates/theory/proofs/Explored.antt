-- What a verdict shows of the two runs explored, from any knowledge on.
use Rattle.std.proofs.Common.{◌≡◌, Bool, true, false, cond, Some, None, Option, sym, refl, ap, ◌∙◌, subst, ⊎_elim}
use Rattle.std.proofs.lemmas.Bool.{cases_Bool}
use Rattle.measure.specs.Measure.{Measure}
use Rattle.guards.specs.Questions.{Rule}
use Rattle.rules.specs.Book.{Schema}
use Rattle.rules.specs.Garments.{Value}
use Rattle.rules.specs.Sheets.{Answer}
use Rattle.rules.specs.Trees.{Same}
use Rattle.theory.specs.Runs.{Look, Run, done, look, execute, world_of}
use Rattle.theory.specs.Knowledge.{Knowledge, learn, Fits, tells, Good}
use Rattle.theory.specs.Explore.{same, Verdict, alike, differs, or_next, by_answer, explore_second, explore}
use Rattle.theory.specs.Verdicts.{Knowing}
use Rattle.theory.proofs.Verdicts.{same_right, both_alike, one_differs, end_alike, end_differs, takes_branch}
use Rattle.theory.proofs.Careful.{Careful, Careful-More, Careful-yes, Careful-no, learnt_Good, learnt_More, learnt_yes, learnt_no}

module _ (m : Measure) (d : Schema) (know : Knowing m d) where
  -- ── alike ──

  -- the branch that a garment and a rule take is alike, told or learnt
  module _ (v : Value) (rule : Rule) (l : Look) (k : Knowledge) (fits : Fits m d k v rule) (told_yes told_no learnt_yes learnt_no : Verdict) where
    alike_branch : (P : Bool → Type 0) (o : Option Bool) → tells m d k l ≡ o → by_answer o told_yes told_no (or_next learnt_yes learnt_no) ≡ alike
        → (told_yes ≡ alike → P true) → (told_no ≡ alike → P false)
        → (Fits m d (learn k l true) v rule → learnt_yes ≡ alike → P true) → (Fits m d (learn k l false) v rule → learnt_no ≡ alike → P false)
        → P (world_of m v rule l)
    alike_branch P (Some true) e h ty tn ly ln = subst P (sym (know.right k v rule l true fits e)) (ty h)
    alike_branch P (Some false) e h ty tn ly ln = subst P (sym (know.right k v rule l false fits e)) (tn h)
    alike_branch P None e h ty tn ly ln =
        let both = both_alike learnt_yes learnt_no h in
        ⊎_elim (λ w. subst P (sym w) (ly (know.together k v rule l true fits w) both.0))
        (λ w. subst P (sym w) (ln (know.together k v rule l false fits w) both.1))
        (cases_Bool (world_of m v rule l))

  module _ (v : Value) (rule : Rule) where
    alike-second : (a : Answer) (second : Run) (k : Knowledge) → Fits m d k v rule → explore_second m d k a second ≡ alike → Same a (execute second (world_of m v rule))
    alike-second a (done b) k fits e = same_right a b (end_alike (same a b) k a b e)
    alike-second a (look l y n) k fits e =
        alike_branch v rule l k fits (explore_second m d k a y) (explore_second m d k a n) (explore_second m d (learn k l true) a y) (explore_second m d (learn k l false) a n)
        (λ (t : Bool). Same a (cond t (execute y (world_of m v rule)) (execute n (world_of m v rule)))) (tells m d k l) refl e
        (alike-second a y k fits) (alike-second a n k fits)
        (alike-second a y (learn k l true)) (alike-second a n (learn k l false))

    pub alike_shows : (first second : Run) (k : Knowledge) → Fits m d k v rule → explore m d k first second ≡ alike
        → Same (execute first (world_of m v rule)) (execute second (world_of m v rule))
    alike_shows (done a) second k fits e = alike-second a second k fits e
    alike_shows (look l y n) second k fits e =
        alike_branch v rule l k fits (explore m d k y second) (explore m d k n second) (explore m d (learn k l true) y second) (explore m d (learn k l false) n second)
        (λ (t : Bool). Same (cond t (execute y (world_of m v rule)) (execute n (world_of m v rule))) (execute second (world_of m v rule))) (tells m d k l) refl e
        (alike_shows y second k fits) (alike_shows n second k fits)
        (alike_shows y second (learn k l true)) (alike_shows n second (learn k l false))

  -- ── differing ──

  -- g is good and holds no more garments than k, all that fit g get the answers a and b, which are not the same
  pub record Shown (k : Knowledge) (first second : Run) (g : Knowledge) (a b : Answer) : Type 0 where
    pub good : Good m d g
    pub fewer : (v : Value) (rule : Rule) → Fits m d g v rule → Fits m d k v rule
    pub answers : (v : Value) (rule : Rule) → Fits m d g v rule → (execute first (world_of m v rule) ≡ a) × (execute second (world_of m v rule) ≡ b)
    pub other : same a b ≡ false

  -- where j is k with the answer t to l, what the branch shows the run shows
  module _ (k j : Knowledge) (l : Look) (y n : Run) (t : Bool) (g : Knowledge) (a b : Answer)
      (narrows : (v : Value) (rule : Rule) → Fits m d j v rule → Fits m d k v rule × (world_of m v rule l ≡ t)) where
    on_first : (second : Run) → Shown j (cond t y n) second g a b → Shown k (look l y n) second g a b
    on_first second s = record {
      good = s.good;
      fewer = λ v rule f. (narrows v rule (s.fewer v rule f)).0;
      answers = λ v rule f. (takes_branch (world_of m v rule) l y n t (narrows v rule (s.fewer v rule f)).1 ∙ (s.answers v rule f).0, (s.answers v rule f).1);
      other = s.other;
    }

    on_second : (first : Run) → Shown j first (cond t y n) g a b → Shown k first (look l y n) g a b
    on_second first s = record {
      good = s.good;
      fewer = λ v rule f. (narrows v rule (s.fewer v rule f)).0;
      answers = λ v rule f. ((s.answers v rule f).0, takes_branch (world_of m v rule) l y n t (narrows v rule (s.fewer v rule f)).1 ∙ (s.answers v rule f).1);
      other = s.other;
    }

  told_narrows : (k : Knowledge) (l : Look) (t : Bool) → tells m d k l ≡ Some t → (v : Value) (rule : Rule) → Fits m d k v rule → Fits m d k v rule × (world_of m v rule l ≡ t)
  told_narrows k l t e v rule f = (f, know.right k v rule l t f e)

  learnt_narrows : (k : Knowledge) (l : Look) (t : Bool) (v : Value) (rule : Rule) → Fits m d (learn k l t) v rule → Fits m d k v rule × (world_of m v rule l ≡ t)
  learnt_narrows k l t v rule f = know.apart k v rule l t f

  differs_second : (x : Answer) (second : Run) (k g : Knowledge) (a b : Answer) → Good m d k → Careful m d k second
      → explore_second m d k x second ≡ differs g a b → Shown k (done x) second g a b
  differs_second x (done z) k g a b ok p e =
      let parts = end_differs (same x z) k x z g a b e in
      record {
        good = subst (Good m d) parts.1 ok;
        fewer = λ v rule f. subst (λ (i : Knowledge). Fits m d i v rule) (sym parts.1) f;
        answers = λ v rule f. (parts.2, parts.3);
        other = ap (λ (c : Answer). same c b) (sym parts.2) ∙ ap (same x) (sym parts.3) ∙ parts.0;
      }
  differs_second x (look l y n) k g a b ok p e =
      go (tells m d k l) refl e (λ j. differs_second x y j g a b) (λ j. differs_second x n j g a b)
    where
      go : (o : Option Bool) → tells m d k l ≡ o
          → by_answer o (explore_second m d k x y) (explore_second m d k x n) (or_next (explore_second m d (learn k l true) x y) (explore_second m d (learn k l false) x n)) ≡ differs g a b
          → ((j : Knowledge) → Good m d j → Careful m d j y → explore_second m d j x y ≡ differs g a b → Shown j (done x) y g a b)
          → ((j : Knowledge) → Good m d j → Careful m d j n → explore_second m d j x n ≡ differs g a b → Shown j (done x) n g a b)
          → Shown k (done x) (look l y n) g a b
      go (Some true) t e hy hn = on_second k k l y n true g a b (told_narrows k l true t) (done x) (hy k ok (Careful-yes m d know k l y n p ok t) e)
      go (Some false) t e hy hn = on_second k k l y n false g a b (told_narrows k l false t) (done x) (hn k ok (Careful-no m d know k l y n p ok t) e)
      go None t e hy hn = ⊎_elim
          (λ z. on_second k (learn k l true) l y n true g a b (learnt_narrows k l true) (done x) (hy (learn k l true) (learnt_Good m d know k l y n p ok t true) (learnt_yes m d know k l y n p ok t) z))
          (λ z. on_second k (learn k l false) l y n false g a b (learnt_narrows k l false) (done x) (hn (learn k l false) (learnt_Good m d know k l y n p ok t false) (learnt_no m d know k l y n p ok t) z))
          (one_differs (explore_second m d (learn k l true) x y) (explore_second m d (learn k l false) x n) g a b e)

  pub differs_shows : (first second : Run) (k g : Knowledge) (a b : Answer) → Good m d k → Careful m d k first → Careful m d k second
      → explore m d k first second ≡ differs g a b → Shown k first second g a b
  differs_shows (done x) second k g a b ok p q e = differs_second x second k g a b ok q e
  differs_shows (look l y n) second k g a b ok p q e =
      go (tells m d k l) refl e (λ j. differs_shows y second j g a b) (λ j. differs_shows n second j g a b)
    where
      go : (o : Option Bool) → tells m d k l ≡ o
          → by_answer o (explore m d k y second) (explore m d k n second) (or_next (explore m d (learn k l true) y second) (explore m d (learn k l false) n second)) ≡ differs g a b
          → ((j : Knowledge) → Good m d j → Careful m d j y → Careful m d j second → explore m d j y second ≡ differs g a b → Shown j y second g a b)
          → ((j : Knowledge) → Good m d j → Careful m d j n → Careful m d j second → explore m d j n second ≡ differs g a b → Shown j n second g a b)
          → Shown k (look l y n) second g a b
      go (Some true) t e hy hn = on_first k k l y n true g a b (told_narrows k l true t) second (hy k ok (Careful-yes m d know k l y n p ok t) q e)
      go (Some false) t e hy hn = on_first k k l y n false g a b (told_narrows k l false t) second (hn k ok (Careful-no m d know k l y n p ok t) q e)
      go None t e hy hn = ⊎_elim
          (λ z. on_first k (learn k l true) l y n true g a b (learnt_narrows k l true) second
          (hy (learn k l true) (learnt_Good m d know k l y n p ok t true) (learnt_yes m d know k l y n p ok t) (Careful-More m d k (learn k l true) (learnt_More m d know k l y n p ok t true) second q) z))
          (λ z. on_first k (learn k l false) l y n false g a b (learnt_narrows k l false) second
          (hn (learn k l false) (learnt_Good m d know k l y n p ok t false) (learnt_no m d know k l y n p ok t) (Careful-More m d k (learn k l false) (learnt_More m d know k l y n p ok t false) second q) z))
          (one_differs (explore m d (learn k l true) y second) (explore m d (learn k l false) n second) g a b e)
