-- Exploring goes on as well from where a run stopped.
use Rattle.std.proofs.Common.{◌≡◌, Bool, true, false, Some, None, Option, sym, refl, ap, ◌∙◌}
use Rattle.measure.specs.Measure.{Measure}
use Rattle.rules.specs.Book.{Schema}
use Rattle.rules.specs.Sheets.{Answer}
use Rattle.theory.specs.Runs.{Run, done, look}
use Rattle.theory.specs.Knowledge.{Knowledge, learn, tells, Good}
use Rattle.theory.specs.Explore.{Verdict, or_next, by_answer, explore_second, explore, More}
use Rattle.theory.specs.Settle.{settle}
use Rattle.theory.specs.Verdicts.{Knowing}
use Rattle.theory.proofs.Careful.{Careful, Careful-yes, Careful-no, learnt_Good, learnt_More, learnt_yes, learnt_no}
use Rattle.theory.proofs.Kept.{More-More}

module _ (m : Measure) (d : Schema) where
  pub resume_first : (k : Knowledge) (first second : Run) → explore m d k first second ≡ explore m d k (settle (tells m d k) first) second
  resume_first k (done a) second = refl
  resume_first k (look l y n) second = go (tells m d k l) refl (resume_first k y second) (resume_first k n second)
    where
      go : (o : Option Bool) → tells m d k l ≡ o
          → explore m d k y second ≡ explore m d k (settle (tells m d k) y) second → explore m d k n second ≡ explore m d k (settle (tells m d k) n) second
          → by_answer o (explore m d k y second) (explore m d k n second) (or_next (explore m d (learn k l true) y second) (explore m d (learn k l false) n second))
          ≡ explore m d k (by_answer o (settle (tells m d k) y) (settle (tells m d k) n) (look l y n)) second
      go None e p q = sym (ap (λ (o : Option Bool). by_answer o (explore m d k y second) (explore m d k n second) (or_next (explore m d (learn k l true) y second) (explore m d (learn k l false) n second))) e)
      go (Some true) e p q = p
      go (Some false) e p q = q

  -- the second run may have been followed with less knowledge
  pub resume_second : (k j : Knowledge) → More m d k j → (a : Answer) (second : Run) → explore_second m d j a second ≡ explore_second m d j a (settle (tells m d k) second)
  resume_second k j more a (done b) = refl
  resume_second k j more a (look l y n) = go (tells m d k l) refl (resume_second k j more a y) (resume_second k j more a n)
    where
      by : Option Bool → Verdict
      by o = by_answer o (explore_second m d j a y) (explore_second m d j a n) (or_next (explore_second m d (learn j l true) a y) (explore_second m d (learn j l false) a n))

      go : (o : Option Bool) → tells m d k l ≡ o
          → explore_second m d j a y ≡ explore_second m d j a (settle (tells m d k) y) → explore_second m d j a n ≡ explore_second m d j a (settle (tells m d k) n)
          → explore_second m d j a (look l y n) ≡ explore_second m d j a (by_answer o (settle (tells m d k) y) (settle (tells m d k) n) (look l y n))
      go None e p q = refl
      go (Some true) e p q = ap by (more l true e) ∙ p
      go (Some false) e p q = ap by (more l false e) ∙ q

  module _ (know : Knowing m d) (k : Knowledge) where
    pub resume_ahead : (first second : Run) (j : Knowledge) → More m d k j → Good m d j → Careful m d j first
        → explore m d j first second ≡ explore m d j first (settle (tells m d k) second)
    resume_ahead (done a) second j more ok p = resume_second k j more a second
    resume_ahead (look l y n) second j more ok p = go (tells m d j l) refl (resume_ahead y second) (resume_ahead n second)
      where
        go : (o : Option Bool) → tells m d j l ≡ o
            → ((i : Knowledge) → More m d k i → Good m d i → Careful m d i y → explore m d i y second ≡ explore m d i y (settle (tells m d k) second))
            → ((i : Knowledge) → More m d k i → Good m d i → Careful m d i n → explore m d i n second ≡ explore m d i n (settle (tells m d k) second))
            → by_answer o (explore m d j y second) (explore m d j n second) (or_next (explore m d (learn j l true) y second) (explore m d (learn j l false) n second))
            ≡ by_answer o (explore m d j y (settle (tells m d k) second)) (explore m d j n (settle (tells m d k) second))
            (or_next (explore m d (learn j l true) y (settle (tells m d k) second)) (explore m d (learn j l false) n (settle (tells m d k) second)))
        go (Some true) e hy hn = hy j more ok (Careful-yes m d know j l y n p ok e)
        go (Some false) e hy hn = hn j more ok (Careful-no m d know j l y n p ok e)
        go None e hy hn =
            let on_yes = hy (learn j l true) (More-More m d k j (learn j l true) more (learnt_More m d know j l y n p ok e true)) (learnt_Good m d know j l y n p ok e true) (learnt_yes m d know j l y n p ok e) in
            let on_no = hn (learn j l false) (More-More m d k j (learn j l false) more (learnt_More m d know j l y n p ok e false)) (learnt_Good m d know j l y n p ok e false) (learnt_no m d know j l y n p ok e) in
            ap (λ (v : Verdict). or_next v (explore m d (learn j l false) n second)) on_yes
            ∙ ap (or_next (explore m d (learn j l true) y (settle (tells m d k) second))) on_no
