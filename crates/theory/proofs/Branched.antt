-- Exploring compares its ends in order, and an open look has those of two branches.
use Rattle.std.proofs.Common.{◌≡◌, ℕ, suc, ◌+◌, ◌^◌, ◌≤◌, max, Bool, true, false, cond, List, [], ◌∷◌, ◌++◌, length, Some, None, Option, sym, refl, ap, ◌∙◌, subst, arith, pow_mono}
use Rattle.std.proofs.Math.Nat.{pow-succ'}
use Rattle.std.proofs.lemmas.List.{length-append}
use Rattle.measure.specs.Measure.{Measure}
use Rattle.rules.specs.Book.{Schema}
use Rattle.rules.specs.Sheets.{Answer}
use Rattle.theory.specs.Runs.{Look, Run, done, look}
use Rattle.theory.specs.Knowledge.{Knowledge, learn, tells, Good}
use Rattle.theory.specs.Explore.{same, Verdict, differs, or_next, by_answer, explore_second, explore}
use Rattle.theory.specs.Left.{left}
use Rattle.theory.specs.Quick.{End, ends_second, ends, first_difference, end_count, one, Branching}
use Rattle.theory.specs.Verdicts.{Knowing}
use Rattle.theory.proofs.LooksLeft.{left_shrinks}
use Rattle.theory.proofs.Careful.{Careful, careful, Careful-More, Careful-yes, Careful-no, learnt_Good, learnt_More, learnt_yes, learnt_no}

-- ── the first difference ──

first_of_both : (xs ys : List End) → first_difference (xs ++ ys) ≡ or_next (first_difference xs) (first_difference ys)
first_of_both [] ys = refl
first_of_both (x ∷ xs) ys = go (same x.first x.second) (first_of_both xs ys)
  where
    go : (t : Bool) → first_difference (xs ++ ys) ≡ or_next (first_difference xs) (first_difference ys)
        → cond t (first_difference (xs ++ ys)) (differs x.known x.first x.second) ≡ or_next (cond t (first_difference xs) (differs x.known x.first x.second)) (first_difference ys)
    go true e = e
    go false e = refl

-- branch by branch
by_branch : (o : Option Bool) (vy vn wy wn : Verdict) (ey en fy fn : List End)
    → vy ≡ first_difference ey → vn ≡ first_difference en → wy ≡ first_difference fy → wn ≡ first_difference fn
    → by_answer o vy vn (or_next wy wn) ≡ first_difference (by_answer o ey en (fy ++ fn))
by_branch (Some true) vy vn wy wn ey en fy fn p q r s = p
by_branch (Some false) vy vn wy wn ey en fy fn p q r s = q
by_branch None vy vn wy wn ey en fy fn p q r s = ap (λ (v : Verdict). or_next v wn) r ∙ ap (or_next (first_difference fy)) s ∙ sym (first_of_both fy fn)

module _ (m : Measure) (d : Schema) where
  compares_second : (a : Answer) (second : Run) (k : Knowledge) → explore_second m d k a second ≡ first_difference (ends_second m d k a second)
  compares_second a (done b) k = refl
  compares_second a (look l y n) k =
      by_branch (tells m d k l) (explore_second m d k a y) (explore_second m d k a n) (explore_second m d (learn k l true) a y) (explore_second m d (learn k l false) a n)
      (ends_second m d k a y) (ends_second m d k a n) (ends_second m d (learn k l true) a y) (ends_second m d (learn k l false) a n)
      (compares_second a y k) (compares_second a n k) (compares_second a y (learn k l true)) (compares_second a n (learn k l false))

  compares_ends : (first second : Run) (k : Knowledge) → explore m d k first second ≡ first_difference (ends m d k first second)
  compares_ends (done a) second k = compares_second a second k
  compares_ends (look l y n) second k =
      by_branch (tells m d k l) (explore m d k y second) (explore m d k n second) (explore m d (learn k l true) y second) (explore m d (learn k l false) n second)
      (ends m d k y second) (ends m d k n second) (ends m d (learn k l true) y second) (ends m d (learn k l false) n second)
      (compares_ends y second k) (compares_ends n second k) (compares_ends y second (learn k l true)) (compares_ends n second (learn k l false))

-- ── how many ends ──

open_count : (o : Option Bool) (ey en fy fn : List End) → o ≡ None → length (by_answer o ey en (fy ++ fn)) ≡ length fy + length fn
open_count o ey en fy fn e = ap (λ (u : Option Bool). length (by_answer u ey en (fy ++ fn))) e ∙ length-append fy fn

told_count : (of : Run → List End) (o : Option Bool) (y n : Run) (both : List End) (b : Bool) → o ≡ Some b → length (by_answer o (of y) (of n) both) ≡ length (of (cond b y n))
told_count of o y n both true e = ap (λ (u : Option Bool). length (by_answer u (of y) (of n) both)) e
told_count of o y n both false e = ap (λ (u : Option Bool). length (by_answer u (of y) (of n) both)) e

doubles : (p q a b most : ℕ) → p ≤ 2 ^ a → q ≤ 2 ^ b → a ≤ most → b ≤ most → p + q ≤ 2 ^ suc most
doubles p q a b most hp hq ha hb =
    let x : 2 ^ a ≤ 2 ^ most = pow_mono ha in
    let y : 2 ^ b ≤ 2 ^ most = pow_mono hb in
    let z = pow-succ' 2 most in
    omega arith

-- what is left of the two branches, and at most after them
count_branch : (o : Option Bool) (ey en fy fn : List End) (a b a' b' after after_yes after_no : ℕ)
    → (o ≡ Some true → length ey ≤ 2 ^ (a + after)) → (o ≡ Some false → length en ≤ 2 ^ (b + after))
    → (o ≡ None → (length fy ≤ 2 ^ (a' + after_yes)) × (length fn ≤ 2 ^ (b' + after_no)) × (a' ≤ a) × (b' ≤ b) × (after_yes ≤ after) × (after_no ≤ after))
    → length (by_answer o ey en (fy ++ fn)) ≤ 2 ^ (by_answer o a b (1 + max a b) + after)
count_branch (Some true) ey en fy fn a b a' b' after ay an p q r = p refl
count_branch (Some false) ey en fy fn a b a' b' after ay an p q r = q refl
count_branch None ey en fy fn a b a' b' after ay an p q r =
    let h = r refl in
    let x : a' + ay ≤ max a b + after = omega (arith, h.2, h.4) in
    let y : b' + an ≤ max a b + after = omega (arith, h.3, h.5) in
    let both = doubles (length fy) (length fn) (a' + ay) (b' + an) (max a b + after) h.0 h.1 x y in
    let z : (1 + max a b) + after ≡ suc (max a b + after) = omega arith in
    subst (λ (t : ℕ). length (fy ++ fn) ≤ 2 ^ t) (sym z) (subst (λ (t : ℕ). t ≤ 2 ^ suc (max a b + after)) (sym (length-append fy fn)) both)

module _ (m : Measure) (d : Schema) (know : Knowing m d) where
  abbrev still : Knowledge → Run → ℕ
  still k r = left one (tells m d k) r

  second_most : (a : Answer) (second : Run) (k : Knowledge) → Good m d k → Careful m d k second → length (ends_second m d k a second) ≤ 2 ^ (still k second + 0)
  second_most a (done b) k ok p = omega arith
  second_most a (look l y n) k ok p =
      count_branch (tells m d k l) (ends_second m d k a y) (ends_second m d k a n) (ends_second m d (learn k l true) a y) (ends_second m d (learn k l false) a n)
      (still k y) (still k n) (still (learn k l true) y) (still (learn k l false) n) 0 0 0
      (λ e. second_most a y k ok (Careful-yes m d know k l y n p ok e))
      (λ e. second_most a n k ok (Careful-no m d know k l y n p ok e))
      (λ e. (
        second_most a y (learn k l true) (learnt_Good m d know k l y n p ok e true) (learnt_yes m d know k l y n p ok e),
        second_most a n (learn k l false) (learnt_Good m d know k l y n p ok e false) (learnt_no m d know k l y n p ok e),
        left_shrinks one (tells m d k) (tells m d (learn k l true)) (learnt_More m d know k l y n p ok e true) y,
        left_shrinks one (tells m d k) (tells m d (learn k l false)) (learnt_More m d know k l y n p ok e false) n,
        omega arith,
        omega arith,
      ))

  pub ends_most : (first second : Run) (k : Knowledge) → Good m d k → Careful m d k first → Careful m d k second → end_count m d k first second ≤ 2 ^ (still k first + still k second)
  ends_most (done a) second k ok p q = subst (λ (t : ℕ). length (ends_second m d k a second) ≤ 2 ^ t) (let z : still k second + 0 ≡ 0 + still k second = omega arith in z) (second_most a second k ok q)
  ends_most (look l y n) second k ok p q =
      count_branch (tells m d k l) (ends m d k y second) (ends m d k n second) (ends m d (learn k l true) y second) (ends m d (learn k l false) n second)
      (still k y) (still k n) (still (learn k l true) y) (still (learn k l false) n) (still k second) (still (learn k l true) second) (still (learn k l false) second)
      (λ e. ends_most y second k ok (Careful-yes m d know k l y n p ok e) q)
      (λ e. ends_most n second k ok (Careful-no m d know k l y n p ok e) q)
      (λ e.
      let more_yes = learnt_More m d know k l y n p ok e true in
      let more_no = learnt_More m d know k l y n p ok e false in (
        ends_most y second (learn k l true) (learnt_Good m d know k l y n p ok e true) (learnt_yes m d know k l y n p ok e) (Careful-More m d k (learn k l true) more_yes second q),
        ends_most n second (learn k l false) (learnt_Good m d know k l y n p ok e false) (learnt_no m d know k l y n p ok e) (Careful-More m d k (learn k l false) more_no second q),
        left_shrinks one (tells m d k) (tells m d (learn k l true)) more_yes y,
        left_shrinks one (tells m d k) (tells m d (learn k l false)) more_no n,
        left_shrinks one (tells m d k) (tells m d (learn k l true)) more_yes second,
        left_shrinks one (tells m d k) (tells m d (learn k l false)) more_no second,
      ))

  -- an answer that is told leaves one branch
  told_first : (k : Knowledge) (l : Look) (y n second : Run) (b : Bool) → tells m d k l ≡ Some b → end_count m d k (look l y n) second ≡ end_count m d k (cond b y n) second
  told_first k l y n second b e =
      told_count (λ (r : Run). ends m d k r second) (tells m d k l) y n (ends m d (learn k l true) y second ++ ends m d (learn k l false) n second) b e

  told_second : (k : Knowledge) (a : Answer) (l : Look) (y n : Run) (b : Bool) → tells m d k l ≡ Some b → end_count m d k (done a) (look l y n) ≡ end_count m d k (done a) (cond b y n)
  told_second k a l y n b e =
      told_count (ends_second m d k a) (tells m d k l) y n (ends_second m d (learn k l true) a y ++ ends_second m d (learn k l false) a n) b e

  pub Branching-holds : Branching m d
  Branching-holds = record {
    compares = λ k first second. compares_ends m d first second k;
    told_first = told_first;
    open_first = λ k l y n second e.
        open_count (tells m d k l) (ends m d k y second) (ends m d k n second) (ends m d (learn k l true) y second) (ends m d (learn k l false) n second) e;
    told_second = told_second;
    open_second = λ k a l y n e.
        open_count (tells m d k l) (ends_second m d k a y) (ends_second m d k a n) (ends_second m d (learn k l true) a y) (ends_second m d (learn k l false) a n) e;
    at_most = λ k first second ok p q. ends_most first second k ok (careful m d first k p) (careful m d second k q);
  }
