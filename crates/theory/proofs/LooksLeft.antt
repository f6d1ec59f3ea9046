-- What is left of a run falls with each look that is taken.
use Rattle.std.proofs.Common.{◌≡◌, ℕ, ◌+◌, ◌≤◌, max, Bool, true, false, Some, None, Option, sym, refl, ap, ◌∙◌, arith}
use Rattle.std.proofs.lemmas.Bool.{true≢false, false≢true}
use Rattle.theory.specs.Runs.{Look, Run, done, look}
use Rattle.theory.specs.Knowledge.{tells}
use Rattle.theory.specs.Explore.{by_answer}
use Rattle.theory.specs.Settle.{Known, settle}
use Rattle.theory.specs.Left.{left, unknown, LooksFall}
use Rattle.std.proofs.lemmas.Option.{none-some}

-- all that k tells j tells
abbrev pub TellsOn : Known → Known → Type 0
TellsOn k j = (l : Look) (b : Bool) → k l ≡ Some b → j l ≡ Some b

abbrev IsLook : Run → Bool
IsLook (done a) = false
IsLook (look l y n) = true

apart_answers : (o : Option Bool) → o ≡ Some true → o ≡ Some false → ⊥
apart_answers o e f = let z : true ≡ false = cc in true≢false z

module _ (weight : Look → ℕ) (k j : Known) (more : TellsOn k j) where
  -- settling with less knowledge leaves as much
  pub left_settled : (r : Run) → left weight j (settle k r) ≡ left weight j r
  left_settled (done a) = refl
  left_settled (look l y n) = go (k l) refl (left_settled y) (left_settled n)
    where
      go : (o : Option Bool) → k l ≡ o → left weight j (settle k y) ≡ left weight j y → left weight j (settle k n) ≡ left weight j n
          → left weight j (by_answer o (settle k y) (settle k n) (look l y n)) ≡ left weight j (look l y n)
      go None e p q = refl
      go (Some true) e p q = p ∙ sym (ap (λ (o : Option Bool). by_answer o (left weight j y) (left weight j n) (weight l + max (left weight j y) (left weight j n))) (more l true e))
      go (Some false) e p q = q ∙ sym (ap (λ (o : Option Bool). by_answer o (left weight j y) (left weight j n) (weight l + max (left weight j y) (left weight j n))) (more l false e))

  pub left_shrinks : (r : Run) → left weight j r ≤ left weight k r
  left_shrinks (done a) = omega arith
  left_shrinks (look l y n) = go (k l) refl (j l) refl (left_shrinks y) (left_shrinks n)
    where
      go : (o : Option Bool) → k l ≡ o → (u : Option Bool) → j l ≡ u → left weight j y ≤ left weight k y → left weight j n ≤ left weight k n
          → by_answer u (left weight j y) (left weight j n) (weight l + max (left weight j y) (left weight j n))
          ≤ by_answer o (left weight k y) (left weight k n) (weight l + max (left weight k y) (left weight k n))
      go None e None f p q = omega arith
      go None e (Some true) f p q = omega arith
      go None e (Some false) f p q = omega arith
      go (Some b) e None f p q = absurd (none-some b (sym f ∙ more l b e))
      go (Some true) e (Some true) f p q = p
      go (Some false) e (Some false) f p q = q
      go (Some true) e (Some false) f p q = absurd (apart_answers (j l) (more l true e) f)
      go (Some false) e (Some true) f p q = absurd (apart_answers (j l) f (more l false e))

-- where a run stops, the look is open
pub stops_open : (k : Known) (r : Run) (l : Look) (y n : Run) → settle k r ≡ look l y n → k l ≡ None
stops_open k (done a) l y n e = absurd (false≢true (ap IsLook e))
stops_open k (look h u v) l y n e = go (k h) refl e (stops_open k u l y n) (stops_open k v l y n)
  where
    go : (o : Option Bool) → k h ≡ o → by_answer o (settle k u) (settle k v) (look h u v) ≡ look l y n
        → (settle k u ≡ look l y n → k l ≡ None) → (settle k v ≡ look l y n → k l ≡ None) → k l ≡ None
    go None z e p q = let same : h ≡ l = cc in ap k (sym same) ∙ z
    go (Some true) z e p q = p e
    go (Some false) z e p q = q e

module _ (weight : Look → ℕ) (k : Known) (r : Run) (l : Look) (y n : Run) (stops : settle k r ≡ look l y n) where
  left_at_stop : left weight k r ≡ weight l + max (left weight k y) (left weight k n)
  left_at_stop =
      sym (left_settled weight k k (λ _ _ z. z) r) ∙ ap (left weight k) stops
      ∙ ap (λ (o : Option Bool). by_answer o (left weight k y) (left weight k n) (weight l + max (left weight k y) (left weight k n))) (stops_open k r l y n stops)

  pub stop_affords : weight l ≤ left weight k r
  stop_affords = let before = left_at_stop in omega arith

  pub left_falls : (j : Known) → TellsOn k j → (b : Bool) → j l ≡ Some b → weight l + left weight j r ≤ left weight k r
  left_falls j more b told =
      let after : left weight j r ≡ by_answer (Some b) (left weight j y) (left weight j n) (weight l + max (left weight j y) (left weight j n)) =
      sym (left_settled weight k j more r) ∙ ap (left weight j) stops
      ∙ ap (λ (o : Option Bool). by_answer o (left weight j y) (left weight j n) (weight l + max (left weight j y) (left weight j n))) told in
      go b after left_at_stop (left_shrinks weight k j more y) (left_shrinks weight k j more n)
    where
      go : (b : Bool) → left weight j r ≡ by_answer (Some b) (left weight j y) (left weight j n) (weight l + max (left weight j y) (left weight j n))
          → left weight k r ≡ weight l + max (left weight k y) (left weight k n)
          → left weight j y ≤ left weight k y → left weight j n ≤ left weight k n → weight l + left weight j r ≤ left weight k r
      go true p q s t = omega arith
      go false p q s t = omega arith

pub looks_fall : LooksFall
looks_fall = record {
  falls = λ m d k j weight r l y n b more stops told. left_falls weight (tells m d k) r l y n stops (tells m d j) more b told;
  both_fall = λ m d k j weight r other l y n b more stops told.
      let one = left_falls weight (tells m d k) r l y n stops (tells m d j) more b told in
      let two = left_shrinks weight (tells m d k) (tells m d j) more other in
      omega arith;
  affords = λ m d k weight r l y n stops. stop_affords weight (tells m d k) r l y n stops;
  settled = λ m d k weight r. left_settled weight (tells m d k) (tells m d k) (λ _ _ z. z) r;
  shrinks = λ m d k j weight r more. left_shrinks weight (tells m d k) (tells m d j) more r;
  within = λ m d k weight r. left_shrinks weight unknown (tells m d k) (λ l b e. absurd (none-some b e)) r;
}
