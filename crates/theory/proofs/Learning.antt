-- An open look, learnt either way, splits just those that fit, is told from then on, and takes nothing back.
use Rattle.std.proofs.Common.{◌≡◌, ℕ, Bool, true, false, not, ◌&&◌, eqb, ℤ, Some, None, Option, sym, refl, ap, ◌∙◌, ap₂}
use Rattle.std.proofs.lemmas.Bool.{false≢true, both_ways, and_parts, and_from, and_left, and_right, or_right, or_from, not-true, not_from_true, not_from_false, eqb-true, eq-eqb, cond-true}
use Rattle.measure.specs.Measure.{Measure, Lawful, gives}
use Rattle.guards.specs.Questions.{same_question, and_then}
use Rattle.guards.proofs.Listing.{same_decides}
use Rattle.rules.specs.Book.{Schema, sort_of}
use Rattle.rules.specs.Garments.{Place, place_type}
use Rattle.theory.specs.Runs.{Look, is_built, passes, says}
use Rattle.theory.specs.Inhabited.{any_atom}
use Rattle.theory.specs.Knowledge.{Knowledge, learn, same_place, head_agrees, candidate, none_below, only, reached, atom_agrees, atom_agrees_all, allowed, heard, decided, tells_head, tells_test, if_reached, tells, Askable, Heard, Good}
use Rattle.theory.specs.Explore.{More}
use Rattle.theory.specs.Theorems.{LearningSplits}
use Rattle.theory.proofs.Atoms.{any_from, any_to, any_less, any_none}
use Rattle.theory.proofs.Candidates.{agrees_here, sort_at, only_from}
use Rattle.theory.proofs.Learnt.{allowed_learnt, candidate_learnt, open_head, passing, failing, tells_test_lem, open_test, still_candidate, still_atom, allowed_before, only_stays, reached_stays, heard_stays, Askable-stays, AllAskable-stay, AllHeard-stay}
use Rattle.theory.proofs.Parts.{place_same}
use Rattle.std.proofs.lemmas.Option.{none-some}

-- knowledge tells by less room, where room is left
told_still : (y n y' n' b : Bool) → decided y n ≡ Some b → (y' ≡ true → y ≡ true) → (n' ≡ true → n ≡ true) → (y ≡ true → n ≡ false → y' ≡ true) → decided y' n' ≡ Some b
told_still true true y' n' b e f g h = absurd (none-some b e)
told_still true false true true b e f g h = absurd (false≢true (g refl))
told_still true false true false b e f g h = e
told_still true false false n' b e f g h = absurd (false≢true (h refl refl))
told_still false n true n' b e f g h = absurd (false≢true (f refl))
told_still false n false n' b e f g h = e

module _ (m : Measure) (d : Schema) (k : Knowledge) where
  tells_yes : (p : Place) (c : ℕ) → reached m d k p ≡ true → only m d k p c ≡ true → tells m d k (is_built p c) ≡ Some true
  tells_yes p c r o = ap₂ (λ x y. if_reached x (tells_head y (candidate m d k p c))) r o

  tells_no : (p : Place) (c : ℕ) → reached m d k p ≡ true → candidate m d k p c ≡ false → tells m d k (is_built p c) ≡ Some false
  tells_no p c r h =
      ap₂ (λ x y. if_reached x (tells_head y (candidate m d k p c))) r (and_left (candidate m d k p c) (none_below _ (λ e. candidate m d k p e && not (eqb e c))) h) ∙ ap (tells_head false) h

module _ (m : Measure) (d : Schema) (k : Knowledge) where
  -- ── the look learnt is told ──

  told_head : (p : Place) (c : ℕ) (b : Bool) → Askable m d k (is_built p c) → tells m d k (is_built p c) ≡ None → tells m d (learn k (is_built p c) b) (is_built p c) ≡ Some b
  told_head p c true ask untold =
      let left = open_head (reached m d k p) (only m d k p c) (candidate m d k p c) ask.0 untold in
      tells_yes m d (learn k (is_built p c) true) p c (reached_stays m d k (is_built p c) true ask untold p ask.0)
      (only_from m d (learn k (is_built p c) true) p c
      (candidate_learnt m d k (is_built p c) true p c
      ∙ and_from (head_agrees p c (is_built p c) true) (candidate m d k p c) (or_right (not (same_place p p)) (eqb c c) (eq-eqb c c refl)) left.1)
      (λ e h. eqb-true e c (agrees_here (same_place p p) (eqb e c) (place_same p)
      (and_parts (head_agrees p e (is_built p c) true) (candidate m d k p e) (sym (candidate_learnt m d k (is_built p c) true p e) ∙ h)).0)))
  told_head p c false ask untold =
      tells_no m d (learn k (is_built p c) false) p c (reached_stays m d k (is_built p c) false ask untold p ask.0)
      (candidate_learnt m d k (is_built p c) false p c
      ∙ and_left (head_agrees p c (is_built p c) false) (candidate m d k p c)
      (or_from (not (same_place p p)) (not (eqb c c)) (not_from_true (same_place p p) (place_same p)) (not_from_true (eqb c c) (eq-eqb c c refl))))

  -- an atom allowed after the test was learnt gives the answer learnt
  gives_learnt : (p : Place) (t : ℤ) (b : Bool) (s : ℕ) (a : ℤ) → allowed m (learn k (passes p t) b) p s a ≡ true → gives b (m.passes s t a) ≡ true
  gives_learnt p t b s a h =
      agrees_here (same_place p p) (gives b (m.passes s t a)) (place_same p)
      (and_parts (atom_agrees m p s a (passes p t) b) (allowed m k p s a) (sym (allowed_learnt m k (passes p t) b p s a) ∙ h)).0

  told_test : (p : Place) (t : ℤ) (b : Bool) → Askable m d k (passes p t) → tells m d k (passes p t) ≡ None → tells m d (learn k (passes p t) b) (passes p t) ≡ Some b
  told_test p t true ask untold =
      let s = ask.1.0 in
      let j : Knowledge = learn k (passes p t) true in
      let both = open_test m d k p t s ask.0 ask.1.1 untold in
      tells_test_lem m d j p t s (reached_stays m d k (passes p t) true ask untold p ask.0) ask.1.1
      ∙ ap₂ decided
      (any_less (passing m k p s t) (passing m j p s t) (λ a h. still_passing s a (and_parts (allowed m k p s a) (m.passes s t a) h)) both.0)
      (any_none (failing m j p s t) (λ a h. let two = and_parts (allowed m j p s a) (not (m.passes s t a)) h in both_ways (m.passes s t a) (not-true (m.passes s t a) two.1) (gives_learnt p t true s a two.0)))
    where
      still_passing : (s : ℕ) (a : ℤ) → (allowed m k p s a ≡ true) × (m.passes s t a ≡ true) → passing m (learn k (passes p t) true) p s t a ≡ true
      still_passing s a two =
          and_from (allowed m (learn k (passes p t) true) p s a) (m.passes s t a)
          (allowed_learnt m k (passes p t) true p s a ∙ and_from (atom_agrees m p s a (passes p t) true) (allowed m k p s a) (or_right (not (same_place p p)) (m.passes s t a) two.1) two.0)
          two.1
  told_test p t false ask untold =
      let s = ask.1.0 in
      let j : Knowledge = learn k (passes p t) false in
      tells_test_lem m d j p t s (reached_stays m d k (passes p t) false ask untold p ask.0) ask.1.1
      ∙ ap (λ y. decided y (any_atom (failing m j p s t)))
      (any_none (passing m j p s t) (λ a h. let two = and_parts (allowed m j p s a) (m.passes s t a) h in both_ways (m.passes s t a) (not-true (m.passes s t a) (gives_learnt p t false s a two.0)) two.1))

  pub told_learnt : (l : Look) (b : Bool) → Askable m d k l → tells m d k l ≡ None → tells m d (learn k l b) l ≡ Some b
  told_learnt (is_built p c) b ask untold = told_head p c b ask untold
  told_learnt (passes p t) b ask untold = told_test p t b ask untold
  told_learnt (says q) b ask untold = cond-true (same_question q q) (Some b) (heard k q) ((same_decides q q).1 refl)

  Heard-learnt : (l : Look) (b : Bool) → Heard (learn k l b) l b
  Heard-learnt (is_built p c) b = tt
  Heard-learnt (passes p t) b = tt
  Heard-learnt (says q) b = cond-true (same_question q q) (Some b) (heard k q) ((same_decides q q).1 refl)

  -- ── knowledge stays good ──

  pub Good-learnt : (l : Look) (b : Bool) → Good m d k → Askable m d k l → tells m d k l ≡ None → Good m d (learn k l b)
  Good-learnt l b good ask untold = record {
    heads = λ p t placed h row. let r = good.heads p t placed h row in still_candidate m d k l b ask untold p r.0 r.1;
    atoms = λ p t s placed h row. let r = good.atoms p t s placed h row in still_atom m d k l b ask untold p s (sort_at d p t s placed row) r.0 r.1;
    asked = (Askable-stays m d k l b ask untold l ask, AllAskable-stay m d k l b ask untold k good.asked);
    heard_all = (Heard-learnt l b, AllHeard-stay m d k l b ask untold k good.heard_all);
  }

  -- ── knowledge only grows ──

  module _ (law : Lawful m) (l : Look) (b : Bool) (ask : Askable m d k l) (untold : tells m d k l ≡ None) where
    head_grows : (p : Place) (c : ℕ) (x : Bool) (r o h : Bool) → reached m d k p ≡ r → only m d k p c ≡ o → candidate m d k p c ≡ h → if_reached r (tells_head o h) ≡ Some x
        → tells m d (learn k l b) (is_built p c) ≡ Some x
    head_grows p c x false o h er eo eh e = absurd (none-some x e)
    head_grows p c x true true h er eo eh e = tells_yes m d (learn k l b) p c (reached_stays m d k l b ask untold p er) (only_stays m d k l b ask untold p c eo) ∙ e
    head_grows p c x true false true er eo eh e = absurd (none-some x e)
    head_grows p c x true false false er eo eh e =
        tells_no m d (learn k l b) p c (reached_stays m d k l b ask untold p er) (candidate_learnt m d k l b p c ∙ and_right (head_agrees p c l b) (candidate m d k p c) eh) ∙ e

    -- where all allowed atoms pass, one that passes is left
    pass_left : (p : Place) (t : ℤ) (s : ℕ) → and_then (place_type d p) (sort_of d) ≡ Some s → any_atom (passing m k p s t) ≡ true → any_atom (failing m k p s t) ≡ false → any_atom (passing m (learn k l b) p s t) ≡ true
    pass_left p t s sort y n =
        let r = any_to (passing m k p s t) y in
        let x = still_atom m d k l b ask untold p s sort r.0 (and_parts (allowed m k p s r.0) (m.passes s t r.0) r.1).0 in
        go x.0 x.1 (m.passes s t x.0) refl
      where
        go : (a : ℤ) → allowed m (learn k l b) p s a ≡ true → (z : Bool) → m.passes s t a ≡ z → any_atom (passing m (learn k l b) p s t) ≡ true
        go a h true e = any_from (passing m (learn k l b) p s t) a (law.atom_fits s a (and_parts (m.atom s a) (atom_agrees_all m p s a (learn k l b)) h).0) (and_from (allowed m (learn k l b) p s a) (m.passes s t a) h e)
        go a h false e =
            absurd (false≢true (sym n ∙ any_from (failing m k p s t) a (law.atom_fits s a (and_parts (m.atom s a) (atom_agrees_all m p s a (learn k l b)) h).0)
            (and_from (allowed m k p s a) (not (m.passes s t a)) (allowed_before m d k l b ask untold p s a h) (not_from_false (m.passes s t a) e))))

    test_grows : (p : Place) (t : ℤ) (x : Bool) (r : Bool) (o : Option ℕ) → reached m d k p ≡ r → and_then (place_type d p) (sort_of d) ≡ o → if_reached r (tells_test m k p t o) ≡ Some x
        → tells m d (learn k l b) (passes p t) ≡ Some x
    test_grows p t x false o er eo e = absurd (none-some x e)
    test_grows p t x true None er eo e = absurd (none-some x e)
    test_grows p t x true (Some s) er eo e =
        tells_test_lem m d (learn k l b) p t s (reached_stays m d k l b ask untold p er) eo
        ∙ told_still (any_atom (passing m k p s t)) (any_atom (failing m k p s t)) (any_atom (passing m (learn k l b) p s t)) (any_atom (failing m (learn k l b) p s t)) x e
        (λ h. any_less (passing m (learn k l b) p s t) (passing m k p s t) (λ a g. less a (m.passes s t a) g) h)
        (λ h. any_less (failing m (learn k l b) p s t) (failing m k p s t) (λ a g. less a (not (m.passes s t a)) g) h)
        (λ y n. pass_left p t s eo y n)
      where
        less : (a : ℤ) (z : Bool) → (allowed m (learn k l b) p s a && z) ≡ true → (allowed m k p s a && z) ≡ true
        less a z g = let two = and_parts (allowed m (learn k l b) p s a) z g in and_from (allowed m k p s a) z (allowed_before m d k l b ask untold p s a two.0) two.1

    pub grown : More m d k (learn k l b)
    grown (is_built p c) x e = head_grows p c x (reached m d k p) (only m d k p c) (candidate m d k p c) refl refl refl e
    grown (passes p t) x e = test_grows p t x (reached m d k p) (and_then (place_type d p) (sort_of d)) refl refl e
    grown (says q) x e = heard_stays m d k l b ask untold q x e

pub learning_splits : LearningSplits
learning_splits = record {
  apart = λ m d k v rule l b fits. (record { typed = fits.typed; holds = fits.holds.1 }, fits.holds.0);
  together = λ m d k v rule l b fits w. record { typed = fits.typed; holds = (w, fits.holds) };
  good = λ m d k l b law good ask untold. Good-learnt m d k l b good ask untold;
  told = λ m d k l b law good ask untold. told_learnt m d k l b ask untold;
  grows = λ m d k l b law good ask untold. grown m d k law l b ask untold;
}
