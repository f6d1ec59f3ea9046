-- Runs that take only looks which may be taken, as far as good knowledge goes: they stay so as more is learnt, and when looks are skipped.
use Rattle.std.proofs.Common.{◌≡◌, ℕ, Bool, true, false, cond, not, ◌&&◌, ◌||◌, eqb, is_some, Some, None, Option, sym, refl, ap, ◌∙◌, subst}
use Rattle.std.specs.List.{slice_get}
use Rattle.std.proofs.lemmas.Bool.{both_ways, not-true, and_parts, and_from}
use Rattle.measure.specs.Measure.{Measure, gives}
use Rattle.rules.specs.Book.{Schema, fields_of}
use Rattle.rules.specs.Garments.{Place, whole, below, place_type}
use Rattle.theory.specs.Runs.{Look, is_built, passes, says, Run, done, look}
use Rattle.theory.specs.Inhabited.{all_of, inhabited}
use Rattle.theory.specs.Knowledge.{Knowledge, learn, same_place, head_agrees, head_agrees_all, builds_type, candidate, only, reached, tells, Askable, Good}
use Rattle.theory.specs.Explore.{More, Proper}
use Rattle.theory.specs.Quick.{skipping, Sound}
use Rattle.theory.specs.Verdicts.{Knowing}
use Rattle.theory.proofs.Relevance.{only_same}
use Rattle.theory.proofs.Kept.{More-self, More-More, Askable-kept}

module _ (m : Measure) (d : Schema) where
  abbrev pub Careful : Knowledge → Run → Type 0
  Careful k (done a) = Unit {0}
  Careful k (look l y n) =
      Askable m d k l
      × (((j : Knowledge) → Good m d j → More m d k j → tells m d j l ≡ Some true → Careful j y)
      × ((j : Knowledge) → Good m d j → More m d k j → tells m d j l ≡ Some false → Careful j n))

  pub careful : (r : Run) (k : Knowledge) → Proper m d k r → Careful k r
  careful (done a) k p = tt
  careful (look l y n) k p = (p.0, (λ j ok more e. careful y j (p.1.0 j more e), λ j ok more e. careful n j (p.1.1 j more e)))

  pub Careful-More : (k j : Knowledge) → More m d k j → (r : Run) → Careful k r → Careful j r
  Careful-More k j more (done a) p = tt
  Careful-More k j more (look l y n) p =
      (Askable-kept m d k j l more p.0, (λ i ok on e. p.1.0 i ok (More-More m d k j i more on) e, λ i ok on e. p.1.1 i ok (More-More m d k j i more on) e))

-- ── a look of a careful run, told or learnt, leads to a careful branch ──

module _ (m : Measure) (d : Schema) (know : Knowing m d) (k : Knowledge) (l : Look) (y n : Run) (proper : Careful m d k (look l y n)) (ok : Good m d k) where
  pub Careful-yes : tells m d k l ≡ Some true → Careful m d k y
  Careful-yes e = proper.1.0 k ok (More-self m d k) e

  pub Careful-no : tells m d k l ≡ Some false → Careful m d k n
  Careful-no e = proper.1.1 k ok (More-self m d k) e

  module _ (open_look : tells m d k l ≡ None) where
    pub learnt_Good : (t : Bool) → Good m d (learn k l t)
    learnt_Good t = know.good k l t ok proper.0 open_look

    pub learnt_More : (t : Bool) → More m d k (learn k l t)
    learnt_More t = know.grows k l t ok proper.0 open_look

    pub learnt_yes : Careful m d (learn k l true) y
    learnt_yes = proper.1.0 (learn k l true) (learnt_Good true) (learnt_More true) (know.told k l true ok proper.0 open_look)

    pub learnt_no : Careful m d (learn k l false) n
    learnt_no = proper.1.1 (learn k l false) (learnt_Good false) (learnt_More false) (know.told k l false ok proper.0 open_look)

-- ── what is reached whichever way a look is answered was reached before ──

unmoved : (t u v : Bool) → t ≡ false → ((not t || u) && v) ≡ v
unmoved t u v e = ap (λ (x : Bool). (not x || u) && v) e

module _ (m : Measure) (d : Schema) (k : Knowledge) where
  -- a constructor that is the only one both with a yes and with a no
  only_both : (p : Place) (c : ℕ) (l : Look) → only m d (learn k l true) p c ≡ true → only m d (learn k l false) p c ≡ true → only m d k p c ≡ true
  only_both p c (passes q t) e f = e
  only_both p c (says q) e f = e
  only_both p c (is_built q x) e f = go (same_place q p) refl
    where
      -- the constructor agrees with the answer t at its place
      agrees : (t : Bool) → only m d (learn k (is_built q x) t) p c ≡ true → (not (same_place q p) || gives t (eqb c x)) ≡ true
      agrees t e =
          let a = and_parts (candidate m d (learn k (is_built q x) t) p c) _ e in
          let b = and_parts (builds_type d c (place_type d p)) (all_of (inhabited m d) (fields_of d c) && head_agrees_all p c (learn k (is_built q x) t)) a.0 in
          let h = and_parts (all_of (inhabited m d) (fields_of d c)) (head_agrees_all p c (learn k (is_built q x) t)) b.1 in
          (and_parts (head_agrees p c (is_built q x) t) (head_agrees_all p c k) h.1).0

      go : (s : Bool) → same_place q p ≡ s → only m d k p c ≡ true
      go false z = sym (only_same m d (learn k (is_built q x) true) k p (λ o. unmoved (same_place q p) (gives true (eqb o x)) (head_agrees_all p o k) z) c) ∙ e
      go true z =
          let with_yes : eqb c x ≡ true = subst (λ (s : Bool). (not s || gives true (eqb c x)) ≡ true) z (agrees true e) in
          let with_no : not (eqb c x) ≡ true = subst (λ (s : Bool). (not s || gives false (eqb c x)) ≡ true) z (agrees false f) in
          absurd (both_ways (eqb c x) (not-true (eqb c x) with_no) with_yes)

  reached_both : (l : Look) (p : Place) → reached m d (learn k l true) p ≡ true → reached m d (learn k l false) p ≡ true → reached m d k p ≡ true
  reached_both l whole e f = refl
  reached_both l (below p s) e f =
      let c = s.constructor in
      let has = is_some (slice_get (fields_of d c) s.field) in
      let a = and_parts (reached m d (learn k l true) p) (only m d (learn k l true) p c && has) e in
      let b = and_parts (reached m d (learn k l false) p) (only m d (learn k l false) p c && has) f in
      let a' = and_parts (only m d (learn k l true) p c) has a.1 in
      let b' = and_parts (only m d (learn k l false) p c) has b.1 in
      and_from (reached m d k p) (only m d k p c && has) (reached_both l p a.0 b.0) (and_from (only m d k p c) has (only_both p c l a'.0 b'.0) a'.1)

  Askable-both : (l h : Look) → Askable m d (learn k l true) h → Askable m d (learn k l false) h → Askable m d k h
  Askable-both l (is_built p c) a b = (reached_both l p a.0 b.0, a.1)
  Askable-both l (passes p t) a b = (reached_both l p a.0 b.0, a.1)
  Askable-both l (says q) a b = tt

-- ── a run that is careful after either answer to a look is careful before ──

module _ (m : Measure) (d : Schema) (know : Knowing m d) (l : Look) where
  pub careful_both : (r : Run) (k : Knowledge) → Good m d k → Askable m d k l
      → ((j : Knowledge) → Good m d j → More m d k j → tells m d j l ≡ Some true → Careful m d j r)
      → ((j : Knowledge) → Good m d j → More m d k j → tells m d j l ≡ Some false → Careful m d j r)
      → Careful m d k r
  careful_both (done a) k ok ask on_yes on_no = tt
  careful_both (look h y n) k ok ask on_yes on_no = (
    first (tells m d k l) refl,
    (
      λ j okj more e. careful_both y j okj (Askable-kept m d k j l more ask)
          (λ i oki on t. (on_yes i oki (More-More m d k j i more on) t).1.0 i oki (More-self m d i) (on h true e))
          (λ i oki on t. (on_no i oki (More-More m d k j i more on) t).1.0 i oki (More-self m d i) (on h true e)),
      λ j okj more e. careful_both n j okj (Askable-kept m d k j l more ask)
          (λ i oki on t. (on_yes i oki (More-More m d k j i more on) t).1.1 i oki (More-self m d i) (on h false e))
          (λ i oki on t. (on_no i oki (More-More m d k j i more on) t).1.1 i oki (More-self m d i) (on h false e)),
    ),
  )
    where
      first : (o : Option Bool) → tells m d k l ≡ o → Askable m d k h
      first (Some true) e = (on_yes k ok (More-self m d k) e).0
      first (Some false) e = (on_no k ok (More-self m d k) e).0
      first None e =
          Askable-both m d k l h
          (on_yes (learn k l true) (know.good k l true ok ask e) (know.grows k l true ok ask e) (know.told k l true ok ask e)).0
          (on_no (learn k l false) (know.good k l false ok ask e) (know.grows k l false ok ask e) (know.told k l false ok ask e)).0

-- so skipping keeps runs careful
module _ (m : Measure) (d : Schema) (know : Knowing m d) (equal : Run → Run → Bool) (sound : Sound equal) where
  pub Careful-skipping : (r : Run) (k : Knowledge) → Good m d k → Careful m d k r → Careful m d k (skipping equal r)
  Careful-skipping (done a) k ok p = tt
  Careful-skipping (look l y n) k ok p =
      go (equal (skipping equal y) (skipping equal n)) refl
      (λ j okj more e. Careful-skipping y j okj (p.1.0 j okj more e)) (λ j okj more e. Careful-skipping n j okj (p.1.1 j okj more e))
    where
      go : (t : Bool) → equal (skipping equal y) (skipping equal n) ≡ t
          → ((j : Knowledge) → Good m d j → More m d k j → tells m d j l ≡ Some true → Careful m d j (skipping equal y))
          → ((j : Knowledge) → Good m d j → More m d k j → tells m d j l ≡ Some false → Careful m d j (skipping equal n))
          → Careful m d k (cond t (skipping equal y) (look l (skipping equal y) (skipping equal n)))
      go true e hy hn =
          careful_both m d know l (skipping equal y) k ok p.0 hy
          (λ j okj more t. subst (Careful m d j) (sym (sound (skipping equal y) (skipping equal n) e)) (hn j okj more t))
      go false e hy hn = (p.0, (hy, hn))
