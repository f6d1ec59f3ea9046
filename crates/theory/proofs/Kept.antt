-- More knowledge keeps what is reached, what may be asked, and which runs are proper.
use Rattle.std.proofs.Common.{◌≡◌, ℕ, Bool, true, false, is_some, Some, refl, ap}
use Rattle.std.proofs.lemmas.Bool.{false≢true}
use Rattle.std.proofs.lemmas.Bool.{and_parts, and_from}
use Rattle.std.specs.List.{slice_get}
use Rattle.measure.specs.Measure.{Measure}
use Rattle.rules.specs.Book.{Schema, fields_of}
use Rattle.rules.specs.Garments.{Place, whole, below}
use Rattle.rules.specs.Sheets.{field}
use Rattle.theory.specs.Runs.{Look, is_built, passes, says, Run, done, look}
use Rattle.theory.specs.Knowledge.{Knowledge, candidate, only, reached, tells, tells_head, if_reached, Askable}
use Rattle.theory.specs.Explore.{More, Proper}
use Rattle.std.proofs.lemmas.Option.{none-some, same_Some}

-- a yes is told just where the place is reached and the constructor is the only one
yes_parts : (r o c : Bool) → if_reached r (tells_head o c) ≡ Some true → (r ≡ true) × (o ≡ true)
yes_parts false o c e = absurd (none-some true e)
yes_parts true true c e = (refl, refl)
yes_parts true false true e = absurd (none-some true e)
yes_parts true false false e = absurd (false≢true (same_Some false true e))

yes_from : (r o c : Bool) → r ≡ true → o ≡ true → if_reached r (tells_head o c) ≡ Some true
yes_from true true c e f = refl
yes_from true false c e f = absurd (false≢true f)
yes_from false o c e f = absurd (false≢true e)

module _ (m : Measure) (d : Schema) where
  pub More-self : (k : Knowledge) → More m d k k
  More-self k l b e = e

  pub More-More : (k j i : Knowledge) → More m d k j → More m d j i → More m d k i
  More-More k j i s u l b e = u l b (s l b e)

  -- after a yes the constructor is the only one at the place
  pub only_told : (j : Knowledge) (p : Place) (c : ℕ) → tells m d j (is_built p c) ≡ Some true → only m d j p c ≡ true
  only_told j p c e = (yes_parts (reached m d j p) (only m d j p c) (candidate m d j p c) e).1

  -- the only constructor at a reached place stays the only one
  pub only_kept : (k j : Knowledge) (p : Place) (c : ℕ) → More m d k j → reached m d k p ≡ true → only m d k p c ≡ true → only m d j p c ≡ true
  only_kept k j p c s h o = only_told j p c (s (is_built p c) true (yes_from (reached m d k p) (only m d k p c) (candidate m d k p c) h o))

  pub reached_kept : (k j : Knowledge) (p : Place) → More m d k j → reached m d k p ≡ true → reached m d j p ≡ true
  reached_kept k j whole s h = refl
  reached_kept k j (below p q) s h =
      let one = and_parts (reached m d k p) _ h in
      let two = and_parts (only m d k p q.constructor) _ one.1 in
      let told = s (is_built p q.constructor) true (yes_from (reached m d k p) (only m d k p q.constructor) (candidate m d k p q.constructor) one.0 two.0) in
      let parts = yes_parts (reached m d j p) (only m d j p q.constructor) (candidate m d j p q.constructor) told in
      and_from (reached m d j p) _ parts.0 (and_from (only m d j p q.constructor) _ parts.1 two.1)

  -- a field of the only constructor is reached
  pub field-reached : (k : Knowledge) (p : Place) (c i t : ℕ) → reached m d k p ≡ true → only m d k p c ≡ true → slice_get (fields_of d c) i ≡ Some t → reached m d k (field p c i) ≡ true
  field-reached k p c i t h o e = and_from (reached m d k p) _ h (and_from (only m d k p c) _ o (ap is_some e))

  pub Askable-kept : (k j : Knowledge) (l : Look) → More m d k j → Askable m d k l → Askable m d j l
  Askable-kept k j (is_built p c) s h = (reached_kept k j p s h.0, h.1)
  Askable-kept k j (passes p t) s h = (reached_kept k j p s h.0, h.1)
  Askable-kept k j (says q) s h = tt

  pub Proper-kept : (k j : Knowledge) (r : Run) → More m d k j → Proper m d k r → Proper m d j r
  Proper-kept k j (done a) s h = tt
  Proper-kept k j (look l y n) s h =
      (Askable-kept k j l s h.0, (λ i u e. h.1.0 i (More-More k j i s u) e, λ i u e. h.1.1 i (More-More k j i s u) e))
