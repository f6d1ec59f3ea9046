-- One open look learnt: each place keeps a candidate or an atom, and what was reached, told or heard stays so.
use Rattle.std.proofs.Common.{◌≡◌, ℕ, Bool, true, false, cond, not, ◌&&◌, ◌||◌, eqb, [], ◌∷◌, ℤ, is_some, Some, None, sym, refl, ap, ◌∙◌, subst, ap₂}
use Rattle.std.specs.List.{slice_get}
use Rattle.std.proofs.lemmas.Bool.{false≢true, and_parts, and_from, and_right, not_from_false, eq-eqb, ne_eqb}
use Rattle.measure.specs.Measure.{Measure, gives}
use Rattle.guards.specs.Questions.{Question, same_question, and_then}
use Rattle.guards.proofs.Listing.{same_decides}
use Rattle.rules.specs.Book.{Schema, fields_of, sort_of}
use Rattle.rules.specs.Garments.{Place, whole, below, place_type}
use Rattle.theory.specs.Runs.{Look, is_built, passes, says}
use Rattle.theory.specs.Inhabited.{any_atom, all_of, inhabited}
use Rattle.theory.specs.Knowledge.{Knowledge, learn, same_place, head_agrees, head_agrees_all, builds_type, candidate, only, reached, atom_agrees, atom_agrees_all, allowed, heard, decided, tells_head, tells_test, if_reached, tells, Askable, AllAskable, Heard, AllHeard}
use Rattle.theory.proofs.Atoms.{any_to}
use Rattle.theory.proofs.Candidates.{only-candidate, only_one, only_from, another}
use Rattle.theory.proofs.Parts.{same_place_lem}
use Rattle.std.proofs.lemmas.Option.{none-some}

-- ── tests that one more fact is part of ──

and_second : (a h r : Bool) → (a && (h && r)) ≡ (h && (a && r))
and_second true h r = refl
and_second false h r = sym (and_right h false refl)

pub allowed_learnt : (m : Measure) (k : Knowledge) (l : Look) (b : Bool) (p : Place) (s : ℕ) (a : ℤ)
    → allowed m (learn k l b) p s a ≡ (atom_agrees m p s a l b && allowed m k p s a)
allowed_learnt m k l b p s a = and_second (m.atom s a) (atom_agrees m p s a l b) (atom_agrees_all m p s a k)

pub candidate_learnt : (m : Measure) (d : Schema) (k : Knowledge) (l : Look) (b : Bool) (p : Place) (c : ℕ)
    → candidate m d (learn k l b) p c ≡ (head_agrees p c l b && candidate m d k p c)
candidate_learnt m d k l b p c =
    ap (λ x. builds_type d c (place_type d p) && x) (and_second (all_of (inhabited m d) (fields_of d c)) (head_agrees p c l b) (head_agrees_all p c k))
    ∙ and_second (builds_type d c (place_type d p)) (head_agrees p c l b) (all_of (inhabited m d) (fields_of d c) && head_agrees_all p c k)

-- ── what an open look leaves open ──

pub open_head : (r o h : Bool) → r ≡ true → if_reached r (tells_head o h) ≡ None → (o ≡ false) × (h ≡ true)
open_head false o h er e = absurd (false≢true er)
open_head true true h er e = absurd (none-some true (sym e))
open_head true false true er e = (refl, refl)
open_head true false false er e = absurd (none-some false (sym e))

open_both : (y n : Bool) → decided y n ≡ None → (y ≡ true) × (n ≡ true)
open_both true true e = (refl, refl)
open_both true false e = absurd (none-some true (sym e))
open_both false n e = absurd (none-some false (sym e))

-- the atoms that may stand at p and pass the test, or fail it
abbrev pub passing : Measure → Knowledge → Place → ℕ → ℤ → ℤ → Bool
passing m k p s t a = allowed m k p s a && m.passes s t a

abbrev pub failing : Measure → Knowledge → Place → ℕ → ℤ → ℤ → Bool
failing m k p s t a = allowed m k p s a && not (m.passes s t a)

module _ (m : Measure) (d : Schema) (k : Knowledge) where
  pub tells_test_lem : (p : Place) (t : ℤ) (s : ℕ) → reached m d k p ≡ true → and_then (place_type d p) (sort_of d) ≡ Some s
      → tells m d k (passes p t) ≡ decided (any_atom (passing m k p s t)) (any_atom (failing m k p s t))
  tells_test_lem p t s r e = ap₂ (λ x y. if_reached x (tells_test m k p t y)) r e

  pub open_test : (p : Place) (t : ℤ) (s : ℕ) → reached m d k p ≡ true → and_then (place_type d p) (sort_of d) ≡ Some s → tells m d k (passes p t) ≡ None
      → (any_atom (passing m k p s t) ≡ true) × (any_atom (failing m k p s t) ≡ true)
  open_test p t s r e o = open_both (any_atom (passing m k p s t)) (any_atom (failing m k p s t)) (sym (tells_test_lem p t s r e) ∙ o)

  -- ── a place keeps a candidate that gives the answer learnt ──

  candidate_kept : (l : Look) (b : Bool) → Askable m d k l → tells m d k l ≡ None → (p : Place) (c : ℕ) → candidate m d k p c ≡ true
      → (e : ℕ) × ((candidate m d k p e ≡ true) × (head_agrees p e l b ≡ true))
  candidate_kept (is_built q x) b ask untold p c h = go (same_place q p) refl
    where
      at_place : (z : Bool) → only m d k p x ≡ false → candidate m d k p x ≡ true → (e : ℕ) × ((candidate m d k p e ≡ true) × (gives z (eqb e x) ≡ true))
      at_place true o g = (x, (g, eq-eqb x x refl))
      at_place false o g = let r = another m d k p x g o in (r.0, (r.1.0, not_from_false (eqb r.0 x) (ne_eqb r.0 x r.1.1)))

      go : (z : Bool) → same_place q p ≡ z → (e : ℕ) × ((candidate m d k p e ≡ true) × ((not z || gives b (eqb e x)) ≡ true))
      go true f =
          let same : q ≡ p = same_place_lem q p f in
          let left = open_head (reached m d k q) (only m d k q x) (candidate m d k q x) ask.0 untold in
          at_place b (subst (λ y. only m d k y x ≡ false) same left.0) (subst (λ y. candidate m d k y x ≡ true) same left.1)
      go false f = (c, (h, refl))
  candidate_kept (passes q t) b ask untold p c h = (c, (h, refl))
  candidate_kept (says q) b ask untold p c h = (c, (h, refl))

  -- ── a place keeps an atom that gives the answer learnt ──

  atom_kept : (l : Look) (b : Bool) → Askable m d k l → tells m d k l ≡ None → (p : Place) (s : ℕ) → and_then (place_type d p) (sort_of d) ≡ Some s → (a : ℤ) → allowed m k p s a ≡ true
      → (x : ℤ) × ((allowed m k p s x ≡ true) × (atom_agrees m p s x l b ≡ true))
  atom_kept (is_built q c) b ask untold p s sort a h = (a, (h, refl))
  atom_kept (passes q t) b ask untold p s sort a h = go (same_place q p) refl
    where
      at_place : (z : Bool) → (any_atom (passing m k q s t) ≡ true) × (any_atom (failing m k q s t) ≡ true) → (x : ℤ) × ((allowed m k q s x ≡ true) × (gives z (m.passes s t x) ≡ true))
      at_place true both = let r = any_to (passing m k q s t) both.0 in (r.0, and_parts (allowed m k q s r.0) (m.passes s t r.0) r.1)
      at_place false both = let r = any_to (failing m k q s t) both.1 in (r.0, and_parts (allowed m k q s r.0) (not (m.passes s t r.0)) r.1)

      go : (z : Bool) → same_place q p ≡ z → (x : ℤ) × ((allowed m k p s x ≡ true) × ((not z || gives b (m.passes s t x)) ≡ true))
      go true f =
          let same : q ≡ p = same_place_lem q p f in
          let r = at_place b (open_test q t s ask.0 (ap (λ y. and_then (place_type d y) (sort_of d)) same ∙ sort) untold) in
          (r.0, (subst (λ y. allowed m k y s r.0 ≡ true) same r.1.0, r.1.1))
      go false f = (a, (h, refl))
  atom_kept (says q) b ask untold p s sort a h = (a, (h, refl))

  heard_kept : (l : Look) (b : Bool) → tells m d k l ≡ None → (q : Question) (x : Bool) → heard k q ≡ Some x → heard (learn k l b) q ≡ Some x
  heard_kept (is_built p c) b untold q x e = e
  heard_kept (passes p t) b untold q x e = e
  heard_kept (says r) b untold q x e = go (same_question r q) refl
    where
      go : (z : Bool) → same_question r q ≡ z → cond z (Some b) (heard k q) ≡ Some x
      go true f = absurd (none-some x (sym untold ∙ ap (heard k) ((same_decides r q).0 f) ∙ e))
      go false f = e

  module _ (l : Look) (b : Bool) (ask : Askable m d k l) (untold : tells m d k l ≡ None) where
    pub still_candidate : (p : Place) (c : ℕ) → candidate m d k p c ≡ true → (e : ℕ) × (candidate m d (learn k l b) p e ≡ true)
    still_candidate p c h =
        let r = candidate_kept l b ask untold p c h in
        (r.0, candidate_learnt m d k l b p r.0 ∙ and_from (head_agrees p r.0 l b) (candidate m d k p r.0) r.1.1 r.1.0)

    pub still_atom : (p : Place) (s : ℕ) → and_then (place_type d p) (sort_of d) ≡ Some s → (a : ℤ) → allowed m k p s a ≡ true → (x : ℤ) × (allowed m (learn k l b) p s x ≡ true)
    still_atom p s sort a h =
        let r = atom_kept l b ask untold p s sort a h in
        (r.0, allowed_learnt m k l b p s r.0 ∙ and_from (atom_agrees m p s r.0 l b) (allowed m k p s r.0) r.1.1 r.1.0)

    pub candidate_before : (p : Place) (c : ℕ) → candidate m d (learn k l b) p c ≡ true → candidate m d k p c ≡ true
    candidate_before p c h = (and_parts (head_agrees p c l b) (candidate m d k p c) (sym (candidate_learnt m d k l b p c) ∙ h)).1

    pub allowed_before : (p : Place) (s : ℕ) (a : ℤ) → allowed m (learn k l b) p s a ≡ true → allowed m k p s a ≡ true
    allowed_before p s a h = (and_parts (atom_agrees m p s a l b) (allowed m k p s a) (sym (allowed_learnt m k l b p s a) ∙ h)).1

    -- ── what is known stays known ──

    pub only_stays : (p : Place) (c : ℕ) → only m d k p c ≡ true → only m d (learn k l b) p c ≡ true
    only_stays p c o =
        let r = still_candidate p c (only-candidate m d k p c o) in
        only_from m d (learn k l b) p c
        (subst (λ e. candidate m d (learn k l b) p e ≡ true) (only_one m d k p c o r.0 (candidate_before p r.0 r.1)) r.1)
        (λ e h. only_one m d k p c o e (candidate_before p e h))

    pub reached_stays : (p : Place) → reached m d k p ≡ true → reached m d (learn k l b) p ≡ true
    reached_stays whole r = refl
    reached_stays (below p s) r =
        let two = and_parts (reached m d k p) (only m d k p s.constructor && is_some (slice_get (fields_of d s.constructor) s.field)) r in
        let more = and_parts (only m d k p s.constructor) (is_some (slice_get (fields_of d s.constructor) s.field)) two.1 in
        and_from (reached m d (learn k l b) p) (only m d (learn k l b) p s.constructor && is_some (slice_get (fields_of d s.constructor) s.field)) (reached_stays p two.0)
        (and_from (only m d (learn k l b) p s.constructor) (is_some (slice_get (fields_of d s.constructor) s.field)) (only_stays p s.constructor more.0) more.1)

    pub heard_stays : (q : Question) (x : Bool) → heard k q ≡ Some x → heard (learn k l b) q ≡ Some x
    heard_stays q x e = heard_kept l b untold q x e

    pub Askable-stays : (j : Look) → Askable m d k j → Askable m d (learn k l b) j
    Askable-stays (is_built p c) a = (reached_stays p a.0, a.1)
    Askable-stays (passes p t) a = (reached_stays p a.0, a.1)
    Askable-stays (says q) a = tt

    pub AllAskable-stay : (fs : Knowledge) → AllAskable m d k fs → AllAskable m d (learn k l b) fs
    AllAskable-stay [] a = tt
    AllAskable-stay (f ∷ fs) a = (Askable-stays f.asked a.0, AllAskable-stay fs a.1)

    one_Heard_stays : (j : Look) (x : Bool) → Heard k j x → Heard (learn k l b) j x
    one_Heard_stays (is_built p c) x h = tt
    one_Heard_stays (passes p t) x h = tt
    one_Heard_stays (says q) x h = heard_stays q x h

    pub AllHeard-stay : (fs : Knowledge) → AllHeard k fs → AllHeard (learn k l b) fs
    AllHeard-stay [] h = tt
    AllHeard-stay (f ∷ fs) h = (one_Heard_stays f.asked f.answer h.0, AllHeard-stay fs h.1)
