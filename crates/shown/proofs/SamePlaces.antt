-- Places that are the same, listed places, and lists of places in order.
use Rattle.std.proofs.Common.{◌≡◌, ℕ, suc, true, false, not, ◌⊎◌, List, [], ◌∷◌, ◌++◌, sym, refl, ap, subst, inl, inr, ⊎_elim, arith}
use Rattle.std.proofs.lemmas.Bool.{false≢true, and_parts, and_from, or_cases, or_left, or_right, or_from, or_parts, not-true, not_from_false, both_ways, cases_Bool}
use Rattle.guards.specs.declared.step.Step.{Step}
use Rattle.rules.specs.Garments.{Place, whole, below}
use Rattle.theory.specs.Knowledge.{same_place}
use Rattle.shown.specs.Interned.{among, parent_among, parents_first, all_among, Interned}
use Rattle.theory.proofs.Parts.{same_place_lem, place_same}

-- how deep a place is
abbrev depth_of : Place → ℕ
depth_of whole = 0
depth_of (below p s) = suc (depth_of p)

-- a place is not below itself
pub not_below_itself : (p : Place) (s : Step) → same_place p (below p s) ≡ false
not_below_itself p s =
    ⊎_elim (λ e. absurd (let z : depth_of p ≡ depth_of (below p s) = ap depth_of (same_place_lem p (below p s) e) in omega arith)) (λ e. e) (cases_Bool (same_place p (below p s)))

pub parent_of : (q : Place) (s : Step) (p : Place) → p ≡ below q s → (ps : List Place) → among ps q ≡ true → parent_among ps p ≡ true
parent_of q s p e ps h = subst (λ (z : Place). parent_among ps z ≡ true) (sym e) h

pub among-append_left : (ps qs : List Place) (p : Place) → among ps p ≡ true → among (ps ++ qs) p ≡ true
among-append_left [] qs p e = absurd (false≢true e)
among-append_left (r ∷ ps) qs p e =
    ⊎_elim (λ h. or_left (same_place r p) (among (ps ++ qs) p) h) (λ h. or_right (same_place r p) (among (ps ++ qs) p) (among-append_left ps qs p h)) (or_cases (same_place r p) (among ps p) e)

pub among-append_right : (ps qs : List Place) (p : Place) → among qs p ≡ true → among (ps ++ qs) p ≡ true
among-append_right [] qs p e = e
among-append_right (r ∷ ps) qs p e = or_right (same_place r p) (among (ps ++ qs) p) (among-append_right ps qs p e)

among-append_cases : (ps qs : List Place) (p : Place) → among (ps ++ qs) p ≡ true → (among ps p ≡ true) ⊎ (among qs p ≡ true)
among-append_cases [] qs p e = inr e
among-append_cases (r ∷ ps) qs p e =
    ⊎_elim (λ h. inl (or_left (same_place r p) (among ps p) h))
    (λ h. ⊎_elim (λ i. inl (or_right (same_place r p) (among ps p) i)) inr (among-append_cases ps qs p h)) (or_cases (same_place r p) (among (ps ++ qs) p) e)

among_one : (p q : Place) → among (p ∷ []) q ≡ true → p ≡ q
among_one p q e = ⊎_elim (λ h. same_place_lem p q h) (λ h. absurd (false≢true h)) (or_cases (same_place p q) false e)

pub all_append_left : (ps qs rs : List Place) → all_among ps (qs ++ rs) ≡ true → all_among ps qs ≡ true
all_append_left ps [] rs e = refl
all_append_left ps (q ∷ qs) rs e =
    let two = and_parts (among ps q) (all_among ps (qs ++ rs)) e in
    and_from (among ps q) (all_among ps qs) two.0 (all_append_left ps qs rs two.1)

pub all_append_right : (ps qs rs : List Place) → all_among ps (qs ++ rs) ≡ true → all_among ps rs ≡ true
all_append_right ps [] rs e = e
all_append_right ps (q ∷ qs) rs e = all_append_right ps qs rs (and_parts (among ps q) (all_among ps (qs ++ rs)) e).1

-- ── lists in order: they begin with the whole garment, and grow by places below listed ones ──

pub Interned-none : Interned []
Interned-none = record { closed = λ p e n. absurd (n (sym (among_one whole p e))); ordered = refl }

not_among-push : (ps : List Place) (p q : Place) → among ps q ≡ false → same_place p q ≡ false → among (ps ++ p ∷ []) q ≡ false
not_among-push [] p q a b = or_from (same_place p q) false b refl
not_among-push (r ∷ ps) p q a b =
    let two = or_parts (same_place r q) (among ps q) a in
    or_from (same_place r q) (among (ps ++ p ∷ []) q) two.0 (not_among-push ps p q two.1 b)

-- the new place is one that no listed place is below
first_push : (ps : List Place) (p : Place) → parents_first ps ≡ true → ((q : Place) (s : Step) → among ps (below q s) ≡ true → same_place p q ≡ false) → parent_among [] p ≡ false → parents_first (ps ++ p ∷ []) ≡ true
first_push [] p e h r = and_from (not (parent_among [] p)) true (not_from_false (parent_among [] p) r) refl
first_push (q ∷ ps) p e h r =
    let two = and_parts (not (parent_among ps q)) (parents_first ps) e in
    and_from (not (parent_among (ps ++ p ∷ []) q)) (parents_first (ps ++ p ∷ []))
    (not_from_false (parent_among (ps ++ p ∷ []) q)
    (mine q (λ x s i. h x s (or_left (same_place q (below x s)) (among ps (below x s)) (subst (λ (z : Place). same_place q z ≡ true) i (place_same q)))) (not-true (parent_among ps q) two.0)))
    (first_push ps p two.1 (λ x s i. h x s (or_right (same_place q (below x s)) (among ps (below x s)) i)) r)
  where
    mine : (q : Place) → ((x : Place) (s : Step) → q ≡ below x s → same_place p x ≡ false) → parent_among ps q ≡ false → parent_among (ps ++ p ∷ []) q ≡ false
    mine whole k f = refl
    mine (below x s) k f = not_among-push ps p x f (k x s refl)

parent_push : (ps qs : List Place) (p : Place) → parent_among ps p ≡ true → parent_among (ps ++ qs) p ≡ true
parent_push ps qs whole e = absurd (false≢true e)
parent_push ps qs (below p s) e = among-append_left ps qs p e

pub not_whole : (p : Place) (s : Step) → below p s ≡ whole → ⊥
not_whole p s e = cc

pub Interned-grows : (ps : List Place) (q : Place) (s : Step) → Interned ps → among (whole ∷ ps) q ≡ true → among (whole ∷ ps) (below q s) ≡ false → Interned (ps ++ below q s ∷ [])
Interned-grows ps q s ok listed new = record {
  closed = λ p e n. ⊎_elim (λ h. parent_push (whole ∷ ps) (below q s ∷ []) p (ok.closed p h n))
      (λ h. parent_of q s p (sym (among_one (below q s) p h)) (whole ∷ (ps ++ below q s ∷ [])) (among-append_left (whole ∷ ps) (below q s ∷ []) q listed))
      (among-append_cases (whole ∷ ps) (below q s ∷ []) p e);
  ordered = first_push (whole ∷ ps) (below q s) ok.ordered
      (λ x r i. ⊎_elim
      (λ e. absurd (both_ways (among (whole ∷ ps) (below q s)) new (subst (λ (z : Place). among (whole ∷ ps) z ≡ true) (sym (same_place_lem (below q s) x e)) (ok.closed (below x r) i (not_whole x r)))))
      (λ e. e) (cases_Bool (same_place (below q s) x)))
      refl;
}
