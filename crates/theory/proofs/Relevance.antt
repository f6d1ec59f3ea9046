-- What knowledge tells of a look depends only on the facts that bear on it.
use Rattle.std.proofs.Common.{◌≡◌, ℕ, Bool, true, false, cond, not, ◌&&◌, ◌||◌, eqb, [], ◌∷◌, length, ℤ, is_some, Some, None, filter, Option, sym, refl, ap, ◌∙◌}
use Rattle.std.proofs.Math.Path.{fun_ext}
use Rattle.std.specs.List.{slice_get}
use Rattle.std.proofs.lemmas.Bool.{both_ways, or_left, or_right}
use Rattle.measure.specs.Measure.{Measure, gives}
use Rattle.guards.specs.Questions.{Question, and_then}
use Rattle.rules.specs.Book.{Schema, fields_of, sort_of}
use Rattle.rules.specs.Garments.{Place, whole, below, place_type}
use Rattle.theory.specs.Runs.{Look, is_built, passes, says}
use Rattle.theory.specs.Inhabited.{all_of, inhabited, any_atom}
use Rattle.theory.specs.Knowledge.{Fact, Knowledge, learn, same_place, head_agrees, head_agrees_all, builds_type, candidate, none_below, only, reached, atom_agrees, atom_agrees_all, allowed, hearing, heard, decided, tells_head, tells_test, if_reached, tells}
use Rattle.theory.specs.Quick.{at_or_above, bears, SameHeads, SameOf}
use Rattle.theory.proofs.Parts.{same_place_lem, place_same}

-- ── places ──

at_same : (q p : Place) → same_place q p ≡ true → at_or_above q p ≡ true
at_same q whole e = e
at_same q (below p s) e = or_left (same_place q (below p s)) (at_or_above q p) e

-- ── equal knowledge of a look's place tells the same ──

module _ (m : Measure) (d : Schema) (k j : Knowledge) where
  candidate_same : (p : Place) → ((c : ℕ) → head_agrees_all p c k ≡ head_agrees_all p c j) → (c : ℕ) → candidate m d k p c ≡ candidate m d j p c
  candidate_same p h c = ap (λ (t : Bool). builds_type d c (place_type d p) && (all_of (inhabited m d) (fields_of d c) && t)) (h c)

  pub only_same : (p : Place) → ((c : ℕ) → head_agrees_all p c k ≡ head_agrees_all p c j) → (c : ℕ) → only m d k p c ≡ only m d j p c
  only_same p h c =
      ap (λ (t : Bool). t && none_below (length d.constructors) (λ e. candidate m d k p e && not (eqb e c))) (candidate_same p h c)
      ∙ ap (λ (f : ℕ → Bool). candidate m d j p c && none_below (length d.constructors) f) (fun_ext (λ e. ap (λ (t : Bool). t && not (eqb e c)) (candidate_same p h e)))

  -- at the place itself
  here : (p : Place) → SameHeads k j p → (c : ℕ) → head_agrees_all p c k ≡ head_agrees_all p c j
  here p h = h p (at_same p p (place_same p))

  reached_same : (p : Place) → SameHeads k j p → reached m d k p ≡ reached m d j p
  reached_same whole h = refl
  reached_same (below p s) h =
      let up : SameHeads k j p = λ q e. h q (or_right (same_place q (below p s)) (at_or_above q p) e) in
      ap (λ (t : Bool). t && (only m d k p s.constructor && is_some (slice_get (fields_of d s.constructor) s.field))) (reached_same p up)
      ∙ ap (λ (t : Bool). reached m d j p && (t && is_some (slice_get (fields_of d s.constructor) s.field))) (only_same p (here p up) s.constructor)

  test_same : (p : Place) (t : ℤ) → ((s : ℕ) (a : ℤ) → atom_agrees_all m p s a k ≡ atom_agrees_all m p s a j) → (o : Option ℕ) → tells_test m k p t o ≡ tells_test m j p t o
  test_same p t h None = refl
  test_same p t h (Some s) =
      let each : (a : ℤ) → allowed m k p s a ≡ allowed m j p s a = λ a. ap (λ (x : Bool). m.atom s a && x) (h s a) in
      ap (λ (f : ℤ → Bool). decided (any_atom f) (any_atom (λ a. allowed m k p s a && not (m.passes s t a)))) (fun_ext (λ a. ap (λ (x : Bool). x && m.passes s t a) (each a)))
      ∙ ap (λ (f : ℤ → Bool). decided (any_atom (λ a. allowed m j p s a && m.passes s t a)) (any_atom f)) (fun_ext (λ a. ap (λ (x : Bool). x && not (m.passes s t a)) (each a)))

  pub tells_same : (l : Look) → SameOf m k j l → tells m d k l ≡ tells m d j l
  tells_same (is_built p c) h =
      ap (λ (t : Bool). if_reached t (tells_head (only m d k p c) (candidate m d k p c))) (reached_same p h)
      ∙ ap (λ (t : Bool). if_reached (reached m d j p) (tells_head t (candidate m d k p c))) (only_same p (here p h) c)
      ∙ ap (λ (t : Bool). if_reached (reached m d j p) (tells_head (only m d j p c) t)) (candidate_same p (here p h) c)
  tells_same (passes p t) h =
      ap (λ (x : Bool). if_reached x (tells_test m k p t (and_then (place_type d p) (sort_of d)))) (reached_same p h.0)
      ∙ ap (if_reached (reached m d j p)) (test_same p t h.1 (and_then (place_type d p) (sort_of d)))
  tells_same (says q) h = h

-- the same fact learnt keeps it so
pub same_learnt : (m : Measure) (k j : Knowledge) (f : Look) (b : Bool) (l : Look) → SameOf m k j l → SameOf m (learn k f b) (learn j f b) l
same_learnt m k j f b (is_built p c) h = λ q e x. ap (λ (t : Bool). head_agrees q x f b && t) (h q e x)
same_learnt m k j f b (passes p t) h = (λ q e x. ap (λ (u : Bool). head_agrees q x f b && u) (h.0 q e x), λ s a. ap (λ (u : Bool). atom_agrees m p s a f b && u) (h.1 s a))
same_learnt m k j f b (says q) h = ap (hearing f b q) h

-- ── facts that do not bear on a look do not count ──

elsewhere : (t u : Bool) → t ≡ false → (not t || u) ≡ true
elsewhere t u e = ap (λ (x : Bool). not x || u) e

apart_places : (q p : Place) → (q ≡ p → ⊥) → same_place q p ≡ false
apart_places q p f = go (same_place q p) refl
  where
    go : (t : Bool) → same_place q p ≡ t → t ≡ false
    go true e = absurd (f (same_place_lem q p e))
    go false e = refl

silent_head : (f : Look) (b : Bool) (p q : Place) (c : ℕ) (l : Look) → (bears f l ≡ false → (o : Place) (e : ℕ) → f ≡ is_built o e → at_or_above o p ≡ false) → bears f l ≡ false
    → at_or_above q p ≡ true → head_agrees q c f b ≡ true
silent_head (is_built o e) b p q c l no_bear h up =
    elsewhere (same_place o q) (gives b (eqb c e))
    (apart_places o q (λ same. both_ways (at_or_above o p) (no_bear h o e refl) (ap (λ (x : Place). at_or_above x p) same ∙ up)))
silent_head (passes o t) b p q c l no_bear h up = refl
silent_head (says r) b p q c l no_bear h up = refl

silent_at_build : (f : Look) (b : Bool) (p : Place) (e : ℕ) → bears f (is_built p e) ≡ false → (q : Place) → at_or_above q p ≡ true → (c : ℕ) → head_agrees q c f b ≡ true
silent_at_build f b p e h q up c = silent_head f b p q c (is_built p e) (λ z o x same. sym (ap (λ (g : Look). bears g (is_built p e)) same) ∙ z) h up

silent_at_test : (f : Look) (b : Bool) (p : Place) (t : ℤ) → bears f (passes p t) ≡ false → (q : Place) → at_or_above q p ≡ true → (c : ℕ) → head_agrees q c f b ≡ true
silent_at_test f b p t h q up c = silent_head f b p q c (passes p t) (λ z o x same. sym (ap (λ (g : Look). bears g (passes p t)) same) ∙ z) h up

silent_atom : (m : Measure) (f : Look) (b : Bool) (p : Place) (t : ℤ) → bears f (passes p t) ≡ false → (s : ℕ) (a : ℤ) → atom_agrees m p s a f b ≡ true
silent_atom m (is_built o e) b p t h s a = refl
silent_atom m (passes o u) b p t h s a =
    elsewhere (same_place o p) (gives b (m.passes s u a))
    (apart_places o p (λ same. both_ways (at_or_above o p) h (ap (λ (x : Place). at_or_above x p) same ∙ at_same p p (place_same p))))
silent_atom m (says r) b p t h s a = refl

silent_question : (f : Look) (b : Bool) (q : Question) → bears f (says q) ≡ false → (o : Option Bool) → hearing f b q o ≡ o
silent_question (is_built p c) b q h o = refl
silent_question (passes p t) b q h o = refl
silent_question (says r) b q h o = ap (λ (t : Bool). cond t (Some b) o) h

module _ (test : Fact → Bool) where
  -- a check of each fact, passed by those that are left out
  checks_kept : (check : Fact → Bool) (all : Knowledge → Bool) → all [] ≡ true → ((f : Fact) (k : Knowledge) → all (f ∷ k) ≡ (check f && all k))
      → ((f : Fact) → test f ≡ false → check f ≡ true) → (k : Knowledge) → all k ≡ all (filter test k)
  checks_kept check all none_left one_more silent [] = refl
  checks_kept check all none_left one_more silent (f ∷ k) = go (test f) refl (checks_kept check all none_left one_more silent k)
    where
      go : (t : Bool) → test f ≡ t → all k ≡ all (filter test k) → all (f ∷ k) ≡ all (cond t (f ∷ filter test k) (filter test k))
      go true e h = one_more f k ∙ ap (λ (x : Bool). check f && x) h ∙ sym (one_more f (filter test k))
      go false e h = one_more f k ∙ ap (λ (x : Bool). x && all k) (silent f e) ∙ h

  heard_kept : (q : Question) → ((f : Fact) → test f ≡ false → (o : Option Bool) → hearing f.asked f.answer q o ≡ o) → (k : Knowledge) → heard k q ≡ heard (filter test k) q
  heard_kept q silent [] = refl
  heard_kept q silent (f ∷ k) = go (test f) refl (heard_kept q silent k)
    where
      go : (t : Bool) → test f ≡ t → heard k q ≡ heard (filter test k) q → hearing f.asked f.answer q (heard k q) ≡ heard (cond t (f ∷ filter test k) (filter test k)) q
      go true e h = ap (hearing f.asked f.answer q) h
      go false e h = silent f e (heard k q) ∙ h

  module _ (m : Measure) (k j : Knowledge) (equal : filter test k ≡ filter test j) where
    both_kept : {A : Type 0} (of : Knowledge → A) → ((i : Knowledge) → of i ≡ of (filter test i)) → of k ≡ of j
    both_kept of h = h k ∙ ap of equal ∙ sym (h j)

    heads_kept : (q : Place) (c : ℕ) → ((f : Fact) → test f ≡ false → head_agrees q c f.asked f.answer ≡ true) → head_agrees_all q c k ≡ head_agrees_all q c j
    heads_kept q c silent = both_kept (head_agrees_all q c) (checks_kept (λ f. head_agrees q c f.asked f.answer) (head_agrees_all q c) refl (λ f i. refl) silent)

    -- equal facts among those that bear on a look leave the same of what it asks about
    pub kept_same : (l : Look) → ((f : Fact) → test f ≡ false → bears f.asked l ≡ false) → SameOf m k j l
    kept_same (is_built p e) silent = λ q up c. heads_kept q c (λ f z. silent_at_build f.asked f.answer p e (silent f z) q up c)
    kept_same (passes p t) silent = (
      λ q up c. heads_kept q c (λ f z. silent_at_test f.asked f.answer p t (silent f z) q up c),
      λ s a. both_kept (atom_agrees_all m p s a)
          (checks_kept (λ f. atom_agrees m p s a f.asked f.answer) (atom_agrees_all m p s a) refl (λ f i. refl) (λ f z. silent_atom m f.asked f.answer p t (silent f z) s a)),
    )
    kept_same (says q) silent = both_kept (λ i. heard i q) (heard_kept q (λ f z. silent_question f.asked f.answer q (silent f z)))
