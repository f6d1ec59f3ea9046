-- Good knowledge has a garment, grown from candidates and atoms past the deepest fact, and a rule: the answers heard, else no.
use Rattle.std.proofs.Common.{◌≡◌, ℕ, zero, suc, ◌+◌, ◌-◌, ◌<◌, ◌≤◌, Bool, true, false, cond, eqb, [], ◌∷◌, ℤ, Some, None, Option, unwrap_or, sym, refl, ap, ◌∙◌, subst, arith}
use Rattle.std.specs.List.{slice_get}
use Rattle.std.proofs.lemmas.Bool.{false≢true, and_parts, eqb-true}
use Rattle.measure.specs.Measure.{Measure, Lawful, gives}
use Rattle.guards.specs.declared.step.Step.{Step}
use Rattle.guards.specs.Questions.{Rule, and_then}
use Rattle.rules.specs.declared.rows.TypeRow.{TypeRow}
use Rattle.rules.specs.declared.rows.TypeRow.TheVariants.{Choice, Measured}
use Rattle.rules.specs.Book.{Schema, fields_of, sort_of}
use Rattle.rules.specs.Garments.{Value, built, measured, Place, whole, below, field_at, step_into, part_at, built_by, place_type, OfType}
use Rattle.rules.specs.Sheets.{field}
use Rattle.rules.specs.Trees.{passes_at}
use Rattle.theory.specs.Runs.{Look, is_built, passes, says, world_of}
use Rattle.theory.specs.Inhabited.{makes, inhabited_by, makers, inhabited}
use Rattle.theory.specs.Knowledge.{Knowledge, Holds, same_place, head_agrees, head_agrees_all, candidate, reached, atom_agrees, atom_agrees_all, allowed, heard, Askable, AllAskable, Heard, AllHeard, Good}
use Rattle.theory.specs.Theorems.{GoodFits}
use Rattle.theory.proofs.Parts.{values_for, place_same}
use Rattle.theory.proofs.Inhabiting.{all_at, type_filled}
use Rattle.theory.proofs.Candidates.{agrees_here, same_given, row_of_sort, is_candidate}
use Rattle.theory.proofs.Standing.{steps, Stood, Candid, stands_reached}
use Rattle.std.proofs.lemmas.Option.{none-some, same_Some}
use Rattle.rules.proofs.Facts.{choice≢measured}

-- ── how deep facts go ──

abbrev deep : Look → ℕ
deep (is_built p c) = suc (steps p)
deep (passes p t) = suc (steps p)
deep (says q) = 0

-- more steps than the place of any fact has
abbrev depth : Knowledge → ℕ
depth [] = 0
depth (f ∷ k) = deep f.asked + depth k

-- what is left of n steps at a place of fewer
steps_left : (n a : ℕ) → a < n → (r : ℕ) × (suc r + a ≡ n)
steps_left n a l = (n - suc a, omega arith)

module _ (m : Measure) (d : Schema) (k : Knowledge) where
  -- the value v, standing at p, is made of candidates and of atoms that may stand there, down to n steps
  abbrev Grown : ℕ → Place → Value → Type 0
  Grown zero p v = Unit {0}
  Grown (suc n) p (built c vs) = (candidate m d k p c ≡ true) × ((i : ℕ) (u : Value) → field_at vs i ≡ Some u → Grown n (field p c i) u)
  Grown (suc n) p (measured s a) = allowed m k p s a ≡ true

  grow : Lawful m → Good m d k → (n : ℕ) (p : Place) (t : ℕ) → place_type d p ≡ Some t → inhabited m d t ≡ true → (v : Value) × (OfType m d t v × Grown n p v)
  grow law good zero p t placed h = let v = type_filled m d law t h in (v.0, (v.1, tt))
  grow law good (suc n) p t placed h = go (slice_get d.types t) refl h (grow law good n)
    where
      go : (o : Option TypeRow) → slice_get d.types t ≡ o → inhabited_by m (makes d (makers m d) t) o ≡ true
          → ((q : Place) (u : ℕ) → place_type d q ≡ Some u → inhabited m d u ≡ true → (v : Value) × (OfType m d u v × Grown n q v))
          → (v : Value) × (OfType m d t v × Grown (suc n) p v)
      go None row e rest = absurd (false≢true e)
      go (Some Choice) row e rest =
          let r = good.heads p t placed h row in
          let c : ℕ = r.0 in
          let one = is_candidate m d k p c r.1 in
          let vs = values_for m d (λ i u. Grown n (field p c i) u) (fields_of d c) (λ i u f. rest (field p c i) u f (all_at (inhabited m d) (fields_of d c) one.fields i u f)) in
          (built c vs.0, ((row, one.owner ∙ sym one.placed ∙ placed, vs.1.0), (r.1, vs.1.1)))
      go (Some (Measured s)) row e rest =
          let r = good.atoms p t s placed h row in
          (measured s r.0, ((row, (and_parts (m.atom s r.0) (atom_agrees_all m p s r.0 k) r.1).0), r.1))

  -- so is each part, down to the steps that are left
  Grown-below : (r : ℕ) (p : Place) (s : Step) (o : Option Value) (x : Value) → ((y : Value) → o ≡ Some y → Grown (suc r) p y) → step_into s o ≡ Some x → Grown r (below p s) x
  Grown-below r p s None x h e = absurd (none-some x e)
  Grown-below r p s (Some (measured t a)) x h e = absurd (none-some x e)
  Grown-below r p s (Some (built c us)) x h e = go (eqb c s.constructor) refl e
    where
      go : (z : Bool) → eqb c s.constructor ≡ z → cond z (field_at us s.field) None ≡ Some x → Grown r (below p s) x
      go true f g = subst (λ y. Grown r (field p y s.field) x) (eqb-true c s.constructor f) ((h (built c us) refl).1 s.field x g)
      go false f g = absurd (none-some x g)

  Grown-at : (n : ℕ) (v : Value) → Grown n whole v → (p : Place) (r : ℕ) → r + steps p ≡ n → (x : Value) → part_at v p ≡ Some x → Grown r p x
  Grown-at n v g whole r e x h =
      let same : n ≡ r = omega arith in
      subst (λ y. Grown r whole y) (same_Some v x h) (subst (λ y. Grown y whole v) same g)
  Grown-at n v g (below p s) r e x h = Grown-below r p s (part_at v p) x (λ y f. Grown-at n v g p (suc r) (omega arith) y f) h

  -- ── every fact holds of what is grown deeper than all of them ──

  module _ (n : ℕ) (v : Value) (g : Grown n whole v) (w : OfType m d 0 v) where
    candid : Candid m d k v n
    candid p t e us l h placed typed = let r = steps_left n (steps p) l in (Grown-at n v g p (suc r.0) r.1 (built e us) h).0

    stood : (p : Place) → steps p < n → reached m d k p ≡ true → Stood m d k v p
    stood p l r = stands_reached m d k v n candid w p l r

    head_holds : (p : Place) (c t : ℕ) (x : Bool) → steps p < n → Stood m d k v p → place_type d p ≡ Some t → slice_get d.types t ≡ Some Choice
        → ((e : ℕ) → head_agrees_all p e k ≡ true → head_agrees p e (is_built p c) x ≡ true) → built_by c (part_at v p) ≡ x
    head_holds p c t x l s placed row agree = go s.value s.found s.typed
      where
        go : (u : Value) → part_at v p ≡ Some u → OfType m d s.type u → built_by c (part_at v p) ≡ x
        go (built e us) h typed =
            ap (built_by c) h
            ∙ same_given x (eqb e c) (agrees_here (same_place p p) (gives x (eqb e c)) (place_same p) (agree e (is_candidate m d k p e (candid p s.type e us l h s.placed typed)).agrees))
        go (measured r a) h typed = absurd (choice≢measured r (sym row ∙ ap (slice_get d.types) (same_Some t s.type (sym placed ∙ s.placed)) ∙ typed.0))

    test_holds : (p : Place) (t : ℤ) (s : ℕ) (x : Bool) → steps p < n → Stood m d k v p → and_then (place_type d p) (sort_of d) ≡ Some s
        → ((r : ℕ) (a : ℤ) → atom_agrees_all m p r a k ≡ true → atom_agrees m p r a (passes p t) x ≡ true) → passes_at m t (part_at v p) ≡ x
    test_holds p t s x l st sort agree = go st.value st.found st.typed
      where
        go : (u : Value) → part_at v p ≡ Some u → OfType m d st.type u → passes_at m t (part_at v p) ≡ x
        go (built e us) h typed =
            absurd (choice≢measured s (sym typed.0 ∙ row_of_sort (slice_get d.types st.type) s (sym (ap (λ o. and_then o (sort_of d)) st.placed) ∙ sort)))
        go (measured r a) h typed =
            let left = steps_left n (steps p) l in
            let may : allowed m k p r a ≡ true = Grown-at n v g p (suc left.0) left.1 (measured r a) h in
            ap (passes_at m t) h
            ∙ same_given x (m.passes r t a) (agrees_here (same_place p p) (gives x (m.passes r t a)) (place_same p) (agree r a (and_parts (m.atom r a) (atom_agrees_all m p r a k) may).1))

    -- the answers that were heard, and no to all other questions
    abbrev answers : Rule
    answers q = unwrap_or (heard k q) false

    fact_holds : (j : Look) (x : Bool) → deep j ≤ n → Askable m d k j → Heard k j x
        → ((p : Place) (e : ℕ) → head_agrees_all p e k ≡ true → head_agrees p e j x ≡ true)
        → ((p : Place) (r : ℕ) (a : ℤ) → atom_agrees_all m p r a k ≡ true → atom_agrees m p r a j x ≡ true)
        → world_of m v answers j ≡ x
    fact_holds (is_built p c) x l ask hear heads atoms = head_holds p c ask.1.0 x l (stood p l ask.0) ask.1.1 ask.1.2 (heads p)
    fact_holds (passes p t) x l ask hear heads atoms = test_holds p t ask.1.0 x l (stood p l ask.0) ask.1.1 (atoms p)
    fact_holds (says q) x l ask hear heads atoms = ap (λ o. unwrap_or o false) hear

    facts_hold : (fs : Knowledge) → depth fs ≤ n → AllAskable m d k fs → AllHeard k fs
        → ((p : Place) (e : ℕ) → head_agrees_all p e k ≡ true → head_agrees_all p e fs ≡ true)
        → ((p : Place) (r : ℕ) (a : ℤ) → atom_agrees_all m p r a k ≡ true → atom_agrees_all m p r a fs ≡ true)
        → Holds (world_of m v answers) fs
    facts_hold [] l ask hear heads atoms = tt
    facts_hold (f ∷ fs) l ask hear heads atoms = (
      fact_holds f.asked f.answer (omega arith) ask.0 hear.0
          (λ p e h. (and_parts (head_agrees p e f.asked f.answer) (head_agrees_all p e fs) (heads p e h)).0)
          (λ p r a h. (and_parts (atom_agrees m p r a f.asked f.answer) (atom_agrees_all m p r a fs) (atoms p r a h)).0),
      facts_hold fs (omega arith) ask.1 hear.1
          (λ p e h. (and_parts (head_agrees p e f.asked f.answer) (head_agrees_all p e fs) (heads p e h)).1)
          (λ p r a h. (and_parts (atom_agrees m p r a f.asked f.answer) (atom_agrees_all m p r a fs) (atoms p r a h)).1),
    )

pub good_fits : GoodFits
good_fits m d k law h good =
    let r = grow m d k law good (depth k) whole 0 refl h in
    let n : ℕ = depth k in (
      r.0,
      (
        answers m d k n r.0 r.1.1 r.1.0,
        record {
          typed = r.1.0;
          holds = facts_hold m d k n r.0 r.1.1 r.1.0 k (omega arith) good.asked good.heard_all (λ p e a. a) (λ p s a z. z);
        },
      ),
    )
