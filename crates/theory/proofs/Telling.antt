-- What knowledge tells is right in every garment and rule that fit it.
use Rattle.std.proofs.Common.{◌≡◌, ℕ, suc, Bool, true, false, cond, not, ◌&&◌, ◌||◌, eqb, [], ◌∷◌, ℤ, Some, None, Option, sym, refl, ap, ◌∙◌, subst, arith}
use Rattle.std.specs.List.{slice_get}
use Rattle.std.proofs.lemmas.Bool.{true≢false, false≢true, and_from, not_from_false, eq-eqb, eqb-true}
use Rattle.measure.specs.Measure.{Measure, Lawful, gives}
use Rattle.guards.specs.Questions.{Question, Rule, same_question, and_then}
use Rattle.guards.proofs.Listing.{same_decides}
use Rattle.rules.specs.declared.rows.TypeRow.TheVariants.{Measured}
use Rattle.rules.specs.Book.{Schema, fields_of, sort_of}
use Rattle.rules.specs.Garments.{Value, Values, built, measured, Place, part_at, built_by, place_type, OfType}
use Rattle.rules.specs.Trees.{passes_at}
use Rattle.theory.specs.Runs.{Look, is_built, passes, says, world_of}
use Rattle.theory.specs.Inhabited.{any_atom}
use Rattle.theory.specs.Knowledge.{Knowledge, Holds, Fits, same_place, head_agrees, head_agrees_all, candidate, only, reached, atom_agrees, atom_agrees_all, allowed, hearing, heard, decided, tells_head, tells_test, if_reached, tells}
use Rattle.theory.specs.Theorems.{TellsRight}
use Rattle.theory.proofs.Atoms.{any_from}
use Rattle.theory.proofs.Inhabiting.{types_found}
use Rattle.theory.proofs.Candidates.{gives_same, row_of_sort, candidate_from}
use Rattle.theory.proofs.Standing.{steps, Stood, Candid, found_only, stands_reached}
use Rattle.theory.proofs.Parts.{same_place_lem}
use Rattle.std.proofs.lemmas.Option.{none-some, same_Some}
use Rattle.rules.proofs.Facts.{choice≢measured}

-- where a yes, or a no, is possible, the other is told only if it is not
told_yes : (y n b : Bool) → decided y n ≡ Some b → y ≡ true → b ≡ true
told_yes true true b e h = absurd (none-some b e)
told_yes true false b e h = sym (same_Some true b e)
told_yes false n b e h = absurd (false≢true h)

told_no : (y n b : Bool) → decided y n ≡ Some b → n ≡ true → b ≡ false
told_no true true b e h = absurd (none-some b e)
told_no true false b e h = absurd (false≢true h)
told_no false n b e h = sym (same_Some false b e)

module _ (m : Measure) (d : Schema) (v : Value) (rule : Rule) where
  -- what stands at a place agrees with all facts there
  head_agrees_lem : (p : Place) (e : ℕ) (us : Values) → part_at v p ≡ Some (built e us) → (l : Look) (b : Bool) → world_of m v rule l ≡ b → head_agrees p e l b ≡ true
  head_agrees_lem p e us h (is_built q c) b w = go (same_place q p) refl
    where
      go : (z : Bool) → same_place q p ≡ z → (not z || gives b (eqb e c)) ≡ true
      go true f = gives_same b (eqb e c) (sym (ap (built_by c) (ap (part_at v) (same_place_lem q p f) ∙ h)) ∙ w)
      go false f = refl
  head_agrees_lem p e us h (passes q t) b w = refl
  head_agrees_lem p e us h (says q) b w = refl

  heads_agree : (k : Knowledge) (p : Place) (e : ℕ) (us : Values) → Holds (world_of m v rule) k → part_at v p ≡ Some (built e us) → head_agrees_all p e k ≡ true
  heads_agree [] p e us w h = refl
  heads_agree (f ∷ k) p e us w h = and_from (head_agrees p e f.asked f.answer) (head_agrees_all p e k) (head_agrees_lem p e us h f.asked f.answer w.0) (heads_agree k p e us w.1 h)

  atom_agrees_lem : (p : Place) (s : ℕ) (a : ℤ) → part_at v p ≡ Some (measured s a) → (l : Look) (b : Bool) → world_of m v rule l ≡ b → atom_agrees m p s a l b ≡ true
  atom_agrees_lem p s a h (is_built q c) b w = refl
  atom_agrees_lem p s a h (passes q t) b w = go (same_place q p) refl
    where
      go : (z : Bool) → same_place q p ≡ z → (not z || gives b (m.passes s t a)) ≡ true
      go true f = gives_same b (m.passes s t a) (sym (ap (passes_at m t) (ap (part_at v) (same_place_lem q p f) ∙ h)) ∙ w)
      go false f = refl
  atom_agrees_lem p s a h (says q) b w = refl

  atoms_agree : (k : Knowledge) (p : Place) (s : ℕ) (a : ℤ) → Holds (world_of m v rule) k → part_at v p ≡ Some (measured s a) → atom_agrees_all m p s a k ≡ true
  atoms_agree [] p s a w h = refl
  atoms_agree (f ∷ k) p s a w h =
      and_from (atom_agrees m p s a f.asked f.answer) (atom_agrees_all m p s a k) (atom_agrees_lem p s a h f.asked f.answer w.0) (atoms_agree k p s a w.1 h)

  -- the rule gives the answers that were heard
  rule_heard : (k : Knowledge) (q : Question) (b : Bool) → Holds (world_of m v rule) k → heard k q ≡ Some b → rule q ≡ b
  rule_heard [] q b w e = absurd (none-some b e)
  rule_heard (f ∷ k) q b w e = by_look f.asked f.answer w.0 e (rule_heard k q b w.1)
    where
      by_look : (l : Look) (x : Bool) → world_of m v rule l ≡ x → hearing l x q (heard k q) ≡ Some b → (heard k q ≡ Some b → rule q ≡ b) → rule q ≡ b
      by_look (is_built p c) x h e rest = rest e
      by_look (passes p t) x h e rest = rest e
      by_look (says r) x h e rest = go (same_question r q) refl e
        where
          go : (z : Bool) → same_question r q ≡ z → cond z (Some x) (heard k q) ≡ Some b → rule q ≡ b
          go true f e = sym (ap rule ((same_decides r q).0 f)) ∙ h ∙ same_Some x b e
          go false f e = rest e

module _ (m : Measure) (d : Schema) (k : Knowledge) (v : Value) (rule : Rule) (law : Lawful m) (fits : Fits m d k v rule) where
  candid : (n : ℕ) → Candid m d k v n
  candid n p t e us l h placed w =
      candidate_from m d k p e record { type = t; placed = placed; choice = w.0; owner = w.1; fields = types_found m d law us (fields_of d e) w.2; agrees = heads_agree m d v rule k p e us fits.holds h }

  stood : (p : Place) → reached m d k p ≡ true → Stood m d k v p
  stood p r = stands_reached m d k v (suc (steps p)) (candid (suc (steps p))) fits.typed p (omega arith) r

  -- a constructor that is no candidate does not stand there
  not_built : (p : Place) (c : ℕ) → Stood m d k v p → candidate m d k p c ≡ false → built_by c (part_at v p) ≡ false
  not_built p c s no_candidate = go s.value s.found s.typed
    where
      go : (u : Value) → part_at v p ≡ Some u → OfType m d s.type u → built_by c (part_at v p) ≡ false
      go (measured r a) h w = ap (built_by c) h
      go (built e us) h w = ap (built_by c) h ∙ other (eqb e c) refl
        where
          other : (z : Bool) → eqb e c ≡ z → z ≡ false
          other true f = absurd (true≢false (sym (candid (suc (steps p)) p s.type e us (omega arith) h s.placed w) ∙ ap (candidate m d k p) (eqb-true e c f) ∙ no_candidate))
          other false f = refl

  head_right : (p : Place) (c : ℕ) (b : Bool) (r o h : Bool) → reached m d k p ≡ r → only m d k p c ≡ o → candidate m d k p c ≡ h → if_reached r (tells_head o h) ≡ Some b → built_by c (part_at v p) ≡ b
  head_right p c b false o h er eo eh e = absurd (none-some b e)
  head_right p c b true true h er eo eh e =
      let f = found_only m d k v (suc (steps p)) (candid (suc (steps p))) p c (omega arith) (stood p er) eo in
      ap (built_by c) f.1.0 ∙ eq-eqb c c refl ∙ same_Some true b e
  head_right p c b true false true er eo eh e = absurd (none-some b e)
  head_right p c b true false false er eo eh e = not_built p c (stood p er) eh ∙ same_Some false b e

  test_right : (p : Place) (t : ℤ) (b : Bool) (s : ℕ) → and_then (place_type d p) (sort_of d) ≡ Some s → Stood m d k v p → tells_test m k p t (Some s) ≡ Some b → passes_at m t (part_at v p) ≡ b
  test_right p t b s sort st e = go st.value st.found st.typed
    where
      row : slice_get d.types st.type ≡ Some (Measured s)
      row = row_of_sort (slice_get d.types st.type) s (sym (ap (λ o. and_then o (sort_of d)) st.placed) ∙ sort)

      go : (u : Value) → part_at v p ≡ Some u → OfType m d st.type u → passes_at m t (part_at v p) ≡ b
      go (built c us) h w = absurd (choice≢measured s (sym w.0 ∙ row))
      go (measured r a) h w = ap (passes_at m t) h ∙ subst (λ x. m.passes x t a ≡ b) (sym same) (by_answer (m.passes s t a) refl)
        where
          same : r ≡ s
          same = let e : Some (Measured r) ≡ Some (Measured s) = sym w.0 ∙ row in cc

          is_atom : m.atom s a ≡ true
          is_atom = subst (λ x. m.atom x a ≡ true) same w.1

          may_stand : allowed m k p s a ≡ true
          may_stand = and_from (m.atom s a) (atom_agrees_all m p s a k) is_atom (atoms_agree m d v rule k p s a fits.holds (h ∙ ap (λ x. Some (measured x a)) same))

          by_answer : (z : Bool) → m.passes s t a ≡ z → z ≡ b
          by_answer true f = sym (told_yes (any_atom (λ a. allowed m k p s a && m.passes s t a)) (any_atom (λ a. allowed m k p s a && not (m.passes s t a))) b e
              (any_from (λ a. allowed m k p s a && m.passes s t a) a (law.atom_fits s a is_atom) (and_from (allowed m k p s a) (m.passes s t a) may_stand f)))
          by_answer false f = sym (told_no (any_atom (λ a. allowed m k p s a && m.passes s t a)) (any_atom (λ a. allowed m k p s a && not (m.passes s t a))) b e
              (any_from (λ a. allowed m k p s a && not (m.passes s t a)) a (law.atom_fits s a is_atom) (and_from (allowed m k p s a) (not (m.passes s t a)) may_stand (not_from_false (m.passes s t a) f))))

  atom_right : (p : Place) (t : ℤ) (b : Bool) (r : Bool) (o : Option ℕ) → reached m d k p ≡ r → and_then (place_type d p) (sort_of d) ≡ o → if_reached r (tells_test m k p t o) ≡ Some b → passes_at m t (part_at v p) ≡ b
  atom_right p t b false o er eo e = absurd (none-some b e)
  atom_right p t b true None er eo e = absurd (none-some b e)
  atom_right p t b true (Some s) er eo e = test_right p t b s eo (stood p er) e

  all_right : (l : Look) (b : Bool) → tells m d k l ≡ Some b → world_of m v rule l ≡ b
  all_right (is_built p c) b e = head_right p c b (reached m d k p) (only m d k p c) (candidate m d k p c) refl refl refl e
  all_right (passes p t) b e = atom_right p t b (reached m d k p) (and_then (place_type d p) (sort_of d)) refl refl e
  all_right (says q) b e = rule_heard m d v rule k q b fits.holds e

pub tells_right : TellsRight
tells_right m d k v rule l b law fits e = all_right m d k v rule law fits l b e
