-- The garment that is shown fits what is known: at every place that is known to stand, its entry is the part of the garment there.
use Rattle.std.proofs.Common.{◌≡◌, ℕ, zero, suc, ◌<◌, Bool, true, false, cond, not, ◌&&◌, ◌||◌, eqb, ◌⊎◌, List, [], ◌∷◌, length, ℤ, is_some, Some, None, Option, sym, refl, ap, ◌∙◌, subst, inl, inr, ⊎_elim, arith}
use Rattle.std.proofs.lemmas.Bool.{false≢true, not-true, not-false, not_from_true, and_parts, and_from, eqb-true, eq-eqb, cases_eq}
use Rattle.std.specs.List.{slice_get}
use Rattle.measure.specs.Measure.{Measure, gives}
use Rattle.guards.specs.declared.step.Step.{Step}
use Rattle.guards.specs.Questions.{Rule, and_then}
use Rattle.rules.specs.declared.rows.TypeRow.{TypeRow}
use Rattle.rules.specs.declared.rows.TypeRow.TheVariants.{Choice, Measured}
use Rattle.rules.specs.declared.rows.GarmentEntry.{GarmentEntry}
use Rattle.rules.specs.Book.{Schema, fields_of, sort_of, sort_in}
use Rattle.rules.specs.Garments.{Value, Values, built, Place, whole, below, place_type, part_at, step_into, field_at, built_by, OfType, garment_value, last, is_some_number, type_number_in, entries_fit}
use Rattle.rules.specs.Sheets.{field}
use Rattle.rules.specs.Trees.{passes_at}
use Rattle.theory.specs.Runs.{Look, is_built, passes, says, world_of}
use Rattle.theory.specs.Inhabited.{all_of, inhabited}
use Rattle.theory.specs.Knowledge.{Fact, Knowledge, Holds, same_place, head_agrees, head_agrees_all, candidate, none_below, only, reached, atom_agrees, atom_agrees_all, allowed, Askable, AllAskable, Heard, AllHeard, Good}
use Rattle.shown.specs.Interned.{among, looks_among, known_among, Interned}
use Rattle.shown.specs.ShownGarment.{Stock, ShownSoFar, defaults, shown_places, shown_garment, FourFields, Picks, Hears, GarmentFits, GarmentShown}
use Rattle.shown.proofs.EntryLists.{slice_get-push, last-push, value_at, garment_new}
use Rattle.shown.proofs.EntryTypes.{value_typed}
use Rattle.shown.proofs.DefaultEntries.{defaults_fit, defaults_few}
use Rattle.shown.proofs.PlaceEntries.{PlacesFit}
use Rattle.shown.proofs.PlacesShown.{candidate_parts, first_shown, places_few}
use Rattle.shown.proofs.SamePlaces.{Interned-none, Interned-grows, not_whole}
use Rattle.theory.proofs.Parts.{place_same}
use Rattle.std.proofs.lemmas.Option.{none-some, same_Some}
use Rattle.rules.proofs.Facts.{test_from_number}
use Rattle.theory.proofs.Candidates.{same_given}
use Rattle.theory.proofs.Making.{owner_below}

-- ── facts of a list ──

abbrev In : Fact → Knowledge → Type 0
In f [] = ⊥
In f (g ∷ k) = (g ≡ f) ⊎ In f k

heads_agree : (p : Place) (c : ℕ) (k : Knowledge) (f : Fact) → head_agrees_all p c k ≡ true → In f k → head_agrees p c f.asked f.answer ≡ true
heads_agree p c [] f e i = absurd i
heads_agree p c (g ∷ k) f e i =
    let two = and_parts (head_agrees p c g.asked g.answer) (head_agrees_all p c k) e in
    ⊎_elim (λ q. subst (λ (x : Fact). head_agrees p c x.asked x.answer ≡ true) q two.0) (heads_agree p c k f two.1) i

atoms_agree : (m : Measure) (p : Place) (s : ℕ) (a : ℤ) (k : Knowledge) (f : Fact) → atom_agrees_all m p s a k ≡ true → In f k → atom_agrees m p s a f.asked f.answer ≡ true
atoms_agree m p s a [] f e i = absurd i
atoms_agree m p s a (g ∷ k) f e i =
    let two = and_parts (atom_agrees m p s a g.asked g.answer) (atom_agrees_all m p s a k) e in
    ⊎_elim (λ q. subst (λ (x : Fact). atom_agrees m p s a x.asked x.answer ≡ true) q two.0) (atoms_agree m p s a k f two.1) i

here_gives : (p : Place) (b x : Bool) → (not (same_place p p) || gives b x) ≡ true → x ≡ b
here_gives p b x e = same_given b x (sym (ap (λ y. y || gives b x) (not_from_true (same_place p p) (place_same p))) ∙ e)

-- ── the only candidate ──

none_below_lem : (n : ℕ) (test : ℕ → Bool) (e : ℕ) → none_below n test ≡ true → e < n → test e ≡ false
none_below_lem zero test e h l = absurd (omega arith)
none_below_lem (suc n) test e h l =
    let two = and_parts (not (test n)) (none_below n test) h in
    ⊎_elim (λ q. subst (λ i. test i ≡ false) (sym q) (not-true (test n) two.0)) (λ q. none_below_lem n test e two.1 (omega arith)) (cases_eq e n)

only_one : (m : Measure) (d : Schema) (k : Knowledge) (p : Place) (t c e : ℕ) → place_type d p ≡ Some t → only m d k p c ≡ true → candidate m d k p e ≡ true → e ≡ c
only_one m d k p t c e r o h =
    let rest = (and_parts (candidate m d k p c) (none_below (length d.constructors) (λ x. candidate m d k p x && not (eqb x c))) o).1 in
    let never = none_below_lem (length d.constructors) (λ x. candidate m d k p x && not (eqb x c)) e rest (owner_below d e t (candidate_parts m d k p t e r h).owner) in
    eqb-true e c (not-false (eqb e c) (sym (ap (λ z. z && not (eqb e c)) h) ∙ never))

all_of_at : (passing : ℕ → Bool) (ts : List ℕ) (i t : ℕ) → all_of passing ts ≡ true → slice_get ts i ≡ Some t → passing t ≡ true
all_of_at passing [] i t e h = absurd (none-some t h)
all_of_at passing (u ∷ ts) zero t e h = subst (λ x. passing x ≡ true) (same_Some u t h) (and_parts (passing u) (all_of passing ts) e).0
all_of_at passing (u ∷ ts) (suc i) t e h = all_of_at passing ts i t (and_parts (passing u) (all_of passing ts) e).1 h

some_is : (o : Option ℕ) → is_some o ≡ true → (t : ℕ) × (o ≡ Some t)
some_is None e = absurd (false≢true e)
some_is (Some t) e = (t, refl)

-- a step into a part that the step's constructor builds
step_into_lem : (s : Step) (o : Option Value) (x : Value) (c : ℕ) (parts : Values) (y : Value) → o ≡ Some x → x ≡ built c parts → c ≡ s.constructor → field_at parts s.field ≡ Some y → step_into s o ≡ Some y
step_into_lem s o x c parts y e f same h =
    ap (step_into s) (e ∙ ap Some f) ∙ ap (λ b. cond b (field_at parts s.field) None) (eq-eqb c s.constructor same) ∙ h

-- ── the parts of the garment ──

module _ (m : Measure) (d : Schema) (k : Knowledge) (ps : List Place) (pick : Place → ℕ → ℤ) (default_of : ℕ → ℕ) (lives : inhabited m d 0 ≡ true)
    (interned : Interned ps) (sh : ShownSoFar) (ok : PlacesFit m d k pick default_of (whole ∷ ps) sh) (v : Value) (n₀ : ℕ) (whole_is : sh.entry_of whole ≡ Some n₀) (v_is : v ≡ value_at d sh.entries n₀) where
  -- a step of a place that is known to stand
  record StepKnown (p : Place) (s : Step) : Type 0 where
    up : reached m d k p ≡ true
    alone : only m d k p s.constructor ≡ true
    inner : ℕ
    inner_is : slice_get (fields_of d s.constructor) s.field ≡ Some inner

  step_known : (p : Place) (s : Step) → reached m d k (below p s) ≡ true → StepKnown p s
  step_known p s e =
      let two = and_parts (reached m d k p) (only m d k p s.constructor && is_some (slice_get (fields_of d s.constructor) s.field)) e in
      let three = and_parts (only m d k p s.constructor) (is_some (slice_get (fields_of d s.constructor) s.field)) two.1 in
      let u = some_is (slice_get (fields_of d s.constructor) s.field) three.1 in
      record { up = two.0; alone = three.0; inner = u.0; inner_is = u.1 }

  alone_candidate : (p : Place) (c : ℕ) → only m d k p c ≡ true → candidate m d k p c ≡ true
  alone_candidate p c e = (and_parts (candidate m d k p c) (none_below (length d.constructors) (λ x. candidate m d k p x && not (eqb x c))) e).0

  type_known : (p : Place) → reached m d k p ≡ true → (t : ℕ) × (place_type d p ≡ Some t) × (inhabited m d t ≡ true)
  type_known whole e = (0, refl, lives)
  type_known (below p s) e =
      let x = step_known p s e in
      let t = type_known p x.up in
      let can = candidate_parts m d k p t.0 s.constructor t.1 (alone_candidate p s.constructor x.alone) in
      (x.inner, x.inner_is, all_of_at (inhabited m d) (fields_of d s.constructor) s.field x.inner can.filled x.inner_is)

  part_shown : (p : Place) → among (whole ∷ ps) p ≡ true → reached m d k p ≡ true → (n : ℕ) × (sh.entry_of p ≡ Some n) × (part_at v p ≡ Some (value_at d sh.entries n))
  part_shown whole a e = (n₀, whole_is, ap Some v_is)
  part_shown (below p s) a e =
      let x = step_known p s e in
      let i : ℕ = s.field in
      let above = part_shown p (interned.closed (below p s) a (not_whole p s)) x.up in
      let t = type_known p x.up in
      let mine = type_known (below p s) e in
      let can = candidate_parts m d k p t.0 s.constructor t.1 (alone_candidate p s.constructor x.alone) in
      let head = ok.heads p above.0 t.0 above.1 t.1 can.row in
      let same : head.made ≡ s.constructor = only_one m d k p t.0 s.constructor head.made t.1 x.alone head.fits in
      let entry = ok.complete (below p s) mine.0 a mine.1 mine.2 in
      let part = head.fields i entry.0 x.inner (ap (λ c. slice_get (fields_of d c) i) same ∙ x.inner_is) (ap (λ c. sh.entry_of (field p c i)) same ∙ entry.1) in (
        entry.0,
        entry.1,
        step_into_lem s (part_at v p) (value_at d sh.entries above.0) head.made head.parts (value_at d sh.entries entry.0) above.2 head.is same part,
      )

  -- ── what is known holds ──

  module _ (allowed_there : (p : Place) (t s : ℕ) → among (whole ∷ ps) p ≡ true → place_type d p ≡ Some t → inhabited m d t ≡ true → slice_get d.types t ≡ Some (Measured s) → allowed m k p s (pick p s) ≡ true)
      (rule : Rule) (hears : Hears k rule) where
    sort_row : (t s : ℕ) (o : Option TypeRow) → slice_get d.types t ≡ o → sort_in o ≡ Some s → slice_get d.types t ≡ Some (Measured s)
    sort_row t s None q e = absurd (none-some s e)
    sort_row t s (Some Choice) q e = absurd (none-some s e)
    sort_row t s (Some (Measured r)) q e = q ∙ ap (λ x. Some (Measured x)) (same_Some r s e)

    look_holds : (l : Look) (b : Bool) → In (record { asked = l; answer = b }) k → Askable m d k l → looks_among (whole ∷ ps) l ≡ true → Heard k l b → world_of m v rule l ≡ b
    look_holds (is_built p c) b i ask a h =
        let part = part_shown p a ask.0 in
        let head = ok.heads p part.0 ask.1.0 part.1 ask.1.1 ask.1.2 in
        let can = candidate_parts m d k p ask.1.0 head.made ask.1.1 head.fits in
        ap (built_by c) (part.2 ∙ ap Some head.is) ∙ here_gives p b (eqb head.made c) (heads_agree p head.made k (record { asked = is_built p c; answer = b }) can.agrees i)
    look_holds (passes p t) b i ask a h =
        let part = part_shown p a ask.0 in
        let type_is = type_known p ask.0 in
        let s : ℕ = ask.1.0 in
        let row = sort_row type_is.0 s (slice_get d.types type_is.0) refl (sym (ap (λ o. and_then o (sort_of d)) type_is.1) ∙ ask.1.1) in
        let value = ok.atoms p part.0 type_is.0 s part.1 type_is.1 row in
        let agrees = (and_parts (m.atom s (pick p s)) (atom_agrees_all m p s (pick p s) k) (allowed_there p type_is.0 s a type_is.1 type_is.2 row)).1 in
        ap (passes_at m t) (part.2 ∙ ap Some value) ∙ here_gives p b (m.passes s t (pick p s)) (atoms_agree m p s (pick p s) k (record { asked = passes p t; answer = b }) agrees i)
    look_holds (says q) b i ask a h = hears q b h

    all_hold : (fs : Knowledge) → ((f : Fact) → In f fs → In f k) → AllAskable m d k fs → known_among (whole ∷ ps) fs ≡ true → AllHeard k fs → Holds (world_of m v rule) fs
    all_hold [] i ask a h = tt
    all_hold (f ∷ fs) i ask a h =
        let two = and_parts (looks_among (whole ∷ ps) f.asked) (known_among (whole ∷ ps) fs) a in
        (look_holds f.asked f.answer (i f (inl refl)) ask.0 two.0 h.0, all_hold fs (λ g j. i g (inr j)) ask.1 two.1 h.1)

-- ── together ──

shown : (m : Measure) (d : Schema) (k : Knowledge) (ps : List Place) (pick : Place → ℕ → ℤ) (usual : ℕ → ℤ)
    → FourFields d → inhabited m d 0 ≡ true → Good m d k → Interned ps → known_among (whole ∷ ps) k ≡ true → Picks m d k ps pick usual
    → GarmentFits m d k ps (shown_garment m d k pick usual ps)
shown m d k ps pick usual sound lives good interned listed picks =
    let st : Stock = defaults m d usual in
    let stocked = defaults_fit m d sound usual picks.usual_atom in
    let sh : ShownSoFar = shown_places m d k pick st (whole ∷ ps) in
    let there = picks.allowed_there in
    let at_last = first_shown m d k pick st sound good stocked whole ps interned.ordered there in
    let ok : PlacesFit m d k pick st.default_of (whole ∷ ps) sh = at_last.fits in
    let new = at_last.last 0 refl lives in
    let n : ℕ = length new.front in
    let typed = ok.typed whole n new.numbered in
    let zeroth : type_number_in (slice_get sh.entries n) ≡ Some 0 = typed.2.1 ∙ sym typed.1 in
    let last_is : last sh.entries ≡ slice_get sh.entries n =
    ap last new.all ∙ last-push new.front new.entry ∙ sym (slice_get-push new.front new.entry) ∙ ap (λ (l : List GarmentEntry). slice_get l n) (sym new.all) in
    let value_is : garment_value d sh.entries ≡ value_at d sh.entries n =
    ap (garment_value d) new.all ∙ garment_new d new.front new.entry ∙ ap (λ (l : List GarmentEntry). value_at d l n) (sym new.all) in
    record {
      typed = and_from (is_some_number (type_number_in (last sh.entries)) 0) (entries_fit m d [] sh.entries) (test_from_number (type_number_in (last sh.entries)) 0 (ap type_number_in last_is ∙ zeroth)) ok.fit;
      fits = λ rule hears. record {
        typed = subst (λ (x : Value). OfType m d 0 x) (sym value_is) (value_typed m d sh.entries ok.fit n 0 zeroth);
        holds = all_hold m d k ps pick st.default_of lives interned sh ok (garment_value d sh.entries) n new.numbered value_is there rule hears k (λ f i. i) good.asked listed good.heard_all;
      };
      few = omega (arith, places_few m d k pick st sound good stocked (whole ∷ ps) interned.ordered there, defaults_few m d usual);
    }

pub garment_shown : GarmentShown
garment_shown = record {
  shown = shown;
  enough = λ m d k ps es f h i. omega (arith, f.few);
  none_listed = Interned-none;
  one_more = λ ps p c i. Interned-grows ps p (record { constructor = c; field = i });
}
