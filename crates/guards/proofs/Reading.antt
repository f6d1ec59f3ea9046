-- Reading what is written, and what was written where something is read.
use Rattle.std.proofs.Common.{◌≡◌, ℕ, zero, suc, ◌-◌, ◌≤◌, true, leb, List, [], ◌∷◌, ◌++◌, length, get_or, take, drop, is_some, Some, None, Decides, Option, unwrap_or, sym, refl, ap, ◌∙◌, subst, arith}
use Rattle.std.proofs.lemmas.Grind.{common_steps}
use Rattle.std.proofs.lemmas.Bool.{leb-true}
use Rattle.std.proofs.lemmas.List.{append_assoc, append-nil, length-append, take_at, drop_at, take-append-drop, take_rest, length-take-le}
use Rattle.std.proofs.lemmas.Option.{none-some, some_pair_parts}
use Rattle.std.specs.Option.{option_map}
use Rattle.std.specs.List.{AllByRecursion, slice_get}
use Rattle.guards.specs.Questions.{Steps, Question, written_steps, written_places, written, and_then, read_place, read_places, read_question, wholly, reading, question_in, Within}
use Rattle.guards.proofs.Found.{then_some, mapped_some, cond_some, mapped_twice, some_value}
use Rattle.guards.proofs.Pairs.{steps_in_length, written_steps_in, steps_in_written, length_written}

-- one place
pub place_inv : (most : ℕ) (l : List ℕ) (p : Steps) (rest : List ℕ) → read_place most l ≡ Some (p, rest) → (l ≡ length p ∷ (written_steps p ++ rest)) × (length p ≤ most)
place_inv most [] p rest e = absurd (none-some _ e)
place_inv most (n ∷ l) p rest e =
    (grind (arith, common_steps, steps_in_length, written_steps_in, take-append-drop, length-take-le), grind (arith, common_steps, steps_in_length, length-take-le))

pub place_written : (most : ℕ) (p : Steps) (rest : List ℕ) → length p ≤ most → read_place most (length p ∷ (written_steps p ++ rest)) ≡ Some (p, rest)
place_written most p rest h = grind (arith, common_steps, length_written, length-append, take_at, drop_at, steps_in_written)

-- so many places
pub places_inv : (most n : ℕ) (l : List ℕ) (ps : List Steps) (rest : List ℕ) → read_places most n l ≡ Some (ps, rest) → (l ≡ written_places ps ++ rest) × (length ps ≡ n) × AllByRecursion (λ p. length p ≤ most) ps
places_inv most zero l ps rest e =
    let parts = some_pair_parts _ ps _ rest e in
    let P : List Steps → Type 0 = λ t. (l ≡ written_places t ++ rest) × (length t ≡ 0) × AllByRecursion (λ p. length p ≤ most) t in
    subst P parts.0 (parts.1, refl, tt)
places_inv most (suc n) l ps rest e =
    let a = then_some (read_place most l) _ _ e in
    let b = mapped_some _ (read_places most n a.0.1) _ a.2 in
    let here = place_inv most l a.0.0 a.0.1 a.1 in
    let more = places_inv most n a.0.1 b.0.0 b.0.1 b.1 in
    let one : a.0.0 ∷ b.0.0 ≡ ps = ap (λ (t : List Steps × List ℕ). t.0) b.2 in
    let two : b.0.1 ≡ rest = ap (λ (t : List Steps × List ℕ). t.1) b.2 in
    (grind (arith, common_steps, here.0, more.0, one, two, append_assoc), grind (arith, common_steps, more.1, one), subst (AllByRecursion (λ p. length p ≤ most)) one (here.1, more.2))

pub places_written : (most : ℕ) (ps : List Steps) (rest : List ℕ) → AllByRecursion (λ p. length p ≤ most) ps → read_places most (length ps) (written_places ps ++ rest) ≡ Some (ps, rest)
places_written most [] rest h = refl
places_written most (p ∷ ps) rest h = grind (arith, common_steps, append_assoc, place_written most p (written_places ps ++ rest) h.0, places_written most ps rest h.1)

-- a question
pub question_inv : (most : ℕ) (l : List ℕ) (q : Question) (rest : List ℕ) → read_question most l ≡ Some (q, rest) → (l ≡ written q ++ rest) × Within most q
question_inv most [] q rest e = absurd (none-some _ e)
question_inv most (g ∷ []) q rest e = absurd (none-some _ e)
question_inv most (g ∷ (n ∷ l)) q rest e =
    let a = cond_some (leb n 4) _ _ e in
    let b = mapped_some _ (read_places most n l) _ a.1 in
    let more = places_inv most n l b.0.0 b.0.1 b.1 in
    let one : record { guard = g; places = b.0.0 } ≡ q = ap (λ (t : Question × List ℕ). t.0) b.2 in
    let two : b.0.1 ≡ rest = ap (λ (t : Question × List ℕ). t.1) b.2 in
    (grind (arith, common_steps, more.0, more.1, one, two), subst (Within most) one (omega (arith, more.1, leb-true n 4 a.0), more.2))

pub question_written : (most : ℕ) (q : Question) (rest : List ℕ) → Within most q → read_question most (written q ++ rest) ≡ Some (q, rest)
question_written most q rest h = grind (arith, common_steps, places_written most q.places rest h.1)

wholly_some : {X : Type 0} (x y : X) (l : List ℕ) → wholly x l ≡ Some y → (x ≡ y) × (l ≡ [])
wholly_some x y [] e = (cc, refl)
wholly_some x y (n ∷ l) e = absurd (none-some _ e)

pub reading_inv : (l : List ℕ) (q : Question) → reading l ≡ Some q → (read_question 65535 l ≡ Some (q, [])) × (written q ≡ l) × Within 65535 q
reading_inv l q e =
    let a = then_some (read_question 65535 l) _ q e in
    let b = wholly_some a.0.0 q a.0.1 a.2 in
    let read : read_question 65535 l ≡ Some (q, []) = grind (arith, common_steps, a.1, b.0, b.1) in
    let i = question_inv 65535 l q [] read in
    (read, sym (i.0 ∙ append-nil (written q)), i.1)

pub reading-written : (q : Question) → Within 65535 q → reading (written q) ≡ Some q
reading-written q h = grind (arith, common_steps, append-nil, question_written 65535 q [] h)

-- what is read is the question that the numbers say
pub reading_whole : (l : List ℕ) → is_some (reading l) ≡ true → reading l ≡ Some (question_in l)
reading_whole l h = some_value (reading l) _ h

-- what stands first in the numbers of a whole question
pub whole_written : (l : List ℕ) → is_some (reading l) ≡ true → l ≡ written (question_in l)
whole_written l h = sym (reading_inv l (question_in l) (reading_whole l h)).1

-- the place that stands after so many others
abbrev pub place_after : ℕ → List ℕ → Option Steps
place_after i l = option_map (λ p. p.0) (and_then (option_map (λ r. r.1) (read_places 65535 i l)) (read_place 65535))

-- the numbers after so many places
abbrev pub after_places : ℕ → ℕ → List ℕ → Option (List ℕ)
after_places most n l = option_map (λ r. r.1) (read_places most n l)

pub after_more : (most n m : ℕ) (l : List ℕ) (p : Steps × List ℕ) → n ≡ suc m → read_place most l ≡ Some p → after_places most n l ≡ after_places most m p.1
after_more most n m l p e h = grind (arith, common_steps, mapped_twice)

none_after : (i : ℕ) → place_after i [] ≡ None
none_after zero = refl
none_after (suc i) = refl

-- one of the places: the one after as many as stand before it
pub nth_places : (n i : ℕ) (l : List ℕ) (ps : List Steps) → read_places 65535 n l ≡ Some (ps, []) → place_after i l ≡ slice_get ps i
nth_places zero i l ps e =
    let parts = some_pair_parts _ ps _ [] e in
    ap (place_after i) parts.1 ∙ none_after i ∙ ap (λ (t : List Steps). slice_get t i) parts.0
nth_places (suc n) i l ps e =
    let a = then_some (read_place 65535 l) _ _ e in
    let b = mapped_some _ (read_places 65535 n a.0.1) _ a.2 in
    let one : a.0.0 ∷ b.0.0 ≡ ps = ap (λ (t : List Steps × List ℕ). t.0) b.2 in
    let two : b.0.1 ≡ [] = ap (λ (t : List Steps × List ℕ). t.1) b.2 in
    let more = b.1 ∙ ap (λ (t : List ℕ). Some (b.0.0, t)) two in
    let at : place_after i l ≡ slice_get (a.0.0 ∷ b.0.0) i = elim i as (λ k. place_after k l ≡ slice_get (a.0.0 ∷ b.0.0) k) [
      | zero ↦ ap (option_map (λ (p : Steps × List ℕ). p.0)) a.1
      | suc k ↦ ap (λ (o : Option (List ℕ)). option_map (λ (p : Steps × List ℕ). p.0) (and_then o (read_place 65535))) (after_more 65535 (suc k) k l a.0 refl a.1) ∙ nth_places n k a.0.1 b.0.0 more
    ] in
    at ∙ ap (λ (t : List Steps). slice_get t i) one

-- the question that numbers say, whatever they are
any_Within : (o : Option Question) → ((q : Question) → o ≡ Some q → Within 65535 q) → Within 65535 (unwrap_or o (record { guard = 0; places = [] }))
any_Within None f = (omega arith, tt)
any_Within (Some q) f = f q refl

pub in_within : (l : List ℕ) → Within 65535 (question_in l)
in_within l = any_Within (reading l) (λ q e. (reading_inv l q e).2)

-- a place that is read once as many are passed over as stand before it in a whole question
pub place_at : (l : List ℕ) (i : ℕ) (o : Option (List ℕ)) → is_some (reading l) ≡ true → o ≡ after_places 65535 i (take (length l - 2) (drop 2 l)) → option_map (λ (p : Steps × List ℕ). p.0) (and_then o (read_place 65535)) ≡ slice_get (question_in l).places i
place_at l i o whole e =
    let ps = (question_in l).places in
    ap (λ (o : Option (List ℕ)). option_map (λ (p : Steps × List ℕ). p.0) (and_then o (read_place 65535))) e
    ∙ ap (place_after i) (take_rest l 2 ∙ ap (drop 2) (whole_written l whole))
    ∙ nth_places (length ps) i (written_places ps) ps (ap (read_places 65535 (length ps)) (sym (append-nil (written_places ps))) ∙ places_written 65535 ps [] (in_within l).1)

-- the numbers after the places of a question are those after the question
pub after_question : (most count : ℕ) (l rest : List ℕ) → 2 ≤ length l → get_or l 1 0 ≤ 4 → count ≡ get_or l 1 0 → Some rest ≡ after_places most count (take (length l - 2) (drop 2 l)) → option_map (λ (r : Question × List ℕ). r.1) (read_question most l) ≡ Some rest
after_question most count [] rest h k c e = absurd (omega arith)
after_question most count (g ∷ []) rest h k c e = absurd (omega arith)
after_question most count (g ∷ (n ∷ l)) rest h k c e = grind (arith, common_steps, mapped_twice, take_rest)

-- two questions that are written alike are the same
all_short : (ps : List Steps) (m : ℕ) → length (written_places ps) ≤ m → AllByRecursion (λ p. length p ≤ m) ps
all_short [] m h = tt
all_short (p ∷ ps) m h =
    let long = length-append (written_steps p) (written_places ps) in
    let two = length_written p in
    (omega arith, all_short ps m (omega arith))

places_apart : (ps qs : List Steps) → length ps ≡ length qs → written_places ps ≡ written_places qs → ps ≡ qs
places_apart ps qs count same = apart (length (written_places ps)) refl
  where
    apart : (m : ℕ) → length (written_places ps) ≡ m → ps ≡ qs
    apart m size =
        let one = places_written m ps [] (all_short ps m (omega arith)) in
        let two = places_written m qs [] (all_short qs m (omega (arith, ap length same))) in
        let read : read_places m (length ps) (written_places ps ++ []) ≡ read_places m (length qs) (written_places qs ++ []) = cc in
        (some_pair_parts ps qs [] [] (sym one ∙ read ∙ two)).0

same_parts : (a b : Question) → a.guard ≡ b.guard → a.places ≡ b.places → a ≡ b
same_parts a b g p = ap (λ (x : ℕ). record { guard = x; places = a.places }) g ∙ ap (λ (x : List Steps). record { guard = b.guard; places = x }) p

pub written_apart : (a b : Question) → written a ≡ written b → a ≡ b
written_apart a b e = grind (arith, common_steps, places_apart a.places b.places, same_parts a b)

shorter : (m n : ℕ) (ps : List Steps) → m ≤ n → AllByRecursion (λ p. length p ≤ m) ps → AllByRecursion (λ p. length p ≤ n) ps
shorter m n [] le h = tt
shorter m n (p ∷ ps) le h = (omega (arith, h.0), shorter m n ps le h.1)

pub within_more : (m n : ℕ) (q : Question) → m ≤ n → Within m q → Within n q
within_more m n q le h = (h.0, shorter m n q.places le h.1)

-- a question at the front, from the numbers that are left after it
module _ (most : ℕ) (l rest : List ℕ) (e : option_map (λ (r : Question × List ℕ). r.1) (read_question most l) ≡ Some rest) where
  read : (q : Question) × (read_question most l ≡ Some (q, rest)) × (l ≡ written q ++ rest) × Within most q
  read =
      let a = mapped_some (λ (r : Question × List ℕ). r.1) (read_question most l) rest e in
      let found : read_question most l ≡ Some (a.0.0, rest) = a.1 ∙ ap (λ (t : List ℕ). Some (a.0.0, t)) a.2 in
      let i = question_inv most l a.0.0 rest found in
      (a.0.0, found, i.0, i.1)

  pub rest_shorter : length rest ≤ length l
  rest_shorter = omega (arith, ap length read.2, length-append (written read.0) rest)

  module _ (n : ℕ) (size : n ≡ length l - length rest) (le : most ≤ 65535) where
    front : take n l ≡ written read.0
    front = ap (take n) read.2 ∙ take_at (written read.0) rest n (omega (arith, ap length read.2, length-append (written read.0) rest))

    whole : reading (take n l) ≡ Some read.0
    whole = ap reading front ∙ reading-written read.0 (within_more most 65535 read.0 le read.3)

    pub front_whole : is_some (reading (take n l)) ≡ true
    front_whole = ap is_some whole

    pub front_is : Some (question_in (take n l), rest) ≡ read_question most l
    front_is = ap (λ (o : Option Question). Some (unwrap_or o (record { guard = 0; places = [] }), rest)) whole ∙ sym read.1

-- a question of short places is one that is read where only those are
pub short_read : (most : ℕ) (l : List ℕ) → most ≤ 65535 → is_some (reading l) ≡ true → Decides (is_some (read_question most l)) (Within most (question_in l))
short_read most l le whole =
    let q = question_in l in
    let none : Question × List ℕ = (q, []) in
    let front : l ≡ written q ++ [] = whole_written l whole ∙ sym (append-nil (written q)) in (
      λ t.
          let found : read_question most l ≡ Some (unwrap_or (read_question most l) none) = some_value (read_question most l) none t in
          let p = unwrap_or (read_question most l) none in
          let i = question_inv most l p.0 p.1 found in
          let one : read_question 65535 l ≡ Some (p.0, p.1) = ap (read_question 65535) i.0 ∙ question_written 65535 p.0 p.1 (within_more most 65535 p.0 le i.1) in
          subst (Within most) (some_pair_parts p.0 q p.1 [] (sym one ∙ (reading_inv l q (reading_whole l whole)).0)).0 i.1,
      λ h. ap (λ (o : Option (Question × List ℕ)). is_some o) (ap (read_question most) front ∙ question_written most q [] h),
    )
