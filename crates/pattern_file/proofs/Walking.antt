-- A walk over the entries of a file: past the numbers that are put, to the call that takes them.
use Rattle.std.proofs.Common.{◌≡◌, ℕ, zero, suc, ◌+◌, ◌-◌, ◌<◌, ◌≤◌, Bool, cond, List, [], ◌∷◌, ◌++◌, length, get_or, take, drop, ℤ, pos, sym, refl, ap, ◌∙◌, arith}
use Rattle.std.proofs.lemmas.List.{at_drop_more, at_drop_all, get_or-drop, length-drop, length-map, length-take, map_more}
use Rattle.std.specs.List.{AllWithin}
use Rattle.std.proofs.lemmas.Bool.{ne_eqb}
use Rattle.pattern_file.specs.declared.faults.FormatFault.TheVariants.{NumbersLeft}
use Rattle.pattern_file.specs.declared.entries.Entry.{Entry}
use Rattle.pattern_file.specs.Bytes.{signed_number, signed_numbers}
use Rattle.pattern_file.specs.Contents.{finished, stopped, ending, calls_from}
use Rattle.pattern_file.specs.Names.{name_of}
use Rattle.pattern_file.specs.Readers.{call_or, entries_with, rest_at, run_at}

pub length-entries_with : (t : List ℕ) (b : List (List ℕ)) → length b ≡ length t → length (entries_with t b) ≡ length t
length-entries_with [] b h = refl
length-entries_with (x ∷ t) [] h = absurd (omega arith)
length-entries_with (x ∷ t) (n ∷ b) h = ap suc (length-entries_with t b (omega arith))

abbrev entry : ℕ → ℤ → Entry
entry t z = record { tag = t; number = z }

entry_at : (t : List ℕ) (b : List (List ℕ)) (i : ℕ) (d : Entry) → length b ≡ length t → i < length t → get_or (entries_with t b) i d ≡ entry (get_or t i 0) (signed_number (get_or b i []))
entry_at [] b i d s h = absurd (omega arith)
entry_at (x ∷ t) [] i d s h = absurd (omega arith)
entry_at (x ∷ t) (n ∷ b) zero d s h = refl
entry_at (x ∷ t) (n ∷ b) (suc i) d s h = entry_at t b i d (omega arith) (omega arith)

ending_left : (e : ℕ) (put : List ℤ) → 0 < length put → ending e put ≡ stopped e NumbersLeft
ending_left e [] h = absurd (omega arith)
ending_left e (z ∷ put) h = refl

module _ (t : List ℕ) (b : List (List ℕ)) (same : length b ≡ length t) where
  -- one entry more
  pub step : (n : ℕ) (put : List ℤ) (i : ℕ) → i < length t
      → calls_from n put (drop i (entries_with t b)) ≡ calls_from n put (entry (get_or t i 0) (signed_number (get_or b i [])) ∷ drop (i + 1) (entries_with t b))
  step n put i h =
      let none : Entry = entry 0 (pos 0) in
      at_drop_more (calls_from n put) (entries_with t b) i none (omega (arith, length-entries_with t b same))
      ∙ ap (λ (e : Entry). calls_from n put (e ∷ drop (i + 1) (entries_with t b))) (entry_at t b i none same h)

  pub run_start : (i : ℕ) → run_at t b i i ≡ rest_at t b i
  unfolding run_at rest_at
  run_start i = let none : i - i ≡ 0 = omega arith in ap (λ (k : ℕ). calls_from i (signed_numbers (take k (drop i b))) (drop i (entries_with t b))) none

  -- a number is put
  pub run_more : (i e : ℕ) → i ≤ e → e < length t → get_or t e 0 ≡ 0 → run_at t b i (e + 1) ≡ run_at t b i e
  unfolding run_at
  run_more i e l h z =
      let before = signed_numbers (take (e - i) (drop i b)) in
      let all = drop (e + 1) (entries_with t b) in
      let rest = drop i b in
      let longer : e - i + 1 ≡ e + 1 - i = omega arith in
      let last : get_or rest (e - i) [] ≡ get_or b e [] = get_or-drop i b (e - i) [] ∙ ap (λ (k : ℕ). get_or b k []) (omega arith) in
      let put : before ++ (signed_number (get_or b e []) ∷ []) ≡ signed_numbers (take (e + 1 - i) rest) =
      ap (λ (n : List ℕ). before ++ (signed_number n ∷ [])) (sym last)
      ∙ sym (map_more signed_number rest (e - i) [] (omega (arith, length-drop i b))) ∙ ap (λ (k : ℕ). signed_numbers (take k rest)) longer in
      sym (step e before e h ∙ ap (λ (x : ℕ). calls_from e before (entry x (signed_number (get_or b e [])) ∷ all)) z ∙ ap (λ (p : List ℤ). calls_from (e + 1) p all) put)

  -- n numbers are put, up to the next call or the end
  pub run_put : (n i e : ℕ) → e ≡ i + n → e ≤ length t → AllWithin (λ x. x ≡ 0) (drop i t) 0 n → run_at t b i e ≡ rest_at t b i
  run_put zero i e q h z = let none : e ≡ i = omega arith in ap (λ (m : ℕ). run_at t b i m) none ∙ run_start i
  run_put (suc n) i e q h z =
      let more : e ≡ i + n + 1 = omega arith in
      ap (λ (m : ℕ). run_at t b i m) more ∙ run_more i (i + n) (omega arith) (omega arith) (sym (get_or-drop i t n 0) ∙ z n 0 (omega arith) (omega arith))
      ∙ run_put n i (i + n) refl (omega arith) (λ k d l m. z k d l (omega arith))

  run_past : (i e : ℕ) → length t ≤ e → run_at t b i e ≡ ending e (signed_numbers (take (e - i) (drop i b)))
  unfolding run_at
  run_past i e h = at_drop_all (calls_from e (signed_numbers (take (e - i) (drop i b)))) (entries_with t b) e (omega (arith, length-entries_with t b same))

  -- the end, with numbers left over
  pub run_left : (i e : ℕ) → length t ≤ e → i < e → e ≤ length t → run_at t b i e ≡ stopped e NumbersLeft
  run_left i e h l m = run_past i e h ∙ ending_left e (signed_numbers (take (e - i) (drop i b))) (omega (arith, length-map (take (e - i) (drop i b)) signed_number, length-take (e - i) (drop i b), length-drop i b))

  -- the end, with none
  pub run_done : (i e : ℕ) → length t ≤ e → e ≤ i → run_at t b i e ≡ finished
  run_done i e h l = let none : e - i ≡ 0 = omega arith in run_past i e h ∙ ap (λ (k : ℕ). ending e (signed_numbers (take k (drop i b)))) none

  -- a call takes what was put
  pub run_call : (i e : ℕ) → e < length t → (get_or t e 0 ≡ 0 → ⊥)
      → run_at t b i e ≡ call_or (name_of (get_or t e 0)) e (signed_number (get_or b e [])) (signed_numbers (take (e - i) (drop i b))) (rest_at t b (e + 1))
  unfolding run_at rest_at
  run_call i e h ne =
      let before = signed_numbers (take (e - i) (drop i b)) in
      let all = drop (e + 1) (entries_with t b) in
      step e before e h
      ∙ ap (λ (q : Bool). cond q (calls_from (e + 1) (before ++ (signed_number (get_or b e []) ∷ [])) all) (call_or (name_of (get_or t e 0)) e (signed_number (get_or b e [])) before (calls_from (e + 1) [] all))) (ne_eqb (get_or t e 0) 0 ne)
