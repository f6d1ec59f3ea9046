-- Steps in pairs of numbers.
use Rattle.std.proofs.Common.{◌≡◌, ℕ, zero, suc, ◌*◌, ◌/◌, ◌%◌, List, [], ◌∷◌, map, length, get_or, sym, refl, ap, ◌∙◌, arith}
use Rattle.std.proofs.lemmas.Option.{slice_get-map}
use Rattle.std.specs.List.{slice_get}
use Rattle.std.specs.Option.{option_map}
use Rattle.std.specs.Simd.{first_chunks}
use Rattle.guards.specs.declared.step.Step.{Step}
use Rattle.guards.specs.Questions.{Steps, steps_in, written_steps}

pub steps_in_length : (l : List ℕ) → length (steps_in l) ≡ length l / 2
steps_in_length [] = refl
steps_in_length (c ∷ []) = refl
steps_in_length (c ∷ (f ∷ l)) = omega (arith, steps_in_length l)

-- an even list of numbers is what is written of its steps
pub written_steps_in : (l : List ℕ) → length l % 2 ≡ 0 → written_steps (steps_in l) ≡ l
written_steps_in [] h = refl
written_steps_in (c ∷ []) h = absurd (omega arith)
written_steps_in (c ∷ (f ∷ l)) h = ap (λ (t : List ℕ). c ∷ (f ∷ t)) (written_steps_in l (omega arith))

pub steps_in_written : (p : Steps) → steps_in (written_steps p) ≡ p
steps_in_written [] = refl
steps_in_written (s ∷ p) = ap (λ (t : Steps). s ∷ t) (steps_in_written p)

pub length_written : (p : Steps) → length (written_steps p) ≡ 2 * length p
length_written [] = refl
length_written (s ∷ p) = omega (arith, length_written p)

-- the step that two numbers say
abbrev pub pair_step : List ℕ → Step
pair_step l = record { constructor = get_or l 0 0; field = get_or l 1 0 }

-- the pieces of two numbers say the steps, one after another
pairs_say : (n : ℕ) (l : List ℕ) → n ≡ length l / 2 → map pair_step (first_chunks 2 n l) ≡ steps_in l
pairs_say zero [] h = refl
pairs_say zero (c ∷ []) h = refl
pairs_say zero (c ∷ (f ∷ l)) h = absurd (omega arith)
pairs_say (suc n) [] h = absurd (omega arith)
pairs_say (suc n) (c ∷ []) h = absurd (omega arith)
pairs_say (suc n) (c ∷ (f ∷ l)) h = ap (λ (t : Steps). record { constructor = c; field = f } ∷ t) (pairs_say n l (omega arith))

pub nth_pair : (l : List ℕ) (pairs : List (List ℕ)) (i : ℕ) → pairs ≡ first_chunks 2 (length l / 2) l → option_map pair_step (slice_get pairs i) ≡ slice_get (steps_in l) i
nth_pair l pairs i e =
    sym (slice_get-map pair_step pairs i) ∙ ap (λ (t : List (List ℕ)). slice_get (map pair_step t) i) e ∙ ap (λ (t : Steps). slice_get t i) (pairs_say (length l / 2) l refl)
