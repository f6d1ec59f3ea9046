-- Tables whose rows name earlier rows: how many meanings there are, of what each is made, and what a new row adds.
use Rattle.std.proofs.Common.{◌≡◌, ℕ, zero, suc, ◌+◌, List, [], ◌∷◌, ◌++◌, length, take, Some, sym, refl, ap, ◌∙◌, subst, append_assoc, append-nil, arith, length-append}
use Rattle.std.proofs.Math.Seq.{take-append_seam}
use Rattle.std.specs.List.{slice_get}
use Rattle.rules.specs.Tables.{unfolded}
use Rattle.rules.specs.Garments.{entry_value}
use Rattle.rules.specs.Sheets.{pattern_from}
use Rattle.rules.specs.Trees.{place_from, node_from}
use Rattle.theory.specs.RowLaws.{Unfolds, RowsUnfold}
use Rattle.std.proofs.lemmas.Option.{none-some, same_Some}
use Rattle.rules.proofs.Lists.{unfolded-push, length-unfolded}

slice_get-append_seam : {A : Type 0} (xs : List A) (y : A) (ys : List A) → slice_get (xs ++ y ∷ ys) (length xs) ≡ Some y
slice_get-append_seam [] y ys = refl
slice_get-append_seam (x ∷ xs) y ys = slice_get-append_seam xs y ys

module _ {R A : Type 0} (make : List A → R → A) where
  -- what was there before stays in front
  front : (before : List A) (rows : List R) → (rest : List A) × (unfolded make before rows ≡ before ++ rest)
  front before [] = ([], sym (append-nil before))
  front before (r ∷ rows) =
      let h = front (before ++ make before r ∷ []) rows in
      (make before r ∷ h.0, h.1 ∙ append_assoc before (make before r ∷ []) h.0)

  keeps : (before : List A) (rows : List R) → take (length before) (unfolded make before rows) ≡ before
  keeps before rows = let h = front before rows in ap (take (length before)) h.1 ∙ take-append_seam before h.0

  -- the first row, after those before
  made_first : (before : List A) (r : R) (rows : List R) → slice_get (unfolded make before (r ∷ rows)) (length before) ≡ Some (make (take (length before) (unfolded make before (r ∷ rows))) r)
  made_first before r rows =
      let h = front (before ++ make before r ∷ []) rows in
      let e : unfolded make before (r ∷ rows) ≡ before ++ (make before r ∷ h.0) = h.1 ∙ append_assoc before (make before r ∷ []) h.0 in
      ap (λ z. slice_get z (length before)) e ∙ slice_get-append_seam before (make before r) h.0 ∙ ap (λ z. Some (make z r)) (sym (keeps before (r ∷ rows)))

  made : (before : List A) (rows : List R) (i : ℕ) (row : R) → slice_get rows i ≡ Some row
      → slice_get (unfolded make before rows) (length before + i) ≡ Some (make (take (length before + i) (unfolded make before rows)) row)
  made before [] i row h = absurd (none-some row h)
  made before (r ∷ rows) zero row h =
      subst (λ z. slice_get (unfolded make before (r ∷ rows)) (length before + 0) ≡ Some (make (take (length before + 0) (unfolded make before (r ∷ rows))) z)) (same_Some r row h)
      (subst (λ n. slice_get (unfolded make before (r ∷ rows)) n ≡ Some (make (take n (unfolded make before (r ∷ rows))) r)) (let e : length before ≡ length before + 0 = omega arith in e) (made_first before r rows))
  made before (r ∷ rows) (suc i) row h =
      let l = length-append before (make before r ∷ []) in
      let e : length (before ++ make before r ∷ []) + i ≡ length before + suc i = omega (arith, l) in
      subst (λ n. slice_get (unfolded make before (r ∷ rows)) n ≡ Some (make (take n (unfolded make before (r ∷ rows))) row)) e (made (before ++ make before r ∷ []) rows i row h)

  -- for any way of making meanings
  pub unfolds : Unfolds make
  unfolds = record { counts = length-unfolded make; keeps = keeps; made = made; grows = unfolded-push make }

pub rows_unfold : RowsUnfold
rows_unfold = record {
  patterns = unfolds pattern_from;
  places = unfolds place_from;
  nodes = λ places pairs. unfolds (node_from places pairs);
  entries = λ d. unfolds (entry_value d);
}
