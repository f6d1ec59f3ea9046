-- What was written reads back.
use Rattle.std.proofs.Common.{◌≡◌, ℕ, suc, ◌+◌, ◌≤◌, Bool, true, cond, leb, List, [], ◌∷◌, ◌++◌, map, length, take, drop, ℤ, Some, None, Ok, sym, refl, ap, ◌∙◌, arith, w64, SFits, to_z, of_z}
use mir.Facts.{Fits-of_z}
use Rattle.std.specs.List.{flat_map}
use Rattle.std.proofs.lemmas.List.{take_at, drop_at, drop-drop, length-append, length-map}
use Rattle.std.proofs.lemmas.Int.{to_z-of_z}
use Rattle.std.proofs.lemmas.Bool.{le-leb, eq-eqb, and_from, cond-true}
use Rattle.pattern_file.specs.declared.entries.Entry.{Entry}
use Rattle.pattern_file.specs.Bytes.{bytes_of, signed_at, signed_bytes}
use Rattle.pattern_file.specs.Contents.{tag_of_entry, number_of_entry, encode, entries_in, announced, well_sized, entries_of, calls_in, calls_of, contents, file_length, max_entries}
use Rattle.pattern_file.specs.Writing.{Fit, ReadsBack, written}
use Rattle.pattern_file.proofs.ByteNumbers.{value_bytes_of, length_bytes_of}
use Rattle.pattern_file.proofs.Lending.{length-signed_bytes, length_numbers}

-- the eight bytes of a signed number read back as that number
pub signed_back : (z : ℤ) (more : List ℕ) → SFits w64 z → signed_at (signed_bytes z ++ more) 0 ≡ z
unfolding signed_at signed_bytes
signed_back z more f = ap (to_z w64) (value_bytes_of 8 (of_z w64 z) (Fits-of_z f).fits) ∙ to_z-of_z w64 z f

entries_back : (es : List Entry) → Fit es → entries_in (map tag_of_entry es) (flat_map number_of_entry es) ≡ es
entries_back [] f = refl
entries_back (e ∷ es) f =
    let more = flat_map number_of_entry es in
    ap (λ (z : ℤ). record { tag = e.tag; number = z } ∷ entries_in (map tag_of_entry es) (drop 8 (number_of_entry e ++ more))) (signed_back e.number more (f 0 e (omega arith)))
    ∙ ap (λ (b : List ℕ). e ∷ entries_in (map tag_of_entry es) b) (drop_at (number_of_entry e) more 8 (length-signed_bytes e.number))
    ∙ ap (λ (l : List Entry). e ∷ l) (entries_back es (λ k d h. f (suc k) d (omega arith)))

module _ (es : List Entry) (few : length es ≤ max_entries) where
  pub length-encode : length (encode es) ≡ file_length (length es)
  unfolding encode
  length-encode =
      let t = map tag_of_entry es in
      let m = flat_map number_of_entry es in
      omega (arith, length-append (bytes_of 4 (length es)) (t ++ m), length-append t m, length_bytes_of 4 (length es), length-map es tag_of_entry, length_numbers es)

  announced_back : announced (encode es) ≡ length es
  unfolding encode
  announced_back = value_bytes_of 4 (length es) (omega arith)

  sized_back : well_sized (encode es) ≡ true
  sized_back =
      and_from _ _ (le-leb (announced (encode es)) max_entries (omega (arith, announced_back)))
      (eq-eqb (length (encode es)) (file_length (announced (encode es))) (length-encode ∙ ap file_length (sym announced_back)))

  entries_of_back : Fit es → entries_in (take (announced (encode es)) (drop 4 (encode es))) (drop (4 + announced (encode es)) (encode es)) ≡ es
  unfolding encode
  entries_of_back f =
      let t = map tag_of_entry es in
      let m = flat_map number_of_entry es in
      let b = bytes_of 4 (length es) ++ (t ++ m) in
      let size = length-map es tag_of_entry in
      ap (λ (n : ℕ). entries_in (take n (drop 4 b)) (drop (4 + n) b)) announced_back
      ∙ ap (λ (x : List ℕ). entries_in x (drop (4 + length es) b)) (take_at t m (length es) size)
      ∙ ap (λ (x : List ℕ). entries_in t x) (sym (drop-drop (length es) 4 b) ∙ drop_at t m (length es) size)
      ∙ entries_back es f

-- the law of the format
pub reads_back : ReadsBack
unfolding entries_of
reads_back es few f =
    ap (λ (q : Bool). calls_in (cond q (Some (entries_in (take (announced (encode es)) (drop 4 (encode es))) (drop (4 + announced (encode es)) (encode es)))) None)) (sized_back es few)
    ∙ ap calls_of (entries_of_back es few f)

-- the file stands at the front of what was written
pub front_reads_back : (es : List Entry) (out more : List ℕ) (n : ℕ) → length es ≤ max_entries → Fit es → n ≡ file_length (length es) → out ≡ encode es ++ more → contents (take n out) ≡ calls_of es
front_reads_back es out more n few f e q =
    ap (λ (x : List ℕ). contents (take n x)) q ∙ ap contents (take_at (encode es) more n (length-encode es few ∙ sym e)) ∙ reads_back es few f

-- the way of the writer that refuses nothing
pub written_is : (es : List Entry) (out now : List ℕ) (n : ℕ) → length es ≤ max_entries → n ≡ file_length (length es) → n ≤ length out → now ≡ encode es ++ drop n out
    → (now, Ok n) ≡ written es out
written_is es out now n few e room q =
    ap (λ (x : List ℕ). (x, Ok n)) q ∙ ap (λ (k : ℕ). (encode es ++ drop k out, Ok k)) e
    ∙ sym (cond-true (leb (length es) max_entries) _ _ (le-leb (length es) max_entries few)
    ∙ cond-true (leb (file_length (length es)) (length out)) _ _ (le-leb (file_length (length es)) (length out) (omega arith)))
