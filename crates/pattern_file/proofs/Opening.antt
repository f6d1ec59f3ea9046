-- A file that is opened is still to be read from its first entry on.
use Rattle.std.proofs.Common.{◌≡◌, ℕ, zero, suc, ◌+◌, ◌-◌, ◌/◌, Bool, true, false, cond, List, [], ◌∷◌, length, nat_le, ◌==◌, take, drop, ℤ, Some, None, Ok, Err, sym, refl, ap, ◌∙◌, arith}
use Rattle.std.proofs.lemmas.Bool.{and_parts, eqb-true}
use Rattle.std.proofs.lemmas.List.{length-drop, length-take, take_rest}
use Rattle.std.specs.Simd.{first_chunks}
use Rattle.pattern_file.specs.declared.entries.Entry.{Entry}
use Rattle.pattern_file.specs.declared.faults.FormatFault.{FormatFault}
use Rattle.pattern_file.specs.declared.faults.FormatFault.TheVariants.{Length}
use Rattle.pattern_file.specs.Bytes.{signed_number}
use Rattle.pattern_file.specs.Contents.{calls_in, calls_of, stopped, contents, entries_of, entries_in, announced, well_sized, file_length, max_entries}
use Rattle.pattern_file.specs.Readers.{entries_with, rest_at}
use Rattle.pattern_file.proofs.ByteNumbers.{signed_at-take}

-- the two ways of a test
sized : (q : Bool) (n m : ℕ) (es : List Entry) → Ok n ≡ cond q (Ok m) (Err Length) → (q ≡ true) × ((n ≡ m) × (calls_in (cond q (Some es) None) ≡ calls_of es))
sized true n m es e = (refl, (cc, refl))
sized false n m es e = cc

refused : (q : Bool) (f : FormatFault) (m : ℕ) (es : List Entry) → Err f ≡ cond q (Ok m) (Err Length) → calls_in (cond q (Some es) None) ≡ stopped 0 f
refused true f m es e = cc
refused false f m es e = cc

-- the numbers in pieces of eight bytes make the same entries
in_pieces : (t : List ℕ) (k : ℕ) (b : List ℕ) → length t ≡ k → entries_with t (first_chunks 8 k b) ≡ entries_in t b
in_pieces [] k b h = refl
in_pieces (x ∷ t) zero b h = absurd (omega arith)
in_pieces (x ∷ t) (suc k) b h =
    ap (λ (z : ℤ). record { tag = x; number = z } ∷ entries_with t (first_chunks 8 k (drop 8 b))) (signed_at-take b 8 (omega arith))
    ∙ ap (λ (es : List Entry). record { tag = x; number = signed_number b } ∷ es) (in_pieces t k (drop 8 b) (omega arith))

pub opened_file : (b : List ℕ) (n : ℕ) → Ok n ≡ cond (well_sized b) (Ok (announced b)) (Err Length)
    → (numbers : List (List ℕ)) → numbers ≡ first_chunks 8 (length (take (length b - (4 + n)) (drop (4 + n) b)) / 8) (take (length b - (4 + n)) (drop (4 + n) b))
    → rest_at (take (4 + n - 4) (drop 4 b)) numbers 0 ≡ contents b
unfolding rest_at entries_of
opened_file b n e numbers pieces =
    let m = announced b in
    let tags = take (4 + n - 4) (drop 4 b) in
    let rest = take (length b - (4 + n)) (drop (4 + n) b) in
    let both = sized (well_sized b) n m (entries_in (take m (drop 4 b)) (drop (4 + m) b)) e in
    let long : length b ≡ file_length m = eqb-true (length b) (file_length m) (and_parts (nat_le m max_entries) (length b == file_length m) both.0).1 in
    let many : length tags ≡ length rest / 8 = omega (arith, length-take (4 + n - 4) (drop 4 b), length-drop 4 b, length-take (length b - (4 + n)) (drop (4 + n) b), length-drop (4 + n) b) in
    let count : 4 + n - 4 ≡ m = omega arith in
    ap (λ (ns : List (List ℕ)). calls_of (entries_with tags ns)) pieces
    ∙ ap calls_of (in_pieces tags (length rest / 8) rest many)
    ∙ ap (λ (k : ℕ). calls_of (entries_in (take k (drop 4 b)) rest)) count
    ∙ ap (λ (xs : List ℕ). calls_of (entries_in (take m (drop 4 b)) xs)) (take_rest b (4 + n) ∙ ap (λ (k : ℕ). drop (4 + k) b) both.1.0)
    ∙ sym both.1.1

pub refused_file : (b : List ℕ) (f : FormatFault) → Err f ≡ cond (well_sized b) (Ok (announced b)) (Err Length) → stopped 0 f ≡ contents b
unfolding entries_of
refused_file b f e = sym (refused (well_sized b) f (announced b) (entries_in (take (announced b) (drop 4 b)) (drop (4 + announced b) b)) e)
