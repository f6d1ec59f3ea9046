-- Numbers as bytes: reading them a byte at a time, and reading back what was written.
use Rattle.std.proofs.Common.{◌≡◌, ℕ, zero, suc, ◌+◌, ◌*◌, ◌/◌, ◌%◌, ◌<◌, ◌≤◌, List, [], ◌∷◌, length, get_or, take, drop, ℤ, Some, None, sym, refl, ap, ◌∙◌, arith, w64, to_z, of_z}
use native.Mathlib.Nat.{div-div-eq-div-mul, mod-add-div}
use borrow.Author.Gap.{read_sfits}
use Rattle.std.proofs.lemmas.List.{drop-drop, get_or-drop, take-take}
use Rattle.std.proofs.lemmas.Int.{to_z-of_z}
use Rattle.std.proofs.lemmas.Option.{slice_get-map, slice_get_past, slice_get_read}
use Rattle.std.specs.List.{slice_get}
use Rattle.std.specs.Option.{option_map}
use Rattle.pattern_file.specs.Bytes.{value_of, bytes_of, signed_at, signed_number, signed_numbers}

-- the first byte counts once, and the others 256 times; what is missing counts nothing
front_byte : (n : ℕ) (b : List ℕ) → value_of (take (suc n) b) ≡ get_or b 0 0 + 256 * value_of (take n (drop 1 b))
front_byte n (x ∷ b) = refl
front_byte zero [] = refl
front_byte (suc n) [] = refl

value_more : (n : ℕ) (b : List ℕ) (i j : ℕ) → j ≡ i + 1 → value_of (take (suc n) (drop i b)) ≡ get_or b i 0 + 256 * value_of (take n (drop j b))
value_more n b i j e =
    front_byte n (drop i b)
    ∙ ap (λ (x : ℕ). x + 256 * value_of (take n (drop 1 (drop i b)))) (get_or-drop i b 0 0 ∙ ap (λ (k : ℕ). get_or b k 0) (omega arith))
    ∙ ap (λ (xs : List ℕ). get_or b i 0 + 256 * value_of (take n xs)) (drop-drop 1 i b ∙ ap (λ (k : ℕ). drop k b) (sym e))

-- eight bytes, as the library reads them
value8 : (b : List ℕ)
    → value_of (take 8 b) ≡ get_or b 0 0 + get_or b 1 0 * 256 + get_or b 2 0 * 65536 + get_or b 3 0 * 16777216 + get_or b 4 0 * 4294967296 + get_or b 5 0 * 1099511627776 + get_or b 6 0 * 281474976710656 + get_or b 7 0 * 72057594037927936
value8 b =
    let v0 = value_more 7 b 0 1 refl in
    let v1 = value_more 6 b 1 2 refl in
    let v2 = value_more 5 b 2 3 refl in
    let v3 = value_more 4 b 3 4 refl in
    let v4 = value_more 3 b 4 5 refl in
    let v5 = value_more 2 b 5 6 refl in
    let v6 = value_more 1 b 6 7 refl in
    let v7 = value_more 0 b 7 8 refl in
    omega arith

-- a number that was read of eight bytes, as it leaves the function that read it
pub number_read : (b : List ℕ) (z : ℤ)
    → z ≡ to_z w64 (get_or b 0 0 + get_or b 1 0 * 256 + get_or b 2 0 * 65536 + get_or b 3 0 * 16777216 + get_or b 4 0 * 4294967296 + get_or b 5 0 * 1099511627776 + get_or b 6 0 * 281474976710656 + get_or b 7 0 * 72057594037927936)
    → to_z w64 (of_z w64 z) ≡ signed_number b
unfolding signed_at
number_read b z e =
    ap (λ (y : ℤ). to_z w64 (of_z w64 y)) (e ∙ ap (to_z w64) (sym (value8 b)))
    ∙ to_z-of_z w64 _ (read_sfits w64 (value_of (take 8 b)))

-- the number of a piece, where there is one
pub nth_number : (pieces : List (List ℕ)) (i : ℕ) (b : List ℕ) → i < length pieces → b ≡ get_or pieces i b → Some (signed_number b) ≡ slice_get (signed_numbers pieces) i
nth_number pieces i b h e = sym (slice_get-map signed_number pieces i ∙ ap (option_map signed_number) (slice_get_read pieces (length pieces) i b refl h e))

pub no_number : (pieces : List (List ℕ)) (i : ℕ) → length pieces ≤ i → None ≡ slice_get (signed_numbers pieces) i
no_number pieces i h = sym (slice_get-map signed_number pieces i ∙ ap (option_map signed_number) (slice_get_past pieces i h))

-- past the first bytes
pub signed_at-take : (b : List ℕ) (m : ℕ) → 8 ≤ m → signed_at (take m b) 0 ≡ signed_at b 0
unfolding signed_at
signed_at-take b m h = ap (λ (xs : List ℕ). to_z w64 (value_of xs)) (take-take 8 m b h)

-- the bytes of a number, as the library writes them
pub bytes4 : (n : ℕ) → bytes_of 4 n ≡ n % 256 ∷ (n / 256 % 256 ∷ (n / 65536 % 256 ∷ (n / 16777216 % 256 ∷ [])))
bytes4 n = simp div-div-eq-div-mul

pub bytes8 : (n : ℕ) → bytes_of 8 n ≡ n % 256 ∷ (n / 256 % 256 ∷ (n / 65536 % 256 ∷ (n / 16777216 % 256 ∷ (n / 4294967296 % 256 ∷ (n / 1099511627776 % 256 ∷ (n / 281474976710656 % 256 ∷ (n / 72057594037927936 % 256 ∷ [])))))))
bytes8 n = simp div-div-eq-div-mul

pub length_bytes_of : (k n : ℕ) → length (bytes_of k n) ≡ k
length_bytes_of zero n = refl
length_bytes_of (suc k) n = ap suc (length_bytes_of k (n / 256))

-- how many numbers k bytes write
abbrev pub capacity : ℕ → ℕ
capacity zero = 1
capacity (suc k) = 256 * capacity k

pub value_bytes_of : (k n : ℕ) → n < capacity k → value_of (bytes_of k n) ≡ n
value_bytes_of zero n h = omega arith
value_bytes_of (suc k) n h =
    let below : n / 256 < capacity k = omega arith in
    let rest = value_bytes_of k (n / 256) below in
    omega (arith, mod-add-div n 256)
