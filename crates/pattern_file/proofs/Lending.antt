-- Writing to the rest of a slice, entry by entry.
use Rattle.std.proofs.Common.{◌≡◌, ℕ, ◌+◌, ◌-◌, ◌*◌, ◌<◌, List, [], ◌∷◌, ◌++◌, map, length, get_or, take, drop, set, ℤ, sym, refl, ap, ◌∙◌, arith}
use borrow.Rule.Slice.PartMut.{put_mid}
use Rattle.std.specs.List.{flat_map}
use Rattle.std.proofs.lemmas.List.{take_rest, take_at, drop_at, take_more, drop_more, drop_all, drop-drop, append-nil, append_assoc, length-append, length-take-le, length-map, set_at, map_more, flat_map_more}
use Rattle.pattern_file.specs.declared.entries.Entry.{Entry}
use Rattle.pattern_file.specs.Bytes.{bytes_of, signed_bytes}
use Rattle.pattern_file.specs.Contents.{tag_of_entry, number_of_entry, encode}
use Rattle.pattern_file.proofs.ByteNumbers.{length_bytes_of}

pub length-signed_bytes : (z : ℤ) → length (signed_bytes z) ≡ 8
unfolding signed_bytes
length-signed_bytes z = refl

pub length_numbers : (es : List Entry) → length (flat_map number_of_entry es) ≡ 8 * length es
length_numbers [] = refl
length_numbers (e ∷ es) = omega (arith, length-append (number_of_entry e) (flat_map number_of_entry es), length_numbers es, length-signed_bytes e.number)

-- a slice that was p and then a rest, of which the first k were lent and are now ys
lent : (out p rest ys : List ℕ) (a k m : ℕ) → out ≡ p ++ rest → length p ≡ a → m ≡ k → put_mid a m out ys ≡ p ++ (ys ++ drop k rest)
lent out p rest ys a k m e h q =
    ap (λ (n : ℕ). put_mid a n out ys) q
    ∙ ap (λ (l : List ℕ). l ++ (ys ++ drop k (drop a out))) (ap (take a) e ∙ take_at p rest a h)
    ∙ ap (λ (l : List ℕ). p ++ (ys ++ drop k l)) (ap (drop a) e ∙ drop_at p rest a h)

-- one entry more
module _ (es : List Entry) (o : List ℕ) (i : ℕ) (d : Entry) (h : i < length es) where
  front : length (take i es) ≡ i
  front = length-take-le i es (omega arith)

  pub tags_more : i < length o → (out : List ℕ) → out ≡ map tag_of_entry (take i es) ++ drop i o → set out i (get_or es i d).tag ≡ map tag_of_entry (take (i + 1) es) ++ drop (i + 1) o
  tags_more k out e =
      let p = map tag_of_entry (take i es) in
      let t = (get_or es i d).tag in
      ap (λ (l : List ℕ). set l i t) (e ∙ ap (λ (l : List ℕ). p ++ l) (drop_more o i 0 k))
      ∙ set_at p (get_or o i 0) (drop (i + 1) o) t i (length-map (take i es) tag_of_entry ∙ front)
      ∙ sym (append_assoc p (t ∷ []) (drop (i + 1) o))
      ∙ ap (λ (l : List ℕ). l ++ drop (i + 1) o) (sym (map_more tag_of_entry es i d h))

  pub numbers_more : (out ys : List ℕ) → out ≡ flat_map number_of_entry (take i es) ++ drop (8 * i) o → ys ≡ number_of_entry (get_or es i d)
      → put_mid (8 * i) (8 * i + 8 - 8 * i) out ys ≡ flat_map number_of_entry (take (i + 1) es) ++ drop (8 * (i + 1)) o
  numbers_more out ys e w =
      let p = flat_map number_of_entry (take i es) in
      let b = number_of_entry (get_or es i d) in
      lent out p (drop (8 * i) o) ys (8 * i) 8 (8 * i + 8 - 8 * i) e (omega (arith, length_numbers (take i es), front)) (omega arith)
      ∙ ap (λ (l : List ℕ). p ++ (l ++ drop 8 (drop (8 * i) o))) w
      ∙ ap (λ (l : List ℕ). p ++ (b ++ l)) (drop-drop 8 (8 * i) o ∙ ap (λ (n : ℕ). drop n o) (omega arith))
      ∙ sym (append_assoc p b (drop (8 * (i + 1)) o))
      ∙ ap (λ (l : List ℕ). l ++ drop (8 * (i + 1)) o) (flat_map_more number_of_entry [] (take i es) (get_or es i d) ∙ sym (ap (flat_map number_of_entry) (take_more es i d h)))

-- a file: its count is written to the front of s, then the rest is lent
pub file_is : (es : List Entry) (s b y : List ℕ) (j : ℕ) → b ≡ bytes_of 4 (length es) → j ≡ 4 + 9 * length es
    → y ≡ map tag_of_entry es ++ (flat_map number_of_entry es ++ drop (9 * length es) (take (length (b ++ drop 4 s) - 4) (drop 4 (b ++ drop 4 s))))
    → put_mid 4 (length (b ++ drop 4 s) - 4) (b ++ drop 4 s) y ≡ encode es ++ drop j s
unfolding encode
file_is es s b y j eb ej ey =
    let n = length es in
    let t = map tag_of_entry es in
    let m = flat_map number_of_entry es in
    let x = b ++ drop 4 s in
    let k = length (drop 4 s) in
    let four : length b ≡ 4 = ap length eb ∙ length_bytes_of 4 n in
    let size : length x - 4 ≡ k = omega (arith, length-append b (drop 4 s)) in
    let part : take (length x - 4) (drop 4 x) ≡ drop 4 s = take_rest x 4 ∙ drop_at b (drop 4 s) 4 four in
    let none : drop k (drop 4 s) ≡ [] = drop_all k (drop 4 s) (omega arith) in
    let past : drop (9 * n) (drop 4 s) ≡ drop j s = drop-drop (9 * n) 4 s ∙ ap (λ (i : ℕ). drop i s) (omega arith) in
    lent x b (drop 4 s) y 4 k (length x - 4) refl four size
    ∙ ap (λ (l : List ℕ). b ++ (y ++ l)) none
    ∙ ap (λ (l : List ℕ). b ++ l) (append-nil y ∙ ey ∙ ap (λ (r : List ℕ). t ++ (m ++ drop (9 * n) r)) part ∙ ap (λ (l : List ℕ). t ++ (m ++ l)) past ∙ sym (append_assoc t m (drop j s)))
    ∙ sym (append_assoc b (t ++ m) (drop j s)) ∙ ap (λ (l : List ℕ). (l ++ (t ++ m)) ++ drop j s) eb
