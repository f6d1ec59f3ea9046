-- Lists that begin with another one, and what their numbers name; grounds of which none applies.
use Rattle.std.proofs.Common.{◌≡◌, ℕ, zero, suc, ◌+◌, ◌<◌, ◌≤◌, Bool, true, false, cond, not, List, [], ◌∷◌, ◌++◌, map, length, get_or, take, drop, ℤ, pos, negsuc, is_some, Some, None, Option, sym, refl, ap, ◌∙◌, subst, arith}
use Rattle.std.specs.List.{AllByRecursion, slice_get}
use Rattle.std.proofs.lemmas.Bool.{true≢false, or_parts, or_from}
use Rattle.rules.specs.declared.refusal.Refusal.{Refusal}
use Rattle.rules.specs.Tables.{unfolded, natural, naturals, up_to_four, named}
use Rattle.rules.specs.Grounds.{Ground, first_ground, unknown, any_unknown}
use Rattle.std.proofs.lemmas.Option.{none-some, slice_get-get_or}
use Rattle.std.proofs.lemmas.List.{length_push, length-drop, take_all, drop-append-le, take-append-le}

-- ── what holds of each of a list ──

module _ {A : Type 0} (P : A → Type 0) where
  pub AllByRecursion-slice_get : (xs : List A) (n : ℕ) (x : A) → AllByRecursion P xs → slice_get xs n ≡ Some x → P x
  AllByRecursion-slice_get [] n x a h = absurd (none-some x h)
  AllByRecursion-slice_get (y ∷ xs) zero x a h = let e : y ≡ x = cc in subst P e a.0
  AllByRecursion-slice_get (y ∷ xs) (suc n) x a h = AllByRecursion-slice_get xs n x a.1 h

  pub AllByRecursion-get_or : (xs : List A) (n : ℕ) (d : A) → n < length xs → AllByRecursion P xs → P (get_or xs n d)
  AllByRecursion-get_or xs n d l a = AllByRecursion-slice_get xs n (get_or xs n d) a (slice_get-get_or xs n d l)

  pub AllByRecursion-append : (xs ys : List A) → AllByRecursion P xs → AllByRecursion P ys → AllByRecursion P (xs ++ ys)
  AllByRecursion-append [] ys a b = b
  AllByRecursion-append (x ∷ xs) ys a b = (a.0, AllByRecursion-append xs ys a.1 b)

  pub AllByRecursion-push : (xs : List A) (x : A) → AllByRecursion P xs → P x → AllByRecursion P (xs ++ x ∷ [])
  AllByRecursion-push xs x a p = AllByRecursion-append xs (x ∷ []) a (p, tt)

  pub AllByRecursion-weaker : (Q : A → Type 0) → ((x : A) → P x → Q x) → (xs : List A) → AllByRecursion P xs → AllByRecursion Q xs
  AllByRecursion-weaker Q f [] a = tt
  AllByRecursion-weaker Q f (x ∷ xs) a = (f x a.0, AllByRecursion-weaker Q f xs a.1)

-- a part of a list stays where the list grows
pub take-drop-append : {A : Type 0} (xs ys : List A) (first count : ℕ) → first + count ≤ length xs → take count (drop first (xs ++ ys)) ≡ take count (drop first xs)
take-drop-append xs ys first count h =
    let l = length-drop first xs in
    ap (take count) (drop-append-le first xs ys (omega arith)) ∙ take-append-le count (drop first xs) ys (omega arith)

-- ── grounds ──

-- no ground applies
abbrev pub Clear : List Ground → Type 0
Clear [] = Unit {0}
Clear (g ∷ gs) = (g.applies ≡ false) × Clear gs

clear_first : (applies : Bool) (r : Refusal) (o : Option Refusal) → cond applies (Some r) o ≡ None → (applies ≡ false) × (o ≡ None)
clear_first true r o h = absurd (none-some r (sym h))
clear_first false r o h = (refl, h)

pub Clear-from_none : (gs : List Ground) → first_ground gs ≡ None → Clear gs
Clear-from_none [] h = tt
Clear-from_none (g ∷ gs) h = let c = clear_first g.applies g.refusal (first_ground gs) h in (c.0, Clear-from_none gs c.1)

pub none_from_Clear : (gs : List Ground) → Clear gs → first_ground gs ≡ None
none_from_Clear [] c = refl
none_from_Clear (g ∷ gs) c = ap (λ a. cond a (Some g.refusal) (first_ground gs)) c.0 ∙ none_from_Clear gs c.1

module _ {A : Type 0} where
  -- the second list begins with the first
  abbrev pub Begins : List A → List A → Type 0
  Begins [] ys = Unit {0}
  Begins (x ∷ xs) [] = ⊥
  Begins (x ∷ xs) (y ∷ ys) = (x ≡ y) × Begins xs ys

  pub Begins-itself : (xs : List A) → Begins xs xs
  Begins-itself [] = tt
  Begins-itself (x ∷ xs) = (refl, Begins-itself xs)

  pub Begins-append : (xs ys : List A) → Begins xs (xs ++ ys)
  Begins-append [] ys = tt
  Begins-append (x ∷ xs) ys = (refl, Begins-append xs ys)

  pub slice_get-Begins : (xs ys : List A) (n : ℕ) (x : A) → Begins xs ys → slice_get xs n ≡ Some x → slice_get ys n ≡ Some x
  slice_get-Begins [] ys n x b h = absurd (none-some x h)
  slice_get-Begins (z ∷ xs) [] n x b h = absurd b
  slice_get-Begins (z ∷ xs) (y ∷ ys) zero x b h = ap Some (sym b.0) ∙ h
  slice_get-Begins (z ∷ xs) (y ∷ ys) (suc n) x b h = slice_get-Begins xs ys n x b.1 h

  -- ── what a signed number names ──

  some_from_known : (o : Option A) → not (is_some o) ≡ false → (x : A) × (o ≡ Some x)
  some_from_known None h = absurd (true≢false h)
  some_from_known (Some x) h = (x, refl)

  pub known : (xs : List A) (z : ℤ) → unknown xs z ≡ false → (x : A) × (named xs z ≡ Some x)
  known xs z h = some_from_known (named xs z) h

  pub natural_known : (xs : List A) (z : ℤ) → unknown xs z ≡ false → pos (natural z) ≡ z
  natural_known xs (pos n) h = refl
  natural_known xs (negsuc n) h = absurd (true≢false h)

  pub naturals_known : (xs : List A) (zs : List ℤ) → any_unknown xs zs ≡ false → map pos (naturals zs) ≡ zs
  naturals_known xs [] h = refl
  naturals_known xs (z ∷ zs) h =
      let p = or_parts (unknown xs z) (any_unknown xs zs) h in
      ap (λ x. x ∷ map pos (naturals zs)) (natural_known xs z p.0) ∙ ap (λ l. z ∷ l) (naturals_known xs zs p.1)

  pub named-Begins : (xs ys : List A) (z : ℤ) (x : A) → Begins xs ys → named xs z ≡ Some x → named ys z ≡ Some x
  named-Begins xs ys (pos n) x b h = slice_get-Begins xs ys n x b h
  named-Begins xs ys (negsuc n) x b h = h

  pub named_same : (xs ys : List A) (z : ℤ) → Begins xs ys → unknown xs z ≡ false → named ys z ≡ named xs z
  named_same xs ys z b h = let k = known xs z h in named-Begins xs ys z k.0 b k.1 ∙ sym k.1

  pub unknown-Begins : (xs ys : List A) (z : ℤ) → Begins xs ys → unknown xs z ≡ false → unknown ys z ≡ false
  unknown-Begins xs ys z b h = ap (λ o. not (is_some o)) (named_same xs ys z b h) ∙ h

  pub any_unknown-Begins : (xs ys : List A) (zs : List ℤ) → Begins xs ys → any_unknown xs zs ≡ false → any_unknown ys zs ≡ false
  any_unknown-Begins xs ys [] b h = refl
  any_unknown-Begins xs ys (z ∷ zs) b h =
      let p = or_parts (unknown xs z) (any_unknown xs zs) h in
      or_from (unknown ys z) (any_unknown ys zs) (unknown-Begins xs ys z b p.0) (any_unknown-Begins xs ys zs b p.1)

-- ── tables ──

pub unfolded-push : {R A : Type 0} (make : List A → R → A) (before : List A) (rows : List R) (r : R) → unfolded make before (rows ++ r ∷ []) ≡ unfolded make before rows ++ make (unfolded make before rows) r ∷ []
unfolded-push make before [] r = refl
unfolded-push make before (x ∷ rows) r = unfolded-push make (before ++ make before x ∷ []) rows r

pub length-unfolded : {R A : Type 0} (make : List A → R → A) (before : List A) (rows : List R) → length (unfolded make before rows) ≡ length before + length rows
length-unfolded make before [] = omega arith
length-unfolded make before (r ∷ rows) =
    let e = length_push before (make before r) in
    let i = length-unfolded make (before ++ make before r ∷ []) rows in
    omega arith

pub length-naturals : (zs : List ℤ) → length (naturals zs) ≡ length zs
length-naturals [] = refl
length-naturals (z ∷ zs) = ap suc (length-naturals zs)

pub up_to_four_all : (l : List ℕ) → length l ≤ 4 → up_to_four l ≡ l
up_to_four_all l h = take_all 4 l h

-- up to four known numbers come back from a row
pub numbers_known : {A : Type 0} (xs : List A) (zs : List ℤ) → length zs ≤ 4 → any_unknown xs zs ≡ false → map pos (up_to_four (naturals zs)) ≡ zs
numbers_known xs zs l h =
    let e = length-naturals zs in
    ap (map pos) (up_to_four_all (naturals zs) (omega arith)) ∙ naturals_known xs zs h
