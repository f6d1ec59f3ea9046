-- Numbers below a bound: the first that passes a test, whether none does, and how many do.
use Rattle.std.proofs.Common.{◌≡◌, ℕ, zero, suc, ◌+◌, ◌<◌, ◌≤◌, Bool, true, false, not, ◌&&◌, Some, None, Option, sym, refl, ap, ◌∙◌, subst, not-suc-le-zero, arith}
use Rattle.std.proofs.Math.Decide.{ℕ_discrete}
use Rattle.std.proofs.lemmas.Bool.{true≢false, false≢true, and_parts, and_from, not-true, not_from_false}
use Rattle.theory.specs.Inhabited.{or_also, first_below}
use Rattle.theory.specs.Knowledge.{none_below}
use Rattle.std.proofs.lemmas.Option.{none-some, same_Some}

-- ── the first ──

pub first_passes : (n : ℕ) (test : ℕ → Bool) (c : ℕ) → first_below n test ≡ Some c → (c < n) × (test c ≡ true)
first_passes zero test c e = absurd (none-some c e)
first_passes (suc n) test c e = go (first_below n test) (test n) refl refl e (first_passes n test c)
  where
    go : (o : Option ℕ) (b : Bool) → first_below n test ≡ o → test n ≡ b → or_also o b n ≡ Some c
        → (first_below n test ≡ Some c → (c < n) × (test c ≡ true)) → (c < suc n) × (test c ≡ true)
    go (Some k) b eo eb h rest = let r = rest (eo ∙ h) in let l : c < n = r.0 in (omega arith, r.1)
    go None true eo eb h rest = let same : n ≡ c = same_Some n c h in (omega arith, subst (λ x. test x ≡ true) same eb)
    go None false eo eb h rest = absurd (none-some c h)

pub first_none : (n : ℕ) (test : ℕ → Bool) → first_below n test ≡ None → (c : ℕ) → c < n → test c ≡ true → ⊥
first_none zero test e c l h = not-suc-le-zero l
first_none (suc n) test e c l h = go (first_below n test) (test n) refl refl e (λ f k. first_none n test f c k h)
  where
    go : (o : Option ℕ) (b : Bool) → first_below n test ≡ o → test n ≡ b → or_also o b n ≡ None
        → (first_below n test ≡ None → c < n → ⊥) → ⊥
    go (Some k) b eo eb f rest = none-some k (sym f)
    go None true eo eb f rest = none-some n (sym f)
    go None false eo eb f rest = step (ℕ_discrete c n)
      where
        step : Dec (c ≡ n) → ⊥
        step (yes same) = false≢true (sym eb ∙ ap test (sym same) ∙ h)
        step (no other) = rest eo (omega arith)

-- ── none ──

pub none_passes : (n : ℕ) (test : ℕ → Bool) → none_below n test ≡ true → (c : ℕ) → c < n → test c ≡ true → ⊥
none_passes zero test e c l h = not-suc-le-zero l
none_passes (suc n) test e c l h =
    let two = and_parts (not (test n)) (none_below n test) e in
    step (ℕ_discrete c n) (not-true (test n) two.0) (λ k. none_passes n test two.1 c k h)
  where
    step : Dec (c ≡ n) → test n ≡ false → (c < n → ⊥) → ⊥
    step (yes same) f rest = false≢true (sym f ∙ ap test (sym same) ∙ h)
    step (no other) f rest = rest (omega arith)

pub none_from : (n : ℕ) (test : ℕ → Bool) → ((c : ℕ) → test c ≡ false) → none_below n test ≡ true
none_from zero test f = refl
none_from (suc n) test f = and_from (not (test n)) (none_below n test) (not_from_false (test n) (f n)) (none_from n test f)

pub some_passes : (n : ℕ) (test : ℕ → Bool) → none_below n test ≡ false → (c : ℕ) × (test c ≡ true)
some_passes zero test e = absurd (true≢false e)
some_passes (suc n) test e = go (test n) refl e (some_passes n test)
  where
    go : (b : Bool) → test n ≡ b → (not b && none_below n test) ≡ false → (none_below n test ≡ false → (c : ℕ) × (test c ≡ true)) → (c : ℕ) × (test c ≡ true)
    go true eb f rest = (n, eb)
    go false eb f rest = rest f

-- ── how many ──

abbrev pub one : Bool → ℕ
one true = 1
one false = 0

abbrev pub count : ℕ → (ℕ → Bool) → ℕ
count zero test = 0
count (suc n) test = count n test + one (test n)

one_more : (a b : Bool) → (a ≡ true → b ≡ true) → one a ≤ one b
one_more true true h = omega arith
one_more true false h = absurd (false≢true (h refl))
one_more false b h = omega arith

count_more : (n : ℕ) (test wider : ℕ → Bool) → ((c : ℕ) → test c ≡ true → wider c ≡ true) → count n test ≤ count n wider
count_more zero test wider h = omega arith
count_more (suc n) test wider h = omega (arith, count_more n test wider h, one_more (test n) (wider n) (h n))

one_less : (a b : Bool) → a ≡ false → b ≡ true → one a < one b
one_less true b e f = absurd (true≢false e)
one_less false true e f = omega arith
one_less false false e f = absurd (false≢true f)

pub count_less : (n : ℕ) (test wider : ℕ → Bool) → ((c : ℕ) → test c ≡ true → wider c ≡ true)
    → (k : ℕ) → k < n → test k ≡ false → wider k ≡ true → count n test < count n wider
count_less zero test wider h k l e f = absurd (not-suc-le-zero l)
count_less (suc n) test wider h k l e f = go (ℕ_discrete k n) (λ z. count_less n test wider h k z e f)
  where
    go : Dec (k ≡ n) → (k < n → count n test < count n wider) → count (suc n) test < count (suc n) wider
    go (yes same) rest = omega (arith, count_more n test wider h, one_less (test n) (wider n) (ap test (sym same) ∙ e) (ap wider (sym same) ∙ f))
    go (no other) rest = let z : k < n = omega arith in omega (arith, rest z, one_more (test n) (wider n) (h n))

one_most : (b : Bool) → one b ≤ 1
one_most true = omega arith
one_most false = omega arith

pub count_most : (n : ℕ) (test : ℕ → Bool) → count n test ≤ n
count_most zero test = omega arith
count_most (suc n) test = omega (arith, count_most n test, one_most (test n))

pub count_none : (n : ℕ) (test : ℕ → Bool) → count n test ≤ 0 → (c : ℕ) → c < n → test c ≡ true → ⊥
count_none n test h c l e =
    let never : ℕ → Bool = λ k. false in
    let z : count n never < count n test = count_less n never test (λ k f. absurd (false≢true f)) c l refl e in
    omega arith

-- one number alone
pub count_here : (n : ℕ) (test : ℕ → Bool) (k : ℕ) → k ≤ count n test → test n ≡ true → k + 1 ≤ count (suc n) test
count_here n test k h e = let here : one (test n) ≡ 1 = ap one e in omega arith
