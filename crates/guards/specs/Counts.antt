-- What a counting host holds.
use Rattle.std.specs.Prelude.{◌≡◌, ℕ, ◌+◌, min, List, [], ◌∷◌, ◌++◌, refl}
use Rattle.std.proofs.Common.{ap, ◌∙◌}
use Rattle.guards.specs.Hosts.{Asked, Moves}
use Rattle.guards.specs.declared.counting.Counting.{Counting}

-- a count after some questions: one more for each, up to the largest number of 32 bits
abbrev pub counted : ℕ → List Asked → ℕ
counted n [] = n
counted n (a ∷ l) = counted (min (n + 1) 4294967295) l

counted-++ : (n : ℕ) (xs ys : List Asked) → counted (counted n xs) ys ≡ counted n (xs ++ ys)
counted-++ n [] ys = refl
counted-++ n (x ∷ xs) ys = counted-++ (min (n + 1) 4294967295) xs ys

-- the questions are counted, and the host below has moved by them
abbrev pub CountingMoved : {H : Type 0} → (H → List Asked → H → Type 0) → Counting H → List Asked → Counting H → Type 0
CountingMoved moved a xs b = (b.asked ≡ counted a.asked xs) × moved a.host xs b.host

pub CountingMoved-Moves : {H : Type 0} (moved : H → List Asked → H → Type 0) → Moves moved → Moves (CountingMoved moved)
CountingMoved-Moves moved m = record {
  still = λ a. (refl, m.still a.host);
  further = λ a b c xs ys p q. (q.0 ∙ ap (λ (n : ℕ). counted n ys) p.0 ∙ counted-++ a.asked xs ys, m.further a.host b.host c.host xs ys p.1 q.1);
}
