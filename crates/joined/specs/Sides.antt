-- Two lawful measures are a lawful one together.
use Rattle.std.specs.Prelude.{◌≡◌, ℕ, ◌/◌, ◌%◌, ◌<◌, true, false, ◌==◌, nat_lt}
use Rattle.std.proofs.Common.{arith}
use Rattle.std.proofs.lemmas.Bool.{and_parts, cond_both, lt-ltb, ltb-true}
use Rattle.measure.specs.Measure.{Measure, Lawful}
use Rattle.joined.specs.Joined.{side, joined}

module _ {a b : Measure} (first : Lawful a) (second : Lawful b) where
  side-Lawful : (s : ℕ) → Lawful (side a b s)
  side-Lawful s = cond_both (s % 2 == 0) a b Lawful (λ _. first) (λ _. second)

  served : (s : ℕ) → (joined a b).serves s ≡ true → (nat_lt s 65536 ≡ true) × ((side a b s).serves (s / 2) ≡ true)
  served s h = and_parts (nat_lt s 65536) ((side a b s).serves (s / 2)) h

  unserved : (s : ℕ) → s < 65536 → (joined a b).serves s ≡ false → (side a b s).serves (s / 2) ≡ false
  unserved s l h = rw (lt-ltb s 65536 l) at h

  pub joined-Lawful : Lawful (joined a b)
  joined-Lawful = record {
    sorts = λ s h. ltb-true s 65536 (served s h).0;
    some_atom = λ s h. (side-Lawful s).some_atom (s / 2) (served s h).1;
    no_atom = λ s n l h. (side-Lawful s).no_atom (s / 2) n (omega arith) (unserved s l h);
    no_test = λ s t l h. (side-Lawful s).no_test (s / 2) t (omega arith) (unserved s l h);
    passes_test = λ s. (side-Lawful s).passes_test (s / 2);
    passes_atom = λ s. (side-Lawful s).passes_atom (s / 2);
    atom_fits = λ s. (side-Lawful s).atom_fits (s / 2);
    test_fits = λ s. (side-Lawful s).test_fits (s / 2);
  }
