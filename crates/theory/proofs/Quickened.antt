-- What makes exploring quick holds.
use Rattle.measure.specs.Measure.{Measure}
use Rattle.rules.specs.Book.{Schema}
use Rattle.theory.specs.Verdicts.{Knowing}
use Rattle.theory.specs.Quick.{Resuming, QuickHolds}
use Rattle.theory.proofs.Careful.{careful}
use Rattle.theory.proofs.Judging.{knowing}
use Rattle.theory.proofs.Resumed.{resume_first, resume_second, resume_ahead}
use Rattle.theory.proofs.Branched.{Branching-holds}
use Rattle.theory.proofs.Skipped.{Skipping-holds}
use Rattle.theory.proofs.Remembered.{Remembering-holds}
use Rattle.theory.proofs.Kept.{More-self}

Resuming-holds : (m : Measure) (d : Schema) → Knowing m d → Resuming m d
Resuming-holds m d know = record {
  first_run = resume_first m d;
  second_run = λ k. resume_second m d k k (More-self m d k);
  ahead = λ k first second ok p. resume_ahead m d know k first second k (More-self m d k) ok (careful m d first k p);
}

pub quick : QuickHolds
quick m d lawful =
    let know : Knowing m d = knowing m d lawful in
    record { resuming = Resuming-holds m d know; branching = Branching-holds m d know; skips = Skipping-holds m d know; remembering = Remembering-holds m d know }
