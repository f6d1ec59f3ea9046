-- What the views of written numbers mean.
use Rattle.guards.specs.Questions.{Steps, Question, question_in, steps_in}
use Rattle.guards.specs.declared.written.WrittenQuestion.{WrittenQuestion}
use Rattle.guards.specs.declared.written.WrittenPlace.{WrittenPlace}

-- the question that a view means
abbrev pub question_of : WrittenQuestion → Question
question_of w = question_in w.numbers.now

-- the place that a view means
abbrev pub place_of : WrittenPlace → Steps
place_of p = steps_in p.numbers.now
