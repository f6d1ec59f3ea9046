-- A question of short places is read where only those are.
use Rattle.std.proofs.Common.{◌≡◌, Bool, is_some, Decides, sym, ap, ◌∙◌, subst, arith}
use Rattle.guards.specs.Questions.{Within, read_question, question_in}
use Rattle.guards.proofs.Found.{some_mapped}
use Rattle.guards.proofs.Reading.{short_read}
use Rattle.guards.proofs.written.WrittenQuestion.is_listable.Goals as goal

pub returns : goal.returns
returns c =
    let l = c.args.self.now.numbers.now in
    let told : is_some (read_question 16 l) ≡ c.is_some.result = ap is_some (sym c.question.ensures) ∙ some_mapped _ c.question.result ∙ sym c.is_some.ensures in
    subst (λ (b : Bool). Decides b (Within 16 (question_in l))) told (short_read 16 l (omega arith) c.args.self.now.whole)
