-- The first entry with an equal question decides.
use Rattle.std.proofs.Common.{rules, refl, tests}
use Rattle.std.proofs.lemmas.Iterator.Search.{find_from_yields_List}
use Rattle.std.proofs.lemmas.Iterator.Consumers.{YieldsList-from_first}
use Rattle.guards.specs.Questions.{same_question}
use Rattle.guards.specs.Listed.{answers_in}
use Rattle.guards.specs.Views.{question_of}
use Rattle.guards.proofs.Listing.{answer_found}
use Rattle.guards.proofs.listed.ListedAnswersHost.ask.Goals as goal

pub returns-clause-answer : goal.returns-clause-answer
returns-clause-answer c =
    let q = question_of c.args.question.now in
    answer_found (λ e. (question_of e.0, e.1)) q (answers_in c.args.self.now.numbers.now) c.find.result c.is_some_and.result _
    (find_from_yields_List (λ a. same_question a.0 q) c.find.new.self _ c.find.result c.find.ensures.ran (YieldsList-from_first (λ e. (question_of e.0, e.1)) (λ s. answers_in s.numbers.now) _ refl) (λ x b q k. search (rules, tests)))
    c.is_some_and.ensures
    (λ x k. search (rules, tests))
