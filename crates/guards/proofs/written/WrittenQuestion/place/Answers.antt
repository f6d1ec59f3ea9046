-- The place after as many as stand before it.
use Rattle.std.proofs.Common.{ℕ, ap, ◌∙◌}
use Rattle.std.specs.Option.{option_map}
use Rattle.guards.specs.Questions.{read_place}
use Rattle.guards.proofs.Reading.{place_at}
use Rattle.guards.proofs.written.WrittenQuestion.place.Goals as goal

pub returns-in_err-after_places : goal.returns-in_err-after_places
returns-in_err-after_places c =
    let w = c.args.self.now in
    ap (option_map _) c.from_residual.ensures ∙ place_at w.numbers.now c.args.i _ w.whole c.in_err-after_places.ensures.read

pub returns-in_err-place : goal.returns-in_err-place
returns-in_err-place c =
    let w = c.args.self.now in
    let rest = c.in_ok-after_places.field-0 in
    ap (option_map _) c.from_residual-in_err-place.ensures
    ∙ ap (option_map (λ p. p.0)) (c.in_err-place.ensures.read ∙ ap (λ (m : ℕ). read_place m rest.numbers.now) c.in_ok-after_places.ensures.same)
    ∙ place_at w.numbers.now c.args.i _ w.whole c.in_ok-after_places.ensures.read

pub returns : goal.returns
returns c =
    let w = c.args.self.now in
    let rest = c.in_ok-after_places.field-0 in
    ap (option_map (λ p. p.0)) (c.in_ok-place.ensures.read ∙ ap (λ (m : ℕ). read_place m rest.numbers.now) c.in_ok-after_places.ensures.same)
    ∙ place_at w.numbers.now c.args.i _ w.whole c.in_ok-after_places.ensures.read
