-- The step that the numbers say there.
use Rattle.std.proofs.Common.{sym, refl, ap, ◌∙◌}
use Rattle.std.proofs.lemmas.Option.{slice_get_past, slice_get_read}
use Rattle.std.specs.Option.{option_map}
use Rattle.guards.proofs.Pairs.{pair_step, nth_pair}
use Rattle.guards.proofs.written.WrittenPlace.step.Goals as goal

pub returns-in_err-constructor : goal.returns-in_err-constructor
returns-in_err-constructor c =
    let pairs = c.as_chunks.result.0.now in
    c.from_residual.ensures ∙ ap (option_map pair_step) (sym (slice_get_past pairs c.args.i c.in_err-constructor.ensures.lookup.3)) ∙ nth_pair _ pairs c.args.i c.as_chunks.ensures.front

pub returns : goal.returns
returns c =
    let pairs = c.as_chunks.result.0.now in
    let here = c.in_ok-constructor.ensures.lookup in
    ap (option_map pair_step) (sym (slice_get_read pairs _ c.args.i c.in_ok-constructor.field-0.now refl here.3.0 here.1)) ∙ nth_pair _ pairs c.args.i c.as_chunks.ensures.front
