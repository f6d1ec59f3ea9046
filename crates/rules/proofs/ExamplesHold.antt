-- The worked examples, one by one; what only has to be computed is computed here.
use Rattle.std.proofs.Common.{refl}
use Rattle.rules.specs.Examples.{Examples}
use Rattle.rules.proofs.WellTyped.{Alike-by_values}
use Rattle.rules.proofs.ExamplesSample as sample
use Rattle.rules.proofs.ExamplesEmpty as empty
use Rattle.rules.proofs.ExamplesPair as pair
use Rattle.rules.proofs.ExamplesSmall as small

pub examples_hold : Examples
examples_hold = record {
  sample_read = refl;
  sample_same = sample.sample_same;
  sample_apart = sample.sample_apart;
  sample_garment = (refl, refl);
  mended_read = refl;
  mended_Alike = sample.mended_Alike;
  no_constructor = empty.no_constructor;
  only_itself = empty.only_itself;
  no_garment = λ m b h. Alike-by_values m b (λ v rule typed. absurd (h v typed));
  pair_read = refl;
  next_clause = pair.next_clause;
  never_other_side = pair.never_other_side;
  once_read = refl;
  once_Alike = pair.once_Alike;
  again_read = refl;
  again_differs = pair.again_differs;
  no_length = small.no_length;
  no_length_turned = small.no_length_turned;
  other_field = λ m action i vs rule. refl;
  asked_twice = small.asked_twice;
  most_length = (refl, refl);
  too_short = (refl, refl);
  all_labels = (refl, refl);
  no_labels = (refl, refl);
  sixteen_steps = λ m. (refl, refl);
  seventeen_steps = λ m. refl;
  weight_256 = λ m. (refl, refl);
  weight_257 = λ m. refl;
  clauses_256 = λ m. refl;
  clauses_257 = λ m. refl;
  types_32 = λ m. refl;
  types_33 = λ m. refl;
  branch_read = λ m. refl;
  branch_Alike = empty.branch_Alike;
  exceeds_limit = refl;
  equals_limit = refl;
  not_wrapped = refl;
  other_guard = refl;
  one_place = refl;
  no_atom = refl;
  list_written = refl;
  none_written = (refl, refl);
  rising_variables = refl;
  fail_and_never = λ m v rule. (refl, refl);
  none_same = tt;
  lost_apart = small.lost_apart;
  acting_apart = λ action ps. (λ h. h, λ h. h);
  sixteen_levels = λ m. refl;
  seventeen_levels = λ m. refl;
  stops_at_named_twice = λ m. refl;
  pass_spent = λ b n o. (refl, refl);
  pass_out = λ b w e n. refl;
  unknown_tag = λ m. refl;
  left_over = λ m. refl;
  calls_stand = λ m. refl;
}
