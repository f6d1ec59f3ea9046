-- `find` over a range, said of the numbers in it.
use Rattle.std.proofs.Common.{◌≡◌, true, false, arith, rules}
use Rattle.std.proofs.lemmas.Iterator.{first_from_Range}
use Rattle.labels.specs.Labels.{digit}
use Rattle.labels.proofs.LabelsKind.pick.Goals as goal

pub returns : goal.returns
returns c =
    let bits = c.args.region.now.bits in
    let first = first_from_Range _ _ _ _ (λ n. digit n bits ≡ true) (λ n. digit n bits ≡ false) c.find.ensures.ran (λ x q k. search rules) (λ x q k. search rules) in
    grind arith
