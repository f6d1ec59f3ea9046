-- One entry a turn.
use Rattle.std.proofs.Common.{◌≡◌, get_or, ℤ, pos, sym, ap, ◌∙◌, arith, w64, SFits, rules}
use Rattle.std.proofs.lemmas.List.Elements.{All-more}
use Rattle.std.proofs.lemmas.Int.{to_z-of_z}
use Rattle.pattern_file.specs.declared.entries.Entry.{Entry}
use Rattle.pattern_file.specs.Bytes.{signed_bytes}
use Rattle.pattern_file.proofs.ByteNumbers.{bytes8}
use Rattle.pattern_file.proofs.Lending.{tags_more, numbers_more}
use Rattle.pattern_file.proofs.writing.put_entries.Goals as goal

pub loop-i-preserved : goal.loop-i-preserved
unfolding signed_bytes
loop-i-preserved c =
    let es = c.args.entries.now in
    let i = c.loop-i.i in
    let none : Entry = record { tag = 0; number = pos 0 } in
    let z : ℤ = (get_or es i none).number in
    let fits : SFits w64 z = search rules in
    let bytes : c.copy_from_slice.new.self ≡ signed_bytes z = c.copy_from_slice.ensures.after ∙ c.to_le_bytes.ensures ∙ sym (bytes8 _) ∙ ap signed_bytes (to_z-of_z w64 z fits) in
    record {
      tags = tags_more es _ i none c.loop-i-test.true (omega arith) c.loop-i.tags c.loop-i.invariant.tags;
      numbers = numbers_more es _ i none c.loop-i-test.true c.loop-i.numbers _ c.loop-i.invariant.numbers bytes;
      fit = All-more (λ (e : Entry). SFits w64 e.number) es i none c.loop-i-test.true c.loop-i.invariant.fit fits;
    }
