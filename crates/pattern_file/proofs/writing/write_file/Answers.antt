-- The count, the tags and the numbers make the file.
use Rattle.std.proofs.Common.{◌≡◌, ◌≤◌, length, sym, ◌∙◌, rules}
use Rattle.pattern_file.specs.Contents.{file_length, max_entries}
use Rattle.pattern_file.proofs.ByteNumbers.{bytes4}
use Rattle.pattern_file.proofs.Lending.{file_is}
use Rattle.pattern_file.proofs.RoundTrip.{front_reads_back, written_is}
use Rattle.pattern_file.proofs.writing.write_file.Goals as goal

pub returns : goal.returns
returns c =
    let es = c.args.entries.now in
    let sized = c.in_ok-size.ensures.value in
    let few : length es ≤ max_entries = search rules in
    let size : c.in_ok-size.size ≡ file_length (length es) = search rules in
    let file = file_is es c.args.out.now c.copy_from_slice.new.self c.put_entries.new.out c.in_ok-size.size
    (c.copy_from_slice.ensures.after ∙ c.to_le_bytes.ensures ∙ sym (bytes4 (length es))) size c.put_entries.ensures.bytes in
    record {
      value = written_is es c.args.out.now _ c.in_ok-size.size few size c.if-out-size.false file;
      read_back = front_reads_back es _ _ c.in_ok-size.size few c.put_entries.ensures.fit size file;
    }
