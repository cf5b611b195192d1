use Rattle.std.proofs.Common.{◌≡◌, rules, arith, length, false, nat_lt, Some}
use Rattle.std.proofs.lemmas.Bool.Decides.{nat_tests}
use Rattle.ordup_entries.specs.Reading.{header_of}
use Rattle.ordup_entries.proofs.ReadingLemmas.{fails}
use Rattle.ordup_entries.proofs.reading.read.Goals as goal

pub returns-in-Err : goal.returns-in-Err
returns-in-Err g c =
    let few : nat_lt 2097152 (length c.args.text.now) ≡ false = (let h = c.if-text-gt-MOST_ENTRY_BYTES.false in grind (arith, nat_tests)) in
    let header : header_of c.in-Some.line ≡ Some c.in-Some-read.header = search rules in
    fails c.args.text.now c.in-Some.line c.in-Some.rest c.in-Some-read.header c.in-Err.error few (rw c.new.ensures at c.in-Some.ensures.parts) header
    c.in-Err.ensures
