use Rattle.std.proofs.Common.{◌≡◌, [], map, rules, string_bytes, Some}
use Rattle.shop_book.proofs.RunReplies.{ran_over}
use Rattle.shop_book.proofs.running.run_over.Goals as goal

pub returns : goal.returns
returns c =
    let input = c.args.input.now in
    let source = c.new-source.result in
    let held = c.new-sink.result.text.items in
    let sunk = c.run.new.sink.text.items in
    let had : source ≡ input = search rules in
    let empty : held ≡ [] = search rules in
    let whole : c.into_text.result ≡ sunk = search rules in
    ran_over (map string_bytes c.args.words.now) input source held sunk c.into_text.result (Some c.run.new.source) c.run.result c.new-sink.result.faults c.run.new.sink.faults 0 0 had empty whole
    c.in_default.not-OutOfMemory c.in_default.not-WriteFault c.run.ensures.says
