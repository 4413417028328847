use Rattle.std.proofs.Common.{◌∙◌, ap, inr}
use Rattle.csv.specs.Reading.{builder_config, builder_trim, builder_names_headers}
use Rattle.case_text.proofs.Machine.{fields_are}
use Rattle.case_text.proofs.fields.line_fields.Goals as goal

pub returns : goal.returns
returns c =
    let f = c.from_reader-reader.ensures in
    let h = c.has_headers.ensures in
    let n = c.new.ensures in
    let r = c.in_ok-_found.ensures.reads (f.trim ∙ ap builder_trim h ∙ n.trim) (inr (inr (f.has_headers ∙ ap builder_names_headers h, f.headers))) in
    fields_are _ _ _ _ _ _ _ c.args.line.now (f.config ∙ ap builder_config h ∙ n.config) f.state f.source c.requires.some c.requires.plain r.0
