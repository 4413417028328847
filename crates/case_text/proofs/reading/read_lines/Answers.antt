use Rattle.std.proofs.Common.{◌∙◌, ap, inr, Some, map}
use Rattle.csv.specs.Reading.{builder_config, builder_trim, builder_names_headers, strip_bom}
use Rattle.case_text.specs.Lines.{shown}
use Rattle.case_text.proofs.Feed.{no_mark}
use Rattle.case_text.proofs.reading.read_lines.Goals as goal

pub read_with-requires : goal.read_with-requires
read_with-requires c =
    let f = c.from_reader-reader.ensures in
    let x = c.flexible.ensures in
    let h = c.has_headers.ensures in
    let n = c.new.ensures in
    record {
      config = f.config ∙ ap builder_config x ∙ ap builder_config h ∙ n.config;
      trim = f.trim ∙ ap builder_trim x ∙ ap builder_trim h ∙ n.trim;
      ready = inr (inr (f.has_headers ∙ ap builder_names_headers x ∙ ap builder_names_headers h, f.headers));
      state = f.state;
      source = f.source ∙ ap (λ text. Some (strip_bom text)) (c.as_slice.ensures.value ∙ c.in_ok-text.ensures) ∙ ap Some (no_mark (map shown c.args.lines.now));
    }
