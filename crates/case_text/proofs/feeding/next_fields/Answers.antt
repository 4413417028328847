use Rattle.std.proofs.Common.{◌∙◌, inl}
use Rattle.case_text.proofs.Feed.{source_after}
use Rattle.case_text.proofs.Machine.{reads_first}
use Rattle.case_text.proofs.feeding.next_fields.Goals as goal

pub returns : goal.returns
returns g c = λ line rest row waits.
    let r = c.in_ok-_found.ensures.reads waits.trim waits.ready in
    let z = reads_first _ _ _ _ _ _ _ line rest waits.config waits.state waits.source row.some row.plain r.0 in (
      record {
        config = r.2 ∙ waits.config;
        trim = r.3 ∙ waits.trim;
        ready = inl (c.in_ok-_found.ensures.ready waits.trim);
        state = z.state;
        source = source_after g.R.Read.remaining c.read_byte_record.new.self r.1 ∙ z.left;
      },
      z.cuts,
    )
