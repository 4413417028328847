use Rattle.std.proofs.Common.{sym, subst, ◌∙◌, List, ℕ, ◌≡◌, string_bytes, ap, Ok}
use Rattle.std.proofs.lemmas.Str.{IsUtf8-string_bytes}
use Rattle.serde_json.specs.View.{view}
use Rattle.fare_filing.specs.Reading.{filing_of}
use Rattle.fare_filing.proofs.AgainLemmas.{text_again}
use Rattle.fare_filing.proofs.PlainLemmas.{no_float, shallow}
use Rattle.fare_filing.proofs.text.filing_text.Goals as goal

pub returns-clause-text : goal.returns-clause-text
returns-clause-text c =
    let w = c.in_ok-value.ensures in
    let e : c.from_vec.result ≡ string_bytes c.in_ok-text.text = c.from_vec.ensures ∙ ap (λ v. v.items) c.into_bytes.ensures.value in
    record {
      json = view c.in_ok-value.value;
      filing_is = w;
      compact = e ∙ c.in_ok-text.ensures.text (no_float c.args.filing.now (view c.in_ok-value.value) c.requires w);
    }

pub returns-clause-again : goal.returns-clause-again
returns-clause-again c =
    let filing = c.args.filing.now in
    let d = view c.in_ok-value.value in
    let w = c.in_ok-value.ensures in
    let e : c.from_vec.result ≡ string_bytes c.in_ok-text.text = c.from_vec.ensures ∙ ap (λ v. v.items) c.into_bytes.ensures.value in
    subst (λ (text : List ℕ). filing_of text ≡ Ok filing) (sym e)
    (text_again c.names_read_again.ensures c.names_stand_aside.ensures filing d (string_bytes c.in_ok-text.text) c.requires w (IsUtf8-string_bytes c.in_ok-text.text) (c.in_ok-text.ensures.reads_back (shallow filing d c.requires w)))
