use Rattle.std.proofs.Common.{◌≡◌, rules, sym, ◌∙◌}
use Rattle.std.proofs.lemmas.Option.{MatchOption-at_none, MatchOption-at_some}
use Rattle.certificate_text.proofs.RequestLemmas.{no_label, no_request, other_text, whole_request}
use Rattle.certificate_text.proofs.request.request_line.Goals as goal

pub returns-in_default : goal.returns-in_default
returns-in_default c = no_label c.args.line.now c.in_default.ensures

pub returns-in_default-2 : goal.returns-in_default-2
returns-in_default-2 c = no_request c.args.line.now c.in-Some.text.now c.in-Some.ensures (MatchOption-at_none _ _ c.in_default-2.is c.in_ok-request.ensures)

pub returns-then-ne : goal.returns-then-ne
returns-then-ne c =
    let is : c.as_slice.result.now ≡ c.in_ok-written.written = c.as_slice.ensures in
    let other : c.as_slice.result.now ≡ c.in-Some.text.now → ⊥ = search rules in
    let read = MatchOption-at_some _ _ c.in-Some-2.request c.in-Some-2.is c.in_ok-request.ensures in
    other_text c.one_date_text.ensures c.args.line.now c.in-Some.text.now c.in_ok-written.written c.in-Some-2.request c.in-Some.ensures read.0 c.in_ok-written.ensures.text (λ e. other (is ∙ e))

pub returns : goal.returns
returns c =
    let is : c.as_slice.result.now ≡ c.in_ok-written.written = c.as_slice.ensures in
    let same : c.as_slice.result.now ≡ c.in-Some.text.now = search rules in
    let read = MatchOption-at_some _ _ c.in-Some-2.request c.in-Some-2.is c.in_ok-request.ensures in
    whole_request c.args.line.now c.in-Some.text.now c.in_ok-written.written c.in-Some-2.request c.in-Some.ensures read.0 read.1 c.in_ok-written.ensures.text (sym is ∙ same)
