use Rattle.std.proofs.Common.{◌≡◌, ◌∙◌, length, ap, arith}
use Rattle.std.specs.Arc.{arc_value}
use Rattle.fare_law.specs.Book.{Book}
use Rattle.serving.specs.Replies.{searches_from}
use Rattle.serving.proofs.WholeRun.{as_many_replies, serves, slices_after, slices_judged}
use Rattle.serving.proofs.text.serve_text.Goals as goal

pub replay-requires-clause-judged : goal.replay-requires-clause-judged
replay-requires-clause-judged c =
    let start = arc_value c.args.opening.now in
    let logged = c.requires.logged in
    slices_judged arc_value start.timetable start.entries c.args.work.now.later c.as_slice-2.result.now c.args.log.now.filed c.as_slice-filed.result.now logged.filings c.as_slice-2.ensures c.as_slice-filed.ensures logged.judged

pub push_replies-requires-clause-replies : goal.push_replies-requires-clause-replies
push_replies-requires-clause-replies c =
    let listed = c.as_slice-3.ensures ∙ c.in_ok-searches.ensures ∙ ap (searches_from 1) c.as_slice.ensures in
    as_many_replies (arc_value c.args.opening.now) c.args.work.now c.args.log.now c.as_slice-3.result.now c.as_slice-replies.result.now c.requires.script c.requires.logged listed c.as_slice-replies.ensures

pub returns : goal.returns
returns c =
    let start = arc_value c.args.opening.now in
    let logged = c.requires.logged in
    let replayed = c.in_ok-replayed.replayed in
    let e = c.in_ok-replayed.ensures in
    let listed = c.as_slice-3.ensures ∙ c.in_ok-searches.ensures ∙ ap (searches_from 1) c.as_slice.ensures in
    let history = slices_after arc_value start.timetable start.entries c.args.work.now.later c.as_slice-2.result.now c.args.log.now.filed c.as_slice-filed.result.now logged.filings c.as_slice-2.ensures c.as_slice-filed.ensures logged.judged in
    let opening = c.number.ensures.value ∙ ap (λ (b : Book). length b.entries) c.deref.ensures in
    let many : length replayed.texts.items ≡ length c.as_slice-replies.result.now = omega (arith, e.lines, replayed.texts.ok.0) in
    serves start c.args.work.now c.args.log.now logged _ c.as_slice-3.result.now c.as_slice-filed.result.now c.as_slice-replies.result.now c.as_slice-texts.result.now replayed.texts.items c.number.result replayed.count c.new-text.result.items c.push_history.new.text.items c.push_replies.new.text.items c.from_vec.result
    c.requires.script history listed c.as_slice-filed.ensures c.as_slice-replies.ensures c.as_slice-texts.ensures.value opening e.count many e.texts c.new-text.ensures.items c.in_ok-push_history.ensures c.in_ok-push_replies.ensures c.from_vec.ensures
