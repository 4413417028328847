use Rattle.std.proofs.Common.{◌≡◌, ◌<◌, ◌+◌, ◌∙◌, [], List, drop, length, map, slice_index_or, refl, ap, sym, subst, arith}
use Rattle.std.proofs.lemmas.List.{drop_all, length-map}
use Rattle.std.specs.Arc.{arc_value}
use Rattle.fare_law.specs.Book.{Book}
use Rattle.fare_law.specs.declared.filings.Filing.{Filing}
use Rattle.serve_desks.specs.declared.log.Filed.TheVariants.{Accepted}
use Rattle.serving.specs.Replaying.{HasTexts, history_after}
use Rattle.serving.proofs.Replays.{Reached, all_reached, first_reached, is_judged, next_reached, reached_here}
use Rattle.serve_desks.proofs.Judges.{judged_length}
use Rattle.serving.proofs.versions.replay.Goals as goal

pub loop-at-init : goal.loop-at-init
loop-at-init c =
    let start = arc_value c.args.opening.now in
    let later = map arc_value c.args.later.now in
    let filings = history_after start.entries later c.args.filed.now in
    let texts = c.tell.new.texts.items in
    let made = subst (λ (b : Book). HasTexts b c.args.replies.now texts) c.deref.ensures c.in_ok-tell.ensures.made in (
      c.tell.ensures.lines ∙ c.in_ok-texts.ensures,
      subst (λ (b : Book). Reached start.timetable filings (length start.entries) c.args.replies.now texts b later c.args.filed.now) (sym c.in_ok-book.ensures)
          (first_reached start later c.args.filed.now filings c.args.replies.now texts c.requires.judged made),
    )

pub next-requires-clause-judged : goal.next-requires-clause-judged
next-requires-clause-judged c =
    let start = arc_value c.args.opening.now in
    let later = map arc_value c.args.later.now in
    let filings = history_after start.entries later c.args.filed.now in
    let at = c.loop-at.at in
    let less = c.loop-at-test.true in
    let many = judged_length start.timetable start.entries later c.args.filed.now filings c.requires.judged in
    let within : at < length c.args.filed.now = omega (arith, less, many, length-map c.args.later.now arc_value) in
    let filing = c.index-later-at.result in
    let how = slice_index_or c.args.filed.now at (Accepted 0) in
    let here = reached_here arc_value start.timetable filings (length start.entries) c.args.replies.now c.loop-at.texts.items (arc_value c.loop-at.book) c.args.later.now c.args.filed.now at filing filing how (Accepted 0) less within c.index-later-at.is refl c.loop-at.invariant.1 in
    is_judged (arc_value c.loop-at.book) start.timetable (arc_value filing) (map arc_value (drop (at + 1) c.args.later.now)) how (drop (at + 1) c.args.filed.now) filings here.same here.left

pub loop-at-preserved : goal.loop-at-preserved
loop-at-preserved c =
    let start = arc_value c.args.opening.now in
    let later = map arc_value c.args.later.now in
    let filings = history_after start.entries later c.args.filed.now in
    let at = c.loop-at.at in
    let less = c.loop-at-test.true in
    let many = judged_length start.timetable start.entries later c.args.filed.now filings c.requires.judged in
    let within : at < length c.args.filed.now = omega (arith, less, many, length-map c.args.later.now arc_value) in
    let filing = c.index-later-at.result in
    let how = slice_index_or c.args.filed.now at (Accepted 0) in
    let here = reached_here arc_value start.timetable filings (length start.entries) c.args.replies.now c.loop-at.texts.items (arc_value c.loop-at.book) c.args.later.now c.args.filed.now at filing filing how (Accepted 0) less within c.index-later-at.is refl c.loop-at.invariant.1 in (
      c.next.ensures.lines ∙ c.loop-at.invariant.0,
      next_reached start.timetable filings (length start.entries) c.args.replies.now c.loop-at.texts.items c.next.new.texts.items (arc_value c.loop-at.book) (arc_value c.in_ok-book-2.book) (arc_value filing) (map arc_value (drop (at + 1) c.args.later.now)) how (drop (at + 1) c.args.filed.now)
          here c.in_ok-book-2.ensures.next,
    )

pub returns-clause-count : goal.returns-clause-count
returns-clause-count c =
    let start = arc_value c.args.opening.now in
    let filings = history_after start.entries (map arc_value c.args.later.now) c.args.filed.now in
    let left = drop c.loop-at.at c.args.filed.now in
    let none : map arc_value (drop c.loop-at.at c.args.later.now) ≡ [] = ap (map arc_value) (drop_all c.loop-at.at c.args.later.now c.loop-at-test.false) in
    let reached = subst (λ (fs : List Filing). Reached start.timetable filings (length start.entries) c.args.replies.now c.loop-at.texts.items (arc_value c.loop-at.book) fs left) none c.loop-at.invariant.1 in
    let all = all_reached start.timetable filings (length start.entries) c.args.replies.now c.loop-at.texts.items (arc_value c.loop-at.book) left reached in
    c.number-count.ensures.value ∙ ap (λ (b : Book). length b.entries) c.deref-2.ensures ∙ ap length all
