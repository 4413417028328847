-- The whole text of a run: for `serve_text`.
use Rattle.std.proofs.Common.{◌≡◌, ◌∙◌, ◌+◌, ℕ, List, [], ◌++◌, length, map, ap, sym, subst}
use Rattle.search_desk.specs.Outcomes.{AnswersAsk}
use Rattle.fare_law.specs.Book.{Book, Timetable}
use Rattle.fare_law.specs.declared.filings.Filing.{Filing}
use Rattle.script_text.specs.Script.{IsScript}
use Rattle.serve_desks.specs.Judging.{Judged}
use Rattle.serve_desks.specs.Logs.{Logged}
use Rattle.serve_desks.specs.Terms.{terms_of}
use Rattle.serve_desks.specs.declared.log.Filed.{Filed}
use Rattle.serve_desks.specs.declared.log.Log.{Log}
use Rattle.serve_desks.specs.declared.log.Reply.{Reply}
use Rattle.serve_desks.specs.declared.workload.Workload.{Workload}
use Rattle.serving.specs.Lines.{history_text}
use Rattle.serving.specs.Replaying.{HasTextsBetween, history_after, replies_text}
use Rattle.serving.specs.Replies.{searches_from}
use Rattle.serving.specs.Serves.{Serves}
use Rattle.serving.specs.declared.searches.SearchLine.{SearchLine}
use Rattle.serving.proofs.Replays.{judged_is}
use Rattle.serving.proofs.RepliesTold.{all_answered, replies_told}
use Rattle.law_lemmas.proofs.Pairs.{matched_long}

module _ {X : Type 0} (value : X → Filing) (t : Timetable) (start : List Filing) (later slice : List X) (filed told : List Filed) (end : List Filing) (same : slice ≡ later) (as_told : told ≡ filed) where
  judged_of_slices : Judged t start (map value later) filed end → Judged t start (map value slice) told end
  judged_of_slices h = subst (λ (xs : List X). Judged t start (map value xs) told end) (sym same) (subst (λ (js : List Filed). Judged t start (map value later) js end) (sym as_told) h)

  -- what came of the filing, as the replay has it
  pub slices_after : Judged t start (map value later) filed end → end ≡ history_after start (map value slice) told
  slices_after h = judged_is t start (map value slice) told end (judged_of_slices h)

  pub slices_judged : Judged t start (map value later) filed end → Judged t start (map value slice) told (history_after start (map value slice) told)
  slices_judged h = subst (Judged t start (map value slice) told) (slices_after h) (judged_of_slices h)

-- there is a reply for each search
pub as_many_replies : (start : Book) (work : Workload) (log : Log) (searches : List SearchLine) (replies : List Reply) → IsScript (length work.later) (length work.asks) work.script → Logged AnswersAsk start work log
    → searches ≡ searches_from 1 work.script.lines → replies ≡ log.replies → length replies ≡ length searches
as_many_replies start work log searches replies script logged ss rs =
    let opening = length start.entries in
    let answered = all_answered (terms_of work.asks start) opening log.filed logged.filings work.script.desks (length work.later) (length work.asks) work.script.lines log.replies script.lines logged.replied in
    ap length rs ∙ matched_long _ (searches_from 1 work.script.lines) log.replies answered ∙ sym (ap length ss)

-- the history and then the replies are the text of the run
pub serves : (start : Book) (work : Workload) (log : Log) (logged : Logged AnswersAsk start work log) (history : List Filing) (searches : List SearchLine) (filed : List Filed) (replies : List Reply) (texts items : List (List ℕ)) (opening count : ℕ)
    (first mid after text : List ℕ) → IsScript (length work.later) (length work.asks) work.script
    → logged.filings ≡ history → searches ≡ searches_from 1 work.script.lines → filed ≡ log.filed → replies ≡ log.replies → texts ≡ items → opening ≡ length start.entries → count ≡ length history
    → length items ≡ length replies → HasTextsBetween start.timetable history (length start.entries) (count + 1) replies items
    → first ≡ [] → mid ≡ first ++ history_text opening filed count → after ≡ mid ++ replies_text searches replies texts → text ≡ after → Serves start work text
serves start work log logged history searches filed replies texts items opening count first mid after text script is ss fs rs ts os cs many has e1 e2 e3 e4 =
    let opened = length start.entries in
    let terms = terms_of work.asks start in
    let wanted = searches_from 1 work.script.lines in
    let all = length logged.filings in
    let last : count ≡ all = cs ∙ ap length (sym is) in
    let made : HasTextsBetween start.timetable logged.filings opened (all + 1) log.replies items =
    subst (λ (xs : List Reply). HasTextsBetween start.timetable logged.filings opened (all + 1) xs items) rs
    (subst (λ n. HasTextsBetween start.timetable logged.filings opened (n + 1) replies items) last
    (subst (λ (xs : List Filing). HasTextsBetween start.timetable xs opened (count + 1) replies items) (sym is) has)) in
    let answered = all_answered terms opened log.filed logged.filings work.script.desks (length work.later) (length work.asks) work.script.lines log.replies script.lines logged.replied in
    let said = replies_text searches replies texts in
    let head : history_text opening filed count ≡ history_text opened log.filed all =
    ap (λ n. history_text n filed count) os ∙ ap (λ (js : List Filed). history_text opened js count) fs ∙ ap (λ n. history_text opened log.filed n) last in
    let tail : said ≡ replies_text wanted log.replies items =
    ap (λ (xs : List SearchLine). replies_text xs replies texts) ss ∙ ap (λ (xs : List Reply). replies_text wanted xs texts) rs ∙ ap (λ (xs : List (List ℕ)). replies_text wanted log.replies xs) ts in
    let whole : text ≡ history_text opened log.filed all ++ replies_text wanted log.replies items =
    e4 ∙ e3
    ∙ ap (λ (xs : List ℕ). xs ++ said) (e2 ∙ ap (λ (xs : List ℕ). xs ++ history_text opening filed count) e1 ∙ head)
    ∙ ap (λ (xs : List ℕ). history_text opened log.filed all ++ xs) tail in
    record {
      log = log;
      logged = logged;
      replies = replies_text wanted log.replies items;
      told = replies_told terms opened logged.filings wanted log.replies items answered (many ∙ ap length rs) made;
      whole = whole;
    }
