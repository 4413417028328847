-- Lines that are added one after another: for the history and the replies.
use Rattle.std.proofs.Common.{◌≡◌, ◌<◌, ◌≤◌, ◌+◌, ◌∙◌, ℕ, List, [], ◌∷◌, ◌++◌, length, drop, get_or, refl, ap, sym, subst, add-one, append_assoc, append-nil, arith}
use Rattle.std.proofs.lemmas.List.{at_drop_all, at_drop_more, drop_more}
use Rattle.serve_desks.specs.declared.log.Filed.{Filed}
use Rattle.serve_desks.specs.declared.log.Reply.{Reply}
use Rattle.serving.specs.Lines.{each_line, entry_line, history_line, history_text, opening_line, opening_lines, refusal_line, reply_line}
use Rattle.serving.specs.Replaying.{replies_text}
use Rattle.serving.specs.declared.searches.SearchLine.{SearchLine}

-- what is added to a text, piece by piece
pub two_added : (start mid after first second : List ℕ) → mid ≡ start ++ first → after ≡ mid ++ second → after ≡ start ++ (first ++ second)
two_added start mid after first second one two = two ∙ ap (λ t. t ++ second) one ∙ append_assoc start first second

pub whole_history : (start counted opened entered after : List ℕ) (opening : ℕ) (filed : List Filed) (count : ℕ) → counted ≡ start ++ history_line count → opened ≡ counted ++ opening_lines opening
    → entered ≡ opened ++ each_line entry_line 1 filed → after ≡ entered ++ each_line refusal_line 1 filed → after ≡ start ++ history_text opening filed count
whole_history start counted opened entered after opening filed count a b c d =
    let entries = each_line entry_line 1 filed in
    let refusals = each_line refusal_line 1 filed in
    two_added start counted after (history_line count) (opening_lines opening ++ (entries ++ refusals)) a
    (two_added counted opened after (opening_lines opening) (entries ++ refusals) b (two_added opened entered after entries refusals c d))

-- the lines of the opening filings
pub opening_none : (start : List ℕ) → start ≡ start ++ opening_lines 0
opening_none start = sym (append-nil start)

pub opening_more : (start text after : List ℕ) (before : ℕ) → text ≡ start ++ opening_lines before → after ≡ text ++ opening_line (before + 1) → after ≡ start ++ opening_lines (before + 1)
opening_more start text after before so_far added =
    let here : opening_lines before ++ opening_line (before + 1) ≡ opening_lines (before + 1) = subst (λ n. opening_lines before ++ opening_line n ≡ opening_lines n) (sym (add-one before)) refl in
    two_added start text after (opening_lines before) (opening_line (before + 1)) so_far added ∙ ap (λ t. start ++ t) here

pub opening_all : (start text : List ℕ) (before opening : ℕ) → opening ≤ before → before ≤ opening → text ≡ start ++ opening_lines before → text ≡ start ++ opening_lines opening
opening_all start text before opening past most so_far = let same : before ≡ opening = omega (arith, past, most) in so_far ∙ ap (λ n. start ++ opening_lines n) same

-- one line more of those that say something of each later filing
pub line_more : (line : ℕ → Filed → List ℕ) (filed : List Filed) (at : ℕ) (how d : Filed) (text after all : List ℕ) → at < length filed → how ≡ get_or filed at d → after ≡ text ++ line (at + 1) how
    → text ++ each_line line (at + 1) (drop at filed) ≡ all → after ++ each_line line (at + 1 + 1) (drop (at + 1) filed) ≡ all
line_more line filed at how d text after all less is added so_far =
    let rest = each_line line (at + 1 + 1) (drop (at + 1) filed) in
    let here : each_line line (at + 1) (drop at filed) ≡ line (at + 1) (get_or filed at d) ++ rest = at_drop_more (each_line line (at + 1)) filed at d less in
    ap (λ t. t ++ rest) added ∙ append_assoc text (line (at + 1) how) rest ∙ ap (λ (h : Filed). text ++ (line (at + 1) h ++ rest)) is ∙ ap (λ t. text ++ t) (sym here) ∙ so_far

-- all of them
pub lines_all : (line : ℕ → Filed → List ℕ) (filed : List Filed) (at : ℕ) (text all : List ℕ) → length filed ≤ at → text ++ each_line line (at + 1) (drop at filed) ≡ all → text ≡ all
lines_all line filed at text all past so_far =
    let none : each_line line (at + 1) (drop at filed) ≡ [] = at_drop_all (each_line line (at + 1)) filed at past in
    sym (append-nil text) ∙ ap (λ t. text ++ t) (sym none) ∙ so_far

-- one reply more
pub reply_more : (searches : List SearchLine) (replies : List Reply) (texts : List (List ℕ)) (at : ℕ) (s ds : SearchLine) (r dr : Reply) (t dt text after all : List ℕ)
    → at < length searches → at < length replies → at < length texts → s ≡ get_or searches at ds → r ≡ get_or replies at dr → t ≡ get_or texts at dt
    → after ≡ text ++ (reply_line s.line s.desk r.number ++ t)
    → text ++ replies_text (drop at searches) (drop at replies) (drop at texts) ≡ all
    → after ++ replies_text (drop (at + 1) searches) (drop (at + 1) replies) (drop (at + 1) texts) ≡ all
reply_more searches replies texts at s ds r dr t dt text after all ls lr lt is ir it added so_far =
    let rest = replies_text (drop (at + 1) searches) (drop (at + 1) replies) (drop (at + 1) texts) in
    let line = reply_line s.line s.desk r.number in
    let ss : drop at searches ≡ s ∷ drop (at + 1) searches = drop_more searches at ds ls ∙ ap (λ (x : SearchLine). x ∷ drop (at + 1) searches) (sym is) in
    let rs : drop at replies ≡ r ∷ drop (at + 1) replies = drop_more replies at dr lr ∙ ap (λ (x : Reply). x ∷ drop (at + 1) replies) (sym ir) in
    let ts : drop at texts ≡ t ∷ drop (at + 1) texts = drop_more texts at dt lt ∙ ap (λ (x : List ℕ). x ∷ drop (at + 1) texts) (sym it) in
    let here : replies_text (drop at searches) (drop at replies) (drop at texts) ≡ line ++ (t ++ rest) =
    ap (λ xs. replies_text xs (drop at replies) (drop at texts)) ss
    ∙ ap (λ xs. replies_text (s ∷ drop (at + 1) searches) xs (drop at texts)) rs
    ∙ ap (λ xs. replies_text (s ∷ drop (at + 1) searches) (r ∷ drop (at + 1) replies) xs) ts in
    ap (λ x. x ++ rest) added
    ∙ append_assoc text (line ++ t) rest
    ∙ ap (λ x. text ++ x) (append_assoc line t rest ∙ sym here)
    ∙ so_far

-- all of them
pub replies_all : (searches : List SearchLine) (replies : List Reply) (texts : List (List ℕ)) (at : ℕ) (text all : List ℕ) → length searches ≤ at
    → text ++ replies_text (drop at searches) (drop at replies) (drop at texts) ≡ all → text ≡ all
replies_all searches replies texts at text all past so_far =
    let none : replies_text (drop at searches) (drop at replies) (drop at texts) ≡ [] =
    at_drop_all (λ (xs : List SearchLine). replies_text xs (drop at replies) (drop at texts)) searches at past in
    sym (append-nil text) ∙ ap (λ t. text ++ t) (sym none) ∙ so_far
