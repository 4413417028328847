-- The lines of a serving run's text.
use Rattle.std.specs.Prelude.{ℕ, zero, suc, ◌+◌, List, [], ◌∷◌, ◌++◌, codes, decimal}
use Rattle.fare_law.specs.declared.filings.BookWhy.{BookWhy}
use Rattle.serve_desks.specs.declared.log.Filed.{Filed}
use Rattle.serve_desks.specs.declared.log.Filed.TheVariants.{Accepted, Refused}
use Rattle.whole_case.specs.Texts.{book_text}

-- how many filings there are at the end
abbrev pub history_line : ℕ → List ℕ
history_line count = codes "history " ++ (decimal count ++ codes "\n")

-- the entry of this number is the filing of the case that has the same number
abbrev pub opening_line : ℕ → List ℕ
opening_line number = codes "entry " ++ (decimal number ++ (codes " filing " ++ (decimal number ++ codes "\n")))

-- the lines of the first so many entries
abbrev pub opening_lines : ℕ → List ℕ
opening_lines zero = []
opening_lines (suc count) = opening_lines count ++ opening_line (suc count)

-- of a later filing that was accepted: the number of its entry, and its own
abbrev pub entry_line : ℕ → Filed → List ℕ
entry_line later (Accepted number) = codes "entry " ++ (decimal number ++ (codes " later " ++ (decimal later ++ codes "\n")))
entry_line later (Refused why) = []

-- a later filing was refused for this action and this reason
abbrev pub refused_line : ℕ → ℕ → BookWhy → List ℕ
refused_line later action why =
    codes "later " ++ (decimal later ++ (codes " refused action " ++ (decimal action ++ (codes " " ++ (book_text why ++ codes "\n")))))

-- of a later filing that was refused: its number, the action and the reason
abbrev pub refusal_line : ℕ → Filed → List ℕ
refusal_line later (Accepted number) = []
refusal_line later (Refused r) = refused_line later r.action r.why

-- what a line says of each later filing, of which the first has this number
abbrev pub each_line : (ℕ → Filed → List ℕ) → ℕ → List Filed → List ℕ
each_line line later [] = []
each_line line later (how ∷ filed) = line later how ++ each_line line (later + 1) filed

-- The history: how many filings it has at the end, where each comes from, and which later filings were refused.
abbrev pub history_text : ℕ → List Filed → ℕ → List ℕ
history_text opening filed count =
    history_line count ++ (opening_lines opening ++ (each_line entry_line 1 filed ++ each_line refusal_line 1 filed))

-- the reply to the search at this line of the script, of this desk: the version
abbrev pub reply_line : ℕ → ℕ → ℕ → List ℕ
reply_line line desk version =
    codes "reply " ++ (decimal line ++ (codes " desk " ++ (decimal desk ++ (codes " version " ++ (decimal version ++ codes "\n")))))
