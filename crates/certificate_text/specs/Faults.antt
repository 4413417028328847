-- What is due after each line of a certificate, and the first line at fault.
use Rattle.std.specs.Prelude.{◌≡◌, ◌≢◌, ◌⊎◌, ℕ, zero, suc, List, [], ◌∷◌, ◌++◌, ⊤, codes}
use Rattle.certificate.specs.declared.parts.CertAnswer.{CertAnswer}
use Rattle.certificate.specs.declared.parts.CertRow.{CertRow}
use Rattle.certificate_text.specs.CertText.{IsRequestText, answer_lines, request_line, row_lines}
use Rattle.certificate_text.specs.declared.faults.CertFault.{CertFault}
use Rattle.certificate_text.specs.declared.faults.CertFault.TheVariants.{Syntax, Count, Mem}
use Rattle.certificate_text.specs.Lines.{SpellsAnswer, SpellsNumber, SpellsRow}
use Rattle.certificate_text.specs.Unread.{Unread, Begins, IsOver, TakesAll, place}
use Rattle.fare_law.specs.declared.requests.Request.{Request}
use Rattle.fare_law.specs.Limits.{IsRequest}

-- what a line has to be; of answers and of rows, how many more come after it
pub data Due : Type 0 where
  Head : Due
  Version : Due
  Asked : Due
  AnswerCount : Due
  Answer : ℕ → Due
  RowCount : Due
  Row : ℕ → Due
  End : Due
  Nothing : Due

abbrev pub answers_due : ℕ → Due
answers_due zero = RowCount
answers_due (suc n) = Answer n

abbrev pub rows_due : ℕ → Due
rows_due zero = End
rows_due (suc n) = Row n

-- the line has the text of the request, which is within its limits
pub record SpellsRequest (line : List ℕ) (q : Request) : Type 0 where
  pub text : List ℕ
  pub is : IsRequest q
  pub request : IsRequestText q text
  pub written : line ≡ request_line text

-- the line is of the form that is due, and what is due after it
abbrev pub IsOf : Due → List ℕ → Due → Type 0
IsOf Head line next = (line ≡ codes "certificate 1") × (next ≡ Version)
IsOf Version line next = (n : ℕ) × SpellsNumber (codes "version") line n × (next ≡ Asked)
IsOf Asked line next = (q : Request) × SpellsRequest line q × (next ≡ AnswerCount)
IsOf AnswerCount line next = (n : ℕ) × SpellsNumber (codes "answers") line n × (next ≡ answers_due n)
IsOf (Answer more) line next = (a : CertAnswer) × SpellsAnswer line a × (next ≡ answers_due more)
IsOf RowCount line next = (n : ℕ) × SpellsNumber (codes "rows") line n × (next ≡ rows_due n)
IsOf (Row more) line next = (r : CertRow) × SpellsRow line r × (next ≡ rows_due more)
IsOf End line next = (line ≡ codes "end") × (next ≡ Nothing)
IsOf Nothing line next = ⊥

-- the lines are of the forms that are due one after another, and what is due after them
abbrev pub Leads : Due → List (List ℕ) → Due → Type 0
Leads due [] then = due ≡ then
Leads due (line ∷ lines) then = (next : Due) × IsOf due line next × Leads next lines then

-- What is read begins with these lines, of the forms that are due one after another, and what is due and what is left then.
pub record Passed (due : Due) (from : Unread) (lines : List (List ℕ)) (then : Due) (left : Unread) : Type 0 where
  pub leads : Leads due lines then
  pub taken : TakesAll from lines left

-- What is read begins with the line of this request, and what is left then.
pub record PassedRequest (from : Unread) (q : Request) (left : Unread) : Type 0 where
  pub written : List ℕ
  pub is : IsRequest q
  pub request : IsRequestText q written
  pub passed : Passed Asked from (request_line written ∷ []) AnswerCount left

-- What is read begins with the last line, and nothing is left then.
pub record PassedEnd (from : Unread) : Type 0 where
  pub left : Unread
  pub passed : Passed End from (codes "end" ∷ []) Nothing left
  pub over : IsOver left

-- What is read begins with the lines of these answers and rows and the last line, and nothing is left then.
pub record PassedLists (from : Unread) (answers : List CertAnswer) (rows : List CertRow) : Type 0 where
  pub left : Unread
  pub passed : Passed AnswerCount from (answer_lines answers ++ (row_lines rows ++ codes "end" ∷ [])) Nothing left
  pub over : IsOver left

-- an answer or a row is due
abbrev pub IsListed : Due → Type 0
IsListed (Answer more) = Unit {0}
IsListed (Row more) = Unit {0}
IsListed due = ⊥

-- a count is wrong: the line that comes after all of a list stands in place of one more, or one more in place of it
abbrev pub Miscounts : Due → List ℕ → Type 0
Miscounts (Answer more) line = (n : ℕ) × SpellsNumber (codes "rows") line n
Miscounts RowCount line = (a : CertAnswer) × SpellsAnswer line a
Miscounts (Row more) line = line ≡ codes "end"
Miscounts End line = (r : CertRow) × SpellsRow line r
Miscounts due line = ⊥

-- a count is wrong at the first line that is left, or where there is none
abbrev pub CountWrong : Due → Unread → Type 0
CountWrong due left = (IsListed due × IsOver left) ⊎ ((line : List ℕ) × Begins left line × Miscounts due line)

-- the first line that is left is of another form, ends without a line feed, is missing, or stands after the end
pub record SyntaxWrong (due : Due) (left : Unread) : Type 0 where
  pub other : (line : List ℕ) → Begins left line → ((next : Due) → IsOf due line next → ⊥) × (Miscounts due line → ⊥)
  pub missing : IsOver left → (IsListed due → ⊥) × (due ≢ Nothing)

-- the first line that is wrong so has this number
pub record FirstWrong (Wrong : Due → Unread → Type 0) (due : Due) (from : Unread) (number : ℕ) : Type 0 where
  pub lines : List (List ℕ)
  pub then : Due
  pub left : Unread
  pub passed : Passed due from lines then left
  pub wrong : Wrong then left
  pub at : number ≡ place left

-- The fault is that of the first line at fault; want of memory is free.
abbrev pub FaultFrom : Due → Unread → CertFault → Type 0
FaultFrom due from (Syntax number) = FirstWrong SyntaxWrong due from number
FaultFrom due from (Count number) = FirstWrong CountWrong due from number
FaultFrom due from Mem = ⊤
