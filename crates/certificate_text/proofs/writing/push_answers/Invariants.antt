use Rattle.std.proofs.Common.{◌≡◌, ◌++◌, take, map}
use Rattle.certificate_text.specs.CertText.{text_of}
use Rattle.certificate_text.specs.Lines.{answer_line}
use Rattle.certificate_text.proofs.writing.push_answers.Given as goal

-- the answers so far have been added
abbrev pub invariant-loop-answer : goal.invariant-loop-answer
invariant-loop-answer l = l.text.items ≡ l.initial.text.items ++ text_of (map answer_line (take l.answer-index l.answers))
