use Rattle.std.proofs.Common.{◌≡◌, ◌∙◌, ap, sym, refl, map, string_bytes, List, true}
use Rattle.clap.specs.Words.{App, Text, fault_of, first_of, found_of, is_simple, is_simple_and_free, matches_of, rows_of}
use Rattle.clap.specs.declared.parser.matches.Found.{Found}
use Rattle.clap.proofs.OnLiterals.{clap_on_literals}
use Rattle.clap.proofs.WalkLemmas.{first_value-rows}
use Rattle.program_words.specs.Parser.{parser}
use Rattle.program_words.specs.Texts.{AreFirst, texts_by, texts_in, texts_of}
use Rattle.program_words.specs.declared.given.Given.{Given}
use Rattle.program_words.proofs.parsing.given_texts.Goals as goal

is_plain : is_simple parser ≡ true
unfolding clap_on_literals
is_plain = refl

is_free : is_simple_and_free parser ≡ true
unfolding clap_on_literals
is_free = refl

-- the first texts are those in the words, where what was found are the words' matches
found_in : (g : Given) (f : Found) (words : List Text) → AreFirst f g → rows_of f ≡ matches_of parser words → texts_of g ≡ texts_in words
found_in g f words a e = a ∙ (λ j. texts_by (λ id. (first_value-rows f id ∙ ap (first_of id) e) j))

pub returns : goal.returns
returns c =
    let is = c.in_ok-parser.ensures in
    let ok = c.in-Ok.ensures in
    let words = map string_bytes c.args.words.now in
    let faults = ok.kinds (ap is_simple_and_free is ∙ is_free) in
    let found = ok.matches (ap is_simple is ∙ is_plain) in
    (ap (λ (a : App). fault_of a words) (sym is) ∙ faults, found_in c.first_texts.result (found_of c.in-Ok.matches) words c.first_texts.ensures (found.0 ∙ ap (λ (a : App). matches_of a words) is))
