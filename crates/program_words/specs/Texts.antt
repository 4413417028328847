-- The texts that words give to a command's name and to its options.
use Rattle.std.specs.Prelude.{◌≡◌, ◌≢◌, List, [], Option, option_map, Result, Ok, Err, codes}
use Rattle.std.specs.Borrow.{Bor}
use Rattle.clap.specs.Words.{Text, fault_of, first_of, first_value, matches_of}
use Rattle.clap.specs.declared.parser.matches.Found.{Found}
use Rattle.program_words.specs.Parser.{parser}
use Rattle.program_words.specs.declared.faults.WordsFault.{WordsFault}
use Rattle.program_words.specs.declared.faults.WordsFault.TheVariants.{Usage, Mem}
use Rattle.program_words.specs.declared.given.Given.{Given}

pub record GivenTexts : Type 0 where
  pub command : Option Text
  pub best : Option Text
  pub budget : Option Text
  pub at : Option Text
  pub seed : Option Text
  pub size : Option Text
  pub outs : Option Text
  pub backs : Option Text
  pub summary : Option Text

-- the texts by the names of what they are given to
abbrev pub texts_by : (Text → Option Text) → GivenTexts
texts_by text = record {
  command = text (codes "command");
  best = text (codes "best");
  budget = text (codes "budget");
  at = text (codes "at");
  seed = text (codes "seed");
  size = text (codes "size");
  outs = text (codes "outs");
  backs = text (codes "backs");
  summary = text (codes "summary");
}

-- what the parser finds in words that it takes
abbrev pub texts_in : List Text → GivenTexts
texts_in words = texts_by (λ id. first_of id (matches_of parser words))

-- the text behind a reference
abbrev pub text_of : Option (Bor Text) → Option Text
text_of = option_map (λ s. s.now)

abbrev pub texts_of : Given → GivenTexts
texts_of g = record {
  command = text_of g.command;
  best = text_of g.best;
  budget = text_of g.budget;
  at = text_of g.at;
  seed = text_of g.seed;
  size = text_of g.size;
  outs = text_of g.outs;
  backs = text_of g.backs;
  summary = text_of g.summary;
}

-- each is the first text of its name
abbrev pub AreFirst : Found → Given → Type 0
AreFirst f g = texts_of g ≡ texts_by (first_value f)

-- the parser finds no fault in the words, and these texts; or it finds a fault
abbrev pub Gives : Result Given WordsFault → List Text → Type 0
Gives (Ok g) words = (fault_of parser words ≡ []) × (texts_of g ≡ texts_in words)
Gives (Err Usage) words = fault_of parser words ≢ []
Gives (Err Mem) words = Unit {0}
