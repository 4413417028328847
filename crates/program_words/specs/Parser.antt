-- The parser of the program's words, as `clap` is told it.
use Rattle.std.specs.Prelude.{◌≡◌, List, [], ◌∷◌, Some, codes, true, false}
use Rattle.clap.specs.Words.{App, Rule, Text, new_rule, new_app, rule_of}
use Rattle.clap.specs.declared.builder.action.ArgAction.TheVariants.{SetTrue}
use Rattle.clap.specs.declared.builder.arg.Arg.{Arg}

-- an option with a value
abbrev pub option : Text → Rule
option name = record (new_rule name) { long = Some name }

-- an option without one
abbrev pub flag : Text → Rule
flag name = record (new_rule name) { long = Some name; action = Some SetTrue }

-- the command's name, and each option
abbrev pub rules : List Rule
rules = new_rule (codes "command") ∷ option (codes "best") ∷ option (codes "budget") ∷ option (codes "at") ∷ option (codes "seed")
    ∷ option (codes "size") ∷ option (codes "outs") ∷ option (codes "backs") ∷ flag (codes "summary") ∷ []

-- without help and version
abbrev pub bare : App
bare = let new = new_app (codes "lowfare") in
    record { top = record new.top { no_binary_name = true; disable_help_flag = true; disable_version_flag = true }; subs = [] }

abbrev pub parser : App
parser = record { top = record bare.top { rules = rules }; subs = [] }

pub record IsArg (rule : Rule) (a : Arg) : Type 0 where
  pub is : rule_of a ≡ rule
  pub local : a.global ≡ false
