-- What `make` makes it owes, and it owes one status.
use Rattle.std.proofs.Common.{◌≡◌, ℕ, List, Bool, true, false, None, refl, sym, ◌∙◌}
use Rattle.case_maker.specs.MadeCase.{made_case}
use Rattle.whole_case.specs.Cases.{search_case}
use Rattle.whole_case.specs.Stages.{IsOne}
use Rattle.lowfare.specs.Made.{default_budget}
use Rattle.lowfare.specs.Makes.{Makes, Owes}
use Rattle.lowfare.specs.declared.status.Status.{Status}
use Rattle.lowfare.specs.declared.status.Status.TheVariants.{Done, TooLarge}
use Rattle.program_words.specs.declared.commands.Command.TheVariants.{Make, Search}
use Rattle.lowfare.proofs.SearchOwes.{search_owes_one}

module _ (seed size : ℕ) (bytes : List ℕ) where
  text_made : (status : Status) (text : List ℕ) → Makes (Make seed size false) bytes status text → Owes (Make seed size false) bytes status
  text_made Done text m = tt
  text_made other text m = absurd m

  summary_made : (status : Status) (text : List ℕ) → Makes (Make seed size true) bytes status text → Owes (Make seed size true) bytes status
  summary_made Done text m = m.case
  summary_made TooLarge text m = m.case
  summary_made other text m = absurd m

  pub make_made : (is_summary : Bool) (status : Status) (text : List ℕ) → Makes (Make seed size is_summary) bytes status text → Owes (Make seed size is_summary) bytes status
  make_made false status text m = text_made status text m
  make_made true status text m = summary_made status text m

  is_done : (status : Status) → Owes (Make seed size false) bytes status → status ≡ Done
  is_done Done h = refl
  is_done other h = absurd h

  -- a summary owes what a search of the made case does
  as_search : (status : Status) → Owes (Make seed size true) bytes status → Owes (Search None default_budget None) (made_case seed size) status
  as_search Done h = h
  as_search TooLarge h = h
  as_search other h = absurd h

  pub make_owes_one : IsOne (search_case None None (made_case seed size)) → (is_summary : Bool) (status due : Status) → Owes (Make seed size is_summary) bytes status → Owes (Make seed size is_summary) bytes due → status ≡ due
  make_owes_one one false status due h k = is_done status h ∙ sym (is_done due k)
  make_owes_one one true status due h k = search_owes_one None default_budget None (made_case seed size) one status due (as_search status h) (as_search due k)
