-- What follows each stage of a serving run's case, and how a stage that refuses the case ends the whole.
use Rattle.std.proofs.Common.{ℕ, Option, None, List, length, Result, Ok, Err, inl, inr, refl, ap, ◌∙◌}
use Rattle.case_text.specs.declared.contents.Case.{Case}
use Rattle.case_text.specs.declared.kinds.CaseKind.TheVariants.{Serve}
use Rattle.fare_law.specs.declared.filings.Filing.{Filing}
use Rattle.fare_law.specs.declared.requests.Request.{Request}
use Rattle.fare_law.specs.Book.{Book}
use Rattle.script_text.specs.declared.lines.Script.{Script}
use Rattle.whole_case.specs.declared.books.FiledCase.{FiledCase}
use Rattle.whole_case.specs.declared.refusals.LoadFault.{LoadFault}
use Rattle.whole_case.specs.declared.refusals.LoadFault.TheVariants.{Refused, Mem}
use Rattle.whole_case.specs.declared.serve.Asks.{Asks}
use Rattle.whole_case.specs.declared.serve.ServeCase.{ServeCase}
use Rattle.whole_case.specs.Books.{filed_case}
use Rattle.whole_case.specs.Filings.{filed_version, filing_in}
use Rattle.whole_case.specs.ServeCases.{asked_in, each_of, script_in, serve_case, asks_in}
use Rattle.whole_case.specs.Stages.{Reads, Stage, done, ◌>>=◌}
use Rattle.whole_case.specs.Timetables.{opening_of}
use Rattle.whole_case.proofs.BookSteps.{parted}
use Rattle.whole_case.proofs.StageLemmas.{goes_on, stops}
use Rattle.law_lemmas.proofs.Options.{ok_same}

abbrev pub serving : Book → List Filing → List Request → Script → ServeCase
serving book later requests script = record { book = book; later = later; requests = requests; script = script }

abbrev pub after_asks : Case → Book → List Filing → List Request → Stage ServeCase
after_asks case book later requests = script_in (length later) (length requests) case.script >>= (λ script. done (serving book later requests script))

abbrev pub after_later : Option ℕ → Case → Book → List Filing → Stage ServeCase
after_later best case book later = each_of (asked_in best book) case.requests >>= after_asks case book later

abbrev pub after_filed : Option ℕ → Case → Book → Stage ServeCase
after_filed best case book = each_of filing_in case.later >>= after_later best case book

abbrev pub after_opened : Option ℕ → Case → Book → Stage ServeCase
after_opened best case opening = filed_version opening case.filings None >>= after_filed best case

abbrev pub after_form : Option ℕ → Case → Stage ServeCase
after_form best case = opening_of case.places case.flights case.seats >>= after_opened best case

-- the stages after the filings
abbrev pub asks_of : List Filing → List Request → Script → Asks
asks_of later requests script = record { later = later; requests = requests; script = script }

abbrev pub serving_asks : FiledCase → Asks → ServeCase
serving_asks filed asks = serving filed.book asks.later asks.requests asks.script

module _ (best : Option ℕ) (filed : FiledCase) where
  abbrev with_asks : List Filing → List Request → Stage Asks
  with_asks later requests = script_in (length later) (length requests) filed.script >>= (λ script. done (asks_of later requests script))

  abbrev with_later : List Filing → Stage Asks
  with_later later = each_of (asked_in best filed.book) filed.requests >>= with_asks later

  pub later_stops : (fault : LoadFault) → Reads {A = List Filing} (Err fault) (each_of filing_in filed.later) → Reads {A = Asks} (Err fault) (asks_in best filed)
  later_stops fault h = stops (each_of filing_in filed.later) with_later fault h

  module _ (later : List Filing) (read : each_of filing_in filed.later (Ok later)) where
    pub asks_stop : (fault : LoadFault) → Reads {A = List Request} (Err fault) (each_of (asked_in best filed.book) filed.requests) → Reads {A = Asks} (Err fault) (asks_in best filed)
    asks_stop fault h =
        goes_on (each_of filing_in filed.later) with_later later (Err fault) read (stops (each_of (asked_in best filed.book) filed.requests) (with_asks later) fault h)

    module _ (requests : List Request) (asked : each_of (asked_in best filed.book) filed.requests (Ok requests)) where
      pub script_stops : (fault : LoadFault) → Reads {A = Script} (Err fault) (script_in (length later) (length requests) filed.script) → Reads {A = Asks} (Err fault) (asks_in best filed)
      script_stops fault h =
          goes_on (each_of filing_in filed.later) with_later later (Err fault) read
          (goes_on (each_of (asked_in best filed.book) filed.requests) (with_asks later) requests (Err fault) asked
          (stops (script_in (length later) (length requests) filed.script) (λ script. done (asks_of later requests script)) fault h))

      -- no stage refuses the case
      pub all_read : (script : Script) → script_in (length later) (length requests) filed.script (Ok script) → asks_in best filed (Ok (asks_of later requests script))
      all_read script spelled = (later, read, (requests, asked, (script, spelled, refl)))

  abbrev pub by_asks : Stage ServeCase
  by_asks = asks_in best filed >>= (λ asks. done (serving_asks filed asks))

  abbrev by_lines : Stage ServeCase
  by_lines = each_of filing_in filed.later >>= (λ later. each_of (asked_in best filed.book) filed.requests >>= (λ requests.
      script_in (length later) (length requests) filed.script >>= (λ script. done (serving filed.book later requests script))))

  asks_parted : (r : Result ServeCase LoadFault) → Reads r by_asks → Reads r by_lines
  asks_parted (Ok case) (asks, (later, read, (requests, asked, (script, spelled, e))), same) =
      (later, read, (requests, asked, (script, spelled, same ∙ ap (λ (x : Asks). Ok (serving_asks filed x)) (ok_same asks (asks_of later requests script) e))))
  asks_parted (Err (Refused refusal)) (inl (inl p)) = inl p
  asks_parted (Err (Refused refusal)) (inl (inr (later, read, inl p))) = inr (later, read, inl p)
  asks_parted (Err (Refused refusal)) (inl (inr (later, read, inr (requests, asked, inl p)))) = inr (later, read, inr (requests, asked, inl p))
  asks_parted (Err (Refused refusal)) (inl (inr (later, read, inr (requests, asked, inr (script, spelled, e))))) = absurd (cc)
  asks_parted (Err (Refused refusal)) (inr (asks, read, e)) = absurd (cc)
  asks_parted (Err Mem) p = tt

-- the whole, by what the filings leave
module _ (best : Option ℕ) (bytes : List ℕ) where
  pub filed_stops : (fault : LoadFault) → Reads {A = FiledCase} (Err fault) (filed_case Serve None bytes) → Reads {A = ServeCase} (Err fault) (serve_case best bytes)
  filed_stops fault h = parted Serve None bytes (by_lines best) (Err fault) (stops (filed_case Serve None bytes) (by_lines best) fault h)

  module _ (filed : FiledCase) (is : filed_case Serve None bytes (Ok filed)) where
    on_filed : (r : Result ServeCase LoadFault) → Reads r (by_asks best filed) → Reads r (serve_case best bytes)
    on_filed r h = parted Serve None bytes (by_lines best) r (goes_on (filed_case Serve None bytes) (by_lines best) filed r is (asks_parted best filed r h))

    pub asks_refuse : (fault : LoadFault) → Reads {A = Asks} (Err fault) (asks_in best filed) → Reads {A = ServeCase} (Err fault) (serve_case best bytes)
    asks_refuse fault h = on_filed (Err fault) (stops (asks_in best filed) (λ asks. done (serving_asks filed asks)) fault h)

    pub serves : (asks : Asks) → asks_in best filed (Ok asks) → serve_case best bytes (Ok (serving_asks filed asks))
    serves asks h = on_filed (Ok (serving_asks filed asks)) (asks, h, refl)
