-- What a teller hands back.
use Rattle.std.specs.Prelude.{◌≡◌, ℕ, ◌≤◌, ◌<◌, List, length, slice_index_or, take, Result, IfOk}
use Rattle.fare_law.specs.Lists.{Each}
use Rattle.fare_law.specs.declared.filings.Filing.{Filing}
use Rattle.fare_versions.specs.Histories.{House}
use Rattle.serve_desks.specs.declared.log.Entry.{Entry}
use Rattle.serve_desks.specs.declared.serving.Served.{Served}
use Rattle.serve_desks.specs.Terms.{IsRight, Rightness, Terms}

-- the reply is right for the first `number` of these filings
abbrev pub Names : Rightness → Terms → List Filing → Entry → Type 0
Names right terms entries e = (e.reply.number ≤ length entries) × IsRight right terms e.request (take e.reply.number entries) e.reply.body

-- each of the replies is
abbrev pub AllName : Rightness → Terms → List Filing → List Entry → Type 0
AllName right terms entries es = Each (Names right terms entries) es

-- it follows the history, is asked the same, wanted no memory, and its replies are right for beginnings of what it has seen
pub record IsServed {T : Type 0} (house : T → House) (terms : T → Terms) (seen : T → List Filing) (wants : T → ℕ) (right : Rightness) (name : House) (all : Terms) (s : Served T) : Type 0 where
  pub same_house : house s.teller ≡ name
  pub same_terms : terms s.teller ≡ all
  pub ample : wants s.teller ≡ 0
  pub replies_right : AllName right all (seen s.teller) s.replies.items

-- each that came to its end is
pub record AllServed {T E : Type 0} (house : T → House) (terms : T → Terms) (seen : T → List Filing) (wants : T → ℕ) (right : Rightness) (name : House) (all : Terms) (served : List (Result (Served T) E)) : Type 0 where
  pub each : (i : ℕ) (d : Result (Served T) E) → i < length served → IfOk (slice_index_or served i d) (IsServed house terms seen wants right name all)
