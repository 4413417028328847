-- What holds whatever came of a search but want of memory, and what is settled with a pass: for `Desk::searched`.
use Rattle.std.proofs.Common.{◌≡◌, Result, Ok, Err, IfErr, OnOk, subst}
use Rattle.fare_component.specs.Keys.{asked}
use Rattle.fare_law.specs.Book.{Book}
use Rattle.fare_law.specs.declared.market.OfferKey.{OfferKey}
use Rattle.fare_law.specs.declared.requests.Request.{Request}
use Rattle.node_publish.specs.Homes.{Known}
use Rattle.residual_keys.specs.AskedKeys.{Keys}
use Rattle.search_core.specs.declared.outcome.SearchFault.{SearchFault}
use Rattle.search_core.specs.declared.outcome.SearchFault.TheVariants.{BadRequest, TooLarge, Mem}
use Rattle.search_desk.specs.Desks.{AllPublished, IsSettled, UnlessMem}

pub on_ok : {T E : Type 0} (r : Result T E) (P : Type 0) → P → OnOk r P
on_ok (Ok x) P h = h
on_ok (Err fault) P h = tt

pub unless_mem : {T : Type 0} (r : Result T SearchFault) (P : Type 0) → P → IfErr r (λ fault. UnlessMem fault P)
unless_mem (Ok x) P h = tt
unless_mem (Err (BadRequest why)) P h = h
unless_mem (Err TooLarge) P h = h
unless_mem (Err Mem) P h = tt

-- what is settled of the book that was searched is settled of the book that the watch saw
pub all_published : {T : Type 0} (r : Result T SearchFault) (p : Known) (searched seen : Book) (q : Request) → searched ≡ seen
    → OnOk r ((key : OfferKey) → Keys searched q key → IsSettled p (asked key)) → OnOk r (AllPublished p seen q)
all_published (Ok x) p searched seen q same h = subst (λ (b : Book). AllPublished p b q) same (record { each = h })
all_published (Err fault) p searched seen q same h = tt
