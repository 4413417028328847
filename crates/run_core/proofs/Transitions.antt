-- What an event makes of a world, from what its call found. For the calls of `World`.
use Rattle.std.proofs.Common.{◌≡◌, ◌∙◌, ℕ, List, [], ◌∷◌, ◌++◌, set, None, ap, subst, sym, refl, inl, inr, Any}
use Rattle.fare_component.specs.Keys.{Asked}
use Rattle.fare_law.specs.declared.filings.Filing.{Filing}
use Rattle.fare_law.specs.declared.requests.Request.{Request}
use Rattle.fare_law.specs.Book.{Book}
use Rattle.fare_law.specs.Requests.{judged, known_places}
use Rattle.run_core.specs.Records.{Records}
use Rattle.fare_versions.specs.Filings.{IsFaultless, book_with}
use Rattle.run_core.specs.Worlds.{AnswersFrom, Fetches, Files, KeepsOffers, Sees, WorldView}
use Rattle.run_core.specs.declared.events.Recorded.{Recorded}
use Rattle.run_core.proofs.ListEnds.{any_of_in, in_of_any}

pub filed_by : (w : WorldView) (f : Filing) (b : Book) (v : WorldView) → b ≡ w.book → IsFaultless b f → v ≡ record w { book = book_with b f } → Files w f v
filed_by w f b v same right next = record {
  right = subst (λ (x : Book). IsFaultless x f) same right;
  next = next ∙ ap (λ (x : Book). record w { book = book_with x f }) same;
}

pub fetched : (w : WorldView) (desk : ℕ) (b : Book) → Sees w desk b → Fetches w desk w
fetched w desk b seen = record { version = b; seen = seen; next = refl }

pub kept_before : (w : WorldView) (desk : ℕ) (a : Asked) (b : Book) (v : WorldView) → Sees w desk b → Any (λ (x : Asked). x ≡ a) w.kept → v ≡ w → KeepsOffers w desk a v
kept_before w desk a b v seen there same = record { version = b; seen = seen; kept = w.kept; added = inl (in_of_any a w.kept there, refl); next = same }

pub kept_anew : (w : WorldView) (desk : ℕ) (a : Asked) (b : Book) (v : WorldView) → Sees w desk b → (Any (λ (x : Asked). x ≡ a) w.kept → ⊥) → v ≡ record w { kept = w.kept ++ a ∷ [] } → KeepsOffers w desk a v
kept_anew w desk a b v seen out next = record { version = b; seen = seen; kept = w.kept ++ a ∷ []; added = inr (λ i. out (any_of_in a w.kept i), refl); next = next }

pub answered_by : (w : WorldView) (desk : ℕ) (q : Request) (budget : ℕ) (b : Book) (r : Recorded) (v : WorldView) → Sees w desk b → judged (known_places b) q ≡ None → Records b desk q budget r
    → v ≡ record w { desks = set w.desks desk None; answers = w.answers ++ r ∷ [] } → AnswersFrom w desk q budget v
answered_by w desk q budget b r v seen right records next = record { version = b; seen = seen; right = right; answer = r; records = records; next = next }
