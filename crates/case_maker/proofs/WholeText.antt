-- The text of a made case is that of its lines.
use Rattle.std.proofs.Common.{◌≡◌, ◌≤◌, ◌∙◌, ℕ, List, [], ◌∷◌, ◌++◌, codes, append_assoc, refl, sym, ap, ap₂}
use Rattle.std.proofs.lemmas.Grind.{flat_map-append}
use Rattle.case_maker.specs.Drawing.{◌before◌}
use Rattle.case_maker.specs.MadeCase.{made_case, request, sections}
use Rattle.case_maker.specs.Filing.{filing}
use Rattle.case_maker.specs.Tables.{flights, places, seats}
use Rattle.fare_law.specs.Lists.{Matched}
use Rattle.case_maker.specs.Filings.{IsFilingLine}
use Rattle.case_maker.specs.Lines.{IsFlightLine, IsPlaceLine, IsSeatLine, legs, lined, place_names}
use Rattle.case_maker.specs.Made.{AreMadeLines}
use Rattle.case_maker.specs.Sections.{request_line}
use Rattle.case_maker.proofs.Drawn.{Always, lined_joined, then_always}
use Rattle.case_maker.proofs.FaresMade.{IsFiled, filing_section}
use Rattle.case_maker.proofs.TableLines.{IsSection, flights_section, places_section, seats_section}

-- a text of lines, of which this holds
record Ends (P : List (List ℕ) → Type 0) (text : List ℕ) : Type 0 where
  rest : List (List ℕ)
  holds : P rest
  text_is : text ≡ lined rest

-- a header, a line for each of these, and then lines of which this holds
record Headed {X : Type 0} (header : List ℕ) (Is : X → List ℕ → Type 0) (xs : List X) (P : List (List ℕ) → Type 0) (ls : List (List ℕ)) : Type 0 where
  body : List (List ℕ)
  rest : List (List ℕ)
  each : Matched Is xs body
  more : P rest
  lines_are : ls ≡ header ∷ (body ++ rest)

headed_on : {X : Type 0} (header : List ℕ) (Is : X → List ℕ → Type 0) (xs : List X) (P : List (List ℕ) → Type 0) (s t : List ℕ) → IsSection header Is xs s → Ends P t → Ends (Headed header Is xs P) (s ++ t)
headed_on header Is xs P s t h k =
    let body = h.has.lines in record {
      rest = header ∷ (body ++ k.rest);
      holds = record { body = body; rest = k.rest; each = h.has.each; more = k.holds; lines_are = refl };
      text_is =
          ap₂ (λ a b. a ++ b) (h.text_is ∙ ap (λ u. (header ++ 10 ∷ []) ++ u) h.has.text_is) k.text_is
          ∙ append_assoc (header ++ 10 ∷ []) (lined body) (lined k.rest)
          ∙ ap (λ u. (header ++ 10 ∷ []) ++ u) (sym (flat_map-append (λ (line : List ℕ). line ++ 10 ∷ []) body k.rest));
    }

-- the lines of the filing and of the request
record AreLast (size : ℕ) (ls : List (List ℕ)) : Type 0 where
  line : List ℕ
  is : IsFilingLine size line
  lines_are : ls ≡ codes "#filings" ∷ line ∷ codes "#request" ∷ request_line ∷ codes "#end" ∷ []

last_on : (size : ℕ) (s t : List ℕ) → IsFiled size s → t ≡ lined (codes "#request" ∷ request_line ∷ codes "#end" ∷ []) → Ends (AreLast size) (s ++ t)
last_on size s t h e = record {
  rest = codes "#filings" ∷ h.line ∷ codes "#request" ∷ request_line ∷ codes "#end" ∷ [];
  holds = record { line = h.line; is = h.is; lines_are = refl };
  text_is = lined_joined (codes "#filings" ∷ h.line ∷ []) (codes "#request" ∷ request_line ∷ codes "#end" ∷ []) s t h.text_is e;
}

module _ (size : ℕ) (small : size ≤ 100) where
  abbrev OfSeats : List (List ℕ) → Type 0
  OfSeats = Headed (codes "#seats") IsSeatLine (legs size) (AreLast size)

  abbrev OfFlights : List (List ℕ) → Type 0
  OfFlights = Headed (codes "#flights") IsFlightLine (legs size) OfSeats

  abbrev OfPlaces : List (List ℕ) → Type 0
  OfPlaces = Headed (codes "#places") IsPlaceLine (place_names size) OfFlights

  asked : Always (λ t. t ≡ lined (codes "#request" ∷ request_line ∷ codes "#end" ∷ [])) request
  asked x = refl

  filed : Always (Ends (AreLast size)) (filing size before request)
  filed = then_always (IsFiled size) (λ t. t ≡ lined (codes "#request" ∷ request_line ∷ codes "#end" ∷ [])) (Ends (AreLast size)) (filing size) request (last_on size) (filing_section size small) asked

  seated : Always (Ends OfSeats) (seats size before filing size before request)
  seated = then_always (IsSection (codes "#seats") IsSeatLine (legs size)) (Ends (AreLast size)) (Ends OfSeats) (seats size) (filing size before request) (headed_on (codes "#seats") IsSeatLine (legs size) (AreLast size)) (seats_section size) filed

  flown : Always (Ends OfFlights) (flights size before seats size before filing size before request)
  flown = then_always (IsSection (codes "#flights") IsFlightLine (legs size)) (Ends OfSeats) (Ends OfFlights) (flights size) (seats size before filing size before request) (headed_on (codes "#flights") IsFlightLine (legs size) OfSeats) (flights_section size) seated

  placed : Always (Ends OfPlaces) (sections size)
  placed = then_always (IsSection (codes "#places") IsPlaceLine (place_names size)) (Ends OfFlights) (Ends OfPlaces) (places size) (flights size before seats size before filing size before request) (headed_on (codes "#places") IsPlaceLine (place_names size) OfFlights) (places_section size) flown

  all_lines : (ls : List (List ℕ)) → OfPlaces ls → AreMadeLines size ls
  all_lines ls p =
      let f = p.more in let s = f.more in let l = s.more in record {
        places = p.body;
        flights = f.body;
        seats = s.body;
        filing = l.line;
        places_are = p.each;
        flights_are = f.each;
        seats_are = s.each;
        filing_is = l.is;
        lines_are =
            p.lines_are ∙ ap (λ xs. codes "#places" ∷ (p.body ++ xs)) (f.lines_are
            ∙ ap (λ xs. codes "#flights" ∷ (f.body ++ xs)) (s.lines_are ∙ ap (λ xs. codes "#seats" ∷ (s.body ++ xs)) l.lines_are));
      }

  -- the text of the lines of a made case
  pub text_of_lines : (seed : ℕ) → (ls : List (List ℕ)) × AreMadeLines size ls × (made_case seed size ≡ lined ls)
  unfolding made_case
  text_of_lines seed = let h = placed seed in (h.rest, all_lines h.rest h.holds, h.text_is)
