-- A made case is read: its text spells a case with the sections of a made one.
use Rattle.std.proofs.Common.{◌≡◌, ◌≤◌, ◌<◌, ◌∙◌, ℕ, List, [], ◌∷◌, length, codes, append-nil, None, refl, sym, ap, subst, arith}
use Rattle.std.specs.Str.Lines.{lines}
use Rattle.case_maker.specs.MadeCase.{made_case}
use Rattle.case_text.specs.Entries.{begins_header}
use Rattle.case_text.specs.Rows.{flight_row, place_row, seat_row}
use Rattle.fare_law.specs.Lists.{Each, Matched}
use Rattle.case_maker.specs.Filings.{IsFilingLine}
use Rattle.case_maker.specs.Lines.{IsFlightLine, IsPlaceLine, IsSeatLine, Leg, hub_legs, legs, lined, place_names}
use Rattle.case_maker.specs.Made.{AreMadeLines, SpellsMade, whole_lines}
use Rattle.case_maker.specs.Sections.{IsFlightOf, IsPlaceOf, IsSeatsOf, mx}
use Rattle.case_maker.specs.Names.{hub}
use Rattle.case_maker.proofs.FilingBytes.{IsLineByte, line_bytes}
use Rattle.case_maker.proofs.LegsNamed.{legs_named, many_below, places_named}
use Rattle.case_maker.proofs.RowsRead.{IsLeg, IsName, IsRowLine, flight_fits, flight_others, flight_read, place_fits, place_named, place_read, row_line, row_of, seat_fits, seat_others, seat_read, seats_list}
use Rattle.search_check.proofs.TextLines.{lines_read}
use Rattle.law_lemmas.proofs.Pairs.{matched_long}
use Rattle.law_lemmas.proofs.EachOne.{each_weaker}
use Rattle.case_maker.proofs.WholeCase.{IsTextByte, ReadLines, ReadsAs, all_read, asked_line, filing_line, flight_rows, is_spelled, its_filings, its_flights, its_places, its_requests, its_seats, place_rows, seat_rows, whole}
use Rattle.case_maker.proofs.WholeText.{text_of_lines}

matched_as : {X : Type 0} (Good : X → Type 0) (Is As : X → List ℕ → Type 0) → ((x : X) (line : List ℕ) → Good x → Is x line → As x line) → (xs : List X) (ls : List (List ℕ)) → Each Good xs → Matched Is xs ls → Matched As xs ls
matched_as Good Is As to [] [] g m = tt
matched_as Good Is As to [] (l ∷ ls) g m = absurd m
matched_as Good Is As to (x ∷ xs) [] g m = absurd m
matched_as Good Is As to (x ∷ xs) (l ∷ ls) g m = (to x l g.0 m.0, matched_as Good Is As to xs ls g.1 m.1)

place_reads : (name line : List ℕ) → IsName name → IsPlaceLine name line → ReadsAs place_row IsPlaceOf name line
place_reads name line h e = record {
  is = subst IsRowLine (sym e) (row_line name (codes "45" ∷ []) (place_fits name h) (omega (arith, h.three)));
  gives = λ n. (record { line = n; place = place_named name; connect = 45 }, place_read name line n h e, refl);
}

flight_reads : (leg : Leg) (line : List ℕ) → IsLeg leg → IsFlightLine leg line → ReadsAs flight_row IsFlightOf leg line
flight_reads leg line h is =
    let late = is.same_day in
    let early : is.departs < 1440 = (let a = is.in_time in omega (arith, a, late)) in
    record {
      is = subst IsRowLine (sym is.line_is) (row_line (codes "MX") (flight_others leg is.departs is.arrives) (flight_fits leg is.departs is.arrives h early late) (omega arith));
      gives = λ n. (
        row_of leg h.day is.departs is.arrives n,
        flight_read leg line n h is,
        record { carrier = refl; number = refl; from = refl; to = refl; first = h.day_is; last = refl; shift = refl; dep_offset = refl; arr_offset = refl; in_time = is.in_time },
      );
    }

seat_reads : (leg : Leg) (line : List ℕ) → IsLeg leg → IsSeatLine leg line → ReadsAs seat_row IsSeatsOf leg line
seat_reads leg line h is = record {
  is = subst IsRowLine (sym is.line_is) (row_line (codes "MX") (seat_others leg is.in_m is.in_q) (seat_fits leg is.in_m is.in_q h is.few_m is.few_q) (omega arith));
  gives = λ n. (record { line = n; carrier = mx; number = leg.number; from = place_named leg.from; day = None; seats = seats_list is.in_m is.in_q }, seat_read leg line n h is, record { carrier = refl; number = refl; from = refl; day = refl });
}

module _ (size : ℕ) (small : size ≤ 100) (ls : List (List ℕ)) (m : AreMadeLines size ls) where
  abbrev read_lines : ReadLines size
  read_lines = record {
    places = m.places;
    flights = m.flights;
    seats = m.seats;
    filing = m.filing;
    place_lines = matched_as IsName IsPlaceLine (ReadsAs place_row IsPlaceOf) place_reads (place_names size) m.places (places_named size small) m.places_are;
    flight_lines = matched_as IsLeg IsFlightLine (ReadsAs flight_row IsFlightOf) flight_reads (legs size) m.flights (legs_named size small) m.flights_are;
    seat_lines = matched_as IsLeg IsSeatLine (ReadsAs seat_row IsSeatsOf) seat_reads (legs size) m.seats (legs_named size small) m.seats_are;
    few_places = omega (arith, small, matched_long IsPlaceLine (place_names size) m.places m.places_are, many_below (λ i. hub i ∷ []) 1 size (λ i. refl));
    few_flights = omega (arith, small, matched_long IsFlightLine (legs size) m.flights m.flights_are, many_below hub_legs 4 size (λ i. refl));
    few_seats = omega (arith, small, matched_long IsSeatLine (legs size) m.seats m.seats_are, many_below hub_legs 4 size (λ i. refl));
    filing_bytes = each_weaker IsLineByte IsTextByte (λ b h. h.0) m.filing (line_bytes size m.filing m.filing_is);
    filing_some = omega (arith, ap length m.filing_is.line_is);
    filing_plain = ap begins_header m.filing_is.line_is;
  }

pub made_is_spelled : (seed size : ℕ) → size ≤ 100 → SpellsMade size (made_case seed size)
made_is_spelled seed size small =
    let t = text_of_lines size small seed in
    rows_spelled (read_lines size small t.0 t.1) (made_case seed size) t.1.filing_is (t.2 ∙ ap lined t.1.lines_are)
  where
    -- lines that are read as rows are a case with those rows
    rows_spelled : (r : ReadLines size) (text : List ℕ) → IsFilingLine size r.filing → text ≡ lined (whole_lines r.places r.flights r.seats r.filing) → SpellsMade size text
    rows_spelled r text is e =
        let all = whole_lines r.places r.flights r.seats r.filing in
        let read : lines text ≡ all = ap lines (e ∙ sym (append-nil (lined all))) ∙ lines_read all [] (all_read size r) ∙ append-nil all in
        record {
          case = whole size r;
          spelled = is_spelled size r text read;
          has = record {
            places = subst (Matched IsPlaceOf (place_names size)) (sym (its_places size r)) (place_rows size r).are;
            flights = subst (Matched IsFlightOf (legs size)) (sym (its_flights size r)) (flight_rows size r).are;
            seats = subst (Matched IsSeatsOf (legs size)) (sym (its_seats size r)) (seat_rows size r).are;
            filing = filing_line size r;
            filings = its_filings size r;
            filing_is = is;
            request = asked_line size r;
            requests = its_requests size r;
            request_is = refl;
          };
        }
