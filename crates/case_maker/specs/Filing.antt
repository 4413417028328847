-- The one filing of a made case: four rules, and fares for the way out, for the way back and to and from each hub.
use Rattle.std.specs.Prelude.{ℕ, ◌+◌, ◌*◌, List, [], ◌∷◌, slice_index, codes, decimal}
use Rattle.std.specs.List.{concat, join_with_byte}
use Rattle.case_maker.specs.declared.fares.MadeFare.{MadeFare}
use Rattle.case_maker.specs.Drawing.{Making, said, drawing, ◌before◌, each_below}
use Rattle.case_maker.specs.Names.{home, away, hub, numbered_basis}

-- early in the week and by day, two weeks in advance, with a stay of three days and a Sunday
abbrev pub weekend_rule : List ℕ
weekend_rule = codes "{\"put_rule\":{\"carrier\":\"MX\",\"cat2\":{\"days\":[1,2,3],\"from\":\"05:00\",\"to\":\"22:00\"},\"cat5\":14,\"cat6\":{\"days\":3,\"sunday\":true},\"rule\":1}}"

-- for half a year, with a stay of thirty days at most and one transfer
abbrev pub season_rule : List ℕ
season_rule = codes "{\"put_rule\":{\"carrier\":\"MX\",\"cat3\":[[\"2031-01-01\",\"2031-06-30\"]],\"cat7\":30,\"cat9\":{\"max\":1,\"online\":true},\"rule\":2}}"

-- for trips there and back on fares of this rule, without stopovers and not on the last flights of five hubs
abbrev pub return_rule : List ℕ
return_rule = codes "{\"put_rule\":{\"carrier\":\"MX\",\"cat10\":{\"end_on_end\":\"free\",\"kinds\":[\"round_trip\",\"open_jaw\"],\"partners\":\"same_rule\"},\"cat4\":{\"allow\":false,\"flights\":[[\"MX\",4000,4004]]},\"cat8\":{\"charge\":0,\"max\":0},\"rule\":3}}"

-- for travel in March 2031, with every fare of the ticket by one carrier
abbrev pub march_rule : List ℕ
march_rule = codes "{\"put_rule\":{\"carrier\":\"MX\",\"cat10\":{\"end_on_end\":\"same_carrier\",\"kinds\":[\"one_way\",\"round_trip\"],\"partners\":\"any\"},\"cat14\":{\"by\":\"2031-03-31\",\"ranges\":[[\"2031-03-01\",\"2031-03-31\"]]},\"rule\":4}}"

abbrev pub rules : Making
rules =
    said (join_with_byte 44 (weekend_rule ∷ season_rule ∷ return_rule ∷ march_rule ∷ []))

-- the action that puts a fare, after those before it
abbrev pub fare_action : MadeFare → List ℕ
fare_action fare =
    concat (codes ",{\"put_fare\":{\"amount\":" ∷ decimal fare.amount ∷ codes ",\"basis\":\"" ∷ fare.basis
    ∷ codes "\",\"carrier\":\"MX\",\"class\":\"" ∷ (fare.class ∷ []) ∷ codes "\",\"from\":\"" ∷ fare.from
    ∷ codes "\",\"kind\":\"" ∷ (fare.kind ∷ []) ∷ codes "\",\"rule\":" ∷ decimal fare.rule
    ∷ codes ",\"to\":\"" ∷ fare.to ∷ codes "\"}}" ∷ [])

-- a fare for the whole way out, of a drawn class, kind, amount and rule
abbrev pub way_fare : ℕ → Making
way_fare j =
    drawing 3 (λ class. drawing 3 (λ kind. drawing 20000 (λ amount. drawing 5 (λ rule.
    said (fare_action (record {
      from = home;
      to = away;
      basis = numbered_basis j;
      class = slice_index (codes "YMQ") class;
      kind = slice_index (codes "ORS") kind;
      amount = 10000 + 2 * amount;
      rule = rule;
    }))))))

-- a fare of kind O that no rule restricts
abbrev pub free_fare : List ℕ → List ℕ → List ℕ → ℕ → Making
free_fare from to basis amount =
    said (fare_action (record { from = from; to = to; basis = basis; class = 89; kind = 79; amount = amount; rule = 0 }))

-- the fare between a hub and one end of the way out, of a drawn amount
abbrev pub short_fare : List ℕ → List ℕ → Making
short_fare from to = drawing 4000 (λ amount. free_fare from to (codes "V000") (4000 + 2 * amount))

abbrev pub hub_fares : ℕ → Making
hub_fares i = short_fare home (hub i) before short_fare (hub i) away

abbrev pub filing : ℕ → Making
filing size =
    said (codes "#filings\n{\"actions\":[") before rules
    before each_below (2 * size) way_fare
    before free_fare away home (codes "Z000") 30000
    before each_below size hub_fares
    before said (codes "]}\n")
