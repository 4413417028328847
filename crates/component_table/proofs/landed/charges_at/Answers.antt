use Rattle.std.proofs.Common.{◌≡◌, length, vec_len, arith}
use Rattle.component_table.proofs.SoughtFacts.{flights_own, landing_at, said_asked, said_at, said_many, says_free}
use Rattle.law_lemmas.proofs.Lists.{got_within}
use Rattle.component_table.proofs.landed.charges_at.Goals as goal

pub returns-then-sought-clause-says : goal.returns-then-sought-clause-says
returns-then-sought-clause-says c = λ l got path stands fs n.
    let o = c.args.origin.now in
    let k = c.args.class.now in
    let r = c.requires.sought.landings in
    let own = c.requires.sought.own in
    let h = landing_at o r.0 k.paths.now k.landings.now l c.args.at path r.1 got stands in
    says_free c.args.sought.now.rule.now fs (own.free c.if-sought.true) (flights_own o c.requires.origin r.0 path l h c.args.sought.now.rule.now.carrier own.carrier fs n)

pub get-requires : goal.get-requires
get-requires c =
    let s = c.requires.sought in
    let told = c.requires.said c.if-sought.false in
    let many = said_many c.args.origin.now c.args.class.now c.args.sought.now s.rules s.stands c.args.charges.now told.0 (told.1 s.rules s.stands) in
    let lt = got_within c.args.class.now.landings.now c.args.at c.requires.place.0 c.requires.place.1 in
    let len : vec_len c.args.charges.now.of ≡ length c.args.charges.now.of.items = omega arith in
    omega (arith, many, lt, len)

pub put-requires : goal.put-requires
put-requires c =
    let s = c.requires.sought in
    let told = c.requires.said c.if-sought.false in
    let many = said_many c.args.origin.now c.args.class.now c.args.sought.now s.rules s.stands c.args.charges.now told.0 (told.1 s.rules s.stands) in
    let lt = got_within c.args.class.now.landings.now c.args.at c.requires.place.0 c.requires.place.1 in
    let len : vec_len c.args.charges.now.of ≡ length c.args.charges.now.of.items = omega arith in
    omega (arith, many, lt, len)

pub returns-in-Permitted-clause-says : goal.returns-in-Permitted-clause-says
returns-in-Permitted-clause-says c = λ l got.
    let s = c.requires.sought in
    let told = c.requires.said c.if-sought.false in
    said_at c.args.origin.now c.args.class.now c.args.sought.now s.rules s.stands c.args.charges.now told.0 (told.1 s.rules s.stands) c.args.at _ l c.in-Permitted.ensures got

pub returns-in-Refused-clause-says : goal.returns-in-Refused-clause-says
returns-in-Refused-clause-says c = λ l got.
    let s = c.requires.sought in
    let told = c.requires.said c.if-sought.false in
    said_at c.args.origin.now c.args.class.now c.args.sought.now s.rules s.stands c.args.charges.now told.0 (told.1 s.rules s.stands) c.args.at _ l c.in-Refused.ensures got

pub returns-in-NotAsked-clause-said : goal.returns-in-NotAsked-clause-said
returns-in-NotAsked-clause-said c = said_asked c.args.origin.now c.args.class.now c.args.sought.now c.args.charges.now c.put.new.self c.args.at c.requires.place.0 c.asked_charges-charged.result c.requires.said c.put.ensures.rule c.put.ensures.puts c.requires.place.1 (c.asked_charges-charged.ensures c.requires.place.0 c.requires.place.1)
