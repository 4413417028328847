-- Replies stay right when more was seen.
use Rattle.std.proofs.Common.{◌≡◌, ℕ, ◌≤◌, List, [], ◌∷◌, ◌++◌, length, take, refl, ap, sym, subst, ◌∙◌, arith, length-append}
use Rattle.std.proofs.lemmas.List.{append-nil, take-append-le, take_all}
use Rattle.fare_law.specs.Lists.{IsPrefix}
use Rattle.fare_law.specs.declared.filings.Filing.{Filing}
use Rattle.serve_desks.specs.Served.{AllName, Names}
use Rattle.serve_desks.specs.Terms.{IsRight, Rightness, Terms}
use Rattle.serve_desks.specs.declared.log.Entry.{Entry}

-- a beginning that is as long as the whole
no_rest : (seen rest : List Filing) → length (seen ++ rest) ≤ length seen → rest ≡ []
no_rest seen [] h = refl
no_rest seen (f ∷ fs) h = absurd (omega (arith, length-append seen (f ∷ fs), h))

extends_whole : (seen all : List Filing) → IsPrefix seen all → length all ≤ length seen → seen ≡ all
extends_whole seen all p h =
    let none = no_rest seen p.0 (subst (λ (l : List Filing). length l ≤ length seen) p.1 h) in
    sym (p.1 ∙ (ap (λ (l : List Filing). seen ++ l) none ∙ append-nil seen))

module _ (right : Rightness) (terms : Terms) where
  names_more : (seen more : List Filing) (e : Entry) → IsPrefix seen more → Names right terms seen e → Names right terms more e
  names_more seen more e x h =
      let le : e.reply.number ≤ length more = omega (arith, ap length x.1, length-append seen x.0, h.0) in
      let same : take e.reply.number more ≡ take e.reply.number seen = ap (take e.reply.number) x.1 ∙ take-append-le e.reply.number seen x.0 h.0 in
      (le, subst (λ l. IsRight right terms e.request l e.reply.body) (sym same) h.1)

  pub all_more : (seen more : List Filing) (es : List Entry) → IsPrefix seen more → AllName right terms seen es → AllName right terms more es
  all_more seen more [] x h = tt
  all_more seen more (e ∷ es) x h = (names_more seen more e x h.0, all_more seen more es x h.1)

  pub names_now : (seen : List Filing) (e : Entry) → e.reply.number ≡ length seen → IsRight right terms e.request seen e.reply.body → Names right terms seen e
  names_now seen e n h = (omega (arith, n), subst (λ l. IsRight right terms e.request l e.reply.body) (sym (take_all e.reply.number seen (omega (arith, n)))) h)

  -- where the teller has the clerk's number, all that it had seen is a beginning of the clerk's history
  pub all_settled : (old new all : List Filing) (es : List Entry) (n last : ℕ) → IsPrefix old new → n ≡ length new → IsPrefix all new → last ≡ length all → n ≡ last → AllName right terms old es → AllName right terms all es
  all_settled old new all es n last x is y end same h =
      let whole : all ≡ new = extends_whole all new y (omega (arith, is, end, same)) in subst (λ l. AllName right terms l es) (sym whole) (all_more old new es x h)
